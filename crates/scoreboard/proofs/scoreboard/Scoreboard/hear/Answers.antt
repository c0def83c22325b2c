use Rattle.std.proofs.Common.{List, ℕ, sym, ap, ◌∙◌}
use Rattle.std.specs.FinSet.{FinSet, from_list, items}
use Rattle.std.specs.Ordering.{nat_cmp}
use Rattle.std.specs.Prelude.{Option}
use Rattle.streams.specs.Pieces.{known_from}
use Rattle.streams.specs.declared.outstanding.Outstanding.{Outstanding}
use Rattle.spec_flights.specs.Delivered.{acked_left, heard_by, with_all_ends, with_reports}
use Rattle.spec_flights.specs.Scoreboard.{Scoreboard}
use Rattle.spec_flights.specs.declared.making.Latest.{Latest}
use Rattle.flight_parts.proofs.SetLemmas.{read_back}
use Rattle.scoreboard.proofs.scoreboard.Scoreboard.hear.Goals as goal

-- sets become lists and are read back twice: after the ends are noted, and before positions are forgotten
pub returns : goal.returns
returns c =
    (λ i. left (c.forget_below-3.ensures i) (items (c.forget_below.ensures i)) (items (c.forget_below-2.ensures i)))
    ∙ (ap (λ (told : FinSet nat_cmp). left (known_from ack c.self-2.inside.known) (acked_left told ack) (acked_left c.self-2.inside.ends ack))
    c.in_ok-add_reports.ensures
    ∙ ((λ i. left (known_from ack c.self-2.inside.known) (acked_left (with_reports (sym (read_back c.self-2.inside.told) i) c.args.r.now) ack)
    (acked_left (sym (read_back c.self-2.inside.ends) i) ack))
    ∙ (ap (λ (b : Scoreboard). heard_with b.latest b.least (from_list b.ends) b) (c.self-2.view_is ∙ c.in_ok-note_ends.ensures)
    ∙ (ap (λ (ends : FinSet nat_cmp). heard_with latest least ends viewed)
    (read_back (with_all_ends (from_list viewed.ends) c.args.r.now viewed))
    ∙ (ap (λ (b : Scoreboard). heard_with latest least (with_all_ends (from_list b.ends) c.args.r.now b) b) c.self.view_is
    ∙ (ap (λ (l : Option Latest). heard_with l least (with_all_ends (from_list c.args.self.now.ends) c.args.r.now c.args.self.now) c.args.self.now)
    c.latest_after-self-inside.ensures
    ∙ ap (λ (l : Option ℕ). heard_by c.args.moment c.args.acked.from ack c.args.r.now l c.args.self.now) c.least_after-least.ensures))))))
  where
    ack : ℕ
    ack = c.args.acked.upto

    latest : Option Latest
    latest = c.latest_after-self-inside.result

    least : Option ℕ
    least = c.least_after-least.result

    left : List (Option Outstanding) → (told ends : List ℕ) → Scoreboard
    left known told ends = record {
      known = known;
      told = told;
      ends = ends;
      built = c.self-2.inside.built.items;
      lost = c.self-2.inside.lost;
      newest = c.self-2.inside.newest;
      given_up = c.self-2.inside.given_up;
      latest = c.self-2.inside.latest;
      least = c.self-2.inside.least;
    }

    viewed : Scoreboard
    viewed = record {
      known = c.self.inside.known;
      told = items c.self.inside.told;
      ends = items c.self.inside.ends;
      built = c.self.inside.built.items;
      lost = c.self.inside.lost;
      newest = c.self.inside.newest;
      given_up = c.self.inside.given_up;
      latest = c.self.inside.latest;
      least = c.self.inside.least;
    }

    heard_with : Option Latest → (least : Option ℕ) → (ends : FinSet nat_cmp) → Scoreboard → Scoreboard
    heard_with latest least ends b = record b {
      known = known_from ack b.known;
      told = acked_left (with_reports (from_list b.told) c.args.r.now) ack;
      ends = acked_left ends ack;
      latest = latest;
      least = least;
    }
