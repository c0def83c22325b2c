use Rattle.std.proofs.Common.{List, ℕ, sym, ap, ◌∙◌}
use Rattle.std.proofs.lemmas.Result.{on_ok_weaker}
use Rattle.std.specs.FinSet.{FinSet, from_list, items, union}
use Rattle.std.specs.Ordering.{nat_cmp}
use Rattle.streams.specs.Flying.{flying_in}
use Rattle.spec_flights.specs.Delivered.{ends_among, with_all_ends}
use Rattle.spec_flights.specs.Scoreboard.{Scoreboard}
use Rattle.spec_flights.specs.declared.stretch.Stretch.{Stretch}
use Rattle.flight_parts.proofs.SetLemmas.{read_back}
use Rattle.scoreboard.proofs.scoreboard.Scoreboard.note_ends.Goals as goal

pub returns : goal.returns
returns c =
    on_ok_weaker c.add_ends-4.result
    (λ is. ap (λ (s : FinSet nat_cmp). noted (items s))
    (is
    ∙ ap (λ (s : FinSet nat_cmp). and_of c.args.r.now.fourth c.self.inside.told s)
    (c.in_ok-add_ends-3.ensures
    ∙ ap (λ (s : FinSet nat_cmp). and_of c.args.r.now.third c.self.inside.told s)
    (c.in_ok-add_ends-2.ensures
    ∙ ap (λ (s : FinSet nat_cmp). and_of c.args.r.now.second c.self.inside.told s) c.in_ok-add_ends.ensures))
    ∙ (λ i. and_all (sym (read_back c.self.inside.told) i) (sym (read_back c.self.inside.ends) i)))
    ∙ ap (λ (b : Scoreboard). record b { ends = items (with_all_ends (from_list b.ends) c.args.r.now b) }) c.self.view_is)
    c.add_ends-4.ensures
  where
    noted : List ℕ → Scoreboard
    noted ends = record {
      known = c.self.inside.known;
      told = items c.self.inside.told;
      ends = ends;
      built = c.self.inside.built.items;
      lost = c.self.inside.lost;
      newest = c.self.inside.newest;
      given_up = c.self.inside.given_up;
      latest = c.self.inside.latest;
      least = c.self.inside.least;
    }

    and_of : Stretch → (told held : FinSet nat_cmp) → FinSet nat_cmp
    and_of s told held = union held (from_list (ends_among (flying_in c.self.inside.known told s.from s.upto)))

    and_all : (told held : FinSet nat_cmp) → FinSet nat_cmp
    and_all told held =
        and_of c.args.r.now.fourth told
        (and_of c.args.r.now.third told (and_of c.args.r.now.second told (and_of c.args.r.now.first told held)))
