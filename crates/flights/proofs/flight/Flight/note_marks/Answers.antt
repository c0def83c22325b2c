use Rattle.std.proofs.Common.{List, ℕ, sym, ap, ◌∙◌}
use Rattle.std.specs.FinSet.{FinSet, difference, from_list, items, union}
use Rattle.std.specs.Ordering.{nat_cmp}
use Rattle.streams.specs.Ranges.{span}
use Rattle.spec_flights.specs.Delivered.{without_reports}
use Rattle.spec_flights.specs.Flights.{Flight}
use Rattle.spec_flights.specs.Marks.{marks_after, taken_by}
use Rattle.spec_flights.specs.declared.stretch.Stretch.{Stretch}
use Rattle.flight_parts.proofs.SetLemmas.{read_back}
use Rattle.flights.proofs.flight.Flight.note_marks.Goals as goal

pub returns : goal.returns
returns c =
    ap (λ (s : FinSet nat_cmp). flight (items s))
    (c.forget_below.ensures
    ∙ ap (λ (s : FinSet nat_cmp). difference s (span 0 c.args.after.now.snd_una))
    (c.in_ok-add.ensures.ok
    ∙ ap (λ (s : FinSet nat_cmp). union s (span c.marked_by-marked.result.from c.marked_by-marked.result.upto))
    (c.in_ok-remove_reports.ensures
    ∙ ap (λ (s : FinSet nat_cmp). without_reports s c.args.r.now)
    (c.in_ok-remove.ensures.ok
    ∙ ap (λ (s : FinSet nat_cmp). difference s (span c.taken_by-taken.result.from c.taken_by-taken.result.upto)) (sym (read_back c.self.inside.marks))))))
    ∙ ap (λ (t : Stretch). flight (left t c.marked_by-marked.result)) c.taken_by-taken.ensures
    ∙ ap (λ (m : Stretch). flight (left (taken_by c.args.touched.now.event c.args.touched.now.before) m)) c.marked_by-marked.ensures
    ∙ ap
    (λ (f : Flight). record f
    { marks = marks_after c.args.change c.args.touched.now.event c.args.touched.now.before c.args.after.now c.args.r.now c.args.oldest f.marks })
    c.self.view_is
  where
    flight : List ℕ → Flight
    flight marks = record {
      sides = c.self.inside.sides;
      recovery = c.self.inside.recovery;
      marks = marks;
      board = c.self.inside.board;
      rescued = c.self.inside.rescued;
      probing = c.self.inside.probing;
      undoing = c.self.inside.undoing;
      clocks = c.self.inside.clocks;
      echoes = c.self.inside.echoes.entries;
      held = items c.self.inside.held;
    }

    left : (taken marked : Stretch) → List ℕ
    left taken marked =
        items
        (difference (union (without_reports (difference (from_list (items c.self.inside.marks)) (span taken.from taken.upto)) c.args.r.now)
        (span marked.from marked.upto))
        (span 0 c.args.after.now.snd_una))
