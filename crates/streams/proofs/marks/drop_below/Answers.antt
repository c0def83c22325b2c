use Rattle.std.proofs.Common.{◌∙◌, arith, max, ℕ, nat_lt, ap, ◌||◌, ◌≡◌}
use Rattle.streams.specs.Marks.{in_ranges}
use Rattle.streams.proofs.MarkLemmas.{dropped, rest_ranges}
use Rattle.streams.proofs.marks.drop_below.Goals as goal

pub loop-end-preserved : goal.loop-end-preserved
loop-end-preserved c =
    let first = c.in-Some.ensures.popped in
    let far : c.max-far.result ≡ max c.loop-end.far c.in-Some.end = omega arith in
    record {
      same = λ position from.
          ap (λ (n : ℕ). in_ranges c.pop_below.new.ranges.entries position || nat_lt position n) far
          ∙ dropped c.loop-end.ranges.entries c.pop_below.new.ranges.entries first.0 c.in-Some.end c.loop-end.far c.args.snd_una position first.1 first.2 from
          ∙ c.loop-end.invariant.same position from;
      below = λ floor end h low.
          let both = c.loop-end.invariant.below floor end h low in
          let rest = rest_ranges c.loop-end.ranges.entries c.pop_below.new.ranges.entries (first.0, c.in-Some.end) floor end first.1 both.0 in
          let bound = both.1 in
          let here = rest.0 in
          (rest.1, omega arith);
    }

pub returns-clause-below : goal.returns-clause-below
returns-clause-below c floor end h low =
    let both = c.loop-end.invariant.below floor end h low in
    (rw c.in_default.ensures.same (c.in_default.ensures.none floor end both.0), both.1)
