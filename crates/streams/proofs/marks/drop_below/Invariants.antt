use Rattle.std.proofs.Common.{◌≡◌, ℕ, ◌≤◌, ◌||◌, nat_lt, length}
use Rattle.streams.specs.Marks.{AreRanges, in_ranges}
use Rattle.streams.proofs.marks.drop_below.Given as goal

abbrev pub invariant-loop-end : goal.invariant-loop-end
invariant-loop-end l = record {
  same : (position : ℕ) → l.snd_una ≤ position
      → (in_ranges l.ranges.entries position || nat_lt position l.far)
      ≡ (in_ranges l.initial.ranges.entries position || nat_lt position l.reached);
  below : (floor end : ℕ) → AreRanges floor end l.initial.ranges.entries → l.reached ≤ end → AreRanges floor end l.ranges.entries × (l.far ≤ end);
}

abbrev pub decreases-loop-end : goal.decreases-loop-end
decreases-loop-end l = length l.ranges.entries
