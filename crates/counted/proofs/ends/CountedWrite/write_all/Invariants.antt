use Rattle.std.proofs.Common.{◌≡◌, ◌-◌, ◌≤◌, length, take}
use Rattle.std.specs.Io.KnownBytes.{Appends}
use Rattle.counted.specs.Counting.{left_of, failures_of}
use Rattle.counted.proofs.ends.CountedWrite.write_all.Given as goal

abbrev pub invariant-loop-at : goal.invariant-loop-at
invariant-loop-at g l = record {
  within : l.at ≤ length l.buf;
  written : Appends (left_of g.W.Write.contents l.fn.self) (left_of g.W.Write.contents l.self) (take l.at l.buf);
  counts : failures_of l.self ≡ failures_of l.fn.self;
}

abbrev pub decreases-loop-at : goal.decreases-loop-at
decreases-loop-at g l = length l.buf - l.at
