use Rattle.std.proofs.Common.{◌≡◌, ◌≤◌, ◌*◌, ◌+◌, length}
use Rattle.std.specs.Io.KnownBytes.{prepend_known}
use Rattle.counted.proofs.LineSoFar.{SoFar}
use Rattle.counted.proofs.ends.End.complete.Given as goal

-- so far the line has no LF, and what of it is not kept was counted
abbrev pub invariant-loop : goal.invariant-loop
invariant-loop g l = record {
  so_far :
      SoFar l.most l.before l.line.items (prepend_known l.fn.line.items (g.B.Read.remaining l.fn.self.inner)) (g.B.Read.remaining l.self.inner);
  counts : l.self.failures ≡ l.fn.self.failures;
  few : l.before + length l.line.items ≤ l.counter * 8192 + length l.fn.line.items;
}
