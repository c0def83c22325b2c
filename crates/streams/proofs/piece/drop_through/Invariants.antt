use Rattle.std.proofs.Common.{◌≡◌, length}
use Rattle.streams.specs.Pieces.{past}
use Rattle.streams.proofs.piece.drop_through.Given as goal

abbrev pub invariant-loop : goal.invariant-loop
invariant-loop l = past l.position l.pieces.entries ≡ past l.position l.initial.pieces.entries

abbrev pub decreases-loop : goal.decreases-loop
decreases-loop l = length l.pieces.entries
