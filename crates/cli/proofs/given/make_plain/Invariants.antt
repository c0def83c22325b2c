use Rattle.std.proofs.Common.{◌≡◌, ◌++◌, map, take, drop}
use Rattle.cli.specs.GivenWords.{plain}
use Rattle.cli.proofs.given.make_plain.Given as goal

abbrev pub invariant-loop-byte : goal.invariant-loop-byte
invariant-loop-byte l = l.word ≡ map plain (take l.byte-index l.initial.word) ++ drop l.byte-index l.initial.word
