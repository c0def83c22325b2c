use Rattle.std.proofs.Common.{◌≡◌, ◌-◌, ◌++◌, None}
use Rattle.bstr.specs.Text.{lines_of}
use Rattle.counted.specs.Counting.{inner_of, unread_of}
use Rattle.line_fields.proofs.Loop.{with_front}
use Rattle.witness.specs.WitnessText.{witness_for}
use Rattle.witness.specs.StepsLeft.{fault_of, number_of, steps_of, steps_from}
use Rattle.witness.proofs.from_bytes.read.Given as goal

-- what was read, and what is left, are the whole witness
abbrev pub invariant-loop-steps : goal.invariant-loop-steps
invariant-loop-steps l = record {
  well : fault_of l.reader ≡ None;
  whole :
      steps_of (witness_for l.version l.text) ≡ with_front l.steps
      (steps_from l.reader.version l.reader.number (lines_of (unread_of l.reader.source ++ (inner_of l.reader.source).now)));
}

abbrev pub decreases-loop-steps : goal.decreases-loop-steps
decreases-loop-steps l = 10000001 - number_of l.reader
