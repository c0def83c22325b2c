use Rattle.std.proofs.Common.{◌≤◌, ◌-◌, drop, length}
use Rattle.cli.proofs.OptionWords.{texts}
use Rattle.cli.proofs.RecordOptions.{AreSoFar}
use Rattle.cli.proofs.record_words.settings_in.Given as goal

abbrev pub invariant-loop-at : goal.invariant-loop-at
invariant-loop-at l = record {
  within : l.at ≤ length l.words;
  so_far : AreSoFar l.settings (texts l.words) (drop l.at (texts l.words));
}

abbrev pub decreases-loop-at : goal.decreases-loop-at
decreases-loop-at l = length l.words - l.at
