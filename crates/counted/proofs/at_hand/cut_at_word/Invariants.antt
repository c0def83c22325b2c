use Rattle.std.proofs.Common.{◌≤◌, ◌-◌, length, take}
use Rattle.counted.specs.AtHand.{AreOthers}
use Rattle.counted.proofs.at_hand.cut_at_word.Given as goal

abbrev pub invariant-loop-feed : goal.invariant-loop-feed
invariant-loop-feed l = record {
  within : l.lines ≤ length l.bytes;
  others : AreOthers l.word (take l.lines l.bytes);
}

abbrev pub decreases-loop-feed : goal.decreases-loop-feed
decreases-loop-feed l = length l.bytes - l.lines
