use Rattle.streams.proofs.FlightEnds.{forgotten_once, made_once}
use Rattle.streams.proofs.laws.segments_end_once.Goals as goal

pub returns : goal.returns
returns c = record {
  makes = λ position upto number moment all once fresh low high. made_once position upto number moment all once fresh low high;
  forgets = λ snd_una all once. forgotten_once snd_una all once;
}
