-- What a verdict on a trace and a witness means: what it says of their lines and steps, and what follows from a yes.
use Rattle.std.specs.Prelude.{◌↔◌}
use Rattle.case_forms.specs.declared.trace.Trace.{Trace}
use Rattle.case_forms.specs.declared.steps.Witness.{Witness}
use Rattle.verdict.specs.declared.report.Verdict.{Verdict}
use Rattle.checker.specs.Explains.{Explains, IsYes}
use Rattle.checker.specs.Judges.{Says}
use Rattle.checker.specs.Headline.{ReceivesBeginSends}
use Rattle.checker.specs.Consequences.{AreBothRecorded, ReadsBeginWhatWasSent, EndsAreWhole}
use Rattle.checker.specs.Consequences.{AllAcknowledgedWasTaken, AllReadsWereCarried, AllKeepWindows}
use Rattle.checker.specs.Consequences.{AllStatesFollow, NoPositionFalls}

pub record Means (t : Trace) (w : Witness) (v : Verdict) : Type 0 where
  -- a yes says that the steps explain the trace, a no which rule is broken first, by the places in the two lists
  pub says : Says t w v
  pub explained : IsYes v ↔ Explains t w
  -- From a yes, if both hosts are recorded, in terms of the trace's lines and the witness's steps only: at each moment,
  -- what receives on a socket number returned is a prefix of what sends on one socket number of the other host
  -- accepted; once a receive returned the end, it is all of it.
  pub heard : IsYes v → AreBothRecorded t → ReceivesBeginSends t w
  -- The same for the model's endpoints: what reads returned is a prefix of what the peer's sends accepted; reads that
  -- returned the end returned all of it; what is acknowledged was taken before.
  pub received : IsYes v → AreBothRecorded t → ReadsBeginWhatWasSent t w
  pub whole : IsYes v → AreBothRecorded t → EndsAreWhole t w
  pub acknowledged : IsYes v → AreBothRecorded t → AllAcknowledgedWasTaken t w
  -- From every yes, even if only one host is recorded: what reads returned arrived in segments that were taken; windows
  -- are kept; states follow each other by the arrows of RFC 9293, 3.3.2, figure 5; positions never fall.
  pub carried : IsYes v → AllReadsWereCarried t w
  pub windows : IsYes v → AllKeepWindows t w
  pub states : IsYes v → AllStatesFollow t w
  pub positions : IsYes v → NoPositionFalls t w
