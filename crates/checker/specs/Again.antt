-- Traces that are equal except for their spans, and two witnesses of one trace.
use Rattle.std.specs.Prelude.{◌≡◌, List, [], ◌∷◌, None, map}
use Rattle.case_forms.specs.declared.version.Growth.TheVariants.{OneSegment}
use Rattle.case_forms.specs.declared.version.Sender.TheVariants.{Reno}
use Rattle.case_forms.specs.declared.calls.Host.TheVariants.{Zero}
use Rattle.case_forms.specs.declared.calls.Call.TheVariants as calls
use Rattle.case_forms.specs.declared.calls.Answer.TheVariants as answers
use Rattle.case_forms.specs.declared.trace.Span.{Span}
use Rattle.case_forms.specs.declared.trace.Event.TheVariants as events
use Rattle.case_forms.specs.declared.trace.Line.{Line}
use Rattle.case_forms.specs.declared.trace.Trace.{Trace}
use Rattle.case_forms.specs.declared.named_line.Extras.TheVariants as extras
use Rattle.case_forms.specs.declared.named_line.NamedLine.{NamedLine}
use Rattle.case_forms.specs.declared.steps.Label.{Label}
use Rattle.case_forms.specs.declared.steps.Label.TheVariants as labels
use Rattle.case_forms.specs.declared.steps.Step.{Step}
use Rattle.case_forms.specs.declared.steps.Witness.{Witness}
use Rattle.case_forms.specs.declared.version.Version.TheVariants.{One}
use Rattle.case_forms.specs.declared.version.Initial.TheVariants.{Rfc5681}
use Rattle.case_forms.specs.declared.version.Judged.TheVariants.{Full}
use Rattle.case_forms.specs.Traces.{IsTrace}
use Rattle.case_forms.specs.Witnesses.{IsWitness}
use Rattle.checker.specs.Verdicts.{verdict}
use Rattle.checker.specs.Explains.{IsYes}

-- no place in a text
abbrev pub nowhere : Span
nowhere = record { line = 0; start = 0; stop = 0 }

-- a line, and a trace, without its place in a text
abbrev pub placeless : Line → Line
placeless line = record line { span = nowhere }

abbrev pub without_spans : Trace → Trace
without_spans t = record t { lines = map placeless t.lines }

-- what the steps of a witness do, in their order
abbrev pub labels_of : Witness → List (Label NamedLine)
labels_of w = map (λ s. s.label) w.steps

-- a trace and two witnesses that do different things, or the same in different orders, and both get a yes
pub record HaveTwo (t : Trace) (v w : Witness) : Type 0 where
  pub trace : IsTrace t
  pub one : IsWitness v
  pub two : IsWitness w
  pub versions : (t.header.version ≡ v.version) × (t.header.version ≡ w.version)
  pub differ : labels_of v ≡ labels_of w → ⊥
  pub yes_one : IsYes (verdict t v)
  pub yes_two : IsYes (verdict t w)

-- two threads listen on host 0, on ports 80 and 81, at the same time, and are given the socket numbers 5 and 6
abbrev pub two_listen : Trace
two_listen = record {
  header = record {
    version = One;
    skew = 0;
    msl = 120000000;
    grain = 1000;
    minrto = 1000000;
    extra = 0;
    initial = Rfc5681;
    congestion = Full;
    slack = None;
    sender = Reno;
    growth = OneSegment;
  };
  lines =
      record { number = 7; moment = 10; thread = 1; event = events.CallBegin (calls.Listen Zero 80 4); span = nowhere }
      ∷ record {
        number = 8;
        moment = 10;
        thread = 2;
        event = events.CallBegin (calls.Listen Zero 81 4);
        span = nowhere;
      }
      ∷ record { number = 9; moment = 20; thread = 1; event = events.CallEnd (answers.Given 5); span = nowhere }
      ∷ record { number = 10; moment = 20; thread = 2; event = events.CallEnd (answers.Given 6); span = nowhere }
      ∷ [];
}

-- the effects of both calls at 15, in this order
abbrev pub effects_in_order : Step → Step → Witness
effects_in_order first second = record {
  version = One;
  steps =
      record { moment = 10; label = labels.L (record { number = 7; extras = extras.Bare }); span = nowhere }
      ∷ record { moment = 10; label = labels.L (record { number = 8; extras = extras.Bare }); span = nowhere }
      ∷ first
      ∷ second
      ∷ record { moment = 20; label = labels.L (record { number = 9; extras = extras.Bare }); span = nowhere }
      ∷ record { moment = 20; label = labels.L (record { number = 10; extras = extras.Bare }); span = nowhere }
      ∷ [];
}

abbrev pub gives_five : Step
gives_five = record { moment = 15; label = labels.D 1 (answers.Given 5); span = nowhere }

abbrev pub gives_six : Step
gives_six = record { moment = 15; label = labels.D 2 (answers.Given 6); span = nowhere }
