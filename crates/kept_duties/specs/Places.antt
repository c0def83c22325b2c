-- What the steps of a witness do with segments: in terms of their places among all steps, of their labels, and of the
-- trace lines that they use.
use Rattle.std.specs.Prelude.{◌≡◌, ℕ, suc, take, slice_get, count_by, Option, None, Some, is_some}
use Rattle.case_forms.specs.Traces.{line_at}
use Rattle.case_forms.specs.declared.calls.Host.{Host}
use Rattle.case_forms.specs.declared.named_line.Extras.{Extras}
use Rattle.case_forms.specs.declared.named_line.Extras.TheVariants.{One}
use Rattle.case_forms.specs.declared.named_line.NamedLine.{NamedLine}
use Rattle.case_forms.specs.declared.steps.Label.{Label}
use Rattle.case_forms.specs.declared.steps.Label.TheVariants as labels
use Rattle.case_forms.specs.declared.steps.TakeChoice.{TakeChoice}
use Rattle.case_forms.specs.declared.steps.Witness.{Witness}
use Rattle.case_forms.specs.declared.trace.Event.TheVariants as events
use Rattle.case_forms.specs.declared.trace.Line.{Line}
use Rattle.case_forms.specs.declared.trace.Span.{Span}
use Rattle.case_forms.specs.declared.trace.Trace.{Trace}
use Rattle.case_forms.specs.declared.trace.Wire.{Wire}

-- the step at this place has this moment and this label
pub record IsStep (w : Witness) (place moment : ℕ) (label : Label NamedLine) : Type 0 where
  pub span : Span
  pub here : slice_get w.steps place ≡ Some (record { moment = moment; label = label; span = span })

-- a segment arrives at a host: the step uses this `I` line
pub record ArrivesAt (t : Trace) (w : Witness) (place moment : ℕ) (host : Host) (line : ℕ) : Type 0 where
  pub extras : Extras
  pub shown : Line
  pub wire : Wire
  pub step : IsStep w place moment (labels.L (record { number = line; extras = extras }))
  pub is : line_at t.header t.lines line ≡ Some shown
  pub arrives : shown.event ≡ events.Came host wire

-- the segment of that line leaves the host's inbox: it is processed, dropped, or answered with a reset
pub data LeavesAt (w : Witness) (place moment : ℕ) (host : Host) (line : ℕ) : Type 0 where
  IsProcessed : (choice : TakeChoice) → IsStep w place moment (labels.T host line choice)
      → LeavesAt w place moment host line
  IsDropped : IsStep w place moment (labels.K host line) → LeavesAt w place moment host line
  IsAnswered : IsStep w place moment (labels.R host line) → LeavesAt w place moment host line

-- the host that builds a segment by a step with this label
abbrev pub builder : Label NamedLine → Option Host
builder (labels.M host plan) = Some host
builder (labels.R host line) = Some host
builder label = None

-- how many segments are built by the steps before this place
abbrev pub built_before : Witness → (place : ℕ) → ℕ
built_before w place = count_by (λ s. is_some (builder s.label)) (take place w.steps)

-- a host builds the segment of this number: the segments that `M` and `R` steps build are numbered from 1, in order
pub record BuildsAt (w : Witness) (place moment : ℕ) (host : Host) (number : ℕ) : Type 0 where
  pub label : Label NamedLine
  pub step : IsStep w place moment label
  pub builds : builder label ≡ Some host
  pub count : number ≡ suc (built_before w place)

-- a host sends the segment of this number: the step uses an `O` line of the host with it
pub record SendsAt (t : Trace) (w : Witness) (place moment : ℕ) (host : Host) (number : ℕ) : Type 0 where
  pub line : ℕ
  pub shown : Line
  pub wire : Wire
  pub step : IsStep w place moment (labels.L (record { number = line; extras = One number }))
  pub is : line_at t.header t.lines line ≡ Some shown
  pub sends : shown.event ≡ events.Sent host wire
