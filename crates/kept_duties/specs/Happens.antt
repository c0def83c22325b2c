-- What happens at an endpoint, by the places of a witness's steps.
use Rattle.std.specs.Prelude.{◌≡◌, ℕ, take, slice_get, Option, None, Some}
use Rattle.std.specs.Option.{option_map_or}
use Rattle.case_forms.specs.Traces.{line_at}
use Rattle.case_forms.specs.declared.calls.Answer.{Answer}
use Rattle.case_forms.specs.declared.calls.Host.{Host}
use Rattle.case_forms.specs.declared.named_line.Extras.{Extras}
use Rattle.case_forms.specs.declared.steps.Label.TheVariants as labels
use Rattle.case_forms.specs.declared.steps.SegmentPlan.{SegmentPlan}
use Rattle.case_forms.specs.declared.steps.TakeChoice.{TakeChoice}
use Rattle.case_forms.specs.declared.steps.Witness.{Witness}
use Rattle.case_forms.specs.declared.timer.Recovery.{Recovery}
use Rattle.case_forms.specs.declared.timer.Timer.{Timer}
use Rattle.case_forms.specs.declared.trace.Event.TheVariants as lines
use Rattle.case_forms.specs.declared.trace.Line.{Line}
use Rattle.case_forms.specs.declared.trace.Trace.{Trace}
use Rattle.spec_network.specs.Hosts.{Stamped, World}
use Rattle.spec_network.specs.Tables.{pick, waiting}
use Rattle.spec_tcp.specs.Endpoints.{segment_length}
use Rattle.spec_tcp.specs.Machine.{tcp_shape}
use Rattle.spec_tcp.specs.declared.endpoint.Emission.{Emission}
use Rattle.spec_tcp.specs.declared.endpoint.EndpointId.{EndpointId}
use Rattle.spec_tcp_laws.specs.Consequences.{find}
use Rattle.spec_tcp_laws.specs.Runs.{world_at_end}
use Rattle.spec_cases.specs.Cases.{Known, first_known, known_after_all}
use Rattle.spec_duties.specs.Observations.{observe}
use Rattle.spec_duties.specs.Views.{unborn, view_of}
use Rattle.spec_duties.specs.declared.events.Event.{Event}
use Rattle.spec_duties.specs.declared.events.Event.TheVariants.{Builds, Calls, Drops, Expires, Opens, Processes}
use Rattle.spec_duties.specs.declared.events.Event.TheVariants.{Recovers, Sends}
use Rattle.spec_duties.specs.declared.views.View.{View}
use Rattle.checker.specs.Seen.{act_of, stamped}
use Rattle.kept_duties.specs.Places.{IsStep, SendsAt}

-- what the step at a place does in the model
abbrev pub act_at : Trace → Witness → (place : ℕ) → Option (Stamped tcp_shape)
act_at t w place = option_map_or (act_of t.header t.lines) (slice_get w.steps place) None

-- the model's world before that step
abbrev pub world_before : Trace → Witness → (place : ℕ) → World tcp_shape
world_before t w place = world_at_end t.header (stamped t.header t.lines (take place w.steps))

-- the same with its duties
abbrev pub known_before : Trace → Witness → (place : ℕ) → Known
known_before t w place =
    known_after_all t.header (first_known t.header) (stamped t.header t.lines (take place w.steps))

-- an endpoint before that step
abbrev pub seen_before : Trace → Witness → (place : ℕ) → EndpointId → View
seen_before t w place me = option_map_or view_of (find (world_before t w place).hosts me) unborn

-- the step at this place does this at an endpoint, as `observe` shows it of the model
pub record Happens (t : Trace) (w : Witness) (place moment : ℕ) (me : EndpointId) (event : Event) : Type 0 where
  pub act : Stamped tcp_shape
  pub is : act_at t w place ≡ Some act
  pub time : act.moment ≡ moment
  pub touches : (observe t.header act.moment (world_before t w place) act.step).touched
      ≡ Some (record { host = me.host; place = me.number; event = event; before = seen_before t w place me })

-- a timer of the host expires: the step uses this `T` line
pub record ExpiresAt (t : Trace) (w : Witness) (place moment : ℕ) (host : Host) (timer : Timer) : Type 0 where
  pub line : ℕ
  pub extras : Extras
  pub shown : Line
  pub lport : ℕ
  pub rport : ℕ
  pub step : IsStep w place moment (labels.L (record { number = line; extras = extras }))
  pub is : line_at t.header t.lines line ≡ Some shown
  pub expires : shown.event ≡ lines.Expired host lport rport timer

-- the step by which something happens at an endpoint of a host, with its label and its line
abbrev pub IsBy : Trace → Witness → (place moment : ℕ) → Host → Event → Type 0
IsBy t w place moment host (Processes length rst) =
    (line : ℕ) × (choice : TakeChoice) × IsStep w place moment (labels.T host line choice)
IsBy t w place moment host (Drops asks unlimited) = (line : ℕ) × IsStep w place moment (labels.K host line)
IsBy t w place moment host (Builds m) = IsStep w place moment (labels.M host m)
IsBy t w place moment host (Sends s) = (number : ℕ) × SendsAt t w place moment host number
IsBy t w place moment host (Expires timer) = ExpiresAt t w place moment host timer
IsBy t w place moment host (Recovers change) =
    (recovery : Recovery) × (recovery.change ≡ change) × IsStep w place moment (labels.F host recovery)
IsBy t w place moment host (Calls aborts) =
    (thread : ℕ) × (answer : Answer) × IsStep w place moment (labels.D thread answer)
IsBy t w place moment host Opens =
    (thread : ℕ) × (answer : Answer) × IsStep w place moment (labels.D thread answer)

-- what happens is done by such a step
abbrev pub EventsAreSteps : Trace → Witness → Type 0
EventsAreSteps t w =
    (place moment : ℕ) (me : EndpointId) (event : Event) → Happens t w place moment me event
    → IsBy t w place moment me.host event

-- something of this kind happens at an endpoint of the host
abbrev pub HappensThere : Trace → Witness → (place moment : ℕ) → Host → Event → Type 0
HappensThere t w place moment host event =
    (number : ℕ) × Happens t w place moment (record { host = host; number = number }) event

-- the other way round: each step that processes or builds a segment, lets a timer expire, or begins or undoes a
-- recovery does this at an endpoint
pub record StepsAreEvents (t : Trace) (w : Witness) : Type 0 where
  pub processes : (place moment line : ℕ) (host : Host) (choice : TakeChoice)
      → IsStep w place moment (labels.T host line choice)
      → (m : Emission) × (waiting line (pick (world_before t w place).hosts host).inbox ≡ Some m)
      × HappensThere t w place moment host (Processes (segment_length m) m.flags.rst)
  pub builds : (place moment : ℕ) (host : Host) (m : SegmentPlan) → IsStep w place moment (labels.M host m)
      → HappensThere t w place moment host (Builds m)
  pub expires : (place moment : ℕ) (host : Host) (timer : Timer) → ExpiresAt t w place moment host timer
      → HappensThere t w place moment host (Expires timer)
  pub recovers : (place moment : ℕ) (host : Host) (recovery : Recovery)
      → IsStep w place moment (labels.F host recovery)
      → HappensThere t w place moment host (Recovers recovery.change)
