-- What a yes with a slack says of mere acknowledgments, which are empty, at the next position to be sent, and announce
-- no more window: an endpoint sends at most one for each segment that comes (RFC 5681, 4.2). Others aren't counted.
use Rattle.std.specs.Prelude.{ℕ, zero, suc, ◌≤◌, ◌==◌, nat_eq, Bool, true, false, not, ◌&&◌, if◌then◌else◌, List, []}
use Rattle.std.specs.Prelude.{◌∷◌, length, Option, None, Some, slice_get}
use Rattle.std.specs.List.{list_any}
use Rattle.std.specs.Option.{option_map_or}
use Rattle.case_forms.specs.Traces.{line_at}
use Rattle.case_forms.specs.declared.calls.State.{State}
use Rattle.case_forms.specs.declared.calls.State.TheVariants as states
use Rattle.case_forms.specs.declared.named_line.Extras.{Extras}
use Rattle.case_forms.specs.declared.named_line.Extras.TheVariants.{One}
use Rattle.case_forms.specs.declared.named_line.NamedLine.{NamedLine}
use Rattle.case_forms.specs.declared.steps.Label.{Label}
use Rattle.case_forms.specs.declared.steps.Label.TheVariants as labels
use Rattle.case_forms.specs.declared.steps.Witness.{Witness}
use Rattle.case_forms.specs.declared.trace.Event as lines
use Rattle.case_forms.specs.declared.trace.Event.TheVariants.{Sent}
use Rattle.case_forms.specs.declared.trace.Trace.{Trace}
use Rattle.spec_network.specs.Tables.{host_is, on}
use Rattle.spec_tcp.specs.declared.endpoint.EndpointId.{EndpointId}
use Rattle.spec_duties.specs.Observations.{observe}
use Rattle.spec_duties.specs.declared.events.Event.{Event}
use Rattle.spec_duties.specs.declared.events.Event.TheVariants.{Builds, Drops, Processes}
use Rattle.spec_duties.specs.declared.observations.TouchedEndpoint.{TouchedEndpoint}
use Rattle.spec_duties.specs.declared.views.View.{View}
use Rattle.kept_duties.specs.Happens.{act_at, seen_before, world_before}
use Rattle.kept_duties.specs.Places.{built_before}

-- at how many of the places before this one a test passes
abbrev pub count_before : (ℕ → Bool) → (place : ℕ) → ℕ
count_before test zero = 0
count_before test (suc place) = if test place then suc (count_before test place) else count_before test place

-- what happens at an endpoint, if it is the one that a step touches
abbrev pub event_for : EndpointId → Option TouchedEndpoint → Option Event
event_for me o = on o None (λ x. if host_is x.host me.host && x.place == me.number then Some x.event else None)

-- what the step at a place does at an endpoint, if anything
abbrev pub event_at : Trace → Witness → EndpointId → (place : ℕ) → Option Event
event_at t w me place =
    on (act_at t w place) None (λ x. event_for me (observe t.header x.moment (world_before t w place) x.step).touched)

-- a listener's child doesn't exist before it processes its SYN
abbrev pub is_unborn : State → Bool
is_unborn states.Listen = true
is_unborn state = false

-- a segment comes to the endpoint: it is processed there, or dropped
abbrev pub comes : Event → View → Bool
comes (Processes length rst) before = not (is_unborn before.state)
comes (Drops asks unlimited) before = true
comes event before = false

abbrev pub comes_at : Trace → Witness → EndpointId → (place : ℕ) → Bool
comes_at t w me place =
    option_map_or (λ event. comes event (seen_before t w place me)) (event_at t w me place) false

-- a mere acknowledgment is built: it is empty, has ACK alone, is at the next position to be sent, and announces no more
-- window
abbrev pub builds_mere : Event → (before after : View) → Bool
builds_mere (Builds m) before after =
    m.flags.ack && not m.flags.syn && not m.flags.fin && not m.flags.rst && m.len == 0 && m.pos == before.snd_max
    && after.rcv_adv == before.rcv_adv
builds_mere event before after = false

abbrev pub builds_mere_at : Trace → Witness → EndpointId → (place : ℕ) → Bool
builds_mere_at t w me place =
    option_map_or (λ event. builds_mere event (seen_before t w place me) (seen_before t w (suc place) me))
    (event_at t w me place) false

-- the numbers of the mere acknowledgments that the endpoint built before a place
abbrev pub mere_before : Trace → Witness → EndpointId → (place : ℕ) → List ℕ
mere_before t w me zero = []
mere_before t w me (suc place) =
    if builds_mere_at t w me place then suc (built_before w place) ∷ mere_before t w me place
    else mere_before t w me place

-- the number of the segment that an `O` line sends, and a step that uses such a line
abbrev pub number_sent : lines.Event → Extras → Option ℕ
number_sent (Sent host wire) (One number) = Some number
number_sent event extras = None

abbrev pub sent_by : Trace → Label NamedLine → Option ℕ
sent_by t (labels.L named) =
    option_map_or (λ line. number_sent line.event named.extras) (line_at t.header t.lines named.number) None
sent_by t label = None

-- the step at a place sends one of the endpoint's mere acknowledgments
abbrev pub sends_mere_at : Trace → Witness → EndpointId → (place : ℕ) → Bool
sends_mere_at t w me place =
    on (slice_get w.steps place) false
    (λ s. option_map_or (λ number. list_any (nat_eq number) (mere_before t w me place)) (sent_by t s.label) false)

-- before each place it sent at most as many of them as segments came
abbrev pub AcknowledgmentsAreFew : Trace → Witness → Type 0
AcknowledgmentsAreFew t w =
    (me : EndpointId) (place : ℕ) → place ≤ length w.steps
    → count_before (sends_mere_at t w me) place ≤ count_before (comes_at t w me) place
