-- The model of a case, with its data in flight and its duties.
use Rattle.std.specs.Prelude.{◌≡◌, ℕ, suc, nat_eq, Bool, true, false, not, ◌&&◌, if◌then◌else◌, List, [], ◌∷◌, ◌++◌}
use Rattle.std.specs.Prelude.{map, Option, None, Some, slice_get}
use Rattle.std.specs.Map.{lookup}
use Rattle.std.specs.Option.{option_map_or}
use Rattle.case_forms.specs.declared.calls.Host.{Host}
use Rattle.case_forms.specs.declared.trace.Header.{Header}
use Rattle.case_forms.specs.declared.trace.Wire.{Wire}
use Rattle.case_forms.specs.Versions.{says_sender}
use Rattle.verdict.specs.declared.rule.Rule.{Rule}
use Rattle.verdict.specs.declared.rule.Rule.TheVariants as rules
use Rattle.verdict.specs.Rules.{first_broken, rule_number}
use Rattle.spec_network.specs.Hosts as network
use Rattle.spec_network.specs.Hosts.{HostState, HostStep, Stamped, Step, World}
use Rattle.spec_network.specs.HostRules.{step_rules}
use Rattle.spec_network.specs.HostSteps as steps
use Rattle.spec_network.specs.Tables.{on, pick}
use Rattle.spec_tcp.specs.Forgetting as forgetting
use Rattle.spec_tcp.specs.HostTcp.{HostTcp}
use Rattle.spec_tcp.specs.Machine.{tcp, tcp_shape}
use Rattle.spec_tcp.specs.declared.endpoint.Emission.{Emission}
use Rattle.spec_duties.specs.Answering.{waits_after}
use Rattle.spec_duties.specs.Observations.{observe, view_in}
use Rattle.spec_duties.specs.declared.observations.Observation.{Observation}
use Rattle.spec_duties.specs.Watching as watching
use Rattle.spec_duties.specs.Watching.{Duties, duty_rules, duties_after, untrue_rules}
use Rattle.spec_duties.specs.declared.observations.Untruth.{Untruth}
use Rattle.spec_duties.specs.declared.observations.Untruth.TheVariants as untruth
use Rattle.spec_duties.specs.End as end
use Rattle.spec_flights.specs.Flights as flights
use Rattle.spec_flights.specs.Flights.{Flights, excused, flights_after, mistimed, refusal, sends_untrue}

-- the model's world, what is kept of data in flight, and what its hosts owe
pub record Known : Type 0 where
  pub model : World tcp_shape
  pub flights : Flights
  pub duties : Duties

-- a case: its header, what is known, and how many steps were done
pub record Watched : Type 0 where
  pub header : Header
  pub world : Known
  pub steps : ℕ

abbrev pub first_known : Header → Known
first_known h = record { model = steps.start (tcp h); flights = flights.start; duties = watching.start }

abbrev pub start : Header → Watched
start h = record { header = h; world = first_known h; steps = 0 }

-- the rules of duties if the header gives a slack. If it says `any`, one: what the line of a segment shows is true or
-- not at any moment
abbrev pub judged_rules : Header → (moment : ℕ) → Duties → (untrue : Option Untruth) → Observation → List (Rule × Bool)
judged_rules h moment d untrue s = on h.slack (untrue_rules untrue) (λ slack. duty_rules h slack moment d untrue s)

-- the same with what is kept of calls that wait, for the stricter duties
abbrev pub with_waits : (strict : Bool) → (moment : ℕ) → (after : World tcp_shape) → Observation → Duties → Duties
with_waits strict moment w s d =
    record d {
      waits = if strict then waits_after w moment s.touched s.call_change s.socket_change d.waits else d.waits;
    }

-- what is kept after a step: nothing new at `any`; which credit is taken depends on the slack
abbrev pub noted_by : Header → (moment : ℕ) → (after : World tcp_shape) → Observation → Duties → Duties
noted_by h moment w s d =
    on h.slack d
    (λ slack. with_waits (says_sender h.version) moment w s
    (duties_after (says_sender h.version) slack (view_in w s.touched) moment s d))

-- a line shows a segment with blocks that its sender may not send; a reset in answer to a segment has no sender
abbrev pub untrue_from : Flights → Host → HostTcp → Wire → Emission → Bool
untrue_from fs host b wire m =
    not m.is_reset_reply
    && option_map_or (λ e. sends_untrue fs host m.sender.number e wire.bytes) (slice_get b.endpoints m.sender.number)
    false

abbrev pub untrue_sent : Flights → Host → HostState tcp_shape → (number : ℕ) → Wire → Bool
untrue_sent fs host s number wire =
    option_map_or (λ m. untrue_from fs host s.body wire m.emission) (lookup (nat_eq number) s.made) false

-- what its line shows that may not be: its blocks, or its timestamps; from version 6 on
abbrev pub shows_untrue : Header → Flights → Host → HostState tcp_shape → (number : ℕ) → Wire → Observation
    → Option Untruth
shows_untrue h fs host state number wire s =
    if says_sender h.version && untrue_sent fs host state number wire then Some untruth.Blocks else mistimed h fs s

abbrev pub untrue_by : Header → (moment : ℕ) → Known → Host → HostStep tcp_shape → Option Untruth
untrue_by h moment k host (network.Sends line number wire) =
    shows_untrue h k.flights host (pick k.model.hosts host) number wire
    (observe h moment k.model (network.At host (network.Sends line number wire)))
untrue_by h moment k host d = None

abbrev pub untrue_at : Header → (moment : ℕ) → Known → Step tcp_shape → Option Untruth
untrue_at h moment k (network.At host d) = untrue_by h moment k host d
untrue_at h moment k step = None

-- what duties see of a step
abbrev pub shown : Header → (moment : ℕ) → Known → Step tcp_shape → Observation
shown h moment k step = excused h k.flights (observe h moment k.model step)

-- the rules of duties at a step
abbrev pub watch_rules : Header → (moment : ℕ) → Known → Step tcp_shape → List (Rule × Bool)
watch_rules h moment k step = judged_rules h moment k.duties (untrue_at h moment k step) (shown h moment k step)

-- the rule counts as broken
abbrev pub with_broken : Rule → Rule × Bool → Rule × Bool
with_broken rule r = if nat_eq (rule_number rule) (rule_number r.0) then (rule, true) else r

-- the same of the rules of a step, if there is such a rule
abbrev pub with_refusal : Option Rule → List (Rule × Bool) → List (Rule × Bool)
with_refusal None rules = rules
with_refusal (Some rule) rules = map (with_broken rule) rules

-- the rule that a step breaks by what is kept of data in flight; only to build a segment, to begin fast recovery, or
-- the line of a timer, can
abbrev pub refused_at : Header → (moment : ℕ) → Known → Host → HostStep tcp_shape → Option Rule
refused_at h moment k host (network.Makes m) =
    refusal h moment k.flights (observe h moment k.model (network.At host (network.Makes m)))
refused_at h moment k host (network.Does x) =
    refusal h moment k.flights (observe h moment k.model (network.At host (network.Does x)))
refused_at h moment k host (network.Expires line x) =
    refusal h moment k.flights (observe h moment k.model (network.At host (network.Expires line x)))
refused_at h moment k host d = None

abbrev pub refused_by : Header → (moment : ℕ) → Known → Step tcp_shape → Option Rule
refused_by h moment k (network.At host d) = refused_at h moment k host d
refused_by h moment k step = None

-- the rules of the model at a step, with that rule
abbrev pub model_rules : Header → (moment : ℕ) → Known → Step tcp_shape → List (Rule × Bool)
model_rules h moment k step = with_refusal (refused_by h moment k step) (step_rules (tcp h) moment k.model step)

-- the rules of a step: those of the model, then those of duties
abbrev pub case_rules : Header → (moment : ℕ) → Known → Step tcp_shape → List (Rule × Bool)
case_rules h moment k step = model_rules h moment k step ++ watch_rules h moment k step

-- what is kept of data in flight after it, in that world
abbrev pub flown : Header → (moment : ℕ) → (after : World tcp_shape) → Observation → Flights → Flights
flown h moment w s fs = flights_after h moment (view_in w s.touched) s fs

-- what is known after it
abbrev pub known_after : Header → (moment : ℕ) → Known → Step tcp_shape → Known
known_after h moment k step = record {
  model = steps.after (tcp h) moment k.model step;
  flights = flown h moment (steps.after (tcp h) moment k.model step) (observe h moment k.model step) k.flights;
  duties = noted_by h moment (steps.after (tcp h) moment k.model step) (shown h moment k step) k.duties;
}

abbrev pub known_after_all : Header → Known → List (Stamped tcp_shape) → Known
known_after_all h k [] = k
known_after_all h k (x ∷ xs) = known_after_all h (known_after h x.moment k x.step) xs

-- the least rule that is broken at the end, with its line
abbrev pub late_at_end : Header → (moment : ℕ) → Known → Option (ℕ × Rule)
late_at_end h moment k = on h.slack None (λ slack. end.late_at_end h slack moment k.duties k.model)

-- what may be discarded is
abbrev pub forget : Known → Known
forget k = record k { model = forgetting.forget k.model }

abbrev pub after : Watched → (moment : ℕ) → Step tcp_shape → Watched
after p moment step =
    record p { world = forget (known_after p.header moment p.world step); steps = suc p.steps }

abbrev pub broken_by : Watched → (moment : ℕ) → Step tcp_shape → Option Rule
broken_by p moment step = first_broken (case_rules p.header moment p.world step)

-- the rules of a step that there may be, and the case after it
abbrev pub asked_rules : Watched → (moment : ℕ) → Option (Step tcp_shape) → List (Rule × Bool)
asked_rules p moment asked = option_map_or (case_rules p.header moment p.world) asked []

abbrev pub asked_after : Watched → (moment : ℕ) → Option (Step tcp_shape) → Watched
asked_after p moment asked = option_map_or (after p moment) asked p

-- no duty refuses a step, nor does what is kept of data in flight
pub record IsDutiful (h : Header) (moment : ℕ) (k : Known) (step : Step tcp_shape) : Type 0 where
  pub duties : first_broken (watch_rules h moment k step) ≡ None
  pub flights : refused_by h moment k step ≡ None

-- the same of each step of a run
abbrev pub Dutiful : Header → Known → List (Stamped tcp_shape) → Type 0
Dutiful h k [] = Unit {0}
Dutiful h k (x ∷ xs) = IsDutiful h x.moment k x.step × Dutiful h (known_after h x.moment k x.step) xs
