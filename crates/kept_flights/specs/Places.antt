-- The steps of a run by their places, and what they do at an endpoint.
use Rattle.std.specs.Prelude.{◌≡◌, ℕ, take, slice_get, List, Some}
use Rattle.std.specs.Option.{option_map_or}
use Rattle.case_forms.specs.declared.calls.Host.{Host}
use Rattle.case_forms.specs.declared.trace.Header.{Header}
use Rattle.spec_network.specs.Hosts.{At, HostStep, Stamped, World}
use Rattle.spec_tcp.specs.Machine.{tcp_shape}
use Rattle.spec_tcp.specs.declared.endpoint.EndpointId.{EndpointId}
use Rattle.spec_tcp_laws.specs.Consequences.{find}
use Rattle.spec_tcp_laws.specs.Runs.{world_at_end}
use Rattle.spec_duties.specs.Observations.{observe, unseen}
use Rattle.spec_duties.specs.Views.{unborn, view_of}
use Rattle.spec_duties.specs.declared.events.Event.{Event}
use Rattle.spec_duties.specs.declared.observations.Observation.{Observation}
use Rattle.spec_duties.specs.declared.views.View.{View}

-- the step at this place is this step of a host
abbrev pub IsStep : List (Stamped tcp_shape) → (place : ℕ) → Host → HostStep tcp_shape → Type 0
IsStep xs place host step =
    (moment : ℕ) × (slice_get xs place ≡ Some (record { moment = moment; step = At host step }))

-- the model's world before the step at a place
abbrev pub world_before : Header → List (Stamped tcp_shape) → (place : ℕ) → World tcp_shape
world_before h xs place = world_at_end h (take place xs)

-- an endpoint before that step
abbrev pub seen_before : Header → List (Stamped tcp_shape) → (place : ℕ) → EndpointId → View
seen_before h xs place me = option_map_or view_of (find (world_before h xs place).hosts me) unborn

-- what that step shows, as `observe` has it of the model
abbrev pub observed : Header → List (Stamped tcp_shape) → (place : ℕ) → Observation
observed h xs place =
    option_map_or (λ x. observe h x.moment (world_before h xs place) x.step) (slice_get xs place) unseen

-- a step does this at an endpoint, which was like this before
abbrev pub Happens : Observation → EndpointId → Event → (before : View) → Type 0
Happens s me event before =
    s.touched ≡ Some (record { host = me.host; place = me.number; event = event; before = before })
