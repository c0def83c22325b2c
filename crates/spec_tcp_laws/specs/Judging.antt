-- If less of congestion control is judged, no more rules are broken, and the same follows from each step.
use Rattle.std.specs.Prelude.{◌≡◌, ◌≤◌, ℕ, List, map, Some, None}
use Rattle.case_forms.specs.declared.steps.Step as witness
use Rattle.case_forms.specs.declared.trace.Header.{Header}
use Rattle.case_forms.specs.declared.trace.Line as lines
use Rattle.case_forms.specs.declared.version.Judged.{Judged}
use Rattle.case_forms.specs.declared.version.Judged.TheVariants.{Full, Recovery, NoControl}
use Rattle.window_rules.specs.ControlLaws.{IsLimited}
use Rattle.window_rules.specs.Judging.{with_profile}
use Rattle.window_rules.specs.declared.control.Profile.{Profile}
use Rattle.spec_network.specs.Hosts.{HostState, Stamped, Step, World}
use Rattle.spec_network.specs.HostRules.{Permitted}
use Rattle.spec_network.specs.HostSteps.{after, after_all, start, Lawful}
use Rattle.spec_tcp.specs.HostTcp.{HostTcp}
use Rattle.spec_tcp.specs.Machine.{tcp, tcp_shape}
use Rattle.spec_tcp.specs.Signals.{profile_of}
use Rattle.spec_tcp.specs.Steps.{first_broken_step}
use Rattle.spec_tcp.specs.declared.endpoint.Endpoint.{Endpoint}
use Rattle.spec_tcp.specs.declared.endpoint.EndpointId.{EndpointId}
use Rattle.spec_tcp_laws.specs.Bounds.{ProfilesAreNamed}
use Rattle.spec_tcp_laws.specs.Consequences.{find}

-- how much is judged: the greater the number, the more
abbrev pub extent : Judged → ℕ
extent Full = 2
extent Recovery = 1
extent NoControl = 0

-- the same header with another extent of congestion control
abbrev pub header_by : Judged → Header → Header
header_by j h = record h { congestion = j }

-- the same endpoint, host and world, with the congestion control of each endpoint following this profile
abbrev pub endpoint_by : Profile → Endpoint → Endpoint
endpoint_by p e = record e { control = with_profile p e.control }

abbrev pub body_by : Profile → HostTcp → HostTcp
body_by p b = record b { endpoints = map (endpoint_by p) b.endpoints }

abbrev pub host_by : Profile → HostState tcp_shape → HostState tcp_shape
host_by p s = record s { body = body_by p s.body }

abbrev pub world_by : Profile → World tcp_shape → World tcp_shape
world_by p w = record w { hosts = record { zero = host_by p w.hosts.zero; one = host_by p w.hosts.one } }

-- the same world with another extent of congestion control
abbrev pub world_judged : Judged → Header → World tcp_shape → World tcp_shape
world_judged j h w = world_by (profile_of (header_by j h)) w

-- no congestion window and no threshold is above the greatest
abbrev pub ValuesAreLimited : World tcp_shape → Type 0
ValuesAreLimited w = (me : EndpointId) (e : Endpoint) → find w.hosts me ≡ Some e → IsLimited e.control

-- a world in which each endpoint follows the profile of the header, with such values: this holds of the start, and of
-- the world after each permitted step
pub record IsJudged (h : Header) (w : World tcp_shape) : Type 0 where
  pub profiles : ProfilesAreNamed h w
  pub values : ValuesAreLimited w

pub record JudgedStays (h : Header) : Type 0 where
  pub starts : IsJudged h (start (tcp h))
  pub stays : (moment : ℕ) (w : World tcp_shape) (step : Step tcp_shape) → IsJudged h w
      → Permitted (tcp h) moment w step
      → IsJudged h (after (tcp h) moment w step)

-- if less is judged, a permitted step is permitted, and every step leads to the same world except for that extent
pub record LessIsJudged (h : Header) (j : Judged) : Type 0 where
  pub start_is : start (tcp (header_by j h)) ≡ world_judged j h (start (tcp h))
  pub permits : extent j ≤ extent h.congestion → (moment : ℕ) (w : World tcp_shape) (step : Step tcp_shape)
      → IsJudged h w → Permitted (tcp h) moment w step
      → Permitted (tcp (header_by j h)) moment (world_judged j h w) step
  pub next : (moment : ℕ) (w : World tcp_shape) (step : Step tcp_shape)
      → after (tcp (header_by j h)) moment (world_judged j h w) step
      ≡ world_judged j h (after (tcp h) moment w step)

-- so a run is a run, and ends in the same world except for that extent
pub record RunsWithLessJudged (h : Header) (j : Judged) : Type 0 where
  pub lawful : extent j ≤ extent h.congestion → (steps : List (Stamped tcp_shape))
      → Lawful (tcp h) (start (tcp h)) steps
      → Lawful (tcp (header_by j h)) (start (tcp (header_by j h))) steps
  pub ends : (steps : List (Stamped tcp_shape)) → after_all (tcp (header_by j h)) (start (tcp (header_by j h))) steps
      ≡ world_judged j h (after_all (tcp h) (start (tcp h)) steps)
  pub unbroken : extent j ≤ extent h.congestion → (all : List lines.Line) (steps : List witness.Step)
      → first_broken_step h all steps ≡ None → first_broken_step (header_by j h) all steps ≡ None
