-- The less of congestion control is judged, the more is accepted: this for each step of a case.
use Rattle.std.specs.Prelude.{◌≡◌, ◌≤◌, ℕ, None}
use Rattle.case_forms.specs.declared.trace.Header.{Header}
use Rattle.case_forms.specs.declared.version.Judged.{Judged}
use Rattle.spec_network.specs.Hosts.{Step}
use Rattle.spec_tcp.specs.Machine.{tcp_shape}
use Rattle.spec_tcp_laws.specs.Judging.{IsJudged, extent, header_by, world_judged}
use Rattle.endpoint_state.specs.Worlds.{Progress, after, start}
use Rattle.spec_step.specs.Asked.{broken_by}

-- the same with another word on congestion control: in the header, and in the profile that each endpoint keeps
abbrev pub less_judged : Judged → Progress → Progress
less_judged j p = record p { header = header_by j p.header; world = world_judged j p.header p.world }

-- each endpoint keeps the profile of the header, and its window and threshold are at most the greatest: this holds at
-- the start, and after each step that breaks no rule
abbrev pub KeepsProfiles : Progress → Type 0
KeepsProfiles p = IsJudged p.header p.world

pub record ProfilesAreKept : Type 0 where
  pub starts : (h : Header) → KeepsProfiles (start h)
  pub stays : (p : Progress) (moment : ℕ) (step : Step tcp_shape) → KeepsProfiles p → broken_by p moment step ≡ None
      → KeepsProfiles (after p moment step)

-- a step that breaks no rule breaks none if less is judged; and whatever is judged, every step leads to the same world
-- but for that word
pub record LessJudgedIsMoreAccepted (j : Judged) : Type 0 where
  pub starts : (h : Header) → start (header_by j h) ≡ less_judged j (start h)
  pub accepted : (p : Progress) (moment : ℕ) (step : Step tcp_shape) → extent j ≤ extent p.header.congestion
      → KeepsProfiles p → broken_by p moment step ≡ None → broken_by (less_judged j p) moment step ≡ None
  pub same : (p : Progress) (moment : ℕ) (step : Step tcp_shape)
      → after (less_judged j p) moment step ≡ less_judged j (after p moment step)
