-- What a core knows of the endpoints that it doesn't visit: nothing may be made there, and no timer is due that they
-- have to keep.
use Rattle.std.specs.Prelude.{◌≡◌, ◌≤◌, ◌<◌, ◌+◌, ℕ, min, true, false, List, Option, None, Some}
use Rattle.case_forms.specs.declared.steps.SegmentPlan.{SegmentPlan}
use Rattle.case_forms.specs.declared.taken_line.Expired.{Expired}
use Rattle.case_forms.specs.declared.timer.Timer.{Timer}
use Rattle.case_forms.specs.TakenLines.{timer_of}
use Rattle.case_forms.specs.declared.trace.Header.{Header}
use Rattle.case_forms.specs.declared.version.Version.{Version}
use Rattle.verdict.specs.Rules.{first_broken}
use Rattle.spec_network.specs.Tables.{pick}
use Rattle.timer_rules.specs.Timers.{earliest}
use Rattle.spec_tcp.specs.declared.endpoint.Endpoint.{Endpoint}
use Rattle.spec_tcp.specs.Endpoints.{snd_max}
use Rattle.spec_tcp.specs.Forgetting.{forget_body}
use Rattle.spec_tcp.specs.Makes.{making_rules}
use Rattle.spec_tcp.specs.Makes.Payload.{making_length}
use Rattle.spec_tcp.specs.Timeouts.{expiry_rules}
use Rattle.stack_core.specs.declared.deadline_queue.DeadlineQueue.{DeadlineQueue}
use Rattle.stack_core.specs.declared.deadline_queue.Deadline.{Deadline}
use Rattle.stack_core.specs.DeadlineQueues.{AreCovered}
use Rattle.stack_core.specs.Recordings.{Recorded, world_left}
use Rattle.stack_core.specs.TimerEvents.{is_kept}

-- the endpoint makes nothing without RST that takes new positions, in any version
abbrev pub IsQuiet : Endpoint → Type 0
IsQuiet e =
    (v : Version) (m : SegmentPlan) → m.flags.rst ≡ false → snd_max e < m.pos + making_length m
    → first_broken (making_rules v e m) ≡ None → ⊥

-- none of the timers that it has to keep may expire at this moment
abbrev pub IsStillAt : Header → ℕ → Endpoint → Type 0
IsStillAt h moment e =
    (x : Expired) → is_kept (timer_of x) ≡ true → first_broken (expiry_rules h moment e x) ≡ None → ⊥

-- before a moment, and ever
abbrev pub IsStillBefore : Header → ℕ → Endpoint → Type 0
IsStillBefore h m e = (moment : ℕ) → moment < m → IsStillAt h moment e

abbrev pub IsStill : Header → Endpoint → Type 0
IsStill h e = (moment : ℕ) → IsStillAt h moment e

-- endpoints that aren't to be visited make nothing
abbrev pub AreQuiet : ℕ → List Deadline → List Endpoint → Type 0
AreQuiet looked entries es = AreCovered (λ m e. Unit {0}) IsQuiet looked entries es

-- those that aren't to be visited yet have no timer to keep that is due
abbrev pub AreTimed : Header → ℕ → List Deadline → List Endpoint → Type 0
AreTimed h looked entries es = AreCovered (IsStillBefore h) (IsStill h) looked entries es

-- what is kept of a recording's endpoints
abbrev pub kept_ends : Recorded → List Endpoint
kept_ends r = (forget_body (pick (world_left r).hosts r.me).body).endpoints

-- both of a core
pub record IsTended (r : Recorded) (ready wakes : DeadlineQueue) : Type 0 where
  pub quiet : AreQuiet ready.looked ready.entries.keys (kept_ends r)
  pub timed : AreTimed r.header wakes.looked wakes.entries.keys (kept_ends r)

-- the lesser of two moments, if both exist; else the one that does
abbrev pub least : Option ℕ → Option ℕ → Option ℕ
least None other = other
least (Some one) None = Some one
least (Some one) (Some other) = Some (min one other)

-- a timer that is armed since a moment, or not at all, may expire at the earliest then, or later
abbrev pub IsDueSince : Option ℕ → (time grain : ℕ) → Option ℕ → Type 0
IsDueSince armed time grain None = armed ≡ None
IsDueSince armed time grain (Some m) = (since : ℕ) × (armed ≡ Some since) × (m ≤ earliest since time grain)

-- one timer may not expire before a moment, or never
abbrev pub IsSlow : Header → Endpoint → Timer → Option ℕ → Type 0
IsSlow h e timer None =
    (moment : ℕ) (x : Expired) → timer_of x ≡ timer → first_broken (expiry_rules h moment e x) ≡ None → ⊥
IsSlow h e timer (Some m) =
    (moment : ℕ) (x : Expired) → timer_of x ≡ timer → moment < m → first_broken (expiry_rules h moment e x) ≡ None → ⊥
