-- What is lost, since something was delivered that was built later (RFC 6675, 4, IsLost; RFC 8985, 6.2, step 5).
use Rattle.std.specs.Prelude.{◌≡◌, ◌<◌, ◌≤◌, ◌⊎◌, ℕ, suc, false, true, List}
use Rattle.case_forms.specs.declared.steps.SegmentPlan.{SegmentPlan}
use Rattle.case_forms.specs.declared.timer.RecoveryChange.TheVariants.{Begins, IsUndone}
use Rattle.case_forms.specs.declared.timer.Timer.TheVariants.{Rto}
use Rattle.case_forms.specs.declared.trace.Header.{Header}
use Rattle.spec_network.specs.Hosts.{Stamped}
use Rattle.spec_tcp.specs.Machine.{tcp_shape}
use Rattle.spec_tcp.specs.declared.endpoint.EndpointId.{EndpointId}
use Rattle.spec_duties.specs.declared.events.Event.TheVariants.{Expires, Processes, Recovers}
use Rattle.spec_duties.specs.declared.views.View.{View}
use Rattle.kept_flights.specs.Places.{Happens, observed, seen_before}
use Rattle.kept_flights.specs.Reasons.{Did, Never}
use Rattle.kept_flights.specs.Reported.{Holds, IsBuilt, reports}

-- by the `M` step at this place, the endpoint builds a segment that holds a position
abbrev pub BuildsAt : Header → List (Stamped tcp_shape) → EndpointId → (position place : ℕ) → Type 0
BuildsAt h xs me position place = (m : SegmentPlan) × IsBuilt h xs place me m × Holds m position

-- of the segments with a position that the endpoint built before a place, it built the last one at another
pub record IsLast (h : Header) (xs : List (Stamped tcp_shape)) (me : EndpointId) (position built place : ℕ)
    : Type 0 where
  pub before : built < place
  pub builds : BuildsAt h xs me position built
  pub not_since : Never built place (BuildsAt h xs me position)

-- by the `T` step at this place, the endpoint processes a segment that isn't a reset, and a block of it reports a
-- position
abbrev pub ReportsAt : Header → List (Stamped tcp_shape) → EndpointId → (position place : ℕ) → Type 0
ReportsAt h xs me position place =
    (length : ℕ) × (before : View) × Happens (observed h xs place) me (Processes length false) before
    × (reports (observed h xs place).blocks position ≡ true)

-- by such a step, a position is acknowledged
abbrev pub AcknowledgesAt : Header → List (Stamped tcp_shape) → EndpointId → (position place : ℕ) → Type 0
AcknowledgesAt h xs me position place =
    (length : ℕ) × (before : View) × Happens (observed h xs place) me (Processes length false) before
    × (before.snd_una ≤ position) × (position < (seen_before h xs (suc place) me).snd_una)

-- one or the other
abbrev pub DeliversAt : Header → List (Stamped tcp_shape) → EndpointId → (position place : ℕ) → Type 0
DeliversAt h xs me position place = AcknowledgesAt h xs me position place ⊎ ReportsAt h xs me position place

-- between two places, something is delivered that was built after the first of them
pub record DeliversLater (h : Header) (xs : List (Stamped tcp_shape)) (me : EndpointId) (from to : ℕ) : Type 0 where
  pub position : ℕ
  pub built : ℕ
  pub later : from < built
  pub delivered : ℕ
  pub last : IsLast h xs me position built delivered
  pub delivers : DeliversAt h xs me position delivered
  pub before : delivered < to

-- the endpoint recovers from a loss: before this place, its timer expired or fast recovery began, and not all is
-- acknowledged that was sent then (RFC 6582, 3.2; RFC 6675, 5)
pub record Recovering (h : Header) (xs : List (Stamped tcp_shape)) (place : ℕ) (me : EndpointId) : Type 0 where
  pub begun : ℕ
  pub begun_before : begun < place
  pub begins : Did h xs me (Expires Rto) begun ⊎ Did h xs me (Recovers Begins) begun
  pub no_undo : Never begun place (Did h xs me (Recovers IsUndone))
  pub part : (seen_before h xs place me).snd_una < (seen_before h xs (suc begun) me).snd_max

-- what was built last at one place is lost at another, where the endpoint recovers
pub record IsLost (h : Header) (xs : List (Stamped tcp_shape)) (me : EndpointId) (from to : ℕ) : Type 0 where
  pub recovers : Recovering h xs to me
  pub later : DeliversLater h xs me from to
