-- Where not both SYNs permitted selective acknowledgments, what was built isn't built again without a new reason (RFC
-- 6298, 5.4; RFC 5681, 3.2; RFC 6582, 3.2; RFC 9293, 3.8.6.1).
use Rattle.std.specs.Prelude.{◌≡◌, ℕ, suc, ◌+◌, ◌<◌, ◌≤◌, Bool, true, List}
use Rattle.case_forms.specs.declared.steps.SegmentPlan.{SegmentPlan}
use Rattle.case_forms.specs.declared.timer.RecoveryChange.TheVariants.{Begins, IsUndone}
use Rattle.case_forms.specs.declared.timer.Timer.TheVariants.{Persist, Rto}
use Rattle.case_forms.specs.declared.trace.Header.{Header}
use Rattle.spec_network.specs.Hosts.{Stamped}
use Rattle.spec_tcp.specs.Machine.{tcp_shape}
use Rattle.spec_tcp.specs.declared.endpoint.EndpointId.{EndpointId}
use Rattle.spec_duties.specs.Events.{acknowledges_more}
use Rattle.spec_duties.specs.declared.events.Event.{Event}
use Rattle.spec_duties.specs.declared.events.Event.TheVariants.{Expires, Processes, Recovers}
use Rattle.spec_duties.specs.declared.observations.SynChange.TheVariants as syn_change
use Rattle.spec_duties.specs.declared.views.View.{View}
use Rattle.spec_flights.specs.Marks.{opens_probed}
use Rattle.kept_flights.specs.Places.{Happens, observed, seen_before}
use Rattle.kept_flights.specs.Reported.{BothPermit, HasBegunRecovery, HasSyn, Holds, IsBuilt}

-- none of the places between two has this property
abbrev pub Never : (from to : ℕ) → (ℕ → Type 0) → Type 0
Never from to P = (place : ℕ) → from < place → place < to → P place → ⊥

-- the step at a place does this at an endpoint
abbrev pub Did : Header → List (Stamped tcp_shape) → EndpointId → Event → (place : ℕ) → Type 0
Did h xs me event place = (before : View) × Happens (observed h xs place) me event before

-- it opens the window of an endpoint whose persist timer runs (RFC 9293, 3.8.6.1)
pub record OpensProbed (h : Header) (xs : List (Stamped tcp_shape)) (me : EndpointId) (place : ℕ) : Type 0 where
  pub length : ℕ
  pub rst : Bool
  pub before : View
  pub happens : Happens (observed h xs place) me (Processes length rst) before
  pub opens : opens_probed before (seen_before h xs (suc place) me) ≡ true

-- a position is in the first segment of what is outstanding: "the lost segment starting at SND.UNA" (RFC 5681, 3.2,
-- step 3)
abbrev pub InFirst : View → (position : ℕ) → Type 0
InFirst v position = (v.snd_una ≤ position) × (position < v.snd_una + v.smss)

-- fast recovery begins, and a position is in the first segment then
pub record BeginsAt (h : Header) (xs : List (Stamped tcp_shape)) (me : EndpointId) (position place : ℕ) : Type 0 where
  pub begins : Did h xs me (Recovers Begins) place
  pub first : InFirst (seen_before h xs (suc place) me) position

-- in fast recovery, which wasn't undone, the step acknowledges more, but not all that was sent when it began; and a
-- position is in the first segment then (RFC 6582, 3.2, step 3)
pub record AcknowledgesPart (h : Header) (xs : List (Stamped tcp_shape)) (me : EndpointId) (position place : ℕ)
    : Type 0 where
  pub length : ℕ
  pub rst : Bool
  pub before : View
  pub happens : Happens (observed h xs place) me (Processes length rst) before
  pub more : acknowledges_more before (seen_before h xs (suc place) me) ≡ true
  pub recovery : HasBegunRecovery h xs place me
  pub no_undo : Never recovery.begun place (Did h xs me (Recovers IsUndone))
  pub part : (seen_before h xs (suc place) me).snd_una < (seen_before h xs (suc recovery.begun) me).snd_max
  pub first : InFirst (seen_before h xs (suc place) me) position

-- the peer's SYN comes without acknowledging that of the endpoint, or comes again (RFC 9293, 3.10.7.3 and 3.10.7.4)
abbrev pub HasLoneSyn : Header → List (Stamped tcp_shape) → EndpointId → (place : ℕ) → Type 0
HasLoneSyn h xs me place = (permits : Bool) × HasSyn h xs place me (syn_change.Takes permits true)

abbrev pub HasSecondSyn : Header → List (Stamped tcp_shape) → EndpointId → (place : ℕ) → Type 0
HasSecondSyn h xs me place = HasSyn h xs place me syn_change.ComesAgain

-- between two places, nothing happens for which the endpoint may send a position again; only its own SYN goes again
-- for its peer's
pub record NoReason (h : Header) (xs : List (Stamped tcp_shape)) (from to : ℕ) (me : EndpointId) (position : ℕ)
    : Type 0 where
  pub no_timeout : Never from to (Did h xs me (Expires Rto))
  pub no_persist_timeout : Never from to (Did h xs me (Expires Persist))
  pub no_opening : Never from to (OpensProbed h xs me)
  pub no_recovery : Never from to (BeginsAt h xs me position)
  pub no_part : Never from to (AcknowledgesPart h xs me position)
  pub no_lone_syn : position ≡ 0 → Never from to (HasLoneSyn h xs me)
  pub no_second_syn : position ≡ 0 → Never from to (HasSecondSyn h xs me)

-- unless both SYNs permitted selective acknowledgments, a position that was built isn't built again without a reason
-- since then
abbrev pub RepeatsHaveReasons : Header → List (Stamped tcp_shape) → Type 0
RepeatsHaveReasons h xs =
    (first again position : ℕ) (me : EndpointId) (m n : SegmentPlan) → first < again
    → (BothPermit h xs again me → ⊥) → IsBuilt h xs first me m → Holds m position
    → IsBuilt h xs again me n → Holds n position → NoReason h xs first again me position → ⊥
