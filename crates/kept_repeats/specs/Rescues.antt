-- What was built isn't built again without a new reason, but for a rescue, once in a fast recovery (RFC 6298, 5.4; RFC
-- 9293, 3.8.6.1; RFC 5681, 3.2; RFC 6582, 3.2; RFC 6675, 4, NextSeg; RFC 8985, 7.3).
use Rattle.std.specs.Prelude.{◌≡◌, ◌+◌, ◌<◌, ◌≤◌, ℕ, suc, true, List}
use Rattle.case_forms.specs.declared.steps.SegmentPlan.{SegmentPlan}
use Rattle.case_forms.specs.declared.timer.RecoveryChange.TheVariants.{Begins, IsUndone}
use Rattle.case_forms.specs.declared.timer.Timer.TheVariants.{Persist, Pto, Rto}
use Rattle.case_forms.specs.declared.trace.Header.{Header}
use Rattle.spec_network.specs.Hosts.{Stamped}
use Rattle.spec_tcp.specs.Machine.{tcp_shape}
use Rattle.spec_tcp.specs.Makes.Payload.{making_length}
use Rattle.spec_tcp.specs.declared.endpoint.EndpointId.{EndpointId}
use Rattle.spec_duties.specs.declared.events.Event.TheVariants.{Expires, Recovers}
use Rattle.spec_flights.specs.Flights.{sends_nothing_new}
use Rattle.kept_flights.specs.Places.{seen_before}
use Rattle.kept_flights.specs.Reasons.{AcknowledgesPart, BeginsAt, Did, HasLoneSyn, HasSecondSyn, Never, OpensProbed}
use Rattle.kept_flights.specs.Reported.{BothPermit, HasBegunRecovery, Holds, IsBuilt}
use Rattle.kept_repeats.specs.Deliveries.{BuildsAt, IsLost, ReportsAt}

-- by the `M` step at this place, the endpoint builds a segment that holds some positions
abbrev pub BuildsSome : Header → List (Stamped tcp_shape) → EndpointId → (place : ℕ) → Type 0
BuildsSome h xs me place = (m : SegmentPlan) × IsBuilt h xs place me m × (0 < making_length m)

-- a segment that is built at the second place is the probe that the line of a timer made due after the first: the first
-- segment since that line, and the end of all that was sent (RFC 8985, 7.3)
pub record IsProbe (h : Header) (xs : List (Stamped tcp_shape)) (me : EndpointId) (m : SegmentPlan) (from to : ℕ)
    : Type 0 where
  pub expired : ℕ
  pub after : from < expired
  pub before : expired < to
  pub expires : Did h xs me (Expires Pto) expired
  pub is_first : Never expired to (BuildsSome h xs me)
  pub ends : m.pos + making_length m ≡ (seen_before h xs to me).snd_max

-- in fast recovery, a segment acknowledges a part, and not both SYNs permitted selective acknowledgments
abbrev pub AcknowledgesPlainly : Header → List (Stamped tcp_shape) → EndpointId → (position place : ℕ) → Type 0
AcknowledgesPlainly h xs me position place =
    (BothPermit h xs place me → ⊥) × AcknowledgesPart h xs me position place

-- an endpoint builds a position at two places, and between them nothing happens for which it may: no timeout, no
-- opening of its window, no loss, and no line of a timer that makes a probe due. Only its own SYN goes again for its
-- peer's
pub record IsRepeat (h : Header) (xs : List (Stamped tcp_shape)) (me : EndpointId) (m : SegmentPlan)
    (first again : ℕ) : Type 0 where
  pub order : first < again
  pub position : ℕ
  pub built : BuildsAt h xs me position first
  pub built_again : IsBuilt h xs again me m
  pub held : Holds m position
  pub no_timeout : Never first again (Did h xs me (Expires Rto))
  pub no_persist_timeout : Never first again (Did h xs me (Expires Persist))
  pub no_opening : Never first again (OpensProbed h xs me)
  pub no_recovery : Never first again (BeginsAt h xs me position)
  pub no_part : Never first again (AcknowledgesPlainly h xs me position)
  pub no_lone_syn : position ≡ 0 → Never first again (HasLoneSyn h xs me)
  pub no_second_syn : position ≡ 0 → Never first again (HasSecondSyn h xs me)
  pub no_loss : IsLost h xs me first again → ⊥
  pub no_probe : IsProbe h xs me m first again → ⊥

-- before a place, a block reported a position
abbrev pub WasReported : Header → List (Stamped tcp_shape) → EndpointId → (position place : ℕ) → Type 0
WasReported h xs me position place =
    (reported : ℕ) × (reported < place) × ReportsAt h xs me position reported

-- a segment that is built at a place may be a rescue: both SYNs permitted selective acknowledgments; the endpoint is in
-- fast recovery, which wasn't undone; nothing new may be sent; and all that was sent and follows the segment was
-- reported (RFC 6675, 4, NextSeg, 4)
pub record IsRescue (h : Header) (xs : List (Stamped tcp_shape)) (me : EndpointId) (m : SegmentPlan) (place : ℕ)
    : Type 0 where
  pub both : BothPermit h xs place me
  pub recovery : HasBegunRecovery h xs place me
  pub no_undo : Never recovery.begun place (Did h xs me (Recovers IsUndone))
  pub part : (seen_before h xs place me).snd_una < (seen_before h xs (suc recovery.begun) me).snd_max
  pub nothing_new : sends_nothing_new (seen_before h xs place me) ≡ true
  pub is_last : (position : ℕ) → m.pos + making_length m ≤ position → position < (seen_before h xs place me).snd_max
      → WasReported h xs me position place

-- what is built again without such a reason is a rescue
abbrev pub RepeatsAreRescues : Header → List (Stamped tcp_shape) → Type 0
RepeatsAreRescues h xs =
    (first again : ℕ) (me : EndpointId) (m : SegmentPlan) → IsRepeat h xs me m first again
    → IsRescue h xs me m again

-- between two of them, fast recovery begins anew
abbrev pub RescuesComeOnce : Header → List (Stamped tcp_shape) → Type 0
RescuesComeOnce h xs =
    (first again other later : ℕ) (me : EndpointId) (m n : SegmentPlan) → IsRepeat h xs me m first again
    → IsRepeat h xs me n other later → again < later
    → (begun : ℕ) × (again < begun) × (begun < later) × Did h xs me (Recovers Begins) begun
