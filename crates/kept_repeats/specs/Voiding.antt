-- What a block reported isn't sent again, unless the retransmission timer expired since (RFC 2018, 5 and 8).
use Rattle.std.specs.Prelude.{◌≡◌, ◌<◌, ℕ, List}
use Rattle.case_forms.specs.declared.steps.SegmentPlan.{SegmentPlan}
use Rattle.case_forms.specs.declared.timer.RecoveryChange.TheVariants.{Begins, IsUndone}
use Rattle.case_forms.specs.declared.timer.Timer.TheVariants.{Rto}
use Rattle.case_forms.specs.declared.trace.Header.{Header}
use Rattle.spec_network.specs.Hosts.{Stamped}
use Rattle.spec_tcp.specs.Machine.{tcp_shape}
use Rattle.spec_tcp.specs.declared.endpoint.EndpointId.{EndpointId}
use Rattle.spec_duties.specs.declared.events.Event.TheVariants.{Expires, Recovers}
use Rattle.kept_flights.specs.Reasons.{Did, HasSecondSyn, Never}
use Rattle.kept_flights.specs.Reported.{BothPermit, Holds, IsBuilt, IsReported, StaysOut}

-- between two places, the retransmission timer expires; from then on, fast recovery doesn't begin, and no recovery is
-- undone
pub record IsVoided (h : Header) (xs : List (Stamped tcp_shape)) (from to : ℕ) (me : EndpointId) : Type 0 where
  pub expired : ℕ
  pub after : from < expired
  pub before : expired < to
  pub expires : Did h xs me (Expires Rto) expired
  pub no_recovery : Never expired to (Did h xs me (Recovers Begins))
  pub no_undo : Never expired to (Did h xs me (Recovers IsUndone))

-- what was reported is built again only after a timeout, if it is neither acknowledged nor built since the report; but
-- the endpoint's own SYN goes again when its peer's comes again
abbrev pub OnlyTimeoutsVoidReports : Header → List (Stamped tcp_shape) → Type 0
OnlyTimeoutsVoidReports h xs =
    (reported again position : ℕ) (me : EndpointId) (m : SegmentPlan) → reported < again
    → BothPermit h xs reported me → IsReported h xs reported me position → StaysOut h xs reported again me position
    → (position ≡ 0 → Never reported again (HasSecondSyn h xs me)) → IsBuilt h xs again me m → Holds m position
    → IsVoided h xs reported again me
