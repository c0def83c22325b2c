-- What a block reported isn't sent again in fast recovery (RFC 2018, 5 and 8; RFC 6675, 4, NextSeg).
use Rattle.std.specs.Prelude.{◌≡◌, ◌+◌, ◌<◌, ◌≤◌, ℕ, nat_le, nat_lt, Bool, true, false, ◌&&◌, ◌||◌, List, Option}
use Rattle.std.specs.Option.{option_map_or}
use Rattle.case_forms.specs.declared.timer.RecoveryChange.TheVariants.{Begins}
use Rattle.case_forms.specs.declared.steps.SegmentPlan.{SegmentPlan}
use Rattle.case_forms.specs.declared.steps.TakeChoice.{TakeChoice}
use Rattle.case_forms.specs.declared.timer.Timer.TheVariants.{Rto}
use Rattle.case_forms.specs.declared.trace.Header.{Header}
use Rattle.spec_network.specs.Hosts.{Makes, Stamped, Takes}
use Rattle.spec_tcp.specs.Machine.{tcp_shape}
use Rattle.spec_tcp.specs.Makes.Payload.{making_length}
use Rattle.spec_tcp.specs.declared.endpoint.EndpointId.{EndpointId}
use Rattle.spec_duties.specs.Strict.{is_fin_alone}
use Rattle.spec_duties.specs.declared.events.Event.{Event}
use Rattle.spec_duties.specs.declared.events.Event.TheVariants.{Builds, Expires, Recovers}
use Rattle.spec_duties.specs.declared.observations.Block.{Block}
use Rattle.spec_duties.specs.declared.observations.Blocks.{Blocks}
use Rattle.spec_duties.specs.declared.observations.SynChange.{SynChange}
use Rattle.spec_duties.specs.declared.observations.SynChange.TheVariants as syn_change
use Rattle.spec_duties.specs.declared.views.View.{View}
use Rattle.kept_flights.specs.Places.{Happens, IsStep, observed, seen_before}

-- a step of the endpoint sends or takes a SYN
abbrev pub HasSyn : Header → List (Stamped tcp_shape) → (place : ℕ) → EndpointId → SynChange → Type 0
HasSyn h xs place me change =
    (event : Event) × (before : View) × Happens (observed h xs place) me event before
    × ((observed h xs place).syn_change ≡ change)

-- before this place, the endpoint sent a SYN that permitted selective acknowledgments, and took a SYN that did (RFC
-- 2018, 2)
pub record BothPermit (h : Header) (xs : List (Stamped tcp_shape)) (place : ℕ) (me : EndpointId) : Type 0 where
  pub sent : ℕ
  pub sent_before : sent < place
  pub sends : HasSyn h xs sent me (syn_change.Sends true)
  pub taken : ℕ
  pub taken_before : taken < place
  pub alone : Bool
  pub takes : HasSyn h xs taken me (syn_change.Takes true alone)

-- a block reports a position (RFC 2018, 3)
abbrev pub is_within : (position : ℕ) → Option Block → Bool
is_within position block = option_map_or (λ k. nat_le k.from position && nat_lt position k.upto) block false

abbrev pub reports : Blocks → (position : ℕ) → Bool
reports b position =
    is_within position b.first || is_within position b.second || is_within position b.third
    || is_within position b.fourth

-- by the `T` step at this place, the endpoint processes a segment with a block that reports a position
pub record IsReported (h : Header) (xs : List (Stamped tcp_shape)) (place : ℕ) (me : EndpointId) (position : ℕ)
    : Type 0 where
  pub line : ℕ
  pub choice : TakeChoice
  pub step : IsStep xs place me.host (Takes line choice)
  pub event : Event
  pub before : View
  pub happens : Happens (observed h xs place) me event before
  pub reports : reports (observed h xs place).blocks position ≡ true

-- a segment that is built holds a position
abbrev pub Holds : SegmentPlan → (position : ℕ) → Type 0
Holds m position = (m.pos ≤ position) × (position < m.pos + making_length m)

-- between two places, a position is neither built nor acknowledged
pub record StaysOut (h : Header) (xs : List (Stamped tcp_shape)) (from to : ℕ) (me : EndpointId) (position : ℕ)
    : Type 0 where
  pub unbuilt : (place : ℕ) (m : SegmentPlan) (before : View) → from < place → place < to
      → Happens (observed h xs place) me (Builds m) before → Holds m position → ⊥
  pub unacknowledged : (seen_before h xs to me).snd_una ≤ position

-- before this place, the endpoint began fast recovery, and its retransmission timer hasn't expired since
pub record HasBegunRecovery (h : Header) (xs : List (Stamped tcp_shape)) (place : ℕ) (me : EndpointId) : Type 0 where
  pub begun : ℕ
  pub begun_before : begun < place
  pub before : View
  pub begins : Happens (observed h xs begun) me (Recovers Begins) before
  pub no_timeout : (later : ℕ) (view : View) → begun < later → later < place
      → Happens (observed h xs later) me (Expires Rto) view → ⊥

-- by the `M` step at this place, the endpoint builds a segment, but not its FIN alone that it sent before
pub record IsBuilt (h : Header) (xs : List (Stamped tcp_shape)) (place : ℕ) (me : EndpointId) (m : SegmentPlan)
    : Type 0 where
  pub step : IsStep xs place me.host (Makes m)
  pub before : View
  pub happens : Happens (observed h xs place) me (Builds m) before
  pub no_fin_alone : is_fin_alone m before ≡ false

-- once fast recovery began, and until a timeout, what was reported isn't built, if it is neither acknowledged nor built
-- since the report
abbrev pub WhatWasReportedStays : Header → List (Stamped tcp_shape) → Type 0
WhatWasReportedStays h xs =
    (reported again position : ℕ) (me : EndpointId) (m : SegmentPlan) → reported < again
    → BothPermit h xs reported me → IsReported h xs reported me position
    → StaysOut h xs reported again me position → HasBegunRecovery h xs again me
    → IsBuilt h xs again me m → Holds m position → ⊥
