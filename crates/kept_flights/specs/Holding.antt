-- The blocks of selective acknowledgments that are sent are true (RFC 2018, 2 to 4).
use Rattle.std.specs.Prelude.{◌≡◌, ◌<◌, ◌≤◌, ◌⊎◌, ℕ, true, Bool, List, Option, Some, slice_get}
use Rattle.std.specs.Option.{option_and_then}
use Rattle.seqno.specs.Near.{near_position}
use Rattle.seqno.specs.declared.word.Word.{Word}
use Rattle.segment.specs.Reading.{sack_blocks}
use Rattle.segment.specs.declared.options.SackBlock.{SackBlock}
use Rattle.case_forms.specs.declared.steps.TakeChoice.{TakeChoice}
use Rattle.case_forms.specs.declared.trace.Header.{Header}
use Rattle.case_forms.specs.declared.trace.Wire.{Wire}
use Rattle.spec_network.specs.Hosts.{Sends, Stamped, Takes}
use Rattle.spec_tcp.specs.Machine.{tcp_shape}
use Rattle.spec_tcp.specs.declared.endpoint.EndpointId.{EndpointId}
use Rattle.spec_tcp_laws.specs.Consequences.{find}
use Rattle.spec_duties.specs.declared.events.Event.{Event}
use Rattle.spec_duties.specs.declared.observations.SynChange.TheVariants as syn_change
use Rattle.spec_duties.specs.declared.views.View.{View}
use Rattle.kept_flights.specs.Places.{Happens, IsStep, observed, seen_before, world_before}
use Rattle.kept_flights.specs.Reported.{HasSyn}

-- by the `O` line at this place, the endpoint sends a segment with these bytes; a reset in answer to a segment has no
-- endpoint
pub record IsSent (h : Header) (xs : List (Stamped tcp_shape)) (place : ℕ) (me : EndpointId) (wire : Wire)
    : Type 0 where
  pub line : ℕ
  pub number : ℕ
  pub step : IsStep xs place me.host (Sends line number wire)
  pub event : Event
  pub before : View
  pub happens : Happens (observed h xs place) me event before

-- before this place, the endpoint took a SYN that permitted selective acknowledgments (RFC 2018, 2)
pub record PeerPermits (h : Header) (xs : List (Stamped tcp_shape)) (place : ℕ) (me : EndpointId) : Type 0 where
  pub taken : ℕ
  pub earlier : taken < place
  pub alone : Bool
  pub takes : HasSyn h xs taken me (syn_change.Takes true alone)

-- before this place, a `T` step of the endpoint kept a position of its peer's stream
pub record WasKept (h : Header) (xs : List (Stamped tcp_shape)) (place : ℕ) (me : EndpointId) (position : ℕ)
    : Type 0 where
  pub kept : ℕ
  pub earlier : kept < place
  pub line : ℕ
  pub choice : TakeChoice
  pub step : IsStep xs kept me.host (Takes line choice)
  pub event : Event
  pub before : View
  pub happens : Happens (observed h xs kept) me event before
  pub from : (observed h xs kept).kept.from ≤ position
  pub upto : position < (observed h xs kept).kept.upto

-- the endpoint has a position: it is below RCV.NXT, or was kept
abbrev pub Has : Header → List (Stamped tcp_shape) → (place : ℕ) → EndpointId → (position : ℕ) → Type 0
Has h xs place me position = (position < (seen_before h xs place me).rcv_nxt) ⊎ WasKept h xs place me position

-- a block reports some positions, and the endpoint has each; the numbers are read near RCV.NXT
pub record IsTrueBlock (h : Header) (xs : List (Stamped tcp_shape)) (place : ℕ) (me : EndpointId) (irs : Word)
    (block : SackBlock) : Type 0 where
  pub left : ℕ
  pub right : ℕ
  pub begins : near_position (seen_before h xs place me).rcv_nxt irs block.left ≡ Some left
  pub ends : near_position (seen_before h xs place me).rcv_nxt irs block.right ≡ Some right
  pub some : left < right
  pub each : (position : ℕ) → left ≤ position → position < right → Has h xs place me position

-- the number with which the peer's stream begins, if the endpoint knows it
abbrev pub irs_before : Header → List (Stamped tcp_shape) → (place : ℕ) → EndpointId → Option Word
irs_before h xs place me = option_and_then (λ e. e.irs) (find (world_before h xs place).hosts me)

-- the endpoint may send this block: the SYN that it took permits blocks, the endpoint knows the number with which its
-- peer's stream begins, and by this number the block is true
pub record MayReport (h : Header) (xs : List (Stamped tcp_shape)) (place : ℕ) (me : EndpointId) (block : SackBlock)
    : Type 0 where
  pub permits : PeerPermits h xs place me
  pub irs : Word
  pub known : irs_before h xs place me ≡ Some irs
  pub is_true : IsTrueBlock h xs place me irs block

-- an endpoint that sends blocks may send them, and they are true; a list of options has room for at most four
abbrev pub BlocksAreTrue : Header → List (Stamped tcp_shape) → Type 0
BlocksAreTrue h xs =
    (place number : ℕ) (me : EndpointId) (wire : Wire) (block : SackBlock) → number < 4
    → slice_get (sack_blocks wire.bytes) number ≡ Some block → IsSent h xs place me wire
    → MayReport h xs place me block
