-- What is kept of data in flight, what it refuses, and what is kept after a step.
use Rattle.std.specs.Prelude.{ℕ, suc, ◌+◌, nat_eq, nat_le, nat_lt, Bool, true, false, not, ◌&&◌, ◌||◌, if◌then◌else◌}
use Rattle.std.specs.Prelude.{List, [], Option, None, Some, is_some, unwrap_or}
use Rattle.std.specs.FinSet.{contains, from_list}
use Rattle.std.specs.List.{list_all}
use Rattle.std.specs.Map.{lookup}
use Rattle.std.specs.Option.{option_map_or}
use Rattle.std.specs.Ordering.{nat_cmp}
use Rattle.indexmap.specs.IndexMap.{insert_entry}
use Rattle.case_forms.specs.States.{is_syn_sent}
use Rattle.case_forms.specs.Versions.{says_sender}
use Rattle.case_forms.specs.declared.calls.Host.{Host}
use Rattle.case_forms.specs.declared.steps.SegmentPlan.{SegmentPlan}
use Rattle.case_forms.specs.declared.timer.Timer.TheVariants.{Pto, Rto, Persist}
use Rattle.case_forms.specs.declared.timer.RecoveryChange.TheVariants.{Begins, IsUndone}
use Rattle.case_forms.specs.declared.trace.Header.{Header}
use Rattle.segment.specs.Reading.{sack_blocks}
use Rattle.verdict.specs.declared.rule.Rule.{Rule}
use Rattle.verdict.specs.declared.rule.Rule.TheVariants as rules
use Rattle.streams.specs.Flying.{flying}
use Rattle.streams.specs.Pieces.{known_from}
use Rattle.streams.specs.Ranges.{covers, meets, positions}
use Rattle.spec_network.specs.Tables.{Both, on, pick, with_host}
use Rattle.spec_tcp.specs.Endpoints.{rcv_nxt}
use Rattle.spec_tcp.specs.Makes.Payload.{making_length}
use Rattle.spec_tcp.specs.declared.endpoint.Endpoint.{Endpoint}
use Rattle.spec_duties.specs.Events.{acknowledges_more}
use Rattle.spec_duties.specs.Resent.{judges_repeats}
use Rattle.spec_duties.specs.Strict.{is_fin_alone}
use Rattle.spec_duties.specs.declared.events.Event.{Event}
use Rattle.spec_duties.specs.declared.events.Event.TheVariants.{Builds, Expires, Processes, Recovers}
use Rattle.spec_duties.specs.declared.observations.Observation.{Observation}
use Rattle.spec_duties.specs.declared.observations.TouchedEndpoint.{TouchedEndpoint}
use Rattle.spec_duties.specs.declared.observations.Untruth.{Untruth}
use Rattle.spec_duties.specs.declared.views.View.{View}
use Rattle.spec_flights.specs.Clocks.{Clocks, clocks_after, excused_at, no_clocks}
use Rattle.spec_flights.specs.Delivered.{Reports, heard, read_reports}
use Rattle.spec_flights.specs.Echoes.{Echoable, echoes_after, mistimed_by}
use Rattle.spec_flights.specs.Held.{held_after, is_untrue}
use Rattle.spec_flights.specs.Late.{has_below, resent_below, settled}
use Rattle.spec_flights.specs.Marks.{goes_again, marks_after, old_part, opens_probed}
use Rattle.spec_flights.specs.Probing.{Probing, is_due, is_early_probe, is_none, not_probing, probing_after}
use Rattle.spec_flights.specs.Recovering.{Recovery, is_recovering, is_repairing, none_begun, recovery_after}
use Rattle.spec_flights.specs.Scoreboard.{Scoreboard, nothing_built, number_built, stretch_built, with_built}
use Rattle.spec_flights.specs.Scoreboard.{with_given_up, with_nothing_given_up}
use Rattle.spec_flights.specs.Sides.{Sides, are_selective, neither, sides_after}
use Rattle.spec_flights.specs.Stretches.{Stretch}
use Rattle.spec_flights.specs.Undoing.{Undoing, needed, undoing_after}

-- what is kept of an endpoint: what the two SYNs permit, from which loss it recovers, which positions are marked, in
-- order, what is known of each outstanding one, whether it made use of a rescue since the recovery began, how far a
-- probe for a loss is, whether the recovery was needed, what is known of timestamps, and which of them each segment may
-- echo that it built; and which positions of its peer's stream it holds beyond what is next, in order
pub record Flight : Type 0 where
  pub sides : Sides
  pub recovery : Recovery
  pub marks : List ℕ
  pub board : Scoreboard
  pub rescued : Bool
  pub probing : Probing
  pub undoing : Undoing
  pub clocks : Clocks
  pub echoes : List (ℕ × Option Echoable)
  pub held : List ℕ

abbrev pub unflown : Flight
unflown = record {
  sides = neither;
  recovery = none_begun;
  marks = [];
  board = nothing_built;
  rescued = false;
  probing = not_probing;
  undoing = needed;
  clocks = no_clocks;
  echoes = [];
  held = [];
}

-- of all endpoints of both hosts, by their places
abbrev pub Flights : Type 0
Flights = Both (List (ℕ × Flight))

abbrev pub start : Flights
start = record { zero = []; one = [] }

abbrev pub flight_at : Flights → Host → (place : ℕ) → Flight
flight_at fs host place = unwrap_or (lookup (nat_eq place) (pick fs host)) unflown

-- ---- what is refused; `clock`: the moment, and how far a clock may be wrong

-- the endpoint recovers, and may choose by blocks what it sends again (RFC 6675, NextSeg, 1)
abbrev pub recovers_selectively : View → Flight → Bool
recovers_selectively v f = are_selective f.sides && is_recovering v f.recovery

-- what was built under a number below this one may be sent again
abbrev pub free_below : (clock : ℕ) → View → Flight → ℕ
free_below clock v f =
    if recovers_selectively v f then resent_below true clock f.board else suc f.board.given_up

-- a position is marked. After fast recovery began, what the peer reported needn't be sent again; after a timeout it
-- counts as if the peer had reported nothing (RFC 2018, 8)
abbrev pub is_marked : Flight → (position : ℕ) → Bool
is_marked f position =
    contains {R = nat_cmp} (from_list f.marks) position
    && not (f.recovery.is_fast && contains {R = nat_cmp} (from_list f.board.told) position)

-- it may be sent again
abbrev pub is_free : (below : ℕ) → Flight → (position : ℕ) → Bool
is_free below f position =
    is_marked f position
    || option_map_or (λ x. nat_lt x.number below) (flying f.board.known (from_list f.board.told) position) false

abbrev pub are_free : (below : ℕ) → Flight → Stretch → Bool
are_free below f old = list_all (is_free below f) (positions old.from old.upto)

-- nothing new may be sent: all that was accepted was, or as much as the window permits
abbrev pub sends_nothing_new : View → Bool
sends_nothing_new v = nat_le v.end v.snd_max || nat_le (v.snd_una + v.snd_wnd) v.snd_max

-- once in a fast recovery, what is last in flight may go again though nothing is lost (RFC 6675, NextSeg, 4)
abbrev pub is_rescue : (clock : ℕ) → View → Flight → (old : Stretch) → Bool
is_rescue clock v f old =
    are_selective f.sides && is_repairing v f.recovery && not f.rescued && sends_nothing_new v
    && not (meets (from_list f.board.told) old.from old.upto)
    && covers (from_list f.board.told) old.upto v.snd_max
    && not (has_below (resent_below true clock f.board) v f.board)

-- the probe that is due is what was sent last (RFC 8985, 7.3)
abbrev pub is_probe : View → SegmentPlan → Flight → Bool
is_probe v m f =
    is_due f.probing.probe && nat_eq (m.pos + making_length m) v.snd_max
    && not (meets (from_list f.board.told) (old_part v m).from (old_part v m).upto)

abbrev pub may_go_again : (clock : ℕ) → View → SegmentPlan → Flight → Bool
may_go_again clock v m f =
    are_free (free_below clock v f) f (old_part v m) || is_probe v m f || is_rescue clock v f (old_part v m)

-- something is lost, or given up
abbrev pub finds_lost : (clock : ℕ) → View → Flight → Bool
finds_lost clock v f = has_below (resent_below false clock f.board) v f.board

-- fast recovery begins only after three duplicate acknowledgments, and not within it (RFC 5681, 3.2, step 2); where
-- both SYNs permit SACK, also if something is lost, and not while it recovers (RFC 6675, 5; RFC 8985, 6.2)
abbrev pub may_begin : (clock : ℕ) → View → Flight → Bool
may_begin clock v f =
    if are_selective f.sides
    then not (is_recovering v f.recovery) && (nat_lt 2 v.dup || finds_lost clock v f)
    else nat_lt 2 v.dup && not v.fast

-- both SYNs permit SACK, something was sent before, no probe is due or on its way, and nothing is known to be lost or
-- received (RFC 8985, 7.2 and 7.3)
abbrev pub may_be_probed : View → Flight → Bool
may_be_probed v f =
    are_selective f.sides && not (is_recovering v f.recovery) && is_none f.probing.probe && is_some f.probing.quiet
    && not (meets (from_list f.board.told) v.snd_una v.snd_max)

-- the timer expires that makes a probe due
abbrev pub probe_broken : (clock : ℕ) → View → Flight → Option Rule
probe_broken clock v f =
    if not (may_be_probed v f) then Some rules.TimerOff
    else if is_early_probe clock v f.probing.quiet then Some rules.TimerEarly else None

-- the rule that a step breaks; `repeats`: whether it is judged when data goes again
abbrev pub broken_at : (repeats : Bool) → (clock : ℕ) → Event → View → Flight → Option Rule
broken_at repeats clock (Builds m) v f =
    if repeats && goes_again v m && not (may_go_again clock v m f) then Some rules.OldData else None
broken_at repeats clock (Recovers Begins) v f =
    if repeats && not (may_begin clock v f) then Some rules.Recovery else None
broken_at repeats clock (Recovers IsUndone) v f = if not f.undoing.is_spurious then Some rules.Recovery else None
broken_at repeats clock (Expires Pto) v f = probe_broken clock v f
broken_at repeats clock event v f = None

-- it is judged from version 6 on
abbrev pub judges : Header → Bool
judges h = says_sender h.version

abbrev pub refusal : Header → (moment : ℕ) → Flights → Observation → Option Rule
refusal h moment fs s =
    if judges h
    then on s.touched None
    (λ t. broken_at (judges_repeats h.congestion) (moment + h.grain) t.event t.before (flight_at fs t.host t.place))
    else None

-- at an endpoint, which sends a segment with these bytes: its blocks aren't permitted, or not true
abbrev pub sends_untrue : Flights → (host : Host) → (place : ℕ) → Endpoint → (bytes : List ℕ) → Bool
sends_untrue fs host place e bytes =
    is_untrue (flight_at fs host place).sides.peers (from_list (flight_at fs host place).held) (rcv_nxt e) e.irs
    (sack_blocks bytes)

-- what the line of a segment shows of timestamps that may not be
abbrev pub mistimed : Header → Flights → Observation → Option Untruth
mistimed h fs s =
    if says_sender h.version
    then on s.touched None
    (λ t. mistimed_by s t.event (flight_at fs t.host t.place).clocks (flight_at fs t.host t.place).echoes)
    else None

-- what duties see of a step: what an endpoint drops may be excused by timestamps; nothing is in versions 1 to 5
abbrev pub excused : Header → Flights → Observation → Observation
excused h fs s =
    if says_sender h.version then on s.touched s (λ t. excused_at (flight_at fs t.host t.place).clocks s) else s

-- ---- what is kept after a step

-- in fast recovery, an acknowledgment marks the next segment, unless blocks show what is lost
abbrev pub repairs_plainly : View → Sides → Recovery → Bool
repairs_plainly v sides r = not (are_selective sides) && is_repairing v r

-- a step marks the first segment
abbrev pub marks_oldest : (clock : ℕ) → Event → (before after : View) → Sides → Recovery → Flight → Bool
marks_oldest clock (Processes length rst) before after sides r f =
    acknowledges_more before after && repairs_plainly after sides r
marks_oldest clock (Recovers Begins) before after sides r f = not (are_selective sides && finds_lost clock before f)
marks_oldest clock event before after sides r f = false

-- what is known of outstanding positions after a segment was processed: a reset shows nothing, nor does what the
-- endpoint takes before it is open
abbrev pub board_heard : (moment clock : ℕ) → (recovers rst : Bool) → (before after : View) → Reports → Scoreboard
    → Scoreboard
board_heard moment clock recovers rst before after r b =
    if rst || is_syn_sent before.state then record b { known = known_from after.snd_una b.known }
    else heard moment before.snd_una after.snd_una r (settled recovers clock b)

abbrev pub board_opened : (before after : View) → Scoreboard → Scoreboard
board_opened before after b = if opens_probed before after then with_given_up b else b

-- after a step
abbrev pub board_after : (moment clock : ℕ) → (recovers : Bool) → (number : ℕ) → Event → (before after : View)
    → Reports → Scoreboard → Scoreboard
board_after moment clock recovers number (Processes length rst) before after r b =
    board_opened before after (board_heard moment clock recovers rst before after r b)
board_after moment clock recovers number (Builds m) before after r b =
    with_built number moment (stretch_built m before after) (settled recovers clock b)
board_after moment clock recovers number (Expires Rto) before after r b = with_given_up b
board_after moment clock recovers number (Expires Persist) before after r b = with_given_up b
board_after moment clock recovers number (Recovers Begins) before after r b = settled recovers clock b
board_after moment clock recovers number (Recovers IsUndone) before after r b =
    with_nothing_given_up (settled recovers clock b)
board_after moment clock recovers number event before after r b = b

-- a segment is sent again though nothing is lost, none of it is marked, and it is no probe
abbrev pub uses_rescue : (clock : ℕ) → View → SegmentPlan → Flight → Bool
uses_rescue clock v m f =
    goes_again v m && not (are_free (free_below clock v f) f (old_part v m) || is_probe v m f)

abbrev pub rescued_after : (clock : ℕ) → Event → (before : View) → Flight → Bool
rescued_after clock (Builds m) before f = f.rescued || uses_rescue clock before m f
rescued_after clock (Expires Rto) before f = false
rescued_after clock (Recovers Begins) before f = false
rescued_after clock event before f = f.rescued

abbrev pub flight_by : (moment clock : ℕ) → Observation → TouchedEndpoint → (after : View) → Sides → Recovery → Flight
    → Flight
flight_by moment clock s t after sides r f = record {
  sides = sides;
  recovery = r;
  marks =
      marks_after s.syn_change t.event t.before after (read_reports sides s.blocks)
      (marks_oldest clock t.event t.before after sides r f) f.marks;
  board =
      board_after moment clock (is_recovering t.before f.recovery) (number_built s.built_change) t.event t.before after
      (read_reports sides s.blocks) f.board;
  rescued = rescued_after clock t.event t.before f;
  probing = probing_after moment t.event t.before after f.probing;
  undoing =
      undoing_after s t.event t.before after sides f.recovery (read_reports sides s.blocks) f.board f.undoing;
  clocks = clocks_after s t.event after f.clocks;
  echoes = echoes_after s t.event f.clocks f.echoes;
  held = held_after s.kept after.rcv_nxt f.held;
}

abbrev pub flight_after : (moment clock : ℕ) → Observation → TouchedEndpoint → (after : View) → Flight → Flight
flight_after moment clock s t after f =
    flight_by moment clock s t after (sides_after s.syn_change f.sides) (recovery_after t.event after f.recovery) f

abbrev pub flights_touched : (moment clock : ℕ) → Observation → (after : View) → Flights → TouchedEndpoint → Flights
flights_touched moment clock s after fs t =
    with_host fs t.host
    (insert_entry nat_eq (pick fs t.host) t.place
    (flight_after moment clock s t after (flight_at fs t.host t.place)))

-- after a step, if its endpoint is then seen like this; nothing is kept in versions 1 to 5
abbrev pub flights_after : Header → (moment : ℕ) → (after : View) → Observation → Flights → Flights
flights_after h moment after s fs =
    if says_sender h.version then on s.touched fs (flights_touched moment (moment + h.grain) s after fs) else fs
