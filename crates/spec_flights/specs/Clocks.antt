-- What is known of timestamps: of those of the peer, and of an endpoint's own (RFC 7323, 4 and 5). Which segments are
-- too old by their timestamps (PAWS: 5), or lack them: such a segment may be dropped.
use Rattle.std.specs.Prelude.{ℕ, ◌+◌, ◌-◌, ◌%◌, ◌^◌, max, nat_le, nat_lt, Bool, false, not, ◌&&◌, ◌||◌}
use Rattle.std.specs.Prelude.{if◌then◌else◌, Option, None, Some, is_some, true}
use Rattle.std.specs.Option.{option_map, option_map_or}
use Rattle.seqno.specs.declared.word.Word.{Word}
use Rattle.segment.specs.declared.options.TimestampPair.{TimestampPair}
use Rattle.spec_duties.specs.declared.events.Event.{Event}
use Rattle.spec_duties.specs.declared.events.Event.TheVariants.{Builds, Drops, Processes, Sends}
use Rattle.spec_duties.specs.declared.events.Sending.{Sending}
use Rattle.spec_duties.specs.declared.observations.Arrival.{Arrival}
use Rattle.spec_duties.specs.declared.observations.Droppable.TheVariants as droppable
use Rattle.spec_duties.specs.declared.observations.Dropping.{Dropping}
use Rattle.spec_duties.specs.declared.observations.Observation.{Observation}
use Rattle.spec_duties.specs.declared.observations.SynChange.{SynChange}
use Rattle.spec_duties.specs.declared.observations.SynChange.TheVariants as syn_change
use Rattle.spec_duties.specs.declared.observations.TouchedEndpoint.{TouchedEndpoint}
use Rattle.spec_duties.specs.declared.views.View.{View}
pub use Rattle.spec_flights.specs.declared.clocks.Clocks.{Clocks}
pub use Rattle.spec_flights.specs.declared.clocks.Newest.{Newest}
use Rattle.spec_flights.specs.Scoreboard.{number_sent}

abbrev pub no_clocks : Clocks
no_clocks =
    record { own = false; peers = false; recent = None; most = None; told = 0; told_most = 0; newest = None }

-- how far a clock that goes round has to go from one value to the other
abbrev pub ahead : (from upto : Word) → ℕ
ahead from upto = (upto.0 + 2 ^ 32 - from.0) % 2 ^ 32

-- an earlier value of a clock that goes round (RFC 7323, 5.2)
abbrev pub is_older : Word → Word → Bool
is_older a b = nat_le (2 ^ 31) (ahead b a)

-- both SYNs had timestamps: so has every other segment but resets (RFC 7323, 3.2)
abbrev pub are_stamped : Clocks → Bool
are_stamped c = c.own && c.peers

-- ---- what came

-- a clock that isn't older, with a segment that begins at or below what was acknowledged, is the newest (RFC 7323, 4.3)
abbrev pub newest_by : (told : ℕ) → Arrival → TimestampPair → Option Word → Option Word
newest_by told x t clock =
    if not (option_map_or (is_older t.value) clock false) && nat_le x.pos told then Some t.value else clock

abbrev pub newest_come : Option Arrival → Option TimestampPair → (told : ℕ) → Option Word → Option Word
newest_come arrival stamps told clock =
    option_map_or (λ x. option_map_or (λ t. newest_by told x t clock) stamps clock) arrival clock

-- ---- what it echoes

-- the line of this segment shows what it echoes: it acknowledges, and isn't a reset
abbrev pub shows_echo : Clocks → Sending → Bool
shows_echo c x = x.flags.ack && not x.flags.rst && (are_stamped c || x.flags.syn)

-- who echoes the clock of a segment that was dropped took it from that
abbrev pub recent_echoed : Option Word → TimestampPair → Option Word
recent_echoed recent t = if option_map_or (λ r. is_older r t.echo) recent false then Some t.echo else recent

abbrev pub recent_sent : Clocks → Sending → Option TimestampPair → Option Word
recent_sent c x stamps = if shows_echo c x then option_map_or (recent_echoed c.recent) stamps c.recent else c.recent

-- what is taken changes it, and what is sent
abbrev pub recent_after : Observation → Event → Clocks → Option Word
recent_after s (Processes length rst) c = newest_come s.arrival s.stamps c.told c.recent
recent_after s (Sends x) c = recent_sent c x s.stamps
recent_after s event c = c.recent

-- ---- its own clock

-- the segment of this number shows a clock
abbrev pub newest_sent : (number : ℕ) → TimestampPair → Option Newest → Option Newest
newest_sent number t newest =
    if option_map_or (λ n. nat_lt n.number number) newest true
    then Some (record { number = number; value = t.value })
    else newest

abbrev pub newest_after : Observation → Event → Option Newest → Option Newest
newest_after s (Sends x) newest =
    option_map_or (λ t. newest_sent (number_sent s.built_change) t newest) s.stamps newest
newest_after s event newest = newest

-- ---- after a step

-- the SYNs: its own, as its line shows it, and the one that it takes
abbrev pub clocks_told : SynChange → Option TimestampPair → Clocks → Clocks
clocks_told (syn_change.Sends permits) stamps c = record c { own = c.own || is_some stamps }
clocks_told (syn_change.Takes permits alone) stamps c =
    record c {
      peers = is_some stamps;
      recent = option_map (λ t. t.value) stamps;
      most = option_map (λ t. t.value) stamps;
    }
clocks_told change stamps c = c

-- what it acknowledges at most by building a segment
abbrev pub told_most_after : Event → (after : View) → (told : ℕ) → ℕ
told_most_after (Builds m) after told = if m.flags.ack then max told after.rcv_nxt else told
told_most_after event after told = told

abbrev pub clocks_after : Observation → Event → (after : View) → Clocks → Clocks
clocks_after s event after c =
    clocks_told s.syn_change s.stamps
    (record c {
      recent = recent_after s event c;
      most = newest_come s.arrival s.stamps c.told_most c.most;
      told = max c.told s.acked;
      told_most = told_most_after event after c.told_most;
      newest = newest_after s event c.newest;
    })

-- ---- what may be dropped

-- its clock is older than the newest: an acknowledgment answers it (RFC 7323, 5.3, R1)
abbrev pub is_outdated : Clocks → Observation → Bool
is_outdated c s =
    are_stamped c && is_some s.arrival
    && option_map_or (λ t. option_map_or (is_older t.value) c.most false) s.stamps false

-- it lacks timestamps: it is dropped silently (RFC 7323, 3.2)
abbrev pub is_unstamped : Clocks → Observation → Bool
is_unstamped c s = are_stamped c && is_some s.arrival && not (is_some s.stamps)

abbrev pub event_excused : (outdated unstamped : Bool) → Event → Event
event_excused outdated unstamped (Drops asks unlimited) = Drops ((asks || outdated) && not unstamped) unlimited
event_excused outdated unstamped event = event

abbrev pub dropping_excused : (excused : Bool) → Dropping → Dropping
dropping_excused excused d =
    if excused then record d { droppable = droppable.Yes; answerable = false } else d

-- dropping it earns a credit if it holds positions, or asks for an acknowledgment
abbrev pub earns_excused : (outdated unstamped : Bool) → Option Arrival → (earns : Bool) → Bool
earns_excused outdated unstamped arrival earns =
    if unstamped then option_map_or (λ x. nat_lt 0 x.length) arrival false else earns || outdated

abbrev pub touched_excused : (outdated unstamped : Bool) → TouchedEndpoint → TouchedEndpoint
touched_excused outdated unstamped t = record t { event = event_excused outdated unstamped t.event }

-- what duties see of a step that drops a segment
abbrev pub excused_by : (outdated unstamped : Bool) → Observation → Observation
excused_by outdated unstamped s = record s {
  touched = option_map (touched_excused outdated unstamped) s.touched;
  dropping = option_map (dropping_excused (outdated || unstamped)) s.dropping;
  earns = earns_excused outdated unstamped s.arrival s.earns;
}

abbrev pub excused_at : Clocks → Observation → Observation
excused_at c s = if is_some s.dropping then excused_by (is_outdated c s) (is_unstamped c s) s else s
