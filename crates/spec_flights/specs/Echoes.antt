-- Which timestamps the line of a segment may show: it echoes what its endpoint took (RFC 7323, 3.2 and 4.3), and its
-- own clock doesn't fall (5.2). It is judged at each level and slack.
use Rattle.std.specs.Prelude.{ℕ, nat_eq, nat_le, nat_lt, Bool, false, not, ◌&&◌, ◌||◌, if◌then◌else◌}
use Rattle.std.specs.Prelude.{List, Option, None, Some, is_some, unwrap_or}
use Rattle.std.specs.Option.{option_map_or}
use Rattle.indexmap.specs.IndexMap.{insert_entry}
use Rattle.seqno.specs.declared.word.Word.{Word}
use Rattle.segment.specs.declared.options.TimestampPair.{TimestampPair}
use Rattle.spec_network.specs.Tables.{settled, waiting}
use Rattle.spec_duties.specs.declared.events.Event.{Event}
use Rattle.spec_duties.specs.declared.events.Event.TheVariants.{Builds, Sends}
use Rattle.spec_duties.specs.declared.events.Sending.{Sending}
use Rattle.spec_duties.specs.declared.observations.Observation.{Observation}
use Rattle.spec_duties.specs.declared.observations.Untruth.{Untruth}
use Rattle.spec_duties.specs.declared.observations.Untruth.TheVariants as untruth
use Rattle.spec_flights.specs.Clocks.{Clocks, Newest, ahead, is_older, shows_echo}
use Rattle.spec_flights.specs.Scoreboard.{number_built, number_sent}
pub use Rattle.spec_flights.specs.declared.clocks.Echoable.{Echoable}

-- ---- what a segment may echo, as it was built; the segments of an endpoint by their numbers, None once they were sent

-- what its endpoint took by then, or something newer that it dropped
abbrev pub echoable_now : Clocks → (recent : Word) → Echoable
echoable_now c recent = record { from = recent; upto = unwrap_or c.most recent }

abbrev pub echoes_built : (number : ℕ) → Clocks → List (ℕ × Option Echoable) → List (ℕ × Option Echoable)
echoes_built number c echoes =
    option_map_or (λ recent. insert_entry nat_eq echoes number (Some (echoable_now c recent))) c.recent echoes

-- after a step; `c`: before it
abbrev pub echoes_after : Observation → Event → Clocks → List (ℕ × Option Echoable) → List (ℕ × Option Echoable)
echoes_after s (Builds m) c echoes = echoes_built (number_built s.built_change) c echoes
echoes_after s (Sends x) c echoes = if is_some c.recent then settled (number_sent s.built_change) echoes else echoes
echoes_after s event c echoes = echoes

-- ---- what is refused

abbrev pub is_echoable : Echoable → Word → Bool
is_echoable e value = nat_le (ahead e.from value) (ahead e.from e.upto)

-- it has none, though both SYNs did; or it doesn't echo what it may
abbrev pub is_wrong_echo : Option Echoable → (is_syn : Bool) → Option TimestampPair → Bool
is_wrong_echo echoable is_syn None = not is_syn
is_wrong_echo echoable is_syn (Some t) = option_map_or (λ e. not (is_echoable e t.echo)) echoable false

-- it was built later and is older, or the other way round
abbrev pub clock_falls : (number : ℕ) → TimestampPair → Newest → Bool
clock_falls number t n = if nat_lt n.number number then is_older t.value n.value else is_older n.value t.value

-- what the line of a segment shows
abbrev pub stamps_untrue : (number : ℕ) → Option Echoable → Sending → Option TimestampPair → Clocks → Option Untruth
stamps_untrue number echoable x stamps c =
    if shows_echo c x && is_wrong_echo echoable x.flags.syn stamps then Some untruth.Echo
    else if option_map_or (λ t. option_map_or (clock_falls number t) c.newest false) stamps false
    then Some untruth.Clock
    else None

-- a step does
abbrev pub mistimed_by : Observation → Event → Clocks → List (ℕ × Option Echoable) → Option Untruth
mistimed_by s (Sends x) c echoes =
    stamps_untrue (number_sent s.built_change) (waiting (number_sent s.built_change) echoes) x s.stamps c
mistimed_by s event c echoes = None
