-- What a yes with a slack says in version 6 of acknowledgments without news: each is sent for a segment that came (RFC
-- 5681, 4.2; RFC 9293, 3.10.7.4).
use Rattle.std.specs.Prelude.{ℕ, zero, suc, ◌+◌, ◌^◌, ◌<◌, ◌≤◌, ◌==◌, nat_eq, nat_lt, Bool, true, false, not, ◌&&◌}
use Rattle.std.specs.Prelude.{◌||◌, if◌then◌else◌, List, [], ◌∷◌, length, slice_get}
use Rattle.std.specs.List.{list_any}
use Rattle.std.specs.Option.{option_map_or}
use Rattle.case_forms.specs.declared.calls.Host.{Host}
use Rattle.case_forms.specs.declared.steps.Witness.{Witness}
use Rattle.case_forms.specs.declared.trace.Header.{Header}
use Rattle.case_forms.specs.declared.trace.Trace.{Trace}
use Rattle.case_forms.specs.declared.version.Version.{Version}
use Rattle.spec_network.specs.Hosts.{At, Drops, Step, Takes, World}
use Rattle.spec_network.specs.Tables.{host_is, on, pick, waiting}
use Rattle.spec_tcp.specs.Arrives.{AtEndpoint, Taker, taker}
use Rattle.spec_tcp.specs.Endpoints.{segment_length}
use Rattle.spec_tcp.specs.Heard.{as_read}
use Rattle.spec_tcp.specs.Machine.{tcp_shape}
use Rattle.spec_tcp.specs.declared.endpoint.Emission.{Emission}
use Rattle.spec_tcp.specs.declared.endpoint.Endpoint.{Endpoint}
use Rattle.spec_tcp.specs.declared.endpoint.EndpointId.{EndpointId}
use Rattle.spec_duties.specs.declared.events.Event.{Event}
use Rattle.spec_duties.specs.declared.events.Event.TheVariants.{Builds}
use Rattle.spec_duties.specs.declared.views.View.{View}
use Rattle.kept_duties.specs.Counts.{count_before, event_at, sent_by}
use Rattle.kept_duties.specs.Happens.{act_at, seen_before, world_before}
use Rattle.kept_duties.specs.Places.{built_before}
use Rattle.kept_calls.specs.Awaiting.{IsAt}

-- ---- a step that earns an acknowledgment

-- the segment has bytes, a SYN or a FIN, or it acknowledges less than SND.UNA, which is an old segment; an endpoint
-- reads it by the numbers that it knows
abbrev pub is_news : Version → Endpoint → Emission → Bool
is_news v e m =
    nat_lt 0 (segment_length m) || m.flags.ack && not m.flags.rst && nat_lt (as_read v e m).ack e.stream.snd_una

-- a segment comes to this endpoint, and is such a one
abbrev pub reaches : EndpointId → Host → Taker → (Endpoint → Bool) → Bool
reaches me host (AtEndpoint place e) test = host_is host me.host && place == me.number && test e
reaches me host other test = false

-- the endpoint processes such a segment, or it drops a segment
abbrev pub earns : Header → World tcp_shape → EndpointId → Step tcp_shape → Bool
earns h world me (At host (Takes line how)) =
    on (waiting line (pick world.hosts host).inbox) false
    (λ m. reaches me host (taker (pick world.hosts host).body m) (λ e. is_news h.version e m))
earns h world me (At host (Drops line)) =
    on (waiting line (pick world.hosts host).inbox) false
    (λ m. reaches me host (taker (pick world.hosts host).body m) (λ e. true))
earns h world me step = false

abbrev pub earns_at : Trace → Witness → EndpointId → (place : ℕ) → Bool
earns_at t w me place = option_map_or (λ x. earns t.header (world_before t w place) me x.step) (act_at t w place) false

-- ---- a step that sends one

-- an acknowledgment without news is built: it is empty, has ACK alone, announces no more window than before, and isn't
-- at the position before SND.UNA, where it keeps the connection alive or probes a window (RFC 9293, 3.8.4 and 3.8.6.1)
abbrev pub builds_plain : Event → (before after : View) → Bool
builds_plain (Builds m) before after =
    m.flags.ack && not m.flags.syn && not m.flags.fin && not m.flags.rst && m.len == 0
    && after.rcv_adv == before.rcv_adv && not (m.pos + 1 == before.snd_una)
builds_plain event before after = false

abbrev pub builds_plain_at : Trace → Witness → EndpointId → (place : ℕ) → Bool
builds_plain_at t w me place =
    option_map_or (λ event. builds_plain event (seen_before t w place me) (seen_before t w (suc place) me))
    (event_at t w me place) false

-- the numbers of those that the endpoint built before a place
abbrev pub plain_before : Trace → Witness → EndpointId → (place : ℕ) → List ℕ
plain_before t w me zero = []
plain_before t w me (suc place) =
    if builds_plain_at t w me place then suc (built_before w place) ∷ plain_before t w me place
    else plain_before t w me place

-- the step at a place sends one of them: it uses its `O` line
abbrev pub sends_plain_at : Trace → Witness → EndpointId → (place : ℕ) → Bool
sends_plain_at t w me place =
    on (slice_get w.steps place) false
    (λ s. option_map_or (λ number. list_any (nat_eq number) (plain_before t w me place)) (sent_by t s.label) false)

-- moments are 64-bit numbers, as in each text
abbrev pub HasMoments : Witness → Type 0
HasMoments w = (place moment : ℕ) → IsAt w place moment → moment < 2 ^ 64

-- before each place it sent at most as many of them as it processed or dropped such segments
abbrev pub AcknowledgmentsAreEarned : Trace → Witness → Type 0
AcknowledgmentsAreEarned t w =
    (me : EndpointId) (place : ℕ) → place ≤ length w.steps
    → count_before (sends_plain_at t w me) place ≤ count_before (earns_at t w me) place
