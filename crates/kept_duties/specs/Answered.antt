-- What a yes with a slack says in version 6 of acknowledgments: each is built after what it answers, and sent in time
-- (RFC 9293, 3.8.6.3 and 3.10.7.4; RFC 5681, 4.2). Moments and slacks are in microseconds.
use Rattle.std.specs.Prelude.{◌≡◌, ◌⊎◌, ◌+◌, ◌<◌, ◌≤◌, ℕ, suc, nat_le, Bool, true, false, ◌&&◌}
use Rattle.std.specs.Prelude.{◌||◌, length, None, Some}
use Rattle.std.specs.Option.{option_map_or}
use Rattle.seqno.specs.declared.word.Word.{Word}
use Rattle.segment.specs.Reading.{timestamps}
use Rattle.segment.specs.declared.options.TimestampPair.{TimestampPair}
use Rattle.case_forms.specs.States.{is_closed, is_syn_sent}
use Rattle.case_forms.specs.Versions.{is_half}
use Rattle.case_forms.specs.declared.steps.SegmentPlan.{SegmentPlan}
use Rattle.case_forms.specs.declared.steps.Witness.{Witness}
use Rattle.case_forms.specs.declared.trace.Trace.{Trace}
use Rattle.verdict.specs.declared.rule.Rule.TheVariants as rules
use Rattle.spec_tcp.specs.declared.endpoint.Emission.{Emission}
use Rattle.spec_tcp.specs.declared.endpoint.Endpoint.{Endpoint}
use Rattle.spec_tcp.specs.declared.endpoint.EndpointId.{EndpointId}
use Rattle.spec_duties.specs.declared.events.Event.{Event}
use Rattle.spec_duties.specs.declared.events.Event.TheVariants.{Builds, Processes, Sends}
use Rattle.spec_duties.specs.declared.events.Sending.{Sending}
use Rattle.spec_flights.specs.Clocks.{are_stamped, is_older}
use Rattle.kept_duties.specs.Asking.{Asks, DropsAt, SentNoneLately}
use Rattle.kept_duties.specs.Counts.{count_before, event_at}
use Rattle.kept_duties.specs.Drops.{clocks_before, processing_breaks}
use Rattle.kept_duties.specs.Happens.{Happens, act_at, seen_before}
use Rattle.kept_duties.specs.Places.{SendsAt, built_before}
use Rattle.kept_duties.specs.Segments.{EndsBy}
use Rattle.kept_duties.specs.Soon.{BecomesBy, half_a_second, is_ended}

-- after this place, the endpoint builds a segment with ACK or RST, and sends it by this moment. The line that shows it
-- doesn't have the acknowledgment number from before the text that the segment may have been built with
pub record IsAnsweredBy (t : Trace) (w : Witness) (place by : ℕ) (me : EndpointId) : Type 0 where
  pub built : ℕ
  pub since : ℕ
  pub segment : SegmentPlan
  pub behind : place < built
  pub builds : Happens t w built since me (Builds segment)
  pub answers : (segment.flags.ack || segment.flags.rst) ≡ true
  pub later : ℕ
  pub moment : ℕ
  pub sending : Sending
  pub after : built < later
  pub line : SendsAt t w later moment me.host (suc (built_before w built))
  pub sends : Happens t w later moment me (Sends sending)
  pub with_text : sending.before_text ≡ false
  pub soon : moment ≤ by

-- it is so answered within half a second and the slack; unless the endpoint is CLOSED, or the witness ends
abbrev pub IsAnsweredSoon : Trace → Witness → (slack place moment : ℕ) → EndpointId → Type 0
IsAnsweredSoon t w slack place moment me =
    IsAnsweredBy t w place (moment + half_a_second + slack) me
    ⊎ BecomesBy t w place (moment + half_a_second + slack) me (λ v. is_closed v.state)
    ⊎ EndsBy w (moment + half_a_second + slack)

-- an endpoint is to answer so when it receives bytes, a SYN or a FIN
abbrev pub ReceiptsAreAnsweredAfter : Trace → Witness → (slack : ℕ) → Type 0
ReceiptsAreAnsweredAfter t w slack =
    (place moment length : ℕ) (me : EndpointId) → Happens t w place moment me (Processes length false) → 0 < length
    → is_ended (seen_before t w place me).state ≡ false → IsAnsweredSoon t w slack place moment me

-- both SYNs had timestamps, so the segment has them, too, unless it is a reset (RFC 7323, 3.2)
pub record NeedsTimestamps (t : Trace) (w : Witness) (place : ℕ) (me : EndpointId) (m : Emission) : Type 0 where
  pub no_reset : m.flags.rst ≡ false
  pub both : are_stamped (clocks_before t w place me.host me.number) ≡ true

-- it lacks them, and is dropped silently
pub record LacksTimestamps (t : Trace) (w : Witness) (place : ℕ) (me : EndpointId) (m : Emission) : Type 0 where
  pub needs : NeedsTimestamps t w place me m
  pub lacks : timestamps m.bytes ≡ None

-- its clock is older than the newest that came (PAWS: RFC 7323, 5.3, R1)
pub record IsOutdated (t : Trace) (w : Witness) (place : ℕ) (me : EndpointId) (m : Emission) : Type 0 where
  pub needs : NeedsTimestamps t w place me m
  pub stamps : TimestampPair
  pub newest : Word
  pub has : timestamps m.bytes ≡ Some stamps
  pub came : (clocks_before t w place me.host me.number).most ≡ Some newest
  pub older : is_older stamps.value newest ≡ true

-- such a segment asks for an acknowledgment in version 6, if it doesn't lack timestamps
pub data AsksStrictly (t : Trace) (w : Witness) (place moment line : ℕ) (me : EndpointId) (m : Emission) (e : Endpoint)
    : Type 0 where
  -- as in versions 1 to 5. One that acknowledges far too little could be processed (RFC 5961, 5.2)
  AsksAsBefore : Asks (processing_breaks t w place moment me.host line) e m → AsksStrictly t w place moment line me m e
  -- in a half case, its numbers can't be read, since one of them is below the first
  HasOldNumbers : is_half t.header.version ≡ true → m.flags.rst ≡ false
      → processing_breaks t w place moment me.host line ≡ Some rules.Number → AsksStrictly t w place moment line me m e
  AsksByClock : IsOutdated t w place me m → AsksStrictly t w place moment line me m e

-- the time in which ten answers are enough (RFC 5961, 7)
abbrev pub five_seconds : ℕ
five_seconds = 5000000

-- a segment with ACK is sent
abbrev pub sends_ack : Event → Bool
sends_ack (Sends s) = s.flags.ack
sends_ack event = false

-- the step at a place does this at the endpoint, at most five seconds before a moment
abbrev pub sends_ack_lately : Trace → Witness → EndpointId → (moment place : ℕ) → Bool
sends_ack_lately t w me moment place =
    option_map_or (λ x. nat_le moment (x.moment + five_seconds)) (act_at t w place) false
    && option_map_or sends_ack (event_at t w me place) false

-- the endpoint sent none within half a second before, and fewer than ten within five seconds
abbrev pub SentFewLately : Trace → Witness → (place moment : ℕ) → EndpointId → Type 0
SentFewLately t w place moment me =
    SentNoneLately t w place moment me × (count_before (sends_ack_lately t w me moment) place < 10)

-- and when it drops a segment that asks; if the segment has no bytes and no FIN, only if few were answered lately,
-- since stacks limit the rate
abbrev pub DropsAreAnsweredAfter : Trace → Witness → (slack : ℕ) → Type 0
DropsAreAnsweredAfter t w slack =
    (place moment line : ℕ) (me : EndpointId) (m : Emission) (e : Endpoint) → DropsAt t w place moment line me m e
    → is_syn_sent e.state ≡ false → AsksStrictly t w place moment line me m e → (LacksTimestamps t w place me m → ⊥)
    → (0 < length m.payload) ⊎ (m.flags.fin ≡ true) ⊎ SentFewLately t w place moment me
    → IsAnsweredSoon t w slack place moment me
