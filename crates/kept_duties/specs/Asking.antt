-- What a yes with a slack says of dropped segments that ask for an acknowledgment: it is sent within half a second (RFC
-- 9293, 3.10.7.4, first, second and fifth). Moments and slacks are in microseconds.
use Rattle.std.specs.Prelude.{◌≡◌, ◌⊎◌, ◌+◌, ◌<◌, ℕ, true, false, length, Option, None, Some}
use Rattle.case_forms.specs.States.{is_syn_sent}
use Rattle.case_forms.specs.declared.steps.Label.TheVariants as labels
use Rattle.case_forms.specs.declared.steps.Witness.{Witness}
use Rattle.case_forms.specs.declared.trace.Trace.{Trace}
use Rattle.verdict.specs.declared.rule.Rule.{Rule}
use Rattle.verdict.specs.declared.rule.Rule.TheVariants as rules
use Rattle.spec_network.specs.Tables.{pick, waiting}
use Rattle.spec_tcp.specs.Arrives.{AtEndpoint, taker}
use Rattle.spec_tcp.specs.declared.endpoint.Emission.{Emission}
use Rattle.spec_tcp.specs.declared.endpoint.Endpoint.{Endpoint}
use Rattle.spec_tcp.specs.declared.endpoint.EndpointId.{EndpointId}
use Rattle.spec_duties.specs.declared.events.Event.TheVariants.{Sends}
use Rattle.spec_duties.specs.declared.events.Sending.{Sending}
use Rattle.kept_duties.specs.Drops.{IsNext, host_before, processing_breaks}
use Rattle.kept_duties.specs.Happens.{Happens, world_before}
use Rattle.kept_duties.specs.Places.{IsStep}
use Rattle.kept_duties.specs.Soon.{Answers, IsDoneBy, half_a_second}

-- the `K` step at this place drops the segment of a line, which came to this endpoint
pub record DropsAt (t : Trace) (w : Witness) (place moment line : ℕ) (me : EndpointId) (m : Emission) (e : Endpoint)
    : Type 0 where
  pub step : IsStep w place moment (labels.K me.host line)
  pub waits : waiting line (pick (world_before t w place).hosts me.host).inbox ≡ Some m
  pub comes : taker (host_before t w place me.host) m ≡ AtEndpoint me.number e

-- such a segment asks for an acknowledgment. `breaks`: the rule of the model that processing it with nothing chosen
-- would break
pub data Asks (breaks : Option Rule) (e : Endpoint) (m : Emission) : Type 0 where
  -- it is unacceptable
  IsUnacceptable : m.flags.rst ≡ false → breaks ≡ Some rules.Unacceptable → Asks breaks e m
  -- it acknowledges what was never sent
  AcknowledgesUnsent : m.flags.rst ≡ false → m.flags.ack ≡ true → breaks ≡ Some rules.AckRange → Asks breaks e m
  -- it could be processed
  CouldBeProcessed : m.flags.rst ≡ false → breaks ≡ None → Asks breaks e m
  -- it is a reset that is acceptable, but not the next position expected: it is challenged (RFC 5961, 3.2)
  IsChallenged : m.flags.rst ≡ true → (IsNext e m → ⊥) → breaks ≡ None → Asks breaks e m

-- the endpoint sent no segment with ACK within half a second before
abbrev pub SentNoneLately : Trace → Witness → (place moment : ℕ) → EndpointId → Type 0
SentNoneLately t w place moment me =
    (earlier since : ℕ) (s : Sending) → earlier < place → Happens t w earlier since me (Sends s) → s.flags.ack ≡ true
    → since + half_a_second < moment

-- when an endpoint drops a segment that asks, it sends a segment with ACK or RST within half a second and the slack;
-- if that has no bytes and no FIN, only unless it sent one with ACK lately, since stacks limit the rate (RFC 5961, 7)
abbrev pub DropsAreAnswered : Trace → Witness → (slack : ℕ) → Type 0
DropsAreAnswered t w slack =
    (place moment line : ℕ) (me : EndpointId) (m : Emission) (e : Endpoint) → DropsAt t w place moment line me m e
    → is_syn_sent e.state ≡ false → Asks (processing_breaks t w place moment me.host line) e m
    → (0 < length m.payload) ⊎ (m.flags.fin ≡ true) ⊎ SentNoneLately t w place moment me
    → IsDoneBy t w place (moment + half_a_second + slack) me Answers
