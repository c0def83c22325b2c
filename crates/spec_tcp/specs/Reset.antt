-- The reset in answer to a segment (RFC 9293, 3.5.2 and 3.10.7.1).
use Rattle.std.specs.Prelude.{Bool, true, false, not, ◌&&◌, ◌||◌, if◌then◌else◌, List, [], ◌∷◌, None}
use Rattle.std.specs.Option.{option_map_or}
use Rattle.seqno.specs.Numbers.{number_of}
use Rattle.case_forms.specs.States.{is_syn_received, is_syn_sent}
use Rattle.verdict.specs.declared.rule.Rule.{Rule}
use Rattle.verdict.specs.declared.rule.Rule.TheVariants as rules
use Rattle.spec_tcp.specs.Endpoints.{Endpoint, Emission, segment_length}
use Rattle.spec_tcp.specs.HostTcp.{HostTcp}
use Rattle.spec_tcp.specs.Same.{same_word}
use Rattle.spec_tcp.specs.Makes.Kind.{word_zero}
use Rattle.spec_tcp.specs.Arrives.{Taker, Nobody, AtListener, AtEndpoint, taker}

-- before the connection is established, an acknowledgment of another number than the own SYN's
abbrev pub is_stray_ack : Endpoint → Emission → Bool
is_stray_ack e m =
    (is_syn_sent e.state || is_syn_received e.state) && m.flags.ack
    && option_map_or (λ iss. not (same_word m.ack_seq (number_of iss 1))) e.iss false

-- the segment has no receiver; or a listener receives an acknowledgment
abbrev pub finds_nothing : Emission → Taker → Bool
finds_nothing m Nobody = true
finds_nothing m (AtListener l) = m.flags.ack
finds_nothing m (AtEndpoint i e) = is_stray_ack e m

-- a reset is never answered with a reset
abbrev pub reset_rules : HostTcp → Emission → List (Rule × Bool)
reset_rules b m = (rules.State, m.flags.rst || not (finds_nothing m (taker b m))) ∷ []

-- the reset: at the acknowledged number, or at 0 with an acknowledgment of all of the segment; that number is kept of
-- both
abbrev pub reset_of : Emission → Emission
reset_of m = record {
  sender = m.sender;
  peer_at_send = None;
  lport = m.rport;
  rport = m.lport;
  pos = 0;
  ack = 0;
  seq = if m.flags.ack then m.ack_seq else word_zero;
  ack_seq = number_of m.seq (segment_length m);
  raised = 0;
  flags = record { ack = not m.flags.ack; rst = true; syn = false; fin = false };
  window = 0;
  payload = [];
  shift = None;
  scaled = false;
  is_reset_reply = true;
  bytes = [];
  mss = None;
  scale = None;
  moment = 0;
}
