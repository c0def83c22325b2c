-- Segments that are the same are so in all parts.
use Rattle.std.proofs.Common.{◌≡◌, ap}
use Rattle.spec_tcp.specs.declared.endpoint.Emission.{Emission}
use Rattle.recorder.specs.Naming.{SameBytes, SameHead, SameMark, SameOptions}

pub same_parts : (a b : Emission) → SameMark a b → SameHead a b → SameOptions a b → SameBytes a b → a ≡ b
same_parts a b m h o y = λ i. record {
  sender = m.0 i;
  peer_at_send = m.1 i;
  pos = m.2 i;
  ack = m.3 i;
  is_reset_reply = m.4 i;
  moment = m.5 i;
  lport = h.0 i;
  rport = h.1 i;
  seq = h.2 i;
  ack_seq = h.3 i;
  raised = h.4 i;
  flags = h.5 i;
  window = h.6 i;
  mss = o.0 i;
  shift = o.1 i;
  scaled = o.2 i;
  scale = o.3 i;
  payload = y.0 i;
  bytes = y.1 i;
}

pub parts_same : (a b : Emission) → a ≡ b → SameMark a b × SameHead a b × SameOptions a b × SameBytes a b
parts_same a b e = (
  (
    ap (λ (x : Emission). x.sender) e,
    ap (λ (x : Emission). x.peer_at_send) e,
    ap (λ (x : Emission). x.pos) e,
    ap (λ (x : Emission). x.ack) e,
    ap (λ (x : Emission). x.is_reset_reply) e,
    ap (λ (x : Emission). x.moment) e,
  ),
  (
    ap (λ (x : Emission). x.lport) e,
    ap (λ (x : Emission). x.rport) e,
    ap (λ (x : Emission). x.seq) e,
    ap (λ (x : Emission). x.ack_seq) e,
    ap (λ (x : Emission). x.raised) e,
    ap (λ (x : Emission). x.flags) e,
    ap (λ (x : Emission). x.window) e,
  ),
  (ap (λ (x : Emission). x.mss) e, ap (λ (x : Emission). x.shift) e, ap (λ (x : Emission). x.scaled) e, ap (λ (x : Emission). x.scale) e),
  (ap (λ (x : Emission). x.payload) e, ap (λ (x : Emission). x.bytes) e),
)
