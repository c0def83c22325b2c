-- What is read of an endpoint, of which nothing was discarded.
use Rattle.std.proofs.Common.{◌≡◌, ℕ, suc, ◌+◌, ◌-◌, ◌≤◌, List, take, refl, ap, arith}
use Rattle.streams.specs.declared.transmission.Transmission.{Transmission}
use Rattle.streams.specs.Cells.{leading}
use Rattle.streams.specs.Transmissions.{any_again, retransmitted, once}
use Rattle.streams.specs.Received.{waiting, is_ended}
use Rattle.streams.specs.Sent.{end_of, piece}
use Rattle.streams.proofs.Covers.{covered-covered, drop-covered, length-covered}
use Rattle.streams.proofs.Fades.{drop-fade, fade-fade, is_fin-fade, length-front-fade}
use Rattle.spec_tcp.specs.declared.endpoint.Endpoint.{Endpoint}
use Rattle.spec_tcp.specs.Endpoints.{rcv_nxt, snd_max}
use Rattle.spec_tcp.specs.Forgetting.{forget_endpoint}

pub rcv_nxt-forget : (e : Endpoint) → rcv_nxt (forget_endpoint e) ≡ rcv_nxt e
rcv_nxt-forget e = length-front-fade (suc e.stream.receive.delivered) e.stream.receive.taken

pub snd_max-forget : (e : Endpoint) → snd_max (forget_endpoint e) ≡ snd_max e
snd_max-forget e = length-covered (once 0) e.stream.snd_una e.transmissions

pub end_of-forget : (e : Endpoint) → end_of (forget_endpoint e).stream.accepted ≡ end_of e.stream.accepted
end_of-forget e = ap (λ n. 1 + n) (length-covered 0 (e.stream.snd_una - 1) e.stream.accepted)

pub ended-forget : (e : Endpoint) → is_ended (forget_endpoint e).stream.receive ≡ is_ended e.stream.receive
ended-forget e = rw (rcv_nxt-forget e) (is_fin-fade (suc e.stream.receive.delivered) e.stream.receive.taken (rcv_nxt e - 1))

pub waiting-forget : (e : Endpoint) → waiting (forget_endpoint e).stream.receive ≡ waiting e.stream.receive
waiting-forget e = ap leading (drop-fade (suc e.stream.receive.delivered) e.stream.receive.taken)

pub again-forget : (e : Endpoint) (from upto : ℕ) → e.stream.snd_una ≤ from
    → retransmitted (forget_endpoint e).transmissions from upto ≡ retransmitted e.transmissions from upto
again-forget e from upto unacked =
    ap (λ (xs : List Transmission). any_again (take (upto - from) xs)) (drop-covered (once 0) e.stream.snd_una from e.transmissions unacked)

pub piece-forget : (e : Endpoint) (position count : ℕ) → e.stream.snd_una ≤ position
    → piece (forget_endpoint e).stream.accepted position count ≡ piece e.stream.accepted position count
piece-forget e position count h = ap (take count) (drop-covered 0 (e.stream.snd_una - 1) (position - 1) e.stream.accepted (omega arith))

-- what was discarded twice was discarded once
pub forget-forget : (e : Endpoint) → forget_endpoint (forget_endpoint e) ≡ forget_endpoint e
forget-forget e =
    let snd_una = e.stream.snd_una in
    rw (
      covered-covered 0 (snd_una - 1) (snd_una - 1) e.stream.accepted (omega arith),
      covered-covered (once 0) snd_una snd_una e.transmissions (omega arith),
      fade-fade (suc e.stream.receive.delivered) (suc e.stream.receive.delivered) e.stream.receive.taken (omega arith),
    ) refl
