-- The rules at an endpoint read nothing that was discarded.
use Rattle.std.proofs.Common.{◌≡◌, ℕ, ◌-◌, Bool, true, false, not, ◌&&◌, if◌then◌else◌, Option, None, Some, refl, arith}
use Rattle.std.specs.Option.{option_map_or}
use Rattle.std.proofs.lemmas.Bool.Decides.{nat_tests}
use Rattle.case_forms.specs.Versions.{says_slack}
use Rattle.case_forms.specs.declared.timer.RecoveryChange.TheVariants.{Begins, IsUndone}
use Rattle.case_forms.specs.declared.version.Version.{Version}
use Rattle.streams.specs.Transmissions.{retransmitted}
use Rattle.case_forms.specs.declared.trace.Header.{Header}
use Rattle.case_forms.specs.declared.taken_line.Expired.{Expired}
use Rattle.case_forms.specs.declared.taken_line.Expired.TheVariants.{Giveup, Msl2, Persist, Pto, Rto}
use Rattle.case_forms.specs.declared.calls.Answer.{Answer}
use Rattle.case_forms.specs.declared.calls.Answer.TheVariants as answers
use Rattle.case_forms.specs.declared.timer.RecoveryChange.{RecoveryChange}
use Rattle.spec_tcp.specs.declared.endpoint.Endpoint.{Endpoint}
use Rattle.spec_tcp.specs.declared.endpoint.Emission.{Emission}
use Rattle.spec_tcp.specs.declared.endpoint.EndpointId.{EndpointId}
use Rattle.spec_tcp.specs.HostTcp.{HostTcp}
use Rattle.spec_tcp.specs.Calls.Await.{await_allows}
use Rattle.spec_tcp.specs.Calls.Receive.{recv_allows}
use Rattle.case_forms.specs.declared.steps.SegmentPlan.{SegmentPlan}
use Rattle.spec_tcp.specs.Makes.{making_rules}
use Rattle.case_forms.specs.declared.steps.TakeChoice.{TakeChoice}
use Rattle.spec_tcp.specs.Arrives.OtherStates.Ack.{is_new_ack, may_sample}
use Rattle.spec_tcp.specs.Arrives.OtherStates.Sequence.{is_acceptable_at, read_position}
use Rattle.spec_tcp.specs.Arrives.OtherStates.{connected_rules}
use Rattle.spec_tcp.specs.Arrives.SynSent.{syn_sent_rules}
use Rattle.spec_tcp.specs.Timeouts.{expiry_rules}
use Rattle.spec_tcp.specs.Recovery.{recovery_rules}
use Rattle.spec_tcp.specs.Forgetting.{forget_endpoint}
use Rattle.spec_tcp_laws.proofs.ForgetReads.{rcv_nxt-forget, snd_max-forget, end_of-forget, ended-forget, waiting-forget, again-forget}

pub making_rules-forget : (v : Version) (e : Endpoint) (m : SegmentPlan) → making_rules v (forget_endpoint e) m ≡ making_rules v e m
making_rules-forget v e m = rw (rcv_nxt-forget e, snd_max-forget e, end_of-forget e) refl

pub await-forget : (e : Endpoint) (answer : Answer) → await_allows (forget_endpoint e) answer ≡ await_allows e answer
await-forget e answers.Done = rw (rcv_nxt-forget e) refl
await-forget e answers.Again = rw (rcv_nxt-forget e) refl
await-forget e _ = refl

pub recv-forget : (v : Version) (e : Endpoint) (most : ℕ) (answer : Answer)
    → recv_allows v (forget_endpoint e) most answer ≡ recv_allows v e most answer
recv-forget v e most (answers.Bytes bytes) = rw (waiting-forget e) refl
recv-forget v e most answers.Eof = rw (ended-forget e, waiting-forget e) refl
recv-forget v e most answers.Again = rw (ended-forget e, waiting-forget e) refl
recv-forget v e most answers.NotConn = rw (rcv_nxt-forget e) refl
recv-forget v e most _ = refl

pub syn_sent_rules-forget : (e : Endpoint) (how : TakeChoice) (m : Emission) (moment : ℕ)
    → syn_sent_rules (forget_endpoint e) how m moment ≡ syn_sent_rules e how m moment
syn_sent_rules-forget e how m moment = rw (snd_max-forget e, again-forget e e.stream.snd_una 1 (omega arith)) refl

read_position-forget : (e : Endpoint) (m : Emission) → read_position (forget_endpoint e) m ≡ read_position e m
read_position-forget e m = rw (rcv_nxt-forget e) refl

acceptable-forget : (e : Endpoint) (m : Emission)
    → option_map_or (is_acceptable_at (forget_endpoint e) m) (read_position (forget_endpoint e) m) false
    ≡ option_map_or (is_acceptable_at e m) (read_position e m) false
acceptable-forget e m = rw (read_position-forget e m) (by (read_position e m))
  where
    by : (place : Option ℕ) → option_map_or (is_acceptable_at (forget_endpoint e) m) place false ≡ option_map_or (is_acceptable_at e m) place false
    by None = refl
    by (Some pos) = rw (rcv_nxt-forget e) refl

-- a sample reads what isn't acknowledged
pub sample-forget : (v : Version) (e : Endpoint) (m : Emission) → may_sample v (forget_endpoint e) m ≡ may_sample v e m
sample-forget v e m = by (is_new_ack e m) (says_slack v) refl
  where
    by : (new later : Bool) → is_new_ack e m ≡ new
        → (new && not (retransmitted (forget_endpoint e).transmissions (if later then m.ack - 1 else e.stream.snd_una) m.ack))
        ≡ (new && not (retransmitted e.transmissions (if later then m.ack - 1 else e.stream.snd_una) m.ack))
    by false later is = refl
    by true true is = rw (again-forget e (m.ack - 1) m.ack (grind (arith, nat_tests, is))) refl
    by true false is = rw (again-forget e e.stream.snd_una m.ack (omega arith)) refl

pub connected_rules-forget : (h : Header) (b : HostTcp) (me : EndpointId) (e : Endpoint) (how : TakeChoice) (m : Emission) (moment : ℕ)
    → connected_rules h b me (forget_endpoint e) how m moment ≡ connected_rules h b me e how m moment
connected_rules-forget h b me e how m moment = rw (acceptable-forget e m, rcv_nxt-forget e, snd_max-forget e, sample-forget h.version e m) refl

pub expiry_rules-forget : (h : Header) (moment : ℕ) (e : Endpoint) (x : Expired) → expiry_rules h moment (forget_endpoint e) x ≡ expiry_rules h moment e x
expiry_rules-forget h moment e (Rto growth) = rw (snd_max-forget e) refl
expiry_rules-forget h moment e Persist = rw (rcv_nxt-forget e, end_of-forget e) refl
expiry_rules-forget h moment e Msl2 = refl
expiry_rules-forget h moment e Giveup = rw (snd_max-forget e) refl
expiry_rules-forget h moment e Pto = rw (rcv_nxt-forget e, snd_max-forget e) refl

pub recovery_rules-forget : (v : Version) (e : Endpoint) (change : RecoveryChange) (cwnd ssthresh moment : ℕ)
    → recovery_rules v (forget_endpoint e) change cwnd ssthresh moment ≡ recovery_rules v e change cwnd ssthresh moment
recovery_rules-forget v e Begins cwnd ssthresh moment = rw (rcv_nxt-forget e, snd_max-forget e) refl
recovery_rules-forget v e IsUndone cwnd ssthresh moment = rw (rcv_nxt-forget e) refl
