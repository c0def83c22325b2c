-- Forgetting keeps what is said of an endpoint's counts, and leaves nothing more to be discarded.
use Rattle.std.proofs.Common.{◌≡◌, ℕ, suc, ◌-◌, ◌*◌, ◌^◌, ◌<◌, ◌≤◌, true, false, List, length, map, ap, arith}
use Rattle.std.specs.List.{All}
use Rattle.std.proofs.lemmas.List.Elements.{All-map, All-weaker}
use Rattle.streams.specs.Forgetting.{forgotten}
use Rattle.streams.specs.Received as received
use Rattle.streams.proofs.Covers.{length-covered}
use Rattle.window_rules.specs.Counts.{IsCounted}
use Rattle.window_rules.proofs.ControlLemmas.{counts_later}
use Rattle.spec_tcp.specs.declared.endpoint.Endpoint.{Endpoint}
use Rattle.spec_tcp.specs.Endpoints.{rcv_nxt}
use Rattle.case_forms.specs.States.{is_closed, is_syn_sent}
use Rattle.spec_tcp.specs.Bounds.{IsForgotten, IsKept}
use Rattle.spec_tcp.specs.Forgetting.{forget_endpoint}
use Rattle.spec_tcp_laws.proofs.ForgetReads.{forget-forget, rcv_nxt-forget}

-- an endpoint after so many steps, of which something may still be discarded
pub record IsBounded (steps : ℕ) (e : Endpoint) : Type 0 where
  pub snd_una : e.stream.snd_una < 2 ^ 63
  pub counts : IsCounted steps e.stream.snd_una e.control
  pub unanswered_expiries : e.unanswered_expiries ≤ steps
  pub backoffs : e.backoffs ≤ steps
  pub accepted : length e.stream.accepted ≤ 2 ^ 32 * steps
  pub met : is_syn_sent e.state ≡ false → is_closed e.state ≡ false → 1 ≤ rcv_nxt e
  pub unmet : is_syn_sent e.state ≡ true → e.stream.receive ≡ received.empty

pub bounded : (steps : ℕ) (e : Endpoint) → IsKept steps e → IsBounded steps e
bounded steps e k =
    record {
      snd_una = k.snd_una;
      counts = k.counts;
      unanswered_expiries = k.unanswered_expiries;
      backoffs = k.backoffs;
      accepted = k.accepted;
      met = k.met;
      unmet = k.unmet;
    }

pub bounded_later : (steps : ℕ) (e : Endpoint) → IsBounded steps e → IsBounded (suc steps) e
bounded_later steps e b =
    let unanswered_expiries = b.unanswered_expiries in
    let backoffs = b.backoffs in
    let accepted = b.accepted in
    record {
      snd_una = b.snd_una;
      counts = counts_later e.control steps e.stream.snd_una b.counts;
      unanswered_expiries = omega arith;
      backoffs = omega arith;
      accepted = omega arith;
      met = b.met;
      unmet = b.unmet;
    }

pub kept_later : (steps : ℕ) (e : Endpoint) → IsKept steps e → IsKept (suc steps) e
kept_later steps e k =
    let b = bounded_later steps e (bounded steps e k) in
    record {
      snd_una = b.snd_una;
      counts = b.counts;
      unanswered_expiries = b.unanswered_expiries;
      backoffs = b.backoffs;
      accepted = b.accepted;
      forgets = k.forgets;
      met = b.met;
      unmet = b.unmet;
    }

pub is_forgotten : (e : Endpoint) → IsForgotten (forget_endpoint e)
is_forgotten e = record {
  accepted = ap (λ (x : Endpoint). x.stream.accepted) (forget-forget e);
  received = ap (λ (x : Endpoint). x.stream.receive) (forget-forget e);
  made = ap (λ (x : Endpoint). x.transmissions) (forget-forget e);
}

pub kept_forgotten : (steps : ℕ) (e : Endpoint) → IsBounded steps e → IsKept steps (forget_endpoint e)
kept_forgotten steps e b =
    let same = length-covered 0 (e.stream.snd_una - 1) e.stream.accepted in
    let accepted = b.accepted in
    let front = rcv_nxt-forget e in
    record {
      snd_una = b.snd_una;
      counts = b.counts;
      unanswered_expiries = b.unanswered_expiries;
      backoffs = b.backoffs;
      accepted = omega arith;
      forgets = is_forgotten e;
      met = λ sent closed. let old = b.met sent closed in omega arith;
      unmet = λ sent. ap forgotten (b.unmet sent);
    }

pub all_kept_forgotten : (steps : ℕ) (es : List Endpoint) → All (IsBounded steps) es → All (IsKept steps) (map forget_endpoint es)
all_kept_forgotten steps es h =
    All-map (IsKept steps) forget_endpoint es
    (All-weaker (IsBounded steps) (λ e. IsKept steps (forget_endpoint e)) (kept_forgotten steps) es h)
