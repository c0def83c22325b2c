-- Making a segment: what the rules say of it, and that it is good.
use Rattle.std.proofs.Common.{◌≡◌, ℕ, ◌+◌, ◌<◌, ◌≤◌, Bool, true, false, List, [], ◌∷◌, length, Option, Some, None, refl, subst, arith}
use Rattle.std.specs.Prelude.{if◌then◌else◌, ◌==◌, ◌&&◌, ◌||◌, not, nat_lt, nat_le, slice_get}
use Rattle.std.specs.Option.{option_map, option_map_or}
use Rattle.std.proofs.Math.Nat.{le_refl}
use Rattle.std.proofs.lemmas.Option.{none-some, same_Some}
use Rattle.case_forms.specs.declared.timer.RecoveryChange.{RecoveryChange}
use Rattle.case_forms.specs.declared.calls.Host.{Host}
use Rattle.verdict.specs.declared.rule.Rule.TheVariants as rules
use Rattle.verdict.specs.Rules.{first_broken}
use Rattle.verdict.proofs.RuleLemmas.{none_all}
use Rattle.streams.specs.Cells.{front}
use Rattle.streams.proofs.Fronts.{front_at}
use Rattle.streams.proofs.Pieces.{carried_in}
use Rattle.spec_network.specs.Tables.{pick}
use Rattle.spec_tcp.specs.declared.endpoint.EndpointId.{EndpointId}
use Rattle.spec_tcp.specs.declared.endpoint.Stream.{Stream}
use Rattle.spec_tcp.specs.declared.endpoint.Endpoint.{Endpoint}
use Rattle.spec_tcp.specs.declared.endpoint.Emission.{Emission}
use Rattle.spec_tcp.specs.Endpoints.{rcv_nxt}
use Rattle.spec_tcp.specs.HostTcp.{HostTcp, place_of, at_ports, with_endpoint}
use Rattle.spec_tcp.specs.Calls.Close.{shut_down}
use Rattle.case_forms.specs.declared.steps.SegmentPlan.{SegmentPlan}
use Rattle.spec_tcp.specs.Makes.Kind.{may_make, may_make_syn, may_make_reset, may_make_other}
use Rattle.spec_tcp.specs.Makes.Payload.{is_bad_payload}
use Rattle.spec_tcp.specs.Makes.Edges.{is_bad_ack, is_beyond_offer, is_congesting}
use Rattle.spec_tcp.specs.Makes.{making_rules, emission_of, after_making, endpoint_made}
use Rattle.case_forms.specs.declared.taken_line.Expired.{Expired}
use Rattle.case_forms.specs.declared.taken_line.Expired.TheVariants.{Giveup, Msl2, Persist, Pto, Rto}
use Rattle.case_forms.specs.declared.version.Version.{Version}
use Rattle.spec_tcp.specs.Timeouts.{after_expiry}
use Rattle.spec_tcp.specs.Recovery.{after_recovery}
use Rattle.spec_tcp.specs.Machine.{made_at, rules_at}
use Rattle.spec_tcp_laws.specs.Consequences.{HasStream}
use Rattle.spec_tcp_laws.proofs.Rules.{map_or_cases, not_false, both_true, neither, and_false, not_true, number_same}
use Rattle.spec_tcp_laws.proofs.Rules.{zero_from, some_from, at_most_from, less_to}
use Rattle.spec_tcp_laws.proofs.Later.{Hosts, name, GoodEmission, Good}
use Rattle.spec_tcp_laws.proofs.Moves.{GoodEnds, Moves, moves_not, moves_keeps}
use Rattle.spec_tcp_laws.proofs.Grows.{Plain, plain_either, plain_keeps}

-- bytes and flags of a segment fit what its sender sends
record Fits (acc : List ℕ) (ended : Bool) (pos len : ℕ) (s f : Bool) : Type 0 where
  pub syn_place : s ≡ true → pos ≡ 0
  pub syn_empty : s ≡ true → len ≡ 0
  pub syn_alone : s ≡ true → f ≡ false
  pub within : 0 < len → pos + len ≤ 1 + length acc
  pub behind_syn : 0 < len → 0 < pos
  pub fin_place : f ≡ true → pos + len ≡ 1 + length acc
  pub fin_ended : f ≡ true → ended ≡ true

without_fin : (f : Bool) → not f ≡ true → f ≡ false
without_fin f e = not_true f e

fits : (e : Endpoint) (m : SegmentPlan) → may_make e m ≡ true → is_bad_payload e m ≡ false
    → Fits e.stream.accepted e.stream.ended m.pos m.len m.flags.syn m.flags.fin
fits e m may good = go m.flags.syn m.flags.rst may good
  where
    acc : List ℕ
    acc = e.stream.accepted

    go : (s r : Bool) → (if s then may_make_syn e m else if r then may_make_reset e m else may_make_other e m) ≡ true
        → (if s then not (m.pos == 0 && m.len == 0) else if r then not (m.len == 0)
        else (nat_lt 0 m.len && (m.pos == 0 || nat_lt (1 + length acc) (m.pos + m.len)))
        || (m.flags.fin && not (e.stream.ended && m.pos + m.len == 1 + length acc))) ≡ false
        → Fits acc e.stream.ended m.pos m.len s m.flags.fin
    go true r may good =
        let parts = both_true (m.pos == 0) (m.len == 0) (not_false _ good) in
        let place : m.pos ≡ 0 = zero_from m.pos parts.0 in
        let none : m.len ≡ 0 = zero_from m.len parts.1 in
        let alone : m.flags.fin ≡ false = not_true m.flags.fin (both_true _ (not m.flags.fin) (both_true _ (not m.flags.rst) may).0).1 in
        record {
          syn_place = λ h. place;
          syn_empty = λ h. none;
          syn_alone = λ h. alone;
          within = λ h. absurd (omega arith);
          behind_syn = λ h. absurd (omega arith);
          fin_place = λ h. absurd cc;
          fin_ended = λ h. absurd cc;
        }
    go false true may good =
        let none : m.len ≡ 0 = zero_from m.len (not_false _ good) in
        let alone : m.flags.fin ≡ false = not_true m.flags.fin (both_true _ (not m.flags.fin) may).1 in
        record {
          syn_place = λ h. absurd cc;
          syn_empty = λ h. absurd cc;
          syn_alone = λ h. absurd cc;
          within = λ h. absurd (omega arith);
          behind_syn = λ h. absurd (omega arith);
          fin_place = λ h. absurd cc;
          fin_ended = λ h. absurd cc;
        }
    go false false may good =
        let parts = neither (nat_lt 0 m.len && (m.pos == 0 || nat_lt (1 + length acc) (m.pos + m.len))) _ good in
        record {
          syn_place = λ h. absurd cc;
          syn_empty = λ h. absurd cc;
          syn_alone = λ h. absurd cc;
          within = λ h. at_most_from (1 + length acc) (m.pos + m.len) (neither (m.pos == 0) _ (and_false (nat_lt 0 m.len) _ parts.0 (less_to 0 m.len h))).1;
          behind_syn = λ h. some_from m.pos (neither (m.pos == 0) _ (and_false (nat_lt 0 m.len) _ parts.0 (less_to 0 m.len h))).0;
          fin_place = λ h. number_same (m.pos + m.len) (1 + length acc) (both_true e.stream.ended _ (not_false _ (and_false m.flags.fin _ parts.1 h))).1;
          fin_ended = λ h. (both_true e.stream.ended (m.pos + m.len == 1 + length acc) (not_false _ (and_false m.flags.fin _ parts.1 h))).0;
        }

-- what the rules say of a segment that is made
pub record MayMake (e : Endpoint) (m : SegmentPlan) : Type 0 where
  pub state : may_make e m ≡ true
  pub payload : is_bad_payload e m ≡ false
  pub ack : is_bad_ack e m ≡ false
  pub offered : is_beyond_offer e m ≡ false
  pub congestion : is_congesting e m ≡ false

pub making_facts : (v : Version) (e : Endpoint) (m : SegmentPlan) → first_broken (making_rules v e m) ≡ None → MayMake e m
making_facts v e m may = let t = none_all (making_rules v e m) may in
    record { state = not_false _ t.1.0; payload = t.1.1.1.0; ack = t.1.1.1.1.0; offered = t.1.1.1.1.1.1.0; congestion = t.1.1.1.1.1.1.1.0 }

pub made_good : (a : Hosts) (host : Host) (i : ℕ) (e : Endpoint) (m : SegmentPlan) (moment : ℕ) → Good a
    → slice_get (pick a host).body.endpoints i ≡ Some e → MayMake e m → GoodEmission a (emission_of (name host i) e m moment)
made_good a host i e m moment g at t =
    let f = fits e m t.state t.payload in
    record {
      there = (e, at, tt);
      sent = λ p c x. (
        e,
        at,
        carried_in e.stream.accepted e.stream.ended m.pos m.len m.flags.syn m.flags.fin
            f.syn_place f.syn_empty f.syn_alone f.within f.behind_syn f.fin_place f.fin_ended p c x,
      );
      peer_at_send = λ q x. (e, at, x);
      resets = λ x. absurd cc;
      ack = λ k x. acks m.flags.ack k t.ack;
    }
  where
    acks : (b : Bool) → b ≡ true → (if b then rcv_nxt e == 0 else not m.flags.rst && nat_le 1 (rcv_nxt e)) ≡ false
        → ((q : EndpointId) × (e.stream.peer ≡ Some q))
        × HasStream a (name host i) (λ s. (if b then rcv_nxt e else 0) ≤ length (front s.receive.taken))
    acks true k bad =
        let first = front_at e.stream.receive.taken 0 (some_from (rcv_nxt e) bad) in
        let from = ((g host).endpoints i e at).stream.taken 0 first.0 first.1 in
        ((from.0, from.1), (e, at, le_refl (rcv_nxt e)))
    acks false k bad = absurd cc

-- the segment that a making makes
pub makes_good : (v : Version) (a : Hosts) (host : Host) (moment : ℕ) (m : SegmentPlan) (x : Emission) → Good a
    → first_broken (rules_at (pick a host).body m.lport m.rport (λ e. making_rules v e m)) ≡ None
    → option_map_or (made_at host moment (pick a host).body m) (place_of (pick a host).body m.lport m.rport) None ≡ Some x → GoodEmission a x
makes_good v a host moment m x g may made = go (place_of (pick a host).body m.lport m.rport) may made
  where
    by : (i : ℕ) (o : Option Endpoint) → slice_get (pick a host).body.endpoints i ≡ o
        → first_broken (option_map_or (λ e. making_rules v e m) o ((rules.NoEndpoint, true) ∷ [])) ≡ None
        → option_map (λ e. emission_of (name host i) e m moment) o ≡ Some x → GoodEmission a x
    by i None at may made = absurd (none-some x made)
    by i (Some e) at may made = subst (λ y. GoodEmission a y) (same_Some _ x made) (made_good a host i e m moment g at (making_facts v e m may))

    go : (o : Option ℕ)
        → first_broken (option_map_or (λ e. making_rules v e m)
        (option_map_or (λ i. slice_get (pick a host).body.endpoints i) o None) ((rules.NoEndpoint, true) ∷ []))
        ≡ None
        → option_map_or (made_at host moment (pick a host).body m) o None ≡ Some x → GoodEmission a x
    go None may made = absurd (none-some x made)
    go (Some i) may made = by i (slice_get (pick a host).body.endpoints i) refl may made

-- one of two endpoints
pub either_stream : (b : Bool) (x y : Endpoint) (s : Stream) → x.stream ≡ s → y.stream ≡ s → (if b then x else y).stream ≡ s
either_stream true x y s p q = p
either_stream false x y s p q = q

-- the endpoint of some ports changes, but not in its streams
pub moves_at_ports : (a : Hosts) (host : Host) (b : HostTcp) (lport rport : ℕ) (f : Endpoint → Endpoint)
    → GoodEnds a host b.endpoints → ((e : Endpoint) → Plain e (f e))
    → Moves a host b.endpoints (at_ports b lport rport f).endpoints
moves_at_ports a host b lport rport f g plain =
    map_or_cases (λ (x : HostTcp). Moves a host b.endpoints x.endpoints) (place_of b lport rport) b
    (λ i. with_endpoint b i f)
    (λ e. moves_not a host b.endpoints g) (λ i e. moves_keeps a host b.endpoints i f g (λ x. plain_keeps x (f x) (plain x)))

-- making a segment, a timer's expiry and the beginning of fast recovery change no stream
pub plain_making : (m : SegmentPlan) (moment : ℕ) (e : Endpoint) → Plain e (after_making e m moment)
plain_making m moment e = plain_either m.flags.rst e (record (shut_down (endpoint_made e m moment)) { reset_due = false }) (endpoint_made e m moment)
    (record { stream = refl; irs = refl; waits = λ x. absurd cc }) (record { stream = refl; irs = refl; waits = λ x. x })

pub plain_expiry : (x : Expired) (moment : ℕ) (e : Endpoint) → Plain e (after_expiry e x moment)
plain_expiry (Rto growth) moment e = record { stream = refl; irs = refl; waits = λ x. x }
plain_expiry Persist moment e = record { stream = refl; irs = refl; waits = λ x. x }
plain_expiry Msl2 moment e = record { stream = refl; irs = refl; waits = λ x. absurd cc }
plain_expiry Giveup moment e = record { stream = refl; irs = refl; waits = λ x. absurd cc }
plain_expiry Pto moment e = record { stream = refl; irs = refl; waits = λ x. x }

pub plain_recovery : (change : RecoveryChange) (cwnd ssthresh moment : ℕ) (e : Endpoint) → Plain e (after_recovery e change cwnd ssthresh moment)
plain_recovery change cwnd ssthresh moment e = record { stream = refl; irs = refl; waits = λ x. x }
