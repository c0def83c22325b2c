-- Acts of a host: what was discarded matters neither to their rules, nor to what the host has then, nor to what is made.
use Rattle.std.proofs.Common.{◌≡◌, ℕ, ◌<◌, Bool, true, false, [], ◌∷◌, Option, None, Some, refl, arith, inl, inr}
use Rattle.std.specs.Prelude.{if◌then◌else◌, slice_get}
use Rattle.std.specs.Option.{option_map, option_map_or}
use Rattle.std.proofs.lemmas.Bool.{cases_lt}
use Rattle.std.proofs.lemmas.Bool.Decides.{nat_tests}
use Rattle.std.proofs.lemmas.Option.{slice_get-map}
use Rattle.case_forms.specs.declared.trace.Header.{Header}
use Rattle.case_forms.specs.declared.calls.Host.{Host}
use Rattle.verdict.specs.declared.rule.Rule.TheVariants as rules
use Rattle.verdict.specs.Rules.{first_broken}
use Rattle.verdict.proofs.RuleLemmas.{none_all}
use Rattle.streams.specs.Sent.{piece}
use Rattle.spec_tcp.specs.Signals.{profile_of}
use Rattle.spec_tcp.specs.declared.endpoint.EndpointId.{EndpointId}
use Rattle.spec_tcp.specs.declared.endpoint.Endpoint.{Endpoint}
use Rattle.spec_tcp.specs.declared.endpoint.Emission.{Emission}
use Rattle.spec_tcp.specs.HostTcp.{HostTcp, listener_on, place_of, endpoint_at}
use Rattle.case_forms.specs.States.{is_closed, is_syn_sent}
use Rattle.case_forms.specs.declared.steps.SegmentPlan.{SegmentPlan}
use Rattle.spec_tcp.specs.Makes.Payload.{is_bad_payload, is_bad_place}
use Rattle.spec_tcp.specs.Makes.{making_rules, emission_of, after_making}
use Rattle.case_forms.specs.declared.steps.TakeChoice.{TakeChoice}
use Rattle.case_forms.specs.declared.version.Version.{Version}
use Rattle.spec_tcp.specs.Arrives.OtherStates.{connected_rules}
use Rattle.spec_tcp.specs.Arrives.SynSent.{syn_sent_rules}
use Rattle.spec_tcp.specs.Heard.{as_read}
use Rattle.spec_tcp.specs.Arrives.Listen.{child}
use Rattle.spec_tcp.specs.Arrives.{Taker, Nobody, AtListener, AtEndpoint, listener_taker, endpoint_taker, taker, taker_rules, endpoint_taken, after_taking}
use Rattle.spec_tcp.specs.Reset.{finds_nothing}
use Rattle.spec_tcp.specs.Timeouts.{expiry_rules, after_expiry}
use Rattle.spec_tcp.specs.Recovery.{recovery_rules, after_recovery}
use Rattle.spec_tcp.specs.Machine.{Act, Calls, Makes, Takes, Resets, Expires, Recovers, act_rules, act_after, made_at, act_makes}
use Rattle.spec_tcp.specs.Forgetting.{forget_endpoint, forget_body}
use Rattle.spec_tcp_laws.proofs.ForgetReads.{rcv_nxt-forget, piece-forget}
use Rattle.spec_tcp_laws.proofs.ForgetRules.{making_rules-forget, syn_sent_rules-forget, connected_rules-forget, expiry_rules-forget, recovery_rules-forget}
use Rattle.spec_tcp_laws.proofs.ForgetEffects.{making-forgets, expiry-forgets, recovery-forgets}
use Rattle.spec_tcp_laws.proofs.ForgetTaken.{endpoint-forgets}
use Rattle.spec_tcp_laws.proofs.ForgetBodies.{append-forgets, body-forget, modify-forgets, place-forget, ports-forgets, rules_at-forget}
use Rattle.spec_tcp_laws.proofs.ForgetCalls.{call_allows-forget, call-forgets}

-- whom a segment finds, of which something was discarded
abbrev pub forget_taker : Taker → Taker
forget_taker Nobody = Nobody
forget_taker (AtListener l) = AtListener l
forget_taker (AtEndpoint i e) = AtEndpoint i (forget_endpoint e)

listener-forget : (b : HostTcp) (m : Emission) → listener_taker b m ≡ forget_taker (listener_taker b m)
listener-forget b m = by (listener_on b m.rport)
  where
    by : (o : Option ℕ) → option_map_or (λ l. AtListener l) o Nobody ≡ forget_taker (option_map_or (λ l. AtListener l) o Nobody)
    by None = refl
    by (Some l) = refl

endpoint_taker-forget : (b : HostTcp) (m : Emission) (i : ℕ) → endpoint_taker (forget_body b) m i ≡ forget_taker (endpoint_taker b m i)
endpoint_taker-forget b m i = rw (slice_get-map forget_endpoint b.endpoints i) (by (slice_get b.endpoints i))
  where
    closed : (e : Endpoint) (c : Bool)
        → (if c then listener_taker b m else AtEndpoint i (forget_endpoint e))
        ≡ forget_taker (if c then listener_taker b m else AtEndpoint i e)
    closed e true = listener-forget b m
    closed e false = refl

    by : (o : Option Endpoint)
        → option_map_or (λ e. if is_closed e.state then listener_taker b m else AtEndpoint i e)
        (option_map forget_endpoint o) (listener_taker b m)
        ≡ forget_taker (option_map_or (λ e. if is_closed e.state then listener_taker b m else AtEndpoint i e) o (listener_taker b m))
    by None = listener-forget b m
    by (Some e) = closed e (is_closed e.state)

pub taker-forget : (b : HostTcp) (m : Emission) → taker (forget_body b) m ≡ forget_taker (taker b m)
taker-forget b m = rw (place-forget b m.rport m.lport) (by (place_of b m.rport m.lport))
  where
    by : (o : Option ℕ)
        → option_map_or (endpoint_taker (forget_body b) m) o (listener_taker b m)
        ≡ forget_taker (option_map_or (endpoint_taker b m) o (listener_taker b m))
    by None = listener-forget b m
    by (Some i) = endpoint_taker-forget b m i

-- where positions are read nothing is looked at that may be discarded
pub read-forget : (h : Header) (e : Endpoint) (m : Emission) → as_read h.version (forget_endpoint e) m ≡ as_read h.version e m
read-forget h e m = rw (rcv_nxt-forget e) refl

taker_rules-forget : (h : Header) (me : Host) (b : HostTcp) (how : TakeChoice) (m : Emission) (moment : ℕ) (t : Taker)
    → taker_rules h me (forget_body b) how m moment (forget_taker t) ≡ taker_rules h me b how m moment t
taker_rules-forget h me b how m moment Nobody = refl
taker_rules-forget h me b how m moment (AtListener l) = refl
taker_rules-forget h me b how m moment (AtEndpoint i e) = rw (read-forget h e m) (by (as_read h.version e m) (is_syn_sent e.state))
  where
    name : EndpointId
    name = record { host = me; number = i }

    by : (m : Emission) (sent : Bool)
        → (if sent then syn_sent_rules (forget_endpoint e) how m moment else connected_rules h (forget_body b) name (forget_endpoint e) how m moment)
        ≡ (if sent then syn_sent_rules e how m moment else connected_rules h b name e how m moment)
    by m true = syn_sent_rules-forget e how m moment
    by m false = connected_rules-forget h b name e how m moment

nothing-forget : (m : Emission) (t : Taker) → finds_nothing m (forget_taker t) ≡ finds_nothing m t
nothing-forget m Nobody = refl
nothing-forget m (AtListener l) = refl
nothing-forget m (AtEndpoint i e) = refl

pub act_rules-forget : (h : Header) (me : Host) (moment : ℕ) (b : HostTcp) (act : Act) → act_rules h me moment (forget_body b) act ≡ act_rules h me moment b act
act_rules-forget h me moment b (Calls call answer) = rw (call_allows-forget h.version b call answer) refl
act_rules-forget h me moment b (Makes m) = rules_at-forget b m.lport m.rport (λ e. making_rules h.version e m) (λ e. making_rules-forget h.version e m)
act_rules-forget h me moment b (Takes how m) = rw (taker-forget b m) (taker_rules-forget h me b how m moment (taker b m))
act_rules-forget h me moment b (Resets m) = rw (taker-forget b m, nothing-forget m (taker b m)) refl
act_rules-forget h me moment b (Expires x) =
    rules_at-forget b x.lport x.rport (λ e. expiry_rules h moment e x.expired)
    (λ e. expiry_rules-forget h moment e x.expired)
act_rules-forget h me moment b (Recovers x) =
    rules_at-forget b x.lport x.rport (λ e. recovery_rules h.version e x.change x.cwnd x.ssthresh moment)
    (λ e. recovery_rules-forget h.version e x.change x.cwnd x.ssthresh moment)

taking-forgets : (h : Header) (b : HostTcp) (how : TakeChoice) (m : Emission) (moment : ℕ) (t : Taker)
    → forget_body (after_taking h (forget_body b) how m moment (forget_taker t))
    ≡ forget_body (after_taking h b how m moment t)
taking-forgets h b how m moment Nobody = body-forget b
taking-forgets h b how m moment (AtListener l) = rw (append-forgets b.endpoints (child (profile_of h) l how m moment ∷ [])) refl
taking-forgets h b how m moment (AtEndpoint i e) =
    rw (
      read-forget h e m,
      modify-forgets b.endpoints i (λ x. endpoint_taken h x how (as_read h.version e m) moment)
          (endpoint-forgets h how (as_read h.version e m) moment),
    ) refl

pub act-forgets : (h : Header) (me : Host) (moment : ℕ) (b : HostTcp) (act : Act)
    → forget_body (act_after h me moment (forget_body b) act) ≡ forget_body (act_after h me moment b act)
act-forgets h me moment b (Calls call answer) = call-forgets (profile_of h) b call answer
act-forgets h me moment b (Makes m) = ports-forgets b m.lport m.rport (λ e. after_making e m moment) (making-forgets m moment)
act-forgets h me moment b (Takes how m) = rw (taker-forget b m) (taking-forgets h b how m moment (taker b m))
act-forgets h me moment b (Resets m) = body-forget b
act-forgets h me moment b (Expires x) = ports-forgets b x.lport x.rport (λ e. after_expiry e x.expired moment) (expiry-forgets x.expired moment)
act-forgets h me moment b (Recovers x) =
    ports-forgets b x.lport x.rport (λ e. after_recovery e x.change x.cwnd x.ssthresh moment) (recovery-forgets x.change x.cwnd x.ssthresh moment)

-- a permitted segment below the oldest position that is not acknowledged is empty
empty_below : (v : Version) (e : Endpoint) (m : SegmentPlan) → is_bad_payload e m ≡ false → is_bad_place v e m ≡ false → m.pos < e.stream.snd_una → m.len ≡ 0
empty_below v e m payload place low = grind (arith, nat_tests, payload, place, low)

piece_same : (v : Version) (e : Endpoint) (m : SegmentPlan) → first_broken (making_rules v e m) ≡ None
    → piece (forget_endpoint e).stream.accepted m.pos m.len ≡ piece e.stream.accepted m.pos m.len
piece_same v e m permitted =
    let all = none_all (making_rules v e m) permitted in
    elim (cases_lt m.pos e.stream.snd_una) [
      | inl low ↦ (let empty : m.len ≡ 0 = empty_below v e m all.1.1.1.0 all.1.1.1.1.1.0 low in rw empty refl)
      | inr high ↦ piece-forget e m.pos m.len high
    ]

emission_same : (v : Version) (me : EndpointId) (e : Endpoint) (m : SegmentPlan) (moment : ℕ)
    → first_broken (making_rules v e m) ≡ None → emission_of me (forget_endpoint e) m moment ≡ emission_of me e m moment
emission_same v me e m moment permitted = rw (rcv_nxt-forget e, piece_same v e m permitted) refl

-- the segment that is made is the same where it is permitted
pub makes-forget : (h : Header) (me : Host) (moment : ℕ) (b : HostTcp) (m : SegmentPlan)
    → first_broken (act_rules h me moment b (Makes m)) ≡ None
    → act_makes me moment (forget_body b) (Makes m) ≡ act_makes me moment b (Makes m)
makes-forget h me moment b m permitted = rw (place-forget b m.lport m.rport) (by (place_of b m.lport m.rport) permitted)
  where
    at : (i : ℕ) (o : Option Endpoint) → first_broken (option_map_or (λ e. making_rules h.version e m) o ((rules.NoEndpoint, true) ∷ [])) ≡ None
        → option_map (λ e. emission_of (record { host = me; number = i }) e m moment) (option_map forget_endpoint o)
        ≡ option_map (λ e. emission_of (record { host = me; number = i }) e m moment) o
    at i None p = refl
    at i (Some e) p = rw (emission_same h.version (record { host = me; number = i }) e m moment p) refl

    by : (o : Option ℕ) → first_broken (option_map_or (λ e. making_rules h.version e m) (endpoint_at b o) ((rules.NoEndpoint, true) ∷ [])) ≡ None
        → option_map_or (made_at me moment (forget_body b) m) o None ≡ option_map_or (made_at me moment b m) o None
    by None p = refl
    by (Some i) p = rw (slice_get-map forget_endpoint b.endpoints i) (at i (slice_get b.endpoints i) p)
