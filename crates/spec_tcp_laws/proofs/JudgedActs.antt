-- Acts of a host whose endpoints go by another profile: their rules, what the host has then, and what is made.
use Rattle.std.proofs.Common.{◌≡◌, ℕ, Bool, true, false, List, [], ◌∷◌, Option, None, Some, refl, ap, if◌then◌else◌}
use Rattle.std.specs.Prelude.{slice_get}
use Rattle.std.specs.Option.{option_map, option_map_or}
use Rattle.std.proofs.lemmas.Option.{slice_get-map}
use Rattle.case_forms.specs.States.{is_closed, is_syn_sent}
use Rattle.case_forms.specs.declared.calls.Host.{Host}
use Rattle.case_forms.specs.declared.steps.TakeChoice.{TakeChoice}
use Rattle.case_forms.specs.declared.trace.Header.{Header}
use Rattle.case_forms.specs.declared.version.Judged.{Judged}
use Rattle.verdict.specs.Rules.{first_broken}
use Rattle.verdict.specs.declared.rule.Rule.{Rule}
use Rattle.verdict.specs.declared.rule.Rule.TheVariants as rules
use Rattle.window_rules.specs.declared.control.Profile.{Profile}
use Rattle.spec_tcp.specs.declared.endpoint.Emission.{Emission}
use Rattle.spec_tcp.specs.declared.endpoint.Endpoint.{Endpoint}
use Rattle.spec_tcp.specs.declared.endpoint.EndpointId.{EndpointId}
use Rattle.spec_tcp.specs.Arrives.{AtEndpoint, AtListener, Nobody, Taker, after_taking, endpoint_taken, endpoint_taker, listener_taker, taker, taker_rules}
use Rattle.spec_tcp.specs.Arrives.Listen.{child}
use Rattle.spec_tcp.specs.Arrives.OtherStates.{connected_rules}
use Rattle.spec_tcp.specs.Arrives.SynSent.{syn_sent_rules}
use Rattle.spec_tcp.specs.Heard.{as_read}
use Rattle.spec_tcp.specs.HostTcp.{HostTcp, endpoint_at, listener_on, place_of}
use Rattle.spec_tcp.specs.Machine.{Act, Calls, Expires, Makes, Recovers, Resets, Takes, act_after, act_makes, act_rules, made_at, rules_at}
use Rattle.spec_tcp.specs.Makes.{after_making, emission_of, making_rules}
use Rattle.spec_tcp.specs.Recovery.{after_recovery, recovery_rules}
use Rattle.spec_tcp.specs.Reset.{finds_nothing}
use Rattle.spec_tcp.specs.Signals.{profile_of}
use Rattle.spec_tcp.specs.Timeouts.{after_expiry, expiry_rules}
use Rattle.spec_tcp_laws.specs.Judging.{body_by, endpoint_by, header_by}
use Rattle.spec_tcp_laws.proofs.JudgedBodies.{append_by, call_allows_by, call_kept, endpoint_of_by, modify_by, place_by, ports_kept}
use Rattle.spec_tcp_laws.proofs.JudgedEffects.{endpoint_kept, expiry_kept, making_kept, recovery_kept}
use Rattle.spec_tcp_laws.proofs.JudgedRules.{MayJudge, connected_passes, expiry_passes, making_passes, recovery_passes, syn_sent_passes}
use Rattle.spec_tcp_laws.proofs.Takes.{taker_there}

-- by this profile less of each endpoint is judged
abbrev pub MayJudgeAll : Profile → HostTcp → Type 0
MayJudgeAll p b = (i : ℕ) (e : Endpoint) → slice_get b.endpoints i ≡ Some e → MayJudge p e

-- whom a segment finds
abbrev pub taker_by : Profile → Taker → Taker
taker_by p Nobody = Nobody
taker_by p (AtListener l) = AtListener l
taker_by p (AtEndpoint i e) = AtEndpoint i (endpoint_by p e)

listener_taker_by : (p : Profile) (b : HostTcp) (m : Emission) → listener_taker b m ≡ taker_by p (listener_taker b m)
listener_taker_by p b m = by (listener_on b m.rport)
  where
    by : (o : Option ℕ) → option_map_or (λ l. AtListener l) o Nobody ≡ taker_by p (option_map_or (λ l. AtListener l) o Nobody)
    by None = refl
    by (Some l) = refl

endpoint_taker_by : (p : Profile) (b : HostTcp) (m : Emission) (i : ℕ) → endpoint_taker (body_by p b) m i ≡ taker_by p (endpoint_taker b m i)
endpoint_taker_by p b m i = rw (slice_get-map (endpoint_by p) b.endpoints i) (by (slice_get b.endpoints i))
  where
    closed : (e : Endpoint) (c : Bool)
        → (if c then listener_taker b m else AtEndpoint i (endpoint_by p e)) ≡ taker_by p (if c then listener_taker b m else AtEndpoint i e)
    closed e true = listener_taker_by p b m
    closed e false = refl

    by : (o : Option Endpoint)
        → option_map_or (λ e. if is_closed e.state then listener_taker b m else AtEndpoint i e) (option_map (endpoint_by p) o) (listener_taker b m)
        ≡ taker_by p (option_map_or (λ e. if is_closed e.state then listener_taker b m else AtEndpoint i e) o (listener_taker b m))
    by None = listener_taker_by p b m
    by (Some e) = closed e (is_closed e.state)

pub taker_is : (p : Profile) (b : HostTcp) (m : Emission) → taker (body_by p b) m ≡ taker_by p (taker b m)
taker_is p b m = rw (place_by p b m.rport m.lport) (by (place_of b m.rport m.lport))
  where
    by : (o : Option ℕ)
        → option_map_or (endpoint_taker (body_by p b) m) o (listener_taker b m) ≡ taker_by p (option_map_or (endpoint_taker b m) o (listener_taker b m))
    by None = listener_taker_by p b m
    by (Some i) = endpoint_taker_by p b m i

-- the rules at the endpoint of some ports
rules_pass : (p : Profile) (b : HostTcp) (lport rport : ℕ) (f g : Endpoint → List (Rule × Bool)) → MayJudgeAll p b
    → ((e : Endpoint) → MayJudge p e → first_broken (f e) ≡ None → first_broken (g (endpoint_by p e)) ≡ None)
    → first_broken (rules_at b lport rport f) ≡ None → first_broken (rules_at (body_by p b) lport rport g) ≡ None
rules_pass p b lport rport f g may passes passed = rw (endpoint_of_by p b lport rport) (by (place_of b lport rport) passed)
  where
    at : (o : Option Endpoint) → ((e : Endpoint) → o ≡ Some e → MayJudge p e) → first_broken (option_map_or f o ((rules.NoEndpoint, true) ∷ [])) ≡ None
        → first_broken (option_map_or g (option_map (endpoint_by p) o) ((rules.NoEndpoint, true) ∷ [])) ≡ None
    at None there passed = passed
    at (Some e) there passed = passes e (there e refl) passed

    by : (o : Option ℕ) → first_broken (option_map_or f (endpoint_at b o) ((rules.NoEndpoint, true) ∷ [])) ≡ None
        → first_broken (option_map_or g (option_map (endpoint_by p) (endpoint_at b o)) ((rules.NoEndpoint, true) ∷ [])) ≡ None
    by None passed = passed
    by (Some i) passed = at (slice_get b.endpoints i) (may i) passed

taker_passes : (p : Profile) (j : Judged) (h : Header) (me : Host) (b : HostTcp) (how : TakeChoice) (m : Emission) (moment : ℕ) (t : Taker)
    → ((i : ℕ) (e : Endpoint) → t ≡ AtEndpoint i e → MayJudge p e) → first_broken (taker_rules h me b how m moment t) ≡ None
    → first_broken (taker_rules (header_by j h) me (body_by p b) how m moment (taker_by p t)) ≡ None
taker_passes p j h me b how m moment Nobody may passed = passed
taker_passes p j h me b how m moment (AtListener l) may passed = passed
taker_passes p j h me b how m moment (AtEndpoint i e) may passed = by (as_read h.version e m) (is_syn_sent e.state) passed
  where
    name : EndpointId
    name = record { host = me; number = i }

    by : (m : Emission) (sent : Bool) → first_broken (if sent then syn_sent_rules e how m moment else connected_rules h b name e how m moment) ≡ None
        → first_broken
        (if sent then syn_sent_rules (endpoint_by p e) how m moment else connected_rules (header_by j h) (body_by p b) name (endpoint_by p e) how m moment)
        ≡ None
    by m true passed = syn_sent_passes p e how m moment (may i e refl) passed
    by m false passed = connected_passes p j h b name e how m moment (may i e refl) passed

pub nothing_same : (p : Profile) (m : Emission) (t : Taker) → finds_nothing m (taker_by p t) ≡ finds_nothing m t
nothing_same p m Nobody = refl
nothing_same p m (AtListener l) = refl
nothing_same p m (AtEndpoint i e) = refl

pub act_passes : (p : Profile) (j : Judged) (h : Header) (me : Host) (moment : ℕ) (b : HostTcp) (act : Act) → MayJudgeAll p b
    → first_broken (act_rules h me moment b act) ≡ None
    → first_broken (act_rules (header_by j h) me moment (body_by p b) act) ≡ None
act_passes p j h me moment b (Calls call answer) may passed = rw (call_allows_by h.version p b call answer) passed
act_passes p j h me moment b (Makes m) may passed =
    rules_pass p b m.lport m.rport (λ e. making_rules h.version e m) (λ e. making_rules h.version e m) may
    (λ e. making_passes h.version p e m) passed
act_passes p j h me moment b (Takes how m) may passed =
    rw (taker_is p b m) (taker_passes p j h me b how m moment (taker b m) (λ i e is. may i e (taker_there b m i e is)) passed)
act_passes p j h me moment b (Resets m) may passed = rw (taker_is p b m, nothing_same p m (taker b m)) passed
act_passes p j h me moment b (Expires x) may passed =
    rules_pass p b x.lport x.rport (λ e. expiry_rules h moment e x.expired)
    (λ e. expiry_rules (header_by j h) moment e x.expired) may (λ e. expiry_passes p j h moment e x.expired) passed
act_passes p j h me moment b (Recovers x) may passed =
    rules_pass p b x.lport x.rport (λ e. recovery_rules h.version e x.change x.cwnd x.ssthresh moment)
    (λ e. recovery_rules h.version e x.change x.cwnd x.ssthresh moment) may (λ e. recovery_passes h.version p e x.change x.cwnd x.ssthresh moment) passed

-- what the host has then; an endpoint that begins has the profile of the header
taking_kept : (j : Judged) (h : Header) (b : HostTcp) (how : TakeChoice) (m : Emission) (moment : ℕ) (t : Taker)
    → after_taking (header_by j h) (body_by (profile_of (header_by j h)) b) how m moment (taker_by (profile_of (header_by j h)) t)
    ≡ body_by (profile_of (header_by j h)) (after_taking h b how m moment t)
taking_kept j h b how m moment Nobody = refl
taking_kept j h b how m moment (AtListener l) =
    ap (λ es. record b { endpoints = es }) (append_by (profile_of (header_by j h)) b.endpoints (child (profile_of h) l how m moment))
taking_kept j h b how m moment (AtEndpoint i e) =
    ap (λ es. record (after_taking h b how m moment (AtEndpoint i e)) { endpoints = es })
    (modify_by (profile_of (header_by j h)) b.endpoints i (λ x. endpoint_taken (header_by j h) x how (as_read h.version e m) moment)
    (λ x. endpoint_taken h x how (as_read h.version e m) moment)
    (endpoint_kept (profile_of (header_by j h)) j h how (as_read h.version e m) moment))

pub act_kept : (j : Judged) (h : Header) (me : Host) (moment : ℕ) (b : HostTcp) (act : Act)
    → act_after (header_by j h) me moment (body_by (profile_of (header_by j h)) b) act ≡ body_by (profile_of (header_by j h)) (act_after h me moment b act)
act_kept j h me moment b (Calls call answer) = call_kept (profile_of (header_by j h)) (profile_of h) b call answer
act_kept j h me moment b (Makes m) =
    ports_kept (profile_of (header_by j h)) b m.lport m.rport (λ e. after_making e m moment) (making_kept (profile_of (header_by j h)) m moment)
act_kept j h me moment b (Takes how m) = rw (taker_is (profile_of (header_by j h)) b m) (taking_kept j h b how m moment (taker b m))
act_kept j h me moment b (Resets m) = refl
act_kept j h me moment b (Expires x) =
    ports_kept (profile_of (header_by j h)) b x.lport x.rport (λ e. after_expiry e x.expired moment) (expiry_kept (profile_of (header_by j h)) x.expired moment)
act_kept j h me moment b (Recovers x) =
    ports_kept (profile_of (header_by j h)) b x.lport x.rport (λ e. after_recovery e x.change x.cwnd x.ssthresh moment)
    (recovery_kept (profile_of (header_by j h)) x.change x.cwnd x.ssthresh moment)

-- the segment that is made
pub makes_same : (p : Profile) (me : Host) (moment : ℕ) (b : HostTcp) (act : Act) → act_makes me moment (body_by p b) act ≡ act_makes me moment b act
makes_same p me moment b (Calls call answer) = refl
makes_same p me moment b (Takes how m) = refl
makes_same p me moment b (Resets m) = refl
makes_same p me moment b (Expires x) = refl
makes_same p me moment b (Recovers x) = refl
makes_same p me moment b (Makes m) = rw (place_by p b m.lport m.rport) (by (place_of b m.lport m.rport))
  where
    at : (i : ℕ) (o : Option Endpoint)
        → option_map (λ e. emission_of (record { host = me; number = i }) e m moment) (option_map (endpoint_by p) o)
        ≡ option_map (λ e. emission_of (record { host = me; number = i }) e m moment) o
    at i None = refl
    at i (Some e) = refl

    by : (o : Option ℕ) → option_map_or (made_at me moment (body_by p b) m) o None ≡ option_map_or (made_at me moment b m) o None
    by None = refl
    by (Some i) = rw (slice_get-map (endpoint_by p) b.endpoints i) (at i (slice_get b.endpoints i))
