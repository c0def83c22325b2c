-- What each step makes of the windows of endpoints.
use Rattle.std.proofs.Common.{◌≡◌, ℕ, suc, ◌≤◌, ◌⊎◌, Bool, true, false, List, [], ◌∷◌, ◌++◌, map, Option, Some, None}
use Rattle.std.proofs.Common.{refl, ap, sym, subst, ◌∙◌, inl, inr, arith}
use Rattle.std.specs.Prelude.{if◌then◌else◌, ◌==◌, ◌||◌, nat_lt, not, slice_get}
use Rattle.std.specs.Option.{option_map_or}
use Rattle.std.proofs.lemmas.Option.{none-some, same_Some}
use Rattle.case_forms.specs.Versions.{says_sender}
use Rattle.window_rules.specs.declared.control.Control.{Control}
use Rattle.case_forms.specs.declared.timer.RecoveryChange.{RecoveryChange}
use Rattle.case_forms.specs.declared.timer.RecoveryChange.TheVariants as recovery_change
use Rattle.case_forms.specs.declared.trace.Header.{Header}
use Rattle.case_forms.specs.declared.calls.Host.{Host}
use Rattle.case_forms.specs.declared.calls.Host.TheVariants as hosts
use Rattle.case_forms.specs.declared.calls.Call.{Call}
use Rattle.case_forms.specs.declared.calls.Call.TheVariants as calls
use Rattle.case_forms.specs.declared.calls.Answer.{Answer}
use Rattle.case_forms.specs.declared.calls.Answer.TheVariants as answers
use Rattle.case_forms.specs.declared.calls.State.TheVariants as states
use Rattle.verdict.specs.declared.rule.Rule.{Rule}
use Rattle.verdict.specs.declared.rule.Rule.TheVariants as rules
use Rattle.verdict.specs.Rules.{first_broken}
use Rattle.verdict.proofs.RuleLemmas.{none_all}
use Rattle.window_rules.specs.Windows.{greatest_window as greatest_value}
use Rattle.window_rules.specs.Control.{after as after_it, greatest, may_recover}
use Rattle.window_rules.specs.declared.control.Signal.{Signal}
use Rattle.window_rules.specs.declared.control.Profile.{Profile}
use Rattle.window_rules.specs.declared.control.Signal.TheVariants.{Other}
use Rattle.window_rules.proofs.ControlLemmas.{chosen_cwnd, kept_ssthresh, same_profile}
use Rattle.streams.specs.Lists.{modify}
use Rattle.streams.proofs.Places.{get_append, all_push, all_modify}
use Rattle.spec_network.specs.Tables.{pick, other, with_host, waiting, on}
use Rattle.spec_network.specs.Hosts.{HostState, Turn, Idle, Called, Answered, World, HostStep, Does, Expires, Makes, Sends}
use Rattle.spec_network.specs.Hosts.{Gets, Hears, Takes, Drops, Answers, Step, Begin, Finish, Effect, At, turn_of}
use Rattle.spec_network.specs.HostRules.{aim_of, Permitted}
use Rattle.spec_network.specs.HostSteps.{host_step_after, call_after, effect_after, after}
use Rattle.spec_tcp.specs.declared.endpoint.EndpointId.{EndpointId}
use Rattle.spec_tcp.specs.declared.endpoint.Endpoint.{Endpoint}
use Rattle.spec_tcp.specs.declared.endpoint.Emission.{Emission}
use Rattle.spec_tcp.specs.declared.endpoint.Socket.{Socket}
use Rattle.spec_tcp.specs.declared.endpoint.SocketTarget.{SocketTarget}
use Rattle.spec_tcp.specs.declared.endpoint.SocketTarget.TheVariants.{ListenerAt, EndpointAt}
use Rattle.spec_tcp.specs.Endpoints.{new_endpoint, snd_max}
use Rattle.spec_tcp.specs.Signals.{at_moment, profile_of, recovery_signal, signal_of, timeout_signal}
use Rattle.spec_tcp.specs.HostTcp.{HostTcp, place_of, endpoint_at, endpoint_of, at_ports, with_endpoint, socket_target, queue_of, dead}
use Rattle.case_forms.specs.States.{is_syn_sent}
use Rattle.spec_tcp.specs.Calls.Send.{after_send}
use Rattle.spec_tcp.specs.Calls.Receive.{after_recv}
use Rattle.spec_tcp.specs.Calls.Close.{shut_down, after_ending, after_shut, after_close, after_abort, orphaned, target_gone}
use Rattle.spec_tcp.specs.Calls.Accept.{accepted_from, after_accept}
use Rattle.spec_tcp.specs.Calls.{change_target, after_call}
use Rattle.spec_tcp.specs.Makes.{endpoint_made, after_making}
use Rattle.case_forms.specs.declared.steps.TakeChoice.{TakeChoice}
use Rattle.spec_tcp.specs.Arrives.OtherStates.{connected_rules, taken as segment_taken}
use Rattle.spec_tcp.specs.Arrives.SynSent.{syn_sent_rules, on_syn}
use Rattle.spec_tcp.specs.Arrives.Listen.{listener_rules, child}
use Rattle.spec_tcp.specs.Arrives.OtherStates.Reset.{was_reset}
use Rattle.spec_tcp.specs.Arrives.{Taker, Nobody, AtListener, AtEndpoint, taker, taker_rules, endpoint_taken, after_taking}
use Rattle.case_forms.specs.declared.taken_line.Expired.{Expired}
use Rattle.case_forms.specs.declared.taken_line.Expired.TheVariants.{Giveup, Msl2, Persist, Pto, Rto}
use Rattle.case_forms.specs.declared.timer.RtoChoice.{RtoChoice}
use Rattle.case_forms.specs.declared.timer.Recovery.{Recovery}
use Rattle.spec_tcp.specs.Heard.{as_read}
use Rattle.spec_tcp.specs.Timeouts.{greatest_values, expiry_rules, after_expiry}
use Rattle.spec_tcp.specs.Recovery.{after_recovery, control_changed, is_bad_change, is_bad_recovery, recovery_rules}
use Rattle.spec_tcp.specs.Machine.{Calls, Expiring, rules_at, tcp, tcp_shape, aim}
use Rattle.spec_tcp_laws.specs.Consequences.{find}
use Rattle.spec_tcp_laws.specs.Bounds.{greatest_taking, TakesThere, TimesOut, Recovers, Leaves, WindowsFollow}
use Rattle.spec_tcp_laws.proofs.Rules.{on_passes, on_cases, map_or_cases, neither, at_most_from}
use Rattle.spec_tcp_laws.proofs.Later.{Hosts, name}
use Rattle.spec_tcp_laws.proofs.Moves.{with_cases, modify_each, map_onward, map_back}
use Rattle.spec_tcp_laws.proofs.Takes.{taker_there}
use Rattle.spec_tcp_laws.proofs.Sound.{modify_here}

-- an endpoint begins so
abbrev pub Begins : Profile → Endpoint → Type 0
Begins p f = (f.control.values.cwnd ≡ 0) × (f.control.values.ssthresh ≡ greatest_value) × (f.control.profile ≡ p)

-- both windows stay, or the step is of a kind that may change them
pub data WindowsMove (w : World tcp_shape) (step : Step tcp_shape) (me : EndpointId) (e f : Endpoint) : Type 0 where
  stayed : f.control ≡ e.control → WindowsMove w step me e f
  taken : (m : Emission) → TakesThere w step me e m → f.control.profile ≡ e.control.profile → WindowsMove w step me e f
  expired : TimesOut w step me → f.control.profile ≡ e.control.profile → WindowsMove w step me e f
  recovered : Recovers w step me → f.control.profile ≡ e.control.profile → WindowsMove w step me e f

-- the endpoints of a host after a step
pub record Follows (p : Profile) (w : World tcp_shape) (step : Step tcp_shape) (host : Host) (es fs : List Endpoint) : Type 0 where
  pub onward : (i : ℕ) (e : Endpoint) → slice_get es i ≡ Some e → (f : Endpoint) × (slice_get fs i ≡ Some f) × WindowsMove w step (name host i) e f
  pub back : (i : ℕ) (f : Endpoint) → slice_get fs i ≡ Some f → ((e : Endpoint) × (slice_get es i ≡ Some e)) ⊎ Begins p f

follows_not : (p : Profile) (w : World tcp_shape) (step : Step tcp_shape) (host : Host) (es : List Endpoint) → Follows p w step host es es
follows_not p w step host es = record { onward = λ i e at. (e, at, stayed refl); back = λ i f at. inl (f, at) }

follows_one : (p : Profile) (w : World tcp_shape) (step : Step tcp_shape) (host : Host) (es : List Endpoint) (i : ℕ) (f : Endpoint → Endpoint)
    → ((e : Endpoint) → slice_get es i ≡ Some e → WindowsMove w step (name host i) e (f e)) → Follows p w step host es (modify es i f)
follows_one p w step host es i f new = record {
  onward = modify_each (λ j. WindowsMove w step (name host j)) f es i (λ j e at n. stayed refl) new;
  back = all_modify (λ j y. ((e : Endpoint) × (slice_get es j ≡ Some e)) ⊎ Begins p y) f es i (λ j e x. inl (e, x)) (λ e x. inl (e, x));
}

follows_map : (p : Profile) (w : World tcp_shape) (step : Step tcp_shape) (host : Host) (es : List Endpoint) (f : Endpoint → Endpoint)
    → ((e : Endpoint) → (f e).control ≡ e.control) → Follows p w step host es (map f es)
follows_map p w step host es f same = record {
  onward = map_onward (λ j. WindowsMove w step (name host j)) f es (λ j e at. stayed (same e));
  back = λ j y e. let h = map_back f es j y e in inl (h.0, h.1);
}

follows_push : (p : Profile) (w : World tcp_shape) (step : Step tcp_shape) (host : Host) (es : List Endpoint) (e : Endpoint) → Begins p e
    → Follows p w step host es (es ++ e ∷ [])
follows_push p w step host es e new = record {
  onward = λ i x at. (x, get_append es (e ∷ []) i x at, stayed refl);
  back = all_push (λ j y. ((x : Endpoint) × (slice_get es j ≡ Some x)) ⊎ Begins p y) es e (λ j x at. inl (x, at)) (inr new);
}

-- the endpoint of some ports changes
follows_at_ports : (p : Profile) (w : World tcp_shape) (step : Step tcp_shape) (host : Host) (b : HostTcp) (lport rport : ℕ) (f : Endpoint → Endpoint)
    → ((i : ℕ) (e : Endpoint) → place_of b lport rport ≡ Some i → slice_get b.endpoints i ≡ Some e → WindowsMove w step (name host i) e (f e))
    → Follows p w step host b.endpoints (at_ports b lport rport f).endpoints
follows_at_ports p w step host b lport rport f new =
    map_or_cases (λ (x : HostTcp). Follows p w step host b.endpoints x.endpoints) (place_of b lport rport) b (λ i. with_endpoint b i f)
    (λ e. follows_not p w step host b.endpoints) (λ i at. follows_one p w step host b.endpoints i f (λ e there. new i e at there))

-- the rules on the endpoint of some ports
rules_there : (b : HostTcp) (lport rport i : ℕ) (e : Endpoint) (f : Endpoint → List (Rule × Bool))
    → place_of b lport rport ≡ Some i → slice_get b.endpoints i ≡ Some e
    → first_broken (rules_at b lport rport f) ≡ None → first_broken (f e) ≡ None
rules_there b lport rport i e f at there may =
    let place : endpoint_of b lport rport ≡ Some e = ap (λ (o : Option ℕ). endpoint_at b o) at ∙ there in
    subst (λ (o : Option Endpoint). first_broken (option_map_or f o ((rules.NoEndpoint, true) ∷ [])) ≡ None) place may

-- one of two endpoints
either_windows : (b : Bool) (x y : Endpoint) (e : Endpoint) → x.control ≡ e.control → y.control ≡ e.control → (if b then x else y).control ≡ e.control
either_windows true x y e p q = p
either_windows false x y e p q = q

unmoved : (w : World tcp_shape) (step : Step tcp_shape) (me : EndpointId) (e f : Endpoint) → f.control ≡ e.control → WindowsMove w step me e f
unmoved w step me e f same = stayed same

-- 1. what hosts do

expiry_moves : (w : World tcp_shape) (s : ℕ) (host : Host) (line : ℕ) (x : Expiring) (i : ℕ) (e : Endpoint)
    → place_of (pick w.hosts host).body x.lport x.rport ≡ Some i
    → WindowsMove w (At host (Expires line x)) (name host i) e (after_expiry e x.expired s)
expiry_moves w s host line x i e at = go x.expired refl
  where
    go : (t : Expired) → x.expired ≡ t → WindowsMove w (At host (Expires line x)) (name host i) e (after_expiry e t s)
    go (Rto growth) is = expired (line, x, growth, refl, is, at) (same_profile e.control (timeout_signal e) (at_moment e s) growth.cwnd growth.ssthresh)
    go Persist is = stayed refl
    go Msl2 is = stayed refl
    go Giveup is = stayed refl
    go Pto is = stayed refl

-- the windows of who took a segment are those chosen
chosen : (h : Header) (e : Endpoint) (how : TakeChoice) (m : Emission) (moment : ℕ) → ((endpoint_taken h e how m moment).control.values.cwnd ≡ how.cwnd)
    × ((endpoint_taken h e how m moment).control.values.ssthresh ≡ e.control.values.ssthresh)
    × ((endpoint_taken h e how m moment).control.profile ≡ e.control.profile)
chosen h e how m moment = go m.flags.rst (is_syn_sent e.state)
  where
    after_signal : (x : Signal) → ((after_it e.control x (at_moment e moment) how.cwnd e.control.values.ssthresh).values.cwnd ≡ how.cwnd)
        × ((after_it e.control x (at_moment e moment) how.cwnd e.control.values.ssthresh).values.ssthresh ≡ e.control.values.ssthresh)
        × ((after_it e.control x (at_moment e moment) how.cwnd e.control.values.ssthresh).profile ≡ e.control.profile)
    after_signal x = (
      chosen_cwnd e.control x (at_moment e moment) how.cwnd e.control.values.ssthresh,
      kept_ssthresh e.control x (at_moment e moment) how.cwnd,
      same_profile e.control x (at_moment e moment) how.cwnd e.control.values.ssthresh,
    )

    go : (r s : Bool)
        → ((if r then was_reset e how moment else if s then on_syn h e how m moment
        else segment_taken h e how m moment).control.values.cwnd ≡ how.cwnd)
        × ((if r then was_reset e how moment else if s then on_syn h e how m moment
        else segment_taken h e how m moment).control.values.ssthresh ≡ e.control.values.ssthresh)
        × ((if r then was_reset e how moment else if s then on_syn h e how m moment else segment_taken h e how m moment).control.profile ≡ e.control.profile)
    go true s = after_signal Other
    go false true = after_signal (signal_of e m)
    go false false = after_signal (signal_of e m)

allowed : (h : Header) (b : HostTcp) (me : EndpointId) (e : Endpoint) (how : TakeChoice) (m : Emission) (moment : ℕ)
    → first_broken (if is_syn_sent e.state then syn_sent_rules e how m moment else connected_rules h b me e how m moment) ≡ None
    → how.cwnd ≤ (greatest e.control (signal_of e m) (at_moment e moment)).0
allowed h b me e how m moment may = go (is_syn_sent e.state) may
  where
    go : (s : Bool) → first_broken (if s then syn_sent_rules e how m moment else connected_rules h b me e how m moment) ≡ None
        → how.cwnd ≤ (greatest e.control (signal_of e m) (at_moment e moment)).0
    go true may = at_most_from ((greatest e.control (signal_of e m) (at_moment e moment)).0) how.cwnd (none_all (syn_sent_rules e how m moment) may).1.1.0
    go false may =
        at_most_from ((greatest e.control (signal_of e m) (at_moment e moment)).0) how.cwnd (none_all (connected_rules h b me e how m moment) may).1.1.1.1.1.0

follows_taking : (h : Header) (s : ℕ) (w : World tcp_shape) (host : Host) (line : ℕ) (how : TakeChoice) (m : Emission)
    → waiting line (pick w.hosts host).inbox ≡ Some m
    → first_broken (taker_rules h host (pick w.hosts host).body how m s (taker (pick w.hosts host).body m)) ≡ None
    → Follows (profile_of h) w (At host (Takes line how)) host (pick w.hosts host).body.endpoints
    (after_taking h (pick w.hosts host).body how m s (taker (pick w.hosts host).body m)).endpoints
follows_taking h s w host line how m waits may = go (taker (pick w.hosts host).body m) refl may
  where
    b : HostTcp
    b = (pick w.hosts host).body

    go : (t : Taker) → taker b m ≡ t → first_broken (taker_rules h host b how m s t) ≡ None
        → Follows (profile_of h) w (At host (Takes line how)) host b.endpoints (after_taking h b how m s t).endpoints
    go Nobody is may = follows_not (profile_of h) w (At host (Takes line how)) host b.endpoints
    go (AtListener l) is may =
        let none = at_most_from 0 how.cwnd (none_all (listener_rules how m) may).1.0 in
        follows_push (profile_of h) w (At host (Takes line how)) host b.endpoints (child (profile_of h) l how m s)
        ((let zero' : how.cwnd ≡ 0 = omega arith in zero'), refl, refl)
    go (AtEndpoint i e) is may =
        follows_one (profile_of h) w (At host (Takes line how)) host b.endpoints i (λ x. endpoint_taken h x how (as_read h.version e m) s)
        (λ x there.
        let one : e ≡ x = same_Some e x (sym (taker_there b m i e is) ∙ there) in
        taken m (line, how, refl, waits, is ∙ ap (λ (y : Endpoint). AtEndpoint i y) one) (chosen h x how (as_read h.version e m) s).2)

recovery_moves : (w : World tcp_shape) (s : ℕ) (host : Host) (x : Recovery) (change : RecoveryChange) → x.change ≡ change → (i : ℕ) (e : Endpoint)
    → place_of (pick w.hosts host).body x.lport x.rport ≡ Some i
    → WindowsMove w (At host (Does x)) (name host i) e (after_recovery e change x.cwnd x.ssthresh s)
recovery_moves w s host x recovery_change.Begins is i e at =
    recovered (x, refl, is, at) (same_profile e.control (recovery_signal e x.ssthresh) (at_moment e s) x.cwnd x.ssthresh)
recovery_moves w s host x recovery_change.IsUndone is i e at = stayed refl

follows_host_step : (h : Header) (s : ℕ) (w : World tcp_shape) (host : Host) (d : HostStep tcp_shape) → Permitted (tcp h) s w (At host d)
    → Follows (profile_of h) w (At host d) host (pick w.hosts host).body.endpoints
    (host_step_after (tcp h) host s (suc w.count) (pick w.hosts (other host)).wire (pick w.hosts host) d).body.endpoints
follows_host_step h s w host (Does x) may = let b = (pick w.hosts host).body in
    follows_at_ports (profile_of h) w (At host (Does x)) host b x.lport x.rport (λ e. after_recovery e x.change x.cwnd x.ssthresh s)
    (λ i e at there. recovery_moves w s host x x.change refl i e at)
follows_host_step h s w host (Expires line x) may = let b = (pick w.hosts host).body in
    follows_at_ports (profile_of h) w (At host (Expires line x)) host b x.lport x.rport (λ e. after_expiry e x.expired s)
    (λ i e at there. expiry_moves w s host line x i e at)
follows_host_step h s w host (Makes m) may = let b = (pick w.hosts host).body in
    follows_at_ports (profile_of h) w (At host (Makes m)) host b m.lport m.rport (λ e. after_making e m s)
    (λ i e at there. unmoved w (At host (Makes m)) (name host i) e (after_making e m s)
    (either_windows m.flags.rst (record (shut_down (endpoint_made e m s)) { reset_due = false })
    (endpoint_made e m s) e refl refl))
follows_host_step h s w host (Sends line number wire) may =
    follows_not (profile_of h) w (At host (Sends line number wire)) host (pick w.hosts host).body.endpoints
follows_host_step h s w host (Gets line copied wire) may =
    follows_not (profile_of h) w (At host (Gets line copied wire)) host (pick w.hosts host).body.endpoints
follows_host_step h s w host (Hears line wire) may = follows_not (profile_of h) w (At host (Hears line wire)) host (pick w.hosts host).body.endpoints
follows_host_step h s w host (Takes line how) may = let k = pick w.hosts host in let step : Step tcp_shape = At host (Takes line how) in
    on_cases (λ (b : HostTcp). Follows (profile_of h) w step host k.body.endpoints b.endpoints)
    (waiting line k.inbox) k.body _ (follows_not (profile_of h) w step host k.body.endpoints)
    (λ m e.
    let t = on_passes (waiting line k.inbox) rules.Inbox (λ x. taker_rules h host k.body how x s (taker k.body x)) may in
    let one : t.0 ≡ m = same_Some t.0 m (sym t.1 ∙ e) in
    follows_taking h s w host line how m e (subst (λ (x : Emission). first_broken (taker_rules h host k.body how x s (taker k.body x)) ≡ None) one t.2))
follows_host_step h s w host (Drops line) may = follows_not (profile_of h) w (At host (Drops line)) host (pick w.hosts host).body.endpoints
follows_host_step h s w host (Answers line) may = let k = pick w.hosts host in let step : Step tcp_shape = At host (Answers line) in
    on_cases (λ (b : HostTcp). Follows (profile_of h) w step host k.body.endpoints b.endpoints)
    (waiting line k.inbox) k.body _ (follows_not (profile_of h) w step host k.body.endpoints)
    (λ m e. follows_not (profile_of h) w step host k.body.endpoints)

-- 2. calls

follows_same : (p : Profile) (w : World tcp_shape) (step : Step tcp_shape) (host : Host) (b : HostTcp) (i : ℕ) (f : Endpoint → Endpoint)
    → ((e : Endpoint) → (f e).control ≡ e.control) → Follows p w step host b.endpoints (with_endpoint b i f).endpoints
follows_same p w step host b i f same = follows_one p w step host b.endpoints i f (λ e at. unmoved w step (name host i) e (f e) (same e))

follows_change : (p : Profile) (w : World tcp_shape) (step : Step tcp_shape) (host : Host) (b : HostTcp) (n : ℕ) (f : Endpoint → Endpoint)
    → ((e : Endpoint) → (f e).control ≡ e.control) → Follows p w step host b.endpoints (option_map_or (change_target b f) (socket_target b n) b).endpoints
follows_change p w step host b n f same =
    map_or_cases (λ (x : HostTcp). Follows p w step host b.endpoints x.endpoints) (socket_target b n) b (change_target b f)
    (λ e. follows_not p w step host b.endpoints) (λ target e. go target)
  where
    go : (target : SocketTarget) → Follows p w step host b.endpoints (change_target b f target).endpoints
    go (ListenerAt l) = follows_not p w step host b.endpoints
    go (EndpointAt i) = follows_same p w step host b i f same

follows_gone : (p : Profile) (w : World tcp_shape) (step : Step tcp_shape) (host : Host) (b : HostTcp) (n : ℕ) (f : Endpoint → Endpoint)
    (sockets : List (ℕ × Socket)) → ((e : Endpoint) → (f e).control ≡ e.control)
    → Follows p w step host b.endpoints
    (option_map_or (λ target. record (target_gone b target f) { sockets = sockets }) (socket_target b n) b).endpoints
follows_gone p w step host b n f sockets same =
    map_or_cases (λ (x : HostTcp). Follows p w step host b.endpoints x.endpoints) (socket_target b n) b
    (λ target. record (target_gone b target f) { sockets = sockets })
    (λ e. follows_not p w step host b.endpoints) (λ target e. go target)
  where
    go : (target : SocketTarget) → Follows p w step host b.endpoints (target_gone b target f).endpoints
    go (ListenerAt l) =
        follows_map p w step host b.endpoints (orphaned l)
        (λ e. either_windows (option_map_or (λ holder. holder == l) e.listener false)
        (after_abort e) e e refl refl)
    go (EndpointAt i) = follows_same p w step host b i f same

follows_accept : (p : Profile) (w : World tcp_shape) (step : Step tcp_shape) (host : Host) (b : HostTcp) (n : ℕ) (target : SocketTarget)
    → Follows p w step host b.endpoints (after_accept b n target).endpoints
follows_accept p w step host b n (EndpointAt i) = follows_not p w step host b.endpoints
follows_accept p w step host b n (ListenerAt l) = go (queue_of b l)
  where
    go : (queue : List ℕ) → Follows p w step host b.endpoints (accepted_from b l n queue).endpoints
    go [] = follows_not p w step host b.endpoints
    go (c ∷ queue) = follows_same p w step host b c (λ e. record e { listener = None }) (λ e. refl)

follows_call : (p : Profile) (w : World tcp_shape) (step : Step tcp_shape) (host : Host) (b : HostTcp) (call : Call) (answer : Answer)
    → Follows p w step host b.endpoints (after_call p b call answer).endpoints
follows_call p w step host b (calls.Listen at port backlog) (answers.Given n) = follows_not p w step host b.endpoints
follows_call p w step host b (calls.Connect at lport rport) (answers.Given n) =
    follows_push p w step host b.endpoints (new_endpoint lport rport None states.SynSent p) (refl, refl, refl)
follows_call p w step host b (calls.Accept h) (answers.Given n) =
    map_or_cases (λ (x : HostTcp). Follows p w step host b.endpoints x.endpoints) (socket_target b h) b (after_accept b n)
    (λ e. follows_not p w step host b.endpoints) (λ target e. follows_accept p w step host b n target)
follows_call p w step host b (calls.Send h bytes) (answers.Given n) = follows_change p w step host b h (after_send bytes n) (λ e. refl)
follows_call p w step host b (calls.Recv h most) (answers.Bytes bytes) = follows_change p w step host b h (after_recv bytes) (λ e. refl)
follows_call p w step host b (calls.Shut h) answers.Done =
    follows_gone p w step host b h after_shut b.sockets
    (λ e. either_windows (is_syn_sent e.state)
    (shut_down (record e { stream = record e.stream { ended = true } })) (after_ending e) e refl refl)
follows_call p w step host b (calls.Close h) answers.Done =
    follows_gone p w step host b h after_close (dead b.sockets h)
    (λ e. either_windows (is_syn_sent e.state)
    (shut_down (record e { stream = record e.stream { ended = true } })) (after_ending e) e refl refl)
follows_call p w step host b (calls.Abort h) answers.Done = follows_gone p w step host b h after_abort (dead b.sockets h) (λ e. refl)
follows_call p w step host b call answer = follows_not p w step host b.endpoints

-- 3. both hosts

-- the endpoints of both
pub record BothFollow (p : Profile) (w : World tcp_shape) (step : Step tcp_shape) (b : Hosts) : Type 0 where
  pub all : (x : Host) → Follows p w step x (pick w.hosts x).body.endpoints (pick b x).body.endpoints

both_not : (p : Profile) (w : World tcp_shape) (step : Step tcp_shape) → BothFollow p w step w.hosts
both_not p w step = record { all = λ x. follows_not p w step x (pick w.hosts x).body.endpoints }

both_host : (p : Profile) (w : World tcp_shape) (step : Step tcp_shape) (host : Host) (k : HostState tcp_shape)
    → Follows p w step host (pick w.hosts host).body.endpoints k.body.endpoints → BothFollow p w step (with_host w.hosts host k)
both_host p w step host k f =
    record {
      all = with_cases w.hosts host k
          (λ x y. Follows p w step x (pick w.hosts x).body.endpoints y.body.endpoints) f
          (follows_not p w step (other host) (pick w.hosts (other host)).body.endpoints);
    }

pub both_step : (h : Header) (s : ℕ) (w : World tcp_shape) (step : Step tcp_shape) → Permitted (tcp h) s w step
    → BothFollow (profile_of h) w step (after (tcp h) s w step).hosts
both_step h s w (Begin line t call) may = both_not (profile_of h) w (Begin line t call)
both_step h s w (Finish line t answer) may = both_not (profile_of h) w (Finish line t answer)
both_step h s w (Effect t answer) may = go (turn_of t w.threads)
  where
    by : (call : Call) (o : Option Host) → BothFollow (profile_of h) w (Effect t answer) (call_after (tcp h) s w.hosts (Calls call answer) o)
    by call None = both_not (profile_of h) w (Effect t answer)
    by call (Some host) =
        both_host (profile_of h) w (Effect t answer) host
        (record (pick w.hosts host) { body = after_call (profile_of h) (pick w.hosts host).body call answer })
        (follows_call (profile_of h) w (Effect t answer) host (pick w.hosts host).body call answer)

    go : (u : Turn tcp_shape) → BothFollow (profile_of h) w (Effect t answer) (effect_after (tcp h) s w t answer u).hosts
    go Idle = both_not (profile_of h) w (Effect t answer)
    go (Called call) = by call (aim_of (tcp h) w.hosts (aim call))
    go (Answered x) = both_not (profile_of h) w (Effect t answer)
both_step h s w (At host d) may =
    both_host (profile_of h) w (At host d) host
    (host_step_after (tcp h) host s (suc w.count) (pick w.hosts (other host)).wire (pick w.hosts host) d)
    (follows_host_step h s w host d may)

-- 4. what the steps that may change windows leave

pick_with : (both : Hosts) (host : Host) (k : HostState tcp_shape) → pick (with_host both host k) host ≡ k
pick_with both hosts.Zero k = refl
pick_with both hosts.One k = refl

-- where the endpoint of some ports changes, it is there then
at_ports_there : (w : World tcp_shape) (host : Host) (lport rport i : ℕ) (e : Endpoint) (step : Endpoint → Endpoint)
    → place_of (pick w.hosts host).body lport rport ≡ Some i → slice_get (pick w.hosts host).body.endpoints i ≡ Some e
    → find (with_host w.hosts host (record (pick w.hosts host) { body = at_ports (pick w.hosts host).body lport rport step })) (name host i) ≡ Some (step e)
at_ports_there w host lport rport i e step at there =
    let b = (pick w.hosts host).body in
    ap (λ (k : HostState tcp_shape). slice_get k.body.endpoints i) (pick_with w.hosts host (record (pick w.hosts host) { body = at_ports b lport rport step }))
    ∙ (ap (λ (o : Option ℕ). slice_get (option_map_or (λ j. with_endpoint b j step) o b).endpoints i) at ∙ modify_here step b.endpoints i e there)

timeout_leaves : (h : Header) (s : ℕ) (w : World tcp_shape) (host : Host) (line : ℕ) (x : Expiring) (growth : RtoChoice) (i : ℕ) (e : Endpoint)
    → Permitted (tcp h) s w (At host (Expires line x)) → x.expired ≡ Rto growth
    → place_of (pick w.hosts host).body x.lport x.rport ≡ Some i → slice_get (pick w.hosts host).body.endpoints i ≡ Some e
    → Leaves h s w (At host (Expires line x)) (name host i) (λ c. (c.values.cwnd ≤ (greatest_values e s).0) × (c.values.ssthresh ≤ (greatest_values e s).1))
timeout_leaves h s w host line x growth i e may is at there =
    subst Bound (sym is) (
      after_expiry e (Rto growth) s,
      at_ports_there w host x.lport x.rport i e (λ e. after_expiry e (Rto growth) s) at there,
      bound,
    )
  where
    b : HostTcp
    b = (pick w.hosts host).body

    Bound : Expired → Type 0
    Bound t = (f : Endpoint)
        × (find (with_host w.hosts host (record (pick w.hosts host) { body = at_ports b x.lport x.rport (λ e. after_expiry e t s) })) (name host i) ≡ Some f)
        × ((f.control.values.cwnd ≤ (greatest_values e s).0) × (f.control.values.ssthresh ≤ (greatest_values e s).1))

    mine : first_broken (expiry_rules h s e (Rto growth)) ≡ None
    mine = subst (λ (t : Expired). first_broken (expiry_rules h s e t) ≡ None) is
        (rules_there b x.lport x.rport i e (λ e. expiry_rules h s e x.expired) at there may)

    bound : (growth.cwnd ≤ (greatest_values e s).0) × (growth.ssthresh ≤ (greatest_values e s).1)
    bound =
        let t = none_all (expiry_rules h s e (Rto growth)) mine in
        let parts = neither (nat_lt ((greatest_values e s).0) growth.cwnd) (nat_lt ((greatest_values e s).1) growth.ssthresh) t.1.0 in
        (at_most_from ((greatest_values e s).0) growth.cwnd parts.0, at_most_from ((greatest_values e s).1) growth.ssthresh parts.1)

taking_leaves : (h : Header) (s : ℕ) (w : World tcp_shape) (host : Host) (line : ℕ) (how : TakeChoice) (m : Emission) (i : ℕ) (e : Endpoint)
    → Permitted (tcp h) s w (At host (Takes line how))
    → waiting line (pick w.hosts host).inbox ≡ Some m → taker (pick w.hosts host).body m ≡ AtEndpoint i e
    → Leaves h s w (At host (Takes line how)) (name host i) (λ c. (c.values.cwnd ≤ greatest_taking h s e m) × (c.values.ssthresh ≡ e.control.values.ssthresh))
taking_leaves h s w host line how m i e may waits is =
    (endpoint_taken h e how r s, left, (subst (λ k. k ≤ greatest_taking h s e m) (sym value.0) (allowed h b (name host i) e how r s mine), value.1))
  where
    r : Emission
    r = as_read h.version e m

    k : HostState tcp_shape
    k = pick w.hosts host

    b : HostTcp
    b = k.body

    value : ((endpoint_taken h e how r s).control.values.cwnd ≡ how.cwnd) × ((endpoint_taken h e how r s).control.values.ssthresh ≡ e.control.values.ssthresh)
    value = ((chosen h e how r s).0, (chosen h e how r s).1)

    passed : first_broken (taker_rules h host b how m s (taker b m)) ≡ None
    passed =
        let t = on_passes (waiting line k.inbox) rules.Inbox (λ x. taker_rules h host b how x s (taker b x)) may in
        let one : t.0 ≡ m = same_Some t.0 m (sym t.1 ∙ waits) in
        subst (λ (x : Emission). first_broken (taker_rules h host b how x s (taker b x)) ≡ None) one t.2

    mine : first_broken (if is_syn_sent e.state then syn_sent_rules e how r s else connected_rules h b (name host i) e how r s) ≡ None
    mine = subst (λ (t : Taker). first_broken (taker_rules h host b how m s t) ≡ None) is passed

    here : slice_get (after_taking h b how m s (taker b m)).endpoints i ≡ Some (endpoint_taken h e how r s)
    here = ap (λ (t : Taker). slice_get (after_taking h b how m s t).endpoints i) is
        ∙ modify_here (λ x. endpoint_taken h x how r s) b.endpoints i e (taker_there b m i e is)

    left : find (after (tcp h) s w (At host (Takes line how))).hosts (name host i) ≡ Some (endpoint_taken h e how r s)
    left = ap (λ (x : HostState tcp_shape). slice_get x.body.endpoints i)
        (pick_with w.hosts host (host_step_after (tcp h) host s (suc w.count) (pick w.hosts (other host)).wire k
        (Takes line how)))
        ∙ (ap (λ (o : Option Emission). slice_get (on o b (λ y. after_taking h b how y s (taker b y))).endpoints i) waits ∙ here)

recovery_leaves : (h : Header) (s : ℕ) (w : World tcp_shape) (host : Host) (x : Recovery) (i : ℕ) (e : Endpoint) → Permitted (tcp h) s w (At host (Does x))
    → x.change ≡ recovery_change.Begins
    → place_of (pick w.hosts host).body x.lport x.rport ≡ Some i → slice_get (pick w.hosts host).body.endpoints i ≡ Some e
    → Leaves h s w (At host (Does x)) (name host i)
    (λ c. (c.values.ssthresh ≤ (greatest e.control (recovery_signal e c.values.ssthresh) (at_moment e s)).1)
    × (c.values.cwnd ≤ (greatest e.control (recovery_signal e c.values.ssthresh) (at_moment e s)).0))
recovery_leaves h s w host x i e may begins at there = (
  after_recovery e x.change x.cwnd x.ssthresh s,
  at_ports_there w host x.lport x.rport i e (λ e. after_recovery e x.change x.cwnd x.ssthresh s) at there,
  subst (λ (change : RecoveryChange). Within (control_changed change e x.cwnd x.ssthresh s)) (sym begins) bound,
)
  where
    now : Signal
    now = recovery_signal e x.ssthresh

    Within : Control → Type 0
    Within c = (c.values.ssthresh ≤ (greatest e.control (recovery_signal e c.values.ssthresh) (at_moment e s)).1)
        × (c.values.cwnd ≤ (greatest e.control (recovery_signal e c.values.ssthresh) (at_moment e s)).0)

    bound : (x.ssthresh ≤ (greatest e.control now (at_moment e s)).1) × (x.cwnd ≤ (greatest e.control now (at_moment e s)).0)
    bound =
        let mine = rules_there (pick w.hosts host).body x.lport x.rport i e (λ e. recovery_rules h.version e x.change x.cwnd x.ssthresh s) at there may in
        let t = none_all (recovery_rules h.version e x.change x.cwnd x.ssthresh s) mine in
        let fine : is_bad_recovery h.version e x.cwnd x.ssthresh s ≡ false =
        sym (ap (λ (change : RecoveryChange). is_bad_change h.version e change x.cwnd x.ssthresh s) begins) ∙ t.1.1.0 in
        let last =
        neither (not (says_sender h.version || may_recover e.control) || e.stream.snd_una == snd_max e
        || nat_lt ((greatest e.control now (at_moment e s)).1) x.ssthresh)
        (nat_lt ((greatest e.control now (at_moment e s)).0) x.cwnd) fine in
        let threshold =
        neither (not (says_sender h.version || may_recover e.control) || e.stream.snd_una == snd_max e)
        (nat_lt ((greatest e.control now (at_moment e s)).1) x.ssthresh) last.0 in (
          at_most_from ((greatest e.control now (at_moment e s)).1) x.ssthresh threshold.1,
          at_most_from ((greatest e.control now (at_moment e s)).0) x.cwnd last.1,
        )

-- a step of no such kind leaves both as they are
others_stay : (h : Header) (s : ℕ) (w : World tcp_shape) (step : Step tcp_shape) (me : EndpointId) (e : Endpoint) → (f : Endpoint)
    × (find (after (tcp h) s w step).hosts me ≡ Some f) × WindowsMove w step me e f
    → ((m : Emission) → TakesThere w step me e m → ⊥) → (TimesOut w step me → ⊥) → (Recovers w step me → ⊥)
    → Leaves h s w step me (λ c. c ≡ e.control)
others_stay h s w step me e x no_taking no_timeout no_recovery = (x.0, x.1, go x.2)
  where
    go : WindowsMove w step me e x.0 → x.0.control ≡ e.control
    go (stayed same) = same
    go (taken m a p) = absurd (no_taking m a)
    go (expired a p) = absurd (no_timeout a)
    go (recovered a p) = absurd (no_recovery a)

profile_stays : (w : World tcp_shape) (step : Step tcp_shape) (me : EndpointId) (e f : Endpoint) → WindowsMove w step me e f
    → f.control.profile ≡ e.control.profile
profile_stays w step me e f (stayed same) = ap (λ c. c.profile) same
profile_stays w step me e f (taken m a p) = p
profile_stays w step me e f (expired a p) = p
profile_stays w step me e f (recovered a p) = p

pub follow : (h : Header) (s : ℕ) (w : World tcp_shape) (step : Step tcp_shape) → Permitted (tcp h) s w step → WindowsFollow h s w step
follow h s w step may = record {
  takes =
      λ me e m there a. subst (λ (y : Step tcp_shape).
      Leaves h s w y me (λ c. (c.values.cwnd ≤ greatest_taking h s e m)
      × (c.values.ssthresh ≡ e.control.values.ssthresh))) (sym a.2)
      (taking_leaves h s w me.host a.0 a.1 m me.number e (subst (λ (y : Step tcp_shape). Permitted (tcp h) s w y) a.2 may) a.3 a.4);
  times_out =
      λ me e there a. subst (λ (y : Step tcp_shape).
      Leaves h s w y me (λ c. (c.values.cwnd ≤ (greatest_values e s).0)
      × (c.values.ssthresh ≤ (greatest_values e s).1))) (sym a.3)
      (timeout_leaves h s w me.host a.0 a.1 a.2 me.number e (subst (λ (y : Step tcp_shape). Permitted (tcp h) s w y) a.3 may) a.4 a.5 there);
  recovers =
      λ me e there a. subst (λ (y : Step tcp_shape).
      Leaves h s w y me (λ c. (c.values.ssthresh
      ≤ (greatest e.control (recovery_signal e c.values.ssthresh) (at_moment e s)).1)
      × (c.values.cwnd ≤ (greatest e.control (recovery_signal e c.values.ssthresh) (at_moment e s)).0)))
      (sym a.1)
      (recovery_leaves h s w me.host a.0 me.number e (subst (λ (y : Step tcp_shape). Permitted (tcp h) s w y) a.1 may) a.2 a.3 there);
  stays = λ me e there no_taking no_timeout no_recovery. others_stay h s w step me e ((all me.host).onward me.number e there) no_taking no_timeout no_recovery;
  profile = λ me e there. let x = (all me.host).onward me.number e there in (x.0, x.1, profile_stays w step me e x.0 x.2);
  begins = λ me f none at. from me f none ((all me.host).back me.number f at);
}
  where
    all : (x : Host) → Follows (profile_of h) w step x (pick w.hosts x).body.endpoints (pick (after (tcp h) s w step).hosts x).body.endpoints
    all = (both_step h s w step may).all

    from : (me : EndpointId) (f : Endpoint) → find w.hosts me ≡ None → ((e : Endpoint) × (find w.hosts me ≡ Some e)) ⊎ Begins (profile_of h) f
        → Begins (profile_of h) f
    from me f none (inl e) = absurd (none-some e.0 (sym none ∙ e.1))
    from me f none (inr new) = new
