-- What each step makes of the peers of endpoints.
use Rattle.std.proofs.Common.{◌≡◌, ℕ, suc, take, ◌⊎◌, Bool, true, false, List, [], ◌∷◌, ◌++◌, map, Option, Some, None, refl, ap, sym, subst, ◌∙◌, inl, inr}
use Rattle.std.specs.Prelude.{if◌then◌else◌, ◌==◌, ◌||◌, ◌&&◌, not, slice_get}
use Rattle.std.specs.Option.{option_map_or}
use Rattle.std.proofs.lemmas.Option.{none-some, same_Some}
use Rattle.case_forms.specs.declared.trace.Header.{Header}
use Rattle.case_forms.specs.declared.calls.Host.{Host}
use Rattle.case_forms.specs.declared.calls.Host.TheVariants.{Zero, One}
use Rattle.case_forms.specs.declared.calls.Call.{Call}
use Rattle.case_forms.specs.declared.calls.Call.TheVariants as calls
use Rattle.case_forms.specs.declared.calls.Answer.{Answer}
use Rattle.case_forms.specs.declared.calls.Answer.TheVariants as answers
use Rattle.case_forms.specs.declared.calls.State.TheVariants as states
use Rattle.case_forms.specs.Versions.{is_half}
use Rattle.case_forms.specs.declared.version.Version.{Version}
use Rattle.case_forms.specs.declared.taken_line.Expired.{Expired}
use Rattle.case_forms.specs.declared.taken_line.Expired.TheVariants.{Giveup, Msl2, Persist, Pto, Rto}
use Rattle.verdict.specs.declared.rule.Rule.TheVariants as rules
use Rattle.verdict.specs.Rules.{first_broken}
use Rattle.verdict.proofs.RuleLemmas.{none_all}
use Rattle.streams.specs.Lists.{modify}
use Rattle.streams.proofs.Places.{get_append, all_push, all_modify}
use Rattle.spec_network.specs.Tables.{pick, other, with_host, waiting}
use Rattle.spec_network.specs.Hosts.{HostState, Turn, Idle, Called, Answered, World, HostStep, Does, Expires, Makes, Sends}
use Rattle.spec_network.specs.Hosts.{Gets, Hears, Takes, Drops, Answers, Step, Begin, Finish, Effect, At, Stamped}
use Rattle.spec_network.specs.Hosts.{turn_of}
use Rattle.spec_network.specs.HostRules.{aim_of, Permitted}
use Rattle.spec_network.specs.HostSteps.{host_step_after, call_after, effect_after, after, after_all, start, Lawful}
use Rattle.window_rules.specs.declared.control.Profile.{Profile}
use Rattle.spec_tcp.specs.Signals.{profile_of}
use Rattle.spec_tcp.specs.declared.endpoint.EndpointId.{EndpointId}
use Rattle.spec_tcp.specs.declared.endpoint.Stream.{Stream}
use Rattle.spec_tcp.specs.declared.endpoint.Endpoint.{Endpoint}
use Rattle.spec_tcp.specs.declared.endpoint.Emission.{Emission}
use Rattle.spec_tcp.specs.declared.endpoint.Socket.{Socket}
use Rattle.spec_tcp.specs.declared.endpoint.SocketTarget.{SocketTarget}
use Rattle.spec_tcp.specs.declared.endpoint.SocketTarget.TheVariants.{ListenerAt, EndpointAt}
use Rattle.spec_tcp.specs.Endpoints.{new_endpoint}
use Rattle.spec_tcp.specs.HostTcp.{HostTcp, place_of, at_ports, with_endpoint, socket_target, queue_of, dead}
use Rattle.case_forms.specs.States.{is_syn_sent}
use Rattle.spec_tcp.specs.Calls.Send.{after_send}
use Rattle.spec_tcp.specs.Calls.Receive.{after_recv}
use Rattle.spec_tcp.specs.Calls.Close.{shut_down, after_ending, after_shut, after_close, after_abort, orphaned, target_gone}
use Rattle.spec_tcp.specs.Calls.Accept.{accepted_from, after_accept}
use Rattle.spec_tcp.specs.Calls.{change_target, after_call}
use Rattle.spec_tcp.specs.Makes.{endpoint_made, after_making}
use Rattle.case_forms.specs.declared.steps.TakeChoice.{TakeChoice}
use Rattle.spec_tcp.specs.Heard.{as_read, read_at}
use Rattle.spec_tcp.specs.Arrives.OtherStates.{connected_rules, taken as segment_taken}
use Rattle.spec_tcp.specs.Arrives.SynSent.{syn_sent_rules, on_syn}
use Rattle.spec_tcp.specs.Arrives.Listen.{listener_rules, child}
use Rattle.spec_tcp.specs.Arrives.OtherStates.Reset.{was_reset}
use Rattle.spec_tcp.specs.Arrives.{Taker, Nobody, AtListener, AtEndpoint, taker, taker_rules, endpoint_rules, endpoint_taken, after_taking}
use Rattle.spec_tcp.specs.Timeouts.{after_expiry}
use Rattle.spec_tcp.specs.Recovery.{after_recovery}
use Rattle.spec_tcp.specs.Machine.{Calls, tcp, tcp_shape, aim}
use Rattle.spec_tcp_laws.specs.Runs.{world_at_end}
use Rattle.spec_tcp_laws.specs.Consequences.{find}
use Rattle.spec_tcp_laws.proofs.Rules.{on_passes, on_cases, map_or_cases, not_false, both_true}
use Rattle.spec_tcp_laws.proofs.Later.{Hosts, name, Waits}
use Rattle.spec_tcp_laws.proofs.Moves.{with_cases, modify_each, map_onward, map_back}
use Rattle.spec_tcp_laws.proofs.Makes.{either_stream}
use Rattle.spec_tcp_laws.proofs.Takes.{taker_there}
use Rattle.spec_tcp_laws.proofs.Runs.{Steady, steady_start, steady_run, steady_step}
use Rattle.checker.specs.Peers.{peer_of, TakesSynOf, PeersAreMet, PeersWereMet}

-- an endpoint's peer stays, or it is met
abbrev pub Meets : World tcp_shape → Step tcp_shape → EndpointId → Option EndpointId → Option EndpointId → Type 0
Meets w step me before now = (now ≡ before) ⊎ ((before ≡ None) × (q : EndpointId) × (now ≡ Some q) × TakesSynOf w step me q)

-- an endpoint begins without a peer, or by a SYN
abbrev pub Begins : World tcp_shape → Step tcp_shape → EndpointId → Endpoint → Type 0
Begins w step me f = (f.stream.peer ≡ None) ⊎ ((q : EndpointId) × (f.stream.peer ≡ Some q) × (find w.hosts me ≡ None → TakesSynOf w step me q))

-- the endpoints of a host after a step
pub record Moves (w : World tcp_shape) (step : Step tcp_shape) (host : Host) (es fs : List Endpoint) : Type 0 where
  pub onward : (i : ℕ) (e : Endpoint) → slice_get es i ≡ Some e
      → (f : Endpoint) × (slice_get fs i ≡ Some f) × Meets w step (name host i) e.stream.peer f.stream.peer
  pub back : (i : ℕ) (f : Endpoint) → slice_get fs i ≡ Some f → ((e : Endpoint) × (slice_get es i ≡ Some e)) ⊎ Begins w step (name host i) f

moves_not : (w : World tcp_shape) (step : Step tcp_shape) (host : Host) (es : List Endpoint) → Moves w step host es es
moves_not w step host es = record { onward = λ i e at. (e, at, inl refl); back = λ i f at. inl (f, at) }

moves_one : (w : World tcp_shape) (step : Step tcp_shape) (host : Host) (es : List Endpoint) (i : ℕ)
    (f : Endpoint → Endpoint)
    → ((e : Endpoint) → slice_get es i ≡ Some e → Meets w step (name host i) e.stream.peer (f e).stream.peer)
    → Moves w step host es (modify es i f)
moves_one w step host es i f new = record {
  onward = modify_each (λ j e x. Meets w step (name host j) e.stream.peer x.stream.peer) f es i (λ j e at n. inl refl) new;
  back = all_modify (λ j y. ((e : Endpoint) × (slice_get es j ≡ Some e)) ⊎ Begins w step (name host j) y) f es i (λ j e x. inl (e, x)) (λ e x. inl (e, x));
}

moves_map : (w : World tcp_shape) (step : Step tcp_shape) (host : Host) (es : List Endpoint) (f : Endpoint → Endpoint)
    → ((e : Endpoint) → (f e).stream ≡ e.stream) → Moves w step host es (map f es)
moves_map w step host es f same = record {
  onward = map_onward (λ j e x. Meets w step (name host j) e.stream.peer x.stream.peer) f es (λ j e at. inl (ap (λ (s : Stream). s.peer) (same e)));
  back = λ j y e. let h = map_back f es j y e in inl (h.0, h.1);
}

moves_push : (w : World tcp_shape) (step : Step tcp_shape) (host : Host) (es : List Endpoint) (e : Endpoint)
    → ((j : ℕ) → Begins w step (name host j) e) → Moves w step host es (es ++ e ∷ [])
moves_push w step host es e new = record {
  onward = λ i x at. (x, get_append es (e ∷ []) i x at, inl refl);
  back = all_push (λ j y. ((x : Endpoint) × (slice_get es j ≡ Some x)) ⊎ Begins w step (name host j) y) es e (λ j x at. inl (x, at)) (inr (new _));
}

-- the endpoint of some ports changes, but not in its streams
moves_at_ports : (w : World tcp_shape) (step : Step tcp_shape) (host : Host) (b : HostTcp) (lport rport : ℕ)
    (f : Endpoint → Endpoint) → ((e : Endpoint) → (f e).stream ≡ e.stream)
    → Moves w step host b.endpoints (at_ports b lport rport f).endpoints
moves_at_ports w step host b lport rport f same =
    map_or_cases (λ (x : HostTcp). Moves w step host b.endpoints x.endpoints) (place_of b lport rport) b
    (λ i. with_endpoint b i f)
    (λ e. moves_not w step host b.endpoints) (λ i at. moves_one w step host b.endpoints i f (λ e there. inl (ap (λ (s : Stream). s.peer) (same e))))

-- 1. what hosts do

expiry_stream : (x : Expired) (e : Endpoint) (s : ℕ) → (after_expiry e x s).stream ≡ e.stream
expiry_stream (Rto growth) e s = refl
expiry_stream Persist e s = refl
expiry_stream Msl2 e s = refl
expiry_stream Giveup e s = refl
expiry_stream Pto e s = refl

syn_or_reset : (syn rst : Bool) → (syn || rst) ≡ true → rst ≡ false → syn ≡ true
syn_or_reset true rst either not_reset = refl
syn_or_reset false true either not_reset = absurd cc
syn_or_reset false false either not_reset = absurd cc

-- an endpoint reads its sender and its flags as they are
read_maker : (v : Version) (e : Endpoint) (m : Emission) → m.sender ≡ (as_read v e m).sender
read_maker v e m = by (is_half v)
  where
    by : (half : Bool) → m.sender ≡ (if half then read_at e m else m).sender
    by true = refl
    by false = refl

read_syn : (v : Version) (e : Endpoint) (m : Emission) → m.flags.syn ≡ (as_read v e m).flags.syn
read_syn v e m = by (is_half v)
  where
    by : (half : Bool) → m.flags.syn ≡ (if half then read_at e m else m).flags.syn
    by true = refl
    by false = refl

-- a segment that comes in (`m`), as the endpoint reads it (`r`)
meets_taking : (h : Header) (s : ℕ) (w : World tcp_shape) (host : Host) (line : ℕ) (how : TakeChoice) (m r : Emission)
    (i : ℕ) (e : Endpoint) → waiting line (pick w.hosts host).inbox ≡ Some m
    → slice_get (pick w.hosts host).body.endpoints i ≡ Some e → taker (pick w.hosts host).body m ≡ AtEndpoint i e
    → Waits e → m.sender ≡ r.sender → m.flags.syn ≡ r.flags.syn
    → first_broken (endpoint_rules h host (pick w.hosts host).body how r s i e) ≡ None
    → Meets w (At host (Takes line how)) (name host i) e.stream.peer (endpoint_taken h e how r s).stream.peer
meets_taking h s w host line how m r i e waits there is calm sender syn may = go r.flags.rst (is_syn_sent e.state) refl refl may
  where
    go : (b t : Bool) → r.flags.rst ≡ b → is_syn_sent e.state ≡ t
        → first_broken (if t then syn_sent_rules e how r s else connected_rules h (pick w.hosts host).body (name host i) e how r s) ≡ None
        → Meets w (At host (Takes line how)) (name host i) e.stream.peer
        (if b then was_reset e how s else if t then on_syn h e how r s else segment_taken h e how r s).stream.peer
    go true t reset sent may = inl refl
    go false true reset sent may = inr (
      (calm sent).0,
      r.sender,
      refl,
      record {
        line = line;
        how = how;
        segment = m;
        takes = refl;
        waits = waits;
        syn = syn ∙ syn_or_reset r.flags.syn r.flags.rst (not_false (r.flags.syn || r.flags.rst) (none_all (syn_sent_rules e how r s) may).0) reset;
        made = sender;
        goes = inl (e, there, is);
      },
    )
    go false false reset sent may = inl refl

moves_taking : (h : Header) (s : ℕ) (w : World tcp_shape) (host : Host) (line : ℕ) (how : TakeChoice) (m : Emission)
    → Steady w.hosts → waiting line (pick w.hosts host).inbox ≡ Some m
    → first_broken (taker_rules h host (pick w.hosts host).body how m s (taker (pick w.hosts host).body m)) ≡ None
    → Moves w (At host (Takes line how)) host (pick w.hosts host).body.endpoints
    (after_taking h (pick w.hosts host).body how m s (taker (pick w.hosts host).body m)).endpoints
moves_taking h s w host line how m steady waits may = go (taker (pick w.hosts host).body m) refl may
  where
    b : HostTcp
    b = (pick w.hosts host).body

    go : (t : Taker) → taker b m ≡ t → first_broken (taker_rules h host b how m s t) ≡ None
        → Moves w (At host (Takes line how)) host b.endpoints (after_taking h b how m s t).endpoints
    go Nobody is may = moves_not w (At host (Takes line how)) host b.endpoints
    go (AtListener l) is may =
        let first = not_false (m.flags.syn && not m.flags.ack && not m.flags.rst) (none_all (listener_rules how m) may).0 in
        let syn = (both_true m.flags.syn (not m.flags.ack) (both_true (m.flags.syn && not m.flags.ack) (not m.flags.rst) first).0).0 in
        moves_push w (At host (Takes line how)) host b.endpoints (child (profile_of h) l how m s)
        (λ j. inr (
          m.sender,
          refl,
          λ none.
              record {
                line = line;
                how = how;
                segment = m;
                takes = refl;
                waits = waits;
                syn = syn;
                made = refl;
                goes = inr (l, none, is);
              },
        ))
    go (AtEndpoint i e) is may = let r = as_read h.version e m in
        moves_one w (At host (Takes line how)) host b.endpoints i (λ x. endpoint_taken h x how r s)
        (λ x there.
        let one : e ≡ x = same_Some e x (sym (taker_there b m i e is) ∙ there) in
        meets_taking h s w host line how m r i x waits there (is ∙ ap (λ (y : Endpoint). AtEndpoint i y) one)
        (steady.own host i x there).waits (read_maker h.version e m) (read_syn h.version e m)
        (subst (λ (y : Endpoint). first_broken (endpoint_rules h host b how r s i y) ≡ None) one may))

moves_host_step : (h : Header) (s : ℕ) (w : World tcp_shape) (host : Host) (d : HostStep tcp_shape) → Steady w.hosts → Permitted (tcp h) s w (At host d)
    → Moves w (At host d) host (pick w.hosts host).body.endpoints
    (host_step_after (tcp h) host s (suc w.count) (pick w.hosts (other host)).wire (pick w.hosts host) d).body.endpoints
moves_host_step h s w host (Does x) steady may =
    moves_at_ports w (At host (Does x)) host (pick w.hosts host).body x.lport x.rport (λ e. after_recovery e x.change x.cwnd x.ssthresh s) (λ e. refl)
moves_host_step h s w host (Expires line x) steady may =
    moves_at_ports w (At host (Expires line x)) host (pick w.hosts host).body x.lport x.rport
    (λ e. after_expiry e x.expired s) (λ e. expiry_stream x.expired e s)
moves_host_step h s w host (Makes m) steady may = moves_at_ports w (At host (Makes m)) host (pick w.hosts host).body m.lport m.rport (λ e. after_making e m s)
    (λ e. either_stream m.flags.rst (record (shut_down (endpoint_made e m s)) { reset_due = false }) (endpoint_made e m s) e.stream refl refl)
moves_host_step h s w host (Sends line number wire) steady may = moves_not w (At host (Sends line number wire)) host (pick w.hosts host).body.endpoints
moves_host_step h s w host (Gets line copied wire) steady may = moves_not w (At host (Gets line copied wire)) host (pick w.hosts host).body.endpoints
moves_host_step h s w host (Hears line wire) steady may = moves_not w (At host (Hears line wire)) host (pick w.hosts host).body.endpoints
moves_host_step h s w host (Takes line how) steady may = let k = pick w.hosts host in let step : Step tcp_shape = At host (Takes line how) in
    on_cases (λ (b : HostTcp). Moves w step host k.body.endpoints b.endpoints) (waiting line k.inbox) k.body _ (moves_not w step host k.body.endpoints)
    (λ m e.
    let t = on_passes (waiting line k.inbox) rules.Inbox (λ x. taker_rules h host k.body how x s (taker k.body x)) may in
    let one : t.0 ≡ m = same_Some t.0 m (sym t.1 ∙ e) in
    moves_taking h s w host line how m steady e (subst (λ (x : Emission). first_broken (taker_rules h host k.body how x s (taker k.body x)) ≡ None) one t.2))
moves_host_step h s w host (Drops line) steady may = moves_not w (At host (Drops line)) host (pick w.hosts host).body.endpoints
moves_host_step h s w host (Answers line) steady may = let k = pick w.hosts host in let step : Step tcp_shape = At host (Answers line) in
    on_cases (λ (b : HostTcp). Moves w step host k.body.endpoints b.endpoints) (waiting line k.inbox) k.body _
    (moves_not w step host k.body.endpoints) (λ m e. moves_not w step host k.body.endpoints)

-- 2. calls

moves_same : (w : World tcp_shape) (step : Step tcp_shape) (host : Host) (b : HostTcp) (i : ℕ) (f : Endpoint → Endpoint)
    → ((e : Endpoint) → (f e).stream.peer ≡ e.stream.peer)
    → Moves w step host b.endpoints (with_endpoint b i f).endpoints
moves_same w step host b i f same = moves_one w step host b.endpoints i f (λ e at. inl (same e))

moves_change : (w : World tcp_shape) (step : Step tcp_shape) (host : Host) (b : HostTcp) (n : ℕ)
    (f : Endpoint → Endpoint) → ((e : Endpoint) → (f e).stream.peer ≡ e.stream.peer)
    → Moves w step host b.endpoints (option_map_or (change_target b f) (socket_target b n) b).endpoints
moves_change w step host b n f same =
    map_or_cases (λ (x : HostTcp). Moves w step host b.endpoints x.endpoints) (socket_target b n) b (change_target b f)
    (λ e. moves_not w step host b.endpoints) (λ target e. go target)
  where
    go : (target : SocketTarget) → Moves w step host b.endpoints (change_target b f target).endpoints
    go (ListenerAt l) = moves_not w step host b.endpoints
    go (EndpointAt i) = moves_same w step host b i f same

moves_gone : (w : World tcp_shape) (step : Step tcp_shape) (host : Host) (b : HostTcp) (n : ℕ) (f : Endpoint → Endpoint)
    (sockets : List (ℕ × Socket)) → ((e : Endpoint) → (f e).stream.peer ≡ e.stream.peer)
    → Moves w step host b.endpoints (option_map_or (λ target. record (target_gone b target f) { sockets = sockets }) (socket_target b n) b).endpoints
moves_gone w step host b n f sockets same =
    map_or_cases (λ (x : HostTcp). Moves w step host b.endpoints x.endpoints) (socket_target b n) b
    (λ target. record (target_gone b target f) { sockets = sockets }) (λ e. moves_not w step host b.endpoints)
    (λ target e. go target)
  where
    go : (target : SocketTarget) → Moves w step host b.endpoints (target_gone b target f).endpoints
    go (ListenerAt l) =
        moves_map w step host b.endpoints (orphaned l)
        (λ e. either_stream (option_map_or (λ holder. holder == l) e.listener false)
        (after_abort e) e e.stream refl refl)
    go (EndpointAt i) = moves_same w step host b i f same

moves_accept : (w : World tcp_shape) (step : Step tcp_shape) (host : Host) (b : HostTcp) (n : ℕ) (target : SocketTarget)
    → Moves w step host b.endpoints (after_accept b n target).endpoints
moves_accept w step host b n (EndpointAt i) = moves_not w step host b.endpoints
moves_accept w step host b n (ListenerAt l) = go (queue_of b l)
  where
    go : (queue : List ℕ) → Moves w step host b.endpoints (accepted_from b l n queue).endpoints
    go [] = moves_not w step host b.endpoints
    go (c ∷ queue) = moves_same w step host b c (λ e. record e { listener = None }) (λ e. refl)

shut_peer : (e : Endpoint) → (after_shut e).stream.peer ≡ e.stream.peer
shut_peer e =
    ap (λ (s : Stream). s.peer)
    (either_stream (is_syn_sent e.state) (shut_down (record e { stream = record e.stream { ended = true } }))
    (after_ending e) (record e.stream { ended = true }) refl refl)

moves_call : (p : Profile) (w : World tcp_shape) (step : Step tcp_shape) (host : Host) (b : HostTcp) (call : Call) (answer : Answer)
    → Moves w step host b.endpoints (after_call p b call answer).endpoints
moves_call p w step host b (calls.Listen at port backlog) (answers.Given n) = moves_not w step host b.endpoints
moves_call p w step host b (calls.Connect at lport rport) (answers.Given n) =
    moves_push w step host b.endpoints (new_endpoint lport rport None states.SynSent p) (λ j. inl refl)
moves_call p w step host b (calls.Accept h) (answers.Given n) =
    map_or_cases (λ (x : HostTcp). Moves w step host b.endpoints x.endpoints) (socket_target b h) b (after_accept b n)
    (λ e. moves_not w step host b.endpoints) (λ target e. moves_accept w step host b n target)
moves_call p w step host b (calls.Send h bytes) (answers.Given n) = moves_change w step host b h (after_send bytes n) (λ e. refl)
moves_call p w step host b (calls.Recv h most) (answers.Bytes bytes) = moves_change w step host b h (after_recv bytes) (λ e. refl)
moves_call p w step host b (calls.Shut h) answers.Done = moves_gone w step host b h after_shut b.sockets shut_peer
moves_call p w step host b (calls.Close h) answers.Done = moves_gone w step host b h after_close (dead b.sockets h) shut_peer
moves_call p w step host b (calls.Abort h) answers.Done = moves_gone w step host b h after_abort (dead b.sockets h) (λ e. refl)
moves_call p w step host b call answer = moves_not w step host b.endpoints

-- 3. both hosts

-- the endpoints of both
pub record BothMove (w : World tcp_shape) (step : Step tcp_shape) (b : Hosts) : Type 0 where
  pub all : (x : Host) → Moves w step x (pick w.hosts x).body.endpoints (pick b x).body.endpoints

both_not : (w : World tcp_shape) (step : Step tcp_shape) → BothMove w step w.hosts
both_not w step = record { all = λ x. moves_not w step x (pick w.hosts x).body.endpoints }

both_host : (w : World tcp_shape) (step : Step tcp_shape) (host : Host) (k : HostState tcp_shape)
    → Moves w step host (pick w.hosts host).body.endpoints k.body.endpoints → BothMove w step (with_host w.hosts host k)
both_host w step host k f =
    record {
      all = with_cases w.hosts host k (λ x y. Moves w step x (pick w.hosts x).body.endpoints y.body.endpoints) f
          (moves_not w step (other host) (pick w.hosts (other host)).body.endpoints);
    }

pub both_step : (h : Header) (s : ℕ) (w : World tcp_shape) (step : Step tcp_shape) → Steady w.hosts
    → Permitted (tcp h) s w step → BothMove w step (after (tcp h) s w step).hosts
both_step h s w (Begin line t call) steady may = both_not w (Begin line t call)
both_step h s w (Finish line t answer) steady may = both_not w (Finish line t answer)
both_step h s w (Effect t answer) steady may = go (turn_of t w.threads)
  where
    by : (call : Call) (o : Option Host) → BothMove w (Effect t answer) (call_after (tcp h) s w.hosts (Calls call answer) o)
    by call None = both_not w (Effect t answer)
    by call (Some host) =
        both_host w (Effect t answer) host
        (record (pick w.hosts host) { body = after_call (profile_of h) (pick w.hosts host).body call answer })
        (moves_call (profile_of h) w (Effect t answer) host (pick w.hosts host).body call answer)

    go : (u : Turn tcp_shape) → BothMove w (Effect t answer) (effect_after (tcp h) s w t answer u).hosts
    go Idle = both_not w (Effect t answer)
    go (Called call) = by call (aim_of (tcp h) w.hosts (aim call))
    go (Answered x) = both_not w (Effect t answer)
both_step h s w (At host d) steady may =
    both_host w (At host d) host (host_step_after (tcp h) host s (suc w.count) (pick w.hosts (other host)).wire
    (pick w.hosts host) d) (moves_host_step h s w host d steady may)

abbrev peer_in : Option Endpoint → Option EndpointId
peer_in o = option_map_or (λ e. e.stream.peer) o None

-- the peer of one endpoint
pub meets : (w : World tcp_shape) (step : Step tcp_shape) (b : Hosts) → BothMove w step b → (me : EndpointId)
    → Meets w step me (peer_of w.hosts me) (peer_of b me)
meets w step b both me = go (find w.hosts me) (find b me) refl refl
  where
    new : (f : Endpoint) → find w.hosts me ≡ None → ((e : Endpoint) × (find w.hosts me ≡ Some e)) ⊎ Begins w step me f → Meets w step me None f.stream.peer
    new f none (inl e) = absurd (none-some e.0 (sym none ∙ e.1))
    new f none (inr (inl is)) = inl is
    new f none (inr (inr met)) = inr (refl, met.0, met.1, met.2 none)

    go : (o p : Option Endpoint) → find w.hosts me ≡ o → find b me ≡ p → Meets w step me (peer_in o) (peer_in p)
    go None None was now = inl refl
    go None (Some f) was now = new f was ((both.all me.host).back me.number f now)
    go (Some e) p was now =
        let h = (both.all me.host).onward me.number e was in
        subst (λ (x : Option Endpoint). Meets w step me e.stream.peer (peer_in x)) (sym h.1 ∙ now) h.2

-- each step of a run meets peers so
pub peers_met : (h : Header) (before : List (Stamped tcp_shape)) (x : Stamped tcp_shape)
    → Lawful (tcp h) (start (tcp h)) before → Permitted (tcp h) x.moment (world_at_end h before) x.step
    → PeersAreMet h before x
peers_met h before x run may me =
    let w = world_at_end h before in
    meets w x.step (after (tcp h) x.moment w x.step).hosts (both_step h x.moment w x.step (steady_run h (start (tcp h)) before (steady_start h) run) may) me

-- a step before which the endpoint had no peer takes the SYN of this one
abbrev WasMet : Header → World tcp_shape → List (Stamped tcp_shape) → EndpointId → EndpointId → Type 0
WasMet h w steps me q =
    (place : ℕ) × (x : Stamped tcp_shape) × (slice_get steps place ≡ Some x)
    × (peer_of (after_all (tcp h) w (take place steps)).hosts me ≡ None) × TakesSynOf (after_all (tcp h) w (take place steps)) x.step me q

-- a peer at the end was there before the run, or was met in it
from_run : (h : Header) (w : World tcp_shape) (steps : List (Stamped tcp_shape)) (me q : EndpointId) → Steady w.hosts
    → Lawful (tcp h) w steps → peer_of (after_all (tcp h) w steps).hosts me ≡ Some q
    → (peer_of w.hosts me ≡ Some q) ⊎ WasMet h w steps me q
from_run h w [] me q steady run is = inl is
from_run h w (x ∷ xs) me q steady run is = go (from_run h v xs me q (steady_step h x.moment w x.step steady run.0) run.1 is)
  where
    v : World tcp_shape
    v = after (tcp h) x.moment w x.step

    first : peer_of v.hosts me ≡ Some q → Meets w x.step me (peer_of w.hosts me) (peer_of v.hosts me) → (peer_of w.hosts me ≡ Some q) ⊎ WasMet h w (x ∷ xs) me q
    first now (inl stays) = inl (sym stays ∙ now)
    first now (inr met) =
        let same : met.1 ≡ q = same_Some met.1 q (sym met.2 ∙ now) in
        inr (0, x, refl, met.0, subst (λ (n : EndpointId). TakesSynOf w x.step me n) same met.3)

    go : (peer_of v.hosts me ≡ Some q) ⊎ WasMet h v xs me q → (peer_of w.hosts me ≡ Some q) ⊎ WasMet h w (x ∷ xs) me q
    go (inl now) = first now (meets w x.step v.hosts (both_step h x.moment w x.step steady run.0) me)
    go (inr met) = inr (suc met.0, met.1, met.2, met.3, met.4)

no_peer : (h : Header) (me : EndpointId) (host : Host) → slice_get (pick (start (tcp h)).hosts host).body.endpoints me.number ≡ None
no_peer h me Zero = refl
no_peer h me One = refl

pub peers_were_met : (h : Header) (steps : List (Stamped tcp_shape)) → Lawful (tcp h) (start (tcp h)) steps → PeersWereMet h steps
peers_were_met h steps run me q is = go (from_run h (start (tcp h)) steps me q (steady_start h) run is)
  where
    go : (peer_of (start (tcp h)).hosts me ≡ Some q) ⊎ WasMet h (start (tcp h)) steps me q → WasMet h (start (tcp h)) steps me q
    go (inl before) = absurd (none-some q (sym (ap peer_in (no_peer h me me.host)) ∙ before))
    go (inr met) = met
