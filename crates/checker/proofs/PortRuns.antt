-- In every world of a run: which ports endpoints, segments and peers have, and which calls gave them.
use Rattle.std.proofs.Common.{◌≡◌, ℕ, suc, ◌⊎◌, true, false, List, [], ◌∷◌, ◌++◌, Option, Some, None, refl, ap, sym, subst, ◌∙◌, inl, inr, nat_eq}
use Rattle.std.specs.Prelude.{slice_get}
use Rattle.std.specs.Option.{option_map, option_map_or}
use Rattle.std.specs.Map.{lookup}
use Rattle.std.proofs.lemmas.Option.{none-some, same_Some}
use Rattle.indexmap.specs.IndexMap.{insert_entry}
use Rattle.case_forms.specs.Versions.{is_half}
use Rattle.case_forms.specs.declared.calls.Answer.{Answer}
use Rattle.case_forms.specs.declared.calls.Call.{Call}
use Rattle.case_forms.specs.declared.calls.Host.{Host}
use Rattle.case_forms.specs.declared.calls.Host.TheVariants.{Zero, One}
use Rattle.case_forms.specs.declared.steps.SegmentPlan.{SegmentPlan}
use Rattle.case_forms.specs.declared.trace.Header.{Header}
use Rattle.streams.proofs.Places.{get_append}
use Rattle.spec_network.specs.Tables.{pick, other, with_host, on, Made, unsent, gone_out, waiting, settled}
use Rattle.spec_network.specs.Hosts.{HostState, Turn, Idle, Called, Answered, World, HostStep, Does, Expires, Makes, Sends}
use Rattle.spec_network.specs.Hosts.{Gets, Hears, Takes, Drops, Answers, Step, Begin, Finish, Effect, At, Stamped}
use Rattle.spec_network.specs.Hosts.{turn_of}
use Rattle.spec_network.specs.HostRules.{aim_of, Permitted}
use Rattle.spec_network.specs.HostSteps.{host_step_after, call_after, effect_after, after, after_all, start, Lawful}
use Rattle.spec_tcp.specs.Signals.{profile_of}
use Rattle.spec_tcp.specs.declared.endpoint.Emission.{Emission}
use Rattle.spec_tcp.specs.declared.endpoint.Endpoint.{Endpoint}
use Rattle.spec_tcp.specs.declared.endpoint.EndpointId.{EndpointId}
use Rattle.spec_tcp.specs.declared.endpoint.Socket.{Socket}
use Rattle.spec_tcp.specs.declared.endpoint.SocketTarget.{SocketTarget}
use Rattle.spec_tcp.specs.declared.endpoint.SocketTarget.TheVariants.{ListenerAt, EndpointAt}
use Rattle.spec_tcp.specs.HostTcp.{place_of}
use Rattle.spec_tcp.specs.Calls.{after_call}
use Rattle.spec_tcp.specs.Makes.{emission_of}
use Rattle.spec_tcp.specs.Reset.{reset_of}
use Rattle.spec_tcp.specs.Wire.{sent}
use Rattle.spec_tcp.specs.Machine.{tcp, tcp_shape, aim, made_at, Calls}
use Rattle.spec_tcp_laws.specs.Consequences.{find}
use Rattle.spec_tcp_laws.specs.Runs.{of_turn, of_effect, owner, endpoint_place}
use Rattle.spec_tcp_laws.proofs.Rules.{on_cases}
use Rattle.spec_tcp_laws.proofs.Later.{Hosts}
use Rattle.spec_tcp_laws.proofs.Moves.{with_cases}
use Rattle.spec_tcp_laws.proofs.Runs.{Steady, steady_step, nowhere}
use Rattle.spec_tcp_laws.proofs.Steps.{heard_nothing}
use Rattle.spec_tcp_laws.proofs.Tables.{AllIn, all_insert, inbox_join, inbox_settled}
use Rattle.checker.specs.Headline.{CallDone, Stands, HasPorts}
use Rattle.checker.specs.Peers.{peer_of, GoesTo}
use Rattle.checker.proofs.HeadlineLemmas.{one_done, run_done}
use Rattle.checker.proofs.PeerLemmas.{Meets, meets, both_step}
use Rattle.checker.proofs.PortLemmas.{HasAt, port_at, place_ports, taker_place, SameEnd, same_end, Born, Names, Moved, moved_host_step, moved_call}

-- a segment with SYN was made at this host by an endpoint of its ports; of a reset that answers nothing is said, since it has the sender of the segment that it
-- answers
abbrev FromHost : Hosts → Host → Emission → Type 0
FromHost a x m = m.flags.syn ≡ true → (m.sender.host ≡ x) × HasAt a m.sender m.lport m.rport

pub record AtHome (a : Hosts) (x : Host) (h : HostState tcp_shape) : Type 0 where
  pub made : AllIn (λ (y : Made Emission). FromHost a x y.emission) h.made
  pub wire : AllIn (FromHost a x) h.wire
  pub inbox : (n : ℕ) (m : Emission) → waiting n h.inbox ≡ Some m → FromHost a (other x) m

made_home : (a : Hosts) (x : Host) (moment : ℕ) (m : SegmentPlan) (o : Option ℕ) → place_of (pick a x).body m.lport m.rport ≡ o
    → (e : Emission) → option_map_or (made_at x moment (pick a x).body m) o None ≡ Some e → FromHost a x e
made_home a x moment m None at e is = absurd (none-some e is)
made_home a x moment m (Some i) at e is = go (slice_get (pick a x).body.endpoints i) refl is
  where
    go : (p : Option Endpoint) → slice_get (pick a x).body.endpoints i ≡ p
        → option_map (λ y. emission_of (record { host = x; number = i }) y m moment) p ≡ Some e → FromHost a x e
    go None there is = absurd (none-some e is)
    go (Some y) there is = let ports = place_ports (pick a x).body m.lport m.rport i y at there in
        subst (λ (z : Emission). FromHost a x z) (same_Some (emission_of (record { host = x; number = i }) y m moment) e is)
        (λ s. (refl, (y, there, ports.0, ports.1)))

made_more : (a : Hosts) (x : Host) (made : List (ℕ × Made Emission)) (fresh : ℕ) (o : Option Emission)
    → ((e : Emission) → o ≡ Some e → FromHost a x e) → AllIn (λ (y : Made Emission). FromHost a x y.emission) made
    → AllIn (λ (y : Made Emission). FromHost a x y.emission) (on o made (λ e. insert_entry nat_eq made fresh (unsent e)))
made_more a x made fresh None new old = old
made_more a x made fresh (Some e) new old = all_insert (λ (y : Made Emission). FromHost a x y.emission) made fresh (unsent e) (new e refl) old

abbrev AllWaiting : (Emission → Type 0) → List (ℕ × Option Emission) → Type 0
AllWaiting P inbox = (n : ℕ) (m : Emission) → waiting n inbox ≡ Some m → P m

settled_home : (a : Hosts) (x : Host) (line : ℕ) (inbox : List (ℕ × Option Emission))
    → AllWaiting (FromHost a (other x)) inbox
    → AllWaiting (FromHost a (other x)) (on (waiting line inbox) inbox (λ m. settled line inbox))
settled_home a x line inbox old =
    on_cases (AllWaiting (FromHost a (other x))) (waiting line inbox) inbox (λ m. settled line inbox) old
    (λ m e. inbox_settled (FromHost a (other x)) inbox line old)

host_step_home : (h : Header) → is_half h.version ≡ false → (s : ℕ) (w : World tcp_shape) (host : Host) (d : HostStep tcp_shape)
    → Permitted (tcp h) s w (At host d) → AtHome w.hosts host (pick w.hosts host)
    → AtHome w.hosts (other host) (pick w.hosts (other host))
    → AtHome w.hosts host (host_step_after (tcp h) host s (suc w.count) (pick w.hosts (other host)).wire (pick w.hosts host) d)
host_step_home h both s w host (Does x) may g far = record { made = g.made; wire = g.wire; inbox = g.inbox }
host_step_home h both s w host (Expires line x) may g far = record { made = g.made; wire = g.wire; inbox = g.inbox }
host_step_home h both s w host (Makes m) may g far = record {
  made = made_more w.hosts host (pick w.hosts host).made (suc w.count)
      (option_map_or (made_at host s (pick w.hosts host).body m)
      (place_of (pick w.hosts host).body m.lport m.rport) None)
      (made_home w.hosts host s m (place_of (pick w.hosts host).body m.lport m.rport) refl) g.made;
  wire = g.wire;
  inbox = g.inbox;
}
host_step_home h both s w host (Sends line number wire) may g far = let k = pick w.hosts host in record {
  made = on_cases (λ (t : List (ℕ × Made Emission)). AllIn (λ (y : Made Emission). FromHost w.hosts host y.emission) t) (lookup (nat_eq number) k.made) k.made
      (λ m. insert_entry nat_eq k.made number (gone_out m)) g.made
      (λ m e. all_insert (λ (y : Made Emission). FromHost w.hosts host y.emission) k.made number (gone_out m) (g.made number m e) g.made);
  wire = on_cases (λ (t : List (ℕ × Emission)). AllIn (FromHost w.hosts host) t) (lookup (nat_eq number) k.made) k.wire
      (λ m. insert_entry nat_eq k.wire line (sent s wire m.emission)) g.wire
      (λ m e. all_insert (FromHost w.hosts host) k.wire line (sent s wire m.emission) (g.made number m e) g.wire);
  inbox = g.inbox;
}
host_step_home h both s w host (Gets line copied wire) may g far = let k = pick w.hosts host in record {
  made = g.made;
  wire = g.wire;
  inbox = on_cases (AllWaiting (FromHost w.hosts (other host))) (lookup (nat_eq copied) (pick w.hosts (other host)).wire) k.inbox
      (λ m. insert_entry nat_eq k.inbox line (Some m)) g.inbox
      (λ m e. inbox_join (FromHost w.hosts (other host)) k.inbox line m (far.wire copied m e) g.inbox);
}
host_step_home h both s w host (Hears line wire) may g far = absurd (heard_nothing h both may)
host_step_home h both s w host (Takes line how) may g far =
    record { made = g.made; wire = g.wire; inbox = settled_home w.hosts host line (pick w.hosts host).inbox g.inbox }
host_step_home h both s w host (Drops line) may g far =
    record { made = g.made; wire = g.wire; inbox = settled_home w.hosts host line (pick w.hosts host).inbox g.inbox }
host_step_home h both s w host (Answers line) may g far = let k = pick w.hosts host in record {
  made = on_cases (λ (t : List (ℕ × Made Emission)). AllIn (λ (y : Made Emission). FromHost w.hosts host y.emission) t) (waiting line k.inbox) k.made
      (λ m. insert_entry nat_eq k.made (suc w.count) (unsent (reset_of m))) g.made
      (λ m e. all_insert (λ (y : Made Emission). FromHost w.hosts host y.emission) k.made (suc w.count) (unsent (reset_of m)) (λ syn. absurd cc) g.made);
  wire = g.wire;
  inbox = settled_home w.hosts host line k.inbox g.inbox;
}

-- what was holds of a later world
abbrev AllStand : Hosts → Hosts → Type 0
AllStand a b = (q : EndpointId) (lport rport : ℕ) → HasAt a q lport rport → HasAt b q lport rport

home_later : (a b : Hosts) → AllStand a b → (x : Host) (h : HostState tcp_shape) → AtHome a x h → AtHome b x h
home_later a b later x h g = record {
  made = λ n y e. still x y.emission (g.made n y e);
  wire = λ n m e. still x m (g.wire n m e);
  inbox = λ n m e. still (other x) m (g.inbox n m e);
}
  where
    still : (y : Host) (m : Emission) → FromHost a y m → FromHost b y m
    still y m from syn = let f = from syn in (f.0, later m.sender m.lport m.rport f.1)

-- what holds of a world, where these calls had their effect
pub record Ported (all : List CallDone) (a : Hosts) : Type 0 where
  -- what a socket number names has the ports of the call that gave it
  pub numbers : (x : Host) (n : ℕ) (s : Socket) → lookup (nat_eq n) (pick a x).body.sockets ≡ Some s → Names all x (pick a x).body n s.target
  -- a child has its listener's port
  pub children : (x : Host) (i : ℕ) (e : Endpoint) (l : ℕ) → slice_get (pick a x).body.endpoints i ≡ Some e
      → e.listener ≡ Some l → port_at (pick a x).body.listeners l ≡ Some e.lport
  -- the peer is at the other host, with the same ports turned round
  pub peers : (x : Host) (i : ℕ) (e : Endpoint) (q : EndpointId) → slice_get (pick a x).body.endpoints i ≡ Some e
      → e.stream.peer ≡ Some q → (q.host ≡ other x) × HasAt a q e.rport e.lport
  pub home : (x : Host) → AtHome a x (pick a x)

ported_host : (all : List CallDone) (w : World tcp_shape) (step : Step tcp_shape) (host : Host)
    (k : HostState tcp_shape) → Ported all w.hosts → Moved all w.hosts host (pick w.hosts host).body k.body
    → AtHome w.hosts host k
    → ((me : EndpointId) → Meets w step me (peer_of w.hosts me) (peer_of (with_host w.hosts host k) me)) → Ported all (with_host w.hosts host k)
ported_host all w step host k old moved home met =
    record {
      numbers = numbers;
      children = children;
      peers = peers;
      home = with_cases a host k (λ x y. AtHome b x y) (home_later a b stand host k home)
          (home_later a b stand (other host) (pick a (other host)) (old.home (other host)));
    }
  where
    a : Hosts
    a = w.hosts

    b : Hosts
    b = with_host w.hosts host k

    ends : (x : Host) (i : ℕ) (e : Endpoint) → slice_get (pick a x).body.endpoints i ≡ Some e
        → (f : Endpoint) × (slice_get (pick b x).body.endpoints i ≡ Some f) × SameEnd e f
    ends = with_cases a host k (λ x y. (i : ℕ) (e : Endpoint) → slice_get (pick a x).body.endpoints i ≡ Some e
        → (f : Endpoint) × (slice_get y.body.endpoints i ≡ Some f) × SameEnd e f) moved.ends
        (λ i e at. (e, at, same_end e))

    born : (x : Host) (i : ℕ) (f : Endpoint) → slice_get (pick b x).body.endpoints i ≡ Some f
        → ((e : Endpoint) × (slice_get (pick a x).body.endpoints i ≡ Some e)) ⊎ Born a x (pick b x).body f
    born = with_cases a host k (λ x y. (i : ℕ) (f : Endpoint) → slice_get y.body.endpoints i ≡ Some f
        → ((e : Endpoint) × (slice_get (pick a x).body.endpoints i ≡ Some e)) ⊎ Born a x y.body f) moved.born
        (λ i f at. inl (f, at))

    listeners : (x : Host) (l port : ℕ) → port_at (pick a x).body.listeners l ≡ Some port → port_at (pick b x).body.listeners l ≡ Some port
    listeners =
        with_cases a host k (λ x y. (l port : ℕ) → port_at (pick a x).body.listeners l ≡ Some port
        → port_at y.body.listeners l ≡ Some port) moved.listeners (λ l port e. e)

    sockets : (x : Host) (n : ℕ) (s : Socket) → lookup (nat_eq n) (pick b x).body.sockets ≡ Some s
        → ((t : Socket) × (lookup (nat_eq n) (pick a x).body.sockets ≡ Some t) × (t.target ≡ s.target))
        ⊎ Names all x (pick b x).body n s.target
    sockets =
        with_cases a host k (λ x y. (n : ℕ) (s : Socket) → lookup (nat_eq n) y.body.sockets ≡ Some s
        → ((t : Socket) × (lookup (nat_eq n) (pick a x).body.sockets ≡ Some t) × (t.target ≡ s.target))
        ⊎ Names all x y.body n s.target)
        moved.sockets (λ n s e. inl (s, e, refl))

    stand : AllStand a b
    stand q lport rport at = let g = ends q.host q.number at.0 at.1 in (g.0, g.1, g.2.lport ∙ at.2, g.2.rport ∙ at.3)

    -- the endpoint that was at a place is the one that is there
    same : (x : Host) (i : ℕ) (e f : Endpoint) → slice_get (pick a x).body.endpoints i ≡ Some e → slice_get (pick b x).body.endpoints i ≡ Some f → SameEnd e f
    same x i e f was is = let g = ends x i e was in subst (λ (y : Endpoint). SameEnd e y) (same_Some g.0 f (sym g.1 ∙ is)) g.2

    named : (x : Host) (n : ℕ) (t : SocketTarget) → Names all x (pick a x).body n t → Names all x (pick b x).body n t
    named x n (EndpointAt i) y = let g = ends x i y.0 y.1 in
        (g.0, g.1, subst (λ (l : ℕ). HasPorts all x l g.0.rport n) (sym g.2.lport) (subst (λ (r : ℕ). HasPorts all x y.0.lport r n) (sym g.2.rport) y.2))
    named x n (ListenerAt l) y = (y.0, y.1, listeners x l y.0 y.2, y.3)

    numbers : (x : Host) (n : ℕ) (s : Socket) → lookup (nat_eq n) (pick b x).body.sockets ≡ Some s → Names all x (pick b x).body n s.target
    numbers x n s at = go (sockets x n s at)
      where
        go : ((t : Socket) × (lookup (nat_eq n) (pick a x).body.sockets ≡ Some t) × (t.target ≡ s.target))
            ⊎ Names all x (pick b x).body n s.target → Names all x (pick b x).body n s.target
        go (inl t) = subst (λ (y : SocketTarget). Names all x (pick b x).body n y) t.2 (named x n t.0.target (old.numbers x n t.0 t.1))
        go (inr new) = new

    children : (x : Host) (i : ℕ) (f : Endpoint) (l : ℕ) → slice_get (pick b x).body.endpoints i ≡ Some f
        → f.listener ≡ Some l → port_at (pick b x).body.listeners l ≡ Some f.lport
    children x i f l at of' = go (born x i f at)
      where
        go : ((e : Endpoint) × (slice_get (pick a x).body.endpoints i ≡ Some e)) ⊎ Born a x (pick b x).body f
            → port_at (pick b x).body.listeners l ≡ Some f.lport
        go (inl e) = let g = same x i e.0 f e.1 at in
            subst (λ (port : ℕ). port_at (pick b x).body.listeners l ≡ Some port) (sym g.lport)
            (listeners x l e.0.lport (old.children x i e.0 l e.1 (g.listener l of')))
        go (inr new) = new.listener l of'

    peer_at : (c : Hosts) (me : EndpointId) (e : Endpoint) → find c me ≡ Some e → peer_of c me ≡ e.stream.peer
    peer_at c me e at = ap (λ (o : Option Endpoint). option_map_or (λ y. y.stream.peer) o None) at

    turned : (x : Host) (i : ℕ) (e f : Endpoint) (q : EndpointId) → SameEnd e f
        → (q.host ≡ other x) × HasAt a q e.rport e.lport → (q.host ≡ other x) × HasAt b q f.rport f.lport
    turned x i e f q g p = (
      p.0,
      subst (λ (r : ℕ). HasAt b q r f.lport) (sym g.rport)
          (subst (λ (l : ℕ). HasAt b q e.rport l) (sym g.lport) (stand q e.rport e.lport p.1)),
    )

    peers : (x : Host) (i : ℕ) (f : Endpoint) (q : EndpointId) → slice_get (pick b x).body.endpoints i ≡ Some f
        → f.stream.peer ≡ Some q → (q.host ≡ other x) × HasAt b q f.rport f.lport
    peers x i f q at is = go (born x i f at)
      where
        me : EndpointId
        me = record { host = x; number = i }

        by : (e : Endpoint) → slice_get (pick a x).body.endpoints i ≡ Some e
            → Meets w step me (peer_of a me) (peer_of b me) → (q.host ≡ other x) × HasAt a q e.rport e.lport
        by e was (inl stays) = old.peers x i e q was (sym (peer_at a me e was) ∙ sym stays ∙ peer_at b me f at ∙ is)
        by e was (inr m) = to m.3.goes
          where
            from : (m.3.segment.sender.host ≡ other x) × HasAt a m.3.segment.sender m.3.segment.lport m.3.segment.rport
            from = (old.home x).inbox m.3.line m.3.segment m.3.waits m.3.syn

            sender : m.3.segment.sender ≡ q
            sender = m.3.made ∙ same_Some m.1 q (sym m.2 ∙ peer_at b me f at ∙ is)

            to : GoesTo a me m.3.segment → (q.host ≡ other x) × HasAt a q e.rport e.lport
            to (inl there) =
                let ports =
                place_ports (pick a x).body m.3.segment.rport m.3.segment.lport i e
                (taker_place (pick a x).body m.3.segment i there.0 there.2) was in
                subst (λ (n : EndpointId). (n.host ≡ other x) × HasAt a n e.rport e.lport) sender (
                  from.0,
                  subst (λ (r : ℕ). HasAt a m.3.segment.sender r e.lport) (sym ports.1)
                      (subst (λ (l : ℕ). HasAt a m.3.segment.sender m.3.segment.lport l) (sym ports.0) from.1),
                )
            to (inr nowhere) = absurd (none-some e (sym nowhere.1 ∙ was))

        go : ((e : Endpoint) × (slice_get (pick a x).body.endpoints i ≡ Some e)) ⊎ Born a x (pick b x).body f → (q.host ≡ other x) × HasAt b q f.rport f.lport
        go (inl e) = turned x i e.0 f q (same x i e.0 f e.1 at) (by e.0 e.1 (met me))
        go (inr new) = let p = new.peer q is in (p.0, stand q f.rport f.lport p.1)

ported_step : (h : Header) → is_half h.version ≡ false
    → (all : List CallDone) (s : ℕ) (w : World tcp_shape) (step : Step tcp_shape) → Steady w.hosts
    → Permitted (tcp h) s w step
    → ((c : Call) (r : Answer) → Stands (of_effect h w step [] one_done) c r → Stands all c r)
    → Ported all w.hosts → Ported all (after (tcp h) s w step).hosts
ported_step h both all s w (Begin line t call) steady may stands old = old
ported_step h both all s w (Finish line t answer) steady may stands old = old
ported_step h both all s w (At host d) steady may stands old =
    ported_host all w (At host d) host (host_step_after (tcp h) host s (suc w.count) (pick w.hosts (other host)).wire (pick w.hosts host) d) old
    (moved_host_step all h s w host d (old.home host).inbox may) (host_step_home h both s w host d may (old.home host) (old.home (other host)))
    (meets w (At host d) (after (tcp h) s w (At host d)).hosts (both_step h s w (At host d) steady may))
ported_step h both all s w (Effect t answer) steady may stands old =
    go (turn_of t w.threads) stands
    (meets w (Effect t answer) (after (tcp h) s w (Effect t answer)).hosts
    (both_step h s w (Effect t answer) steady may))
  where
    by : (call : Call) (o : Option Host) → aim_of (tcp h) w.hosts (aim call) ≡ o → Stands all call answer
        → ((me : EndpointId) → Meets w (Effect t answer) me (peer_of w.hosts me)
        (peer_of (call_after (tcp h) s w.hosts (Calls call answer) o) me))
        → Ported all (call_after (tcp h) s w.hosts (Calls call answer) o)
    by call None is had met = old
    by call (Some host) is had met =
        ported_host all w (Effect t answer) host (record (pick w.hosts host) { body = after_call (profile_of h) (pick w.hosts host).body call answer }) old
        (moved_call (profile_of h) all w.hosts host (pick w.hosts host).body call answer
        (record { sound = steady.sound host; numbers = old.numbers host; children = old.children host }) had
        (λ at port backlog e. same_Some at host (subst (λ (c : Call). aim_of (tcp h) w.hosts (aim c) ≡ Some host) e is))
        (λ at lport rport e. same_Some at host (subst (λ (c : Call). aim_of (tcp h) w.hosts (aim c) ≡ Some host) e is)))
        (record { made = (old.home host).made; wire = (old.home host).wire; inbox = (old.home host).inbox }) met

    go : (u : Turn tcp_shape) → ((c : Call) (r : Answer) → Stands (of_turn u [] (λ call. one_done call answer)) c r → Stands all c r)
        → ((me : EndpointId)
        → Meets w (Effect t answer) me (peer_of w.hosts me) (peer_of (effect_after (tcp h) s w t answer u).hosts me))
        → Ported all (effect_after (tcp h) s w t answer u).hosts
    go Idle stands met = old
    go (Called call) stands met = by call (aim_of (tcp h) w.hosts (aim call)) refl (stands call answer (0, refl)) met
    go (Answered x) stands met = old

stands_left : (xs ys : List CallDone) (call : Call) (answer : Answer) → Stands xs call answer → Stands (xs ++ ys) call answer
stands_left xs ys call answer s = (s.0, get_append xs ys s.0 (record { call = call; answer = answer }) s.1)

stands_right : (xs ys : List CallDone) (call : Call) (answer : Answer) → Stands ys call answer → Stands (xs ++ ys) call answer
stands_right [] ys call answer s = s
stands_right (x ∷ xs) ys call answer s = let y = stands_right xs ys call answer s in (suc y.0, y.1)

pub ported_run : (h : Header) → is_half h.version ≡ false
    → (all : List CallDone) (w : World tcp_shape) (steps : List (Stamped tcp_shape)) → Steady w.hosts
    → Lawful (tcp h) w steps → ((c : Call) (r : Answer) → Stands (run_done h w steps) c r → Stands all c r)
    → Ported all w.hosts → Ported all (after_all (tcp h) w steps).hosts
ported_run h both all w [] steady may stands old = old
ported_run h both all w (x ∷ xs) steady may stands old =
    ported_run h both all (after (tcp h) x.moment w x.step) xs (steady_step h x.moment w x.step steady may.0) may.1
    (λ c r s. stands c r (stands_right (of_effect h w x.step [] one_done) (run_done h (after (tcp h) x.moment w x.step) xs) c r s))
    (ported_step h both all x.moment w x.step steady may.0
    (λ c r s. stands c r (stands_left (of_effect h w x.step [] one_done)
    (run_done h (after (tcp h) x.moment w x.step) xs) c r s)) old)

pub ported_start : (h : Header) (all : List CallDone) → Ported all (start (tcp h)).hosts
ported_start h all = record {
  numbers = λ x n s at. absurd (none-some s (sym (no_socket x n) ∙ at));
  children = λ x i e l at. absurd (nowhere h x i e at);
  peers = λ x i e q at. absurd (nowhere h x i e at);
  home = home;
}
  where
    no_socket : (x : Host) (n : ℕ) → lookup (nat_eq n) (pick (start (tcp h)).hosts x).body.sockets ≡ None
    no_socket Zero n = refl
    no_socket One n = refl

    home : (x : Host) → AtHome (start (tcp h)).hosts x (pick (start (tcp h)).hosts x)
    home Zero = record { made = λ n x e. absurd (none-some x e); wire = λ n m e. absurd (none-some m e); inbox = λ n m e. absurd (none-some m e) }
    home One = record { made = λ n x e. absurd (none-some x e); wire = λ n m e. absurd (none-some m e); inbox = λ n m e. absurd (none-some m e) }

-- the ports of an endpoint's number
pub number_ports : (all : List CallDone) (a : Hosts) → Ported all a → (x : Host) (n i : ℕ) (e : Endpoint)
    → owner (pick a x).body n ≡ Some i → slice_get (pick a x).body.endpoints i ≡ Some e
    → HasPorts all x e.lport e.rport n
number_ports all a g x n i e own at = go (lookup (nat_eq n) (pick a x).body.sockets) refl own
  where
    by : (s : Socket) (t : SocketTarget) → s.target ≡ t → Names all x (pick a x).body n t → endpoint_place t ≡ Some i → HasPorts all x e.lport e.rport n
    by s (ListenerAt l) is names place = absurd (none-some i place)
    by s (EndpointAt j) is names place =
        let same : names.0 ≡ e = same_Some names.0 e (sym names.1 ∙ (ap (λ (k : ℕ). slice_get (pick a x).body.endpoints k) (same_Some j i place) ∙ at)) in
        subst (λ (y : Endpoint). HasPorts all x y.lport y.rport n) same names.2

    go : (o : Option Socket) → lookup (nat_eq n) (pick a x).body.sockets ≡ o
        → option_map_or (λ s. endpoint_place s.target) o None ≡ Some i → HasPorts all x e.lport e.rport n
    go None there own = absurd (none-some i own)
    go (Some s) there own = by s s.target refl (g.numbers x n s there) own
