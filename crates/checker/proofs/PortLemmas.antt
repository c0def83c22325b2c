-- What each step keeps of the ports of endpoints and listeners, and of what socket numbers name.
use Rattle.std.proofs.Common.{◌≡◌, ℕ, zero, suc, ◌⊎◌, Bool, true, false, List, [], ◌∷◌, ◌++◌, length, Option, Some}
use Rattle.std.proofs.Common.{None, refl, ap, sym, subst, ◌∙◌, inl, inr, nat_eq, arith}
use Rattle.std.specs.Prelude.{if◌then◌else◌, ◌==◌, ◌&&◌, ◌+◌, not, cond, slice_get}
use Rattle.std.specs.Option.{option_map, option_map_or}
use Rattle.std.specs.Map.{lookup}
use Rattle.std.proofs.lemmas.Option.{none-some, same_Some}
use Rattle.indexmap.specs.IndexMap.{insert_entry}
use Rattle.case_forms.specs.States.{is_closed, is_syn_sent, is_syn_received}
use Rattle.case_forms.specs.declared.calls.Answer.{Answer}
use Rattle.case_forms.specs.declared.calls.Answer.TheVariants as answers
use Rattle.case_forms.specs.declared.calls.Call.{Call}
use Rattle.case_forms.specs.declared.calls.Call.TheVariants as calls
use Rattle.case_forms.specs.declared.calls.Host.{Host}
use Rattle.case_forms.specs.declared.calls.State.TheVariants as states
use Rattle.case_forms.specs.declared.steps.SegmentPlan.{SegmentPlan}
use Rattle.case_forms.specs.declared.steps.TakeChoice.{TakeChoice}
use Rattle.case_forms.specs.declared.taken_line.Expired.{Expired}
use Rattle.case_forms.specs.declared.taken_line.Expired.TheVariants.{Giveup, Msl2, Persist, Pto, Rto}
use Rattle.case_forms.specs.declared.trace.Header.{Header}
use Rattle.verdict.specs.Rules.{first_broken}
use Rattle.verdict.specs.declared.rule.Rule.TheVariants as rules
use Rattle.verdict.proofs.RuleLemmas.{none_all}
use Rattle.streams.specs.Lists.{modify}
use Rattle.streams.proofs.Places.{get_append, all_push, all_modify}
use Rattle.spec_network.specs.Tables.{pick, other, waiting}
use Rattle.spec_network.specs.Hosts.{World, HostStep, Does, Expires, Makes, Sends, Gets, Hears, Takes, Drops, Answers, At}
use Rattle.spec_network.specs.HostRules.{Permitted}
use Rattle.spec_network.specs.HostSteps.{host_step_after}
use Rattle.spec_network.proofs.Entries.{lookup_insert}
use Rattle.window_rules.specs.declared.control.Profile.{Profile}
use Rattle.spec_tcp.specs.Signals.{profile_of}
use Rattle.spec_tcp.specs.declared.endpoint.Emission.{Emission}
use Rattle.spec_tcp.specs.declared.endpoint.Endpoint.{Endpoint}
use Rattle.spec_tcp.specs.declared.endpoint.Listener.{Listener}
use Rattle.spec_tcp.specs.declared.endpoint.EndpointId.{EndpointId}
use Rattle.spec_tcp.specs.declared.endpoint.Socket.{Socket}
use Rattle.spec_tcp.specs.declared.endpoint.SocketTarget.{SocketTarget}
use Rattle.spec_tcp.specs.declared.endpoint.SocketTarget.TheVariants.{ListenerAt, EndpointAt}
use Rattle.spec_tcp.specs.Endpoints.{new_endpoint}
use Rattle.spec_tcp.specs.HostTcp.{HostTcp, has_ports, last_from, place_of, at_ports, listens_on, listener_on}
use Rattle.spec_tcp.specs.HostTcp.{with_endpoint, with_socket, socket_target, if_live, queue_of, dead}
use Rattle.spec_tcp.specs.Calls.Send.{after_send}
use Rattle.spec_tcp.specs.Calls.Receive.{after_recv}
use Rattle.spec_tcp.specs.Calls.Close.{shut_down, after_ending, after_shut, after_close, after_abort, orphaned, target_gone, after_gone, without_listener}
use Rattle.spec_tcp.specs.Calls.Accept.{accepted_from, after_accept}
use Rattle.spec_tcp.specs.Calls.{change, change_target, after_call}
use Rattle.spec_tcp.specs.Makes.{endpoint_made, after_making}
use Rattle.spec_tcp.specs.Heard.{as_read}
use Rattle.spec_tcp.specs.Arrives.OtherStates.Ack.{acknowledges_syn}
use Rattle.spec_tcp.specs.Arrives.OtherStates.Reset.{was_reset}
use Rattle.spec_tcp.specs.Arrives.OtherStates.{taken as segment_taken}
use Rattle.spec_tcp.specs.Arrives.SynSent.{on_syn}
use Rattle.spec_tcp.specs.Arrives.Listen.{listener_rules, child}
use Rattle.spec_tcp.specs.Arrives.{Taker, Nobody, AtListener, AtEndpoint, listener_taker, endpoint_taker, taker}
use Rattle.spec_tcp.specs.Arrives.{taker_rules, endpoint_taken, joined, endpoint_after, after_taking}
use Rattle.spec_tcp.specs.Timeouts.{after_expiry}
use Rattle.spec_tcp.specs.Recovery.{after_recovery}
use Rattle.spec_tcp.specs.Machine.{tcp, tcp_shape}
use Rattle.spec_tcp_laws.specs.Consequences.{find}
use Rattle.spec_tcp_laws.proofs.Rules.{on_passes, on_cases, map_or_cases, not_false, both_true, number_same}
use Rattle.spec_tcp_laws.proofs.Later.{Hosts}
use Rattle.spec_tcp_laws.proofs.Moves.{modify_each, map_onward, map_back}
use Rattle.spec_tcp_laws.proofs.Sound.{Sound, modify_here}
use Rattle.checker.specs.Headline.{CallDone, Stands, HasPorts, Opened, Accepted}

-- an endpoint of this name and these ports is there
abbrev pub HasAt : Hosts → EndpointId → ℕ → ℕ → Type 0
HasAt a q lport rport = (f : Endpoint) × (find a q ≡ Some f) × (f.lport ≡ lport) × (f.rport ≡ rport)

-- the port of the listener at a place
abbrev pub port_at : List Listener → ℕ → Option ℕ
port_at ls l = option_map (λ k. k.port) (slice_get ls l)

-- 1. places by ports

last_has : {X : Type 0} (test : X → Bool) (place : ℕ) (found : Option ℕ) (xs : List X) (P : ℕ → Type 0) → ((i : ℕ) → found ≡ Some i → P i)
    → ((j k : ℕ) (x : X) → place + j ≡ k → slice_get xs j ≡ Some x → test x ≡ true → P k) → (i : ℕ) → last_from test place found xs ≡ Some i → P i
last_has test place found [] P old new i e = old i e
last_has {X} test place found (x ∷ xs) P old new i e =
    last_has test (suc place) (if test x then Some place else found) xs P (first (test x) refl)
    (λ j k y sum at is. new (suc j) k y (omega (arith, sum)) at is) i e
  where
    first : (b : Bool) → test x ≡ b → (k : ℕ) → (if b then Some place else found) ≡ Some k → P k
    first true is k e = let same : place ≡ k = same_Some place k e in new 0 k x (omega (arith, same)) refl is
    first false is k e = old k e

-- the endpoint of ports has them
pub place_ports : (b : HostTcp) (lport rport i : ℕ) (e : Endpoint) → place_of b lport rport ≡ Some i
    → slice_get b.endpoints i ≡ Some e → (e.lport ≡ lport) × (e.rport ≡ rport)
place_ports b lport rport i e at there =
    last_has (has_ports lport rport) 0 None b.endpoints
    (λ k. (y : Endpoint) → slice_get b.endpoints k ≡ Some y → (y.lport ≡ lport) × (y.rport ≡ rport))
    (λ k no. absurd (none-some k no))
    (λ j k x sum here is y same. found j k x sum here (both_true (x.lport == lport) (x.rport == rport) is) y same)
    i at e there
  where
    found : (j k : ℕ) (x : Endpoint) → 0 + j ≡ k → slice_get b.endpoints j ≡ Some x
        → ((x.lport == lport) ≡ true) × ((x.rport == rport) ≡ true) → (y : Endpoint) → slice_get b.endpoints k ≡ Some y
        → (y.lport ≡ lport) × (y.rport ≡ rport)
    found j k x sum here is y same =
        let place : j ≡ k = omega (arith, sum) in
        let one : x ≡ y = same_Some x y (sym here ∙ subst (λ (n : ℕ). slice_get b.endpoints n ≡ Some y) (sym place) same) in (
          subst (λ (z : Endpoint). z.lport ≡ lport) one (number_same x.lport lport is.0),
          subst (λ (z : Endpoint). z.rport ≡ rport) one (number_same x.rport rport is.1),
        )

-- the listener on a port has it
listener_port : (b : HostTcp) (port l : ℕ) → listener_on b port ≡ Some l → port_at b.listeners l ≡ Some port
listener_port b port l at = last_has (listens_on port) 0 None b.listeners (λ k. port_at b.listeners k ≡ Some port)
    (λ k no. absurd (none-some k no)) (λ j k x sum here is. found j k x sum here (both_true x.is_open (x.port == port) is).1) l at
  where
    found : (j k : ℕ) (x : Listener) → 0 + j ≡ k → slice_get b.listeners j ≡ Some x → (x.port == port) ≡ true → port_at b.listeners k ≡ Some port
    found j k x sum here is =
        let place : j ≡ k = omega (arith, sum) in
        let got : port_at b.listeners j ≡ Some x.port = ap (λ (o : Option Listener). option_map (λ y. y.port) o) here in
        subst (λ (n : ℕ). port_at b.listeners n ≡ Some port) place (got ∙ ap (λ (n : ℕ). Some n) (number_same x.port port is))

no_listener : (o : Option ℕ) (i : ℕ) (e : Endpoint) → option_map_or (λ l. AtListener l) o Nobody ≡ AtEndpoint i e → ⊥
no_listener None i e x = cc
no_listener (Some l) i e x = cc

at_listener : (o : Option ℕ) (l : ℕ) → option_map_or (λ k. AtListener k) o Nobody ≡ AtListener l → o ≡ Some l
at_listener None l x = cc
at_listener (Some k) l x = let same : k ≡ l = cc in ap (λ n. Some n) same

-- whom a segment finds has its ports, turned round
pub taker_place : (b : HostTcp) (m : Emission) (i : ℕ) (e : Endpoint) → taker b m ≡ AtEndpoint i e → place_of b m.rport m.lport ≡ Some i
taker_place b m i e x = go (place_of b m.rport m.lport) x
  where
    by : (j : ℕ) (f : Endpoint) (c : Bool) → (if c then listener_taker b m else AtEndpoint j f) ≡ AtEndpoint i e → Some j ≡ Some i
    by j f true x = absurd (no_listener (listener_on b m.rport) i e x)
    by j f false x = let same : j ≡ i = cc in ap (λ n. Some n) same

    inner : (j : ℕ) (o : Option Endpoint)
        → option_map_or (λ f. if is_closed f.state then listener_taker b m else AtEndpoint j f) o (listener_taker b m)
        ≡ AtEndpoint i e → Some j ≡ Some i
    inner j None x = absurd (no_listener (listener_on b m.rport) i e x)
    inner j (Some f) x = by j f (is_closed f.state) x

    go : (p : Option ℕ) → option_map_or (endpoint_taker b m) p (listener_taker b m) ≡ AtEndpoint i e → p ≡ Some i
    go None x = absurd (no_listener (listener_on b m.rport) i e x)
    go (Some j) x = inner j (slice_get b.endpoints j) x

taker_listener : (b : HostTcp) (m : Emission) (l : ℕ) → taker b m ≡ AtListener l → listener_on b m.rport ≡ Some l
taker_listener b m l x = go (place_of b m.rport m.lport) x
  where
    by : (j : ℕ) (f : Endpoint) (c : Bool) → (if c then listener_taker b m else AtEndpoint j f) ≡ AtListener l → listener_on b m.rport ≡ Some l
    by j f true x = at_listener (listener_on b m.rport) l x
    by j f false x = absurd cc

    inner : (j : ℕ) (o : Option Endpoint)
        → option_map_or (λ f. if is_closed f.state then listener_taker b m else AtEndpoint j f) o (listener_taker b m)
        ≡ AtListener l → listener_on b m.rport ≡ Some l
    inner j None x = at_listener (listener_on b m.rport) l x
    inner j (Some f) x = by j f (is_closed f.state) x

    go : (p : Option ℕ) → option_map_or (endpoint_taker b m) p (listener_taker b m) ≡ AtListener l → listener_on b m.rport ≡ Some l
    go None x = at_listener (listener_on b m.rport) l x
    go (Some j) x = inner j (slice_get b.endpoints j) x

-- 2. lists of listeners

port_modify : (ls : List Listener) (l : ℕ) (f : Listener → Listener) → ((k : Listener) → (f k).port ≡ k.port) → (j : ℕ)
    → port_at (modify ls l f) j ≡ port_at ls j
port_modify [] l f same j = refl
port_modify (k ∷ ls) zero f same zero = ap (λ n. Some n) (same k)
port_modify (k ∷ ls) zero f same (suc j) = refl
port_modify (k ∷ ls) (suc l) f same zero = refl
port_modify (k ∷ ls) (suc l) f same (suc j) = port_modify ls l f same j

port_push : (ls : List Listener) (k : Listener) (l port : ℕ) → port_at ls l ≡ Some port → port_at (ls ++ k ∷ []) l ≡ Some port
port_push [] k l port e = absurd (none-some port e)
port_push (x ∷ ls) k zero port e = e
port_push (x ∷ ls) k (suc l) port e = port_push ls k l port e

port_new : (ls : List Listener) (k : Listener) → port_at (ls ++ k ∷ []) (length ls) ≡ Some k.port
port_new [] k = refl
port_new (x ∷ ls) k = port_new ls k

end_new : (es : List Endpoint) (e : Endpoint) → slice_get (es ++ e ∷ []) (length es) ≡ Some e
end_new [] e = refl
end_new (x ∷ es) e = end_new es e

-- 3. endpoints

-- ports stay, and an endpoint stays its listener's or is no listener's any more
pub record SameEnd (e f : Endpoint) : Type 0 where
  pub lport : f.lport ≡ e.lport
  pub rport : f.rport ≡ e.rport
  pub listener : (l : ℕ) → f.listener ≡ Some l → e.listener ≡ Some l

pub same_end : (e : Endpoint) → SameEnd e e
same_end e = record { lport = refl; rport = refl; listener = λ l is. is }

either_end : (b : Bool) (e x y : Endpoint) → SameEnd e x → SameEnd e y → SameEnd e (if b then x else y)
either_end true e x y p q = p
either_end false e x y p q = q

plain_end : (e f : Endpoint) → f.lport ≡ e.lport → f.rport ≡ e.rport → f.listener ≡ e.listener → SameEnd e f
plain_end e f l r same = record { lport = l; rport = r; listener = λ k is. sym same ∙ is }

-- a new endpoint has its listener's port, and its peer the same ports turned round, at the other host
pub record Born (a : Hosts) (x : Host) (c : HostTcp) (f : Endpoint) : Type 0 where
  pub listener : (l : ℕ) → f.listener ≡ Some l → port_at c.listeners l ≡ Some f.lport
  pub peer : (q : EndpointId) → f.stream.peer ≡ Some q → (q.host ≡ other x) × HasAt a q f.rport f.lport

-- what a socket number names has the ports of the call that gave it
abbrev pub Names : List CallDone → Host → HostTcp → ℕ → SocketTarget → Type 0
Names all x c n (EndpointAt i) = (e : Endpoint) × (slice_get c.endpoints i ≡ Some e) × HasPorts all x e.lport e.rport n
Names all x c n (ListenerAt l) = (port : ℕ) × (backlog : ℕ) × (port_at c.listeners l ≡ Some port) × Stands all (calls.Listen x port backlog) (answers.Given n)

-- what a host has after an act
pub record Moved (all : List CallDone) (a : Hosts) (x : Host) (b c : HostTcp) : Type 0 where
  pub ends : (i : ℕ) (e : Endpoint) → slice_get b.endpoints i ≡ Some e → (f : Endpoint) × (slice_get c.endpoints i ≡ Some f) × SameEnd e f
  pub born : (i : ℕ) (f : Endpoint) → slice_get c.endpoints i ≡ Some f → ((e : Endpoint) × (slice_get b.endpoints i ≡ Some e)) ⊎ Born a x c f
  pub listeners : (l port : ℕ) → port_at b.listeners l ≡ Some port → port_at c.listeners l ≡ Some port
  pub sockets : (n : ℕ) (s : Socket) → lookup (nat_eq n) c.sockets ≡ Some s
      → ((t : Socket) × (lookup (nat_eq n) b.sockets ≡ Some t) × (t.target ≡ s.target)) ⊎ Names all x c n s.target

moved_not : (all : List CallDone) (a : Hosts) (x : Host) (b : HostTcp) → Moved all a x b b
moved_not all a x b =
    record {
      ends = λ i e at. (e, at, same_end e);
      born = λ i f at. inl (f, at);
      listeners = λ l port e. e;
      sockets = λ n s e. inl (s, e, refl);
    }

moved_one : (all : List CallDone) (a : Hosts) (x : Host) (b : HostTcp) (i : ℕ) (f : Endpoint → Endpoint)
    → ((e : Endpoint) → SameEnd e (f e)) → Moved all a x b (with_endpoint b i f)
moved_one all a x b i f new = record {
  ends = modify_each (λ j. SameEnd) f b.endpoints i (λ j e at n. same_end e) (λ e at. new e);
  born = all_modify (λ j y. ((e : Endpoint) × (slice_get b.endpoints j ≡ Some e)) ⊎ Born a x (with_endpoint b i f) y) f
      b.endpoints i (λ j e at. inl (e, at)) (λ e at. inl (e, at));
  listeners = λ l port e. e;
  sockets = λ n s e. inl (s, e, refl);
}

moved_at_ports : (all : List CallDone) (a : Hosts) (x : Host) (b : HostTcp) (lport rport : ℕ) (f : Endpoint → Endpoint)
    → ((e : Endpoint) → SameEnd e (f e)) → Moved all a x b (at_ports b lport rport f)
moved_at_ports all a x b lport rport f new =
    map_or_cases (λ (c : HostTcp). Moved all a x b c) (place_of b lport rport) b (λ i. with_endpoint b i f)
    (λ e. moved_not all a x b) (λ i at. moved_one all a x b i f new)

-- 4. what hosts do

expiry_end : (e : Endpoint) (x : Expired) (s : ℕ) → SameEnd e (after_expiry e x s)
expiry_end e (Rto growth) s = plain_end e (after_expiry e (Rto growth) s) refl refl refl
expiry_end e Persist s = plain_end e (after_expiry e Persist s) refl refl refl
expiry_end e Msl2 s = plain_end e (after_expiry e Msl2 s) refl refl refl
expiry_end e Giveup s = plain_end e (after_expiry e Giveup s) refl refl refl
expiry_end e Pto s = plain_end e (after_expiry e Pto s) refl refl refl

making_end : (e : Endpoint) (m : SegmentPlan) (s : ℕ) → SameEnd e (after_making e m s)
making_end e m s =
    either_end m.flags.rst e (record (shut_down (endpoint_made e m s)) { reset_due = false }) (endpoint_made e m s)
    (plain_end e _ refl refl refl) (plain_end e _ refl refl refl)

taken_end : (h : Header) (e : Endpoint) (how : TakeChoice) (r : Emission) (s : ℕ) → SameEnd e (endpoint_taken h e how r s)
taken_end h e how r s =
    either_end r.flags.rst e (was_reset e how s) (if is_syn_sent e.state then on_syn h e how r s else segment_taken h e how r s) (plain_end e _ refl refl refl)
    (either_end (is_syn_sent e.state) e (on_syn h e how r s) (segment_taken h e how r s) (plain_end e _ refl refl refl) (plain_end e _ refl refl refl))

-- a child that joins its listener's queue leaves the ports of listeners
joined_ports : (b : HostTcp) (i : ℕ) (e : Endpoint) (m : Emission) (j : ℕ) → port_at (joined b i e m) j ≡ port_at b.listeners j
joined_ports b i e m j = go (is_syn_received e.state && acknowledges_syn e m) e.listener
  where
    go : (c : Bool) (o : Option ℕ)
        → port_at (if c then option_map_or
        (λ l. modify b.listeners l (λ x. record x { queue = x.queue ++ i ∷ [] })) o b.listeners else b.listeners) j
        ≡ port_at b.listeners j
    go true None = refl
    go true (Some l) = port_modify b.listeners l (λ x. record x { queue = x.queue ++ i ∷ [] }) (λ k. refl) j
    go false o = refl

moved_taking : (all : List CallDone) (a : Hosts) (h : Header) (x : Host) (b : HostTcp) (how : TakeChoice) (m : Emission) (s : ℕ)
    → (m.flags.syn ≡ true → (m.sender.host ≡ other x) × HasAt a m.sender m.lport m.rport) → first_broken (taker_rules h x b how m s (taker b m)) ≡ None
    → Moved all a x b (after_taking h b how m s (taker b m))
moved_taking all a h x b how m s from may = go (taker b m) refl may
  where
    go : (t : Taker) → taker b m ≡ t → first_broken (taker_rules h x b how m s t) ≡ None → Moved all a x b (after_taking h b how m s t)
    go Nobody is may = moved_not all a x b
    go (AtListener l) is may =
        let first = not_false (m.flags.syn && not m.flags.ack && not m.flags.rst) (none_all (listener_rules how m) may).0 in
        let syn = (both_true m.flags.syn (not m.flags.ack) (both_true (m.flags.syn && not m.flags.ack) (not m.flags.rst) first).0).0 in
        record {
          ends = λ i e at. (e, get_append b.endpoints (child (profile_of h) l how m s ∷ []) i e at, same_end e);
          born =
              all_push (λ j y. ((e : Endpoint) × (slice_get b.endpoints j ≡ Some e))
              ⊎ Born a x (after_taking h b how m s (AtListener l)) y) b.endpoints (child (profile_of h) l how m s)
              (λ j e at. inl (e, at))
              (inr (record {
                listener =
                    λ k same. subst (λ j. port_at b.listeners j ≡ Some m.rport) (same_Some l k same)
                    (listener_port b m.rport l (taker_listener b m l is));
                peer = λ q same. subst (λ (n : EndpointId). (n.host ≡ other x) × HasAt a n m.lport m.rport) (same_Some m.sender q same) (from syn);
              }));
          listeners = λ j port e. e;
          sockets = λ n t e. inl (t, e, refl);
        }
    go (AtEndpoint i e) is may = let r = as_read h.version e m in let f : Endpoint → Endpoint = λ y. endpoint_taken h y how r s in
        record {
          ends = modify_each (λ j. SameEnd) f b.endpoints i (λ j y at n. same_end y) (λ y at. taken_end h y how r s);
          born = all_modify (λ j y. ((z : Endpoint) × (slice_get b.endpoints j ≡ Some z))
              ⊎ Born a x (endpoint_after h b how r s i e) y) f b.endpoints i (λ j y at. inl (y, at))
              (λ y at. inl (y, at));
          listeners = λ l port at. joined_ports b i e r l ∙ at;
          sockets = λ n t e. inl (t, e, refl);
        }

pub moved_host_step : (all : List CallDone) (h : Header) (s : ℕ) (w : World tcp_shape) (host : Host) (d : HostStep tcp_shape)
    → ((n : ℕ) (m : Emission) → waiting n (pick w.hosts host).inbox ≡ Some m → m.flags.syn ≡ true
    → (m.sender.host ≡ other host) × HasAt w.hosts m.sender m.lport m.rport) → Permitted (tcp h) s w (At host d)
    → Moved all w.hosts host (pick w.hosts host).body (host_step_after (tcp h) host s (suc w.count) (pick w.hosts (other host)).wire (pick w.hosts host) d).body
moved_host_step all h s w host (Does x) from may =
    moved_at_ports all w.hosts host (pick w.hosts host).body x.lport x.rport (λ e. after_recovery e x.change x.cwnd x.ssthresh s)
    (λ e. plain_end e (after_recovery e x.change x.cwnd x.ssthresh s) refl refl refl)
moved_host_step all h s w host (Expires line x) from may =
    moved_at_ports all w.hosts host (pick w.hosts host).body x.lport x.rport (λ e. after_expiry e x.expired s)
    (λ e. expiry_end e x.expired s)
moved_host_step all h s w host (Makes m) from may =
    moved_at_ports all w.hosts host (pick w.hosts host).body m.lport m.rport (λ e. after_making e m s)
    (λ e. making_end e m s)
moved_host_step all h s w host (Sends line number wire) from may = moved_not all w.hosts host (pick w.hosts host).body
moved_host_step all h s w host (Gets line copied wire) from may = moved_not all w.hosts host (pick w.hosts host).body
moved_host_step all h s w host (Hears line wire) from may = moved_not all w.hosts host (pick w.hosts host).body
moved_host_step all h s w host (Takes line how) from may = let k = pick w.hosts host in
    on_cases (λ (c : HostTcp). Moved all w.hosts host k.body c) (waiting line k.inbox) k.body _ (moved_not all w.hosts host k.body)
    (λ m e.
    let t = on_passes (waiting line k.inbox) rules.Inbox (λ x. taker_rules h host k.body how x s (taker k.body x)) may in
    let one : t.0 ≡ m = same_Some t.0 m (sym t.1 ∙ e) in
    moved_taking all w.hosts h host k.body how m s (from line m e)
    (subst (λ (x : Emission). first_broken (taker_rules h host k.body how x s (taker k.body x)) ≡ None) one t.2))
moved_host_step all h s w host (Drops line) from may = moved_not all w.hosts host (pick w.hosts host).body
moved_host_step all h s w host (Answers line) from may = let k = pick w.hosts host in
    on_cases (λ (c : HostTcp). Moved all w.hosts host k.body c) (waiting line k.inbox) k.body _
    (moved_not all w.hosts host k.body) (λ m e. moved_not all w.hosts host k.body)

-- 5. calls

-- what stands in the table of socket numbers after one is given, and after one is closed
socket_insert : (sockets : List (ℕ × Socket)) (n : ℕ) (v : Socket) (m : ℕ) (s : Socket)
    → lookup (nat_eq m) (insert_entry nat_eq sockets n v) ≡ Some s
    → (lookup (nat_eq m) sockets ≡ Some s) ⊎ ((n ≡ m) × (v ≡ s))
socket_insert sockets n v m s e = go (nat_eq m n) refl (sym (lookup_insert m n v sockets) ∙ e)
  where
    go : (c : Bool) → nat_eq m n ≡ c → cond c (Some v) (lookup (nat_eq m) sockets) ≡ Some s → (lookup (nat_eq m) sockets ≡ Some s) ⊎ ((n ≡ m) × (v ≡ s))
    go true is e = inr (sym (number_same m n is), same_Some v s e)
    go false is e = inl e

socket_dead : (b : HostTcp) (n m : ℕ) (s : Socket) → lookup (nat_eq m) (dead b.sockets n) ≡ Some s
    → (t : Socket) × (lookup (nat_eq m) b.sockets ≡ Some t) × (t.target ≡ s.target)
socket_dead b n m s = go (lookup (nat_eq n) b.sockets) refl
  where
    by : (v : Socket) → lookup (nat_eq n) b.sockets ≡ Some v
        → (lookup (nat_eq m) b.sockets ≡ Some s) ⊎ ((n ≡ m) × (record v { live = false } ≡ s))
        → (t : Socket) × (lookup (nat_eq m) b.sockets ≡ Some t) × (t.target ≡ s.target)
    by v at (inl old) = (s, old, refl)
    by v at (inr one) = (v, subst (λ k. lookup (nat_eq k) b.sockets ≡ Some v) one.0 at, ap (λ (x : Socket). x.target) one.1)

    go : (o : Option Socket) → lookup (nat_eq n) b.sockets ≡ o
        → lookup (nat_eq m) (option_map_or
        (λ v. insert_entry nat_eq b.sockets n (record v { live = false })) o b.sockets) ≡ Some s
        → (t : Socket) × (lookup (nat_eq m) b.sockets ≡ Some t) × (t.target ≡ s.target)
    go None at e = (s, e, refl)
    go (Some v) at e = by v at (socket_insert b.sockets n (record v { live = false }) m s e)

-- what a live number names
target_here : (b : HostTcp) (n : ℕ) (target : SocketTarget) → socket_target b n ≡ Some target
    → (s : Socket) × (lookup (nat_eq n) b.sockets ≡ Some s) × (s.target ≡ target)
target_here b n target = go (lookup (nat_eq n) b.sockets) refl
  where
    by : (s : Socket) (c : Bool) → lookup (nat_eq n) b.sockets ≡ Some s
        → (if c then Some s.target else None) ≡ Some target
        → (t : Socket) × (lookup (nat_eq n) b.sockets ≡ Some t) × (t.target ≡ target)
    by s true at e = (s, at, same_Some s.target target e)
    by s false at e = absurd (none-some target e)

    go : (o : Option Socket) → lookup (nat_eq n) b.sockets ≡ o → option_map_or if_live o None ≡ Some target
        → (t : Socket) × (lookup (nat_eq n) b.sockets ≡ Some t) × (t.target ≡ target)
    go None at e = absurd (none-some target e)
    go (Some s) at e = by s s.live at e

-- a number is given to a thing whose name is right
with_new : (all : List CallDone) (a : Hosts) (x : Host) (b c : HostTcp) (n : ℕ) (target : SocketTarget)
    → Moved all a x b c → c.sockets ≡ b.sockets → Names all x c n target → Moved all a x b (with_socket c n target)
with_new all a x b c n target g same names = record {
  ends = g.ends;
  born = λ i f at. again f (g.born i f at);
  listeners = g.listeners;
  sockets = λ m s e. by m s (socket_insert c.sockets n (record { target = target; live = true }) m s e);
}
  where
    again : {P : Type 0} (f : Endpoint) → P ⊎ Born a x c f → P ⊎ Born a x (with_socket c n target) f
    again f (inl old) = inl old
    again f (inr new) = inr (record { listener = new.listener; peer = new.peer })

    same_names : (t : SocketTarget) → Names all x c n t → Names all x (with_socket c n target) n t
    same_names (EndpointAt i) y = y
    same_names (ListenerAt l) y = y

    by : (m : ℕ) (s : Socket)
        → (lookup (nat_eq m) c.sockets ≡ Some s) ⊎ ((n ≡ m) × (record { target = target; live = true } ≡ s))
        → ((t : Socket) × (lookup (nat_eq m) b.sockets ≡ Some t) × (t.target ≡ s.target))
        ⊎ Names all x (with_socket c n target) m s.target
    by m s (inl old) = inl (s, subst (λ (l : List (ℕ × Socket)). lookup (nat_eq m) l ≡ Some s) same old, refl)
    by m s (inr one) =
        inr (subst (λ k. Names all x (with_socket c n target) k s.target) one.0
        (subst (λ (t : SocketTarget). Names all x (with_socket c n target) n t) (ap (λ (y : Socket). y.target) one.1)
        (same_names target names)))

moved_change : (all : List CallDone) (a : Hosts) (x : Host) (b : HostTcp) (n : ℕ) (f : Endpoint → Endpoint)
    → ((e : Endpoint) → SameEnd e (f e)) → Moved all a x b (change b n f)
moved_change all a x b n f new =
    map_or_cases (λ (c : HostTcp). Moved all a x b c) (socket_target b n) b (change_target b f) (λ e. moved_not all a x b)
    (λ target e. go target)
  where
    go : (target : SocketTarget) → Moved all a x b (change_target b f target)
    go (ListenerAt l) = moved_not all a x b
    go (EndpointAt i) = moved_one all a x b i f new

moved_dead : (all : List CallDone) (a : Hosts) (x : Host) (b c : HostTcp) (n : ℕ) → Moved all a x b c
    → c.sockets ≡ b.sockets → Moved all a x b (record c { sockets = dead b.sockets n })
moved_dead all a x b c n g same = record {
  ends = g.ends;
  born = λ i f at. again f (g.born i f at);
  listeners = g.listeners;
  sockets = λ m s e. inl (socket_dead b n m s e);
}
  where
    again : {P : Type 0} (f : Endpoint) → P ⊎ Born a x c f → P ⊎ Born a x (record c { sockets = dead b.sockets n }) f
    again f (inl old) = inl old
    again f (inr new) = inr (record { listener = new.listener; peer = new.peer })

moved_map : (all : List CallDone) (a : Hosts) (x : Host) (b : HostTcp) (l : ℕ) → Moved all a x b (without_listener b l)
moved_map all a x b l = record {
  ends = map_onward (λ j. SameEnd) (orphaned l) b.endpoints
      (λ j e at. either_end (option_map_or (λ holder. holder == l) e.listener false) e (after_abort e) e
      (plain_end e (after_abort e) refl refl refl) (same_end e));
  born = λ j y e. let h = map_back (orphaned l) b.endpoints j y e in inl (h.0, h.1);
  listeners = λ k port e. port_modify b.listeners l (λ y. record y { is_open = false }) (λ y. refl) k ∙ e;
  sockets = λ n s e. inl (s, e, refl);
}

moved_shut : (all : List CallDone) (a : Hosts) (x : Host) (b : HostTcp) (n : ℕ) (f : Endpoint → Endpoint)
    → ((e : Endpoint) → SameEnd e (f e)) → Moved all a x b (after_gone b n f b.sockets)
moved_shut all a x b n f new =
    map_or_cases (λ (c : HostTcp). Moved all a x b c) (socket_target b n) b
    (λ target. record (target_gone b target f) { sockets = b.sockets }) (λ e. moved_not all a x b)
    (λ target e. go target)
  where
    go : (target : SocketTarget) → Moved all a x b (record (target_gone b target f) { sockets = b.sockets })
    go (ListenerAt l) = moved_map all a x b l
    go (EndpointAt i) = moved_one all a x b i f new

moved_gone : (all : List CallDone) (a : Hosts) (x : Host) (b : HostTcp) (n : ℕ) (f : Endpoint → Endpoint)
    → ((e : Endpoint) → SameEnd e (f e)) → Moved all a x b (after_gone b n f (dead b.sockets n))
moved_gone all a x b n f new =
    map_or_cases (λ (c : HostTcp). Moved all a x b c) (socket_target b n) b
    (λ target. record (target_gone b target f) { sockets = dead b.sockets n }) (λ e. moved_not all a x b)
    (λ target e. go target)
  where
    go : (target : SocketTarget) → Moved all a x b (record (target_gone b target f) { sockets = dead b.sockets n })
    go (ListenerAt l) = moved_dead all a x b (without_listener b l) n (moved_map all a x b l) refl
    go (EndpointAt i) = moved_dead all a x b (with_endpoint b i f) n (moved_one all a x b i f new) refl

shut_end : (e : Endpoint) → SameEnd e (after_shut e)
shut_end e = go (is_syn_sent e.state)
  where
    go : (b : Bool) → SameEnd e (if b then shut_down (record e { stream = record e.stream { ended = true } }) else after_ending e)
    go true = plain_end e _ refl refl refl
    go false = plain_end e _ refl refl refl

close_end : (e : Endpoint) → SameEnd e (after_close e)
close_end e = go (is_syn_sent e.state)
  where
    go : (b : Bool) → SameEnd e (record (if b then shut_down (record e { stream = record e.stream { ended = true } }) else after_ending e) { closed = true })
    go true = plain_end e _ refl refl refl
    go false = plain_end e _ refl refl refl

-- what is known of a host before a call
pub record Known (all : List CallDone) (x : Host) (b : HostTcp) : Type 0 where
  pub sound : Sound b
  pub numbers : (n : ℕ) (s : Socket) → lookup (nat_eq n) b.sockets ≡ Some s → Names all x b n s.target
  pub children : (i : ℕ) (e : Endpoint) (l : ℕ) → slice_get b.endpoints i ≡ Some e → e.listener ≡ Some l → port_at b.listeners l ≡ Some e.lport

moved_accept : (all : List CallDone) (a : Hosts) (x : Host) (b : HostTcp) (h n : ℕ) → Known all x b
    → Stands all (calls.Accept h) (answers.Given n) → (target : SocketTarget) → socket_target b h ≡ Some target
    → Moved all a x b (after_accept b n target)
moved_accept all a x b h n known stands (EndpointAt i) is = moved_not all a x b
moved_accept all a x b h n known stands (ListenerAt l) is = go (queue_of b l) refl
  where
    go : (queue : List ℕ) → queue_of b l ≡ queue → Moved all a x b (accepted_from b l n queue)
    go [] at = moved_not all a x b
    go (c ∷ queue) at = with_new all a x b wide n (EndpointAt c) (record {
      ends = modify_each (λ j. SameEnd) free b.endpoints c (λ j e there no. same_end e)
          (λ e there. record { lport = refl; rport = refl; listener = λ k no. absurd (none-some k no) });
      born = all_modify (λ j y. ((e : Endpoint) × (slice_get b.endpoints j ≡ Some e)) ⊎ Born a x wide y) free
          b.endpoints c (λ j e there. inl (e, there)) (λ e there. inl (e, there));
      listeners = λ k port e. port_modify b.listeners l (λ y. record y { queue = queue }) (λ y. refl) k ∙ e;
      sockets = λ m s e. inl (s, e, refl);
    }) refl (
      free e,
      modify_here free b.endpoints c e first.1,
      Accepted x e.lport e.rport listening.1 h n
          (subst (λ port. Stands all (calls.Listen x port listening.1) (answers.Given h)) port listening.3) stands,
    )
      where
        free : Endpoint → Endpoint
        free e = record e { listener = None }

        wide : HostTcp
        wide = record b { endpoints = modify b.endpoints c free; listeners = modify b.listeners l (λ y. record y { queue = queue }) }

        first : (e : Endpoint) × (slice_get b.endpoints c ≡ Some e) × (e.listener ≡ Some l)
        first = let q = known.sound.queued l 0 c (ap (λ (k : List ℕ). slice_get k 0) at) in (q.0, q.1, q.2)

        e : Endpoint
        e = first.0

        listening : Names all x b h (ListenerAt l)
        listening = let s = target_here b h (ListenerAt l) is in subst (λ (t : SocketTarget). Names all x b h t) s.2 (known.numbers h s.0 s.1)

        port : listening.0 ≡ e.lport
        port = same_Some listening.0 e.lport (sym listening.2 ∙ known.children c e l first.1 first.2)

pub moved_call : (p : Profile) (all : List CallDone) (a : Hosts) (x : Host) (b : HostTcp) (call : Call)
    (answer : Answer) → Known all x b → Stands all call answer
    → ((at : Host) (port backlog : ℕ) → call ≡ calls.Listen at port backlog → at ≡ x)
    → ((at : Host) (lport rport : ℕ) → call ≡ calls.Connect at lport rport → at ≡ x)
    → Moved all a x b (after_call p b call answer)
moved_call p all a x b (calls.Listen at port backlog) (answers.Given n) known stands listens opens =
    let k : Listener = record { port = port; backlog = backlog; is_open = true; queue = [] } in
    with_new all a x b (record b { listeners = b.listeners ++ k ∷ [] }) n (ListenerAt (length b.listeners))
    (record {
      ends = λ i e there. (e, there, same_end e);
      born = λ i f there. inl (f, there);
      listeners = λ l p e. port_push b.listeners k l p e;
      sockets = λ m s e. inl (s, e, refl);
    }) refl (
      port,
      backlog,
      port_new b.listeners k,
      subst (λ (y : Host). Stands all (calls.Listen y port backlog) (answers.Given n))
          (listens at port backlog refl) stands,
    )
moved_call p all a x b (calls.Connect at lport rport) (answers.Given n) known stands listens opens =
    let e : Endpoint = new_endpoint lport rport None states.SynSent p in
    with_new all a x b (record b { endpoints = b.endpoints ++ e ∷ [] }) n (EndpointAt (length b.endpoints))
    (record {
      ends = λ i y there. (y, get_append b.endpoints (e ∷ []) i y there, same_end y);
      born = all_push (λ j y. ((z : Endpoint) × (slice_get b.endpoints j ≡ Some z))
          ⊎ Born a x (record b { endpoints = b.endpoints ++ e ∷ [] }) y) b.endpoints e (λ j y there. inl (y, there))
          (inr (record { listener = λ l no. absurd (none-some l no); peer = λ q no. absurd (none-some q no) }));
      listeners = λ l p at. at;
      sockets = λ m s at. inl (s, at, refl);
    }) refl (
      e,
      end_new b.endpoints e,
      Opened x lport rport n
          (subst (λ (y : Host). Stands all (calls.Connect y lport rport) (answers.Given n))
          (opens at lport rport refl) stands),
    )
moved_call p all a x b (calls.Accept h) (answers.Given n) known stands listens opens =
    map_or_cases (λ (c : HostTcp). Moved all a x b c) (socket_target b h) b (after_accept b n) (λ e. moved_not all a x b)
    (λ target e. moved_accept all a x b h n known stands target e)
moved_call p all a x b (calls.Send h bytes) (answers.Given n) known stands listens opens =
    moved_change all a x b h (after_send bytes n) (λ e. plain_end e (after_send bytes n e) refl refl refl)
moved_call p all a x b (calls.Recv h most) (answers.Bytes bytes) known stands listens opens =
    moved_change all a x b h (after_recv bytes) (λ e. plain_end e (after_recv bytes e) refl refl refl)
moved_call p all a x b (calls.Shut h) answers.Done known stands listens opens = moved_shut all a x b h after_shut shut_end
moved_call p all a x b (calls.Close h) answers.Done known stands listens opens = moved_gone all a x b h after_close close_end
moved_call p all a x b (calls.Abort h) answers.Done known stands listens opens =
    moved_gone all a x b h after_abort (λ e. plain_end e (after_abort e) refl refl refl)
moved_call p all a x b call answer known stands listens opens = moved_not all a x b
