-- A call: what its answer says, and what the endpoints of the host become.
use Rattle.std.proofs.Common.{◌≡◌, ℕ, zero, suc, Bool, true, false, List, [], ◌∷◌, ◌++◌, length, take, Option, Some}
use Rattle.std.proofs.Common.{None, refl, ap, sym, subst, ◌∙◌, inl, arith, nat_eq}
use Rattle.std.specs.Prelude.{if◌then◌else◌, ◌==◌, ◌&&◌, ◌||◌, nat_le, slice_get, is_some}
use Rattle.std.specs.Option.{option_map_or}
use Rattle.std.specs.Map.{lookup}
use Rattle.std.proofs.Math.Nat.{le_refl}
use Rattle.std.proofs.lemmas.List.{append-nil}
use Rattle.std.proofs.lemmas.Option.{none-some, same_Some}
use Rattle.case_forms.specs.Versions.{says_sender}
use Rattle.case_forms.specs.declared.version.Version.{Version}
use Rattle.case_forms.specs.declared.calls.Host.{Host}
use Rattle.case_forms.specs.declared.calls.Host.TheVariants.{Zero, One}
use Rattle.case_forms.specs.declared.calls.Call.{Call}
use Rattle.case_forms.specs.declared.calls.Call.TheVariants as calls
use Rattle.case_forms.specs.declared.calls.Answer.{Answer}
use Rattle.case_forms.specs.declared.calls.Answer.TheVariants as answers
use Rattle.case_forms.specs.declared.calls.State.{State}
use Rattle.case_forms.specs.declared.calls.State.TheVariants as states
use Rattle.streams.specs.Cells.{body}
use Rattle.streams.specs.Lists.{Within, modify}
use Rattle.streams.specs.Received.{received, starts, waiting}
use Rattle.streams.proofs.Fronts.{body_grows, body_ends}
use Rattle.streams.proofs.ReadLemmas.{starts_prefix}
use Rattle.spec_network.specs.Tables.{pick, other}
use Rattle.window_rules.specs.declared.control.Profile.{Profile}
use Rattle.spec_tcp.specs.declared.endpoint.EndpointId.{EndpointId}
use Rattle.spec_tcp.specs.declared.endpoint.Fault.{Fault}
use Rattle.spec_tcp.specs.declared.endpoint.Stream.{Stream}
use Rattle.spec_tcp.specs.declared.endpoint.Endpoint.{Endpoint}
use Rattle.spec_tcp.specs.declared.endpoint.SocketTarget.{SocketTarget}
use Rattle.spec_tcp.specs.declared.endpoint.Socket.{Socket}
use Rattle.spec_tcp.specs.declared.endpoint.Fault.TheVariants.{Refused, Reset, Timeout}
use Rattle.spec_tcp.specs.declared.endpoint.SocketTarget.TheVariants.{ListenerAt, EndpointAt}
use Rattle.spec_tcp.specs.Endpoints.{new_endpoint}
use Rattle.spec_tcp.specs.HostTcp.{HostTcp, given, has_ended, if_live, socket_target, queue_of, dead}
use Rattle.case_forms.specs.States.{is_syn_sent}
use Rattle.spec_tcp.specs.Calls.Await.{tells}
use Rattle.spec_tcp.specs.Calls.Send.{send_allows, open_send_allows, after_send}
use Rattle.spec_tcp.specs.Calls.Accept.{ended_allows, listener_allows, open_allows, accepted_from, after_accept}
use Rattle.spec_tcp.specs.Calls.{is_bad_socket, endpoint_allows, target_allows, socket_allows, call_allows, change_target, after_call}
use Rattle.spec_tcp.specs.Calls.Receive.{after_recv}
use Rattle.spec_tcp.specs.Calls.Close.{shut_down, ended_state, after_ending, after_shut, after_close, after_abort, orphaned, without_listener, target_gone}
use Rattle.spec_tcp_laws.specs.Runs.{endpoint_place, owner, is_socket_of, call_accepted, call_ended}
use Rattle.spec_tcp_laws.proofs.Rules.{map_or_cases, both_true, number_same, number_self, is_not}
use Rattle.spec_tcp_laws.proofs.Later.{Hosts, name, all_cells, Later}
use Rattle.spec_tcp_laws.proofs.Moves.{KeepsPeer, Fresh, GoodEnds, Moves, moves_not, moves_keeps, moves_map, moves_push}
use Rattle.streams.specs.declared.cell.Cell.{Cell}
use Rattle.spec_tcp_laws.proofs.Grows.{Added, nothing, Adds, adds_nothing, silent, plain_keeps, Own, Stays, Gains}
use Rattle.spec_tcp_laws.proofs.Grows.{Grows, Bare, Plain, plain_same, plain_either, own_sends, waiting_own, Coming}
use Rattle.spec_tcp_laws.proofs.Grows.{OwnEnds, Grown, grown_not, grown_one, grown_plain, grown_map, grown_push}
use Rattle.spec_tcp_laws.proofs.Reading.{read_fits, read_more}

-- 1. socket numbers

-- the bytes that a call told the reads of an endpoint
abbrev pub name_told : Hosts → Call → Answer → EndpointId → List ℕ
name_told hosts (calls.Recv n most) (answers.Bytes bytes) me = if is_socket_of hosts n me then bytes else []
name_told hosts _ _ me = []

-- what a call adds to an endpoint
abbrev pub call_adds : Hosts → Call → Answer → EndpointId → Added
call_adds hosts call answer me =
    record {
      told = name_told hosts call answer me;
      accepted = call_accepted hosts call answer me;
      ended = call_ended hosts call answer me;
    }

-- no socket number was given by both hosts
abbrev pub Apart : Hosts → Type 0
Apart hosts = (n : ℕ) → given hosts.zero.body n ≡ true → given hosts.one.body n ≡ true → ⊥

not_given : (b : HostTcp) (n : ℕ) → (given b n ≡ true → ⊥) → owner b n ≡ None
not_given b n h = go (lookup (nat_eq n) b.sockets) h
  where
    go : (o : Option Socket) → (is_some o ≡ true → ⊥) → option_map_or (λ s. endpoint_place s.target) o None ≡ None
    go None = λ h. refl
    go (Some s) = λ h. absurd (h refl)

-- what one host gave the other host has not
pub owner_elsewhere : (a : Hosts) (host : Host) (n : ℕ) → Apart a → given (pick a host).body n ≡ true → owner (pick a (other host)).body n ≡ None
owner_elsewhere a Zero n apart g = not_given a.one.body n (λ h. apart n g h)
owner_elsewhere a One n apart g = not_given a.zero.body n (λ h. apart n h g)

-- what a live socket number names is what it was given to
pub owner_of : (b : HostTcp) (n : ℕ) (target : SocketTarget) → socket_target b n ≡ Some target → (owner b n ≡ endpoint_place target) × (given b n ≡ true)
owner_of b n target e = go (lookup (nat_eq n) b.sockets) e
  where
    by : (s : Socket) (live : Bool) → (if live then Some s.target else None) ≡ Some target → endpoint_place s.target ≡ endpoint_place target
    by s true e = ap endpoint_place (same_Some s.target target e)
    by s false e = absurd (none-some target e)

    go : (o : Option Socket) → option_map_or if_live o None ≡ Some target
        → (option_map_or (λ s. endpoint_place s.target) o None ≡ endpoint_place target) × (is_some o ≡ true)
    go None e = absurd (none-some target e)
    go (Some s) e = (by s s.live e, refl)

pub socket_here : (a : Hosts) (host : Host) (n i : ℕ) → owner (pick a host).body n ≡ Some i → is_socket_of a n (name host i) ≡ true
socket_here a host n i e = ap (λ (o : Option ℕ). option_map_or (λ k. k == i) o false) e ∙ number_self i i refl

socket_other : (a : Hosts) (host : Host) (n i j : ℕ) → owner (pick a host).body n ≡ Some i → (j ≡ i → ⊥) → is_socket_of a n (name host j) ≡ false
socket_other a host n i j e h = ap (λ (o : Option ℕ). option_map_or (λ k. k == j) o false) e ∙ is_not (i == j) (λ x. h (sym (number_same i j x)))

pub socket_none : (a : Hosts) (host : Host) (n i : ℕ) → owner (pick a host).body n ≡ None → is_socket_of a n (name host i) ≡ false
socket_none a host n i e = ap (λ (o : Option ℕ). option_map_or (λ k. k == i) o false) e

-- neither an ended listener allows the answer, nor an open one
refuses : (v : Version) (ended : Bool) (queue : List ℕ) (call : Call) (answer : Answer) → ended_allows call answer ≡ false
    → open_allows v queue call answer ≡ false → listener_allows v ended queue call answer ≡ false
refuses v ended queue call answer over open' = by (says_sender v && ended)
  where
    by : (b : Bool) → (if b then ended_allows call answer else open_allows v queue call answer) ≡ false
    by true = over
    by false = open'

-- a socket number names an endpoint that allows the answer
pub named : (v : Version) (b : HostTcp) (n : ℕ) (call : Call) (answer : Answer) → socket_allows v b n call answer ≡ true
    → is_bad_socket answer ≡ false → ended_allows call answer ≡ false → ((queue : List ℕ) → open_allows v queue call answer ≡ false)
    → (i : ℕ) × (socket_target b n ≡ Some (EndpointAt i)) × (e : Endpoint) × (slice_get b.endpoints i ≡ Some e) × (endpoint_allows v e call answer ≡ true)
named v b n call answer may good over refused = go (socket_target b n) refl may
  where
    there : (i : ℕ) (o : Option Endpoint) → slice_get b.endpoints i ≡ o
        → option_map_or (λ e. endpoint_allows v e call answer) o false ≡ true
        → (e : Endpoint) × (slice_get b.endpoints i ≡ Some e) × (endpoint_allows v e call answer ≡ true)
    there i None at may = absurd cc
    there i (Some e) at may = (e, at, may)

    go : (o : Option SocketTarget) → socket_target b n ≡ o → option_map_or (target_allows v b call answer) o (is_bad_socket answer) ≡ true
        → (i : ℕ) × (socket_target b n ≡ Some (EndpointAt i)) × (e : Endpoint) × (slice_get b.endpoints i ≡ Some e) × (endpoint_allows v e call answer ≡ true)
    go None is may = absurd cc
    go (Some (ListenerAt l)) is may = absurd (let x = refuses v (has_ended b l) (queue_of b l) call answer over (refused (queue_of b l)) in cc)
    go (Some (EndpointAt i)) is may = let x = there i (slice_get b.endpoints i) refl may in (i, is, x.0, x.1, x.2)

-- 2. what a call changes

-- bytes are accepted only where sending was not ended
send_open : (v : Version) (e : Endpoint) (bytes : List ℕ) (n : ℕ) → send_allows v e bytes (answers.Given n) ≡ true → e.stream.ended ≡ false
send_open v e bytes n may = go e.fault e.stream.ended may
  where
    none : (b : Bool) → (false || (b && false)) ≡ true → ⊥
    none true is = absurd cc
    none false is = absurd cc

    go : (fault : Option Fault) (ended : Bool)
        → (if is_some fault then option_map_or (λ x. tells x (answers.Given n)) fault false || ((says_sender v || ended) && false)
        else if ended then false else open_send_allows e.state bytes (answers.Given n)) ≡ true → ended ≡ false
    go fault false may = refl
    go None true may = absurd cc
    go (Some Refused) true may = absurd (none (says_sender v || true) may)
    go (Some Reset) true may = absurd (none (says_sender v || true) may)
    go (Some Timeout) true may = absurd (none (says_sender v || true) may)

accept_later : (s : Stream) (bytes : List ℕ) → s.ended ≡ false → Later s (record s { accepted = s.accepted ++ bytes })
accept_later s bytes open' = record { peer = λ q p. p; cells = grown; next = le_refl _; told = ([], append-nil (received s.receive)) }
  where
    grown : Within (all_cells s) (all_cells (record s { accepted = s.accepted ++ bytes }))
    grown zero c e = e
    grown (suc p) c e = body_grows s.accepted bytes s.ended p c (subst (λ b. slice_get (body s.accepted b) p ≡ Some c) open' e)

ended_later : (s : Stream) → Later s (record s { ended = true })
ended_later s = record { peer = λ q p. p; cells = grown; next = le_refl _; told = ([], append-nil (received s.receive)) }
  where
    grown : Within (all_cells s) (all_cells (record s { ended = true }))
    grown zero c e = e
    grown (suc p) c e = body_ends s.accepted s.ended p c e

or_true : (b : Bool) → (b || true) ≡ true
or_true true = refl
or_true false = refl

shut_waits : (st : State) → is_syn_sent (ended_state st) ≡ true → is_syn_sent st ≡ true
shut_waits states.Established x = absurd cc
shut_waits states.CloseWait x = absurd cc
shut_waits states.Closed x = x
shut_waits states.Listen x = x
shut_waits states.SynSent x = x
shut_waits states.SynReceived x = x
shut_waits states.FinWait1 x = x
shut_waits states.FinWait2 x = x
shut_waits states.Closing x = x
shut_waits states.LastAck x = x
shut_waits states.TimeWait x = x

-- 3. endpoints by themselves

grown_quiet : (comes : Coming) (host : Host) (adds : ℕ → Added) (es fs : List Endpoint) → ((i : ℕ) → adds i ≡ nothing)
    → Grown comes host silent es fs → Grown comes host adds es fs
grown_quiet comes host adds es fs quiet m = record {
  onward = λ i e at. let h = m.onward i e at in (h.0, h.1, subst (λ (x : Added). Grows (comes (name host i)) x e h.0) (sym (quiet i)) h.2);
  back = m.back;
}

grown_socket : (comes : Coming) (a : Hosts) (host : Host) (n i : ℕ) (f : Endpoint → Endpoint) (F : Bool → Added)
    → F false ≡ nothing → owner (pick a host).body n ≡ Some i → OwnEnds (pick a host).body.endpoints
    → ((e : Endpoint) → slice_get (pick a host).body.endpoints i ≡ Some e → Grows (comes (name host i)) (F true) e (f e))
    → Grown comes host (λ j. F (is_socket_of a n (name host j))) (pick a host).body.endpoints (modify (pick a host).body.endpoints i f)
grown_socket comes a host n i f F none own g new = grown_one comes host (λ j. F (is_socket_of a n (name host j))) (pick a host).body.endpoints i f g
    (λ j h. ap F (socket_other a host n i j own h) ∙ none)
    (λ e at. subst (λ b. Grows (comes (name host i)) (F b) e (f e)) (sym (socket_here a host n i own)) (new e at))

grows_send : (comes : ℕ → Cell → Type 0) (e : Endpoint) (bytes : List ℕ) (n : ℕ) → Own e → e.stream.ended ≡ false
    → Grows comes (record { told = []; accepted = take n bytes; ended = false }) e (after_send bytes n e)
grows_send comes e bytes n g open' = record {
  own = own_sends e (after_send bytes n e) (e.stream.accepted ++ take n bytes) e.stream.ended g refl refl (λ x. x);
  later = accept_later e.stream (take n bytes) open';
  adds = record { told = append-nil (received e.stream.receive); accepted = refl; ended = (adds_nothing e.stream).ended };
  stays = λ p c x. x;
  gains = λ p c x some. inl x;
}

-- sending is ended
grows_ended : (comes : ℕ → Cell → Type 0) (e f : Endpoint) → Own e → f.stream ≡ record e.stream { ended = true }
    → f.irs ≡ e.irs → (is_syn_sent f.state ≡ true → is_syn_sent e.state ≡ true)
    → Grows comes (record { told = []; accepted = []; ended = true }) e f
grows_ended comes e f g is irs waits = record {
  own = own_sends e f e.stream.accepted true g is irs waits;
  later = subst (λ (s : Stream). Later e.stream s) (sym is) (ended_later e.stream);
  adds = subst (λ (s : Stream). Adds (record { told = []; accepted = []; ended = true }) e.stream s) (sym is)
      (record {
        told = append-nil (received e.stream.receive);
        accepted = append-nil e.stream.accepted;
        ended = or_true e.stream.ended;
      });
  stays = subst (λ (s : Stream). Stays e.stream s) (sym is) (λ p c x. x);
  gains = subst (λ (s : Stream). Gains comes e.stream s) (sym is) (λ p c x some. inl x);
}

grows_shut : (comes : ℕ → Cell → Type 0) (e : Endpoint) → Own e → Grows comes (record { told = []; accepted = []; ended = true }) e (after_shut e)
grows_shut comes e g = go (is_syn_sent e.state) refl
  where
    go : (b : Bool) → is_syn_sent e.state ≡ b
        → Grows comes (record { told = []; accepted = []; ended = true }) e
        (if b then shut_down (record e { stream = record e.stream { ended = true } }) else after_ending e)
    go true is = grows_ended comes e (shut_down (record e { stream = record e.stream { ended = true } })) g refl refl (λ x. is)
    go false is = grows_ended comes e (after_ending e) g refl refl (shut_waits e.state)

grows_close : (comes : ℕ → Cell → Type 0) (e : Endpoint) → Own e → Grows comes (record { told = []; accepted = []; ended = true }) e (after_close e)
grows_close comes e g = go (is_syn_sent e.state) refl
  where
    go : (b : Bool) → is_syn_sent e.state ≡ b
        → Grows comes (record { told = []; accepted = []; ended = true }) e
        (record (if b then shut_down (record e { stream = record e.stream { ended = true } }) else after_ending e) {
          closed = true;
        })
    go true is = grows_ended comes e (record (shut_down (record e { stream = record e.stream { ended = true } })) { closed = true }) g refl refl (λ x. is)
    go false is = grows_ended comes e (record (after_ending e) { closed = true }) g refl refl (shut_waits e.state)

grows_recv : (comes : ℕ → Cell → Type 0) (e : Endpoint) (bytes rest : List ℕ) → Own e
    → bytes ++ rest ≡ waiting e.stream.receive
    → Grows comes (record { told = bytes; accepted = []; ended = false }) e (after_recv bytes e)
grows_recv comes e bytes rest g is =
    let r = e.stream.receive in
    let waits = waiting_own e g in
    record {
      own = record { waits = g.waits; order = g.order; begun = g.begun; delivered = read_fits r bytes rest waits is g.delivered };
      later = record { peer = λ q p. p; cells = λ p c z. z; next = le_refl _; told = (bytes, read_more r bytes rest waits is) };
      adds = record { told = read_more r bytes rest waits is; accepted = (adds_nothing e.stream).accepted; ended = (adds_nothing e.stream).ended };
      stays = λ p c x. x;
      gains = λ p c x some. inl x;
    }

plain_orphan : (l : ℕ) (e : Endpoint) → Plain e (orphaned l e)
plain_orphan l e =
    plain_either (option_map_or (λ holder. holder == l) e.listener false) e (after_abort e) e
    (record { stream = refl; irs = refl; waits = λ x. absurd cc }) (plain_same e)

grown_listener : (comes : Coming) (host : Host) (b : HostTcp) (l : ℕ) → OwnEnds b.endpoints
    → Grown comes host silent b.endpoints (without_listener b l).endpoints
grown_listener comes host b l g = grown_map comes host b.endpoints (orphaned l) g (plain_orphan l)

grown_accept : (comes : Coming) (host : Host) (b : HostTcp) (n : ℕ) (target : SocketTarget) → OwnEnds b.endpoints
    → Grown comes host silent b.endpoints (after_accept b n target).endpoints
grown_accept comes host b n (EndpointAt i) g = grown_not comes host silent b.endpoints (λ i. refl) g
grown_accept comes host b n (ListenerAt l) g = go (queue_of b l)
  where
    go : (queue : List ℕ) → Grown comes host silent b.endpoints (accepted_from b l n queue).endpoints
    go [] = grown_not comes host silent b.endpoints (λ i. refl) g
    go (child ∷ queue) =
        grown_plain comes host b.endpoints child (λ e. record e { listener = None }) g
        (λ e. record { stream = refl; irs = refl; waits = λ x. x })

bare_endpoint : (p : Profile) (lport rport : ℕ) → Bare (new_endpoint lport rport None states.SynSent p)
bare_endpoint p lport rport = record {
  own = record { waits = λ x. (refl, refl); order = inl refl; begun = λ irs is. absurd (none-some irs is); delivered = omega arith };
  untouched = record { told = refl; accepted = refl; ended = refl };
  bare = λ p c e. absurd (none-some _ e);
}

pub grown_call : (v : Version) (p : Profile) (comes : Coming) (a : Hosts) (host : Host) (call : Call) (answer : Answer) → OwnEnds (pick a host).body.endpoints
    → call_allows v (pick a host).body call answer ≡ true
    → Grown comes host (λ j. call_adds a call answer (name host j)) (pick a host).body.endpoints (after_call p (pick a host).body call answer).endpoints
grown_call v p comes a host (calls.Listen at port backlog) (answers.Given n) g may = grown_not comes host silent (pick a host).body.endpoints (λ i. refl) g
grown_call v p comes a host (calls.Connect at lport rport) (answers.Given n) g may =
    grown_push comes host (pick a host).body.endpoints (new_endpoint lport rport None states.SynSent p) g (bare_endpoint p lport rport)
grown_call v p comes a host (calls.Accept h) (answers.Given n) g may = let b = (pick a host).body in
    map_or_cases (λ (x : HostTcp). Grown comes host silent b.endpoints x.endpoints) (socket_target b h) b (after_accept b n)
    (λ e. grown_not comes host silent b.endpoints (λ i. refl) g) (λ target e. grown_accept comes host b n target g)
grown_call v p comes a host (calls.Send h bytes) (answers.Given n) g may =
    let b = (pick a host).body in
    let x = named v b h (calls.Send h bytes) (answers.Given n) may refl refl (λ queue. refused queue) in
    subst (λ (o : Option SocketTarget).
    Grown comes host (λ j. call_adds a (calls.Send h bytes) (answers.Given n) (name host j)) b.endpoints
    (option_map_or (change_target b (after_send bytes n)) o b).endpoints) (sym x.1)
    (grown_socket comes a host h x.0 (after_send bytes n)
    (λ c. record { told = []; accepted = if c then take n bytes else []; ended = false }) refl
    (owner_of b h (EndpointAt x.0) x.1).0 g
    (λ e at. grows_send (comes (name host x.0)) e bytes n (g x.0 e at)
    (subst (λ (y : Endpoint). y.stream.ended ≡ false) (same_Some x.2 e (sym x.3 ∙ at)) (send_open v x.2 bytes n x.4))))
  where
    refused : (queue : List ℕ) → open_allows v queue (calls.Send h bytes) (answers.Given n) ≡ false
    refused [] = refl
    refused (c ∷ queue) = refl
grown_call v p comes a host (calls.Recv h most) (answers.Bytes bytes) g may =
    let b = (pick a host).body in
    let x = named v b h (calls.Recv h most) (answers.Bytes bytes) may refl refl (λ queue. refused queue) in
    let rest =
    starts_prefix bytes (waiting x.2.stream.receive)
    (both_true (nat_le 1 (length bytes) && nat_le (length bytes) most)
    (starts bytes (waiting x.2.stream.receive)) x.4).1 in
    subst (λ (o : Option SocketTarget).
    Grown comes host (λ j. call_adds a (calls.Recv h most) (answers.Bytes bytes) (name host j)) b.endpoints
    (option_map_or (change_target b (after_recv bytes)) o b).endpoints) (sym x.1)
    (grown_socket comes a host h x.0 (after_recv bytes)
    (λ c. record { told = if c then bytes else []; accepted = []; ended = false }) refl
    (owner_of b h (EndpointAt x.0) x.1).0 g
    (λ e at. grows_recv (comes (name host x.0)) e bytes rest.0 (g x.0 e at)
    (subst (λ (y : Endpoint). bytes ++ rest.0 ≡ waiting y.stream.receive) (same_Some x.2 e (sym x.3 ∙ at)) rest.1)))
  where
    refused : (queue : List ℕ) → open_allows v queue (calls.Recv h most) (answers.Bytes bytes) ≡ false
    refused [] = refl
    refused (c ∷ queue) = refl
grown_call v p comes a host (calls.Shut h) answers.Done g may =
    go (socket_target (pick a host).body h) refl may
  where
    go : (o : Option SocketTarget) → socket_target (pick a host).body h ≡ o
        → option_map_or (target_allows v (pick a host).body (calls.Shut h) answers.Done) o false ≡ true
        → Grown comes host (λ j. call_adds a (calls.Shut h) answers.Done (name host j)) (pick a host).body.endpoints
        (option_map_or (λ target. record (target_gone (pick a host).body target after_shut) {
          sockets = (pick a host).body.sockets;
        }) o (pick a host).body).endpoints
    go None is may = absurd cc
    go (Some (ListenerAt l)) is may =
        grown_quiet comes host (λ j. call_adds a (calls.Shut h) answers.Done (name host j))
        (pick a host).body.endpoints (without_listener (pick a host).body l).endpoints
        (λ i. ap (λ (c : Bool). record { told = []; accepted = []; ended = c })
        (socket_none a host h i (owner_of (pick a host).body h (ListenerAt l) is).0))
        (grown_listener comes host (pick a host).body l g)
    go (Some (EndpointAt i)) is may =
        grown_socket comes a host h i after_shut (λ c. record { told = []; accepted = []; ended = c }) refl
        (owner_of (pick a host).body h (EndpointAt i) is).0 g (λ e at. grows_shut (comes (name host i)) e (g i e at))
grown_call v p comes a host (calls.Close h) answers.Done g may = go (socket_target (pick a host).body h) refl may
  where
    go : (o : Option SocketTarget) → socket_target (pick a host).body h ≡ o
        → option_map_or (target_allows v (pick a host).body (calls.Close h) answers.Done) o false ≡ true
        → Grown comes host (λ j. call_adds a (calls.Close h) answers.Done (name host j)) (pick a host).body.endpoints
        (option_map_or (λ target. record (target_gone (pick a host).body target after_close) {
          sockets = dead (pick a host).body.sockets h;
        }) o (pick a host).body).endpoints
    go None is may = absurd cc
    go (Some (ListenerAt l)) is may =
        grown_quiet comes host (λ j. call_adds a (calls.Close h) answers.Done (name host j))
        (pick a host).body.endpoints (without_listener (pick a host).body l).endpoints
        (λ i. ap (λ (c : Bool). record { told = []; accepted = []; ended = c })
        (socket_none a host h i (owner_of (pick a host).body h (ListenerAt l) is).0))
        (grown_listener comes host (pick a host).body l g)
    go (Some (EndpointAt i)) is may =
        grown_socket comes a host h i after_close (λ c. record { told = []; accepted = []; ended = c }) refl
        (owner_of (pick a host).body h (EndpointAt i) is).0 g (λ e at. grows_close (comes (name host i)) e (g i e at))
grown_call v p comes a host (calls.Abort h) answers.Done g may = let b = (pick a host).body in
    map_or_cases (λ (x : HostTcp). Grown comes host silent b.endpoints x.endpoints) (socket_target b h) b
    (λ target. record (target_gone b target after_abort) { sockets = dead b.sockets h })
    (λ e. grown_not comes host silent b.endpoints (λ i. refl) g)
    (λ target e. go target)
  where
    go : (target : SocketTarget) → Grown comes host silent (pick a host).body.endpoints (target_gone (pick a host).body target after_abort).endpoints
    go (ListenerAt l) = grown_listener comes host (pick a host).body l g
    go (EndpointAt i) = grown_plain comes host (pick a host).body.endpoints i after_abort g (λ e. record { stream = refl; irs = refl; waits = λ x. absurd cc })
grown_call v p comes a host call answer g may = grown_not comes host silent (pick a host).body.endpoints (λ i. refl) g

-- 4. endpoints and their peers: no call changes what an endpoint has of its peer

keeps_shut : (e : Endpoint) → KeepsPeer e (after_shut e)
keeps_shut e = go (is_syn_sent e.state)
  where
    go : (b : Bool) → KeepsPeer e (if b then shut_down (record e { stream = record e.stream { ended = true } }) else after_ending e)
    go true = record { peer = refl; taken = refl; snd_una = refl; waits = λ x. absurd cc }
    go false = record { peer = refl; taken = refl; snd_una = refl; waits = shut_waits e.state }

keeps_close : (e : Endpoint) → KeepsPeer e (after_close e)
keeps_close e = go (is_syn_sent e.state)
  where
    go : (b : Bool) → KeepsPeer e (record (if b then shut_down (record e { stream = record e.stream { ended = true } }) else after_ending e) { closed = true })
    go true = record { peer = refl; taken = refl; snd_una = refl; waits = λ x. absurd cc }
    go false = record { peer = refl; taken = refl; snd_una = refl; waits = shut_waits e.state }

keeps_abort : (e : Endpoint) → KeepsPeer e (after_abort e)
keeps_abort e = record { peer = refl; taken = refl; snd_una = refl; waits = λ x. absurd cc }

moves_change : (a : Hosts) (host : Host) (b : HostTcp) (n : ℕ) (f : Endpoint → Endpoint) → GoodEnds a host b.endpoints
    → ((e : Endpoint) → KeepsPeer e (f e))
    → Moves a host b.endpoints (option_map_or (change_target b f) (socket_target b n) b).endpoints
moves_change a host b n f g keeps =
    map_or_cases (λ (x : HostTcp). Moves a host b.endpoints x.endpoints) (socket_target b n) b (change_target b f)
    (λ e. moves_not a host b.endpoints g) (λ target e. go target)
  where
    go : (target : SocketTarget) → Moves a host b.endpoints (change_target b f target).endpoints
    go (ListenerAt l) = moves_not a host b.endpoints g
    go (EndpointAt i) = moves_keeps a host b.endpoints i f g keeps

moves_gone : (a : Hosts) (host : Host) (b : HostTcp) (n : ℕ) (f : Endpoint → Endpoint) (sockets : List (ℕ × Socket)) → GoodEnds a host b.endpoints
    → ((e : Endpoint) → KeepsPeer e (f e))
    → Moves a host b.endpoints (option_map_or (λ target. record (target_gone b target f) { sockets = sockets }) (socket_target b n) b).endpoints
moves_gone a host b n f sockets g keeps =
    map_or_cases (λ (x : HostTcp). Moves a host b.endpoints x.endpoints) (socket_target b n) b
    (λ target. record (target_gone b target f) { sockets = sockets }) (λ e. moves_not a host b.endpoints g)
    (λ target e. go target)
  where
    go : (target : SocketTarget) → Moves a host b.endpoints (target_gone b target f).endpoints
    go (ListenerAt l) = moves_map a host b.endpoints (orphaned l) g (λ e. plain_keeps e (orphaned l e) (plain_orphan l e))
    go (EndpointAt i) = moves_keeps a host b.endpoints i f g keeps

moves_accept : (a : Hosts) (host : Host) (b : HostTcp) (n : ℕ) (target : SocketTarget) → GoodEnds a host b.endpoints
    → Moves a host b.endpoints (after_accept b n target).endpoints
moves_accept a host b n (EndpointAt i) g = moves_not a host b.endpoints g
moves_accept a host b n (ListenerAt l) g = go (queue_of b l)
  where
    go : (queue : List ℕ) → Moves a host b.endpoints (accepted_from b l n queue).endpoints
    go [] = moves_not a host b.endpoints g
    go (child ∷ queue) =
        moves_keeps a host b.endpoints child (λ e. record e { listener = None }) g
        (λ e. record { peer = refl; taken = refl; snd_una = refl; waits = λ x. x })

fresh_endpoint : (p : Profile) (a : Hosts) (me : EndpointId) (lport rport : ℕ) → Fresh a me (new_endpoint lport rport None states.SynSent p)
fresh_endpoint p a me lport rport = record {
  snd_una = λ more. absurd (omega arith);
  good = λ c later. record {
    stream = record { taken = λ p c e. absurd (none-some _ e); snd_una = λ more. absurd (omega arith); peer = λ q e. absurd (none-some q e) };
    waits = λ x. (refl, refl);
  };
}

pub moves_call : (p : Profile) (a : Hosts) (host : Host) (b : HostTcp) (call : Call) (answer : Answer) → GoodEnds a host b.endpoints
    → Moves a host b.endpoints (after_call p b call answer).endpoints
moves_call p a host b (calls.Listen at port backlog) (answers.Given n) g = moves_not a host b.endpoints g
moves_call p a host b (calls.Connect at lport rport) (answers.Given n) g =
    moves_push a host b.endpoints (new_endpoint lport rport None states.SynSent p) g (fresh_endpoint p a _ lport rport)
moves_call p a host b (calls.Accept h) (answers.Given n) g =
    map_or_cases (λ (x : HostTcp). Moves a host b.endpoints x.endpoints) (socket_target b h) b (after_accept b n)
    (λ e. moves_not a host b.endpoints g) (λ target e. moves_accept a host b n target g)
moves_call p a host b (calls.Send h bytes) (answers.Given n) g =
    moves_change a host b h (after_send bytes n) g (λ e. record { peer = refl; taken = refl; snd_una = refl; waits = λ x. x })
moves_call p a host b (calls.Recv h most) (answers.Bytes bytes) g =
    moves_change a host b h (after_recv bytes) g (λ e. record { peer = refl; taken = refl; snd_una = refl; waits = λ x. x })
moves_call p a host b (calls.Shut h) answers.Done g = moves_gone a host b h after_shut b.sockets g keeps_shut
moves_call p a host b (calls.Close h) answers.Done g = moves_gone a host b h after_close (dead b.sockets h) g keeps_close
moves_call p a host b (calls.Abort h) answers.Done g = moves_gone a host b h after_abort (dead b.sockets h) g keeps_abort
moves_call p a host b call answer g = moves_not a host b.endpoints g
