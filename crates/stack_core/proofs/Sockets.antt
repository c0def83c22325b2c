-- The socket numbers of a host after each act.
use Rattle.std.proofs.Common.{◌≡◌, ℕ, suc, ◌⊎◌, Bool, true, false, List, [], ◌∷◌, length, Option, Some, None, refl, ap, sym, inl, inr, nat_eq}
use Rattle.std.specs.Prelude.{is_some}
use Rattle.std.specs.Map.{lookup}
use Rattle.std.proofs.lemmas.Option.{none-some}
use Rattle.indexmap.specs.IndexMap.{insert_entry}
use Rattle.case_forms.specs.declared.calls.Host.{Host}
use Rattle.case_forms.specs.declared.calls.Answer.{Answer}
use Rattle.case_forms.specs.declared.calls.Answer.TheVariants as answers
use Rattle.case_forms.specs.declared.calls.Call.{Call}
use Rattle.case_forms.specs.declared.calls.Call.TheVariants as calls
use Rattle.case_forms.specs.declared.steps.TakeChoice.{TakeChoice}
use Rattle.case_forms.specs.declared.trace.Header.{Header}
use Rattle.spec_network.specs.Tables.{waiting}
use Rattle.spec_network.specs.Hosts.{HostState, HostStep, Does, Expires, Makes, Sends, Gets, Hears, Takes, Drops, Answers}
use Rattle.spec_network.specs.HostSteps.{host_step_after}
use Rattle.window_rules.specs.declared.control.Profile.{Profile}
use Rattle.spec_tcp.specs.declared.endpoint.Emission.{Emission}
use Rattle.spec_tcp.specs.declared.endpoint.Endpoint.{Endpoint}
use Rattle.spec_tcp.specs.declared.endpoint.Socket.{Socket}
use Rattle.spec_tcp.specs.declared.endpoint.SocketTarget.{SocketTarget}
use Rattle.spec_tcp.specs.declared.endpoint.SocketTarget.TheVariants.{ListenerAt, EndpointAt}
use Rattle.spec_tcp.specs.Arrives.{Taker, Nobody, AtListener, AtEndpoint, taker, after_taking}
use Rattle.spec_tcp.specs.HostTcp.{HostTcp, at_ports, dead, place_of, queue_of, socket_target, with_endpoint}
use Rattle.spec_tcp.specs.Calls.{after_call, change, change_target}
use Rattle.spec_tcp.specs.Calls.Accept.{accepted_from, after_accept}
use Rattle.spec_tcp.specs.Calls.Close.{after_abort, after_close, after_gone, after_shut, target_gone}
use Rattle.spec_tcp.specs.Calls.Receive.{after_recv}
use Rattle.spec_tcp.specs.Calls.Send.{after_send}
use Rattle.spec_tcp.specs.Machine.{gives, tcp, tcp_shape}
use Rattle.spec_tcp_laws.proofs.Rules.{map_or_cases, on_cases}

abbrev pub Sockets : Type 0
Sockets = List (ℕ × Socket)

-- 1. what no call does

at_sockets : (b : HostTcp) (l r : ℕ) (f : Endpoint → Endpoint) → (at_ports b l r f).sockets ≡ b.sockets
at_sockets b l r f = map_or_cases (λ (c : HostTcp). c.sockets ≡ b.sockets) (place_of b l r) b (λ i. with_endpoint b i f) (λ e. refl) (λ i e. refl)

taking_sockets : (h : Header) (b : HostTcp) (how : TakeChoice) (m : Emission) (moment : ℕ) (t : Taker) → (after_taking h b how m moment t).sockets ≡ b.sockets
taking_sockets h b how m moment Nobody = refl
taking_sockets h b how m moment (AtListener l) = refl
taking_sockets h b how m moment (AtEndpoint i e) = refl

pub host_step_sockets : (h : Header) (me : Host) (moment fresh : ℕ) (far : List (ℕ × Emission)) (s : HostState tcp_shape)
    (d : HostStep tcp_shape) → (host_step_after (tcp h) me moment fresh far s d).body.sockets ≡ s.body.sockets
host_step_sockets h me moment fresh far s (Does x) = at_sockets s.body x.lport x.rport _
host_step_sockets h me moment fresh far s (Expires line x) = at_sockets s.body x.lport x.rport _
host_step_sockets h me moment fresh far s (Makes plan) = at_sockets s.body plan.lport plan.rport _
host_step_sockets h me moment fresh far s (Sends line number wire) = refl
host_step_sockets h me moment fresh far s (Gets line copied wire) = refl
host_step_sockets h me moment fresh far s (Hears line wire) = refl
host_step_sockets h me moment fresh far s (Takes line how) =
    on_cases (λ (b : HostTcp). b.sockets ≡ s.body.sockets) (waiting line s.inbox) s.body _ refl
    (λ m e. taking_sockets h s.body how m moment (taker s.body m))
host_step_sockets h me moment fresh far s (Drops line) = refl
host_step_sockets h me moment fresh far s (Answers line) =
    on_cases (λ (b : HostTcp). b.sockets ≡ s.body.sockets) (waiting line s.inbox) s.body _ refl (λ m e. refl)

-- 2. what calls do

-- the numbers stay, one is live no longer, or one is given
abbrev pub SocketsAfter : Sockets → Sockets → Option ℕ → Type 0
SocketsAfter old new given = (new ≡ old) ⊎ (((n : ℕ) × (new ≡ dead old n)) ⊎ ((n : ℕ) × (s : Socket) × (given ≡ Some n) × (new ≡ insert_entry nat_eq old n s)))

change_sockets : (b : HostTcp) (n : ℕ) (f : Endpoint → Endpoint) → (change b n f).sockets ≡ b.sockets
change_sockets b n f = map_or_cases (λ (c : HostTcp). c.sockets ≡ b.sockets) (socket_target b n) b (change_target b f) (λ e. refl) (λ target e. by target)
  where
    by : (target : SocketTarget) → (change_target b f target).sockets ≡ b.sockets
    by (ListenerAt l) = refl
    by (EndpointAt i) = refl

shut_sockets : (b : HostTcp) (n : ℕ) → (after_gone b n after_shut b.sockets).sockets ≡ b.sockets
shut_sockets b n =
    map_or_cases (λ (c : HostTcp). c.sockets ≡ b.sockets) (socket_target b n) b
    (λ target. record (target_gone b target after_shut) { sockets = b.sockets }) (λ e. refl) (λ target e. refl)

gone_sockets : (b : HostTcp) (n : ℕ) (f : Endpoint → Endpoint) → SocketsAfter b.sockets (after_gone b n f (dead b.sockets n)).sockets None
gone_sockets b n f =
    map_or_cases (λ (c : HostTcp). SocketsAfter b.sockets c.sockets None) (socket_target b n) b
    (λ target. record (target_gone b target f) { sockets = dead b.sockets n }) (λ e. inl refl)
    (λ target e. inr (inl (n, refl)))

accept_sockets : (b : HostTcp) (n : ℕ) (target : SocketTarget) → SocketsAfter b.sockets (after_accept b n target).sockets (Some n)
accept_sockets b n (EndpointAt i) = inl refl
accept_sockets b n (ListenerAt l) = by (queue_of b l)
  where
    by : (queue : List ℕ) → SocketsAfter b.sockets (accepted_from b l n queue).sockets (Some n)
    by [] = inl refl
    by (child ∷ queue) = inr (inr (n, record { target = EndpointAt child; live = true }, refl, refl))

pub call_sockets : (p : Profile) (b : HostTcp) (call : Call) (answer : Answer) → SocketsAfter b.sockets (after_call p b call answer).sockets (gives call answer)
call_sockets p b (calls.Listen host port backlog) (answers.Given n) =
    inr (inr (n, record { target = ListenerAt (length b.listeners); live = true }, refl, refl))
call_sockets p b (calls.Connect host lport rport) (answers.Given n) =
    inr (inr (n, record { target = EndpointAt (length b.endpoints); live = true }, refl, refl))
call_sockets p b (calls.Accept h) (answers.Given n) =
    map_or_cases (λ (c : HostTcp). SocketsAfter b.sockets c.sockets (Some n)) (socket_target b h) b (after_accept b n)
    (λ e. inl refl) (λ target e. accept_sockets b n target)
call_sockets p b (calls.Send h bytes) (answers.Given n) = inl (change_sockets b h (after_send bytes n))
call_sockets p b (calls.Recv h most) (answers.Bytes bytes) = inl (change_sockets b h (after_recv bytes))
call_sockets p b (calls.Shut h) answers.Done = inl (shut_sockets b h)
call_sockets p b (calls.Close h) answers.Done = gone_sockets b h after_close
call_sockets p b (calls.Abort h) answers.Done = gone_sockets b h after_abort
call_sockets p b call answer = inl refl

-- 3. how many they are

length_new : (es : Sockets) (n : ℕ) (s : Socket) → lookup (nat_eq n) es ≡ None → length (insert_entry nat_eq es n s) ≡ suc (length es)
length_new [] n s none = refl
length_new (e ∷ es) n s none = by (nat_eq n e.0) refl (length_new es n s) none
  where
    by : (b : Bool) → nat_eq n e.0 ≡ b
        → (lookup (nat_eq n) es ≡ None → length (insert_entry nat_eq es n s) ≡ suc (length es))
        → lookup (nat_eq n) (e ∷ es) ≡ None → length (insert_entry nat_eq (e ∷ es) n s) ≡ suc (length (e ∷ es))
    by true is rest none = absurd (none-some e.1 (sym (rw is at none)))
    by false is rest none = rw is (ap suc (rest (rw is at none)))

length_old : (es : Sockets) (n : ℕ) (s x : Socket) → lookup (nat_eq n) es ≡ Some x → length (insert_entry nat_eq es n s) ≡ length es
length_old [] n s x some = absurd (none-some x some)
length_old (e ∷ es) n s x some = by (nat_eq n e.0) refl (length_old es n s x) some
  where
    by : (b : Bool) → nat_eq n e.0 ≡ b
        → (lookup (nat_eq n) es ≡ Some x → length (insert_entry nat_eq es n s) ≡ length es)
        → lookup (nat_eq n) (e ∷ es) ≡ Some x → length (insert_entry nat_eq (e ∷ es) n s) ≡ length (e ∷ es)
    by true is rest some = rw is refl
    by false is rest some = rw is (ap suc (rest (rw is at some)))

pub dead_length : (es : Sockets) (n : ℕ) → length (dead es n) ≡ length es
dead_length es n =
    map_or_cases (λ (fs : Sockets). length fs ≡ length es) (lookup (nat_eq n) es) es
    (λ s. insert_entry nat_eq es n (record s { live = false })) (λ e. refl)
    (λ s e. length_old es n (record s { live = false }) s e)

pub new_length : (es : Sockets) (n : ℕ) (s : Socket) → is_some (lookup (nat_eq n) es) ≡ false → length (insert_entry nat_eq es n s) ≡ suc (length es)
new_length es n s new = length_new es n s (by (lookup (nat_eq n) es) new)
  where
    by : (o : Option Socket) → is_some o ≡ false → o ≡ None
    by None is = refl
    by (Some x) is = absurd cc
