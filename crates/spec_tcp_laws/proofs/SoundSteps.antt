-- Each step keeps sockets and queues sound.
use Rattle.std.proofs.Common.{◌≡◌, ℕ, suc, ◌⊎◌, Bool, true, false, List, [], ◌∷◌, ◌++◌, length, Option, Some, None, refl, sym, subst, ◌∙◌, inl, inr, arith}
use Rattle.std.specs.Prelude.{if◌then◌else◌, ◌==◌, ◌&&◌, not, nat_lt, slice_get}
use Rattle.std.specs.Option.{option_map_or}
use Rattle.std.proofs.lemmas.Option.{none-some, same_Some, slice_get_within}
use Rattle.case_forms.specs.declared.trace.Header.{Header}
use Rattle.case_forms.specs.declared.calls.Host.{Host}
use Rattle.case_forms.specs.declared.calls.Host.TheVariants.{Zero, One}
use Rattle.case_forms.specs.declared.calls.State.{State}
use Rattle.case_forms.specs.declared.calls.State.TheVariants as states
use Rattle.case_forms.specs.declared.calls.Call.{Call}
use Rattle.case_forms.specs.declared.calls.Call.TheVariants as calls
use Rattle.case_forms.specs.declared.calls.Answer.{Answer}
use Rattle.case_forms.specs.declared.calls.Answer.TheVariants as answers
use Rattle.verdict.specs.declared.rule.Rule.TheVariants as rules
use Rattle.verdict.specs.Rules.{first_broken}
use Rattle.verdict.proofs.RuleLemmas.{none_all}
use Rattle.streams.specs.Lists.{modify}
use Rattle.spec_network.specs.Tables.{pick, other, with_host, waiting}
use Rattle.spec_network.specs.Hosts.{HostState, Turn, Idle, Called, Answered, World, HostStep, Does, Expires, Makes, Sends}
use Rattle.spec_network.specs.Hosts.{Gets, Hears, Takes, Drops, Answers, Step, Begin, Finish, Effect, At, turn_of}
use Rattle.spec_network.specs.HostRules.{aim_of, fresh_rules, effect_rules, Permitted}
use Rattle.spec_network.specs.HostSteps.{host_step_after, call_after, effect_after, after}
use Rattle.window_rules.specs.declared.control.Profile.{Profile}
use Rattle.spec_tcp.specs.Signals.{profile_of}
use Rattle.spec_tcp.specs.declared.endpoint.Endpoint.{Endpoint}
use Rattle.spec_tcp.specs.declared.endpoint.Emission.{Emission}
use Rattle.spec_tcp.specs.declared.endpoint.SocketTarget.{SocketTarget}
use Rattle.spec_tcp.specs.declared.endpoint.SocketTarget.TheVariants.{ListenerAt, EndpointAt}
use Rattle.spec_tcp.specs.Endpoints.{new_endpoint}
use Rattle.spec_tcp.specs.HostTcp.{HostTcp, given, socket_target, queue_of, with_endpoint, dead}
use Rattle.case_forms.specs.States.{is_syn_sent, is_syn_received}
use Rattle.spec_tcp.specs.Calls.Send.{after_send}
use Rattle.spec_tcp.specs.Calls.Receive.{after_recv}
use Rattle.spec_tcp.specs.Calls.Close.{shut_down, ended_state, after_ending, after_shut, after_close, after_abort, orphaned, without_listener}
use Rattle.spec_tcp.specs.Calls.Close.{target_gone, after_gone}
use Rattle.spec_tcp.specs.Calls.Accept.{accepted_from, after_accept}
use Rattle.spec_tcp.specs.Calls.{change_target, change, after_call}
use Rattle.case_forms.specs.declared.steps.SegmentPlan.{SegmentPlan}
use Rattle.spec_tcp.specs.Makes.{endpoint_made, after_making}
use Rattle.case_forms.specs.declared.steps.TakeChoice.{TakeChoice}
use Rattle.spec_tcp.specs.Arrives.OtherStates.Ack.{is_new_ack, acknowledges_syn, fin_acknowledged, acknowledged}
use Rattle.spec_tcp.specs.Arrives.OtherStates.Fin.{finished}
use Rattle.spec_tcp.specs.Arrives.OtherStates.Text.{state_after_segment}
use Rattle.spec_tcp.specs.Arrives.OtherStates.{taken}
use Rattle.spec_tcp.specs.Arrives.OtherStates.Reset.{was_reset}
use Rattle.spec_tcp.specs.Arrives.SynSent.{on_syn}
use Rattle.spec_tcp.specs.Arrives.Listen.{child}
use Rattle.spec_tcp.specs.Heard.{as_read}
use Rattle.spec_tcp.specs.Arrives.{Taker, Nobody, AtListener, AtEndpoint, taker, endpoint_taken, after_taking}
use Rattle.case_forms.specs.declared.taken_line.Expired.{Expired}
use Rattle.case_forms.specs.declared.taken_line.Expired.TheVariants.{Giveup, Msl2, Persist, Pto, Rto}
use Rattle.spec_tcp.specs.Timeouts.{after_expiry}
use Rattle.spec_tcp.specs.Recovery.{after_recovery}
use Rattle.spec_tcp.specs.Machine.{Calls, tcp, tcp_shape, aim, gives}
use Rattle.spec_tcp_laws.specs.Runs.{owner}
use Rattle.spec_tcp_laws.proofs.Rules.{map_or_cases, on_cases, both_true, neither, not_true, true_false}
use Rattle.spec_tcp_laws.proofs.Later.{Hosts}
use Rattle.spec_tcp_laws.proofs.Moves.{with_cases}
use Rattle.spec_tcp_laws.proofs.Takes.{taker_there}
use Rattle.spec_tcp_laws.proofs.Calls.{Apart}
use Rattle.spec_tcp_laws.proofs.Steps.{effect_allowed}
use Rattle.spec_tcp_laws.proofs.Sound.{is_early, Sound, Keeps, Stays, stays_not, stays_either, AllStay, stay_modify}
use Rattle.spec_tcp_laws.proofs.Sound.{stay_push, stay_map, keeps_stay, keeps_endpoints, keeps_not, keeps_at_ports}
use Rattle.spec_tcp_laws.proofs.Sound.{dead_owner, dead_given, keeps_listener, keeps_socket, queue_push, queue_modify}
use Rattle.spec_tcp_laws.proofs.Sound.{sound_joined, modify_here, keeps_accepted}

-- 1. endpoints

stays_making : (e : Endpoint) (m : SegmentPlan) (moment : ℕ) → Stays e (after_making e m moment)
stays_making e m moment =
    stays_either m.flags.rst e (record (shut_down (endpoint_made e m moment)) { reset_due = false })
    (endpoint_made e m moment) (record { listener = refl; late = λ h. refl })
    (record { listener = refl; late = λ h. h })

stays_expiry : (e : Endpoint) (x : Expired) (moment : ℕ) → Stays e (after_expiry e x moment)
stays_expiry e (Rto growth) moment = record { listener = refl; late = λ h. h }
stays_expiry e Persist moment = record { listener = refl; late = λ h. h }
stays_expiry e Msl2 moment = record { listener = refl; late = λ h. refl }
stays_expiry e Giveup moment = record { listener = refl; late = λ h. refl }
stays_expiry e Pto moment = record { listener = refl; late = λ h. h }

early_either : (b : Bool) (x y : State) → is_early x ≡ false → is_early y ≡ false → is_early (if b then x else y) ≡ false
early_either true x y p q = p
early_either false x y p q = q

acknowledged_late : (st : State) (e : Endpoint) (m : Emission) → is_early st ≡ false → is_early (acknowledged st e m) ≡ false
acknowledged_late states.SynReceived e m h = absurd cc
acknowledged_late states.FinWait1 e m h = early_either (fin_acknowledged e m) states.FinWait2 states.FinWait1 refl refl
acknowledged_late states.Closing e m h = early_either (fin_acknowledged e m) states.TimeWait states.Closing refl refl
acknowledged_late states.LastAck e m h = early_either (fin_acknowledged e m) states.Closed states.LastAck refl refl
acknowledged_late states.SynSent e m h = absurd cc
acknowledged_late states.Closed e m h = refl
acknowledged_late states.Listen e m h = refl
acknowledged_late states.Established e m h = refl
acknowledged_late states.FinWait2 e m h = refl
acknowledged_late states.CloseWait e m h = refl
acknowledged_late states.TimeWait e m h = refl

finished_late : (st : State) (passed : Bool) → is_early st ≡ false → is_early (finished st passed) ≡ false
finished_late states.Established true h = refl
finished_late states.FinWait1 true h = refl
finished_late states.FinWait2 true h = refl
finished_late states.Established false h = refl
finished_late states.FinWait1 false h = refl
finished_late states.FinWait2 false h = refl
finished_late states.SynSent passed h = absurd cc
finished_late states.SynReceived passed h = absurd cc
finished_late states.Closed passed h = refl
finished_late states.Listen passed h = refl
finished_late states.CloseWait passed h = refl
finished_late states.Closing passed h = refl
finished_late states.LastAck passed h = refl
finished_late states.TimeWait passed h = refl

stays_taken : (h : Header) (e : Endpoint) (how : TakeChoice) (m : Emission) (moment : ℕ) → Stays e (endpoint_taken h e how m moment)
stays_taken h e how m moment = go m.flags.rst (is_syn_sent e.state) refl
  where
    go : (r s : Bool) → is_syn_sent e.state ≡ s → Stays e (if r then was_reset e how moment else if s then on_syn h e how m moment else taken h e how m moment)
    go true s is = record { listener = refl; late = λ x. refl }
    go false true is = record { listener = refl; late = λ x. absurd (true_false is (neither (is_syn_sent e.state) (is_syn_received e.state) x).0) }
    go false false is = record { listener = refl; late = λ x. finished_late (acknowledged e.state e m) _ (acknowledged_late e.state e m x) }

not_both : (st : State) → is_syn_received st ≡ true → is_syn_sent st ≡ false
not_both states.SynSent e = absurd cc
not_both state e = refl

-- the SYN is acknowledged in SYN-RECEIVED
late_joined : (h : Header) (e : Endpoint) (how : TakeChoice) (m : Emission) (moment : ℕ)
    → (is_syn_received e.state && acknowledges_syn e m) ≡ true
    → is_early (endpoint_taken h e how m moment).state ≡ false
late_joined h e how m moment c =
    let parts = both_true (is_syn_received e.state) (acknowledges_syn e m) c in
    let new = (both_true (is_new_ack e m) (e.stream.snd_una == 0) parts.1).0 in
    let plain =
    not_true m.flags.rst (both_true m.flags.ack (not m.flags.rst)
    (both_true (m.flags.ack && not m.flags.rst) (nat_lt e.stream.snd_una m.ack) new).0).1 in
    go m.flags.rst (is_syn_sent e.state) plain (not_both e.state parts.0) (finished_late (acknowledged e.state e m) _ (acks e.state parts.0 parts.1))
  where
    chosen : (b : Bool) → b ≡ true → is_early (if b then (if e.stream.ended then states.FinWait1 else states.Established) else states.SynReceived) ≡ false
    chosen true is = early_either e.stream.ended states.FinWait1 states.Established refl refl
    chosen false is = absurd cc

    acks : (st : State) → is_syn_received st ≡ true → acknowledges_syn e m ≡ true → is_early (acknowledged st e m) ≡ false
    acks states.SynReceived is a = chosen (acknowledges_syn e m) a
    acks states.Closed is a = absurd cc
    acks states.Listen is a = absurd cc
    acks states.SynSent is a = absurd cc
    acks states.Established is a = absurd cc
    acks states.FinWait1 is a = absurd cc
    acks states.FinWait2 is a = absurd cc
    acks states.CloseWait is a = absurd cc
    acks states.Closing is a = absurd cc
    acks states.LastAck is a = absurd cc
    acks states.TimeWait is a = absurd cc

    go : (r s : Bool) → r ≡ false → s ≡ false → is_early (state_after_segment e how m) ≡ false
        → is_early (if r then was_reset e how moment else if s then on_syn h e how m moment else taken h e how m moment).state ≡ false
    go true s p q x = absurd cc
    go false true p q x = absurd cc
    go false false p q x = x

shut_late : (st : State) → is_early st ≡ false → is_early (ended_state st) ≡ false
shut_late states.Established h = refl
shut_late states.CloseWait h = refl
shut_late states.Closed h = h
shut_late states.Listen h = h
shut_late states.SynSent h = h
shut_late states.SynReceived h = h
shut_late states.FinWait1 h = h
shut_late states.FinWait2 h = h
shut_late states.Closing h = h
shut_late states.LastAck h = h
shut_late states.TimeWait h = h

stays_shut : (e : Endpoint) → Stays e (after_shut e)
stays_shut e =
    stays_either (is_syn_sent e.state) e (shut_down (record e { stream = record e.stream { ended = true } }))
    (after_ending e) (record { listener = refl; late = λ h. refl }) (record { listener = refl; late = shut_late e.state })

stays_close : (e : Endpoint) → Stays e (after_close e)
stays_close e = let x = stays_shut e in record { listener = x.listener; late = x.late }

stays_abort : (e : Endpoint) → Stays e (after_abort e)
stays_abort e = record { listener = refl; late = λ h. refl }

-- 2. acts

keeps_same : (b : HostTcp) (o : Option ℕ) → Sound b → Keeps b b o
keeps_same b o g = record { sound = g; stays = λ n i e. e; given = λ n e. inl e }

keeps_taking : (h : Header) (b : HostTcp) (how : TakeChoice) (m : Emission) (moment : ℕ) → Sound b → Keeps b (after_taking h b how m moment (taker b m)) None
keeps_taking h b how m moment g = go (taker b m) refl
  where
    by : (m : Emission) (i : ℕ) (e : Endpoint) → slice_get b.endpoints i ≡ Some e → (c : Bool) (o : Option ℕ)
        → (is_syn_received e.state && acknowledges_syn e m) ≡ c → e.listener ≡ o
        → Keeps b (record b {
          endpoints = modify b.endpoints i (λ x. endpoint_taken h x how m moment);
          listeners = if c then option_map_or
              (λ l. modify b.listeners l (λ x. record x { queue = x.queue ++ i ∷ [] })) o b.listeners
              else b.listeners;
        }) None
    by m i e at false o is his =
        keeps_endpoints b (modify b.endpoints i (λ x. endpoint_taken h x how m moment)) g
        (stay_modify (λ x. endpoint_taken h x how m moment) b.endpoints i (λ x there. stays_taken h x how m moment))
    by m i e at true None is his =
        keeps_endpoints b (modify b.endpoints i (λ x. endpoint_taken h x how m moment)) g
        (stay_modify (λ x. endpoint_taken h x how m moment) b.endpoints i (λ x there. stays_taken h x how m moment))
    by m i e at true (Some l) is his =
        let first =
        keeps_endpoints b (modify b.endpoints i (λ x. endpoint_taken h x how m moment)) g
        (stay_modify (λ x. endpoint_taken h x how m moment) b.endpoints i
        (λ x there. stays_taken h x how m moment)) in
        record {
          sound =
              sound_joined (record b { endpoints = modify b.endpoints i (λ x. endpoint_taken h x how m moment) }) i l
              (endpoint_taken h e how m moment) first.sound
              (modify_here (λ x. endpoint_taken h x how m moment) b.endpoints i e at)
              ((stays_taken h e how m moment).listener ∙ his) (late_joined h e how m moment is)
              (λ k x.
              let q = g.queued l k i x in
              let one : q.0 ≡ e = same_Some q.0 e (sym q.1 ∙ at) in
              let late = subst (λ (y : Endpoint). is_early y.state ≡ false) one q.3 in
              true_false (both_true (is_syn_received e.state) (acknowledges_syn e m) is).0 (neither (is_syn_sent e.state) (is_syn_received e.state) late).1);
          stays = first.stays;
          given = first.given;
        }

    go : (t : Taker) → taker b m ≡ t → Keeps b (after_taking h b how m moment t) None
    go Nobody is = keeps_not b g
    go (AtListener l) is =
        keeps_endpoints b (b.endpoints ++ child (profile_of h) l how m moment ∷ []) g (stay_push b.endpoints (child (profile_of h) l how m moment))
    go (AtEndpoint i e) is = let k : Emission = as_read h.version e m in
        by k i e (taker_there b m i e is) (is_syn_received e.state && acknowledges_syn e k) e.listener refl refl

keeps_dead : (b c : HostTcp) (n : ℕ) → Sound b → AllStay b.endpoints c.endpoints
    → ((l : ℕ) → queue_of c l ≡ queue_of b l) → Keeps b (record c { sockets = dead b.sockets n }) None
keeps_dead b c n g stay queues = record {
  sound = keeps_stay b (record c { sockets = dead b.sockets n }) g stay (dead_owner b n) queues;
  stays = λ m i e. dead_owner b n m ∙ e;
  given = λ m e. inl (dead_given b n m e);
}

-- without a listener, with the same socket numbers
keeps_without : (b : HostTcp) (l : ℕ) → Sound b → Keeps b (without_listener b l) None
keeps_without b l g = record {
  sound = keeps_stay b (without_listener b l) g
      (stay_map (orphaned l) b.endpoints
      (λ e. stays_either (option_map_or (λ holder. holder == l) e.listener false) e (after_abort e) e
      (stays_abort e) (stays_not e)))
      (λ m. refl) (λ k. queue_modify (λ x. record x { is_open = false }) (λ x. refl) b.listeners l k);
  stays = λ m i e. e;
  given = λ m e. inl e;
}

keeps_ended : (b : HostTcp) (n : ℕ) (f : Endpoint → Endpoint) → ((e : Endpoint) → Stays e (f e)) → Sound b → Keeps b (after_gone b n f b.sockets) None
keeps_ended b n f stay g =
    map_or_cases (λ (c : HostTcp). Keeps b c None) (socket_target b n) b
    (λ target. record (target_gone b target f) { sockets = b.sockets }) (λ e. keeps_not b g) (λ target e. go target)
  where
    go : (target : SocketTarget) → Keeps b (record (target_gone b target f) { sockets = b.sockets }) None
    go (ListenerAt l) = keeps_without b l g
    go (EndpointAt i) = keeps_endpoints b (modify b.endpoints i f) g (stay_modify f b.endpoints i (λ e at. stay e))

keeps_gone : (b : HostTcp) (n : ℕ) (f : Endpoint → Endpoint) → ((e : Endpoint) → Stays e (f e)) → Sound b
    → Keeps b (after_gone b n f (dead b.sockets n)) None
keeps_gone b n f stay g =
    map_or_cases (λ (c : HostTcp). Keeps b c None) (socket_target b n) b
    (λ target. record (target_gone b target f) { sockets = dead b.sockets n }) (λ e. keeps_not b g) (λ target e. go target)
  where
    go : (target : SocketTarget) → Keeps b (record (target_gone b target f) { sockets = dead b.sockets n }) None
    go (ListenerAt l) = keeps_dead b (without_listener b l) n g
        (stay_map (orphaned l) b.endpoints
        (λ e. stays_either (option_map_or (λ holder. holder == l) e.listener false) e (after_abort e) e
        (stays_abort e) (stays_not e)))
        (λ k. queue_modify (λ x. record x { is_open = false }) (λ x. refl) b.listeners l k)
    go (EndpointAt i) = keeps_dead b (with_endpoint b i f) n g (stay_modify f b.endpoints i (λ e at. stay e)) (λ k. refl)

keeps_change : (b : HostTcp) (n : ℕ) (f : Endpoint → Endpoint) → ((e : Endpoint) → Stays e (f e)) → Sound b → Keeps b (change b n f) None
keeps_change b n f stay g =
    map_or_cases (λ (c : HostTcp). Keeps b c None) (socket_target b n) b (change_target b f) (λ e. keeps_not b g) (λ target e. go target)
  where
    go : (target : SocketTarget) → Keeps b (change_target b f target) None
    go (ListenerAt l) = keeps_not b g
    go (EndpointAt i) = keeps_endpoints b (modify b.endpoints i f) g (stay_modify f b.endpoints i (λ e at. stay e))

get_push : (xs : List Endpoint) (y : Endpoint) → slice_get (xs ++ y ∷ []) (length xs) ≡ Some y
get_push [] y = refl
get_push (x ∷ xs) y = get_push xs y

keeps_accept : (b : HostTcp) (n : ℕ) (target : SocketTarget) → Sound b → given b n ≡ false → Keeps b (after_accept b n target) (Some n)
keeps_accept b n (EndpointAt i) g new = keeps_same b (Some n) g
keeps_accept b n (ListenerAt l) g new = go (queue_of b l) refl
  where
    go : (queue : List ℕ) → queue_of b l ≡ queue → Keeps b (accepted_from b l n queue) (Some n)
    go [] is = keeps_same b (Some n) g
    go (c ∷ queue) is = keeps_accepted b l n c queue g new is

keeps_call : (p : Profile) (b : HostTcp) (call : Call) (answer : Answer) → Sound b → ((n : ℕ) → gives call answer ≡ Some n → given b n ≡ false)
    → Keeps b (after_call p b call answer) (gives call answer)
keeps_call p b (calls.Listen host port backlog) (answers.Given n) g new =
    let wide : HostTcp = record b { listeners = b.listeners ++ record { port = port; backlog = backlog; is_open = true; queue = [] } ∷ [] } in
    let x =
    keeps_listener wide n (length b.listeners)
    (keeps_stay b wide g (λ i e at. (e, at, stays_not e)) (λ m. refl)
    (λ k. queue_push b.listeners (record { port = port; backlog = backlog; is_open = true; queue = [] }) k
    refl)) (new n refl) in
    record { sound = x.sound; stays = x.stays; given = x.given }
keeps_call p b (calls.Connect host lport rport) (answers.Given n) g new =
    let e : Endpoint = new_endpoint lport rport None states.SynSent p in
    let wide : HostTcp = record b { endpoints = b.endpoints ++ e ∷ [] } in
    let x =
    keeps_socket wide n (length b.endpoints) e
    (keeps_stay b wide g (stay_push b.endpoints e) (λ m. refl) (λ k. refl)) (new n refl)
    (get_push b.endpoints e) refl
    (λ m own. let y = g.named m (length b.endpoints) own in let within = slice_get_within b.endpoints (length b.endpoints) y.0 y.1 in omega arith) in
    record { sound = x.sound; stays = x.stays; given = x.given }
keeps_call p b (calls.Accept h) (answers.Given n) g new =
    map_or_cases (λ (c : HostTcp). Keeps b c (Some n)) (socket_target b h) b (after_accept b n)
    (λ e. keeps_same b (Some n) g) (λ target e. keeps_accept b n target g (new n refl))
keeps_call p b (calls.Send h bytes) (answers.Given n) g new = keeps_change b h (after_send bytes n) (λ e. record { listener = refl; late = λ x. x }) g
keeps_call p b (calls.Recv h most) (answers.Bytes bytes) g new = keeps_change b h (after_recv bytes) (λ e. record { listener = refl; late = λ x. x }) g
keeps_call p b (calls.Shut h) answers.Done g new = keeps_ended b h after_shut stays_shut g
keeps_call p b (calls.Close h) answers.Done g new = keeps_gone b h after_close stays_close g
keeps_call p b (calls.Abort h) answers.Done g new = keeps_gone b h after_abort stays_abort g
keeps_call p b call answer g new = keeps_same b (gives call answer) g

-- 3. steps

keeps_host_step : (h : Header) (s : ℕ) (w : World tcp_shape) (host : Host) (d : HostStep tcp_shape)
    → Sound (pick w.hosts host).body
    → Keeps (pick w.hosts host).body
    (host_step_after (tcp h) host s (suc w.count) (pick w.hosts (other host)).wire (pick w.hosts host) d).body None
keeps_host_step h s w host (Does x) g =
    keeps_at_ports (pick w.hosts host).body x.lport x.rport (λ e. after_recovery e x.change x.cwnd x.ssthresh s) g
    (λ e. record { listener = refl; late = λ y. y })
keeps_host_step h s w host (Expires line x) g =
    keeps_at_ports (pick w.hosts host).body x.lport x.rport (λ e. after_expiry e x.expired s) g
    (λ e. stays_expiry e x.expired s)
keeps_host_step h s w host (Makes m) g = keeps_at_ports (pick w.hosts host).body m.lport m.rport (λ e. after_making e m s) g (λ e. stays_making e m s)
keeps_host_step h s w host (Sends line number wire) g = keeps_not (pick w.hosts host).body g
keeps_host_step h s w host (Gets line copied wire) g = keeps_not (pick w.hosts host).body g
keeps_host_step h s w host (Hears line wire) g = keeps_not (pick w.hosts host).body g
keeps_host_step h s w host (Takes line how) g = let k = pick w.hosts host in
    on_cases (λ (b : HostTcp). Keeps k.body b None) (waiting line k.inbox) k.body _ (keeps_not k.body g)
    (λ m e. keeps_taking h k.body how m s g)
keeps_host_step h s w host (Drops line) g = keeps_not (pick w.hosts host).body g
keeps_host_step h s w host (Answers line) g = let k = pick w.hosts host in
    on_cases (λ (b : HostTcp). Keeps k.body b None) (waiting line k.inbox) k.body _ (keeps_not k.body g)
    (λ m e. keeps_not k.body g)

-- sockets and queues after a step of the world
pub record SoundStep (a b : Hosts) : Type 0 where
  pub sound : (x : Host) → Sound (pick b x).body
  pub stays : (x : Host) (n i : ℕ) → owner (pick a x).body n ≡ Some i → owner (pick b x).body n ≡ Some i
  pub apart : Apart b

sound_not : (a : Hosts) → ((x : Host) → Sound (pick a x).body) → Apart a → SoundStep a a
sound_not a g apart = record { sound = g; stays = λ x n i e. e; apart = apart }

sound_host : (a : Hosts) (host : Host) (k : HostState tcp_shape) (o : Option ℕ) → ((x : Host) → Sound (pick a x).body)
    → Apart a → ((n : ℕ) → o ≡ Some n → (given a.zero.body n ≡ false) × (given a.one.body n ≡ false))
    → Keeps (pick a host).body k.body o → SoundStep a (with_host a host k)
sound_host a host k o g apart fresh keeps = record {
  sound = with_cases a host k (λ x y. Sound y.body) keeps.sound (g (other host));
  stays = with_cases a host k (λ x y. (n i : ℕ) → owner (pick a x).body n ≡ Some i → owner y.body n ≡ Some i) keeps.stays (λ n i e. e);
  apart = go host keeps;
}
  where
    zero_new : (n : ℕ) → given a.one.body n ≡ true → (given a.zero.body n ≡ true) ⊎ (o ≡ Some n) → ⊥
    zero_new n other' (inl old) = apart n old other'
    zero_new n other' (inr new) = true_false other' (fresh n new).1

    one_new : (n : ℕ) → given a.zero.body n ≡ true → (given a.one.body n ≡ true) ⊎ (o ≡ Some n) → ⊥
    one_new n other' (inl old) = apart n other' old
    one_new n other' (inr new) = true_false other' (fresh n new).0

    go : (host : Host) → Keeps (pick a host).body k.body o → Apart (with_host a host k)
    go Zero keeps = λ n z y. zero_new n y (keeps.given n z)
    go One keeps = λ n z y. one_new n z (keeps.given n y)

fresh_from : (h : Header) (a : Hosts) (o : Option ℕ) → first_broken (fresh_rules (tcp h) a o) ≡ None → (n : ℕ)
    → o ≡ Some n → (given a.zero.body n ≡ false) × (given a.one.body n ≡ false)
fresh_from h a None may n e = absurd (none-some n e)
fresh_from h a (Some m) may n e =
    let t = none_all ((rules.Socket, given a.zero.body m) ∷ (rules.Socket, given a.one.body m) ∷ []) may in
    subst (λ k. (given a.zero.body k ≡ false) × (given a.one.body k ≡ false)) (same_Some m n e) (t.0, t.1.0)

sound_effect : (h : Header) (s : ℕ) (w : World tcp_shape) (t : ℕ) (answer : Answer)
    → ((x : Host) → Sound (pick w.hosts x).body) → Apart w.hosts → Permitted (tcp h) s w (Effect t answer)
    → SoundStep w.hosts (after (tcp h) s w (Effect t answer)).hosts
sound_effect h s w t answer g apart may = go (turn_of t w.threads) may
  where
    a : Hosts
    a = w.hosts

    here : (host : Host) (n : ℕ) → (given a.zero.body n ≡ false) × (given a.one.body n ≡ false) → given (pick a host).body n ≡ false
    here Zero n f = f.0
    here One n f = f.1

    by : (call : Call) (o : Option Host) → first_broken (fresh_rules (tcp h) a (gives call answer)) ≡ None
        → SoundStep a (call_after (tcp h) s a (Calls call answer) o)
    by call None new = sound_not a g apart
    by call (Some host) new = let fresh = fresh_from h a (gives call answer) new in
        sound_host a host (record (pick a host) { body = after_call (profile_of h) (pick a host).body call answer })
        (gives call answer) g apart fresh
        (keeps_call (profile_of h) (pick a host).body call answer (g host) (λ n e. here host n (fresh n e)))

    go : (u : Turn tcp_shape) → first_broken (effect_rules (tcp h) s a u answer) ≡ None → SoundStep a (effect_after (tcp h) s w t answer u).hosts
    go Idle may = sound_not a g apart
    go (Called call) may = by call (aim_of (tcp h) a (aim call)) (effect_allowed h s a call answer (aim_of (tcp h) a (aim call)) may).0
    go (Answered x) may = sound_not a g apart

pub sound_step : (h : Header) (s : ℕ) (w : World tcp_shape) (step : Step tcp_shape)
    → ((x : Host) → Sound (pick w.hosts x).body) → Apart w.hosts → Permitted (tcp h) s w step
    → SoundStep w.hosts (after (tcp h) s w step).hosts
sound_step h s w (Begin line t call) g apart may = sound_not w.hosts g apart
sound_step h s w (Finish line t answer) g apart may = sound_not w.hosts g apart
sound_step h s w (Effect t answer) g apart may = sound_effect h s w t answer g apart may
sound_step h s w (At host d) g apart may =
    sound_host w.hosts host (host_step_after (tcp h) host s (suc w.count) (pick w.hosts (other host)).wire
    (pick w.hosts host) d) None g apart (λ n e. absurd (none-some n e)) (keeps_host_step h s w host d (g host))
