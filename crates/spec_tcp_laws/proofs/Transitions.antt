-- What each step makes of the states and the positions of endpoints.
use Rattle.std.proofs.Common.{◌≡◌, ℕ, zero, suc, ◌≤◌, ◌⊎◌, Bool, true, false, List, [], ◌∷◌, ◌++◌, length, map, Option}
use Rattle.std.proofs.Common.{Some, None, refl, ap, sym, subst, ◌∙◌, inl, inr}
use Rattle.std.specs.Prelude.{if◌then◌else◌, ◌==◌, ◌+◌, ◌-◌, max, replicate, slice_get, ◌&&◌, not, nat_lt, is_some}
use Rattle.std.specs.Option.{option_map_or}
use Rattle.std.proofs.Math.Nat.{le_refl, le-max_left, le-add_right}
use Rattle.std.proofs.lemmas.List.{length-append}
use Rattle.std.proofs.lemmas.Option.{none-some, same_Some}
use Rattle.case_forms.specs.States.{is_syn_sent, is_time_wait}
use Rattle.case_forms.specs.Versions.{is_half}
use Rattle.case_forms.specs.declared.calls.Answer.{Answer}
use Rattle.case_forms.specs.declared.calls.Answer.TheVariants as answers
use Rattle.case_forms.specs.declared.calls.Call.{Call}
use Rattle.case_forms.specs.declared.calls.Call.TheVariants as calls
use Rattle.case_forms.specs.declared.calls.Host.{Host}
use Rattle.case_forms.specs.declared.calls.State.{State}
use Rattle.case_forms.specs.declared.calls.State.TheVariants as states
use Rattle.case_forms.specs.declared.steps.SegmentPlan.{SegmentPlan}
use Rattle.case_forms.specs.declared.steps.TakeChoice.{TakeChoice}
use Rattle.case_forms.specs.declared.taken_line.Expired.{Expired}
use Rattle.case_forms.specs.declared.taken_line.Expired.TheVariants as expireds
use Rattle.case_forms.specs.declared.timer.Timer.TheVariants.{Msl2, Persist, Pto, Rto}
use Rattle.case_forms.specs.declared.trace.Header.{Header}
use Rattle.streams.specs.declared.transmission.Transmission.{Transmission}
use Rattle.streams.specs.Lists.{modify}
use Rattle.streams.specs.Transmissions.{made, mark, once}
use Rattle.streams.specs.Received.{is_ended}
use Rattle.streams.proofs.Places.{get_append, all_push, all_modify}
use Rattle.spec_network.specs.Tables.{pick, other, with_host, waiting}
use Rattle.spec_network.specs.Hosts.{HostState, Turn, Idle, Called, Answered, World, HostStep, Does, Expires, Makes, Sends}
use Rattle.spec_network.specs.Hosts.{Gets, Hears, Takes, Drops, Answers, Step, Begin, Finish, Effect, At, Stamped}
use Rattle.spec_network.specs.Hosts.{turn_of}
use Rattle.spec_network.specs.HostRules.{aim_of, Permitted}
use Rattle.spec_network.specs.HostSteps.{host_step_after, call_after, effect_after, after, start, Lawful}
use Rattle.window_rules.specs.declared.control.Profile.{Profile}
use Rattle.spec_tcp.specs.Signals.{profile_of}
use Rattle.spec_tcp.specs.declared.endpoint.EndpointId.{EndpointId}
use Rattle.spec_tcp.specs.declared.endpoint.Endpoint.{Endpoint}
use Rattle.spec_tcp.specs.declared.endpoint.Emission.{Emission}
use Rattle.spec_tcp.specs.declared.endpoint.Socket.{Socket}
use Rattle.spec_tcp.specs.declared.endpoint.SocketTarget.{SocketTarget}
use Rattle.spec_tcp.specs.declared.endpoint.SocketTarget.TheVariants.{ListenerAt, EndpointAt}
use Rattle.spec_tcp.specs.declared.endpoint.Windows.{Windows}
use Rattle.spec_tcp.specs.Endpoints.{snd_max, rcv_nxt, new_endpoint}
use Rattle.spec_tcp.specs.HostTcp.{HostTcp, place_of, at_ports, with_endpoint, socket_target, queue_of, dead}
use Rattle.spec_tcp.specs.Calls.Send.{after_send}
use Rattle.spec_tcp.specs.Calls.Receive.{after_recv}
use Rattle.spec_tcp.specs.Calls.Close.{shut_down, ended_state, after_ending, after_shut, after_close, after_abort, orphaned, target_gone}
use Rattle.spec_tcp.specs.Calls.Accept.{accepted_from, after_accept}
use Rattle.spec_tcp.specs.Calls.{change_target, after_call}
use Rattle.spec_tcp.specs.Makes.Payload.{making_length}
use Rattle.spec_tcp.specs.Makes.Edges.{own_window}
use Rattle.spec_tcp.specs.Makes.{endpoint_made, after_making, timed}
use Rattle.spec_tcp.specs.Arrives.OtherStates.Timers.{since_made, timeout_after_ack, rto_after_ack, state_timers, timers_after_segment}
use Rattle.timer_rules.specs.Timers.{armed, expired, stopped, sampled, raised_for_lost_syn}
use Rattle.timer_rules.specs.declared.timers.Timers.{Timers}
use Rattle.spec_tcp.specs.Heard.{as_read, read_at}
use Rattle.spec_tcp.specs.Arrives.OtherStates.Ack.{is_new_ack, acknowledges_syn, fin_acknowledged, acknowledged, snd_una_after_segment}
use Rattle.spec_tcp.specs.Arrives.OtherStates.Fin.{finished}
use Rattle.spec_tcp.specs.Arrives.OtherStates.Reset.{was_reset}
use Rattle.spec_tcp.specs.Arrives.OtherStates.Text.{receive_after, state_after_segment}
use Rattle.spec_tcp.specs.Arrives.OtherStates.Window.{takes_window, window_after_segment, persist_after_window}
use Rattle.spec_tcp.specs.Arrives.OtherStates.{taken as segment_taken}
use Rattle.spec_tcp.specs.Arrives.SynSent.{on_syn}
use Rattle.spec_tcp.specs.Arrives.Listen.{child}
use Rattle.spec_tcp.specs.Arrives.{Taker, Nobody, AtListener, AtEndpoint, taker, endpoint_taken, after_taking}
use Rattle.spec_tcp.specs.Timeouts.{after_expiry}
use Rattle.spec_tcp.specs.Recovery.{after_recovery}
use Rattle.spec_tcp.specs.Machine.{Calls, Expiring, tcp, tcp_shape, aim}
use Rattle.spec_tcp_laws.specs.Runs.{world_at_end}
use Rattle.spec_tcp_laws.specs.Consequences.{find}
use Rattle.spec_tcp_laws.specs.Bounds.{TakesThere}
use Rattle.spec_tcp_laws.specs.Transitions.{StaysOr, close_leads, segment_leads, fin_leads, closed_number, left_number}
use Rattle.spec_tcp_laws.specs.Transitions.{CallsOn, closes, TimerCloses, MayLead, Stays, ByClose, ByAbort, ByListener}
use Rattle.spec_tcp_laws.specs.Transitions.{BySegment, ByReset, ByOwnReset, ByTimer, StatesFollow, PositionsNeverFall}
use Rattle.spec_tcp_laws.specs.Transitions.{WaitsOn}
use Rattle.spec_tcp_laws.proofs.Rules.{on_cases, map_or_cases, map_or_true, number_same}
use Rattle.spec_tcp_laws.proofs.Later.{Hosts, name}
use Rattle.spec_tcp_laws.proofs.Moves.{with_cases, modify_each, map_onward, map_back}
use Rattle.spec_tcp_laws.proofs.Takes.{taker_there}
use Rattle.spec_tcp_laws.proofs.Runs.{steady_start, steady_run, later_step}

not_both : {b : Bool} → b ≡ true → b ≡ false → ⊥
not_both is is' = let clash : true ≡ false = sym is ∙ is' in absurd cc

-- the positions that a step by itself leaves at or above what they were
abbrev Rises : Endpoint → Endpoint → Type 0
Rises e f = (e.stream.snd_una ≤ f.stream.snd_una) × (snd_max e ≤ snd_max f) × (e.window.rcv_adv ≤ f.window.rcv_adv)

level : (e : Endpoint) → Rises e e
level e = (le_refl e.stream.snd_una, le_refl (snd_max e), le_refl e.window.rcv_adv)

-- the moment since which an endpoint waits in TIME-WAIT stays
abbrev SameWait : Endpoint → Endpoint → Type 0
SameWait e f = is_time_wait e.state ≡ true → is_time_wait f.state ≡ true → f.timers.msl_armed ≡ e.timers.msl_armed

-- an endpoint over a step
record Goes (w : World tcp_shape) (step : Step tcp_shape) (me : EndpointId) (e f : Endpoint) : Type 0 where
  pub leads : MayLead w step me e f.state
  pub rises : Rises e f
  pub waits : SameWait e f

-- its state, its positions and its timers stay
stays : (w : World tcp_shape) (step : Step tcp_shape) (me : EndpointId) (e f : Endpoint) → f.state ≡ e.state → Rises e f
    → f.timers.msl_armed ≡ e.timers.msl_armed → Goes w step me e f
stays w step me e f state rises timers = record { leads = Stays state; rises = rises; waits = λ was is. timers }

-- it is CLOSED
closed : (w : World tcp_shape) (step : Step tcp_shape) (me : EndpointId) (e f : Endpoint) → f.state ≡ states.Closed
    → Rises e f → MayLead w step me e f.state → Goes w step me e f
closed w step me e f state rises leads = record { leads = leads; rises = rises; waits = λ was is. absurd (not_both is (ap is_time_wait state)) }

calm : (w : World tcp_shape) (step : Step tcp_shape) (me : EndpointId) (e : Endpoint) → Goes w step me e e
calm w step me e = stays w step me e e refl (level e) refl

-- an endpoint begins so
abbrev Begins : Endpoint → Type 0
Begins f = (f.state ≡ states.SynSent) ⊎ (f.state ≡ states.SynReceived)

-- the endpoints of a host after a step
record Gone (w : World tcp_shape) (step : Step tcp_shape) (host : Host) (es fs : List Endpoint) : Type 0 where
  pub onward : (i : ℕ) (e : Endpoint) → slice_get es i ≡ Some e → (f : Endpoint) × (slice_get fs i ≡ Some f) × Goes w step (name host i) e f
  pub back : (i : ℕ) (f : Endpoint) → slice_get fs i ≡ Some f → ((e : Endpoint) × (slice_get es i ≡ Some e)) ⊎ Begins f

gone_not : (w : World tcp_shape) (step : Step tcp_shape) (host : Host) (es : List Endpoint) → Gone w step host es es
gone_not w step host es = record { onward = λ i e at. (e, at, calm w step (name host i) e); back = λ i f at. inl (f, at) }

gone_one : (w : World tcp_shape) (step : Step tcp_shape) (host : Host) (es : List Endpoint) (i : ℕ)
    (f : Endpoint → Endpoint) → ((e : Endpoint) → slice_get es i ≡ Some e → Goes w step (name host i) e (f e))
    → Gone w step host es (modify es i f)
gone_one w step host es i f new = record {
  onward = modify_each (λ j. Goes w step (name host j)) f es i (λ j e at n. calm w step (name host j) e) new;
  back = all_modify (λ j y. ((e : Endpoint) × (slice_get es j ≡ Some e)) ⊎ Begins y) f es i (λ j e x. inl (e, x)) (λ e x. inl (e, x));
}

gone_map : (w : World tcp_shape) (step : Step tcp_shape) (host : Host) (es : List Endpoint) (f : Endpoint → Endpoint)
    → ((i : ℕ) (e : Endpoint) → Goes w step (name host i) e (f e)) → Gone w step host es (map f es)
gone_map w step host es f new = record {
  onward = map_onward (λ j. Goes w step (name host j)) f es (λ j e at. new j e);
  back = λ j y e. let h = map_back f es j y e in inl (h.0, h.1);
}

gone_push : (w : World tcp_shape) (step : Step tcp_shape) (host : Host) (es : List Endpoint) (e : Endpoint) → Begins e → Gone w step host es (es ++ e ∷ [])
gone_push w step host es e new = record {
  onward = λ i x at. (x, get_append es (e ∷ []) i x at, calm w step (name host i) x);
  back = all_push (λ j y. ((x : Endpoint) × (slice_get es j ≡ Some x)) ⊎ Begins y) es e (λ j x at. inl (x, at)) (inr new);
}

-- the endpoint of some ports changes
gone_at_ports : (w : World tcp_shape) (step : Step tcp_shape) (host : Host) (b : HostTcp) (lport rport : ℕ) (f : Endpoint → Endpoint)
    → ((i : ℕ) (e : Endpoint) → place_of b lport rport ≡ Some i → Goes w step (name host i) e (f e))
    → Gone w step host b.endpoints (at_ports b lport rport f).endpoints
gone_at_ports w step host b lport rport f new =
    map_or_cases (λ (x : HostTcp). Gone w step host b.endpoints x.endpoints) (place_of b lport rport) b
    (λ i. with_endpoint b i f)
    (λ e. gone_not w step host b.endpoints) (λ i at. gone_one w step host b.endpoints i f (λ e there. new i e at))

-- 1. one endpoint

ended_leads : (s : State) → StaysOr close_leads s (ended_state s)
ended_leads states.Established = inr refl
ended_leads states.CloseWait = inr refl
ended_leads s = inl refl

length-mark : (position count : ℕ) (all : List Transmission) → length (mark position count all) ≡ length all
length-mark position count [] = refl
length-mark (suc position) count (x ∷ all) = ap (λ n. suc n) (length-mark position count all)
length-mark zero zero (x ∷ all) = refl
length-mark zero (suc count) (x ∷ all) = ap (λ n. suc n) (length-mark zero count all)

-- what was made stays made
made_rises : (all : List Transmission) (position count moment : ℕ) → length all ≤ length (made all position count moment)
made_rises all position count moment =
    let more = replicate (position + count - length all) (once moment) in
    let longer : length (made all position count moment) ≡ length all + length more =
    length-append (mark position count all) more ∙ ap (λ n. n + length more) (length-mark position count all) in
    subst (λ n. length all ≤ n) (sym longer) (le-add_right (length all) (length more))

either_edge : (b : Bool) (old new : ℕ) → old ≤ (if b then max old new else old)
either_edge true old new = le-max_left old new
either_edge false old new = le_refl old

making_rises : (e : Endpoint) (m : SegmentPlan) (moment : ℕ) → Rises e (endpoint_made e m moment)
making_rises e m moment = (
  le_refl e.stream.snd_una,
  made_rises e.transmissions m.pos (making_length m) moment,
  either_edge m.flags.ack e.window.rcv_adv (rcv_nxt e + own_window e m),
)

timed_waits : (t : Timers) (m : SegmentPlan) (moment : ℕ) → (timed t m moment).msl_armed ≡ t.msl_armed
timed_waits t m moment = go (nat_lt 0 (making_length m) && not (is_some t.rto_armed))
  where
    go : (b : Bool) → (if b then armed t Rto moment else t).msl_armed ≡ t.msl_armed
    go true = refl
    go false = refl

making_goes : (w : World tcp_shape) (s : ℕ) (host : Host) (m : SegmentPlan) (i : ℕ) (e : Endpoint)
    → place_of (pick w.hosts host).body m.lport m.rport ≡ Some i
    → Goes w (At host (Makes m)) (name host i) e (after_making e m s)
making_goes w s host m i e at = go m.flags.rst refl
  where
    go : (b : Bool) → m.flags.rst ≡ b
        → Goes w (At host (Makes m)) (name host i) e
        (if b then record (shut_down (endpoint_made e m s)) { reset_due = false } else endpoint_made e m s)
    go true is =
        closed w (At host (Makes m)) (name host i) e
        (record (shut_down (endpoint_made e m s)) { reset_due = false }) refl (making_rises e m s)
        (ByOwnReset (m, refl, is, at) refl)
    go false is = stays w (At host (Makes m)) (name host i) e (endpoint_made e m s) refl (making_rises e m s) (timed_waits e.timers m s)

probed_waits : (t : Timers) (moment : ℕ) → (expired t Pto moment).msl_armed ≡ t.msl_armed
probed_waits t moment = go (is_some t.rto_armed)
  where
    go : (b : Bool) → (if b then armed t Rto moment else t).msl_armed ≡ t.msl_armed
    go true = refl
    go false = refl

expiry_goes : (w : World tcp_shape) (s : ℕ) (host : Host) (line : ℕ) (x : Expiring) (i : ℕ) (e : Endpoint)
    → place_of (pick w.hosts host).body x.lport x.rport ≡ Some i
    → Goes w (At host (Expires line x)) (name host i) e (after_expiry e x.expired s)
expiry_goes w s host line x i e at = go x.expired (λ closing. (line, x, refl, closing, at))
  where
    go : (t : Expired) → (closes t ≡ true → TimerCloses w (At host (Expires line x)) (name host i))
        → Goes w (At host (Expires line x)) (name host i) e (after_expiry e t s)
    go (expireds.Rto growth) closing = stays w (At host (Expires line x)) (name host i) e (after_expiry e (expireds.Rto growth) s) refl (level e) refl
    go expireds.Persist closing = stays w (At host (Expires line x)) (name host i) e (after_expiry e expireds.Persist s) refl (level e) refl
    go expireds.Msl2 closing = closed w (At host (Expires line x)) (name host i) e (after_expiry e expireds.Msl2 s) refl (level e) (ByTimer (closing refl) refl)
    go expireds.Giveup closing =
        closed w (At host (Expires line x)) (name host i) e (after_expiry e expireds.Giveup s) refl (level e)
        (ByTimer (closing refl) refl)
    go expireds.Pto closing =
        stays w (At host (Expires line x)) (name host i) e (after_expiry e expireds.Pto s) refl (level e) (probed_waits e.timers s)

-- the arrows of an acknowledgment, and behind it those of a FIN
acknowledged_leads : (s : State) (e : Endpoint) (m : Emission) → StaysOr segment_leads s (acknowledged s e m)
acknowledged_leads states.SynReceived e m = go (acknowledges_syn e m) e.stream.ended
  where
    go : (b c : Bool) → StaysOr segment_leads states.SynReceived (if b then (if c then states.FinWait1 else states.Established) else states.SynReceived)
    go true true = inr refl
    go true false = inr refl
    go false c = inl refl
acknowledged_leads states.FinWait1 e m = go (fin_acknowledged e m)
  where
    go : (b : Bool) → StaysOr segment_leads states.FinWait1 (if b then states.FinWait2 else states.FinWait1)
    go true = inr refl
    go false = inl refl
acknowledged_leads states.Closing e m = go (fin_acknowledged e m)
  where
    go : (b : Bool) → StaysOr segment_leads states.Closing (if b then states.TimeWait else states.Closing)
    go true = inr refl
    go false = inl refl
acknowledged_leads states.LastAck e m = go (fin_acknowledged e m)
  where
    go : (b : Bool) → StaysOr segment_leads states.LastAck (if b then states.Closed else states.LastAck)
    go true = inr refl
    go false = inl refl
acknowledged_leads s e m = inl refl

finished_leads : (s : State) (passed : Bool) → StaysOr fin_leads s (finished s passed)
finished_leads states.Established true = inr refl
finished_leads states.FinWait1 true = inr refl
finished_leads states.FinWait2 true = inr refl
finished_leads s passed = inl refl

taken_edge : (e : Endpoint) (m : Emission) → e.window.rcv_adv ≤ (window_after_segment e m).rcv_adv
taken_edge e m = go (takes_window e m) _ refl
  where
    go : (b : Bool) (new : Windows) → new.rcv_adv ≡ e.window.rcv_adv → e.window.rcv_adv ≤ (if b then new else e.window).rcv_adv
    go true new same = subst (λ n. e.window.rcv_adv ≤ n) (sym same) (le_refl e.window.rcv_adv)
    go false new same = le_refl e.window.rcv_adv

-- the endpoint takes a segment, in SYN-SENT and in other states
met_leads : (s : State) → is_syn_sent s ≡ true → (b : Bool) → segment_leads s (if b then states.Established else states.SynReceived) ≡ true
met_leads states.SynSent is true = refl
met_leads states.SynSent is false = refl
met_leads s is b = absurd cc

met_una : (b : Bool) (snd_una : ℕ) → snd_una ≤ (if b then max snd_una 1 else snd_una)
met_una true snd_una = le-max_left snd_una 1
met_una false snd_una = le_refl snd_una

same_reset : (h : Header) (e : Endpoint) (m : Emission) → (as_read h.version e m).flags.rst ≡ m.flags.rst
same_reset h e m = go (is_half h.version)
  where
    go : (b : Bool) → (if b then read_at e m else m).flags.rst ≡ m.flags.rst
    go true = refl
    go false = refl

-- what a segment leaves of the wait in TIME-WAIT
timeout_waits : (h : Header) (e : Endpoint) (sample : Bool) (ack : ℕ) (syn : Bool) (moment : ℕ)
    → (timeout_after_ack h e sample ack syn moment).msl_armed ≡ e.timers.msl_armed
timeout_waits h e sample ack syn moment = go sample (syn && e.syn_lost)
  where
    go : (b c : Bool)
        → (if c then raised_for_lost_syn (if b then sampled e.timers (since_made e (ack - 1) moment) h else e.timers)
        else (if b then sampled e.timers (since_made e (ack - 1) moment) h else e.timers)).msl_armed
        ≡ e.timers.msl_armed
    go true true = refl
    go true false = refl
    go false true = refl
    go false false = refl

rto_waits : (t : Timers) (all new : Bool) (moment : ℕ) → (rto_after_ack t all new moment).msl_armed ≡ t.msl_armed
rto_waits t true new moment = refl
rto_waits t false true moment = refl
rto_waits t false false moment = refl

persist_waits : (t : Timers) (window moment : ℕ) → (persist_after_window t window moment).msl_armed ≡ t.msl_armed
persist_waits t window moment = go (nat_lt 0 window) (is_some t.persist_armed)
  where
    go : (b c : Bool) → (if b then stopped t Persist else if c then t else armed t Persist moment).msl_armed ≡ t.msl_armed
    go true c = refl
    go false true = refl
    go false false = refl

either_waits : (b : Bool) (t u : Timers) (since : Option ℕ) → t.msl_armed ≡ since → u.msl_armed ≡ since → (if b then t else u).msl_armed ≡ since
either_waits true t u since p q = p
either_waits false t u since p q = q

state_waits : (t : Timers) (old new : State) (moment : ℕ) → is_time_wait old ≡ true → is_time_wait new ≡ true
    → (state_timers t old new moment).msl_armed ≡ t.msl_armed
state_waits t old states.TimeWait moment was is = ap (λ (b : Bool). (if b then t else armed t Msl2 moment).msl_armed) was
state_waits t old new moment was is = absurd cc

taken_waits : (h : Header) (e : Endpoint) (how : TakeChoice) (m : Emission) (moment : ℕ) → is_time_wait e.state ≡ true
    → is_time_wait (state_after_segment e how m) ≡ true
    → (timers_after_segment h e how m moment).msl_armed ≡ e.timers.msl_armed
taken_waits h e how m moment was is =
    state_waits persisting e.state (state_after_segment e how m) moment was is
    ∙ either_waits (takes_window e m) (persist_after_window running m.window moment) running e.timers.msl_armed
    (persist_waits running m.window moment ∙ run) run
  where
    measured : Timers
    measured = timeout_after_ack h e (how.sample && is_new_ack e m) m.ack (acknowledges_syn e m) moment

    running : Timers
    running = rto_after_ack measured (snd_una_after_segment e m == snd_max e) (is_new_ack e m) moment

    persisting : Timers
    persisting = if takes_window e m then persist_after_window running m.window moment else running

    run : running.msl_armed ≡ e.timers.msl_armed
    run = rto_waits measured (snd_una_after_segment e m == snd_max e) (is_new_ack e m) moment
        ∙ timeout_waits h e (how.sample && is_new_ack e m) m.ack (acknowledges_syn e m) moment

not_waiting : (s : State) → is_syn_sent s ≡ true → is_time_wait s ≡ false
not_waiting states.SynSent is = refl
not_waiting s is = absurd cc

taking_goes : (h : Header) (w : World tcp_shape) (step : Step tcp_shape) (me : EndpointId) (e : Endpoint)
    (how : TakeChoice) (m r : Emission) (moment : ℕ) → r.flags.rst ≡ m.flags.rst → TakesThere w step me e m
    → Goes w step me e (endpoint_taken h e how r moment)
taking_goes h w step me e how m r moment same there = go r.flags.rst (is_syn_sent e.state) same refl
  where
    go : (b c : Bool) → b ≡ m.flags.rst → is_syn_sent e.state ≡ c
        → Goes w step me e (if b then was_reset e how moment else if c then on_syn h e how r moment else segment_taken h e how r moment)
    go true c rst is = closed w step me e (was_reset e how moment) refl (level e) (ByReset m there (sym rst) refl)
    go false true rst is = record {
      leads = BySegment m (on_syn h e how r moment).state there (sym rst) (inr (met_leads e.state is r.flags.ack)) (inl refl);
      rises = (met_una r.flags.ack e.stream.snd_una, le_refl (snd_max e), le_refl e.window.rcv_adv);
      waits = λ was now. absurd (not_both was (not_waiting e.state is));
    }
    go false false rst is = record {
      leads =
          BySegment m (acknowledged e.state e r) there (sym rst) (acknowledged_leads e.state e r)
          (finished_leads (acknowledged e.state e r) (is_ended (receive_after e how r)));
      rises = (le-max_left e.stream.snd_una r.ack, le_refl (snd_max e), taken_edge e r);
      waits = taken_waits h e how r moment;
    }

-- 2. what hosts do

gone_taking : (h : Header) (s : ℕ) (w : World tcp_shape) (host : Host) (line : ℕ) (how : TakeChoice) (m : Emission)
    → waiting line (pick w.hosts host).inbox ≡ Some m
    → Gone w (At host (Takes line how)) host (pick w.hosts host).body.endpoints
    (after_taking h (pick w.hosts host).body how m s (taker (pick w.hosts host).body m)).endpoints
gone_taking h s w host line how m waits = go (taker (pick w.hosts host).body m) refl
  where
    b : HostTcp
    b = (pick w.hosts host).body

    go : (t : Taker) → taker b m ≡ t → Gone w (At host (Takes line how)) host b.endpoints (after_taking h b how m s t).endpoints
    go Nobody is = gone_not w (At host (Takes line how)) host b.endpoints
    go (AtListener l) is = gone_push w (At host (Takes line how)) host b.endpoints (child (profile_of h) l how m s) (inr refl)
    go (AtEndpoint i e) is = gone_one w (At host (Takes line how)) host b.endpoints i (λ x. endpoint_taken h x how (as_read h.version e m) s)
        (λ x there.
        let one : e ≡ x = same_Some e x (sym (taker_there b m i e is) ∙ there) in
        taking_goes h w (At host (Takes line how)) (name host i) x how m (as_read h.version e m) s (same_reset h e m)
        (line, how, refl, waits, is ∙ ap (λ (y : Endpoint). AtEndpoint i y) one))

gone_host_step : (h : Header) (s : ℕ) (w : World tcp_shape) (host : Host) (d : HostStep tcp_shape)
    → Gone w (At host d) host (pick w.hosts host).body.endpoints
    (host_step_after (tcp h) host s (suc w.count) (pick w.hosts (other host)).wire (pick w.hosts host) d).body.endpoints
gone_host_step h s w host (Does x) =
    gone_at_ports w (At host (Does x)) host (pick w.hosts host).body x.lport x.rport (λ e. after_recovery e x.change x.cwnd x.ssthresh s)
    (λ i e at. stays w (At host (Does x)) (name host i) e (after_recovery e x.change x.cwnd x.ssthresh s) refl (level e) refl)
gone_host_step h s w host (Expires line x) =
    gone_at_ports w (At host (Expires line x)) host (pick w.hosts host).body x.lport x.rport
    (λ e. after_expiry e x.expired s)
    (λ i e at. expiry_goes w s host line x i e at)
gone_host_step h s w host (Makes m) = gone_at_ports w (At host (Makes m)) host (pick w.hosts host).body m.lport m.rport (λ e. after_making e m s)
    (λ i e at. making_goes w s host m i e at)
gone_host_step h s w host (Sends line number wire) = gone_not w (At host (Sends line number wire)) host (pick w.hosts host).body.endpoints
gone_host_step h s w host (Gets line copied wire) = gone_not w (At host (Gets line copied wire)) host (pick w.hosts host).body.endpoints
gone_host_step h s w host (Hears line wire) = gone_not w (At host (Hears line wire)) host (pick w.hosts host).body.endpoints
gone_host_step h s w host (Takes line how) = let k = pick w.hosts host in let step : Step tcp_shape = At host (Takes line how) in
    on_cases (λ (b : HostTcp). Gone w step host k.body.endpoints b.endpoints) (waiting line k.inbox) k.body _
    (gone_not w step host k.body.endpoints) (λ m e. gone_taking h s w host line how m e)
gone_host_step h s w host (Drops line) = gone_not w (At host (Drops line)) host (pick w.hosts host).body.endpoints
gone_host_step h s w host (Answers line) = let k = pick w.hosts host in let step : Step tcp_shape = At host (Answers line) in
    on_cases (λ (b : HostTcp). Gone w step host k.body.endpoints b.endpoints) (waiting line k.inbox) k.body _
    (gone_not w step host k.body.endpoints) (λ m e. gone_not w step host k.body.endpoints)

-- 3. calls

-- the endpoint that a socket number names changes
abbrev AtNumber : World tcp_shape → Step tcp_shape → Host → ℕ → (Endpoint → Endpoint) → Type 0
AtNumber w step host n f = (i : ℕ) (e : Endpoint) → socket_target (pick w.hosts host).body n ≡ Some (EndpointAt i) → Goes w step (name host i) e (f e)

gone_change : (w : World tcp_shape) (step : Step tcp_shape) (host : Host) (n : ℕ) (f : Endpoint → Endpoint) → AtNumber w step host n f
    → Gone w step host (pick w.hosts host).body.endpoints
    (option_map_or (change_target (pick w.hosts host).body f) (socket_target (pick w.hosts host).body n)
    (pick w.hosts host).body).endpoints
gone_change w step host n f new = let b = (pick w.hosts host).body in
    map_or_cases (λ (x : HostTcp). Gone w step host b.endpoints x.endpoints) (socket_target b n) b (change_target b f)
    (λ e. gone_not w step host b.endpoints) (λ target e. go target e)
  where
    go : (target : SocketTarget) → socket_target (pick w.hosts host).body n ≡ Some target
        → Gone w step host (pick w.hosts host).body.endpoints (change_target (pick w.hosts host).body f target).endpoints
    go (ListenerAt l) is = gone_not w step host (pick w.hosts host).body.endpoints
    go (EndpointAt i) is = gone_one w step host (pick w.hosts host).body.endpoints i f (λ e at. new i e is)

-- a `shut` or a `close`
ending_goes : (w : World tcp_shape) (step : Step tcp_shape) (me : EndpointId) (e : Endpoint)
    → CallsOn closed_number w step me.host (EndpointAt me.number) → Goes w step me e (after_ending e)
ending_goes w step me e c = record { leads = go (ended_leads e.state); rises = level e; waits = λ was is. refl }
  where
    go : StaysOr close_leads e.state (ended_state e.state) → MayLead w step me e (ended_state e.state)
    go (inl same) = Stays same
    go (inr leads) = ByClose c leads

syn_sent_closes : (s : State) → is_syn_sent s ≡ true → close_leads s states.Closed ≡ true
syn_sent_closes states.SynSent is = refl
syn_sent_closes s is = absurd cc

shut_goes : (w : World tcp_shape) (step : Step tcp_shape) (me : EndpointId) (e : Endpoint)
    → CallsOn closed_number w step me.host (EndpointAt me.number) → Goes w step me e (after_shut e)
shut_goes w step me e c = go (is_syn_sent e.state) refl
  where
    go : (b : Bool) → is_syn_sent e.state ≡ b
        → Goes w step me e (if b then shut_down (record e { stream = record e.stream { ended = true } }) else after_ending e)
    go true is =
        closed w step me e (shut_down (record e { stream = record e.stream { ended = true } })) refl (level e)
        (ByClose c (syn_sent_closes e.state is))
    go false is = ending_goes w step me e c

close_goes : (w : World tcp_shape) (step : Step tcp_shape) (me : EndpointId) (e : Endpoint)
    → CallsOn closed_number w step me.host (EndpointAt me.number) → Goes w step me e (after_close e)
close_goes w step me e c = go (is_syn_sent e.state) refl
  where
    go : (b : Bool) → is_syn_sent e.state ≡ b
        → Goes w step me e (record (if b then shut_down (record e { stream = record e.stream { ended = true } })
        else after_ending e) { closed = true })
    go true is =
        closed w step me e (record (shut_down (record e { stream = record e.stream { ended = true } })) {
          closed = true;
        }) refl (level e) (ByClose c (syn_sent_closes e.state is))
    go false is = let g = ending_goes w step me e c in record { leads = g.leads; rises = g.rises; waits = g.waits }

-- the children of a listener that is left
orphan_goes : (w : World tcp_shape) (step : Step tcp_shape) (me : EndpointId) (e : Endpoint) (l : ℕ)
    → CallsOn left_number w step me.host (ListenerAt l) → Goes w step me e (orphaned l e)
orphan_goes w step me e l c = go (option_map_or (λ holder. holder == l) e.listener false) refl
  where
    go : (b : Bool) → option_map_or (λ holder. holder == l) e.listener false ≡ b → Goes w step me e (if b then after_abort e else e)
    go true is =
        let x = map_or_true e.listener (λ holder. holder == l) is in
        closed w step me e (after_abort e) refl (level e) (ByListener l (x.1 ∙ ap (λ k. Some k) (number_same x.0 l x.2)) c refl)
    go false is = calm w step me e

gone_gone : (w : World tcp_shape) (step : Step tcp_shape) (host : Host) (n : ℕ) (f : Endpoint → Endpoint) (sockets : List (ℕ × Socket))
    → AtNumber w step host n f → ((l : ℕ) → socket_target (pick w.hosts host).body n ≡ Some (ListenerAt l) → CallsOn left_number w step host (ListenerAt l))
    → Gone w step host (pick w.hosts host).body.endpoints
    (option_map_or (λ target. record (target_gone (pick w.hosts host).body target f) {
      sockets = sockets;
    }) (socket_target (pick w.hosts host).body n)
    (pick w.hosts host).body).endpoints
gone_gone w step host n f sockets new left = let b = (pick w.hosts host).body in
    map_or_cases (λ (x : HostTcp). Gone w step host b.endpoints x.endpoints) (socket_target b n) b
    (λ target. record (target_gone b target f) { sockets = sockets })
    (λ e. gone_not w step host b.endpoints) (λ target e. go target e)
  where
    go : (target : SocketTarget) → socket_target (pick w.hosts host).body n ≡ Some target
        → Gone w step host (pick w.hosts host).body.endpoints (target_gone (pick w.hosts host).body target f).endpoints
    go (ListenerAt l) is = gone_map w step host (pick w.hosts host).body.endpoints (orphaned l) (λ i e. orphan_goes w step (name host i) e l (left l is))
    go (EndpointAt i) is = gone_one w step host (pick w.hosts host).body.endpoints i f (λ e at. new i e is)

gone_accept : (w : World tcp_shape) (step : Step tcp_shape) (host : Host) (b : HostTcp) (n : ℕ) (target : SocketTarget)
    → Gone w step host b.endpoints (after_accept b n target).endpoints
gone_accept w step host b n (EndpointAt i) = gone_not w step host b.endpoints
gone_accept w step host b n (ListenerAt l) = go (queue_of b l)
  where
    go : (queue : List ℕ) → Gone w step host b.endpoints (accepted_from b l n queue).endpoints
    go [] = gone_not w step host b.endpoints
    go (c ∷ queue) =
        gone_one w step host b.endpoints c (λ e. record e { listener = None })
        (λ e at. stays w step (name host c) e (record e { listener = None }) refl (level e) refl)

gone_call : (p : Profile) (w : World tcp_shape) (thread : ℕ) (host : Host) (call : Call) (answer : Answer) → turn_of thread w.threads ≡ Called call
    → Gone w (Effect thread answer) host (pick w.hosts host).body.endpoints (after_call p (pick w.hosts host).body call answer).endpoints
gone_call p w thread host (calls.Listen at port backlog) (answers.Given n) turn =
    gone_not w (Effect thread (answers.Given n)) host (pick w.hosts host).body.endpoints
gone_call p w thread host (calls.Connect at lport rport) (answers.Given n) turn =
    gone_push w (Effect thread (answers.Given n)) host (pick w.hosts host).body.endpoints (new_endpoint lport rport None states.SynSent p) (inl refl)
gone_call p w thread host (calls.Accept h) (answers.Given n) turn =
    let b = (pick w.hosts host).body in let step : Step tcp_shape = Effect thread (answers.Given n) in
    map_or_cases (λ (x : HostTcp). Gone w step host b.endpoints x.endpoints) (socket_target b h) b (after_accept b n)
    (λ e. gone_not w step host b.endpoints) (λ target e. gone_accept w step host b n target)
gone_call p w thread host (calls.Send h bytes) (answers.Given n) turn =
    gone_change w (Effect thread (answers.Given n)) host h (after_send bytes n)
    (λ i e is. stays w (Effect thread (answers.Given n)) (name host i) e (after_send bytes n e) refl
    (level e) refl)
gone_call p w thread host (calls.Recv h most) (answers.Bytes bytes) turn =
    gone_change w (Effect thread (answers.Bytes bytes)) host h (after_recv bytes)
    (λ i e is. stays w (Effect thread (answers.Bytes bytes)) (name host i) e (after_recv bytes e) refl
    (level e) refl)
gone_call p w thread host (calls.Shut h) answers.Done turn =
    gone_gone w (Effect thread answers.Done) host h after_shut (pick w.hosts host).body.sockets
    (λ i e is. shut_goes w (Effect thread answers.Done) (name host i) e (thread, answers.Done, calls.Shut h, h, refl, turn, refl, is))
    (λ l is. (thread, answers.Done, calls.Shut h, h, refl, turn, refl, is))
gone_call p w thread host (calls.Close h) answers.Done turn =
    gone_gone w (Effect thread answers.Done) host h after_close (dead (pick w.hosts host).body.sockets h)
    (λ i e is. close_goes w (Effect thread answers.Done) (name host i) e (thread, answers.Done, calls.Close h, h, refl, turn, refl, is))
    (λ l is. (thread, answers.Done, calls.Close h, h, refl, turn, refl, is))
gone_call p w thread host (calls.Abort h) answers.Done turn =
    gone_gone w (Effect thread answers.Done) host h after_abort (dead (pick w.hosts host).body.sockets h)
    (λ i e is. closed w (Effect thread answers.Done) (name host i) e (after_abort e) refl (level e)
    (ByAbort (thread, answers.Done, calls.Abort h, h, refl, turn, refl, is) refl))
    (λ l is. (thread, answers.Done, calls.Abort h, h, refl, turn, refl, is))
gone_call p w thread host call answer turn = gone_not w (Effect thread answer) host (pick w.hosts host).body.endpoints

-- 4. both hosts

-- the endpoints of both
record BothGo (w : World tcp_shape) (step : Step tcp_shape) (b : Hosts) : Type 0 where
  pub all : (x : Host) → Gone w step x (pick w.hosts x).body.endpoints (pick b x).body.endpoints

both_not : (w : World tcp_shape) (step : Step tcp_shape) → BothGo w step w.hosts
both_not w step = record { all = λ x. gone_not w step x (pick w.hosts x).body.endpoints }

both_host : (w : World tcp_shape) (step : Step tcp_shape) (host : Host) (k : HostState tcp_shape)
    → Gone w step host (pick w.hosts host).body.endpoints k.body.endpoints → BothGo w step (with_host w.hosts host k)
both_host w step host k f =
    record {
      all = with_cases w.hosts host k (λ x y. Gone w step x (pick w.hosts x).body.endpoints y.body.endpoints) f
          (gone_not w step (other host) (pick w.hosts (other host)).body.endpoints);
    }

both_step : (h : Header) (s : ℕ) (w : World tcp_shape) (step : Step tcp_shape) → BothGo w step (after (tcp h) s w step).hosts
both_step h s w (Begin line t call) = both_not w (Begin line t call)
both_step h s w (Finish line t answer) = both_not w (Finish line t answer)
both_step h s w (Effect t answer) = go (turn_of t w.threads) refl
  where
    by : (call : Call) (o : Option Host) → turn_of t w.threads ≡ Called call → BothGo w (Effect t answer) (call_after (tcp h) s w.hosts (Calls call answer) o)
    by call None turn = both_not w (Effect t answer)
    by call (Some host) turn =
        both_host w (Effect t answer) host
        (record (pick w.hosts host) { body = after_call (profile_of h) (pick w.hosts host).body call answer })
        (gone_call (profile_of h) w t host call answer turn)

    go : (u : Turn tcp_shape) → turn_of t w.threads ≡ u → BothGo w (Effect t answer) (effect_after (tcp h) s w t answer u).hosts
    go Idle is = both_not w (Effect t answer)
    go (Called call) is = by call (aim_of (tcp h) w.hosts (aim call)) is
    go (Answered x) is = both_not w (Effect t answer)
both_step h s w (At host d) =
    both_host w (At host d) host (host_step_after (tcp h) host s (suc w.count) (pick w.hosts (other host)).wire
    (pick w.hosts host) d) (gone_host_step h s w host d)

-- from TIME-WAIT no arrow leads but to CLOSED
from_time_wait : (w : World tcp_shape) (step : Step tcp_shape) (me : EndpointId) (e : Endpoint) (t : State)
    → e.state ≡ states.TimeWait → MayLead w step me e t → (t ≡ states.Closed) ⊎ (t ≡ states.TimeWait)
from_time_wait w step me e t was (Stays same) = inr (same ∙ was)
from_time_wait w step me e t was (ByClose c leads) = let no : close_leads states.TimeWait t ≡ true =
    subst (λ (s : State). close_leads s t ≡ true) was leads in absurd cc
from_time_wait w step me e t was (ByAbort c is) = inl is
from_time_wait w step me e t was (ByListener l of' c is) = inl is
from_time_wait w step me e t was (BySegment m between there plain one two) = go (subst (λ (s : State). StaysOr segment_leads s between) was one)
  where
    finish : between ≡ states.TimeWait → StaysOr fin_leads states.TimeWait t → (t ≡ states.Closed) ⊎ (t ≡ states.TimeWait)
    finish same (inl is) = inr is
    finish same (inr leads) = absurd cc

    go : StaysOr segment_leads states.TimeWait between → (t ≡ states.Closed) ⊎ (t ≡ states.TimeWait)
    go (inl same) = finish same (subst (λ (s : State). StaysOr fin_leads s t) same two)
    go (inr leads) = absurd cc
from_time_wait w step me e t was (ByReset m there plain is) = inl is
from_time_wait w step me e t was (ByOwnReset c is) = inl is
from_time_wait w step me e t was (ByTimer c is) = inl is

waits_on : (w : World tcp_shape) (step : Step tcp_shape) (me : EndpointId) (e f : Endpoint) → e.state ≡ states.TimeWait → Goes w step me e f → WaitsOn e f
waits_on w step me e f was g = go (from_time_wait w step me e f.state was g.leads)
  where
    go : (f.state ≡ states.Closed) ⊎ (f.state ≡ states.TimeWait) → WaitsOn e f
    go (inl is) = inl is
    go (inr is) = inr (is, g.waits (ap is_time_wait was) (ap is_time_wait is))

pub states_lead : (h : Header) (s : ℕ) (w : World tcp_shape) (step : Step tcp_shape) → StatesFollow h s w step
states_lead h s w step = record {
  leads = λ me e there. let x = (all me.host).onward me.number e there in (x.0, x.1, x.2.leads);
  waits = λ me e there was. let x = (all me.host).onward me.number e there in (x.0, x.1, waits_on w step me e x.0 was x.2);
  begins = λ me f none at. from me f none ((all me.host).back me.number f at);
}
  where
    all : (x : Host) → Gone w step x (pick w.hosts x).body.endpoints (pick (after (tcp h) s w step).hosts x).body.endpoints
    all = (both_step h s w step).all

    from : (me : EndpointId) (f : Endpoint) → find w.hosts me ≡ None → ((e : Endpoint) × (find w.hosts me ≡ Some e)) ⊎ Begins f → Begins f
    from me f none (inl e) = absurd (none-some e.0 (sym none ∙ e.1))
    from me f none (inr new) = new

-- the next position that is expected doesn't fall in a run
pub none_falls : (h : Header) (steps : List (Stamped tcp_shape)) (x : Stamped tcp_shape)
    → Lawful (tcp h) (start (tcp h)) steps → Permitted (tcp h) x.moment (world_at_end h steps) x.step
    → PositionsNeverFall h steps x
none_falls h steps x run may me e there =
    let w = world_at_end h steps in
    let here = ((both_step h x.moment w x.step).all me.host).onward me.number e there in
    let later = later_step h x.moment w x.step (steady_run h (start (tcp h)) steps (steady_start h) run) may me e there in
    let one : later.0 ≡ here.0 = same_Some later.0 here.0 (sym later.1 ∙ here.1) in (
      here.0,
      here.1,
      record {
        snd_una = here.2.rises.0;
        made = here.2.rises.1;
        rcv_nxt = subst (λ (f : Endpoint). rcv_nxt e ≤ rcv_nxt f) one later.2.next;
        rcv_adv = here.2.rises.2;
      },
    )
