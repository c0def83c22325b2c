-- What each step makes of the numbers of endpoints: a number that is known stays, and the peer's is that of the SYN that
-- is taken.
use Rattle.std.proofs.Common.{◌≡◌, ℕ, suc, ◌⊎◌, Bool, true, false, List, [], ◌∷◌, ◌++◌, map, Option, Some, None}
use Rattle.std.proofs.Common.{refl, ap, sym, subst, ◌∙◌, inl, inr}
use Rattle.std.specs.Prelude.{if◌then◌else◌, ◌==◌, ◌&&◌, ◌||◌, not, slice_get}
use Rattle.std.specs.Option.{option_map_or, option_or}
use Rattle.std.proofs.lemmas.Option.{same_Some}
use Rattle.seqno.specs.declared.word.Word.{Word}
use Rattle.case_forms.specs.States.{is_syn_sent}
use Rattle.case_forms.specs.Versions.{is_half}
use Rattle.case_forms.specs.declared.calls.Answer.{Answer}
use Rattle.case_forms.specs.declared.calls.Answer.TheVariants as answers
use Rattle.case_forms.specs.declared.calls.Call.{Call}
use Rattle.case_forms.specs.declared.calls.Call.TheVariants as calls
use Rattle.case_forms.specs.declared.calls.Host.{Host}
use Rattle.case_forms.specs.declared.calls.State.TheVariants as states
use Rattle.case_forms.specs.declared.steps.SegmentPlan.{SegmentPlan}
use Rattle.case_forms.specs.declared.steps.TakeChoice.{TakeChoice}
use Rattle.case_forms.specs.declared.taken_line.Expired.{Expired}
use Rattle.case_forms.specs.declared.taken_line.Expired.TheVariants.{Giveup, Msl2, Persist, Pto, Rto}
use Rattle.case_forms.specs.declared.timer.RecoveryChange.{RecoveryChange}
use Rattle.case_forms.specs.declared.timer.RecoveryChange.TheVariants as recovery_change
use Rattle.case_forms.specs.declared.trace.Header.{Header}
use Rattle.verdict.specs.Rules.{first_broken}
use Rattle.verdict.specs.declared.rule.Rule.TheVariants as rules
use Rattle.verdict.proofs.RuleLemmas.{none_all}
use Rattle.streams.specs.Lists.{modify}
use Rattle.streams.proofs.Places.{get_append, all_push, all_modify}
use Rattle.spec_network.specs.HostRules.{aim_of, Permitted}
use Rattle.spec_network.specs.Hosts.{HostState, Turn, Idle, Called, Answered, World, HostStep, Does, Expires, Makes, Sends}
use Rattle.spec_network.specs.Hosts.{Gets, Hears, Takes, Drops, Answers, Step, Begin, Finish, Effect, At, turn_of}
use Rattle.spec_network.specs.HostSteps.{host_step_after, call_after, effect_after, after}
use Rattle.spec_network.specs.Tables.{pick, other, with_host, waiting}
use Rattle.spec_tcp.specs.Arrives.{Taker, Nobody, AtListener, AtEndpoint, taker, taker_rules, endpoint_taken, after_taking}
use Rattle.spec_tcp.specs.Arrives.Listen.{listener_rules, child}
use Rattle.spec_tcp.specs.Arrives.OtherStates.{connected_rules, taken as segment_taken}
use Rattle.spec_tcp.specs.Arrives.OtherStates.Reset.{was_reset}
use Rattle.spec_tcp.specs.Arrives.SynSent.{on_syn, syn_sent_rules}
use Rattle.spec_tcp.specs.Calls.{change_target, after_call}
use Rattle.spec_tcp.specs.Calls.Accept.{accepted_from, after_accept}
use Rattle.spec_tcp.specs.Calls.Close.{shut_down, after_ending, after_shut, after_close, after_abort, orphaned, target_gone}
use Rattle.spec_tcp.specs.Calls.Receive.{after_recv}
use Rattle.spec_tcp.specs.Calls.Send.{after_send}
use Rattle.spec_tcp.specs.Endpoints.{new_endpoint}
use Rattle.spec_tcp.specs.Heard.{as_read, read_at}
use Rattle.spec_tcp.specs.HostTcp.{HostTcp, place_of, at_ports, with_endpoint, socket_target, queue_of, dead}
use Rattle.spec_tcp.specs.Machine.{Calls, tcp, tcp_shape, aim}
use Rattle.spec_tcp.specs.Makes.{endpoint_made, after_making}
use Rattle.spec_tcp.specs.Recovery.{after_recovery}
use Rattle.spec_tcp.specs.Signals.{profile_of}
use Rattle.spec_tcp.specs.Timeouts.{after_expiry}
use Rattle.spec_tcp.specs.declared.endpoint.Emission.{Emission}
use Rattle.spec_tcp.specs.declared.endpoint.Endpoint.{Endpoint}
use Rattle.spec_tcp.specs.declared.endpoint.Socket.{Socket}
use Rattle.spec_tcp.specs.declared.endpoint.SocketTarget.{SocketTarget}
use Rattle.spec_tcp.specs.declared.endpoint.SocketTarget.TheVariants.{ListenerAt, EndpointAt}
use Rattle.spec_tcp_laws.proofs.Later.{Hosts}
use Rattle.spec_tcp_laws.proofs.Moves.{with_cases, modify_each, map_onward, map_back}
use Rattle.spec_tcp_laws.proofs.Rules.{on_passes, on_cases, map_or_cases}
use Rattle.spec_tcp_laws.proofs.Takes.{taker_there}

-- ---- one endpoint

-- its peer and the peer's first number stay; so does its own, once it is chosen
pub record Stays (e f : Endpoint) : Type 0 where
  pub irs : f.irs ≡ e.irs
  pub peer : f.stream.peer ≡ e.stream.peer
  pub iss : (word : Word) → e.iss ≡ Some word → f.iss ≡ Some word

stays_not : (e : Endpoint) → Stays e e
stays_not e = record { irs = refl; peer = refl; iss = λ word is. is }

stays_either : (b : Bool) (e x y : Endpoint) → Stays e x → Stays e y → Stays e (if b then x else y)
stays_either true e x y p q = p
stays_either false e x y p q = q

-- it takes this SYN, which waits at its host
pub record Meets (w : World tcp_shape) (host : Host) (f : Endpoint) : Type 0 where
  pub line : ℕ
  pub segment : Emission
  pub waits : waiting line (pick w.hosts host).inbox ≡ Some segment
  pub syn : segment.flags.syn ≡ true
  pub no_reset : segment.flags.rst ≡ false
  pub irs : f.irs ≡ Some segment.seq
  pub peer : f.stream.peer ≡ Some segment.sender

-- what a step makes of an endpoint
pub data Numbered (w : World tcp_shape) (host : Host) (e f : Endpoint) : Type 0 where
  stays : Stays e f → Numbered w host e f
  meets : is_syn_sent e.state ≡ true → f.iss ≡ e.iss → Meets w host f → Numbered w host e f

-- how an endpoint begins
pub data Begins (w : World tcp_shape) (host : Host) (f : Endpoint) : Type 0 where
  opened : f.irs ≡ None → f.stream.peer ≡ None → Begins w host f
  created : Meets w host f → Begins w host f

-- ---- the endpoints of a host after a step

pub record Follows (w : World tcp_shape) (host : Host) (es fs : List Endpoint) : Type 0 where
  pub onward : (i : ℕ) (e : Endpoint) → slice_get es i ≡ Some e → (f : Endpoint) × (slice_get fs i ≡ Some f) × Numbered w host e f
  pub back : (i : ℕ) (f : Endpoint) → slice_get fs i ≡ Some f → ((e : Endpoint) × (slice_get es i ≡ Some e)) ⊎ Begins w host f

module _ (w : World tcp_shape) (host : Host) where
  follows_not : (es : List Endpoint) → Follows w host es es
  follows_not es = record { onward = λ i e at. (e, at, stays (stays_not e)); back = λ i f at. inl (f, at) }

  follows_one : (es : List Endpoint) (i : ℕ) (f : Endpoint → Endpoint) → ((e : Endpoint) → slice_get es i ≡ Some e → Numbered w host e (f e))
      → Follows w host es (modify es i f)
  follows_one es i f new = record {
    onward = modify_each (λ j. Numbered w host) f es i (λ j e at n. stays (stays_not e)) new;
    back = all_modify (λ j y. ((e : Endpoint) × (slice_get es j ≡ Some e)) ⊎ Begins w host y) f es i (λ j e x. inl (e, x)) (λ e x. inl (e, x));
  }

  follows_map : (es : List Endpoint) (f : Endpoint → Endpoint) → ((e : Endpoint) → Stays e (f e)) → Follows w host es (map f es)
  follows_map es f same = record {
    onward = map_onward (λ j. Numbered w host) f es (λ j e at. stays (same e));
    back = λ j y e. let h = map_back f es j y e in inl (h.0, h.1);
  }

  follows_push : (es : List Endpoint) (e : Endpoint) → Begins w host e → Follows w host es (es ++ e ∷ [])
  follows_push es e new = record {
    onward = λ i x at. (x, get_append es (e ∷ []) i x at, stays (stays_not x));
    back = all_push (λ j y. ((x : Endpoint) × (slice_get es j ≡ Some x)) ⊎ Begins w host y) es e (λ j x at. inl (x, at)) (inr new);
  }

  follows_at_ports : (b : HostTcp) (lport rport : ℕ) (f : Endpoint → Endpoint) → ((e : Endpoint) → Stays e (f e))
      → Follows w host b.endpoints (at_ports b lport rport f).endpoints
  follows_at_ports b lport rport f same =
      map_or_cases (λ (x : HostTcp). Follows w host b.endpoints x.endpoints) (place_of b lport rport) b (λ i. with_endpoint b i f)
      (λ e. follows_not b.endpoints) (λ i at. follows_one b.endpoints i f (λ e there. stays (same e)))

  -- ---- the steps of a host

  expiry_stays : (t : Expired) (moment : ℕ) (e : Endpoint) → Stays e (after_expiry e t moment)
  expiry_stays (Rto growth) moment e = record { irs = refl; peer = refl; iss = λ word is. is }
  expiry_stays Persist moment e = record { irs = refl; peer = refl; iss = λ word is. is }
  expiry_stays Msl2 moment e = record { irs = refl; peer = refl; iss = λ word is. is }
  expiry_stays Giveup moment e = record { irs = refl; peer = refl; iss = λ word is. is }
  expiry_stays Pto moment e = record { irs = refl; peer = refl; iss = λ word is. is }

  recovery_stays : (c : RecoveryChange) (cwnd ssthresh moment : ℕ) (e : Endpoint) → Stays e (after_recovery e c cwnd ssthresh moment)
  recovery_stays recovery_change.Begins cwnd ssthresh moment e = record { irs = refl; peer = refl; iss = λ word is. is }
  recovery_stays recovery_change.IsUndone cwnd ssthresh moment e = record { irs = refl; peer = refl; iss = λ word is. is }

  making_stays : (m : SegmentPlan) (moment : ℕ) (e : Endpoint) → Stays e (after_making e m moment)
  making_stays m moment e =
      stays_either m.flags.rst e (record (shut_down (endpoint_made e m moment)) { reset_due = false }) (endpoint_made e m moment)
      (record { irs = refl; peer = refl; iss = chosen }) (record { irs = refl; peer = refl; iss = chosen })
    where
      chosen : (word : Word) → e.iss ≡ Some word → option_or e.iss m.iss ≡ Some word
      chosen word is = ap (λ (o : Option Word). option_or o m.iss) is

  syn_not_reset : (syn rst : Bool) → not (syn || rst) ≡ false → rst ≡ false → syn ≡ true
  syn_not_reset true rst e plain = refl
  syn_not_reset false false e plain = absurd cc
  syn_not_reset false true e plain = absurd cc

  first_syn : (syn ack rst : Bool) → not (syn && not ack && not rst) ≡ false → (syn ≡ true) × (rst ≡ false)
  first_syn true false false e = (refl, refl)
  first_syn true false true e = absurd cc
  first_syn true true rst e = absurd cc
  first_syn false ack rst e = absurd cc

  module _ (h : Header) (moment line : ℕ) (how : TakeChoice) where
    abbrev b : HostTcp
    b = (pick w.hosts host).body

    -- an endpoint reads a segment, but not its number, flags or sender
    read_seq : (e : Endpoint) (m : Emission) → ((as_read h.version e m).seq ≡ m.seq) × ((as_read h.version e m).sender ≡ m.sender)
        × ((as_read h.version e m).flags ≡ m.flags)
    read_seq e m = by (is_half h.version)
      where
        by : (c : Bool) → ((if c then read_at e m else m).seq ≡ m.seq) × ((if c then read_at e m else m).sender ≡ m.sender)
            × ((if c then read_at e m else m).flags ≡ m.flags)
        by true = (refl, refl, refl)
        by false = (refl, refl, refl)

    taken_numbers : (i : ℕ) (e : Endpoint) (m : Emission) → waiting line (pick w.hosts host).inbox ≡ Some m
        → first_broken (if is_syn_sent e.state then syn_sent_rules e how (as_read h.version e m) moment
        else connected_rules h b (record { host = host; number = i }) e how (as_read h.version e m) moment) ≡ None
        → Numbered w host e (endpoint_taken h e how (as_read h.version e m) moment)
    taken_numbers i e m waits = by (as_read h.version e m).flags.rst (is_syn_sent e.state) refl refl
      where
        r : Emission
        r = as_read h.version e m

        by : (rst sent : Bool) → r.flags.rst ≡ rst → is_syn_sent e.state ≡ sent
            → first_broken (if sent then syn_sent_rules e how r moment else connected_rules h b (record { host = host; number = i }) e how r moment)
            ≡ None → Numbered w host e (if rst then was_reset e how moment else if sent then on_syn h e how r moment else segment_taken h e how r moment)
        by true sent is waiting may = stays (record { irs = refl; peer = refl; iss = λ word known. known })
        by false false is waiting may = stays (record { irs = refl; peer = refl; iss = λ word known. known })
        by false true is state may =
            let read = read_seq e m in
            let syn : r.flags.syn ≡ true = syn_not_reset r.flags.syn r.flags.rst (none_all (syn_sent_rules e how r moment) may).0 is in
            meets state refl (record {
              line = line;
              segment = m;
              waits = waits;
              syn = sym (λ j. (read.2 j).syn) ∙ syn;
              no_reset = sym (λ j. (read.2 j).rst) ∙ is;
              irs = λ j. Some (read.0 j);
              peer = λ j. Some (read.1 j);
            })

    follows_taking : (m : Emission) → waiting line (pick w.hosts host).inbox ≡ Some m
        → first_broken (taker_rules h host b how m moment (taker b m)) ≡ None
        → Follows w host b.endpoints (after_taking h b how m moment (taker b m)).endpoints
    follows_taking m waits = by (taker b m) refl
      where
        by : (t : Taker) → taker b m ≡ t → first_broken (taker_rules h host b how m moment t) ≡ None
            → Follows w host b.endpoints (after_taking h b how m moment t).endpoints
        by Nobody is may = follows_not b.endpoints
        by (AtListener l) is may =
            let flags = first_syn m.flags.syn m.flags.ack m.flags.rst (none_all (listener_rules how m) may).0 in
            follows_push b.endpoints (child (profile_of h) l how m moment)
            (created (record { line = line; segment = m; waits = waits; syn = flags.0; no_reset = flags.1; irs = refl; peer = refl }))
        by (AtEndpoint i e) is may =
            follows_one b.endpoints i (λ x. endpoint_taken h x how (as_read h.version e m) moment)
            (λ x there.
            let one : e ≡ x = same_Some e x (sym (taker_there b m i e is) ∙ there) in
            subst (λ (y : Endpoint). Numbered w host y (endpoint_taken h y how (as_read h.version e m) moment)) one (taken_numbers i e m waits may))

  follows_host_step : (h : Header) (moment : ℕ) (d : HostStep tcp_shape) → Permitted (tcp h) moment w (At host d)
      → Follows w host (pick w.hosts host).body.endpoints
      (host_step_after (tcp h) host moment (suc w.count) (pick w.hosts (other host)).wire (pick w.hosts host) d).body.endpoints
  follows_host_step h moment (Does x) may =
      follows_at_ports (pick w.hosts host).body x.lport x.rport (λ e. after_recovery e x.change x.cwnd x.ssthresh moment)
      (recovery_stays x.change x.cwnd x.ssthresh moment)
  follows_host_step h moment (Expires line x) may =
      follows_at_ports (pick w.hosts host).body x.lport x.rport (λ e. after_expiry e x.expired moment) (expiry_stays x.expired moment)
  follows_host_step h moment (Makes m) may =
      follows_at_ports (pick w.hosts host).body m.lport m.rport (λ e. after_making e m moment) (making_stays m moment)
  follows_host_step h moment (Sends line number wire) may = follows_not (pick w.hosts host).body.endpoints
  follows_host_step h moment (Gets line copied wire) may = follows_not (pick w.hosts host).body.endpoints
  follows_host_step h moment (Hears line wire) may = follows_not (pick w.hosts host).body.endpoints
  follows_host_step h moment (Takes line how) may =
      let k = pick w.hosts host in
      on_cases (λ (b : HostTcp). Follows w host k.body.endpoints b.endpoints) (waiting line k.inbox) k.body _ (follows_not k.body.endpoints)
      (λ m e.
      let t = on_passes (waiting line k.inbox) rules.Inbox (λ x. taker_rules h host k.body how x moment (taker k.body x)) may in
      let one : t.0 ≡ m = same_Some t.0 m (sym t.1 ∙ e) in
      follows_taking h moment line how m e
      (subst (λ (x : Emission). first_broken (taker_rules h host k.body how x moment (taker k.body x)) ≡ None) one t.2))
  follows_host_step h moment (Drops line) may = follows_not (pick w.hosts host).body.endpoints
  follows_host_step h moment (Answers line) may =
      let k = pick w.hosts host in
      on_cases (λ (b : HostTcp). Follows w host k.body.endpoints b.endpoints) (waiting line k.inbox) k.body _ (follows_not k.body.endpoints)
      (λ m e. follows_not k.body.endpoints)

  -- ---- calls

  follows_same : (b : HostTcp) (i : ℕ) (f : Endpoint → Endpoint) → ((e : Endpoint) → Stays e (f e))
      → Follows w host b.endpoints (with_endpoint b i f).endpoints
  follows_same b i f same = follows_one b.endpoints i f (λ e at. stays (same e))

  follows_change : (b : HostTcp) (n : ℕ) (f : Endpoint → Endpoint) → ((e : Endpoint) → Stays e (f e))
      → Follows w host b.endpoints (option_map_or (change_target b f) (socket_target b n) b).endpoints
  follows_change b n f same =
      map_or_cases (λ (x : HostTcp). Follows w host b.endpoints x.endpoints) (socket_target b n) b (change_target b f)
      (λ e. follows_not b.endpoints) (λ target e. go target)
    where
      go : (target : SocketTarget) → Follows w host b.endpoints (change_target b f target).endpoints
      go (ListenerAt l) = follows_not b.endpoints
      go (EndpointAt i) = follows_same b i f same

  follows_gone : (b : HostTcp) (n : ℕ) (f : Endpoint → Endpoint) (sockets : List (ℕ × Socket)) → ((e : Endpoint) → Stays e (f e))
      → Follows w host b.endpoints
      (option_map_or (λ target. record (target_gone b target f) { sockets = sockets }) (socket_target b n) b).endpoints
  follows_gone b n f sockets same =
      map_or_cases (λ (x : HostTcp). Follows w host b.endpoints x.endpoints) (socket_target b n) b
      (λ target. record (target_gone b target f) { sockets = sockets })
      (λ e. follows_not b.endpoints) (λ target e. go target)
    where
      go : (target : SocketTarget) → Follows w host b.endpoints (target_gone b target f).endpoints
      go (ListenerAt l) =
          follows_map b.endpoints (orphaned l)
          (λ e. stays_either (option_map_or (λ holder. holder == l) e.listener false) e (after_abort e) e (aborted e) (stays_not e))
        where
          aborted : (e : Endpoint) → Stays e (after_abort e)
          aborted e = record { irs = refl; peer = refl; iss = λ word is. is }
      go (EndpointAt i) = follows_same b i f same

  follows_accept : (b : HostTcp) (n : ℕ) (target : SocketTarget) → Follows w host b.endpoints (after_accept b n target).endpoints
  follows_accept b n (EndpointAt i) = follows_not b.endpoints
  follows_accept b n (ListenerAt l) = go (queue_of b l)
    where
      go : (queue : List ℕ) → Follows w host b.endpoints (accepted_from b l n queue).endpoints
      go [] = follows_not b.endpoints
      go (c ∷ queue) = follows_same b c (λ e. record e { listener = None }) (λ e. record { irs = refl; peer = refl; iss = λ word is. is })

  ended_stays : (e : Endpoint) → Stays e (after_shut e)
  ended_stays e =
      stays_either (is_syn_sent e.state) e (shut_down (record e { stream = record e.stream { ended = true } })) (after_ending e)
      (record { irs = refl; peer = refl; iss = λ word is. is }) (record { irs = refl; peer = refl; iss = λ word is. is })

  closed_stays : (e : Endpoint) → Stays e (after_close e)
  closed_stays e = let s = ended_stays e in record { irs = s.irs; peer = s.peer; iss = s.iss }

  follows_call : (h : Header) (b : HostTcp) (call : Call) (answer : Answer)
      → Follows w host b.endpoints (after_call (profile_of h) b call answer).endpoints
  follows_call h b (calls.Listen at port backlog) (answers.Given n) = follows_not b.endpoints
  follows_call h b (calls.Connect at lport rport) (answers.Given n) =
      follows_push b.endpoints (new_endpoint lport rport None states.SynSent (profile_of h)) (opened refl refl)
  follows_call h b (calls.Accept l) (answers.Given n) =
      map_or_cases (λ (x : HostTcp). Follows w host b.endpoints x.endpoints) (socket_target b l) b (after_accept b n)
      (λ e. follows_not b.endpoints) (λ target e. follows_accept b n target)
  follows_call h b (calls.Send l bytes) (answers.Given n) =
      follows_change b l (after_send bytes n) (λ e. record { irs = refl; peer = refl; iss = λ word is. is })
  follows_call h b (calls.Recv l most) (answers.Bytes bytes) =
      follows_change b l (after_recv bytes) (λ e. record { irs = refl; peer = refl; iss = λ word is. is })
  follows_call h b (calls.Shut l) answers.Done = follows_gone b l after_shut b.sockets ended_stays
  follows_call h b (calls.Close l) answers.Done = follows_gone b l after_close (dead b.sockets l) closed_stays
  follows_call h b (calls.Abort l) answers.Done =
      follows_gone b l after_abort (dead b.sockets l) (λ e. record { irs = refl; peer = refl; iss = λ word is. is })
  follows_call h b call answer = follows_not b.endpoints

-- ---- both hosts

abbrev pub BothFollow : World tcp_shape → Hosts → Type 0
BothFollow w b = (x : Host) → Follows w x (pick w.hosts x).body.endpoints (pick b x).body.endpoints

pub both_not : (w : World tcp_shape) → BothFollow w w.hosts
both_not w x = follows_not w x (pick w.hosts x).body.endpoints

both_host : (w : World tcp_shape) (host : Host) (k : HostState tcp_shape)
    → Follows w host (pick w.hosts host).body.endpoints k.body.endpoints → BothFollow w (with_host w.hosts host k)
both_host w host k f =
    with_cases w.hosts host k (λ x y. Follows w x (pick w.hosts x).body.endpoints y.body.endpoints) f
    (follows_not w (other host) (pick w.hosts (other host)).body.endpoints)

pub both_step : (h : Header) (moment : ℕ) (w : World tcp_shape) (step : Step tcp_shape) → Permitted (tcp h) moment w step
    → BothFollow w (after (tcp h) moment w step).hosts
both_step h moment w (Begin line t call) may = both_not w
both_step h moment w (Finish line t answer) may = both_not w
both_step h moment w (Effect t answer) may = go (turn_of t w.threads)
  where
    by : (call : Call) (o : Option Host) → BothFollow w (call_after (tcp h) moment w.hosts (Calls call answer) o)
    by call None = both_not w
    by call (Some host) =
        both_host w host (record (pick w.hosts host) { body = after_call (profile_of h) (pick w.hosts host).body call answer })
        (follows_call w host h (pick w.hosts host).body call answer)

    go : (u : Turn tcp_shape) → BothFollow w (effect_after (tcp h) moment w t answer u).hosts
    go Idle = both_not w
    go (Called call) = by call (aim_of (tcp h) w.hosts (aim call))
    go (Answered x) = both_not w
both_step h moment w (At host d) may =
    both_host w host (host_step_after (tcp h) host moment (suc w.count) (pick w.hosts (other host)).wire (pick w.hosts host) d)
    (follows_host_step w host h moment d may)
