-- Duties read nothing that may be discarded.
use Rattle.std.proofs.Common.{◌≡◌, ℕ, suc, Bool, List, [], ◌∷◌, ◌++◌, Option, None, Some, map, refl, ap, ◌∙◌, arith}
use Rattle.std.specs.Prelude.{if◌then◌else◌, false, is_some, slice_get, nat_eq}
use Rattle.std.specs.Map.{lookup}
use Rattle.std.specs.Option.{option_map, option_map_or}
use Rattle.std.proofs.lemmas.List.{length-map}
use Rattle.std.proofs.lemmas.Option.{slice_get-map}
use Rattle.case_forms.specs.States.{is_closed}
use Rattle.case_forms.specs.Versions.{says_sender}
use Rattle.case_forms.specs.declared.calls.Answer.{Answer}
use Rattle.case_forms.specs.declared.calls.Answer.TheVariants as answers
use Rattle.case_forms.specs.declared.calls.Call.{Call}
use Rattle.case_forms.specs.declared.version.Version.{Version}
use Rattle.case_forms.specs.declared.calls.Call.TheVariants as calls
use Rattle.case_forms.specs.declared.calls.Host.{Host}
use Rattle.case_forms.specs.declared.calls.Host.TheVariants.{Zero, One}
use Rattle.case_forms.specs.declared.steps.SegmentPlan.{SegmentPlan}
use Rattle.case_forms.specs.declared.steps.TakeChoice.{TakeChoice}
use Rattle.case_forms.specs.declared.trace.Header.{Header}
use Rattle.case_forms.specs.declared.trace.Wire.{Wire}
use Rattle.verdict.specs.declared.rule.Rule.{Rule}
use Rattle.verdict.specs.declared.rule.Rule.TheVariants as rules
use Rattle.verdict.specs.Rules.{first_broken}
use Rattle.spec_network.specs.HostRules.{aim_of}
use Rattle.spec_network.specs.Hosts as network
use Rattle.spec_network.specs.Hosts.{Aim, ThatHost, ThatSocket, World, HostState, HostStep, Step, Turn, Idle, Called, Answered, turn_of}
use Rattle.spec_network.specs.Tables.{Made, on, pick, waiting}
use Rattle.spec_tcp.specs.Arrives.{Taker, Nobody, AtListener, AtEndpoint, taker}
use Rattle.spec_tcp.specs.declared.endpoint.Emission.{Emission}
use Rattle.spec_tcp.specs.declared.endpoint.Endpoint.{Endpoint}
use Rattle.spec_tcp.specs.declared.endpoint.SocketTarget.{SocketTarget}
use Rattle.spec_tcp.specs.declared.endpoint.SocketTarget.TheVariants.{ListenerAt, EndpointAt}
use Rattle.spec_tcp.specs.Heard.{as_read}
use Rattle.spec_tcp.specs.HostTcp.{HostTcp, place_of, socket_target, queue_of}
use Rattle.spec_tcp.specs.Machine.{tcp, tcp_shape, aim}
use Rattle.spec_tcp.specs.Forgetting.{forget_endpoint, forget_body, forget_host, forget}
use Rattle.spec_tcp_laws.proofs.ForgetReads.{rcv_nxt-forget, snd_max-forget, end_of-forget, again-forget}
use Rattle.spec_tcp_laws.proofs.ForgetBodies.{place-forget}
use Rattle.spec_tcp_laws.proofs.ForgetActs.{forget_taker, taker-forget, read-forget}
use Rattle.spec_tcp_laws.proofs.ForgetRules.{sample-forget}
use Rattle.spec_tcp_laws.proofs.ForgetWorlds.{step_rules-forget}
use Rattle.spec_duties.specs.Answering.{any_call, is_unanswered_late}
use Rattle.spec_duties.specs.Views.{view_of, unborn}
use Rattle.spec_cases.specs.Cases as cases
use Rattle.spec_cases.specs.Cases.{Known, late_at_end}
use Rattle.spec_duties.specs.End.{any_unsent, either, first_waiting, is_brought_late, is_send_late, lates_at, lates_from, lates_of_host, lates_of_all, line_of}
use Rattle.spec_duties.specs.Owed.{late_rules, none_late}
use Rattle.spec_duties.specs.Strict.{with_brought}
use Rattle.spec_duties.specs.Watching.{Duties, judged_lates}
use Rattle.spec_duties.specs.declared.events.Event.{Event}
use Rattle.spec_duties.specs.declared.owed.Lates.{Lates}
use Rattle.spec_duties.specs.declared.views.View.{View}
use Rattle.spec_duties.specs.Dropped.{bare, droppable_by, discards_at, earns_by_dropping, earns_by_taking, is_old, taking_breaks, answering_breaks}
use Rattle.spec_duties.specs.Sampling.{may_measure, sampling_at}
use Rattle.spec_duties.specs.Arrivals.{acked_at_ports, acked_built, acked_sent, arrival_at, stamps_read}
use Rattle.spec_duties.specs.Blocks.{blocks_taken}
use Rattle.spec_duties.specs.Observations.{syn_dropped, syn_sent, syn_taken}
use Rattle.spec_duties.specs.Observations.{observe, observe_host_step, at_place, at_ports, at_next, at_sender, at_target, at_drop, unseen}
use Rattle.spec_duties.specs.Observations.{processing_of, sending_of, accepting, observe_accept, observe_close, observe_other, observe_opened, on_target}
use Rattle.spec_duties.specs.Observations.{observe_call, observe_pending, observe_effect, observe_taking, observe_dropping, view_in}
use Rattle.spec_duties.specs.declared.observations.BuiltChange.TheVariants.{Sends}
use Rattle.spec_duties.specs.declared.observations.Queueing.{Queueing}
use Rattle.spec_duties.specs.declared.observations.Queueing.TheVariants as queueing
use Rattle.spec_duties.specs.declared.observations.Observation.{Observation}
use Rattle.spec_duties.specs.declared.observations.TouchedEndpoint.{TouchedEndpoint}
use Rattle.watched.proofs.UntrueLemmas.{kept-forget}
use Rattle.watched.proofs.WaitLemmas.{any_same, opening_same, same_forget}

pub view-forget : (e : Endpoint) → view_of (forget_endpoint e) ≡ view_of e
view-forget e = rw (snd_max-forget e, end_of-forget e, rcv_nxt-forget e) refl

place-seen : (host : Host) (b : HostTcp) (event : Event) (i : ℕ) → at_place host (forget_body b) event i ≡ at_place host b event i
place-seen host b event i = rw (slice_get-map forget_endpoint b.endpoints i) (by (slice_get b.endpoints i))
  where
    see : View → TouchedEndpoint
    see v = record { host = host; place = i; event = event; before = v }

    by : (o : Option Endpoint) → option_map (λ e. see (view_of e)) (option_map forget_endpoint o) ≡ option_map (λ e. see (view_of e)) o
    by None = refl
    by (Some e) = ap (λ v. Some (see v)) (view-forget e)

ports-seen : (host : Host) (b : HostTcp) (event : Event) (lport rport : ℕ) → at_ports host (forget_body b) event lport rport ≡ at_ports host b event lport rport
ports-seen host b event lport rport = rw (place-forget b lport rport) (by (place_of b lport rport))
  where
    by : (o : Option ℕ) → option_map_or (at_place host (forget_body b) event) o None ≡ option_map_or (at_place host b event) o None
    by None = refl
    by (Some i) = place-seen host b event i

next-seen : (host : Host) (b : HostTcp) (event : Event) → at_next host (forget_body b) event ≡ at_next host b event
next-seen host b event = rw (length-map b.endpoints forget_endpoint) refl

target-seen : (host : Host) (b : HostTcp) (m : Emission) (t : Taker) → at_target host (forget_body b) m (forget_taker t) ≡ at_target host b m t
target-seen host b m Nobody = refl
target-seen host b m (AtListener l) = next-seen host b (processing_of m)
target-seen host b m (AtEndpoint i e) = place-seen host b (processing_of m) i

drop-seen : (v : Version) (host : Host) (b : HostTcp) (m : Emission) (taking : Option Rule) (t : Taker)
    → at_drop v host (forget_body b) m taking (forget_taker t) ≡ at_drop v host b m taking t
drop-seen v host b m taking Nobody = refl
drop-seen v host b m taking (AtListener l) = refl
drop-seen v host b m taking (AtEndpoint i e) = rw (rcv_nxt-forget e) (place-seen host b _ i)

droppable-forget : (h : Header) (b : HostTcp) (m : Emission) (t : Taker)
    → droppable_by h.version (forget_body b) m (forget_taker t) ≡ droppable_by h.version b m t
droppable-forget h b m Nobody = refl
droppable-forget h b m (AtListener l) = refl
droppable-forget h b m (AtEndpoint i e) = rw (read-forget h e m, rcv_nxt-forget e) refl

old-forget : (v : Version) (m : Emission) (t : Taker) → is_old v m (forget_taker t) ≡ is_old v m t
old-forget v m Nobody = refl
old-forget v m (AtListener l) = refl
old-forget v m (AtEndpoint i e) = rw (rcv_nxt-forget e) refl

discards-forget : (h : Header) (how : TakeChoice) (m : Emission) (t : Taker) → discards_at h.version how m (forget_taker t) ≡ discards_at h.version how m t
discards-forget h how m Nobody = refl
discards-forget h how m (AtListener l) = refl
discards-forget h how m (AtEndpoint i e) = rw (read-forget h e m, rcv_nxt-forget e) refl

-- a measurement reads what isn't acknowledged
measure-forget : (v : Version) (e : Endpoint) (m : Emission) → may_measure v (forget_endpoint e) m ≡ may_measure v e m
measure-forget v e m = rw (again-forget e e.stream.snd_una 1 (omega arith), sample-forget v e m) refl

sampling-forget : (h : Header) (how : TakeChoice) (m : Emission) (t : Taker) → sampling_at h.version how m (forget_taker t) ≡ sampling_at h.version how m t
sampling-forget h how m Nobody = refl
sampling-forget h how m (AtListener l) = refl
sampling-forget h how m (AtEndpoint i e) =
    rw (read-forget h e m, measure-forget h.version e (as_read h.version e m)) refl

earning-forget : (h : Header) (m : Emission) (t : Taker) → earns_by_taking h.version m (forget_taker t) ≡ earns_by_taking h.version m t
earning-forget h m Nobody = refl
earning-forget h m (AtListener l) = refl
earning-forget h m (AtEndpoint i e) = rw (read-forget h e m) refl

earning_drop-forget : (v : Version) (m : Emission) (taking : Option Rule) (t : Taker)
    → earns_by_dropping v m taking (forget_taker t) ≡ earns_by_dropping v m taking t
earning_drop-forget v m taking Nobody = refl
earning_drop-forget v m taking (AtListener l) = refl
earning_drop-forget v m taking (AtEndpoint i e) = rw (rcv_nxt-forget e) refl

syn-forget : (v : Version) (m : Emission) (t : Taker) → syn_taken v m (forget_taker t) ≡ syn_taken v m t
syn-forget v m Nobody = refl
syn-forget v m (AtListener l) = refl
syn-forget v m (AtEndpoint i e) = refl

syn_drop-forget : (v : Version) (m : Emission) (t : Taker) → syn_dropped v m (forget_taker t) ≡ syn_dropped v m t
syn_drop-forget v m Nobody = refl
syn_drop-forget v m (AtListener l) = refl
syn_drop-forget v m (AtEndpoint i e) = refl

blocks-forget : (h : Header) (m : Emission) (t : Taker) → blocks_taken h.version m (forget_taker t) ≡ blocks_taken h.version m t
blocks-forget h m Nobody = refl
blocks-forget h m (AtListener l) = refl
blocks-forget h m (AtEndpoint i e) = rw (read-forget h e m, snd_max-forget e) refl

arrival-forget : (h : Header) (m : Emission) (t : Taker) → arrival_at h.version m (forget_taker t) ≡ arrival_at h.version m t
arrival-forget h m Nobody = refl
arrival-forget h m (AtListener l) = refl
arrival-forget h m (AtEndpoint i e) = rw (read-forget h e m) refl

-- what a segment acknowledges that is built
acked-forget : (v : Version) (b : HostTcp) (plan : SegmentPlan) (moment : ℕ)
    → acked_at_ports v (forget_body b) plan moment ≡ acked_at_ports v b plan moment
acked-forget v b plan moment =
    ap (λ (n : ℕ). if says_sender v then n else 0) (rw (place-forget b plan.lport plan.rport) (by (place_of b plan.lport plan.rport)))
  where
    built : (o : Option Endpoint)
        → option_map_or (λ e. acked_built e plan moment) (option_map forget_endpoint o) 0 ≡ option_map_or (λ e. acked_built e plan moment) o 0
    built None = refl
    built (Some e) = rw (rcv_nxt-forget e) refl

    by : (o : Option ℕ)
        → option_map_or (λ i. option_map_or (λ e. acked_built e plan moment) (slice_get (map forget_endpoint b.endpoints) i) 0) o 0
        ≡ option_map_or (λ i. option_map_or (λ e. acked_built e plan moment) (slice_get b.endpoints i) 0) o 0
    by None = refl
    by (Some i) = rw (slice_get-map forget_endpoint b.endpoints i) (built (slice_get b.endpoints i))

sender-seen : (host : Host) (b : HostTcp) (wire : Wire) (m : Emission) → at_sender host (forget_body b) wire m ≡ at_sender host b wire m
sender-seen host b wire m = rw (place-seen host b (sending_of wire m) m.sender.number) refl

taking-forget : (h : Header) (moment : ℕ) (w : World tcp_shape) (host : Host) (line : ℕ)
    → taking_breaks h moment (forget w) host line ≡ taking_breaks h moment w host line
taking-forget h moment w host line = ap first_broken (step_rules-forget h moment w (network.At host (network.Takes line bare)))

answering-forget : (h : Header) (w : World tcp_shape) (host : Host) (line : ℕ) → answering_breaks h (forget w) host line ≡ answering_breaks h w host line
answering-forget h w host line = ap first_broken (step_rules-forget h 0 w (network.At host (network.Answers line)))

host_step-seen : (h : Header) (moment : ℕ) (w : World tcp_shape) (fresh : ℕ) (host : Host) (s : HostState tcp_shape) (d : HostStep tcp_shape)
    → observe_host_step h moment (forget w) fresh host (forget_host s) d ≡ observe_host_step h moment w fresh host s d
host_step-seen h moment w fresh host s (network.Does x) = rw (ports-seen host s.body _ x.lport x.rport) refl
host_step-seen h moment w fresh host s (network.Expires line x) = rw (ports-seen host s.body _ x.lport x.rport) refl
host_step-seen h moment w fresh host s (network.Makes m) =
    rw (ports-seen host s.body _ m.lport m.rport, acked-forget h.version s.body m moment) refl
host_step-seen h moment w fresh host s (network.Sends line number wire) = by (lookup (nat_eq number) s.made)
  where
    see : Emission → Option TouchedEndpoint → Observation
    see m t = record unseen {
      touched = t;
      built_change = Sends number;
      syn_change = syn_sent h.version m wire.bytes;
      stamps = stamps_read h.version wire.bytes;
      acked = acked_sent h.version wire m;
    }

    by : (o : Option (Made Emission))
        → on o unseen (λ m. see m.emission (at_sender host (forget_body s.body) wire m.emission))
        ≡ on o unseen (λ m. see m.emission (at_sender host s.body wire m.emission))
    by None = refl
    by (Some m) = ap (see m.emission) (sender-seen host s.body wire m.emission)
host_step-seen h moment w fresh host s (network.Gets line copied wire) = refl
host_step-seen h moment w fresh host s (network.Hears line wire) = refl
host_step-seen h moment w fresh host s (network.Takes line how) = by (waiting line s.inbox)
  where
    see : HostTcp → Emission → Observation
    see b m = observe_taking h host b line how m (taker b m)

    by : (o : Option Emission) → on o unseen (see (forget_body s.body)) ≡ on o unseen (see s.body)
    by None = refl
    by (Some m) =
        rw (
          taker-forget s.body m,
          target-seen host s.body m (taker s.body m),
          discards-forget h how m (taker s.body m),
          sampling-forget h how m (taker s.body m),
          earning-forget h m (taker s.body m),
          syn-forget h.version m (taker s.body m),
          blocks-forget h m (taker s.body m),
          kept-forget h how m (taker s.body m),
          arrival-forget h m (taker s.body m),
        ) refl
host_step-seen h moment w fresh host s (network.Drops line) =
    rw (taking-forget h moment w host line, answering-forget h w host line) (by (waiting line s.inbox))
  where
    see : HostTcp → Emission → Observation
    see b m = observe_dropping h.version host b line (taking_breaks h moment w host line) (answering_breaks h w host line) m (taker b m)

    by : (o : Option Emission) → on o unseen (see (forget_body s.body)) ≡ on o unseen (see s.body)
    by None = refl
    by (Some m) =
        rw (
          taker-forget s.body m,
          droppable-forget h s.body m (taker s.body m),
          old-forget h.version m (taker s.body m),
          drop-seen h.version host s.body m (taking_breaks h moment w host line) (taker s.body m),
          earning_drop-forget h.version m (taking_breaks h moment w host line) (taker s.body m),
          syn_drop-forget h.version m (taker s.body m),
          arrival-forget h m (taker s.body m),
        ) refl
host_step-seen h moment w fresh host s (network.Answers line) = refl

accepting-forget : (host : Host) (b : HostTcp) (l : ℕ) (queue : List ℕ) → accepting host (forget_body b) l queue ≡ accepting host b l queue
accepting-forget host b l [] = refl
accepting-forget host b l (child ∷ queue) = rw (slice_get-map forget_endpoint b.endpoints child) (by (slice_get b.endpoints child))
  where
    see : Endpoint → Queueing
    see e = if is_closed e.state then queueing.Nothing else queueing.Accepts host l

    by : (o : Option Endpoint) → option_map_or see (option_map forget_endpoint o) queueing.Nothing ≡ option_map_or see o queueing.Nothing
    by None = refl
    by (Some e) = refl

accept-seen : (host : Host) (b : HostTcp) (answer : Answer) (t : SocketTarget) → observe_accept host (forget_body b) answer t ≡ observe_accept host b answer t
accept-seen host b (answers.Given n) (ListenerAt l) = rw (accepting-forget host b l (queue_of b l)) refl
accept-seen host b (answers.Given n) (EndpointAt i) = refl
accept-seen host b answers.Done t = refl
accept-seen host b (answers.Bytes bytes) t = refl
accept-seen host b answers.Again t = refl
accept-seen host b answers.Eof t = refl
accept-seen host b answers.Closed t = refl
accept-seen host b answers.NotConn t = refl
accept-seen host b answers.Refused t = refl
accept-seen host b answers.Reset t = refl
accept-seen host b answers.Timeout t = refl
accept-seen host b answers.InUse t = refl
accept-seen host b answers.BadSocket t = refl
accept-seen host b (answers.State s) t = refl

close-seen : (host : Host) (b : HostTcp) (aborts : Bool) (answer : Answer) (t : SocketTarget)
    → observe_close host (forget_body b) aborts answer t ≡ observe_close host b aborts answer t
close-seen host b aborts answer (ListenerAt l) = refl
close-seen host b aborts answer (EndpointAt i) = rw (place-seen host b _ i) refl

other-seen : (host : Host) (b : HostTcp) (t : SocketTarget) → observe_other host (forget_body b) t ≡ observe_other host b t
other-seen host b (ListenerAt l) = refl
other-seen host b (EndpointAt i) = rw (place-seen host b _ i) refl

opened-seen : (host : Host) (b : HostTcp) (answer : Answer) → observe_opened host (forget_body b) answer ≡ observe_opened host b answer
opened-seen host b (answers.Given n) = rw (next-seen host b _) refl
opened-seen host b answers.Done = refl
opened-seen host b (answers.Bytes bytes) = refl
opened-seen host b answers.Again = refl
opened-seen host b answers.Eof = refl
opened-seen host b answers.Closed = refl
opened-seen host b answers.NotConn = refl
opened-seen host b answers.Refused = refl
opened-seen host b answers.Reset = refl
opened-seen host b answers.Timeout = refl
opened-seen host b answers.InUse = refl
opened-seen host b answers.BadSocket = refl
opened-seen host b (answers.State s) = refl

socket-target-seen : (b : HostTcp) (n : ℕ) (f g : SocketTarget → Observation) → ((t : SocketTarget) → f t ≡ g t)
    → on_target (forget_body b) n f ≡ on_target b n g
socket-target-seen b n f g same = by (socket_target b n)
  where
    by : (o : Option SocketTarget) → on o unseen f ≡ on o unseen g
    by None = refl
    by (Some t) = same t

call-seen : (host : Host) (b : HostTcp) (call : Call) (answer : Answer) → observe_call host (forget_body b) call answer ≡ observe_call host b call answer
call-seen host b (calls.Listen x port backlog) answer = refl
call-seen host b (calls.Connect x lport rport) answer = opened-seen host b answer
call-seen host b (calls.Await n) answer = refl
call-seen host b (calls.Accept n) answer = socket-target-seen b n _ _ (accept-seen host b answer)
call-seen host b (calls.Send n bytes) answer = socket-target-seen b n _ _ (other-seen host b)
call-seen host b (calls.Recv n most) answer = refl
call-seen host b (calls.Shut n) answer = socket-target-seen b n _ _ (close-seen host b _ answer)
call-seen host b (calls.Close n) answer = socket-target-seen b n _ _ (close-seen host b _ answer)
call-seen host b (calls.Abort n) answer = socket-target-seen b n _ _ (close-seen host b _ answer)
call-seen host b (calls.Status n) answer = refl

aim-forget : (h : Header) (w : World tcp_shape) (a : Aim) → aim_of (tcp h) (forget w).hosts a ≡ aim_of (tcp h) w.hosts a
aim-forget h w (ThatHost host) = refl
aim-forget h w (ThatSocket n) = refl

pending-seen : (h : Header) (w : World tcp_shape) (answer : Answer) (call : Call) → observe_pending h (forget w) answer call ≡ observe_pending h w answer call
pending-seen h w answer call = rw (aim-forget h w (aim call)) (by (aim_of (tcp h) w.hosts (aim call)))
  where
    by : (o : Option Host)
        → on o unseen (λ host. observe_call host (pick (forget w).hosts host).body call answer)
        ≡ on o unseen (λ host. observe_call host (pick w.hosts host).body call answer)
    by None = refl
    by (Some Zero) = call-seen Zero w.hosts.zero.body call answer
    by (Some One) = call-seen One w.hosts.one.body call answer

effect-seen : (h : Header) (w : World tcp_shape) (thread : ℕ) (answer : Answer) (u : Turn tcp_shape)
    → observe_effect h (forget w) thread answer u ≡ observe_effect h w thread answer u
effect-seen h w thread answer Idle = refl
effect-seen h w thread answer (Called call) =
    opening_same (forget w) w (same_forget w) h h (aim-forget h w) thread answer call refl (pending-seen h w answer call)
effect-seen h w thread answer (Answered given) = refl

pub observe-forget : (h : Header) (moment : ℕ) (w : World tcp_shape) (step : Step tcp_shape) → observe h moment (forget w) step ≡ observe h moment w step
observe-forget h moment w (network.Begin line t call) = refl
observe-forget h moment w (network.Finish line t answer) = refl
observe-forget h moment w (network.Effect t answer) = effect-seen h w t answer (turn_of t w.threads)
observe-forget h moment w (network.At Zero d) = host_step-seen h moment w (suc w.count) Zero w.hosts.zero d
observe-forget h moment w (network.At One d) = host_step-seen h moment w (suc w.count) One w.hosts.one d

-- nor do they when an endpoint is seen again
view-at : (es : List Endpoint) (i : ℕ) → option_map_or view_of (slice_get (map forget_endpoint es) i) unborn ≡ option_map_or view_of (slice_get es i) unborn
view-at es i = rw (slice_get-map forget_endpoint es i) (by (slice_get es i))
  where
    by : (o : Option Endpoint) → option_map_or view_of (option_map forget_endpoint o) unborn ≡ option_map_or view_of o unborn
    by None = refl
    by (Some e) = view-forget e

pub view_in-forget : (w : World tcp_shape) (t : Option TouchedEndpoint) → view_in (forget w) t ≡ view_in w t
view_in-forget w None = refl
view_in-forget w (Some t) = by t.host
  where
    by : (h : Host) → option_map_or view_of (slice_get (pick (forget w).hosts h).body.endpoints t.place) unborn
        ≡ option_map_or view_of (slice_get (pick w.hosts h).body.endpoints t.place) unborn
    by Zero = view-at w.hosts.zero.body.endpoints t.place
    by One = view-at w.hosts.one.body.endpoints t.place

-- nor at the end
lates-forget : (h : Header) (slack moment : ℕ) (d : Duties) (host : Host) (place : ℕ) (so_far : Lates) (es : List Endpoint)
    → lates_from h slack moment d host place so_far (map forget_endpoint es) ≡ lates_from h slack moment d host place so_far es
lates-forget h slack moment d host place so_far [] = refl
lates-forget h slack moment d host place so_far (e ∷ es) =
    ap (λ (v : View). lates_from h slack moment d host (suc place)
    (either so_far (judged_lates h slack moment d None host place v)) (map forget_endpoint es)) (view-forget e)
    ∙ lates-forget h slack moment d host (suc place) (either so_far (lates_at h slack moment d host place e)) es

end-forget : (h : Header) (slack moment : ℕ) (d : Duties) (w : World tcp_shape) → lates_of_all h slack moment d (forget w) ≡ lates_of_all h slack moment d w
end-forget h slack moment d w =
    lates-forget h slack moment d One 0 (lates_of_host h slack moment d (forget w) Zero (none_late false)) w.hosts.one.body.endpoints
    ∙ ap (λ (so_far : Lates). lates_of_host h slack moment d w One so_far)
    (lates-forget h slack moment d Zero 0 (none_late false) w.hosts.zero.body.endpoints)

pub late-forget : (h : Header) (moment : ℕ) (k : Known) → late_at_end h moment (cases.forget k) ≡ late_at_end h moment k
late-forget h moment k = by h.slack
  where
    with : ℕ → Lates → Bool → Option (ℕ × Rule)
    with slack l late =
        option_map (λ rule. (line_of (first_waiting slack moment k.duties.inbox) rule, rule))
        (first_broken ((rules.ProcessLate, is_some (first_waiting slack moment k.duties.inbox))
        ∷ (rules.SendLate, any_unsent (is_send_late slack moment) k.duties.unsent)
        ∷ late_rules (with_brought (any_unsent (is_brought_late slack moment) k.duties.unsent) l) ++ (rules.AnswerLate, late) ∷ []))

    late : ℕ → World tcp_shape → Bool
    late slack w = any_call (is_unanswered_late h slack moment w k.duties.waits) k.duties.waits.threads

    by : (o : Option ℕ)
        → on o None (λ slack. with slack (lates_of_all h slack moment k.duties (forget k.model)) (late slack (forget k.model)))
        ≡ on o None (λ slack. with slack (lates_of_all h slack moment k.duties k.model) (late slack k.model))
    by None = refl
    by (Some slack) =
        ap (λ (l : Lates). with slack l (late slack (forget k.model))) (end-forget h slack moment k.duties k.model)
        ∙ ap (with slack (lates_of_all h slack moment k.duties k.model))
        (any_same (forget k.model) k.model (same_forget k.model) h h (aim-forget h k.model) slack moment k.duties.waits k.duties.waits.threads)
