-- What a step shows at another level of congestion control: the same, but for the congestion edge.
use Rattle.std.proofs.Common.{◌≡◌, ℕ, suc, ◌≤◌, Bool, true, false, List, [], ◌∷◌, Option, None, Some, map, refl, ap, sym, subst, ◌∙◌, arith}
use Rattle.std.specs.Prelude.{◌&&◌, if◌then◌else◌, not, slice_get, nat_eq, nat_lt}
use Rattle.std.specs.Map.{lookup}
use Rattle.std.specs.Option.{option_map, option_map_or}
use Rattle.std.proofs.lemmas.Bool.Decides.{nat_tests}
use Rattle.std.proofs.lemmas.List.{length-map}
use Rattle.std.proofs.lemmas.Option.{slice_get-map}
use Rattle.case_forms.specs.declared.version.Version.{Version}
use Rattle.case_forms.specs.States.{is_closed, is_syn_sent}
use Rattle.case_forms.specs.Versions.{says_sender}
use Rattle.case_forms.specs.declared.calls.Answer.{Answer}
use Rattle.case_forms.specs.declared.calls.Answer.TheVariants as answers
use Rattle.case_forms.specs.declared.calls.Call.{Call}
use Rattle.case_forms.specs.declared.calls.Call.TheVariants as calls
use Rattle.case_forms.specs.declared.calls.Host.{Host}
use Rattle.case_forms.specs.declared.calls.Host.TheVariants.{Zero, One}
use Rattle.case_forms.specs.declared.steps.SegmentPlan.{SegmentPlan}
use Rattle.case_forms.specs.declared.steps.TakeChoice.{TakeChoice}
use Rattle.case_forms.specs.declared.trace.Header.{Header}
use Rattle.case_forms.specs.declared.trace.Wire.{Wire}
use Rattle.case_forms.specs.declared.version.Judged.{Judged}
use Rattle.verdict.specs.Rules.{first_broken}
use Rattle.verdict.specs.declared.rule.Rule.{Rule}
use Rattle.verdict.specs.declared.rule.Rule.TheVariants as rules
use Rattle.window_rules.specs.Control.{control_edge, greatest}
use Rattle.window_rules.specs.Judging.{with_profile}
use Rattle.window_rules.specs.declared.control.Profile.{Profile}
use Rattle.window_rules.proofs.Judging.{allows_more}
use Rattle.spec_network.specs.HostRules.{aim_of, just}
use Rattle.spec_network.specs.Hosts as network
use Rattle.spec_network.specs.Hosts.{Answered, Called, HostStep, HostState, Idle, Step, Turn, World, turn_of}
use Rattle.spec_network.specs.Tables.{Made, on, pick, waiting}
use Rattle.spec_tcp.specs.Arrives.{AtEndpoint, AtListener, Nobody, Taker, taker, taker_rules}
use Rattle.spec_tcp.specs.Arrives.OtherStates.{connected_rules}
use Rattle.spec_tcp.specs.Arrives.SynSent.{syn_sent_rules}
use Rattle.spec_tcp.specs.Heard.{as_read}
use Rattle.spec_tcp.specs.HostTcp.{HostTcp, has_ended, place_of, queue_of, socket_target}
use Rattle.spec_tcp.specs.Machine.{act_rules, aim, tcp, tcp_shape}
use Rattle.spec_tcp.specs.Machine as acts
use Rattle.spec_tcp.specs.Reset.{reset_rules}
use Rattle.spec_tcp.specs.Signals.{at_moment, profile_of, signal_of}
use Rattle.spec_tcp.specs.declared.endpoint.Emission.{Emission}
use Rattle.spec_tcp.specs.declared.endpoint.Endpoint.{Endpoint}
use Rattle.spec_tcp.specs.declared.endpoint.EndpointId.{EndpointId}
use Rattle.spec_tcp.specs.declared.endpoint.SocketTarget.{SocketTarget}
use Rattle.spec_tcp.specs.declared.endpoint.SocketTarget.TheVariants.{EndpointAt, ListenerAt}
use Rattle.spec_tcp_laws.specs.Judging.{body_by, endpoint_by, header_by, host_by, world_by}
use Rattle.spec_tcp_laws.proofs.JudgedActs.{MayJudgeAll, nothing_same, taker_by, taker_is}
use Rattle.spec_tcp_laws.proofs.JudgedBodies.{place_by}
use Rattle.spec_tcp_laws.proofs.JudgedRules.{MayJudge}
use Rattle.spec_tcp_laws.proofs.JudgedWorlds.{aim_same, may_judge}
use Rattle.spec_duties.specs.Dropped.{answering_breaks, bare, discards_at, droppable_by, earns_by_dropping, earns_by_taking, is_old, taking_breaks}
use Rattle.spec_duties.specs.Sampling.{sampling_at}
use Rattle.spec_duties.specs.Arrivals.{acked_at_ports, acked_built, acked_sent, arrival_at, stamps_read}
use Rattle.spec_duties.specs.Blocks.{blocks_taken}
use Rattle.spec_duties.specs.Kept.{kept_at}
use Rattle.spec_duties.specs.Observations.{syn_dropped, syn_sent, syn_taken}
use Rattle.spec_duties.specs.Observations.{observe_accept, accepting, at_drop, at_next, at_place, at_ports, at_sender, at_target, observe_call, observe_close}
use Rattle.spec_duties.specs.Observations.{observe_host_step, observe_dropping, observe_effect, is_done, on_target, observe_opened, observe_other}
use Rattle.spec_duties.specs.Answering.{answering, beginning, judged_call, judged_socket, socket_changing}
use Rattle.spec_duties.specs.declared.answering.CallChange.TheVariants.{Ends}
use Rattle.spec_duties.specs.Observations.{observe_open, observe_pending, observe_turn, processing_of}
use Rattle.spec_duties.specs.Observations.{sending_of, observe, observe_taking, unseen, view_in}
use Rattle.spec_duties.specs.Views.{unborn, view_of}
use Rattle.spec_duties.specs.declared.events.Event.{Event}
use Rattle.spec_duties.specs.declared.events.Event.TheVariants.{Builds}
use Rattle.spec_duties.specs.declared.observations.BuiltChange.TheVariants as built_change
use Rattle.spec_duties.specs.declared.observations.Queueing.{Queueing}
use Rattle.spec_duties.specs.declared.observations.Queueing.TheVariants as queueing
use Rattle.spec_duties.specs.declared.observations.Observation.{Observation}
use Rattle.spec_duties.specs.declared.observations.TouchedEndpoint.{TouchedEndpoint}
use Rattle.watched.specs.Levels.{EndsBelow, LessJudgedShowsTheSame, ShowsHigher, observed_with, touched_with, view_with}
use Rattle.watched.proofs.WaitLemmas.{opened_same, same_by}

-- one touched endpoint is another but for its congestion edge, which isn't lower
abbrev Higher : Option TouchedEndpoint → Option TouchedEndpoint → Type 0
Higher s t = (edge : ℕ) × (t ≡ option_map (touched_with edge) s) × EndsBelow edge s

-- nothing is touched
untouched : Higher None None
untouched = (0, refl, tt)

place_seen : (p : Profile) (host : Host) (b : HostTcp) (event : Event) (i : ℕ) → MayJudgeAll p b
    → Higher (at_place host b event i) (at_place host (body_by p b) event i)
place_seen p host b event i may = rw (slice_get-map (endpoint_by p) b.endpoints i) (by (slice_get b.endpoints i) (may i))
  where
    see : Endpoint → TouchedEndpoint
    see e = record { host = host; place = i; event = event; before = view_of e }

    by : (o : Option Endpoint) → ((e : Endpoint) → o ≡ Some e → MayJudge p e) → Higher (option_map see o) (option_map see (option_map (endpoint_by p) o))
    by None may = untouched
    by (Some e) may = (
      control_edge e.stream.snd_una (with_profile p e.control),
      refl,
      (allows_more e.control p (may e refl).less).edge e.stream.snd_una,
    )

ports_seen : (p : Profile) (host : Host) (b : HostTcp) (event : Event) (lport rport : ℕ) → MayJudgeAll p b
    → Higher (at_ports host b event lport rport) (at_ports host (body_by p b) event lport rport)
ports_seen p host b event lport rport may = rw (place_by p b lport rport) (by (place_of b lport rport))
  where
    by : (o : Option ℕ) → Higher (option_map_or (at_place host b event) o None) (option_map_or (at_place host (body_by p b) event) o None)
    by None = untouched
    by (Some i) = place_seen p host b event i may

next_seen : (p : Profile) (host : Host) (b : HostTcp) (event : Event) → Higher (at_next host b event) (at_next host (body_by p b) event)
next_seen p host b event = (0, ap (λ n. at n) (length-map b.endpoints (endpoint_by p)), let zero : 0 ≤ 0 = omega arith in zero)
  where
    at : ℕ → Option TouchedEndpoint
    at n = Some (record { host = host; place = n; event = event; before = unborn })

target_seen : (p : Profile) (host : Host) (b : HostTcp) (m : Emission) (t : Taker) → MayJudgeAll p b
    → Higher (at_target host b m t) (at_target host (body_by p b) m (taker_by p t))
target_seen p host b m Nobody may = untouched
target_seen p host b m (AtListener l) may = next_seen p host b (processing_of m)
target_seen p host b m (AtEndpoint i e) may = place_seen p host b (processing_of m) i may

drop_seen : (p : Profile) (v : Version) (host : Host) (b : HostTcp) (m : Emission) (taking : Option Rule) (t : Taker) → MayJudgeAll p b
    → Higher (at_drop v host b m taking t) (at_drop v host (body_by p b) m taking (taker_by p t))
drop_seen p v host b m taking Nobody may = untouched
drop_seen p v host b m taking (AtListener l) may = untouched
drop_seen p v host b m taking (AtEndpoint i e) may = place_seen p host b _ i may

sender_seen : (p : Profile) (host : Host) (b : HostTcp) (wire : Wire) (m : Emission) → MayJudgeAll p b
    → Higher (at_sender host b wire m) (at_sender host (body_by p b) wire m)
sender_seen p host b wire m may = by m.is_reset_reply
  where
    by : (reply : Bool)
        → Higher (if reply then None else at_place host b (sending_of wire m) m.sender.number)
        (if reply then None else at_place host (body_by p b) (sending_of wire m) m.sender.number)
    by true = untouched
    by false = place_seen p host b (sending_of wire m) m.sender.number may

-- ---- which rule of the model the processing of a segment with nothing chosen would break

not_below : (n : ℕ) → nat_lt n 0 ≡ false
not_below n = grind (arith, nat_tests)

taker_bare : (p : Profile) (j : Judged) (h : Header) (me : Host) (b : HostTcp) (m : Emission) (moment : ℕ) (t : Taker)
    → taker_rules (header_by j h) me (body_by p b) bare m moment (taker_by p t) ≡ taker_rules h me b bare m moment t
taker_bare p j h me b m moment Nobody = refl
taker_bare p j h me b m moment (AtListener l) = refl
taker_bare p j h me b m moment (AtEndpoint i e) = by (as_read h.version e m) (is_syn_sent e.state)
  where
    name : EndpointId
    name = record { host = me; number = i }

    by : (m : Emission) (sent : Bool)
        → (if sent then syn_sent_rules (endpoint_by p e) bare m moment else connected_rules (header_by j h) (body_by p b) name (endpoint_by p e) bare m moment)
        ≡ (if sent then syn_sent_rules e bare m moment else connected_rules h b name e bare m moment)
    by m true =
        rw (
          not_below ((greatest (with_profile p e.control) (signal_of e m) (at_moment e moment)).0),
          not_below ((greatest e.control (signal_of e m) (at_moment e moment)).0),
        ) refl
    by m false =
        rw (
          not_below ((greatest (with_profile p e.control) (signal_of e m) (at_moment e moment)).0),
          not_below ((greatest e.control (signal_of e m) (at_moment e moment)).0),
        ) refl

-- at a host
taking_same : (p : Profile) (j : Judged) (h : Header) (moment : ℕ) (me : Host) (s : HostState tcp_shape) (line : ℕ)
    → on (waiting line s.inbox) (just rules.Inbox true) (λ m. act_rules (header_by j h) me moment (body_by p s.body) (acts.Takes bare m))
    ≡ on (waiting line s.inbox) (just rules.Inbox true) (λ m. act_rules h me moment s.body (acts.Takes bare m))
taking_same p j h moment me s line = by (waiting line s.inbox)
  where
    by : (o : Option Emission)
        → on o (just rules.Inbox true) (λ m. act_rules (header_by j h) me moment (body_by p s.body) (acts.Takes bare m))
        ≡ on o (just rules.Inbox true) (λ m. act_rules h me moment s.body (acts.Takes bare m))
    by None = refl
    by (Some m) = rw (taker_is p s.body m) (taker_bare p j h me s.body m moment (taker s.body m))

answer_same : (p : Profile) (s : HostState tcp_shape) (line : ℕ)
    → on (waiting line s.inbox) (just rules.Inbox true) (λ m. reset_rules (body_by p s.body) m)
    ≡ on (waiting line s.inbox) (just rules.Inbox true) (λ m. reset_rules s.body m)
answer_same p s line = by (waiting line s.inbox)
  where
    by : (o : Option Emission)
        → on o (just rules.Inbox true) (λ m. reset_rules (body_by p s.body) m) ≡ on o (just rules.Inbox true) (λ m. reset_rules s.body m)
    by None = refl
    by (Some m) = rw (taker_is p s.body m, nothing_same p m (taker s.body m)) refl

taking_breaks_same : (p : Profile) (j : Judged) (h : Header) (moment : ℕ) (w : World tcp_shape) (host : Host) (line : ℕ)
    → taking_breaks (header_by j h) moment (world_by p w) host line ≡ taking_breaks h moment w host line
taking_breaks_same p j h moment w Zero line = ap first_broken (taking_same p j h moment Zero w.hosts.zero line)
taking_breaks_same p j h moment w One line = ap first_broken (taking_same p j h moment One w.hosts.one line)

answering_breaks_same : (p : Profile) (j : Judged) (h : Header) (w : World tcp_shape) (host : Host) (line : ℕ)
    → answering_breaks (header_by j h) (world_by p w) host line ≡ answering_breaks h w host line
answering_breaks_same p j h w Zero line = ap first_broken (answer_same p w.hosts.zero line)
answering_breaks_same p j h w One line = ap first_broken (answer_same p w.hosts.one line)

droppable_same : (p : Profile) (v : Version) (b : HostTcp) (m : Emission) (t : Taker)
    → droppable_by v (body_by p b) m (taker_by p t) ≡ droppable_by v b m t
droppable_same p v b m Nobody = refl
droppable_same p v b m (AtListener l) = refl
droppable_same p v b m (AtEndpoint i e) = refl

old_same : (p : Profile) (v : Version) (m : Emission) (t : Taker) → is_old v m (taker_by p t) ≡ is_old v m t
old_same p v m Nobody = refl
old_same p v m (AtListener l) = refl
old_same p v m (AtEndpoint i e) = refl

discards_same : (p : Profile) (h : Header) (how : TakeChoice) (m : Emission) (t : Taker)
    → discards_at h.version how m (taker_by p t) ≡ discards_at h.version how m t
discards_same p h how m Nobody = refl
discards_same p h how m (AtListener l) = refl
discards_same p h how m (AtEndpoint i e) = refl

sampling_same : (p : Profile) (h : Header) (how : TakeChoice) (m : Emission) (t : Taker)
    → sampling_at h.version how m (taker_by p t) ≡ sampling_at h.version how m t
sampling_same p h how m Nobody = refl
sampling_same p h how m (AtListener l) = refl
sampling_same p h how m (AtEndpoint i e) = refl

earning_same : (p : Profile) (h : Header) (m : Emission) (t : Taker) → earns_by_taking h.version m (taker_by p t) ≡ earns_by_taking h.version m t
earning_same p h m Nobody = refl
earning_same p h m (AtListener l) = refl
earning_same p h m (AtEndpoint i e) = refl

syn_same : (p : Profile) (v : Version) (m : Emission) (t : Taker) → syn_taken v m (taker_by p t) ≡ syn_taken v m t
syn_same p v m Nobody = refl
syn_same p v m (AtListener l) = refl
syn_same p v m (AtEndpoint i e) = refl

blocks_same : (p : Profile) (v : Version) (m : Emission) (t : Taker) → blocks_taken v m (taker_by p t) ≡ blocks_taken v m t
blocks_same p v m Nobody = refl
blocks_same p v m (AtListener l) = refl
blocks_same p v m (AtEndpoint i e) = refl

kept_same : (p : Profile) (v : Version) (how : TakeChoice) (m : Emission) (t : Taker) → kept_at v how m (taker_by p t) ≡ kept_at v how m t
kept_same p v how m Nobody = refl
kept_same p v how m (AtListener l) = refl
kept_same p v how m (AtEndpoint i e) = refl

arrival_same : (p : Profile) (v : Version) (m : Emission) (t : Taker) → arrival_at v m (taker_by p t) ≡ arrival_at v m t
arrival_same p v m Nobody = refl
arrival_same p v m (AtListener l) = refl
arrival_same p v m (AtEndpoint i e) = refl

syn_drop_same : (p : Profile) (v : Version) (m : Emission) (t : Taker) → syn_dropped v m (taker_by p t) ≡ syn_dropped v m t
syn_drop_same p v m Nobody = refl
syn_drop_same p v m (AtListener l) = refl
syn_drop_same p v m (AtEndpoint i e) = refl

earning_drop_same : (p : Profile) (v : Version) (m : Emission) (taking : Option Rule) (t : Taker)
    → earns_by_dropping v m taking (taker_by p t) ≡ earns_by_dropping v m taking t
earning_drop_same p v m taking Nobody = refl
earning_drop_same p v m taking (AtListener l) = refl
earning_drop_same p v m taking (AtEndpoint i e) = refl

-- what a segment acknowledges that is built
acked_same : (p : Profile) (v : Version) (b : HostTcp) (plan : SegmentPlan) (moment : ℕ)
    → acked_at_ports v (body_by p b) plan moment ≡ acked_at_ports v b plan moment
acked_same p v b plan moment =
    ap (λ (n : ℕ). if says_sender v then n else 0) (rw (place_by p b plan.lport plan.rport) (by (place_of b plan.lport plan.rport)))
  where
    built : (o : Option Endpoint)
        → option_map_or (λ e. acked_built e plan moment) (option_map (endpoint_by p) o) 0 ≡ option_map_or (λ e. acked_built e plan moment) o 0
    built None = refl
    built (Some e) = refl

    by : (o : Option ℕ)
        → option_map_or (λ i. option_map_or (λ e. acked_built e plan moment) (slice_get (map (endpoint_by p) b.endpoints) i) 0) o 0
        ≡ option_map_or (λ i. option_map_or (λ e. acked_built e plan moment) (slice_get b.endpoints i) 0) o 0
    by None = refl
    by (Some i) = rw (slice_get-map (endpoint_by p) b.endpoints i) (built (slice_get b.endpoints i))

-- ---- acts of a host

-- from what is touched to what is shown
shown : (s : Observation) (o : Option TouchedEndpoint) → Higher s.touched o → ShowsHigher s (record s { touched = o })
shown s o higher = (higher.0, ap (λ (o : Option TouchedEndpoint). record s { touched = o }) higher.1, higher.2)

-- a step that touches no endpoint shows the same
shows_same : (s : Observation) → s.touched ≡ None → ShowsHigher s s
shows_same s none = (
  0,
  ap (λ (o : Option TouchedEndpoint). record s { touched = o }) (none ∙ sym (ap (option_map (touched_with 0)) none)),
  rw none tt,
)

host_step_seen : (p : Profile) (j : Judged) (h : Header) (moment : ℕ) (w : World tcp_shape) (fresh : ℕ) (host : Host) (s : HostState tcp_shape)
    (d : HostStep tcp_shape) → MayJudgeAll p s.body
    → ShowsHigher (observe_host_step h moment w fresh host s d) (observe_host_step (header_by j h) moment (world_by p w) fresh host (host_by p s) d)
host_step_seen p j h moment w fresh host s (network.Does x) may =
    shown (observe_host_step h moment w fresh host s (network.Does x)) _ (ports_seen p host s.body _ x.lport x.rport may)
host_step_seen p j h moment w fresh host s (network.Expires line x) may =
    shown (observe_host_step h moment w fresh host s (network.Expires line x)) _ (ports_seen p host s.body _ x.lport x.rport may)
host_step_seen p j h moment w fresh host s (network.Makes m) may =
    subst (λ (acked : ℕ). ShowsHigher (made (at_ports host s.body (Builds m) m.lport m.rport) (acked_at_ports h.version s.body m moment))
    (made (at_ports host (body_by p s.body) (Builds m) m.lport m.rport) acked))
    (sym (acked_same p h.version s.body m moment))
    (shown (made (at_ports host s.body (Builds m) m.lport m.rport) (acked_at_ports h.version s.body m moment)) _
    (ports_seen p host s.body (Builds m) m.lport m.rport may))
  where
    made : Option TouchedEndpoint → ℕ → Observation
    made t acked = record unseen { touched = t; built_change = built_change.Builds fresh; acked = acked }
host_step_seen p j h moment w fresh host s (network.Sends line number wire) may = by (lookup (nat_eq number) s.made)
  where
    see : Emission → Option TouchedEndpoint → Observation
    see m t = record unseen {
      touched = t;
      built_change = built_change.Sends number;
      syn_change = syn_sent h.version m wire.bytes;
      stamps = stamps_read h.version wire.bytes;
      acked = acked_sent h.version wire m;
    }

    by : (o : Option (Made Emission))
        → ShowsHigher (on o unseen (λ m. see m.emission (at_sender host s.body wire m.emission)))
        (on o unseen (λ m. see m.emission (at_sender host (body_by p s.body) wire m.emission)))
    by None = shows_same unseen refl
    by (Some m) = shown (see m.emission (at_sender host s.body wire m.emission)) _ (sender_seen p host s.body wire m.emission may)
host_step_seen p j h moment w fresh host s (network.Gets line copied wire) may =
    shows_same (observe_host_step h moment w fresh host s (network.Gets line copied wire)) refl
host_step_seen p j h moment w fresh host s (network.Hears line wire) may = shows_same (observe_host_step h moment w fresh host s (network.Hears line wire)) refl
host_step_seen p j h moment w fresh host s (network.Takes line how) may = by (waiting line s.inbox)
  where
    see : HostTcp → Emission → Taker → Observation
    see b m t = observe_taking h host b line how m t

    by : (o : Option Emission)
        → ShowsHigher (on o unseen (λ m. see s.body m (taker s.body m)))
        (on o unseen (λ m. observe_taking (header_by j h) host (body_by p s.body) line how m (taker (body_by p s.body) m)))
    by None = shows_same unseen refl
    by (Some m) =
        rw (
          taker_is p s.body m,
          discards_same p h how m (taker s.body m),
          sampling_same p h how m (taker s.body m),
          earning_same p h m (taker s.body m),
          syn_same p h.version m (taker s.body m),
          blocks_same p h.version m (taker s.body m),
          kept_same p h.version how m (taker s.body m),
          arrival_same p h.version m (taker s.body m),
        )
        (shown (see s.body m (taker s.body m)) _ (target_seen p host s.body m (taker s.body m) may))
host_step_seen p j h moment w fresh host s (network.Drops line) may =
    rw (taking_breaks_same p j h moment w host line, answering_breaks_same p j h w host line) (by (waiting line s.inbox))
  where
    taking : Option Rule
    taking = taking_breaks h moment w host line

    answering : Option Rule
    answering = answering_breaks h w host line

    by : (o : Option Emission)
        → ShowsHigher (on o unseen (λ m. observe_dropping h.version host s.body line taking answering m (taker s.body m)))
        (on o unseen (λ m. observe_dropping h.version host (body_by p s.body) line taking answering m (taker (body_by p s.body) m)))
    by None = shows_same unseen refl
    by (Some m) =
        rw (
          taker_is p s.body m,
          droppable_same p h.version s.body m (taker s.body m),
          old_same p h.version m (taker s.body m),
          earning_drop_same p h.version m taking (taker s.body m),
          syn_drop_same p h.version m (taker s.body m),
          arrival_same p h.version m (taker s.body m),
        )
        (shown (observe_dropping h.version host s.body line taking answering m (taker s.body m)) _
        (drop_seen p h.version host s.body m taking (taker s.body m) may))
host_step_seen p j h moment w fresh host s (network.Answers line) may = shows_same (observe_host_step h moment w fresh host s (network.Answers line)) refl

-- ---- effects of calls

accepting_same : (p : Profile) (host : Host) (b : HostTcp) (l : ℕ) (queue : List ℕ) → accepting host (body_by p b) l queue ≡ accepting host b l queue
accepting_same p host b l [] = refl
accepting_same p host b l (child ∷ queue) = rw (slice_get-map (endpoint_by p) b.endpoints child) (by (slice_get b.endpoints child))
  where
    see : Endpoint → Queueing
    see e = if is_closed e.state then queueing.Nothing else queueing.Accepts host l

    by : (o : Option Endpoint) → option_map_or see (option_map (endpoint_by p) o) queueing.Nothing ≡ option_map_or see o queueing.Nothing
    by None = refl
    by (Some e) = refl

accept_seen : (p : Profile) (host : Host) (b : HostTcp) (answer : Answer) (t : SocketTarget)
    → ShowsHigher (observe_accept host b answer t) (observe_accept host (body_by p b) answer t)
accept_seen p host b (answers.Given n) (ListenerAt l) =
    rw (accepting_same p host b l (queue_of b l)) (shows_same (record unseen { queueing = accepting host b l (queue_of b l) }) refl)
accept_seen p host b _ _ = shows_same unseen refl

close_seen : (p : Profile) (host : Host) (b : HostTcp) (aborts : Bool) (answer : Answer) (t : SocketTarget) → MayJudgeAll p b
    → ShowsHigher (observe_close host b aborts answer t) (observe_close host (body_by p b) aborts answer t)
close_seen p host b aborts answer (ListenerAt l) may = by (is_done answer && not (has_ended b l))
  where
    by : (done : Bool)
        → ShowsHigher (if done then record unseen { queueing = queueing.Closes host l } else unseen)
        (if done then record unseen { queueing = queueing.Closes host l } else unseen)
    by true = shows_same (record unseen { queueing = queueing.Closes host l }) refl
    by false = shows_same unseen refl
close_seen p host b aborts answer (EndpointAt i) may = shown (observe_close host b aborts answer (EndpointAt i)) _ (place_seen p host b _ i may)

other_seen : (p : Profile) (host : Host) (b : HostTcp) (t : SocketTarget) → MayJudgeAll p b
    → ShowsHigher (observe_other host b t) (observe_other host (body_by p b) t)
other_seen p host b (ListenerAt l) may = shows_same unseen refl
other_seen p host b (EndpointAt i) may = shown (observe_other host b (EndpointAt i)) _ (place_seen p host b _ i may)

opened_seen : (p : Profile) (host : Host) (b : HostTcp) (answer : Answer)
    → ShowsHigher (observe_opened host b answer) (observe_opened host (body_by p b) answer)
opened_seen p host b (answers.Given n) = shown (observe_opened host b (answers.Given n)) _ (next_seen p host b _)
opened_seen p host b _ = shows_same unseen refl

socket_target_seen : (p : Profile) (b : HostTcp) (n : ℕ) (f g : SocketTarget → Observation) → ((t : SocketTarget) → ShowsHigher (f t) (g t))
    → ShowsHigher (on_target b n f) (on_target (body_by p b) n g)
socket_target_seen p b n f g same = by (socket_target b n)
  where
    by : (o : Option SocketTarget) → ShowsHigher (on o unseen f) (on o unseen g)
    by None = shows_same unseen refl
    by (Some t) = same t

call_seen : (p : Profile) (host : Host) (b : HostTcp) (call : Call) (answer : Answer) → MayJudgeAll p b
    → ShowsHigher (observe_call host b call answer) (observe_call host (body_by p b) call answer)
call_seen p host b (calls.Connect x lport rport) answer may = opened_seen p host b answer
call_seen p host b (calls.Accept n) answer may = socket_target_seen p b n _ _ (accept_seen p host b answer)
call_seen p host b (calls.Send n bytes) answer may = socket_target_seen p b n _ _ (λ t. other_seen p host b t may)
call_seen p host b (calls.Shut n) answer may = socket_target_seen p b n _ _ (λ t. close_seen p host b _ answer t may)
call_seen p host b (calls.Close n) answer may = socket_target_seen p b n _ _ (λ t. close_seen p host b _ answer t may)
call_seen p host b (calls.Abort n) answer may = socket_target_seen p b n _ _ (λ t. close_seen p host b _ answer t may)
call_seen p host b _ answer may = shows_same unseen refl

pending_seen : (p : Profile) (j : Judged) (h : Header) (w : World tcp_shape) (answer : Answer) (call : Call)
    → ((host : Host) → MayJudgeAll p (pick w.hosts host).body)
    → ShowsHigher (observe_pending h w answer call) (observe_pending (header_by j h) (world_by p w) answer call)
pending_seen p j h w answer call may = rw (aim_same p j h w.hosts (aim call)) (by (aim_of (tcp h) w.hosts (aim call)))
  where
    by : (o : Option Host)
        → ShowsHigher (on o unseen (λ host. observe_call host (pick w.hosts host).body call answer))
        (on o unseen (λ host. observe_call host (pick (world_by p w).hosts host).body call answer))
    by None = shows_same unseen refl
    by (Some Zero) = call_seen p Zero w.hosts.zero.body call answer (may Zero)
    by (Some One) = call_seen p One w.hosts.one.body call answer (may One)

open_seen : (p : Profile) (j : Judged) (h : Header) (w : World tcp_shape) (thread : ℕ) (answer : Answer) (call : Call)
    → ((host : Host) → MayJudgeAll p (pick w.hosts host).body)
    → ShowsHigher (observe_open h w thread answer call) (observe_open (header_by j h) (world_by p w) thread answer call)
open_seen p j h w thread answer call may =
    let seen = pending_seen p j h w answer call may in (
      seen.0,
      ap (λ (s : Observation). with s) seen.1
          ∙ opened_same (world_by p w) w (same_by p w) (header_by j h) h (aim_same p j h w.hosts)
          (observed_with seen.0 (observe_pending h w answer call)) thread answer call refl,
      seen.2,
    )
  where
    with : Observation → Observation
    with s =
        record s {
          call_change = judged_call (header_by j h) (answering (header_by j h) (world_by p w) thread answer call);
          socket_change = judged_socket (header_by j h) (socket_changing (header_by j h) (world_by p w) answer call);
        }

effect_seen : (p : Profile) (j : Judged) (h : Header) (w : World tcp_shape) (thread : ℕ) (answer : Answer) (u : Turn tcp_shape)
    → ((host : Host) → MayJudgeAll p (pick w.hosts host).body)
    → ShowsHigher (observe_effect h w thread answer u) (observe_effect (header_by j h) (world_by p w) thread answer u)
effect_seen p j h w thread answer Idle may = shows_same unseen refl
effect_seen p j h w thread answer (Called call) may = open_seen p j h w thread answer call may
effect_seen p j h w thread answer (Answered given) may = shows_same unseen refl

observed_seen : (p : Profile) (j : Judged) (h : Header) (moment : ℕ) (w : World tcp_shape) (step : Step tcp_shape)
    → ((host : Host) → MayJudgeAll p (pick w.hosts host).body)
    → ShowsHigher (observe h moment w step) (observe (header_by j h) moment (world_by p w) step)
observed_seen p j h moment w (network.Begin line t call) may = shows_same (observe_turn h (beginning t call)) refl
observed_seen p j h moment w (network.Finish line t answer) may = shows_same (observe_turn h (Ends t)) refl
observed_seen p j h moment w (network.Effect t answer) may = effect_seen p j h w t answer (turn_of t w.threads) may
observed_seen p j h moment w (network.At Zero d) may = host_step_seen p j h moment w (suc w.count) Zero w.hosts.zero d (may Zero)
observed_seen p j h moment w (network.At One d) may = host_step_seen p j h moment w (suc w.count) One w.hosts.one d (may One)

pub shows_the_same : (j : Judged) (h : Header) → LessJudgedShowsTheSame j h
shows_the_same j h moment w step le is = observed_seen (profile_of (header_by j h)) j h moment w step (may_judge j h w le is)

-- ---- the touched endpoint after the step

view_at : (p : Profile) (es : List Endpoint) (i : ℕ)
    → (edge : ℕ)
    × (option_map_or view_of (slice_get (map (endpoint_by p) es) i) unborn ≡ view_with edge (option_map_or view_of (slice_get es i) unborn))
view_at p es i = rw (slice_get-map (endpoint_by p) es i) (by (slice_get es i))
  where
    by : (o : Option Endpoint)
        → (edge : ℕ) × (option_map_or view_of (option_map (endpoint_by p) o) unborn ≡ view_with edge (option_map_or view_of o unborn))
    by None = (0, refl)
    by (Some e) = (control_edge e.stream.snd_una (with_profile p e.control), refl)

pub view_seen : (p : Profile) (w : World tcp_shape) (before : ℕ) (o : Option TouchedEndpoint)
    → (edge : ℕ) × (view_in (world_by p w) (option_map (touched_with before) o) ≡ view_with edge (view_in w o))
view_seen p w before None = (0, refl)
view_seen p w before (Some t) = by t.host
  where
    by : (host : Host)
        → (edge : ℕ)
        × (option_map_or view_of (slice_get (pick (world_by p w).hosts host).body.endpoints t.place) unborn
        ≡ view_with edge (option_map_or view_of (slice_get (pick w.hosts host).body.endpoints t.place) unborn))
    by Zero = view_at p w.hosts.zero.body.endpoints t.place
    by One = view_at p w.hosts.one.body.endpoints t.place
