-- What a step does at one endpoint, and what the endpoint owes then.
use Rattle.std.proofs.Common.{◌≡◌, ℕ, suc, ◌⊎◌, inl, inr, Bool, true, false, List, [], ◌∷◌, ◌++◌, length, Option, Some, None, refl, ap, sym, subst, ◌∙◌, cond}
use Rattle.std.proofs.Common.{nat_eq, arith}
use Rattle.std.specs.Prelude.{◌&&◌, ◌||◌, if◌then◌else◌, not, slice_get, unwrap_or}
use Rattle.std.specs.Map.{lookup}
use Rattle.std.specs.List.{AllByRecursion}
use Rattle.std.specs.Option.{option_map, option_map_or}
use Rattle.std.proofs.lemmas.Bool.Decides.{nat_tests}
use Rattle.std.proofs.lemmas.Option.{none-some, same_Some, slice_get_past}
use Rattle.indexmap.specs.IndexMap.{insert_entry}
use Rattle.case_forms.specs.Versions.{says_sender}
use Rattle.case_forms.specs.declared.version.Version.{Version}
use Rattle.case_forms.specs.declared.calls.Answer.{Answer}
use Rattle.case_forms.specs.declared.calls.Answer.TheVariants as answers
use Rattle.case_forms.specs.declared.calls.Call.{Call}
use Rattle.case_forms.specs.declared.calls.Call.TheVariants as calls
use Rattle.case_forms.specs.declared.calls.Host.{Host}
use Rattle.case_forms.specs.declared.calls.State.TheVariants as states
use Rattle.case_forms.specs.declared.calls.Host.TheVariants.{Zero, One}
use Rattle.case_forms.specs.declared.steps.SegmentPlan.{SegmentPlan}
use Rattle.case_forms.specs.declared.steps.TakeChoice.{TakeChoice}
use Rattle.case_forms.specs.TakenLines.{timer_of}
use Rattle.case_forms.specs.declared.timer.Recovery.{Recovery}
use Rattle.case_forms.specs.declared.trace.Header.{Header}
use Rattle.case_forms.specs.declared.trace.Wire.{Wire}
use Rattle.verdict.specs.declared.rule.Rule.{Rule}
use Rattle.spec_network.specs.HostRules.{Permitted, aim_of}
use Rattle.spec_network.specs.HostSteps.{after, host_step_after, effect_after}
use Rattle.spec_network.specs.Hosts.{HostState, Stamped, World, Does, Expires, Makes, Sends, Gets, Hears, Takes, Drops, Answers, Step, Begin, Finish, Effect}
use Rattle.spec_network.specs.Hosts.{At}
use Rattle.spec_network.specs.Hosts.{Turn, Idle, Called, Answered, turn_of}
use Rattle.spec_network.specs.Tables.{Both, on, other, pick, waiting, with_host}
use Rattle.spec_network.proofs.Entries.{lookup_insert}
use Rattle.spec_tcp.specs.Arrives.{AtEndpoint, AtListener, Nobody, Taker, after_taking, taker}
use Rattle.spec_tcp.specs.Arrives.Listen.{child}
use Rattle.spec_tcp.specs.Endpoints.{new_endpoint}
use Rattle.spec_tcp.specs.HostTcp.{has_ended, place_of, socket_target}
use Rattle.spec_tcp.specs.Machine.{Calls, Expiring, act_after, aim, tcp, tcp_shape}
use Rattle.spec_tcp.specs.Signals.{profile_of}
use Rattle.spec_tcp.specs.declared.endpoint.Emission.{Emission}
use Rattle.spec_tcp.specs.declared.endpoint.Endpoint.{Endpoint}
use Rattle.spec_tcp.specs.declared.endpoint.EndpointId.{EndpointId}
use Rattle.spec_tcp.specs.declared.endpoint.SocketTarget.{SocketTarget}
use Rattle.spec_tcp.specs.declared.endpoint.SocketTarget.TheVariants.{ListenerAt, EndpointAt}
use Rattle.spec_tcp_laws.specs.Consequences.{find}
use Rattle.spec_tcp_laws.proofs.Rules.{on_cases}
use Rattle.spec_tcp_laws.proofs.Runs.{Steady, later_step}
use Rattle.spec_cases.specs.Cases.{Known, untrue_at}
use Rattle.spec_duties.specs.Dropped.{taking_breaks}
use Rattle.spec_duties.specs.Excess.{is_excess}
use Rattle.spec_duties.specs.Owed.{late_rules, lates_of, nothing, owed_after}
use Rattle.spec_duties.specs.Resent.{is_resent, is_resent_beyond}
use Rattle.spec_duties.specs.Observations.{observe_accept, at_drop, at_place, at_ports, at_sender, at_target, observe_call, observe_close, observe_effect}
use Rattle.spec_duties.specs.Observations.{is_done, observe_other, processing_of, sending_of, observe, unseen, view_in}
use Rattle.spec_duties.specs.Views.{unborn, view_of}
use Rattle.spec_duties.specs.Strict.{brought_by}
use Rattle.spec_duties.specs.Watching.{built_by, counts_now, judged_lates}
use Rattle.spec_duties.specs.Watching.{listener_closed, owed_by, owed_table_after, sends_in_excess, sent_by}
use Rattle.spec_duties.specs.Watching.{answer_rules, touched_rules}
use Rattle.spec_duties.specs.declared.events.Event.{Event}
use Rattle.spec_duties.specs.declared.events.Event.TheVariants as events
use Rattle.spec_duties.specs.declared.owed.Lates.{Lates}
use Rattle.spec_duties.specs.declared.owed.Owed.{Owed}
use Rattle.spec_duties.specs.declared.observations.Queueing.TheVariants as queueing
use Rattle.spec_duties.specs.declared.observations.Observation.{Observation}
use Rattle.spec_duties.specs.declared.observations.TouchedEndpoint.{TouchedEndpoint}
use Rattle.spec_duties.specs.declared.views.View.{View}
use Rattle.kept_duties.proofs.Excused.{but_acknowledge, judged_by, owed_seen}
use Rattle.kept_duties.proofs.Judged.{IsSame}
use Rattle.kept_duties.proofs.Runs.{Goes}

-- an endpoint as duties see it
abbrev pub seen : World tcp_shape → EndpointId → View
seen w me = option_map_or view_of (find w.hosts me) unborn

-- ---- what a step shows of an endpoint is how it was before, and the endpoint is there or is new

-- a listener's child, which a step creates
pub record Child (w : World tcp_shape) (step : Step tcp_shape) (t : TouchedEndpoint) : Type 0 where
  pub line : ℕ
  pub how : TakeChoice
  pub segment : Emission
  pub listener : ℕ
  pub is : step ≡ At t.host (Takes line how)
  pub waits : waiting line (pick w.hosts t.host).inbox ≡ Some segment
  pub takes : taker (pick w.hosts t.host).body segment ≡ AtListener listener
  pub next : t.place ≡ length (pick w.hosts t.host).body.endpoints

-- an endpoint that `open` creates
pub record Opened (w : World tcp_shape) (step : Step tcp_shape) (t : TouchedEndpoint) : Type 0 where
  pub thread : ℕ
  pub socket : ℕ
  pub lport : ℕ
  pub rport : ℕ
  pub is : step ≡ Effect thread (answers.Given socket)
  pub turn : turn_of thread w.threads ≡ Called (calls.Connect t.host lport rport)
  pub next : t.place ≡ length (pick w.hosts t.host).body.endpoints

-- the model's step by which something happens at an endpoint of a host
abbrev pub StepDoes : Step tcp_shape → Host → Event → Type 0
StepDoes step host (events.Processes length rst) = (line : ℕ) × (how : TakeChoice) × (step ≡ At host (Takes line how))
StepDoes step host (events.Drops asks unlimited) = (line : ℕ) × (step ≡ At host (Drops line))
StepDoes step host (events.Builds m) = step ≡ At host (Makes m)
StepDoes step host (events.Sends s) = (line : ℕ) × (number : ℕ) × (wire : Wire) × (step ≡ At host (Sends line number wire))
StepDoes step host (events.Expires timer) =
    (line : ℕ) × (x : Expiring) × (step ≡ At host (Expires line x)) × (timer_of x.expired ≡ timer)
StepDoes step host (events.Recovers change) = (x : Recovery) × (step ≡ At host (Does x)) × (x.change ≡ change)
StepDoes step host (events.Calls aborts) = (thread : ℕ) × (answer : Answer) × (step ≡ Effect thread answer)
StepDoes step host events.Opens = (thread : ℕ) × (answer : Answer) × (step ≡ Effect thread answer)

abbrev pub name_of : TouchedEndpoint → EndpointId
name_of t = record { host = t.host; number = t.place }

pub record AsShown (w : World tcp_shape) (step : Step tcp_shape) (t : TouchedEndpoint) : Type 0 where
  pub before : t.before ≡ seen w (name_of t)
  pub there : ((e : Endpoint) × (find w.hosts (name_of t) ≡ Some e)) ⊎ Opened w step t ⊎ Child w step t
  pub does : StepDoes step t.host t.event
  -- a segment is built by the endpoint that its ports name
  pub built : (m : SegmentPlan) → t.event ≡ events.Builds m → place_of (pick w.hosts t.host).body m.lport m.rport ≡ Some t.place

abbrev pub AsBefore : World tcp_shape → Step tcp_shape → Option TouchedEndpoint → Type 0
AsBefore w step None = Unit {0}
AsBefore w step (Some t) = AsShown w step t

place_before : (w : World tcp_shape) (step : Step tcp_shape) (host : Host) (event : Event) (i : ℕ) → StepDoes step host event
    → ((m : SegmentPlan) → event ≡ events.Builds m → place_of (pick w.hosts host).body m.lport m.rport ≡ Some i)
    → AsBefore w step (at_place host (pick w.hosts host).body event i)
place_before w step host event i does built = by (slice_get (pick w.hosts host).body.endpoints i) refl
  where
    by : (o : Option Endpoint) → slice_get (pick w.hosts host).body.endpoints i ≡ o
        → AsBefore w step (option_map (λ e. record { host = host; place = i; event = event; before = view_of e }) o)
    by None is = tt
    by (Some e) is = record { before = sym (ap (λ (o : Option Endpoint). option_map_or view_of o unborn) is); there = inl (e, is); does = does; built = built }

ports_before : (w : World tcp_shape) (step : Step tcp_shape) (host : Host) (event : Event) (lport rport : ℕ) → StepDoes step host event
    → ((i : ℕ) → place_of (pick w.hosts host).body lport rport ≡ Some i → (m : SegmentPlan) → event ≡ events.Builds m
    → place_of (pick w.hosts host).body m.lport m.rport ≡ Some i)
    → AsBefore w step (at_ports host (pick w.hosts host).body event lport rport)
ports_before w step host event lport rport does built = by (place_of (pick w.hosts host).body lport rport) refl
  where
    by : (o : Option ℕ) → place_of (pick w.hosts host).body lport rport ≡ o
        → AsBefore w step (option_map_or (at_place host (pick w.hosts host).body event) o None)
    by None is = tt
    by (Some i) is = place_before w step host event i does (built i is)

pub next_before : (w : World tcp_shape) (host : Host) → unborn ≡ seen w (record { host = host; number = length (pick w.hosts host).body.endpoints })
next_before w host =
    sym (ap (λ (o : Option Endpoint). option_map_or view_of o unborn)
    (slice_get_past (pick w.hosts host).body.endpoints (length (pick w.hosts host).body.endpoints) (omega arith)))

sender_before : (w : World tcp_shape) (step : Step tcp_shape) (host : Host) (wire : Wire) (m : Emission) → StepDoes step host (sending_of wire m)
    → AsBefore w step (at_sender host (pick w.hosts host).body wire m)
sender_before w step host wire m does = by m.is_reset_reply
  where
    by : (b : Bool) → AsBefore w step (if b then None else at_place host (pick w.hosts host).body (sending_of wire m) m.sender.number)
    by true = tt
    by false = place_before w step host (sending_of wire m) m.sender.number does (λ p e. absurd cc)

target_before : (w : World tcp_shape) (host : Host) (line : ℕ) (how : TakeChoice) (m : Emission) → waiting line (pick w.hosts host).inbox ≡ Some m
    → (t : Taker) → taker (pick w.hosts host).body m ≡ t → AsBefore w (At host (Takes line how)) (at_target host (pick w.hosts host).body m t)
target_before w host line how m waits Nobody is = tt
target_before w host line how m waits (AtListener l) is = record {
  before = next_before w host;
  there = inr (inr (record { line = line; how = how; segment = m; listener = l; is = refl; waits = waits; takes = is; next = refl }));
  does = (line, how, refl);
  built = λ p e. absurd cc;
}
target_before w host line how m waits (AtEndpoint i e) is = place_before w (At host (Takes line how)) host (processing_of m) i (line, how, refl)
    (λ p e. absurd cc)

drop_before : (v : Version) (w : World tcp_shape) (step : Step tcp_shape) (host : Host) (m : Emission) (taking : Option Rule)
    → (line : ℕ) × (step ≡ At host (Drops line)) → (t : Taker) → AsBefore w step (at_drop v host (pick w.hosts host).body m taking t)
drop_before v w step host m taking does Nobody = tt
drop_before v w step host m taking does (AtListener l) = tt
drop_before v w step host m taking does (AtEndpoint i e) = place_before w step host _ i does (λ p e. absurd cc)

socket_target_before : (w : World tcp_shape) (step : Step tcp_shape) (o : Option SocketTarget) (f : SocketTarget → Observation)
    → ((target : SocketTarget) → AsBefore w step (f target).touched)
    → AsBefore w step (on o unseen f).touched
socket_target_before w step None f each = tt
socket_target_before w step (Some target) f each = each target

close_before : (w : World tcp_shape) (step : Step tcp_shape) (host : Host) (aborts : Bool) (answer : Answer)
    → (thread : ℕ) × (a : Answer) × (step ≡ Effect thread a) → (target : SocketTarget)
    → AsBefore w step (observe_close host (pick w.hosts host).body aborts answer target).touched
close_before w step host aborts answer did (EndpointAt i) = place_before w step host _ i did (λ p e. absurd cc)
close_before w step host aborts answer did (ListenerAt l) = by (is_done answer && not (has_ended (pick w.hosts host).body l))
  where
    by : (d : Bool) → AsBefore w step (if d then record unseen { queueing = queueing.Closes host l } else unseen).touched
    by true = tt
    by false = tt

other_before : (w : World tcp_shape) (step : Step tcp_shape) (host : Host) → (thread : ℕ) × (a : Answer) × (step ≡ Effect thread a) → (target : SocketTarget)
    → AsBefore w step (observe_other host (pick w.hosts host).body target).touched
other_before w step host did (ListenerAt l) = tt
other_before w step host did (EndpointAt i) = place_before w step host _ i did (λ p e. absurd cc)

accept_before : (w : World tcp_shape) (step : Step tcp_shape) (host : Host) (answer : Answer) (target : SocketTarget)
    → AsBefore w step (observe_accept host (pick w.hosts host).body answer target).touched
accept_before w step host (answers.Given n) (ListenerAt l) = tt
accept_before w step host answer target = tt

call_before : (h : Header) (w : World tcp_shape) (thread : ℕ) (host : Host) (call : Call) (answer : Answer) → turn_of thread w.threads ≡ Called call
    → aim_of (tcp h) w.hosts (aim call) ≡ Some host → AsBefore w (Effect thread answer) (observe_call host (pick w.hosts host).body call answer).touched
call_before h w thread host (calls.Connect x lport rport) (answers.Given n) turn aims =
    let same : x ≡ host = same_Some x host aims in
    record {
      before = next_before w host;
      there =
          inr (inl (record {
            thread = thread;
            socket = n;
            lport = lport;
            rport = rport;
            is = refl;
            turn = turn ∙ ap (λ (x : Host). Called (calls.Connect x lport rport)) same;
            next = refl;
          }));
      does = (thread, answers.Given n, refl);
      built = λ p e. absurd cc;
    }
call_before h w thread host (calls.Connect x lport rport) answer turn aims = tt
call_before h w thread host (calls.Accept n) answer turn aims =
    socket_target_before w (Effect thread answer) (socket_target (pick w.hosts host).body n) (observe_accept host (pick w.hosts host).body answer)
    (accept_before w (Effect thread answer) host answer)
call_before h w thread host (calls.Send n bytes) answer turn aims =
    socket_target_before w (Effect thread answer) (socket_target (pick w.hosts host).body n) (observe_other host (pick w.hosts host).body)
    (other_before w (Effect thread answer) host (thread, answer, refl))
call_before h w thread host (calls.Shut n) answer turn aims =
    socket_target_before w (Effect thread answer) (socket_target (pick w.hosts host).body n) (observe_close host (pick w.hosts host).body false answer)
    (close_before w (Effect thread answer) host false answer (thread, answer, refl))
call_before h w thread host (calls.Close n) answer turn aims =
    socket_target_before w (Effect thread answer) (socket_target (pick w.hosts host).body n) (observe_close host (pick w.hosts host).body false answer)
    (close_before w (Effect thread answer) host false answer (thread, answer, refl))
call_before h w thread host (calls.Abort n) answer turn aims =
    socket_target_before w (Effect thread answer) (socket_target (pick w.hosts host).body n)
    (observe_close host (pick w.hosts host).body (is_done answer) answer)
    (close_before w (Effect thread answer) host (is_done answer) answer (thread, answer, refl))
call_before h w thread host call answer turn aims = tt

effect_before : (h : Header) (w : World tcp_shape) (thread : ℕ) (answer : Answer) (u : Turn tcp_shape) → turn_of thread w.threads ≡ u
    → AsBefore w (Effect thread answer) (observe_effect h w thread answer u).touched
effect_before h w thread answer Idle turn = tt
effect_before h w thread answer (Called call) turn =
    on_cases (λ (s : Observation). AsBefore w (Effect thread answer) s.touched) (aim_of (tcp h) w.hosts (aim call)) unseen
    (λ host. observe_call host (pick w.hosts host).body call answer) tt (λ host aims. call_before h w thread host call answer turn aims)
effect_before h w thread answer (Answered given) turn = tt

pub as_before : (h : Header) (moment : ℕ) (w : World tcp_shape) (step : Step tcp_shape) → AsBefore w step (observe h moment w step).touched
as_before h moment w (Begin line thread call) = tt
as_before h moment w (Finish line thread answer) = tt
as_before h moment w (Effect thread answer) = effect_before h w thread answer (turn_of thread w.threads) refl
as_before h moment w (At host (Does x)) =
    ports_before w (At host (Does x)) host (events.Recovers x.change) x.lport x.rport (x, refl, refl) (λ i is p e. absurd cc)
as_before h moment w (At host (Expires line x)) = ports_before w (At host (Expires line x)) host _ x.lport x.rport (line, x, refl, refl) (λ i is p e. absurd cc)
as_before h moment w (At host (Makes m)) =
    ports_before w (At host (Makes m)) host (events.Builds m) m.lport m.rport refl
    (λ i at p e. let same : m ≡ p = cc in ap (λ (q : SegmentPlan). place_of (pick w.hosts host).body q.lport q.rport) (sym same) ∙ at)
as_before h moment w (At host (Sends line number wire)) =
    on_cases (λ (s : Observation). AsBefore w (At host (Sends line number wire)) s.touched) (lookup (nat_eq number) (pick w.hosts host).made) unseen _ tt
    (λ m is. sender_before w (At host (Sends line number wire)) host wire m.emission (line, number, wire, refl))
as_before h moment w (At host (Gets line copied wire)) = tt
as_before h moment w (At host (Hears line wire)) = tt
as_before h moment w (At host (Takes line how)) =
    on_cases (λ (s : Observation). AsBefore w (At host (Takes line how)) s.touched) (waiting line (pick w.hosts host).inbox) unseen _ tt
    (λ m is. target_before w host line how m is (taker (pick w.hosts host).body m) refl)
as_before h moment w (At host (Drops line)) =
    on_cases (λ (s : Observation). AsBefore w (At host (Drops line)) s.touched) (waiting line (pick w.hosts host).inbox) unseen _ tt
    (λ m is. drop_before h.version w (At host (Drops line)) host m (taking_breaks h moment w host line) (line, refl) (taker (pick w.hosts host).body m))
as_before h moment w (At host (Answers line)) = tt

-- ---- whether a step touches an endpoint

abbrev pub touched : World tcp_shape → EndpointId → Event → TouchedEndpoint
touched w me event = record { host = me.host; place = me.number; event = event; before = seen w me }

-- what an endpoint owes in a table
abbrev owed_in : Both (List (ℕ × Owed)) → EndpointId → Owed
owed_in both me = unwrap_or (lookup (nat_eq me.number) (pick both me.host)) nothing

-- another value for one endpoint
abbrev with_owed : Both (List (ℕ × Owed)) → TouchedEndpoint → Owed → Both (List (ℕ × Owed))
with_owed both t v = with_host both t.host (insert_entry nat_eq (pick both t.host) t.place v)

pick_here : {X : Type 0} (both : Both X) (host : Host) (x : X) → pick (with_host both host x) host ≡ x
pick_here both Zero x = refl
pick_here both One x = refl

owed_here : (both : Both (List (ℕ × Owed))) (w : World tcp_shape) (me : EndpointId) (event : Event) (v : Owed)
    → owed_in (with_owed both (touched w me event) v) me ≡ v
owed_here both w me event v =
    let self : nat_eq me.number me.number ≡ true = grind (arith, nat_tests) in
    ap (λ es. unwrap_or (lookup (nat_eq me.number) es) nothing) (pick_here both me.host (insert_entry nat_eq (pick both me.host) me.number v))
    ∙ ap (λ o. unwrap_or o nothing) (lookup_insert me.number me.number v (pick both me.host)
    ∙ ap (λ b. cond b (Some v) (lookup (nat_eq me.number) (pick both me.host))) self)

-- the endpoint is the one that is touched, or what it owes stays
same_or_not : (t : TouchedEndpoint) (me : EndpointId)
    → ((t.host ≡ me.host) × (t.place ≡ me.number)) ⊎ ((both : Both (List (ℕ × Owed))) (v : Owed) → owed_in (with_owed both t v) me ≡ owed_in both me)
same_or_not t me = by t.host me.host refl refl
  where
    entry : (es : List (ℕ × Owed)) (v : Owed) → nat_eq me.number t.place ≡ false
        → unwrap_or (lookup (nat_eq me.number) (insert_entry nat_eq es t.place v)) nothing ≡ unwrap_or (lookup (nat_eq me.number) es) nothing
    entry es v differs =
        ap (λ o. unwrap_or o nothing) (lookup_insert me.number t.place v es ∙ ap (λ b. cond b (Some v) (lookup (nat_eq me.number) es)) differs)

    by : (g host : Host) → t.host ≡ g → me.host ≡ host
        → ((g ≡ host) × (t.place ≡ me.number))
        ⊎ ((both : Both (List (ℕ × Owed))) (v : Owed)
        → unwrap_or (lookup (nat_eq me.number) (pick (with_host both g (insert_entry nat_eq (pick both g) t.place v)) host)) nothing
        ≡ unwrap_or (lookup (nat_eq me.number) (pick both host)) nothing)
    by Zero Zero a b = test (nat_eq me.number t.place) refl
      where
        test : (c : Bool) → nat_eq me.number t.place ≡ c
            → ((Zero ≡ Zero) × (t.place ≡ me.number))
            ⊎ ((both : Both (List (ℕ × Owed))) (v : Owed)
            → unwrap_or (lookup (nat_eq me.number) (insert_entry nat_eq both.zero t.place v)) nothing ≡ unwrap_or (lookup (nat_eq me.number) both.zero) nothing)
        test true same = inl (refl, grind (arith, nat_tests, same))
        test false differs = inr (λ both v. entry both.zero v differs)
    by One One a b = test (nat_eq me.number t.place) refl
      where
        test : (c : Bool) → nat_eq me.number t.place ≡ c
            → ((One ≡ One) × (t.place ≡ me.number))
            ⊎ ((both : Both (List (ℕ × Owed))) (v : Owed)
            → unwrap_or (lookup (nat_eq me.number) (insert_entry nat_eq both.one t.place v)) nothing ≡ unwrap_or (lookup (nat_eq me.number) both.one) nothing)
        test true same = inl (refl, grind (arith, nat_tests, same))
        test false differs = inr (λ both v. entry both.one v differs)
    by Zero One a b = inr (λ both v. refl)
    by One Zero a b = inr (λ both v. refl)

-- ---- what an endpoint owes after a step

-- a step touches the endpoint
pub record Touches (h : Header) (k : Known) (x : Stamped tcp_shape) (me : EndpointId) : Type 0 where
  pub event : Event
  pub shows : (observe h x.moment k.model x.step).touched ≡ Some (touched k.model me event)

-- so its duties were compared, and are changed
pub record Owes (h : Header) (slack : ℕ) (k next : Known) (x : Stamped tcp_shape) (me : EndpointId) (event : Event) : Type 0 where
  pub counts : Bool
  pub listener : Option ℕ
  pub counted : counts ≡ counts_now (built_by k.duties (observe h x.moment k.model x.step).built_change)
  pub listens : listener ≡ listener_closed k.duties me.host (seen k.model me)
  pub brought : Option ℕ
  pub lates : AllByRecursion (λ r. r.1 ≡ false) (late_rules (judged_lates h slack x.moment k.duties brought me.host me.number (seen k.model me)))
  pub resent : says_sender h.version ≡ false → is_resent h.congestion event (seen k.model me) (owed_by k.duties me.host me.number).again ≡ false
  pub beyond : says_sender h.version ≡ false → is_resent_beyond h.congestion event (seen k.model me) ≡ false
  pub excess : is_excess counts (owed_by k.duties me.host me.number).answers ≡ false
  -- the acknowledgment is as this event says in versions 1 to 5, all else in each version
  pub after : says_sender h.version ≡ false → owed_by next.duties me.host me.number
      ≡ owed_after event (seen k.model me) (seen next.model me) x.moment listener counts (owed_by k.duties me.host me.number)
  pub rest : but_acknowledge (owed_by next.duties me.host me.number)
      ≡ but_acknowledge (owed_after event (seen k.model me) (seen next.model me) x.moment listener counts (owed_by k.duties me.host me.number))

-- what is judged alike by the plain and the stricter duties isn't late by the plain ones
pub lates_plain : (sel : Lates → Bool) (h : Header) (slack : ℕ) (k next : Known) (x : Stamped tcp_shape) (me : EndpointId) (event : Event)
    (owes : Owes h slack k next x me event)
    → IsSame sel h slack → sel (judged_lates h slack x.moment k.duties owes.brought me.host me.number (seen k.model me)) ≡ false
    → sel (lates_of slack x.moment (seen k.model me) owes.listener (owed_by k.duties me.host me.number)) ≡ false
lates_plain sel h slack k next x me event owes same none =
    ap (λ (n : Option ℕ). sel (lates_of slack x.moment (seen k.model me) n (owed_by k.duties me.host me.number))) owes.listens
    ∙ sym (same x.moment k.duties owes.brought me.host me.number (seen k.model me)) ∙ none

module _ (h : Header) (slack : ℕ) (k next : Known) (x : Stamped tcp_shape) (me : EndpointId) (goes : Goes h slack k next x) where
  abbrev shown : Observation
  shown = observe h x.moment k.model x.step

  -- by the step's event at it
  pub owes_after : (event : Event) → shown.touched ≡ Some (touched k.model me event) → Owes h slack k next x me event
  owes_after event shows =
      let rules = goes.dutiful.1.1.1.1 in
      let here =
      subst (λ (o : Option TouchedEndpoint). AllByRecursion (λ r. r.1 ≡ false)
      (on o (answer_rules slack x.moment k.duties (untrue_at h x.moment k x.step) shown.call_change)
      (touched_rules h slack x.moment k.duties counts (untrue_at h x.moment k x.step)
      (sent_by k.duties shown.built_change) shown.sampling))) shows rules in
      record {
        counts = counts;
        listener = listener_closed k.duties me.host (seen k.model me);
        counted = refl;
        listens = refl;
        brought = brought_by (sent_by k.duties shown.built_change);
        lates = (here.0, (here.1.0, (here.1.1.0, (here.1.1.1.0, (here.1.1.1.1.0, (here.1.1.1.1.1.0, tt))))));
        resent = λ old.
            sym (ap (λ (b : Bool). not b && is_resent h.congestion event (seen k.model me) (owed_by k.duties me.host me.number).again) old)
            ∙ here.1.1.1.1.1.1.0;
        beyond = λ old.
            sym (ap (λ (b : Bool). not b && is_resent_beyond h.congestion event (seen k.model me)) old) ∙ here.1.1.1.1.1.1.1.0;
        excess =
            first (is_excess counts (owed_by k.duties me.host me.number).answers)
            (sends_in_excess h slack k.duties (sent_by k.duties shown.built_change) (touched k.model me event)) here.1.1.1.1.1.1.1.1.0;
        after = λ old. now ∙ ap (λ (e : Event). owed_after e before next_view x.moment listener counts o) (goes.sees.plain old event);
        rest =
            ap but_acknowledge now
            ∙ owed_seen event (goes.sees.judge event) (goes.sees.alike event) before next_view x.moment listener counts o;
      }
    where
      counts : Bool
      counts = counts_now (built_by k.duties shown.built_change)

      before : View
      before = seen k.model me

      next_view : View
      next_view = seen next.model me

      listener : Option ℕ
      listener = listener_closed k.duties me.host before

      o : Owed
      o = owed_by k.duties me.host me.number

      -- by what duties see
      now : owed_by next.duties me.host me.number ≡ owed_after (goes.sees.judge event) before next_view x.moment listener counts o
      now =
          ap (λ (x : Both (List (ℕ × Owed))). owed_in x me) goes.owed
          ∙ ap (λ (o : Option TouchedEndpoint). owed_in (on (judged_by goes.sees.judge o) k.duties.owed (owed_table_after
          (view_in (after (tcp h) x.moment k.model x.step) (judged_by goes.sees.judge o)) x.moment counts k.duties)) me) shows
          ∙ owed_here k.duties.owed k.model me (goes.sees.judge event) _
          ∙ ap (λ (w : World tcp_shape). owed_after (goes.sees.judge event) before (seen w me) x.moment listener counts o) (sym goes.model)

      first : (a b : Bool) → (a || b) ≡ false → a ≡ false
      first true b none = none
      first false b none = refl

  -- another step leaves what it owes
  pub touches_or_not : Touches h k x me
      ⊎ ((owed_by next.duties me.host me.number ≡ owed_by k.duties me.host me.number)
      × ((event : Event) → shown.touched ≡ Some (touched k.model me event) → ⊥))
  touches_or_not = by shown.touched refl (as_before h x.moment k.model x.step)
    where
      keeps : (o : Option TouchedEndpoint) → shown.touched ≡ o → owed_in (on (judged_by goes.sees.judge o) k.duties.owed
          (owed_table_after (view_in (after (tcp h) x.moment k.model x.step) (judged_by goes.sees.judge o)) x.moment
          (counts_now (built_by k.duties shown.built_change)) k.duties)) me ≡ owed_in k.duties.owed me → owed_by next.duties me.host me.number
          ≡ owed_by k.duties me.host me.number
      keeps o shows same =
          ap (λ (x : Both (List (ℕ × Owed))). owed_in x me) goes.owed
          ∙ ap (λ (o : Option TouchedEndpoint). owed_in (on (judged_by goes.sees.judge o) k.duties.owed
          (owed_table_after (view_in (after (tcp h) x.moment k.model x.step) (judged_by goes.sees.judge o)) x.moment
          (counts_now (built_by k.duties shown.built_change)) k.duties)) me) shows
          ∙ same

      -- two values tell that what is written is found
      apart : (t : TouchedEndpoint) (event : Event) → t ≡ touched k.model me event
          → ((both : Both (List (ℕ × Owed))) (v : Owed) → owed_in (with_owed both t v) me ≡ owed_in both me) → ⊥
      apart t event one stays =
          let changed : owed_in (with_owed k.duties.owed t (record nothing { opened = suc (owed_in k.duties.owed me).opened })) me
          ≡ record nothing { opened = suc (owed_in k.duties.owed me).opened } =
          ap (λ (t : TouchedEndpoint). owed_in (with_owed k.duties.owed t (record nothing { opened = suc (owed_in k.duties.owed me).opened })) me) one
          ∙ owed_here k.duties.owed k.model me event (record nothing { opened = suc (owed_in k.duties.owed me).opened }) in
          let more : suc (owed_in k.duties.owed me).opened ≡ (owed_in k.duties.owed me).opened =
          ap (λ (o : Owed). o.opened) (sym changed ∙ stays k.duties.owed (record nothing { opened = suc (owed_in k.duties.owed me).opened })) in
          omega (arith, more)

      by : (o : Option TouchedEndpoint) → shown.touched ≡ o → AsBefore k.model x.step o
          → Touches h k x me
          ⊎ ((owed_by next.duties me.host me.number ≡ owed_by k.duties me.host me.number)
          × ((event : Event) → shown.touched ≡ Some (touched k.model me event) → ⊥))
      by None shows before = inr (keeps None shows refl, λ event is. none-some (touched k.model me event) (sym shows ∙ is))
      by (Some t) shows before = which (same_or_not t me)
        where
          which : ((t.host ≡ me.host) × (t.place ≡ me.number))
              ⊎ ((both : Both (List (ℕ × Owed))) (v : Owed) → owed_in (with_owed both t v) me ≡ owed_in both me)
              → Touches h k x me
              ⊎ ((owed_by next.duties me.host me.number ≡ owed_by k.duties me.host me.number)
              × ((event : Event) → shown.touched ≡ Some (touched k.model me event) → ⊥))
          which (inl same) = inl (record {
            event = t.event;
            shows =
                shows ∙ (λ i. Some (record {
                  host = same.0 i;
                  place = same.1 i;
                  event = t.event;
                  before = (before.before ∙ (λ i. seen k.model (record { host = same.0 i; number = same.1 i }))) i;
                }));
          })
          which (inr stays) = inr (
            keeps (Some t) shows (stays k.duties.owed _),
            λ event is.
                let one : t ≡ touched k.model me event = same_Some t (touched k.model me event) (sym shows ∙ is) in
                apart t event one stays,
          )

-- ---- an endpoint that a step touches is there after it

last_there : (es : List Endpoint) (e : Endpoint) → slice_get (es ++ e ∷ []) (length es) ≡ Some e
last_there [] e = refl
last_there (x ∷ es) e = last_there es e

child_there : (h : Header) (moment : ℕ) (w : World tcp_shape) (g : Host) (line : ℕ) (how : TakeChoice) (m : Emission) (l : ℕ)
    → waiting line (pick w.hosts g).inbox ≡ Some m → taker (pick w.hosts g).body m ≡ AtListener l
    → (e : Endpoint) × (slice_get (pick (after (tcp h) moment w (At g (Takes line how))).hosts g).body.endpoints (length (pick w.hosts g).body.endpoints)
    ≡ Some e)
child_there h moment w g line how m l waits is =
    let b = (pick w.hosts g).body in (
      child (profile_of h) l how m moment,
      ap (λ (k : HostState tcp_shape). slice_get k.body.endpoints (length b.endpoints))
          (pick_here w.hosts g (host_step_after (tcp h) g moment (suc w.count) (pick w.hosts (other g)).wire (pick w.hosts g) (Takes line how)))
          ∙ ap (λ (o : Option Emission). slice_get (on o b (λ e. act_after h g moment b ((tcp h).takes how e))).endpoints (length b.endpoints)) waits
          ∙ ap (λ (t : Taker). slice_get (after_taking h b how m moment t).endpoints (length b.endpoints)) is
          ∙ last_there b.endpoints (child (profile_of h) l how m moment),
    )

open_there : (h : Header) (moment : ℕ) (w : World tcp_shape) (thread socket : ℕ) (host : Host) (lport rport : ℕ)
    → turn_of thread w.threads ≡ Called (calls.Connect host lport rport)
    → (e : Endpoint) × (slice_get (pick (after (tcp h) moment w (Effect thread (answers.Given socket))).hosts host).body.endpoints
    (length (pick w.hosts host).body.endpoints) ≡ Some e)
open_there h moment w thread socket host lport rport turn =
    let b = (pick w.hosts host).body in
    let call = calls.Connect host lport rport in (
      new_endpoint lport rport None states.SynSent (profile_of h),
      ap (λ (u : Turn tcp_shape). slice_get (pick (effect_after (tcp h) moment w thread (answers.Given socket) u).hosts host).body.endpoints
          (length b.endpoints)) turn
          ∙ ap (λ (k : HostState tcp_shape). slice_get k.body.endpoints (length b.endpoints))
          (pick_here w.hosts host (record (pick w.hosts host) { body = act_after h host moment b (Calls call (answers.Given socket)) }))
          ∙ last_there b.endpoints (new_endpoint lport rport None states.SynSent (profile_of h)),
    )

pub there_after : (h : Header) (moment : ℕ) (w : World tcp_shape) (step : Step tcp_shape) (me : EndpointId) (event : Event) → Steady w.hosts
    → Permitted (tcp h) moment w step → (observe h moment w step).touched ≡ Some (touched w me event)
    → (e : Endpoint) × (find (after (tcp h) moment w step).hosts me ≡ Some e)
there_after h moment w step me event steady may shows =
    by (subst (AsBefore w step) shows (as_before h moment w step)).there
  where
    by : ((e : Endpoint) × (find w.hosts me ≡ Some e)) ⊎ Opened w step (touched w me event) ⊎ Child w step (touched w me event)
        → (e : Endpoint) × (find (after (tcp h) moment w step).hosts me ≡ Some e)
    by (inl old) = let f = later_step h moment w step steady may me old.0 old.1 in (f.0, f.1)
    by (inr (inl o)) =
        let e = open_there h moment w o.thread o.socket me.host o.lport o.rport o.turn in (
          e.0,
          ap (λ (s : Step tcp_shape). find (after (tcp h) moment w s).hosts me) o.is
              ∙ ap (λ (n : ℕ). slice_get (pick (after (tcp h) moment w (Effect o.thread (answers.Given o.socket))).hosts me.host).body.endpoints n) o.next
              ∙ e.1,
        )
    by (inr (inr c)) =
        let e = child_there h moment w me.host c.line c.how c.segment c.listener c.waits c.takes in (
          e.0,
          ap (λ (s : Step tcp_shape). find (after (tcp h) moment w s).hosts me) c.is
              ∙ ap (λ (n : ℕ). slice_get (pick (after (tcp h) moment w (At me.host (Takes c.line c.how))).hosts me.host).body.endpoints n) c.next
              ∙ e.1,
        )
