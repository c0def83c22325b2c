-- A segment is built by an `M` step alone, a probe's timer expires with its line alone, and the numbers of built segments rise.
use Rattle.std.proofs.Common.{◌≡◌, ℕ, suc, ◌≤◌, Bool, true, false, List, Option, Some, None, refl, ap, sym, subst, ◌∙◌, le_refl, nat_eq, arith}
use Rattle.std.specs.Prelude.{◌&&◌, if◌then◌else◌, not, slice_get}
use Rattle.std.specs.Map.{lookup}
use Rattle.std.specs.Option.{option_map, option_map_or}
use Rattle.std.proofs.lemmas.Option.{none-some, same_Some}
use Rattle.case_forms.specs.TakenLines.{timer_of}
use Rattle.case_forms.specs.declared.calls.Answer.{Answer}
use Rattle.case_forms.specs.declared.calls.Answer.TheVariants as answers
use Rattle.case_forms.specs.declared.calls.Call.{Call}
use Rattle.case_forms.specs.declared.calls.Call.TheVariants as calls
use Rattle.case_forms.specs.declared.calls.Host.{Host}
use Rattle.case_forms.specs.declared.steps.SegmentPlan.{SegmentPlan}
use Rattle.case_forms.specs.declared.timer.RecoveryChange.{RecoveryChange}
use Rattle.case_forms.specs.declared.timer.Timer.TheVariants.{Pto}
use Rattle.case_forms.specs.declared.trace.Header.{Header}
use Rattle.case_forms.specs.declared.trace.Wire.{Wire}
use Rattle.case_forms.specs.declared.version.Version.{Version}
use Rattle.verdict.specs.declared.rule.Rule.{Rule}
use Rattle.spec_network.specs.HostRules.{aim_of}
use Rattle.spec_network.specs.Hosts as network
use Rattle.spec_network.specs.Hosts.{Answered, At, Begin, Called, Effect, Finish, Idle, Stamped, Step, Turn, World, turn_of}
use Rattle.spec_network.specs.HostSteps.{after, effect_after, makes, start}
use Rattle.spec_network.specs.Tables.{on, pick, waiting}
use Rattle.spec_tcp.specs.Arrives.{AtEndpoint, AtListener, Nobody, Taker, taker}
use Rattle.spec_tcp.specs.HostTcp.{HostTcp, has_ended, place_of, socket_target}
use Rattle.spec_tcp.specs.Machine.{Expiring, aim, tcp, tcp_shape}
use Rattle.spec_tcp.specs.declared.endpoint.Emission.{Emission}
use Rattle.spec_tcp.specs.declared.endpoint.Endpoint.{Endpoint}
use Rattle.spec_tcp.specs.declared.endpoint.EndpointId.{EndpointId}
use Rattle.spec_tcp.specs.declared.endpoint.SocketTarget.{SocketTarget}
use Rattle.spec_tcp.specs.declared.endpoint.SocketTarget.TheVariants.{EndpointAt, ListenerAt}
use Rattle.spec_tcp_laws.specs.Consequences.{find}
use Rattle.spec_tcp_laws.proofs.Rules.{on_cases}
use Rattle.spec_duties.specs.Dropped.{asks, has_content, reads_old_numbers}
use Rattle.spec_duties.specs.Observations.{at_drop, at_place, at_ports, at_sender, at_target, is_done, observe, observe_accept, observe_call, observe_close}
use Rattle.spec_duties.specs.Observations.{observe_effect, observe_opened, observe_other, processing_of, sending_of, unseen}
use Rattle.spec_duties.specs.Views.{unborn, view_of}
use Rattle.spec_duties.specs.declared.events.Event.{Event}
use Rattle.spec_duties.specs.declared.events.Event.TheVariants.{Builds, Calls, Drops, Expires, Recovers}
use Rattle.spec_duties.specs.declared.observations.Observation.{Observation}
use Rattle.spec_duties.specs.declared.observations.Queueing.TheVariants as queueing
use Rattle.spec_duties.specs.declared.observations.SynChange.TheVariants as syn_change
use Rattle.spec_duties.specs.declared.observations.TouchedEndpoint.{TouchedEndpoint}
use Rattle.spec_duties.specs.declared.views.View.{View}
use Rattle.spec_flights.specs.Scoreboard.{number_built}
use Rattle.kept_flights.specs.Places.{Happens, observed, seen_before, world_before}
use Rattle.kept_flights.proofs.Positions.{world_next}
use Rattle.kept_flights.proofs.Runs.{seen, touched}

-- ---- what other steps show

-- building a segment, a timer that expires, and what a recovery does
abbrev acts : Event → Bool
acts (Builds m) = true
acts (Expires timer) = true
acts (Recovers change) = true
acts event = false

-- nothing of that is shown
abbrev Quiet : Option TouchedEndpoint → Type 0
Quiet o = (t : TouchedEndpoint) → o ≡ Some t → acts t.event ≡ false

none_quiet : Quiet None
none_quiet t is = absurd (none-some t is)

some_quiet : (s : TouchedEndpoint) → acts s.event ≡ false → Quiet (Some s)
some_quiet s none t is = ap (λ (u : TouchedEndpoint). acts u.event) (sym (same_Some s t is)) ∙ none

place_quiet : (host : Host) (b : HostTcp) (event : Event) (i : ℕ) → acts event ≡ false → Quiet (at_place host b event i)
place_quiet host b event i none = by (slice_get b.endpoints i)
  where
    by : (o : Option Endpoint) → Quiet (option_map (λ e. record { host = host; place = i; event = event; before = view_of e }) o)
    by None = none_quiet
    by (Some e) = some_quiet (record { host = host; place = i; event = event; before = view_of e }) none

ports_quiet : (host : Host) (b : HostTcp) (event : Event) (lport rport : ℕ) → acts event ≡ false → Quiet (at_ports host b event lport rport)
ports_quiet host b event lport rport none = by (place_of b lport rport)
  where
    by : (o : Option ℕ) → Quiet (option_map_or (at_place host b event) o None)
    by None = none_quiet
    by (Some i) = place_quiet host b event i none

sender_quiet : (host : Host) (b : HostTcp) (wire : Wire) (m : Emission) → Quiet (at_sender host b wire m)
sender_quiet host b wire m = by m.is_reset_reply
  where
    by : (c : Bool) → Quiet (if c then None else at_place host b (sending_of wire m) m.sender.number)
    by true = none_quiet
    by false = place_quiet host b (sending_of wire m) m.sender.number refl

target_quiet : (host : Host) (b : HostTcp) (m : Emission) (t : Taker) → Quiet (at_target host b m t)
target_quiet host b m Nobody = none_quiet
target_quiet host b m (AtListener l) = some_quiet _ refl
target_quiet host b m (AtEndpoint i e) = place_quiet host b (processing_of m) i refl

drop_quiet : (v : Version) (host : Host) (b : HostTcp) (m : Emission) (taking : Option Rule) (t : Taker) → Quiet (at_drop v host b m taking t)
drop_quiet v host b m taking Nobody = none_quiet
drop_quiet v host b m taking (AtListener l) = none_quiet
drop_quiet v host b m taking (AtEndpoint i e) = place_quiet host b (Drops (asks (reads_old_numbers v) m taking e) (has_content m)) i refl

-- ---- calls

named_quiet : (o : Option SocketTarget) (f : SocketTarget → Observation) → ((target : SocketTarget) → Quiet (f target).touched)
    → Quiet (on o unseen f).touched
named_quiet None f each = none_quiet
named_quiet (Some target) f each = each target

opened_quiet : (host : Host) (b : HostTcp) (answer : Answer) → Quiet (observe_opened host b answer).touched
opened_quiet host b (answers.Given n) = some_quiet _ refl
opened_quiet host b answer = none_quiet

accept_quiet : (host : Host) (b : HostTcp) (answer : Answer) (target : SocketTarget) → Quiet (observe_accept host b answer target).touched
accept_quiet host b (answers.Given n) (ListenerAt l) = none_quiet
accept_quiet host b answer target = none_quiet

close_quiet : (host : Host) (b : HostTcp) (aborts : Bool) (answer : Answer) (target : SocketTarget)
    → Quiet (observe_close host b aborts answer target).touched
close_quiet host b aborts answer (EndpointAt i) = place_quiet host b (Calls aborts) i refl
close_quiet host b aborts answer (ListenerAt l) = by (is_done answer && not (has_ended b l))
  where
    by : (c : Bool) → Quiet (if c then record unseen { queueing = queueing.Closes host l } else unseen).touched
    by true = none_quiet
    by false = none_quiet

other_quiet : (host : Host) (b : HostTcp) (target : SocketTarget) → Quiet (observe_other host b target).touched
other_quiet host b (ListenerAt l) = none_quiet
other_quiet host b (EndpointAt i) = place_quiet host b (Calls false) i refl

call_quiet : (host : Host) (b : HostTcp) (call : Call) (answer : Answer) → Quiet (observe_call host b call answer).touched
call_quiet host b (calls.Connect x lport rport) answer = opened_quiet host b answer
call_quiet host b (calls.Accept n) answer = named_quiet (socket_target b n) (observe_accept host b answer) (accept_quiet host b answer)
call_quiet host b (calls.Send n bytes) answer = named_quiet (socket_target b n) (observe_other host b) (other_quiet host b)
call_quiet host b (calls.Shut n) answer = named_quiet (socket_target b n) (observe_close host b false answer) (close_quiet host b false answer)
call_quiet host b (calls.Close n) answer = named_quiet (socket_target b n) (observe_close host b false answer) (close_quiet host b false answer)
call_quiet host b (calls.Abort n) answer =
    named_quiet (socket_target b n) (observe_close host b (is_done answer) answer) (close_quiet host b (is_done answer) answer)
call_quiet host b call answer = none_quiet

effect_quiet : (h : Header) (w : World tcp_shape) (thread : ℕ) (answer : Answer) (u : Turn tcp_shape) → Quiet (observe_effect h w thread answer u).touched
effect_quiet h w thread answer Idle = none_quiet
effect_quiet h w thread answer (Called call) =
    on_cases (λ (s : Observation). Quiet s.touched) (aim_of (tcp h) w.hosts (aim call)) unseen
    (λ host. observe_call host (pick w.hosts host).body call answer) none_quiet (λ host aims. call_quiet host (pick w.hosts host).body call answer)
effect_quiet h w thread answer (Answered given) = none_quiet

-- ---- the endpoint at some ports

pub record AtPorts (host : Host) (b : HostTcp) (event : Event) (lport rport : ℕ) (me : EndpointId) (shown : Event) (before : View) : Type 0 where
  pub host_is : host ≡ me.host
  pub event_is : event ≡ shown
  pub place : place_of b lport rport ≡ Some me.number
  pub endpoint : Endpoint
  pub there : slice_get b.endpoints me.number ≡ Some endpoint
  pub seen : before ≡ view_of endpoint

pub ports_are : (host : Host) (b : HostTcp) (event : Event) (lport rport : ℕ) (me : EndpointId) (shown : Event) (before : View)
    → at_ports host b event lport rport ≡ Some (touched me shown before) → AtPorts host b event lport rport me shown before
ports_are host b event lport rport me shown before = by (place_of b lport rport) refl
  where
    at : (i : ℕ) → place_of b lport rport ≡ Some i → (o : Option Endpoint) → slice_get b.endpoints i ≡ o
        → option_map (λ e. record { host = host; place = i; event = event; before = view_of e }) o ≡ Some (touched me shown before)
        → AtPorts host b event lport rport me shown before
    at i place None there is = absurd (none-some (touched me shown before) is)
    at i place (Some e) there is =
        let one = same_Some (record { host = host; place = i; event = event; before = view_of e }) (touched me shown before) is in
        let number : i ≡ me.number = ap (λ (t : TouchedEndpoint). t.place) one in
        record {
          host_is = ap (λ (t : TouchedEndpoint). t.host) one;
          event_is = ap (λ (t : TouchedEndpoint). t.event) one;
          place = place ∙ ap (λ n. Some n) number;
          endpoint = e;
          there = ap (slice_get b.endpoints) (sym number) ∙ there;
          seen = sym (ap (λ (t : TouchedEndpoint). t.before) one);
        }

    by : (o : Option ℕ) → place_of b lport rport ≡ o → option_map_or (at_place host b event) o None ≡ Some (touched me shown before)
        → AtPorts host b event lport rport me shown before
    by None place is = absurd (none-some (touched me shown before) is)
    by (Some i) place is = at i place (slice_get b.endpoints i) refl is

-- ---- building a segment, and a timer that expires

refuted : (o : Option TouchedEndpoint) (me : EndpointId) (event : Event) (before : View) → Quiet o → acts event ≡ true → o ≡ Some (touched me event before)
    → ⊥
refuted o me event before quiet does is = let bad : true ≡ false = sym does ∙ quiet (touched me event before) is in cc

-- steps of other kinds show none of them
abbrev is_other : Step tcp_shape → Bool
is_other (At host (network.Expires line x)) = false
is_other (At host (network.Makes m)) = false
is_other (At host (network.Does x)) = false
is_other step = true

quiet_step : (h : Header) (moment : ℕ) (w : World tcp_shape) (step : Step tcp_shape) → is_other step ≡ true → Quiet (observe h moment w step).touched
quiet_step h moment w (Begin line thread call) other = none_quiet
quiet_step h moment w (Finish line thread answer) other = none_quiet
quiet_step h moment w (Effect thread answer) other = effect_quiet h w thread answer (turn_of thread w.threads)
quiet_step h moment w (At host (network.Does x)) other = absurd cc
quiet_step h moment w (At host (network.Expires line x)) other = absurd cc
quiet_step h moment w (At host (network.Makes m)) other = absurd cc
quiet_step h moment w (At host (network.Sends line number wire)) other =
    on_cases (λ (s : Observation). Quiet s.touched) (lookup (nat_eq number) (pick w.hosts host).made) unseen _ none_quiet
    (λ m is. sender_quiet host (pick w.hosts host).body wire m.emission)
quiet_step h moment w (At host (network.Gets line copied wire)) other = none_quiet
quiet_step h moment w (At host (network.Hears line wire)) other = none_quiet
quiet_step h moment w (At host (network.Takes line how)) other =
    on_cases (λ (s : Observation). Quiet s.touched) (waiting line (pick w.hosts host).inbox) unseen _ none_quiet
    (λ m is. target_quiet host (pick w.hosts host).body m (taker (pick w.hosts host).body m))
quiet_step h moment w (At host (network.Drops line)) other =
    on_cases (λ (s : Observation). Quiet s.touched) (waiting line (pick w.hosts host).inbox) unseen _ none_quiet
    (λ m is. drop_quiet h.version host (pick w.hosts host).body m _ (taker (pick w.hosts host).body m))
quiet_step h moment w (At host (network.Answers line)) other = none_quiet

abbrev plan_of : Event → SegmentPlan → SegmentPlan
plan_of (Builds m) none = m
plan_of event none = none

pub builds_by : (h : Header) (moment : ℕ) (w : World tcp_shape) (step : Step tcp_shape) (me : EndpointId) (m : SegmentPlan) (before : View)
    → Happens (observe h moment w step) me (Builds m) before → step ≡ At me.host (network.Makes m)
builds_by h moment w (At host (network.Makes n)) me m before here =
    let p = ports_are host (pick w.hosts host).body (Builds n) n.lport n.rport me (Builds m) before here in
    λ i. At (p.host_is i) (network.Makes (plan_of (p.event_is i) m))
builds_by h moment w (At host (network.Expires line x)) me m before here =
    let p = ports_are host (pick w.hosts host).body (Expires (timer_of x.expired)) x.lport x.rport me (Builds m) before here in
    let bad = p.event_is in
    absurd cc
builds_by h moment w (At host (network.Does x)) me m before here =
    let p = ports_are host (pick w.hosts host).body (Recovers x.change) x.lport x.rport me (Builds m) before here in
    let bad = p.event_is in
    absurd cc
builds_by h moment w step me m before here =
    absurd (refuted (observe h moment w step).touched me (Builds m) before (quiet_step h moment w step refl) refl here)

pub expires_by : (h : Header) (moment : ℕ) (w : World tcp_shape) (step : Step tcp_shape) (me : EndpointId) (before : View)
    → Happens (observe h moment w step) me (Expires Pto) before → (line : ℕ) × (x : Expiring) × (step ≡ At me.host (network.Expires line x))
expires_by h moment w (At host (network.Expires line x)) me before here =
    let p = ports_are host (pick w.hosts host).body (Expires (timer_of x.expired)) x.lport x.rport me (Expires Pto) before here in
    (line, x, λ i. At (p.host_is i) (network.Expires line x))
expires_by h moment w (At host (network.Makes n)) me before here =
    let p = ports_are host (pick w.hosts host).body (Builds n) n.lport n.rport me (Expires Pto) before here in
    let bad = p.event_is in
    absurd cc
expires_by h moment w (At host (network.Does x)) me before here =
    let p = ports_are host (pick w.hosts host).body (Recovers x.change) x.lport x.rport me (Expires Pto) before here in
    let bad = p.event_is in
    absurd cc
expires_by h moment w step me before here =
    absurd (refuted (observe h moment w step).touched me (Expires Pto) before (quiet_step h moment w step refl) refl here)

-- what a recovery does, it does at the endpoint as it is
pub recovers_there : (h : Header) (moment : ℕ) (w : World tcp_shape) (step : Step tcp_shape) (me : EndpointId) (change : RecoveryChange) (before : View)
    → Happens (observe h moment w step) me (Recovers change) before → before ≡ seen w me
recovers_there h moment w (At host (network.Does x)) me change before here =
    let p = ports_are host (pick w.hosts host).body (Recovers x.change) x.lport x.rport me (Recovers change) before here in
    let there : find w.hosts me ≡ Some p.endpoint =
    subst (λ (g : Host). slice_get (pick w.hosts g).body.endpoints me.number ≡ Some p.endpoint) p.host_is p.there in
    p.seen ∙ sym (ap (λ (o : Option Endpoint). option_map_or view_of o unborn) there)
recovers_there h moment w (At host (network.Expires line x)) me change before here =
    let p = ports_are host (pick w.hosts host).body (Expires (timer_of x.expired)) x.lport x.rport me (Recovers change) before here in
    let bad = p.event_is in
    absurd cc
recovers_there h moment w (At host (network.Makes n)) me change before here =
    let p = ports_are host (pick w.hosts host).body (Builds n) n.lport n.rport me (Recovers change) before here in
    let bad = p.event_is in
    absurd cc
recovers_there h moment w step me change before here =
    absurd (refuted (observe h moment w step).touched me (Recovers change) before (quiet_step h moment w step refl) refl here)

-- ---- the numbers of segments

turn_rises : (h : Header) (moment : ℕ) (w : World tcp_shape) (thread : ℕ) (answer : Answer) (u : Turn tcp_shape)
    → w.count ≤ (effect_after (tcp h) moment w thread answer u).count
turn_rises h moment w thread answer Idle = le_refl w.count
turn_rises h moment w thread answer (Called call) = le_refl w.count
turn_rises h moment w thread answer (Answered given) = le_refl w.count

pub count_rises : (h : Header) (moment : ℕ) (w : World tcp_shape) (step : Step tcp_shape) → w.count ≤ (after (tcp h) moment w step).count
count_rises h moment w (Begin line thread call) = le_refl w.count
count_rises h moment w (Finish line thread answer) = le_refl w.count
count_rises h moment w (Effect thread answer) = turn_rises h moment w thread answer (turn_of thread w.threads)
count_rises h moment w (At host d) = by (makes (tcp h) d)
  where
    by : (b : Bool) → w.count ≤ (if b then suc w.count else w.count)
    by true = omega arith
    by false = le_refl w.count

-- ---- in a run

module _ (h : Header) (xs : List (Stamped tcp_shape)) where
  -- the step that is at a place
  pub record StepAt (place : ℕ) : Type 0 where
    pub x : Stamped tcp_shape
    pub is : slice_get xs place ≡ Some x
    pub shows : observed h xs place ≡ observe h x.moment (world_before h xs place) x.step
    pub goes : world_before h xs (suc place) ≡ after (tcp h) x.moment (world_before h xs place) x.step

  abbrev shown_by : (place : ℕ) → Option (Stamped tcp_shape) → Observation
  shown_by place o = option_map_or (λ y. observe h y.moment (world_before h xs place) y.step) o unseen

  abbrev gone : (place : ℕ) → Option (Stamped tcp_shape) → World tcp_shape
  gone place o = option_map_or (λ y. after (tcp h) y.moment (world_before h xs place) y.step) o (world_before h xs place)

  step_of : (place : ℕ) (x : Stamped tcp_shape) → slice_get xs place ≡ Some x → StepAt place
  step_of place x is = record {
    x = x;
    is = is;
    shows = ap (shown_by place) is;
    goes = world_next h (start (tcp h)) xs place ∙ ap (gone place) is;
  }

  pub step_at : (place : ℕ) (me : EndpointId) (event : Event) (before : View) → Happens (observed h xs place) me event before → StepAt place
  step_at place me event before = by (slice_get xs place) refl
    where
      by : (o : Option (Stamped tcp_shape)) → slice_get xs place ≡ o → Happens (shown_by place o) me event before → StepAt place
      by None is here = absurd (none-some (touched me event before) here)
      by (Some x) is here = step_of place x is

  pub counts_rise : (place : ℕ) → (world_before h xs place).count ≤ (world_before h xs (suc place)).count
  counts_rise place =
      subst (λ (w : World tcp_shape). (world_before h xs place).count ≤ w.count) (sym (world_next h (start (tcp h)) xs place)) (by (slice_get xs place))
    where
      by : (o : Option (Stamped tcp_shape)) → (world_before h xs place).count ≤ (gone place o).count
      by None = le_refl (world_before h xs place).count
      by (Some x) = count_rises h x.moment (world_before h xs place) x.step

  -- the step that builds a segment
  pub record BuiltAt (place : ℕ) : Type 0 where
    pub number : number_built (observed h xs place).built_change ≡ suc (world_before h xs place).count
    pub count : (world_before h xs (suc place)).count ≡ suc (world_before h xs place).count
    pub no_syn : (observed h xs place).syn_change ≡ syn_change.Nothing

  pub built_at : (place : ℕ) (me : EndpointId) (m : SegmentPlan) (before : View) → Happens (observed h xs place) me (Builds m) before → BuiltAt place
  built_at place me m before here =
      let s = step_at place me (Builds m) before here in
      let w : World tcp_shape = world_before h xs place in
      let step = builds_by h s.x.moment w s.x.step me m before (subst (λ (o : Observation). Happens o me (Builds m) before) s.shows here) in
      let shows : observed h xs place ≡ observe h s.x.moment w (At me.host (network.Makes m)) = s.shows ∙ ap (observe h s.x.moment w) step in
      record {
        number = ap (λ (o : Observation). number_built o.built_change) shows;
        count = ap (λ (v : World tcp_shape). v.count) (s.goes ∙ ap (after (tcp h) s.x.moment w) step);
        no_syn = ap (λ (o : Observation). o.syn_change) shows;
      }

  pub recovers_at : (place : ℕ) (me : EndpointId) (change : RecoveryChange) (before : View) → Happens (observed h xs place) me (Recovers change) before
      → before ≡ seen_before h xs place me
  recovers_at place me change before here =
      let s = step_at place me (Recovers change) before here in
      recovers_there h s.x.moment (world_before h xs place) s.x.step me change before
      (subst (λ (o : Observation). Happens o me (Recovers change) before) s.shows here)
