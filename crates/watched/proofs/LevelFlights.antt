-- Data in flight at another level of congestion control: the same is kept, and if less is judged, no more is refused.
use Rattle.std.proofs.Common.{◌≡◌, ℕ, ◌+◌, ◌≤◌, Bool, true, false, List, [], ◌∷◌, ◌++◌, Option, None, Some, map, refl, ap, sym, ◌∙◌, arith}
use Rattle.std.specs.Prelude.{◌&&◌, not, if◌then◌else◌, nat_eq, slice_get}
use Rattle.std.specs.FinSet.{difference, from_list, items, union}
use Rattle.std.specs.Option.{option_map, option_map_or}
use Rattle.indexmap.specs.IndexMap.{insert_entry}
use Rattle.case_forms.specs.Versions.{says_sender}
use Rattle.case_forms.specs.TakenLines.{timer_of}
use Rattle.case_forms.specs.declared.timer.RecoveryChange.{RecoveryChange}
use Rattle.case_forms.specs.declared.timer.RecoveryChange.TheVariants.{Begins, IsUndone}
use Rattle.case_forms.specs.declared.calls.Host.{Host}
use Rattle.case_forms.specs.declared.steps.SegmentPlan.{SegmentPlan}
use Rattle.case_forms.specs.declared.timer.Timer.{Timer}
use Rattle.case_forms.specs.declared.timer.Timer.TheVariants.{Giveup, Msl2, Persist, Pto, Rto}
use Rattle.case_forms.specs.declared.trace.Header.{Header}
use Rattle.case_forms.specs.declared.version.Judged.{Judged}
use Rattle.case_forms.specs.declared.version.Judged.TheVariants as judged
use Rattle.case_forms.specs.declared.version.Version.{Version}
use Rattle.verdict.specs.Rules.{rule_number}
use Rattle.verdict.specs.declared.rule.Rule.{Rule}
use Rattle.verdict.specs.declared.rule.Rule.TheVariants as rules
use Rattle.streams.specs.Ranges.{span}
use Rattle.spec_network.specs.HostRules.{step_rules}
use Rattle.spec_network.specs.Hosts.{HostStep, Step, World, Does, Expires as TimerLine, Makes, Sends as SendLine, Gets, Hears, Takes as TakeStep}
use Rattle.spec_network.specs.Hosts.{Drops as DropStep, Answers, Begin, Finish, Effect, At}
use Rattle.spec_network.specs.Tables.{on, pick, with_host}
use Rattle.spec_tcp.specs.HostTcp.{HostTcp, place_of}
use Rattle.spec_tcp.specs.Machine.{tcp, tcp_shape}
use Rattle.spec_tcp.specs.Signals.{profile_of}
use Rattle.spec_tcp_laws.specs.Judging.{IsJudged, extent, header_by, world_judged}
use Rattle.spec_tcp_laws.specs.Levels.{is_of_level, other_rules}
use Rattle.spec_tcp.specs.declared.endpoint.Endpoint.{Endpoint}
use Rattle.spec_duties.specs.Events.{acknowledges_more}
use Rattle.spec_duties.specs.Observations.{at_place, observe, view_in}
use Rattle.spec_duties.specs.Resent.{judges_repeats}
use Rattle.spec_duties.specs.declared.events.Event.{Event}
use Rattle.spec_duties.specs.declared.events.Event.TheVariants.{Builds, Calls, Drops, Expires, Opens, Processes, Recovers, Sends}
use Rattle.spec_duties.specs.declared.observations.Observation.{Observation}
use Rattle.spec_duties.specs.declared.observations.SynChange.{SynChange}
use Rattle.spec_duties.specs.declared.observations.SynChange.TheVariants as syn
use Rattle.spec_duties.specs.declared.observations.TouchedEndpoint.{TouchedEndpoint}
use Rattle.spec_duties.specs.Views.{view_of}
use Rattle.spec_duties.specs.declared.views.View.{View}
use Rattle.spec_flights.specs.Clocks.{clocks_after}
use Rattle.spec_flights.specs.Delivered.{read_reports, without_reports}
use Rattle.spec_flights.specs.Echoes.{echoes_after}
use Rattle.spec_flights.specs.Flights.{Flight, Flights, board_after, broken_at, flight_after, flight_at, flight_by, flights_touched, may_begin}
use Rattle.spec_flights.specs.Flights.{marks_oldest, may_be_probed, may_go_again, refusal, rescued_after}
use Rattle.spec_flights.specs.Held.{held_after}
use Rattle.spec_flights.specs.Marks.{goes_again, marked_by, marked_by_event, marks_after, taken_by}
use Rattle.spec_flights.specs.Probing.{is_early_probe, probe_before, probing_after}
use Rattle.spec_flights.specs.declared.probing.Probe.{Probe}
use Rattle.spec_flights.specs.declared.probing.Probe.TheVariants as probes
use Rattle.spec_flights.specs.declared.probing.Probing.{Probing}
use Rattle.spec_flights.specs.Recovering.{is_recovering, recovery_after}
use Rattle.spec_flights.specs.Scoreboard.{number_built, Scoreboard}
use Rattle.spec_flights.specs.Sides.{sides_after}
use Rattle.spec_flights.specs.Undoing.{undoing_after}
use Rattle.spec_flights.specs.declared.clocks.Clocks.{Clocks}
use Rattle.spec_flights.specs.declared.clocks.Echoable.{Echoable}
use Rattle.spec_flights.specs.declared.recovery.Recovery.{Recovery}
use Rattle.spec_flights.specs.declared.reports.Reports.{Reports}
use Rattle.spec_flights.specs.declared.sides.Sides.{Sides}
use Rattle.spec_flights.specs.declared.stretch.Stretch.{Stretch}
use Rattle.spec_flights.specs.declared.undoing.Undoing.{Undoing}
use Rattle.spec_cases.specs.Cases.{Known, flown, model_rules, refused_at, refused_by, with_broken, with_refusal}
use Rattle.watched.specs.Levels.{is_old_data, known_judged, observed_with, remaining, touched_with, view_with}
use Rattle.watched.proofs.LevelObservations.{shows_the_same, view_seen}

-- ---- what is kept doesn't depend on the edge

recovery_same : (event : Event) (b : ℕ) (after : View) (r : Recovery) → recovery_after event (view_with b after) r ≡ recovery_after event after r
recovery_same Opens b after r = refl
recovery_same (Calls abort) b after r = refl
recovery_same (Processes length rst) b after r = refl
recovery_same (Drops asks unlimited) b after r = refl
recovery_same (Builds m) b after r = refl
recovery_same (Sends s) b after r = refl
recovery_same (Expires Rto) b after r = refl
recovery_same (Expires Persist) b after r = refl
recovery_same (Expires Msl2) b after r = refl
recovery_same (Expires Giveup) b after r = refl
recovery_same (Expires Pto) b after r = refl
recovery_same (Recovers Begins) b after r = refl
recovery_same (Recovers IsUndone) b after r = refl

event_same : (event : Event) (b : ℕ) (after : View) (oldest : Bool) → marked_by_event event (view_with b after) oldest ≡ marked_by_event event after oldest
event_same Opens b after oldest = refl
event_same (Calls abort) b after oldest = refl
event_same (Processes length rst) b after oldest = refl
event_same (Drops asks unlimited) b after oldest = refl
event_same (Builds m) b after oldest = refl
event_same (Sends s) b after oldest = refl
event_same (Expires Rto) b after oldest = refl
event_same (Expires Persist) b after oldest = refl
event_same (Expires Msl2) b after oldest = refl
event_same (Expires Giveup) b after oldest = refl
event_same (Expires Pto) b after oldest = refl
event_same (Recovers change) b after oldest = refl

marked_same : (change : SynChange) (event : Event) (b : ℕ) (after : View) (oldest : Bool)
    → marked_by change event (view_with b after) oldest ≡ marked_by change event after oldest
marked_same syn.Nothing event b after oldest = event_same event b after oldest
marked_same (syn.Sends permits) event b after oldest = event_same event b after oldest
marked_same (syn.Takes permits true) event b after oldest = refl
marked_same (syn.Takes permits false) event b after oldest = event_same event b after oldest
marked_same syn.ComesAgain event b after oldest = refl

taken_same : (event : Event) (a : ℕ) (before : View) → taken_by event (view_with a before) ≡ taken_by event before
taken_same Opens a before = refl
taken_same (Calls abort) a before = refl
taken_same (Processes length rst) a before = refl
taken_same (Drops asks unlimited) a before = refl
taken_same (Builds m) a before = refl
taken_same (Sends s) a before = refl
taken_same (Expires timer) a before = refl
taken_same (Recovers Begins) a before = refl
taken_same (Recovers IsUndone) a before = refl

oldest_same : (clock : ℕ) (event : Event) (a b : ℕ) (before after : View) (sides : Sides) (r : Recovery) (f : Flight)
    → marks_oldest clock event (view_with a before) (view_with b after) sides r f ≡ marks_oldest clock event before after sides r f
oldest_same clock Opens a b before after sides r f = refl
oldest_same clock (Calls abort) a b before after sides r f = refl
oldest_same clock (Processes length rst) a b before after sides r f = refl
oldest_same clock (Drops asks unlimited) a b before after sides r f = refl
oldest_same clock (Builds m) a b before after sides r f = refl
oldest_same clock (Sends s) a b before after sides r f = refl
oldest_same clock (Expires timer) a b before after sides r f = refl
oldest_same clock (Recovers Begins) a b before after sides r f = refl
oldest_same clock (Recovers IsUndone) a b before after sides r f = refl

board_same : (moment clock : ℕ) (recovers : Bool) (number : ℕ) (event : Event) (a b : ℕ) (before after : View) (r : Reports) (x : Scoreboard)
    → board_after moment clock recovers number event (view_with a before) (view_with b after) r x
    ≡ board_after moment clock recovers number event before after r x
board_same moment clock recovers number Opens a b before after r x = refl
board_same moment clock recovers number (Calls abort) a b before after r x = refl
board_same moment clock recovers number (Processes length rst) a b before after r x = refl
board_same moment clock recovers number (Drops asks unlimited) a b before after r x = refl
board_same moment clock recovers number (Builds m) a b before after r x = refl
board_same moment clock recovers number (Sends s) a b before after r x = refl
board_same moment clock recovers number (Expires Rto) a b before after r x = refl
board_same moment clock recovers number (Expires Persist) a b before after r x = refl
board_same moment clock recovers number (Expires Msl2) a b before after r x = refl
board_same moment clock recovers number (Expires Giveup) a b before after r x = refl
board_same moment clock recovers number (Expires Pto) a b before after r x = refl
board_same moment clock recovers number (Recovers Begins) a b before after r x = refl
board_same moment clock recovers number (Recovers IsUndone) a b before after r x = refl

rescued_same : (clock : ℕ) (event : Event) (a : ℕ) (before : View) (f : Flight)
    → rescued_after clock event (view_with a before) f ≡ rescued_after clock event before f
rescued_same clock Opens a before f = refl
rescued_same clock (Calls abort) a before f = refl
rescued_same clock (Processes length rst) a before f = refl
rescued_same clock (Drops asks unlimited) a before f = refl
rescued_same clock (Builds m) a before f = refl
rescued_same clock (Sends s) a before f = refl
rescued_same clock (Expires Rto) a before f = refl
rescued_same clock (Expires Persist) a before f = refl
rescued_same clock (Expires Msl2) a before f = refl
rescued_same clock (Expires Giveup) a before f = refl
rescued_same clock (Expires Pto) a before f = refl
rescued_same clock (Recovers Begins) a before f = refl
rescued_same clock (Recovers IsUndone) a before f = refl

probe_same : (b : ℕ) (after : View) (p : Probe) → probe_before (view_with b after) p ≡ probe_before after p
probe_same b after probes.Nothing = refl
probe_same b after probes.Due = refl
probe_same b after (probes.Out end) = refl

probing_same : (moment : ℕ) (event : Event) (a b : ℕ) (before after : View) (p : Probing)
    → probing_after moment event (view_with a before) (view_with b after) p ≡ probing_after moment event before after p
probing_same moment Opens a b before after p = ap (λ (x : Probe). record { probe = x; quiet = p.quiet }) (probe_same b after p.probe)
probing_same moment (Calls abort) a b before after p = ap (λ (x : Probe). record { probe = x; quiet = p.quiet }) (probe_same b after p.probe)
probing_same moment (Processes length rst) a b before after p =
    ap (λ (x : Probe). record { probe = x; quiet = if acknowledges_more before after then Some moment else p.quiet }) (probe_same b after p.probe)
probing_same moment (Drops asks unlimited) a b before after p = ap (λ (x : Probe). record { probe = x; quiet = p.quiet }) (probe_same b after p.probe)
probing_same moment (Builds m) a b before after p = refl
probing_same moment (Sends s) a b before after p = ap (λ (x : Probe). record { probe = x; quiet = p.quiet }) (probe_same b after p.probe)
probing_same moment (Expires Rto) a b before after p = refl
probing_same moment (Expires Persist) a b before after p = ap (λ (x : Probe). record { probe = x; quiet = p.quiet }) (probe_same b after p.probe)
probing_same moment (Expires Msl2) a b before after p = ap (λ (x : Probe). record { probe = x; quiet = p.quiet }) (probe_same b after p.probe)
probing_same moment (Expires Giveup) a b before after p = ap (λ (x : Probe). record { probe = x; quiet = p.quiet }) (probe_same b after p.probe)
probing_same moment (Expires Pto) a b before after p = refl
probing_same moment (Recovers Begins) a b before after p = refl
probing_same moment (Recovers IsUndone) a b before after p = ap (λ (x : Probe). record { probe = x; quiet = p.quiet }) (probe_same b after p.probe)

undoing_same : (s : Observation) (event : Event) (a b : ℕ) (before after : View) (sides : Sides) (c : Recovery) (r : Reports) (x : Scoreboard) (u : Undoing)
    → undoing_after (observed_with a s) event (view_with a before) (view_with b after) sides c r x u ≡ undoing_after s event before after sides c r x u
undoing_same s Opens a b before after sides c r x u = refl
undoing_same s (Calls abort) a b before after sides c r x u = refl
undoing_same s (Processes length rst) a b before after sides c r x u = refl
undoing_same s (Drops asks unlimited) a b before after sides c r x u = refl
undoing_same s (Builds m) a b before after sides c r x u = refl
undoing_same s (Sends sent) a b before after sides c r x u = refl
undoing_same s (Expires Rto) a b before after sides c r x u = refl
undoing_same s (Expires Persist) a b before after sides c r x u = refl
undoing_same s (Expires Msl2) a b before after sides c r x u = refl
undoing_same s (Expires Giveup) a b before after sides c r x u = refl
undoing_same s (Expires Pto) a b before after sides c r x u = refl
undoing_same s (Recovers change) a b before after sides c r x u = refl

clocks_same : (s : Observation) (event : Event) (a b : ℕ) (after : View) (c : Clocks)
    → clocks_after (observed_with a s) event (view_with b after) c ≡ clocks_after s event after c
clocks_same s Opens a b after c = refl
clocks_same s (Calls abort) a b after c = refl
clocks_same s (Processes length rst) a b after c = refl
clocks_same s (Drops asks unlimited) a b after c = refl
clocks_same s (Builds m) a b after c = refl
clocks_same s (Sends x) a b after c = refl
clocks_same s (Expires timer) a b after c = refl
clocks_same s (Recovers change) a b after c = refl

echoes_same : (s : Observation) (event : Event) (a : ℕ) (c : Clocks) (es : List (ℕ × Option Echoable))
    → echoes_after (observed_with a s) event c es ≡ echoes_after s event c es
echoes_same s Opens a c es = refl
echoes_same s (Calls abort) a c es = refl
echoes_same s (Processes length rst) a c es = refl
echoes_same s (Drops asks unlimited) a c es = refl
echoes_same s (Builds m) a c es = refl
echoes_same s (Sends x) a c es = refl
echoes_same s (Expires timer) a c es = refl
echoes_same s (Recovers change) a c es = refl

marks_same : (change : SynChange) (event : Event) (a b : ℕ) (before after : View) (r : Reports) (oldest : Bool) (marks : List ℕ)
    → marks_after change event (view_with a before) (view_with b after) r oldest marks ≡ marks_after change event before after r oldest marks
marks_same change event a b before after r oldest marks =
    ap (λ (taken : Stretch). left taken (marked_by change event (view_with b after) oldest)) (taken_same event a before)
    ∙ ap (left (taken_by event before)) (marked_same change event b after oldest)
  where
    left : (taken marked : Stretch) → List ℕ
    left taken marked =
        items
        (difference (union (without_reports (difference (from_list marks) (span taken.from taken.upto)) r) (span marked.from marked.upto))
        (span 0 after.snd_una))

flight_same : (moment clock : ℕ) (s : Observation) (t : TouchedEndpoint) (a b : ℕ) (after : View) (f : Flight)
    → flight_after moment clock (observed_with a s) (touched_with a t) (view_with b after) f ≡ flight_after moment clock s t after f
flight_same moment clock s t a b after f =
    ap (λ (r : Recovery). flight_by moment clock (observed_with a s) (touched_with a t) (view_with b after) sides r f)
    (recovery_same t.event b after f.recovery)
    ∙ ap (λ (oldest : Bool). with (marks (view_with a t.before) (view_with b after) oldest) board rescued probing undoing clocks echoes)
    (oldest_same clock t.event a b t.before after sides now f)
    ∙ ap (λ (ms : List ℕ). with ms board rescued probing undoing clocks echoes)
    (marks_same s.syn_change t.event a b t.before after reports (marks_oldest clock t.event t.before after sides now f) f.marks)
    ∙ ap (λ (x : Scoreboard). with kept x rescued probing undoing clocks echoes)
    (board_same moment clock recovers number t.event a b t.before after reports f.board)
    ∙ ap (λ (used : Bool). with kept held used probing undoing clocks echoes) (rescued_same clock t.event a t.before f)
    ∙ ap (λ (p : Probing). with kept held (rescued_after clock t.event t.before f) p undoing clocks echoes)
    (probing_same moment t.event a b t.before after f.probing)
    ∙ ap (λ (u : Undoing). with kept held (rescued_after clock t.event t.before f) (probing_after moment t.event t.before after f.probing) u clocks
    echoes)
    (undoing_same s t.event a b t.before after sides f.recovery reports f.board f.undoing)
    ∙ ap (λ (c : Clocks). with kept held (rescued_after clock t.event t.before f) (probing_after moment t.event t.before after f.probing)
    (undoing_after s t.event t.before after sides f.recovery reports f.board f.undoing) c echoes)
    (clocks_same s t.event a b after f.clocks)
    ∙ ap (with kept held (rescued_after clock t.event t.before f) (probing_after moment t.event t.before after f.probing)
    (undoing_after s t.event t.before after sides f.recovery reports f.board f.undoing) (clocks_after s t.event after f.clocks))
    (echoes_same s t.event a f.clocks f.echoes)
  where
    sides : Sides
    sides = sides_after s.syn_change f.sides

    now : Recovery
    now = recovery_after t.event after f.recovery

    reports : Reports
    reports = read_reports sides s.blocks

    recovers : Bool
    recovers = is_recovering t.before f.recovery

    number : ℕ
    number = number_built s.built_change

    marks : (before after : View) (oldest : Bool) → List ℕ
    marks before after oldest = marks_after s.syn_change t.event before after reports oldest f.marks

    kept : List ℕ
    kept = marks t.before after (marks_oldest clock t.event t.before after sides now f)

    board : Scoreboard
    board = board_after moment clock recovers number t.event (view_with a t.before) (view_with b after) reports f.board

    rescued : Bool
    rescued = rescued_after clock t.event (view_with a t.before) f

    probing : Probing
    probing = probing_after moment t.event (view_with a t.before) (view_with b after) f.probing

    undoing : Undoing
    undoing =
        undoing_after (observed_with a s) t.event (view_with a t.before) (view_with b after) sides f.recovery reports f.board f.undoing

    clocks : Clocks
    clocks = clocks_after (observed_with a s) t.event (view_with b after) f.clocks

    echoes : List (ℕ × Option Echoable)
    echoes = echoes_after (observed_with a s) t.event f.clocks f.echoes

    held : Scoreboard
    held = board_after moment clock recovers number t.event t.before after reports f.board

    with : List ℕ → Scoreboard → Bool → Probing → Undoing → Clocks → List (ℕ × Option Echoable) → Flight
    with ms x used p u c es = record {
      sides = sides;
      recovery = now;
      marks = ms;
      board = x;
      rescued = used;
      probing = p;
      undoing = u;
      clocks = c;
      echoes = es;
      held = held_after s.kept after.rcv_nxt f.held;
    }

broken_same : (repeats : Bool) (clock : ℕ) (event : Event) (a : ℕ) (v : View) (f : Flight)
    → broken_at repeats clock event (view_with a v) f ≡ broken_at repeats clock event v f
broken_same repeats clock Opens a v f = refl
broken_same repeats clock (Calls abort) a v f = refl
broken_same repeats clock (Processes length rst) a v f = refl
broken_same repeats clock (Drops asks unlimited) a v f = refl
broken_same repeats clock (Builds m) a v f = refl
broken_same repeats clock (Sends s) a v f = refl
broken_same repeats clock (Expires Rto) a v f = refl
broken_same repeats clock (Expires Persist) a v f = refl
broken_same repeats clock (Expires Msl2) a v f = refl
broken_same repeats clock (Expires Giveup) a v f = refl
broken_same repeats clock (Expires Pto) a v f = refl
broken_same repeats clock (Recovers Begins) a v f = refl
broken_same repeats clock (Recovers IsUndone) a v f = refl

pub flown_same : (j : Judged) (h : Header) (moment : ℕ) (w : World tcp_shape) (edge : ℕ) (s : Observation) (fs : Flights)
    → flown (header_by j h) moment (world_judged j h w) (observed_with edge s) fs ≡ flown h moment w s fs
flown_same j h moment w edge s fs =
    let seen = view_seen (profile_of (header_by j h)) w edge s.touched in
    ap (λ (v : View). with (says_sender h.version) (observed_with edge s) (option_map (touched_with edge) s.touched) v) seen.1
    ∙ by (says_sender h.version) s.touched seen.0 (view_in w s.touched)
  where
    clock : ℕ
    clock = moment + h.grain

    with : Bool → Observation → Option TouchedEndpoint → View → Flights
    with strict s o v = if strict then on o fs (flights_touched moment clock s v fs) else fs

    by : (strict : Bool) (o : Option TouchedEndpoint) (b : ℕ) (v : View)
        → with strict (observed_with edge s) (option_map (touched_with edge) o) (view_with b v) ≡ with strict s o v
    by false o b v = refl
    by true None b v = refl
    by true (Some t) b v =
        ap (λ (f : Flight). with_host fs t.host (insert_entry nat_eq (pick fs t.host) t.place f))
        (flight_same moment clock s t edge b v (flight_at fs t.host t.place))

-- ---- if less is judged, no more is refused

pub repeats_less : (j k : Judged) → extent j ≤ extent k → judges_repeats j ≡ true → judges_repeats k ≡ true
repeats_less j judged.Full le is = refl
repeats_less j judged.Recovery le is = refl
repeats_less judged.Full judged.NoControl le is = absurd (omega (arith, le))
repeats_less judged.Recovery judged.NoControl le is = absurd (omega (arith, le))
repeats_less judged.NoControl judged.NoControl le is = is

-- what isn't refused stays so if it isn't judged when data goes again
broken_less : (less more : Bool) (clock : ℕ) (event : Event) (v : View) (f : Flight) → (less ≡ true → more ≡ true)
    → broken_at more clock event v f ≡ None → broken_at less clock event v f ≡ None
broken_less false more clock (Builds m) v f le none = refl
broken_less true false clock (Builds m) v f le none = let is : false ≡ true = le refl in absurd cc
broken_less true true clock (Builds m) v f le none = none
broken_less false more clock (Recovers Begins) v f le none = refl
broken_less true false clock (Recovers Begins) v f le none = let is : false ≡ true = le refl in absurd cc
broken_less true true clock (Recovers Begins) v f le none = none
broken_less less more clock (Recovers IsUndone) v f le none = none
broken_less less more clock (Expires Rto) v f le none = refl
broken_less less more clock (Expires Persist) v f le none = refl
broken_less less more clock (Expires Msl2) v f le none = refl
broken_less less more clock (Expires Giveup) v f le none = refl
broken_less less more clock (Expires Pto) v f le none = none
broken_less less more clock Opens v f le none = refl
broken_less less more clock (Calls abort) v f le none = refl
broken_less less more clock (Processes length rst) v f le none = refl
broken_less less more clock (Drops asks unlimited) v f le none = refl
broken_less less more clock (Sends s) v f le none = refl

refusal_less : (j : Judged) (h : Header) (moment : ℕ) (fs : Flights) (edge : ℕ) (s : Observation) → extent j ≤ extent h.congestion
    → refusal h moment fs s ≡ None → refusal (header_by j h) moment fs (observed_with edge s) ≡ None
refusal_less j h moment fs edge s le none = by (says_sender h.version) s.touched none
  where
    at : Bool → TouchedEndpoint → Option Rule
    at repeats t = broken_at repeats (moment + h.grain) t.event t.before (flight_at fs t.host t.place)

    by : (strict : Bool) (o : Option TouchedEndpoint) → (if strict then on o None (at (judges_repeats h.congestion)) else None) ≡ None
        → (if strict then on (option_map (touched_with edge) o) None (at (judges_repeats j)) else None) ≡ None
    by false o none = refl
    by true None none = refl
    by true (Some t) none =
        broken_same (judges_repeats j) (moment + h.grain) t.event edge t.before (flight_at fs t.host t.place)
        ∙ broken_less (judges_repeats j) (judges_repeats h.congestion) (moment + h.grain) t.event t.before (flight_at fs t.host t.place)
        (repeats_less j h.congestion le) none

pub refused_less : (j : Judged) (h : Header) (moment : ℕ) (k : Known) (step : Step tcp_shape) → extent j ≤ extent h.congestion → IsJudged h k.model
    → refused_by h moment k step ≡ None → refused_by (header_by j h) moment (known_judged j h k) step ≡ None
refused_less j h moment k (Begin line t call) le is none = refl
refused_less j h moment k (Finish line t answer) le is none = refl
refused_less j h moment k (Effect t answer) le is none = refl
refused_less j h moment k (At host d) le is none = at d none
  where
    less : (d : HostStep tcp_shape) → refusal h moment k.flights (observe h moment k.model (At host d)) ≡ None
        → refusal (header_by j h) moment k.flights (observe (header_by j h) moment (world_judged j h k.model) (At host d)) ≡ None
    less d none =
        let seen = shows_the_same j h moment k.model (At host d) le is in
        ap (λ (s : Observation). refusal (header_by j h) moment k.flights s) seen.1
        ∙ refusal_less j h moment k.flights seen.0 (observe h moment k.model (At host d)) le none

    at : (d : HostStep tcp_shape) → refused_at h moment k host d ≡ None → refused_at (header_by j h) moment (known_judged j h k) host d ≡ None
    at (Makes m) none = less (Makes m) none
    at (Does x) none = less (Does x) none
    at (TimerLine line x) none = less (TimerLine line x) none
    at (SendLine line number wire) none = refl
    at (Gets line copied wire) none = refl
    at (Hears line wire) none = refl
    at (TakeStep line how) none = refl
    at (DropStep line) none = refl
    at (Answers line) none = refl

-- ---- a refusal changes only rules that the level decides

-- a rule that may be broken so
abbrev IsLevels : Version → Option Rule → Type 0
IsLevels v None = Unit {0}
IsLevels v (Some rules.OldData) = says_sender v ≡ true
IsLevels v (Some rules.Recovery) = Unit {0}
IsLevels v (Some rule) = ⊥

old_is : (r : Rule) → nat_eq 20 (rule_number r) ≡ true → r ≡ rules.OldData
old_is rules.OldData is = refl
old_is _ is = absurd cc

recovery_is : (r : Rule) → nat_eq 37 (rule_number r) ≡ true → r ≡ rules.Recovery
recovery_is rules.Recovery is = refl
recovery_is _ is = absurd cc

-- one rule more
remaining_more : (v : Version) (e : Rule × Bool) (xs ys : List (Rule × Bool)) → remaining v (other_rules xs) ≡ remaining v (other_rules ys)
    → remaining v (other_rules (e ∷ xs)) ≡ remaining v (other_rules (e ∷ ys))
remaining_more v e xs ys same = by (is_of_level e.0)
  where
    inner : (old : Bool)
        → (if old then remaining v (other_rules xs) else e ∷ remaining v (other_rules xs))
        ≡ (if old then remaining v (other_rules ys) else e ∷ remaining v (other_rules ys))
    inner true = same
    inner false = ap (λ (zs : List (Rule × Bool)). e ∷ zs) same

    by : (own : Bool)
        → remaining v (if own then other_rules xs else e ∷ other_rules xs) ≡ remaining v (if own then other_rules ys else e ∷ other_rules ys)
    by true = same
    by false = inner (says_sender v && is_old_data e.0)

-- `old-data` is left out from version 6 on
old_left : (v : Version) (b : Bool) (xs : List (Rule × Bool)) → says_sender v ≡ true
    → remaining v (other_rules ((rules.OldData, b) ∷ xs)) ≡ remaining v (other_rules xs)
old_left v b xs is =
    ap (λ (strict : Bool). if strict && true then remaining v (other_rules xs) else (rules.OldData, b) ∷ remaining v (other_rules xs)) is

old_out : (v : Version) (rs : List (Rule × Bool)) → says_sender v ≡ true
    → remaining v (other_rules (map (with_broken rules.OldData) rs)) ≡ remaining v (other_rules rs)
old_out v [] is = refl
old_out v ((r, b) ∷ rs) is = by (nat_eq 20 (rule_number r)) refl (old_out v rs is)
  where
    by : (same : Bool) → nat_eq 20 (rule_number r) ≡ same
        → remaining v (other_rules (map (with_broken rules.OldData) rs)) ≡ remaining v (other_rules rs)
        → remaining v (other_rules ((if same then (rules.OldData, true) else (r, b)) ∷ map (with_broken rules.OldData) rs))
        ≡ remaining v (other_rules ((r, b) ∷ rs))
    by true at rest =
        old_left v true (map (with_broken rules.OldData) rs) is ∙ rest
        ∙ sym (ap (λ (x : Rule). remaining v (other_rules ((x, b) ∷ rs))) (old_is r at) ∙ old_left v b rs is)
    by false at rest = remaining_more v (r, b) (map (with_broken rules.OldData) rs) rs rest

recovery_out : (v : Version) (rs : List (Rule × Bool))
    → remaining v (other_rules (map (with_broken rules.Recovery) rs)) ≡ remaining v (other_rules rs)
recovery_out v [] = refl
recovery_out v ((r, b) ∷ rs) = by (nat_eq 37 (rule_number r)) refl (recovery_out v rs)
  where
    by : (same : Bool) → nat_eq 37 (rule_number r) ≡ same
        → remaining v (other_rules (map (with_broken rules.Recovery) rs)) ≡ remaining v (other_rules rs)
        → remaining v (other_rules ((if same then (rules.Recovery, true) else (r, b)) ∷ map (with_broken rules.Recovery) rs))
        ≡ remaining v (other_rules ((r, b) ∷ rs))
    by true at rest = rest ∙ sym (ap (λ (x : Rule). remaining v (other_rules ((x, b) ∷ rs))) (recovery_is r at))
    by false at rest = remaining_more v (r, b) (map (with_broken rules.Recovery) rs) rs rest

refused_out : (v : Version) (o : Option Rule) (rs : List (Rule × Bool)) → IsLevels v o
    → remaining v (other_rules (with_refusal o rs)) ≡ remaining v (other_rules rs)
refused_out v None rs is = refl
refused_out v (Some rules.OldData) rs is = old_out v rs is
refused_out v (Some rules.Recovery) rs is = recovery_out v rs
refused_out v (Some _) rs is = absurd is

-- a refusal by a rule that isn't the level's own breaks the same of the other rules
module _ (t : Rule) (plain : is_of_level t ≡ false) (only : (r : Rule) → nat_eq (rule_number t) (rule_number r) ≡ true → r ≡ t) where
  kept_out : (rs : List (Rule × Bool)) → other_rules (map (with_broken t) rs) ≡ map (with_broken t) (other_rules rs)
  kept_out [] = refl
  kept_out ((r, b) ∷ rs) = by (nat_eq (rule_number t) (rule_number r)) refl (is_of_level r) refl (kept_out rs)
    where
      now : Bool → Rule × Bool
      now same = if same then (t, true) else (r, b)

      left : List (Rule × Bool)
      left = other_rules (map (with_broken t) rs)

      by : (same : Bool) → nat_eq (rule_number t) (rule_number r) ≡ same → (own : Bool) → is_of_level r ≡ own
          → left ≡ map (with_broken t) (other_rules rs)
          → other_rules (now same ∷ map (with_broken t) rs) ≡ map (with_broken t) (if own then other_rules rs else (r, b) ∷ other_rules rs)
      by true at true is rest = let no : true ≡ false = sym is ∙ ap is_of_level (only r at) ∙ plain in absurd cc
      by true at false is rest =
          ap (λ (own : Bool). if own then left else (t, true) ∷ left) plain ∙ ap (λ (xs : List (Rule × Bool)). (t, true) ∷ xs) rest
          ∙ sym (ap (λ (same : Bool). now same ∷ map (with_broken t) (other_rules rs)) at)
      by false at true is rest = ap (λ (own : Bool). if own then left else (r, b) ∷ left) is ∙ rest
      by false at false is rest =
          ap (λ (own : Bool). if own then left else (r, b) ∷ left) is ∙ ap (λ (xs : List (Rule × Bool)). (r, b) ∷ xs) rest
          ∙ sym (ap (λ (same : Bool). now same ∷ map (with_broken t) (other_rules rs)) at)

off_is : (r : Rule) → nat_eq 35 (rule_number r) ≡ true → r ≡ rules.TimerOff
off_is rules.TimerOff is = refl
off_is _ is = absurd cc

early_is : (r : Rule) → nat_eq 36 (rule_number r) ≡ true → r ≡ rules.TimerEarly
early_is rules.TimerEarly is = refl
early_is _ is = absurd cc

-- a rule that the line of a timer may break so
abbrev IsTimers : Option Rule → Type 0
IsTimers None = Unit {0}
IsTimers (Some rules.TimerOff) = Unit {0}
IsTimers (Some rules.TimerEarly) = Unit {0}
IsTimers (Some rule) = ⊥

timer_out : (o : Option Rule) (rs : List (Rule × Bool)) → IsTimers o → other_rules (with_refusal o rs) ≡ with_refusal o (other_rules rs)
timer_out None rs is = refl
timer_out (Some rules.TimerOff) rs is = kept_out rules.TimerOff refl off_is rs
timer_out (Some rules.TimerEarly) rs is = kept_out rules.TimerEarly refl early_is rs
timer_out (Some _) rs is = absurd is

-- at an endpoint that there may be, which a step touches
module _ (fs : Flights) (clock : ℕ) (host : Host) (b : HostTcp) (event : Event) where
  abbrev there : Option ℕ → Option TouchedEndpoint
  there place = option_map_or (at_place host b event) place None

  abbrev refused_there : (strict repeats : Bool) → Option TouchedEndpoint → Option Rule
  refused_there strict repeats o =
      if strict then on o None (λ t. broken_at repeats clock t.event t.before (flight_at fs t.host t.place)) else None

  all_there : (Is : Option Rule → Type 0) → Is None → (repeats strict : Bool)
      → (strict ≡ true → (v : View) (f : Flight) → Is (broken_at repeats clock event v f)) → (place : Option ℕ)
      → Is (refused_there strict repeats (there place))
  all_there Is none repeats false each place = none
  all_there Is none repeats true each None = none
  all_there Is none repeats true each (Some i) = at (slice_get b.endpoints i)
    where
      touched : Endpoint → TouchedEndpoint
      touched e = record { host = host; place = i; event = event; before = view_of e }

      at : (o : Option Endpoint) → Is (refused_there true repeats (option_map touched o))
      at None = none
      at (Some e) = each refl (view_of e) (flight_at fs host i)

  same_there : (edge : ℕ) (less more : Bool) → ((v : View) (f : Flight) → broken_at less clock event v f ≡ broken_at more clock event v f)
      → (strict : Bool) (place : Option ℕ)
      → refused_there strict less (option_map (touched_with edge) (there place)) ≡ refused_there strict more (there place)
  same_there edge less more each false place = refl
  same_there edge less more each true None = refl
  same_there edge less more each true (Some i) = at (slice_get b.endpoints i)
    where
      touched : Endpoint → TouchedEndpoint
      touched e = record { host = host; place = i; event = event; before = view_of e }

      at : (o : Option Endpoint)
          → refused_there true less (option_map (touched_with edge) (option_map touched o)) ≡ refused_there true more (option_map touched o)
      at None = refl
      at (Some e) = broken_same less clock event edge (view_of e) (flight_at fs host i) ∙ each (view_of e) (flight_at fs host i)

builds_levels : (v : Version) → says_sender v ≡ true → (repeats : Bool) (clock : ℕ) (m : SegmentPlan) (seen : View) (f : Flight)
    → IsLevels v (broken_at repeats clock (Builds m) seen f)
builds_levels v is repeats clock m seen f = by (repeats && goes_again seen m && not (may_go_again clock seen m f))
  where
    by : (b : Bool) → IsLevels v (if b then Some rules.OldData else None)
    by true = is
    by false = tt

recovers_levels : (v : Version) (repeats : Bool) (clock : ℕ) (change : RecoveryChange) (seen : View) (f : Flight)
    → IsLevels v (broken_at repeats clock (Recovers change) seen f)
recovers_levels v repeats clock change seen f = at change
  where
    by : (b : Bool) → IsLevels v (if b then Some rules.Recovery else None)
    by true = tt
    by false = tt

    at : (change : RecoveryChange) → IsLevels v (broken_at repeats clock (Recovers change) seen f)
    at Begins = by (repeats && not (may_begin clock seen f))
    at IsUndone = by (not f.undoing.is_spurious)

expires_timers : (repeats : Bool) (clock : ℕ) (timer : Timer) (seen : View) (f : Flight) → IsTimers (broken_at repeats clock (Expires timer) seen f)
expires_timers repeats clock Rto seen f = tt
expires_timers repeats clock Persist seen f = tt
expires_timers repeats clock Msl2 seen f = tt
expires_timers repeats clock Giveup seen f = tt
expires_timers repeats clock Pto seen f = by (may_be_probed seen f) (is_early_probe clock seen f.probing.quiet)
  where
    by : (may early : Bool) → IsTimers (if not may then Some rules.TimerOff else if early then Some rules.TimerEarly else None)
    by false early = tt
    by true true = tt
    by true false = tt

expires_same : (less more : Bool) (clock : ℕ) (timer : Timer) (seen : View) (f : Flight)
    → broken_at less clock (Expires timer) seen f ≡ broken_at more clock (Expires timer) seen f
expires_same less more clock Rto seen f = refl
expires_same less more clock Persist seen f = refl
expires_same less more clock Msl2 seen f = refl
expires_same less more clock Giveup seen f = refl
expires_same less more clock Pto seen f = refl

-- so at another level the other rules of the model are the same
pub model_alike : (j : Judged) (h : Header) (moment : ℕ) (k : Known) (step : Step tcp_shape) → extent j ≤ extent h.congestion → IsJudged h k.model
    → other_rules (step_rules (tcp (header_by j h)) moment (world_judged j h k.model) step) ≡ other_rules (step_rules (tcp h) moment k.model step)
    → remaining h.version (other_rules (model_rules (header_by j h) moment (known_judged j h k) step))
    ≡ remaining h.version (other_rules (model_rules h moment k step))
model_alike j h moment k (Begin line t call) le is same = ap (remaining h.version) same
model_alike j h moment k (Finish line t answer) le is same = ap (remaining h.version) same
model_alike j h moment k (Effect t answer) le is same = ap (remaining h.version) same
model_alike j h moment k (At host d) le is same = at d same
  where
    Alike : HostStep tcp_shape → Type 0
    Alike d = other_rules (step_rules (tcp (header_by j h)) moment (world_judged j h k.model) (At host d))
        ≡ other_rules (step_rules (tcp h) moment k.model (At host d))
        → remaining h.version (other_rules (model_rules (header_by j h) moment (known_judged j h k) (At host d)))
        ≡ remaining h.version (other_rules (model_rules h moment k (At host d)))

    clock : ℕ
    clock = moment + h.grain

    strict : Bool
    strict = says_sender h.version

    b : HostTcp
    b = (pick k.model.hosts host).body

    less_rules : HostStep tcp_shape → List (Rule × Bool)
    less_rules d = step_rules (tcp (header_by j h)) moment (world_judged j h k.model) (At host d)

    more_rules : HostStep tcp_shape → List (Rule × Bool)
    more_rules d = step_rules (tcp h) moment k.model (At host d)

    left : Option Rule → List (Rule × Bool) → List (Rule × Bool)
    left o rs = remaining h.version (other_rules (with_refusal o rs))

    refused : Event → (repeats : Bool) → (place : Option ℕ) → Option Rule
    refused event repeats place = refused_there k.flights clock host b event strict repeats (there k.flights clock host b event place)

    -- what it refuses at the other level
    less_refused : (d : HostStep tcp_shape) (event : Event) (place : Option ℕ) (more : Bool)
        → (observe h moment k.model (At host d)).touched ≡ there k.flights clock host b event place
        → ((v : View) (f : Flight) → broken_at (judges_repeats j) clock event v f ≡ broken_at more clock event v f)
        → refusal (header_by j h) moment k.flights (observe (header_by j h) moment (world_judged j h k.model) (At host d)) ≡ refused event more place
    less_refused d event place more touches each =
        let seen = shows_the_same j h moment k.model (At host d) le is in
        ap (λ (s : Observation). refusal (header_by j h) moment k.flights s) seen.1
        ∙ ap (λ (o : Option TouchedEndpoint). refused_there k.flights clock host b event strict (judges_repeats j) (option_map (touched_with seen.0) o))
        touches
        ∙ same_there k.flights clock host b event seen.0 (judges_repeats j) more each strict place

    by_levels : (d : HostStep tcp_shape) (event : Event) (place : Option ℕ)
        → refused_by (header_by j h) moment (known_judged j h k) (At host d) ≡ refused event (judges_repeats j) place
        → refused_by h moment k (At host d) ≡ refused event (judges_repeats h.congestion) place
        → ((repeats : Bool) → strict ≡ true → (v : View) (f : Flight) → IsLevels h.version (broken_at repeats clock event v f)) → Alike d
    by_levels d event place less more each same =
        ap (λ (o : Option Rule). left o (less_rules d)) less
        ∙ refused_out h.version (refused event (judges_repeats j) place) (less_rules d)
        (all_there k.flights clock host b event (IsLevels h.version) tt (judges_repeats j) strict (each (judges_repeats j)) place)
        ∙ ap (remaining h.version) same
        ∙ sym (refused_out h.version (refused event (judges_repeats h.congestion) place) (more_rules d)
        (all_there k.flights clock host b event (IsLevels h.version) tt (judges_repeats h.congestion) strict (each (judges_repeats h.congestion)) place))
        ∙ sym (ap (λ (o : Option Rule). left o (more_rules d)) more)

    by_timers : (d : HostStep tcp_shape) (timer : Timer) (place : Option ℕ)
        → refused_by (header_by j h) moment (known_judged j h k) (At host d) ≡ refused (Expires timer) (judges_repeats h.congestion) place
        → refused_by h moment k (At host d) ≡ refused (Expires timer) (judges_repeats h.congestion) place → Alike d
    by_timers d timer place less more same =
        let o = refused (Expires timer) (judges_repeats h.congestion) place in
        let kind : IsTimers (refused (Expires timer) (judges_repeats h.congestion) place) =
        all_there k.flights clock host b (Expires timer) IsTimers tt (judges_repeats h.congestion) strict
        (λ is. expires_timers (judges_repeats h.congestion) clock timer) place in
        ap (λ (o : Option Rule). left o (less_rules d)) less
        ∙ ap (remaining h.version)
        (timer_out o (less_rules d) kind ∙ ap (with_refusal o) same ∙ sym (timer_out o (more_rules d) kind))
        ∙ sym (ap (λ (o : Option Rule). left o (more_rules d)) more)

    at : (d : HostStep tcp_shape) → Alike d
    at (Makes m) =
        let place = place_of b m.lport m.rport in
        by_levels (Makes m) (Builds m) place (less_refused (Makes m) (Builds m) place (judges_repeats j) refl (λ v f. refl)) refl
        (λ repeats is. builds_levels h.version is repeats clock m)
    at (Does x) =
        let place = place_of b x.lport x.rport in
        let event = Recovers x.change in
        by_levels (Does x) event place (less_refused (Does x) event place (judges_repeats j) refl (λ v f. refl)) refl
        (λ repeats is. recovers_levels h.version repeats clock x.change)
    at (TimerLine line x) =
        let timer = timer_of x.expired in
        let place = place_of b x.lport x.rport in
        by_timers (TimerLine line x) timer place
        (less_refused (TimerLine line x) (Expires timer) place (judges_repeats h.congestion) refl
        (expires_same (judges_repeats j) (judges_repeats h.congestion) clock timer)) refl
    at (SendLine line number wire) = ap (remaining h.version)
    at (Gets line copied wire) = ap (remaining h.version)
    at (Hears line wire) = ap (remaining h.version)
    at (TakeStep line how) = ap (remaining h.version)
    at (DropStep line) = ap (remaining h.version)
    at (Answers line) = ap (remaining h.version)

pub remaining_both : (v : Version) (xs ys : List (Rule × Bool)) → remaining v (xs ++ ys) ≡ remaining v xs ++ remaining v ys
remaining_both v [] ys = refl
remaining_both v (r ∷ xs) ys = by (says_sender v && is_old_data r.0) (remaining_both v xs ys)
  where
    by : (old : Bool) → remaining v (xs ++ ys) ≡ remaining v xs ++ remaining v ys
        → (if old then remaining v (xs ++ ys) else r ∷ remaining v (xs ++ ys))
        ≡ (if old then remaining v xs else r ∷ remaining v xs) ++ remaining v ys
    by true rest = rest
    by false rest = ap (λ (zs : List (Rule × Bool)). r ∷ zs) rest
