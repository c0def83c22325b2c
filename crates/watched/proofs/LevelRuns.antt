-- Duties at another level of congestion control: if less is judged, no more of their rules are broken, and the same is kept.
use Rattle.std.proofs.Common.{◌≡◌, ℕ, suc, ◌+◌, ◌≤◌, Bool, true, false, List, [], ◌∷◌, ◌++◌, Option, None, Some, map, refl, ap, sym, subst, ◌∙◌, arith}
use Rattle.std.specs.Prelude.{◌&&◌, not, if◌then◌else◌, is_some, nat_le, nat_lt}
use Rattle.std.specs.Option.{option_map}
use Rattle.std.proofs.lemmas.Bool.Decides.{nat_tests}
use Rattle.case_forms.specs.Versions.{says_sender}
use Rattle.case_forms.specs.declared.calls.Host.{Host}
use Rattle.case_forms.specs.declared.calls.Host.TheVariants.{Zero, One}
use Rattle.case_forms.specs.declared.timer.RecoveryChange.TheVariants.{Begins, IsUndone}
use Rattle.case_forms.specs.declared.timer.Timer.TheVariants.{Giveup, Msl2, Persist, Pto, Rto}
use Rattle.case_forms.specs.declared.trace.Header.{Header}
use Rattle.case_forms.specs.declared.version.Judged.{Judged}
use Rattle.case_forms.specs.declared.version.Judged.TheVariants as judged
use Rattle.verdict.specs.Rules.{first_broken}
use Rattle.verdict.specs.declared.rule.Rule.{Rule}
use Rattle.verdict.specs.declared.rule.Rule.TheVariants as rules
use Rattle.window_rules.specs.declared.control.Profile.{Profile}
use Rattle.spec_network.specs.HostSteps.{Lawful, after}
use Rattle.spec_network.specs.Hosts.{Stamped, Step, World}
use Rattle.spec_network.specs.Tables.{Both, on}
use Rattle.spec_tcp.specs.Machine.{tcp, tcp_shape}
use Rattle.spec_tcp.specs.Signals.{profile_of}
use Rattle.spec_tcp.specs.declared.endpoint.Endpoint.{Endpoint}
use Rattle.spec_tcp_laws.specs.Judging.{IsJudged, endpoint_by, extent, header_by, world_by, world_judged}
use Rattle.spec_tcp_laws.specs.Levels.{is_of_level, other_rules}
use Rattle.spec_tcp_laws.proofs.JudgedRuns.{judged_step}
use Rattle.spec_tcp_laws.proofs.JudgedWorlds.{after_kept, aim_same}
use Rattle.spec_tcp_laws.proofs.LevelLemmas.{step_alike}
use Rattle.duties.proofs.SlackLemmas.{AreFewer, fewer_none, fewer_shown}
use Rattle.spec_duties.specs.Answering.{Waits, any_call, is_answer_late, is_unanswered_late, waits_after}
use Rattle.spec_duties.specs.declared.answering.CallChange.{CallChange}
use Rattle.spec_cases.specs.Cases.{Dutiful, Known, flown, judged_rules, known_after, known_after_all, late_at_end, model_rules, noted_by}
use Rattle.spec_cases.specs.Cases.{shown, untrue_at, watch_rules}
use Rattle.spec_duties.specs.End.{any_unsent, either, first_waiting, is_brought_late, is_send_late, lates_at, lates_from, lates_of_all, lates_of_host, line_of}
use Rattle.spec_duties.specs.declared.events.Event.{Event}
use Rattle.spec_duties.specs.declared.events.Event.TheVariants.{Builds, Calls, Drops, Expires, Opens, Processes, Recovers, Sends}
use Rattle.spec_duties.specs.Owed.{late_rules, none_late, owed_after}
use Rattle.spec_duties.specs.Credits.{is_keep_alive, needs_credit}
use Rattle.spec_duties.specs.Strict.{is_spared, strict_after, with_brought}
use Rattle.spec_duties.specs.declared.strict.StrictOwed.{StrictOwed}
use Rattle.spec_duties.specs.declared.strict.Unsent.{Unsent}
use Rattle.spec_duties.specs.Resent.{is_repeating, is_resent, is_resent_beyond, judges_repeats, judges_windows}
use Rattle.spec_duties.specs.Observations.{observe, view_in}
use Rattle.spec_duties.specs.declared.observations.Observation.{Observation}
use Rattle.spec_duties.specs.declared.observations.Sampling.{Sampling}
use Rattle.spec_duties.specs.declared.observations.TouchedEndpoint.{TouchedEndpoint}
use Rattle.spec_duties.specs.declared.observations.Untruth.{Untruth}
use Rattle.spec_duties.specs.declared.observations.Untruth.TheVariants as untruth
use Rattle.spec_duties.specs.Sampling.{is_sample_due}
use Rattle.spec_duties.specs.Watching.{Duties, builds_mere_ack, built_after, built_by, counts_now, credits_after, duties_after, duty_rules}
use Rattle.spec_duties.specs.Watching.{answer_rules, sent_by, strict_by, strict_table_after, touched_rules, unsent_after, untrue_rules}
use Rattle.spec_duties.specs.declared.owed.Lates.{Lates}
use Rattle.spec_duties.specs.declared.owed.Owed.{Owed}
use Rattle.spec_duties.specs.declared.observations.BuiltChange.{BuiltChange}
use Rattle.spec_duties.specs.declared.observations.BuiltChange.TheVariants as built_change
use Rattle.spec_duties.specs.declared.tables.Built.{Built}
use Rattle.spec_duties.specs.declared.views.View.{View}
use Rattle.spec_flights.specs.Flights.{Flights, excused}
use Rattle.watched.specs.Levels.{CaseJudgedAlike, EndsBelow, known_judged, observed_with, remaining, touched_with, view_with}
use Rattle.watched.proofs.ExcuseLemmas.{ends_excused, excused_with}
use Rattle.watched.proofs.LevelFlights.{flown_same, model_alike, refused_less, remaining_both, repeats_less}
use Rattle.watched.proofs.LevelObservations.{shows_the_same, view_seen}
use Rattle.watched.proofs.UntrueLemmas.{untrue_judged}
use Rattle.watched.proofs.WaitLemmas.{any_same, same_by, waits_alike, waits_same}

-- ---- what is kept doesn't depend on the edge

owed_same : (event : Event) (a b : ℕ) (before after : View) (moment : ℕ) (closed : Option ℕ) (counts : Bool) (o : Owed)
    → owed_after event (view_with a before) (view_with b after) moment closed counts o ≡ owed_after event before after moment closed counts o
owed_same Opens a b before after moment closed counts o = refl
owed_same (Calls abort) a b before after moment closed counts o = refl
owed_same (Processes length rst) a b before after moment closed counts o = refl
owed_same (Drops asks unlimited) a b before after moment closed counts o = refl
owed_same (Builds m) a b before after moment closed counts o = refl
owed_same (Sends s) a b before after moment closed counts o = refl
owed_same (Expires Rto) a b before after moment closed counts o = refl
owed_same (Expires Persist) a b before after moment closed counts o = refl
owed_same (Expires Msl2) a b before after moment closed counts o = refl
owed_same (Expires Giveup) a b before after moment closed counts o = refl
owed_same (Expires Pto) a b before after moment closed counts o = refl
owed_same (Recovers Begins) a b before after moment closed counts o = refl
owed_same (Recovers IsUndone) a b before after moment closed counts o = refl

mere_same : (a b : ℕ) (after : View) (t : TouchedEndpoint) → builds_mere_ack (view_with b after) (touched_with a t) ≡ builds_mere_ack after t
mere_same a b after t = by t.event
  where
    at : Event → TouchedEndpoint
    at event = record t { event = event }

    by : (event : Event) → builds_mere_ack (view_with b after) (touched_with a (at event)) ≡ builds_mere_ack after (at event)
    by (Builds m) = refl
    by Opens = refl
    by (Calls abort) = refl
    by (Processes length rst) = refl
    by (Drops asks unlimited) = refl
    by (Sends s) = refl
    by (Expires timer) = refl
    by (Recovers change) = refl

built_same : (a b : ℕ) (after : View) (moment : ℕ) (o : Option TouchedEndpoint) (it : BuiltChange) (built : List (ℕ × Option Built))
    → built_after (view_with b after) moment (option_map (touched_with a) o) it built ≡ built_after after moment o it built
built_same a b after moment o built_change.Nothing built = refl
built_same a b after moment None (built_change.Builds number) built = refl
built_same a b after moment (Some t) (built_change.Builds number) built = rw (mere_same a b after t) refl
built_same a b after moment o (built_change.Sends number) built = refl

strict_same : (s : Sampling) (event : Event) (a b : ℕ) (before after : View) (moment : ℕ) (acknowledged : Option ℕ) (sent : Option Unsent) (o : StrictOwed)
    → strict_after s event (view_with a before) (view_with b after) moment acknowledged sent o
    ≡ strict_after s event before after moment acknowledged sent o
strict_same s Opens a b before after moment acknowledged sent o = refl
strict_same s (Calls abort) a b before after moment acknowledged sent o = refl
strict_same s (Processes length rst) a b before after moment acknowledged sent o = refl
strict_same s (Drops asks unlimited) a b before after moment acknowledged sent o = refl
strict_same s (Builds m) a b before after moment acknowledged sent o = refl
strict_same x (Sends s) a b before after moment acknowledged sent o = refl
strict_same s (Expires timer) a b before after moment acknowledged sent o = refl
strict_same s (Recovers change) a b before after moment acknowledged sent o = refl

spared_same : (event : Event) (a : ℕ) (before : View) → is_spared event (view_with a before) ≡ is_spared event before
spared_same (Builds m) a before = refl
spared_same Opens a before = refl
spared_same (Calls abort) a before = refl
spared_same (Processes length rst) a before = refl
spared_same (Drops asks unlimited) a before = refl
spared_same (Sends s) a before = refl
spared_same (Expires timer) a before = refl
spared_same (Recovers change) a before = refl

costs_same : (event : Event) (a b : ℕ) (before after : View) (moment : ℕ) (kept_alive : Option ℕ)
    → needs_credit event (view_with a before) (view_with b after) moment kept_alive ≡ needs_credit event before after moment kept_alive
costs_same (Builds m) a b before after moment kept_alive = refl
costs_same Opens a b before after moment kept_alive = refl
costs_same (Calls abort) a b before after moment kept_alive = refl
costs_same (Processes length rst) a b before after moment kept_alive = refl
costs_same (Drops asks unlimited) a b before after moment kept_alive = refl
costs_same (Sends s) a b before after moment kept_alive = refl
costs_same (Expires timer) a b before after moment kept_alive = refl
costs_same (Recovers change) a b before after moment kept_alive = refl

alive_same : (event : Event) (a b : ℕ) (before after : View) → is_keep_alive event (view_with a before) (view_with b after) ≡ is_keep_alive event before after
alive_same (Builds m) a b before after = refl
alive_same Opens a b before after = refl
alive_same (Calls abort) a b before after = refl
alive_same (Processes length rst) a b before after = refl
alive_same (Drops asks unlimited) a b before after = refl
alive_same (Sends s) a b before after = refl
alive_same (Expires timer) a b before after = refl
alive_same (Recovers change) a b before after = refl

unsent_same : (a b : ℕ) (after : View) (moment : ℕ) (d : Duties) (o : Option TouchedEndpoint) (it : BuiltChange)
    → unsent_after (view_with b after) moment d (option_map (touched_with a) o) it ≡ unsent_after after moment d o it
unsent_same a b after moment d o built_change.Nothing = refl
unsent_same a b after moment d None (built_change.Builds number) = refl
unsent_same a b after moment d (Some t) (built_change.Builds number) =
    rw (spared_same t.event a t.before, costs_same t.event a b t.before after moment _, alive_same t.event a b t.before after) refl
unsent_same a b after moment d o (built_change.Sends number) = refl

table_same : (a b : ℕ) (after : View) (moment : ℕ) (d : Duties) (sent : Option Unsent) (s : Sampling) (o : Option TouchedEndpoint)
    → on (option_map (touched_with a) o) d.strict (strict_table_after (view_with b after) moment d sent s)
    ≡ on o d.strict (strict_table_after after moment d sent s)
table_same a b after moment d sent s None = refl
table_same a b after moment d sent s (Some t) = rw (strict_same s t.event a b t.before after moment _ _ _) refl

credits_same : (a slack moment : ℕ) (d : Duties) (sent : Option Unsent) (earns : Bool) (o : Option TouchedEndpoint)
    → on (option_map (touched_with a) o) d.credits (credits_after slack moment d sent earns) ≡ on o d.credits (credits_after slack moment d sent earns)
credits_same a slack moment d sent earns None = refl
credits_same a slack moment d sent earns (Some t) = refl

duties_same : (strict : Bool) (slack a b : ℕ) (after : View) (moment : ℕ) (s : Observation) (d : Duties)
    → duties_after strict slack (view_with b after) moment (observed_with a s) d ≡ duties_after strict slack after moment s d
duties_same strict slack a b after moment s d =
    rw (built_same a b after moment s.touched s.built_change d.built) (rw (unsent_same a b after moment d s.touched s.built_change)
    (rw (table_same a b after moment d (sent_by d s.built_change) s.sampling s.touched)
    (rw (credits_same a slack moment d (sent_by d s.built_change) s.earns s.touched) (by s.touched))))
  where
    with : Option TouchedEndpoint → Observation
    with o = record s { touched = o }

    strict_now : Both (List (ℕ × StrictOwed))
    strict_now =
        if strict then on s.touched d.strict (strict_table_after after moment d (sent_by d s.built_change) s.sampling) else d.strict

    credits_now : Both (List ℕ)
    credits_now =
        if strict then on s.touched d.credits (credits_after slack moment d (sent_by d s.built_change) s.earns) else d.credits

    unsent_now : List (ℕ × Option Unsent)
    unsent_now = if strict then unsent_after after moment d s.touched s.built_change else d.unsent

    by : (o : Option TouchedEndpoint)
        → (let x : Duties =
        record (duties_after strict slack (view_with b after) moment (observed_with a (with o)) d) {
          built = built_after after moment s.touched s.built_change d.built;
          strict = strict_now;
          unsent = unsent_now;
          credits = credits_now;
        } in x)
        ≡ record (duties_after strict slack after moment (with o) d) {
          built = built_after after moment s.touched s.built_change d.built;
          strict = strict_now;
          unsent = unsent_now;
          credits = credits_now;
        }
    by None = refl
    by (Some t) =
        rw (owed_same t.event a b t.before after moment _ _ _) refl

-- ---- if less is judged, no more rules are broken

windows_less : (j k : Judged) → extent j ≤ extent k → judges_windows j ≡ true → judges_windows k ≡ true
windows_less j judged.Full le is = refl
windows_less judged.Full judged.Recovery le is = absurd (omega (arith, le))
windows_less judged.Recovery judged.Recovery le is = is
windows_less judged.NoControl judged.Recovery le is = absurd cc
windows_less judged.Full judged.NoControl le is = absurd (omega (arith, le))
windows_less judged.Recovery judged.NoControl le is = absurd (omega (arith, le))
windows_less judged.NoControl judged.NoControl le is = is

repeat_passes : (a b c d : Bool) → (a ≡ true → b ≡ true) → (b && c && d) ≡ false → (a && c && d) ≡ false
repeat_passes true true c d less e = e
repeat_passes true false c d less e = let is : false ≡ true = less refl in absurd cc
repeat_passes false b c d less e = refl

beyond_passes : (a b c d x y : Bool) → (a ≡ true → b ≡ true) → (x ≡ false → y ≡ false) → (b && c && d && x) ≡ false → (a && c && d && y) ≡ false
beyond_passes true true true true x y less lower e = lower e
beyond_passes true true true false x y less lower e = refl
beyond_passes true true false d x y less lower e = refl
beyond_passes true false c d x y less lower e = let is : false ≡ true = less refl in absurd cc
beyond_passes false b c d x y less lower e = refl

resent_less : (j k : Judged) (edge : ℕ) (event : Event) (v : View) (again : ℕ) → extent j ≤ extent k → is_resent k event v again ≡ false
    → is_resent j event (view_with edge v) again ≡ false
resent_less j k edge (Builds m) v again le e =
    repeat_passes (judges_repeats j) (judges_repeats k) (is_repeating v m) (nat_lt m.pos again) (repeats_less j k le) e
resent_less j k edge _ v again le e = refl

below : (low high n : ℕ) → low ≤ high → nat_lt low n ≡ false → nat_lt high n ≡ false
below low high n le e = grind (arith, nat_tests)

beyond_less : (j k : Judged) (edge : ℕ) (event : Event) (v : View) → extent j ≤ extent k → v.congestion_edge ≤ edge → is_resent_beyond k event v ≡ false
    → is_resent_beyond j event (view_with edge v) ≡ false
beyond_less j k edge (Builds m) v le higher e =
    beyond_passes (judges_windows j) (judges_windows k) (nat_lt 0 m.len) (nat_le (m.pos + m.len) v.snd_max) (nat_lt v.congestion_edge (m.pos + m.len))
    (nat_lt edge (m.pos + m.len)) (windows_less j k le) (below v.congestion_edge edge (m.pos + m.len) higher) e
beyond_less j k edge _ v le higher e = refl

-- a rule that only some versions judge
judged_by : (gate a b : Bool) → (a ≡ false → b ≡ false) → (gate && a) ≡ false → (gate && b) ≡ false
judged_by true a b less e = less e
judged_by false a b less e = refl

touched_fewer : (j : Judged) (h : Header) (slack moment : ℕ) (d : Duties) (counts : Bool) (untrue : Option Untruth) (sent : Option Unsent)
    (s : Sampling) (edge : ℕ) (change : CallChange) (o : Option TouchedEndpoint)
    → extent j ≤ extent h.congestion
    → EndsBelow edge o
    → AreFewer (on o (answer_rules slack moment d untrue change) (touched_rules h slack moment d counts untrue sent s))
    (on (option_map (touched_with edge) o) (answer_rules slack moment d untrue change)
    (touched_rules (header_by j h) slack moment d counts untrue sent s))
touched_fewer j h slack moment d counts untrue sent s edge change None le higher =
    fewer_shown untrue ((rules.AnswerLate, is_answer_late slack moment d.waits change) ∷ [])
    ((rules.AnswerLate, is_answer_late slack moment d.waits change) ∷ []) (λ e. e, tt)
touched_fewer j h slack moment d counts untrue sent s edge change (Some t) le higher =
    let due : Rule × Bool = (rules.SampleDue, is_sample_due s (strict_by d t.host t.place).timed) in (
      λ e. e,
      (
        λ e. e,
        (
          λ e. e,
          (
            λ e. e,
            (
              λ e. e,
              (
                λ e. e,
                (
                  judged_by (not (says_sender h.version)) _ _ (resent_less j h.congestion edge t.event t.before _ le),
                  (
                    judged_by (not (says_sender h.version)) _ _ (beyond_less j h.congestion edge t.event t.before le higher),
                    (λ e. e, fewer_shown untrue (due ∷ []) (due ∷ []) (λ e. e, tt)),
                  ),
                ),
              ),
            ),
          ),
        ),
      ),
    )

rules_fewer : (j : Judged) (h : Header) (moment : ℕ) (d : Duties) (edge : ℕ) (untrue : Option Untruth) (s : Observation)
    (slack : Option ℕ)
    → extent j ≤ extent h.congestion → EndsBelow edge s.touched
    → first_broken (on slack (untrue_rules untrue) (λ slack. duty_rules h slack moment d untrue s)) ≡ None
    → first_broken (on slack (untrue_rules untrue) (λ slack. duty_rules (header_by j h) slack moment d untrue (observed_with edge s))) ≡ None
rules_fewer j h moment d edge untrue s None le higher e = e
rules_fewer j h moment d edge untrue s (Some slack) le higher e =
    fewer_none (duty_rules h slack moment d untrue s) (duty_rules (header_by j h) slack moment d untrue (observed_with edge s)) (
      λ e. e,
      (
        λ e. e,
        (
          λ e. e,
          (
            λ e. e,
            touched_fewer j h slack moment d (counts_now (built_by d s.built_change)) untrue
                (sent_by d s.built_change) s.sampling edge s.call_change s.touched le higher,
          ),
        ),
      ),
    ) e

-- ---- a step of a case

-- what duties see of it
shown_with : (j : Judged) (h : Header) (moment : ℕ) (k : Known) (step : Step tcp_shape) (edge : ℕ)
    → observe (header_by j h) moment (world_judged j h k.model) step ≡ observed_with edge (observe h moment k.model step)
    → shown (header_by j h) moment (known_judged j h k) step ≡ observed_with edge (shown h moment k step)
shown_with j h moment k step edge same =
    ap (λ (s : Observation). excused (header_by j h) k.flights s) same ∙ excused_with h k.flights edge (observe h moment k.model step)

watch_passes : (j : Judged) (h : Header) (moment : ℕ) (k : Known) (step : Step tcp_shape) → extent j ≤ extent h.congestion → IsJudged h k.model
    → first_broken (watch_rules h moment k step) ≡ None → first_broken (watch_rules (header_by j h) moment (known_judged j h k) step) ≡ None
watch_passes j h moment k step le is e =
    let seen = shows_the_same j h moment k.model step le is in
    ap (λ (o : Option Untruth). first_broken (judged_rules (header_by j h) moment k.duties o (shown (header_by j h) moment (known_judged j h k) step)))
    (untrue_judged j h moment k step seen.0 seen.1)
    ∙ ap (λ (s : Observation). first_broken (judged_rules (header_by j h) moment k.duties (untrue_at h moment k step) s))
    (shown_with j h moment k step seen.0 seen.1)
    ∙ rules_fewer j h moment k.duties seen.0 (untrue_at h moment k step) (shown h moment k step) h.slack le
    (ends_excused h k.flights seen.0 (observe h moment k.model step) seen.2) e

-- of the other rules, it breaks the same
others_both : (xs ys : List (Rule × Bool)) → other_rules (xs ++ ys) ≡ other_rules xs ++ other_rules ys
others_both [] ys = refl
others_both ((r, b) ∷ xs) ys = by (is_of_level r) (others_both xs ys)
  where
    by : (own : Bool) → other_rules (xs ++ ys) ≡ other_rules xs ++ other_rules ys
        → (if own then other_rules (xs ++ ys) else (r, b) ∷ other_rules (xs ++ ys))
        ≡ (if own then other_rules xs else (r, b) ∷ other_rules xs) ++ other_rules ys
    by true rest = rest
    by false rest = ap (λ (zs : List (Rule × Bool)). (r, b) ∷ zs) rest

duties_alike : (j : Judged) (h : Header) (moment : ℕ) (d : Duties) (edge : ℕ) (untrue : Option Untruth) (s : Observation)
    → other_rules (judged_rules (header_by j h) moment d untrue (observed_with edge s)) ≡ other_rules (judged_rules h moment d untrue s)
duties_alike j h moment d edge untrue s = by h.slack s.touched
  where
    with : Option TouchedEndpoint → Observation
    with o = record s { touched = o }

    by : (slack : Option ℕ) (o : Option TouchedEndpoint)
        → other_rules (on slack (untrue_rules untrue) (λ slack. duty_rules (header_by j h) slack moment d untrue (observed_with edge (with o))))
        ≡ other_rules (on slack (untrue_rules untrue) (λ slack. duty_rules h slack moment d untrue (with o)))
    by None o = refl
    by (Some slack) None = refl
    by (Some slack) (Some t) = shown untrue
      where
        shown : (untrue : Option Untruth)
            → other_rules (duty_rules (header_by j h) slack moment d untrue (observed_with edge (with (Some t))))
            ≡ other_rules (duty_rules h slack moment d untrue (with (Some t)))
        shown None = refl
        shown (Some untruth.Blocks) = refl
        shown (Some untruth.Echo) = refl
        shown (Some untruth.Clock) = refl

pub case_alike : (j : Judged) (h : Header) → CaseJudgedAlike j h
case_alike j h moment k step le is =
    let seen = shows_the_same j h moment k.model step le is in
    ap (remaining h.version)
    (others_both (model_rules (header_by j h) moment (known_judged j h k) step) (watch_rules (header_by j h) moment (known_judged j h k) step))
    ∙ remaining_both h.version (other_rules (model_rules (header_by j h) moment (known_judged j h k) step))
    (other_rules (watch_rules (header_by j h) moment (known_judged j h k) step))
    ∙ ap (λ (xs : List (Rule × Bool)). xs ++ remaining h.version (other_rules (watch_rules (header_by j h) moment (known_judged j h k) step)))
    (model_alike j h moment k step le is (step_alike (profile_of (header_by j h)) j h moment k.model step))
    ∙ ap (λ (xs : List (Rule × Bool)). remaining h.version (other_rules (model_rules h moment k step)) ++ remaining h.version xs)
    (ap (λ (o : Option Untruth). other_rules (judged_rules (header_by j h) moment k.duties o (shown (header_by j h) moment (known_judged j h k) step)))
    (untrue_judged j h moment k step seen.0 seen.1)
    ∙ ap (λ (s : Observation). other_rules (judged_rules (header_by j h) moment k.duties (untrue_at h moment k step) s))
    (shown_with j h moment k step seen.0 seen.1)
    ∙ duties_alike j h moment k.duties seen.0 (untrue_at h moment k step) (shown h moment k step))
    ∙ sym (remaining_both h.version (other_rules (model_rules h moment k step)) (other_rules (watch_rules h moment k step)))
    ∙ sym (ap (remaining h.version) (others_both (model_rules h moment k step) (watch_rules h moment k step)))

noted_same : (j : Judged) (h : Header) (moment : ℕ) (w : World tcp_shape) (edge : ℕ) (s : Observation) (d : Duties)
    → noted_by (header_by j h) moment (world_judged j h w) (observed_with edge s) d ≡ noted_by h moment w s d
noted_same j h moment w edge s d =
    let seen = view_seen (profile_of (header_by j h)) w edge s.touched in
    ap (λ (v : View). on h.slack d (λ slack. with (duties_after (says_sender h.version) slack v moment (observed_with edge s) d) was)) seen.1
    ∙ by seen.0 h.slack
  where
    with : Duties → Waits → Duties
    with d x = record d { waits = if says_sender h.version then x else d.waits }

    was : Waits
    was = waits_after (world_judged j h w) moment (option_map (touched_with edge) s.touched) s.call_change s.socket_change d.waits

    is : Waits
    is = waits_after w moment s.touched s.call_change s.socket_change d.waits

    waits : was ≡ is
    waits =
        waits_same (world_judged j h w) w (same_by (profile_of (header_by j h)) w) moment (option_map (touched_with edge) s.touched) s.call_change
        s.socket_change d.waits
        ∙ waits_alike w moment edge s.touched s.call_change s.socket_change d.waits

    by : (b : ℕ) (slack : Option ℕ)
        → on slack d (λ slack. with (duties_after (says_sender h.version) slack (view_with b (view_in w s.touched)) moment (observed_with edge s) d) was)
        ≡ on slack d (λ slack. with (duties_after (says_sender h.version) slack (view_in w s.touched) moment s d) is)
    by b None = refl
    by b (Some slack) =
        ap (λ (x : Duties). with x was) (duties_same (says_sender h.version) slack edge b (view_in w s.touched) moment s d)
        ∙ ap (λ (x : Waits). with (duties_after (says_sender h.version) slack (view_in w s.touched) moment s d) x) waits

known_kept : (j : Judged) (h : Header) (moment : ℕ) (k : Known) (step : Step tcp_shape) → extent j ≤ extent h.congestion → IsJudged h k.model
    → known_after (header_by j h) moment (known_judged j h k) step ≡ known_judged j h (known_after h moment k step)
known_kept j h moment k step le is =
    let seen = shows_the_same j h moment k.model step le is in
    let world = after_kept j h moment k.model step in
    ap (λ (s : Observation). known (after (tcp (header_by j h)) moment (world_judged j h k.model) step) s
    (shown (header_by j h) moment (known_judged j h k) step)) seen.1
    ∙ ap (λ (w : World tcp_shape). known w (observed_with seen.0 (observe h moment k.model step)) (shown (header_by j h) moment (known_judged j h k) step))
    world
    ∙ ap (λ (fs : Flights). triple fs
    (noted_by (header_by j h) moment (world_judged j h now) (shown (header_by j h) moment (known_judged j h k) step) k.duties))
    (flown_same j h moment now seen.0 (observe h moment k.model step) k.flights)
    ∙ ap (triple (flown h moment now (observe h moment k.model step) k.flights)) (
    ap (λ (s : Observation). noted_by (header_by j h) moment (world_judged j h now) s k.duties) (shown_with j h moment k step seen.0 seen.1)
    ∙ noted_same j h moment now seen.0 (shown h moment k step) k.duties)
  where
    now : World tcp_shape
    now = after (tcp h) moment k.model step

    triple : Flights → Duties → Known
    triple fs d = record { model = world_judged j h now; flights = fs; duties = d }

    known : World tcp_shape → (s eyes : Observation) → Known
    known w s eyes = record {
      model = w;
      flights = flown (header_by j h) moment w s k.flights;
      duties = noted_by (header_by j h) moment w eyes k.duties;
    }

-- ---- a run, and its end

pub dutiful_by : (j : Judged) (h : Header) (k : Known) (xs : List (Stamped tcp_shape)) → extent j ≤ extent h.congestion → IsJudged h k.model
    → Lawful (tcp h) k.model xs
    → Dutiful h k xs → Dutiful (header_by j h) (known_judged j h k) xs
dutiful_by j h k [] le is may kept = tt
dutiful_by j h k (x ∷ xs) le is may kept = (
  record { duties = watch_passes j h x.moment k x.step le is kept.0.duties; flights = refused_less j h x.moment k x.step le is kept.0.flights },
  subst (λ (n : Known). Dutiful (header_by j h) n xs) (sym (known_kept j h x.moment k x.step le is))
      (dutiful_by j h (known_after h x.moment k x.step) xs le (judged_step h x.moment k.model x.step is may.0) may.1 kept.1),
)

pub known_by : (j : Judged) (h : Header) (k : Known) (xs : List (Stamped tcp_shape)) → extent j ≤ extent h.congestion → IsJudged h k.model
    → Lawful (tcp h) k.model xs
    → known_after_all (header_by j h) (known_judged j h k) xs ≡ known_judged j h (known_after_all h k xs)
known_by j h k [] le is may = refl
known_by j h k (x ∷ xs) le is may =
    ap (λ (n : Known). known_after_all (header_by j h) n xs) (known_kept j h x.moment k x.step le is)
    ∙ known_by j h (known_after h x.moment k x.step) xs le (judged_step h x.moment k.model x.step is may.0) may.1

lates_same : (h : Header) (p : Profile) (slack moment : ℕ) (d : Duties) (host : Host) (place : ℕ) (so_far : Lates) (es : List Endpoint)
    → lates_from h slack moment d host place so_far (map (endpoint_by p) es) ≡ lates_from h slack moment d host place so_far es
lates_same h p slack moment d host place so_far [] = refl
lates_same h p slack moment d host place so_far (e ∷ es) =
    lates_same h p slack moment d host (suc place) (either so_far (lates_at h slack moment d host place e)) es

all_same : (h : Header) (p : Profile) (slack moment : ℕ) (d : Duties) (w : World tcp_shape) → lates_of_all h slack moment d (world_by p w)
    ≡ lates_of_all h slack moment d w
all_same h p slack moment d w =
    lates_same h p slack moment d One 0 (lates_of_host h slack moment d (world_by p w) Zero (none_late false)) w.hosts.one.body.endpoints
    ∙ ap (λ (so_far : Lates). lates_of_host h slack moment d w One so_far)
    (lates_same h p slack moment d Zero 0 (none_late false) w.hosts.zero.body.endpoints)

pub end_by : (j : Judged) (h : Header) (moment : ℕ) (k : Known) → late_at_end (header_by j h) moment (known_judged j h k) ≡ late_at_end h moment k
end_by j h moment k = by h.slack
  where
    with : ℕ → Lates → Bool → Option (ℕ × Rule)
    with slack l late =
        option_map (λ rule. (line_of (first_waiting slack moment k.duties.inbox) rule, rule))
        (first_broken ((rules.ProcessLate, is_some (first_waiting slack moment k.duties.inbox))
        ∷ (rules.SendLate, any_unsent (is_send_late slack moment) k.duties.unsent)
        ∷ late_rules (with_brought (any_unsent (is_brought_late slack moment) k.duties.unsent) l) ++ (rules.AnswerLate, late) ∷ []))

    late : Header → ℕ → World tcp_shape → Bool
    late h slack w = any_call (is_unanswered_late h slack moment w k.duties.waits) k.duties.waits.threads

    by : (o : Option ℕ)
        → on o None (λ slack. with slack (lates_of_all h slack moment k.duties (world_judged j h k.model))
        (late (header_by j h) slack (world_judged j h k.model)))
        ≡ on o None (λ slack. with slack (lates_of_all h slack moment k.duties k.model) (late h slack k.model))
    by None = refl
    by (Some slack) =
        ap (λ (l : Lates). with slack l (late (header_by j h) slack (world_judged j h k.model)))
        (all_same h (profile_of (header_by j h)) slack moment k.duties k.model)
        ∙ ap (with slack (lates_of_all h slack moment k.duties k.model))
        (any_same (world_judged j h k.model) k.model (same_by (profile_of (header_by j h)) k.model) (header_by j h) h
        (aim_same (profile_of (header_by j h)) j h k.model.hosts) slack moment k.duties.waits k.duties.waits.threads)
