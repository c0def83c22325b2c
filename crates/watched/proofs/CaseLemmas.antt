-- A step of a case: the rules of the model and of duties, and the case after it.
use Rattle.std.proofs.Common.{◌≡◌, ℕ, suc, Bool, true, false, List, [], ◌++◌, Option, None, Some, Result, Ok, Err, refl, sym, ap, subst, ◌∙◌, inl}
use Rattle.std.proofs.Common.{inr, ◌⊎◌}
use Rattle.std.specs.Prelude.{OnOk, IfErr, if◌then◌else◌, not, is_some, ◌&&◌}
use Rattle.std.specs.Option.{option_map, option_map_or}
use Rattle.case_forms.specs.Versions.{says_sender}
use Rattle.case_forms.specs.TakenLines.{event_taken}
use Rattle.case_forms.specs.declared.calls.Answer.{Answer}
use Rattle.case_forms.specs.declared.calls.Call.{Call}
use Rattle.case_forms.specs.declared.named_line.Extras.{Extras}
use Rattle.case_forms.specs.declared.named_line.Extras.TheVariants.{Bare, One, Two}
use Rattle.case_forms.specs.declared.trace.Event.{Event}
use Rattle.case_forms.specs.declared.trace.Event.TheVariants.{CallBegin, CallEnd}
use Rattle.case_forms.specs.declared.trace.Line.{Line}
use Rattle.case_forms.specs.declared.trace.Header.{Header}
use Rattle.verdict.specs.declared.rule.Rule.{Rule}
use Rattle.verdict.specs.Rules.{first_broken}
use Rattle.verdict.proofs.RuleLemmas.{none_both, first_broken-append_none, first_broken-append_some}
use Rattle.spec_network.specs.HostRules.{step_rules}
use Rattle.spec_network.specs.HostSteps as network
use Rattle.spec_network.specs.Hosts.{HostStep, Step, World, Does, Expires, Makes, Sends, Gets, Hears, Takes, Drops, Answers, Begin, Finish, Effect, At}
use Rattle.spec_network.specs.Tables.{on}
use Rattle.spec_tcp.specs.Forgetting as forgetting
use Rattle.spec_tcp.specs.Machine.{tcp, tcp_shape}
use Rattle.spec_tcp.specs.Steps.{line_step}
use Rattle.spec_tcp_laws.proofs.Ascending.{rules_ascend}
use Rattle.spec_tcp_laws.proofs.ForgetWorlds.{step_rules-forget, after-forgets, makes_permitted}
use Rattle.endpoint_state.specs.Worlds.{Progress}
use Rattle.endpoint_state.specs.Worlds as worlds
use Rattle.endpoint_state.specs.declared.fault.StepFault.{StepFault}
use Rattle.endpoint_state.specs.declared.fault.StepFault.TheVariants.{Broken, OutOfMemory}
use Rattle.spec_step.specs.Asked as plain
use Rattle.spec_step.specs.Asked.{step_taking}
use Rattle.spec_step.specs.Faults.{IfBroken}
use Rattle.spec_duties.specs.Answering.{Waits, beginning, waits_after}
use Rattle.spec_duties.specs.declared.answering.CallChange.{CallChange}
use Rattle.spec_duties.specs.Observations.{observe, observe_turn, unseen, view_in}
use Rattle.spec_duties.specs.Watching.{Duties, duty_rules, duties_after}
use Rattle.duties.proofs.SlackLemmas.{not_judging, refused_unjudged, unasked}
use Rattle.spec_flights.specs.Flights.{Flights, excused, flights_after, refusal}
use Rattle.spec_cases.specs.Cases.{Known, after, asked_after, asked_rules, broken_by, forget, flown, case_rules, judged_rules}
use Rattle.spec_cases.specs.Cases.{known_after, model_rules, noted_by, refused_at, refused_by, shown, untrue_at, watch_rules, with_refusal}
use Rattle.spec_cases.specs.Cases.{with_waits}
use Rattle.spec_duties.specs.declared.answering.CallChange.TheVariants as call_change
use Rattle.spec_duties.specs.declared.observations.Observation.{Observation}
use Rattle.spec_duties.specs.declared.observations.Untruth.{Untruth}
use Rattle.spec_duties.specs.declared.views.View.{View}
use Rattle.watched.specs.Watched as watch
use Rattle.watched.specs.Watched.{IsPlain, case_of, is_bare, known_of, least_broken}
use Rattle.watched.proofs.ExcuseLemmas.{unexcused, view_excused}
use Rattle.watched.proofs.ForgetLemmas.{observe-forget, view_in-forget}
use Rattle.watched.proofs.RefusalLemmas.{not_refused, refused_among, refused_first}
use Rattle.watched.proofs.UntrueLemmas.{untrue-forget}
use Rattle.watched.proofs.WaitLemmas.{same_forget, waits_same}

abbrev model_after : Progress → ℕ → Step tcp_shape → Progress
model_after p moment step = worlds.after p moment step

-- what may be discarded isn't noted
pub noted-forget : (h : Header) (moment : ℕ) (w : World tcp_shape) (s : Observation) (d : Duties)
    → noted_by h moment (forgetting.forget w) s d ≡ noted_by h moment w s d
noted-forget h moment w s d =
    ap (λ v. on h.slack d (λ slack. with slack v (waits_after (forgetting.forget w) moment s.touched s.call_change s.socket_change d.waits)))
    (view_in-forget w s.touched)
    ∙ ap (λ (x : Waits). on h.slack d (λ slack. with slack (view_in w s.touched) x))
    (waits_same (forgetting.forget w) w (same_forget w) moment s.touched s.call_change s.socket_change d.waits)
  where
    with : (slack : ℕ) → View → Waits → Duties
    with slack v x =
        record (duties_after (says_sender h.version) slack v moment s d) { waits = if says_sender h.version then x else d.waits }

-- nor is it seen by what is kept of data in flight
flown-forget : (h : Header) (moment : ℕ) (w : World tcp_shape) (s : Observation) (fs : Flights)
    → flown h moment (forgetting.forget w) s fs ≡ flown h moment w s fs
flown-forget h moment w s fs = ap (λ v. flights_after h moment v s fs) (view_in-forget w s.touched)

-- what the code notes is what is kept
kept_is : (h : Header) (w : World tcp_shape) (fs : Flights) (d : Duties) (steps moment : ℕ) (step : Step tcp_shape)
    → case_of (record { header = h; world = forgetting.forget (network.after (tcp h) moment w step); steps = suc steps })
    (flown h moment (forgetting.forget (network.after (tcp h) moment w step)) (observe h moment w step) fs)
    (noted_by h moment (forgetting.forget (network.after (tcp h) moment w step)) (excused h fs (observe h moment w step)) d)
    ≡ after (record { header = h; world = record { model = w; flights = fs; duties = d }; steps = steps }) moment step
kept_is h w fs d steps moment step =
    ap (λ (gs : Flights). case_of now gs (noted_by h moment now.world (excused h fs (observe h moment w step)) d))
    (flown-forget h moment (network.after (tcp h) moment w step) (observe h moment w step) fs)
    ∙ ap (case_of now (flown h moment (network.after (tcp h) moment w step) (observe h moment w step) fs))
    (noted-forget h moment (network.after (tcp h) moment w step) (excused h fs (observe h moment w step)) d)
  where
    now : Progress
    now = record { header = h; world = forgetting.forget (network.after (tcp h) moment w step); steps = suc steps }

-- what may be discarded isn't read by a refusal
refused-forget : (h : Header) (moment : ℕ) (k : Known) (step : Step tcp_shape) → refused_by h moment (forget k) step ≡ refused_by h moment k step
refused-forget h moment k (Begin line t call) = refl
refused-forget h moment k (Finish line t answer) = refl
refused-forget h moment k (Effect t answer) = refl
refused-forget h moment k (At host d) = at d
  where
    seen : (d : HostStep tcp_shape)
        → refusal h moment k.flights (observe h moment (forgetting.forget k.model) (At host d))
        ≡ refusal h moment k.flights (observe h moment k.model (At host d))
    seen d = ap (λ (s : Observation). refusal h moment k.flights s) (observe-forget h moment k.model (At host d))

    at : (d : HostStep tcp_shape) → refused_at h moment (forget k) host d ≡ refused_at h moment k host d
    at (Makes m) = seen (Makes m)
    at (Does x) = seen (Does x)
    at (Expires line x) = seen (Expires line x)
    at (Sends line number wire) = refl
    at (Gets line copied wire) = refl
    at (Hears line wire) = refl
    at (Takes line how) = refl
    at (Drops line) = refl
    at (Answers line) = refl

-- the rules may be asked of what is kept
pub rules-forget : (h : Header) (moment : ℕ) (k : Known) (step : Step tcp_shape) → case_rules h moment (forget k) step ≡ case_rules h moment k step
rules-forget h moment k step =
    ap (λ (o : Option Rule). with_refusal o (step_rules (tcp h) moment (forgetting.forget k.model) step) ++ watch_rules h moment (forget k) step)
    (refused-forget h moment k step)
    ∙ ap (λ (rs : List (Rule × Bool)). with_refusal (refused_by h moment k step) rs ++ watch_rules h moment (forget k) step)
    (step_rules-forget h moment k.model step)
    ∙ ap (λ (o : Option Untruth). model_rules h moment k step ++ judged_rules h moment k.duties o (shown h moment (forget k) step))
    (untrue-forget h moment k step (observe-forget h moment k.model step))
    ∙ ap (λ (s : Observation). model_rules h moment k step ++ judged_rules h moment k.duties (untrue_at h moment k step) (excused h k.flights s))
    (observe-forget h moment k.model step)

-- if no rule is broken, nothing is refused, and the model permits the step
pub not_refused_by : (h : Header) (moment : ℕ) (k : Known) (step : Step tcp_shape) → first_broken (model_rules h moment k step) ≡ None
    → refused_by h moment k step ≡ None
not_refused_by h moment k step none =
    not_refused (refused_by h moment k step) (step_rules (tcp h) moment k.model step) (refused_among h moment k step) none

pub permitted_by : (h : Header) (moment : ℕ) (k : Known) (step : Step tcp_shape) → first_broken (model_rules h moment k step) ≡ None
    → first_broken (step_rules (tcp h) moment k.model step) ≡ None
permitted_by h moment k step none =
    subst (λ (o : Option Rule). first_broken (with_refusal o (step_rules (tcp h) moment k.model step)) ≡ None)
    (not_refused_by h moment k step none) none

pub fine_by : (h : Header) (moment : ℕ) (k : Known) (step : Step tcp_shape) → refused_by h moment k step ≡ None
    → first_broken (step_rules (tcp h) moment k.model step) ≡ None → first_broken (model_rules h moment k step) ≡ None
fine_by h moment k step none may =
    ap (λ (o : Option Rule). first_broken (with_refusal o (step_rules (tcp h) moment k.model step))) none ∙ may

-- and what is kept leads to what is kept
pub known-forgets : (h : Header) (moment : ℕ) (k : Known) (step : Step tcp_shape) → first_broken (case_rules h moment k step) ≡ None
    → forget (known_after h moment (forget k) step) ≡ forget (known_after h moment k step)
known-forgets h moment k step none =
    let permitted = permitted_by h moment k step (none_both (model_rules h moment k step) (watch_rules h moment k step) none).0 in
    let world = after-forgets h moment k.model step (makes_permitted h moment k.model step permitted) in
    let was = network.after (tcp h) moment (forget k).model step in
    let is = network.after (tcp h) moment k.model step in
    ap (λ (w : World tcp_shape). all w was (observe h moment (forget k).model step)) world
    ∙ ap (λ (s : Observation). all (forgetting.forget is) was s) (observe-forget h moment k.model step)
    ∙ ap (λ (gs : Flights). triple gs (noted_by h moment was eyes k.duties))
    (sym (flown-forget h moment was now k.flights)
    ∙ ap (λ (w : World tcp_shape). flown h moment w now k.flights) world
    ∙ flown-forget h moment is now k.flights)
    ∙ ap (triple (flown h moment is now k.flights)) (
    sym (noted-forget h moment was eyes k.duties)
    ∙ ap (λ (w : World tcp_shape). noted_by h moment w eyes k.duties) world
    ∙ noted-forget h moment is eyes k.duties)
  where
    now : Observation
    now = observe h moment k.model step

    -- what duties see
    eyes : Observation
    eyes = excused h k.flights now

    all : (kept was : World tcp_shape) → Observation → Known
    all w was s = record {
      model = w;
      flights = flown h moment was s k.flights;
      duties = noted_by h moment was (excused h k.flights s) k.duties;
    }

    triple : Flights → Duties → Known
    triple gs d = record { model = forgetting.forget (network.after (tcp h) moment k.model step); flights = gs; duties = d }

-- ---- a step that is judged

-- what a fault of duties says
second_breaks : (fault : StepFault) (xs ys : List (Rule × Bool)) (o : Option Rule) → first_broken xs ≡ None → o ≡ first_broken ys
    → IfBroken fault (λ rule. o ≡ Some rule) → IfBroken fault (λ rule. first_broken (xs ++ ys) ≡ Some rule)
second_breaks (Broken rule) xs ys o none is e = first_broken-append_none xs ys none ∙ (sym is ∙ e)
second_breaks OutOfMemory xs ys o none is e = tt

duty_breaks : {A : Type 0} (r : Result A StepFault) (xs ys : List (Rule × Bool)) (o : Option Rule) → first_broken xs ≡ None → o ≡ first_broken ys
    → IfErr r (λ fault. IfBroken fault (λ rule. o ≡ Some rule)) → IfErr r (λ fault. IfBroken fault (λ rule. first_broken (xs ++ ys) ≡ Some rule))
duty_breaks (Ok x) xs ys o none is e = tt
duty_breaks (Err fault) xs ys o none is e = second_breaks fault xs ys o none is e

duty_admits : {A : Type 0} (r : Result A StepFault) (xs ys : List (Rule × Bool)) (o : Option Rule) → first_broken xs ≡ None → o ≡ first_broken ys
    → OnOk r (o ≡ None) → OnOk r (first_broken (xs ++ ys) ≡ None)
duty_admits (Ok x) xs ys o none is e = first_broken-append_none xs ys none ∙ (sym is ∙ e)
duty_admits (Err fault) xs ys o none is e = tt

-- what was done, if the step isn't refused
pub done_is : {A : Type 0} (refusal : Option Rule) (done answered : Result A StepFault) (x : A) → answered ≡ watch.with_refusal refusal done
    → answered ≡ Ok x → (refusal ≡ None) × (done ≡ Ok x)
done_is None done answered x is ok = (refl, sym is ∙ ok)
done_is (Some rule) done answered x is ok = let clash : watch.with_refusal (Some rule) done ≡ Ok x = sym is ∙ ok in absurd cc

-- and what the model says of it
pub done_does : {A : Type 0} (refusal : Option Rule) (done answered : Result A StepFault) (x : A) → answered ≡ watch.with_refusal refusal done
    → answered ≡ Ok x → (T : Type 0) → OnOk done T → T
done_does refusal done answered x is ok T e = subst (λ (r : Result _ StepFault). OnOk r T) (done_is refusal done answered x is ok).1 e

-- a step of the model, and what was judged of it
module _ (p : Progress) (fs : Flights) (d : Duties) (moment : ℕ) (step : Step tcp_shape) where
  abbrev known : Known
  known = known_of p fs d

  abbrev model : List (Rule × Bool)
  model = step_rules (tcp p.header) moment p.world step

  abbrev seen : Observation
  seen = observe p.header moment p.world step

  -- what duties see of it
  abbrev told : Observation
  told = shown p.header moment known step

  -- the endpoint is the same
  pub told_view : (s t : Observation) (w : World tcp_shape) → s ≡ seen → t ≡ told → view_in w s.touched ≡ view_in w t.touched
  told_view s t w sees tells =
      ap (λ (s : Observation). view_in w s.touched) sees
      ∙ sym (view_excused p.header fs seen w) ∙ sym (ap (λ (s : Observation). view_in w s.touched) tells)

  -- what was judged: the rules of duties at what they watch of that step
  judged_later : (u : Progress) (untrue : Option Untruth) (s : Observation) → untrue ≡ untrue_at p.header moment known step
      → u ≡ model_after p moment step → s ≡ told
      → first_broken (judged_rules u.header moment d untrue s) ≡ first_broken (watch_rules p.header moment known step)
  judged_later u untrue s asks is sees =
      ap (λ (o : Option Untruth). first_broken (judged_rules u.header moment d o s)) asks
      ∙ (ap (λ (u : Progress). first_broken (judged_rules u.header moment d (untrue_at p.header moment known step) s)) is
      ∙ ap (λ (s : Observation). first_broken (judged_rules p.header moment d (untrue_at p.header moment known step) s)) sees)

  pub step_admits : {A : Type 0} (r : Result A StepFault) (u : Progress) (untrue : Option Untruth) (s : Observation) (refusal : Option Rule)
      → untrue ≡ untrue_at p.header moment known step → refusal ≡ refused_by p.header moment known step
      → refusal ≡ None → first_broken model ≡ None → u ≡ model_after p moment step → s ≡ told
      → OnOk r (first_broken (judged_rules u.header moment d untrue s) ≡ None) → OnOk r (broken_by (case_of p fs d) moment step ≡ None)
  step_admits r u untrue s refusal asks refused none may is sees e =
      duty_admits r (model_rules p.header moment known step) (watch_rules p.header moment known step)
      (first_broken (judged_rules u.header moment d untrue s)) (fine_by p.header moment known step (sym refused ∙ none) may)
      (judged_later u untrue s asks is sees) e

  pub step_breaks : {A : Type 0} (r : Result A StepFault) (u : Progress) (untrue : Option Untruth) (s : Observation) (refusal : Option Rule)
      → untrue ≡ untrue_at p.header moment known step → refusal ≡ refused_by p.header moment known step
      → refusal ≡ None → first_broken model ≡ None → u ≡ model_after p moment step → s ≡ told
      → IfErr r (λ fault. IfBroken fault (λ rule. first_broken (judged_rules u.header moment d untrue s) ≡ Some rule))
      → IfErr r (λ fault. IfBroken fault (λ rule. broken_by (case_of p fs d) moment step ≡ Some rule))
  step_breaks r u untrue s refusal asks refused none may is sees e =
      duty_breaks r (model_rules p.header moment known step) (watch_rules p.header moment known step)
      (first_broken (judged_rules u.header moment d untrue s)) (fine_by p.header moment known step (sym refused ∙ none) may)
      (judged_later u untrue s asks is sees) e

  -- the case after a step that was noted
  pub step_is : {A : Type 0} (r : Result A StepFault) (u : Progress) (s t : Observation) (gs : Flights) (e : Duties)
      → u ≡ model_after p moment step → s ≡ seen → t ≡ told → gs ≡ flown u.header moment u.world s fs
      → OnOk r (e ≡ noted_by u.header moment u.world t d) → OnOk r (case_of u gs e ≡ after (case_of p fs d) moment step)
  step_is (Err fault) u s t gs e is sees tells flies notes = tt
  step_is (Ok x) u s t gs e is sees tells flies notes =
      ap (λ (gs : Flights). case_of u gs e) flies
      ∙ ap (case_of u (flown u.header moment u.world s fs)) notes
      ∙ ap (λ (s : Observation). case_of u (flown u.header moment u.world s fs) (noted_by u.header moment u.world t d)) sees
      ∙ ap (λ (t : Observation). case_of u (flown u.header moment u.world seen fs) (noted_by u.header moment u.world t d)) tells
      ∙ ap (λ (u : Progress). case_of u (flown u.header moment u.world seen fs) (noted_by u.header moment u.world told d)) is
      ∙ kept_is p.header p.world fs d p.steps moment step

  first_is : (rule : Rule) → Some rule ≡ refused_by p.header moment known step
      → first_broken (model_rules p.header moment known step) ≡ least_broken (Some rule) (first_broken model)
  first_is rule refused =
      refused_first (refused_by p.header moment known step) 6 model (rules_ascend p.header moment p.world step) (refused_among p.header moment known step)
      ∙ ap (λ (o : Option Rule). least_broken o (first_broken model)) (sym refused)

  -- what a fault of the model says of the case, if what is kept of data in flight may refuse the step
  model_breaks : {A : Type 0} (refusal : Option Rule) (done : Result A StepFault) → refusal ≡ refused_by p.header moment known step
      → OnOk done (first_broken model ≡ None)
      → IfErr done (λ fault. IfBroken fault (λ rule. first_broken model ≡ Some rule))
      → IfErr (watch.with_refusal refusal done) (λ fault. IfBroken fault (λ rule. first_broken (model_rules p.header moment known step) ≡ Some rule))
  model_breaks None (Ok x) refused may breaks = tt
  model_breaks None (Err OutOfMemory) refused may breaks = tt
  model_breaks None (Err (Broken rule)) refused may breaks =
      ap (λ (o : Option Rule). first_broken (with_refusal o model)) (sym refused) ∙ breaks
  model_breaks (Some rule) (Ok x) refused may breaks = first_is rule refused ∙ ap (least_broken (Some rule)) may
  model_breaks (Some rule) (Err OutOfMemory) refused may breaks = tt
  model_breaks (Some rule) (Err (Broken other)) refused may breaks = first_is rule refused ∙ ap (least_broken (Some rule)) breaks

  pub model_refuses : {A : Type 0} (refusal : Option Rule) (done answered : Result A StepFault) (fault : StepFault)
      → refusal ≡ refused_by p.header moment known step
      → OnOk done (first_broken model ≡ None)
      → IfErr done (λ fault. IfBroken fault (λ rule. first_broken model ≡ Some rule))
      → answered ≡ watch.with_refusal refusal done → answered ≡ Err fault
      → IfBroken fault (λ rule. broken_by (case_of p fs d) moment step ≡ Some rule)
  model_refuses refusal done answered fault refused may breaks is err =
      whole fault
      (subst (λ (r : Result _ StepFault). IfErr r (λ fault. IfBroken fault (λ rule. first_broken (model_rules p.header moment known step) ≡ Some rule)))
      (sym is ∙ err) (model_breaks refusal done refused may breaks))
    where
      whole : (fault : StepFault) → IfBroken fault (λ rule. first_broken (model_rules p.header moment known step) ≡ Some rule)
          → IfBroken fault (λ rule. broken_by (case_of p fs d) moment step ≡ Some rule)
      whole OutOfMemory e = tt
      whole (Broken rule) e = first_broken-append_some (model_rules p.header moment known step) (watch_rules p.header moment known step) rule e

-- ---- in versions 1 to 5, without a slack or of a step that shows nothing

-- nothing is broken if nothing is seen
unseen_rules : (h : Header) (moment : ℕ) (d : Duties) → first_broken (judged_rules h moment d None unseen) ≡ None
unseen_rules h moment d = by h.slack
  where
    by : (o : Option ℕ) → first_broken (on o [] (λ slack. duty_rules h slack moment d None unseen)) ≡ None
    by None = refl
    by (Some slack) = refl

nothing_noted : (o : Option ℕ) (strict : Bool) (moment : ℕ) (w : World tcp_shape) (d : Duties)
    → on o d (λ slack. with_waits strict moment w unseen (duties_after strict slack (view_in w unseen.touched) moment unseen d)) ≡ d
nothing_noted None strict moment w d = refl
nothing_noted (Some slack) true moment w d = refl
nothing_noted (Some slack) false moment w d = refl

-- nothing is kept of data in flight before version 6
pub flown_before : (h : Header) (moment : ℕ) (w : World tcp_shape) (s : Observation) (fs : Flights) → says_sender h.version ≡ false
    → flown h moment w s fs ≡ fs
flown_before h moment w s fs old = rw (old) refl

-- duties judge nothing of it
abbrev NothingSeen : Header → Option (Step tcp_shape) → Type 0
NothingSeen h asked = (h.slack ≡ None) ⊎ ((moment : ℕ) (w : World tcp_shape) → option_map_or (observe h moment w) asked unseen ≡ unseen)

nothing_judged : (h : Header) (moment : ℕ) (w : World tcp_shape) (d : Duties) (step : Step tcp_shape) → NothingSeen h (Some step)
    → first_broken (judged_rules h moment d None (observe h moment w step)) ≡ None
nothing_judged h moment w d step (inl any) =
    ap (λ (o : Option ℕ). first_broken (on o [] (λ slack. duty_rules h slack moment d None (observe h moment w step)))) any
nothing_judged h moment w d step (inr sees) =
    ap (λ (s : Observation). first_broken (judged_rules h moment d None s)) (sees moment w) ∙ unseen_rules h moment d

nothing_kept : (h : Header) (moment : ℕ) (w now : World tcp_shape) (d : Duties) (step : Step tcp_shape) → NothingSeen h (Some step)
    → noted_by h moment now (observe h moment w step) d ≡ d
nothing_kept h moment w now d step (inl any) =
    ap (λ (o : Option ℕ). on o d (λ slack. with_waits (says_sender h.version) moment now (observe h moment w step)
    (duties_after (says_sender h.version) slack (view_in now (observe h moment w step).touched) moment (observe h moment w step) d))) any
nothing_kept h moment w now d step (inr sees) =
    ap (λ (s : Observation). noted_by h moment now s d) (sees moment w) ∙ nothing_noted h.slack (says_sender h.version) moment now d

first_broken-then_none : (xs ys : List (Rule × Bool)) → first_broken ys ≡ None → first_broken (xs ++ ys) ≡ first_broken xs
first_broken-then_none xs ys none = by (first_broken xs) refl
  where
    by : (o : Option Rule) → first_broken xs ≡ o → first_broken (xs ++ ys) ≡ first_broken xs
    by None is = first_broken-append_none xs ys is ∙ none ∙ sym is
    by (Some rule) is = first_broken-append_some xs ys rule is ∙ sym is

plain_rules : (p : Progress) (fs : Flights) (d : Duties) (moment : ℕ) (asked : Option (Step tcp_shape)) → IsPlain p.header asked
    → first_broken (asked_rules (case_of p fs d) moment asked) ≡ first_broken (plain.asked_rules p moment asked)
plain_rules p fs d moment None is = refl
plain_rules p fs d moment (Some step) is =
    let model = step_rules (tcp p.header) moment p.world step in
    ap (λ (o : Option Rule). first_broken (with_refusal o model ++ watch_rules p.header moment (known_of p fs d) step))
    (refused_unjudged p.header moment (known_of p fs d) step (not_judging p.header is.0))
    ∙ first_broken-then_none model (watch_rules p.header moment (known_of p fs d) step)
    (ap (λ (o : Option Untruth). first_broken (judged_rules p.header moment d o (shown p.header moment (known_of p fs d) step)))
    (unasked p.header moment (known_of p fs d) step is.0)
    ∙ ap (λ (s : Observation). first_broken (judged_rules p.header moment d None s))
    (unexcused p.header fs (observe p.header moment p.world step) is.0)
    ∙ nothing_judged p.header moment p.world d step is.1)

pub plain_line_admits : {A : Type 0} (r : Result A StepFault) (p : Progress) (fs : Flights) (d : Duties) (moment : ℕ) (asked : Option (Step tcp_shape))
    → IsPlain p.header asked
    → OnOk r (first_broken (plain.asked_rules p moment asked) ≡ None) → OnOk r (first_broken (asked_rules (case_of p fs d) moment asked) ≡ None)
plain_line_admits (Ok x) p fs d moment asked is e = plain_rules p fs d moment asked is ∙ e
plain_line_admits (Err fault) p fs d moment asked is e = tt

plain_fault : (fault : StepFault) (p : Progress) (fs : Flights) (d : Duties) (moment : ℕ) (asked : Option (Step tcp_shape)) → IsPlain p.header asked
    → IfBroken fault (λ rule. first_broken (plain.asked_rules p moment asked) ≡ Some rule)
    → IfBroken fault (λ rule. first_broken (asked_rules (case_of p fs d) moment asked) ≡ Some rule)
plain_fault (Broken rule) p fs d moment asked is e = plain_rules p fs d moment asked is ∙ e
plain_fault OutOfMemory p fs d moment asked is e = tt

pub plain_line_breaks : {A : Type 0} (r : Result A StepFault) (p : Progress) (fs : Flights) (d : Duties) (moment : ℕ) (asked : Option (Step tcp_shape))
    → IsPlain p.header asked
    → IfErr r (λ fault. IfBroken fault (λ rule. first_broken (plain.asked_rules p moment asked) ≡ Some rule))
    → IfErr r (λ fault. IfBroken fault (λ rule. first_broken (asked_rules (case_of p fs d) moment asked) ≡ Some rule))
plain_line_breaks (Ok x) p fs d moment asked is e = tt
plain_line_breaks (Err fault) p fs d moment asked is e = plain_fault fault p fs d moment asked is e

pub plain_line_is : {A : Type 0} (r : Result A StepFault) (p u : Progress) (fs : Flights) (d : Duties) (moment : ℕ) (asked : Option (Step tcp_shape))
    → IsPlain p.header asked
    → OnOk r (u ≡ plain.asked_after p moment asked) → OnOk r (case_of u fs d ≡ asked_after (case_of p fs d) moment asked)
plain_line_is (Err e) p u fs d moment asked plain is = tt
plain_line_is (Ok x) p u fs d moment None plain is = ap (λ (u : Progress). case_of u fs d) is
plain_line_is (Ok x) p u fs d moment (Some step) plain is =
    ap (λ (u : Progress). case_of u fs d) is
    ∙ ap (λ (gs : Flights). case_of now gs d)
    (sym (flown_before p.header moment (network.after (tcp p.header) moment p.world step) (observe p.header moment p.world step) fs plain.0))
    ∙ ap (case_of now (flown p.header moment (network.after (tcp p.header) moment p.world step) (observe p.header moment p.world step) fs))
    (sym (nothing_kept p.header moment p.world (network.after (tcp p.header) moment p.world step) d step plain.1))
    ∙ ap (λ (s : Observation). case_of now
    (flown p.header moment (network.after (tcp p.header) moment p.world step) (observe p.header moment p.world step) fs)
    (noted_by p.header moment (network.after (tcp p.header) moment p.world step) s d))
    (sym (unexcused p.header fs (observe p.header moment p.world step) plain.0))
  where
    now : Progress
    now = model_after p moment step

-- a step that takes no line, if nothing is kept or judged
pub bare_is_plain : (h : Header) (asked : Option (Step tcp_shape)) → is_bare h ≡ true → IsPlain h asked
bare_is_plain h asked bare = by h.slack (says_sender h.version) bare
  where
    by : (o : Option ℕ) (strict : Bool) → (not (is_some o) && not strict) ≡ true
        → (strict ≡ false) × ((o ≡ None) ⊎ ((moment : ℕ) (w : World tcp_shape) → option_map_or (observe h moment w) asked unseen ≡ unseen))
    by None false bare = (refl, inl refl)
    by None true bare = absurd cc
    by (Some slack) strict bare = absurd cc

-- the beginning of a call shows nothing in versions 1 to 5, nor does its end
turn_unseen : (h : Header) (change : CallChange) → says_sender h.version ≡ false → observe_turn h change ≡ unseen
turn_unseen h change old = rw (old) refl

pub begin_is_plain : (h : Header) (extras : Extras) (line : Line) (call : Call) → line.event ≡ CallBegin call → says_sender h.version ≡ false
    → IsPlain h (step_taking extras line)
begin_is_plain h extras line call is old =
    (old, subst (λ (event : Event). NothingSeen h (option_map line_step (event_taken line.number line.thread event extras))) (sym is) (by extras))
  where
    by : (extras : Extras) → NothingSeen h (option_map line_step (event_taken line.number line.thread (CallBegin call) extras))
    by Bare = inr (λ moment w. turn_unseen h (beginning line.thread call) old)
    by (One n) = inr (λ moment w. refl)
    by (Two m n) = inr (λ moment w. refl)

pub end_is_plain : (h : Header) (extras : Extras) (line : Line) (answer : Answer) → line.event ≡ CallEnd answer → says_sender h.version ≡ false
    → IsPlain h (step_taking extras line)
end_is_plain h extras line answer is old =
    (old, subst (λ (event : Event). NothingSeen h (option_map line_step (event_taken line.number line.thread event extras))) (sym is) (by extras))
  where
    by : (extras : Extras) → NothingSeen h (option_map line_step (event_taken line.number line.thread (CallEnd answer) extras))
    by Bare = inr (λ moment w. turn_unseen h (call_change.Ends line.thread) old)
    by (One n) = inr (λ moment w. refl)
    by (Two m n) = inr (λ moment w. refl)

pub any_is_plain : (h : Header) (asked : Option (Step tcp_shape)) → h.slack ≡ None → says_sender h.version ≡ false → IsPlain h asked
any_is_plain h asked any old = (old, inl any)
