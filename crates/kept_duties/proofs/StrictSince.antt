-- What an endpoint owes by a stricter duty of version 6 is done in time, or it is CLOSED, or the witness ends.
use Rattle.std.proofs.Common.{◌≡◌, ℕ, suc, ◌+◌, ◌<◌, ◌≤◌, ◌⊎◌, inl, inr, Bool, true, false, length, Option, Some, None, refl, ap, sym, subst, ◌∙◌, arith}
use Rattle.std.specs.Prelude.{◌||◌, if◌then◌else◌}
use Rattle.std.specs.List.{AllByRecursion}
use Rattle.std.specs.Option.{option_map_or}
use Rattle.std.proofs.lemmas.Option.{none-some}
use Rattle.case_forms.specs.States.{is_closed}
use Rattle.case_forms.specs.Versions.{says_sender}
use Rattle.case_forms.specs.declared.calls.Host.{Host}
use Rattle.case_forms.specs.declared.calls.Host.TheVariants.{Zero, One}
use Rattle.case_forms.specs.declared.steps.Witness.{Witness}
use Rattle.case_forms.specs.declared.trace.Header.{Header}
use Rattle.case_forms.specs.declared.trace.Trace.{Trace}
use Rattle.verdict.proofs.RuleLemmas.{none_all}
use Rattle.verdict.specs.Rules.{first_broken}
use Rattle.verdict.specs.declared.rule.Rule.TheVariants as rules
use Rattle.interval_order.specs.Orders.{last_moment}
use Rattle.interval_order.specs.Placed.{Placed}
use Rattle.spec_network.specs.Hosts.{Stamped, World}
use Rattle.spec_tcp.specs.Machine.{tcp_shape}
use Rattle.spec_tcp.specs.declared.endpoint.Endpoint.{Endpoint}
use Rattle.spec_tcp.specs.declared.endpoint.EndpointId.{EndpointId}
use Rattle.spec_tcp_laws.specs.Consequences.{find}
use Rattle.spec_tcp_laws.proofs.Runs.{later_step}
use Rattle.spec_cases.specs.Cases.{Known, first_known}
use Rattle.spec_duties.specs.Answering.{any_call, is_unanswered_late}
use Rattle.spec_duties.specs.End.{any_unsent, either, end_rules, is_brought_late, lates_of_all}
use Rattle.spec_duties.specs.Observations.{observe}
use Rattle.spec_duties.specs.Owed.{late_rules, lates_of, owed_after}
use Rattle.spec_duties.specs.Strict.{nothing_strict, strict_after, strict_lates, with_brought}
use Rattle.spec_duties.specs.Views.{unborn, view_of}
use Rattle.spec_duties.specs.Watching.{listener_closed, owed_by, sent_by, strict_by}
use Rattle.spec_duties.specs.declared.events.Event.{Event}
use Rattle.spec_duties.specs.declared.observations.Sampling.{Sampling}
use Rattle.spec_duties.specs.declared.owed.Lates.{Lates}
use Rattle.spec_duties.specs.declared.owed.Owed.{Owed}
use Rattle.spec_duties.specs.declared.strict.StrictOwed.{StrictOwed}
use Rattle.spec_duties.specs.declared.strict.Unsent.{Unsent}
use Rattle.spec_duties.specs.declared.views.View.{View}
use Rattle.checker.specs.Seen.{moves}
use Rattle.kept_duties.specs.Happens.{Happens, act_at, known_before, seen_before}
use Rattle.kept_duties.specs.Soon.{BecomesBy, HappensBy, IsDoneBy, IsDoneUnless}
use Rattle.kept_duties.proofs.Excused.{AsSeen, but_acknowledge}
use Rattle.kept_duties.proofs.Judged.{unbrought, without_last}
use Rattle.kept_duties.proofs.Repeats.{goes_of, happens_from, happens_to, owes_of}
use Rattle.kept_duties.proofs.Runs.{Goes, Run, run_keeps, world_is}
use Rattle.kept_duties.proofs.Segments.{within}
use Rattle.kept_duties.proofs.Since.{Began, becomes, began_before, began_low, began_now, sel_all, steady_at}
use Rattle.kept_duties.proofs.Stricter.{lates_compared, lates_strictly, strict_kept, strict_touched}
use Rattle.kept_duties.proofs.Touched.{Owes, Touches, seen, there_after, touched, touches_or_not}

-- what an endpoint is to do: while what it owes is like this, and its state isn't one that ends it, it isn't late by this moment
pub record StrictWait (Inv : Owed → StrictOwed → Type 0) (Kind : Event → (before after : View) → Type 0) (Is : View → Bool) (sel : Lates → Bool)
    (grain slack by : ℕ) : Type 0 where
  pub onward : (s : Sampling) (event as_seen : Event) → AsSeen event as_seen → (before after : View) (moment : ℕ) (listener : Option ℕ) (counts : Bool)
      (acknowledged : Option ℕ) (sent : Option Unsent) (o : Owed) (q : StrictOwed) → Is before ≡ false → Inv o q
      → Kind event before after ⊎ (Is after ≡ true)
      ⊎ Inv (owed_after event before after moment listener counts o) (strict_after s as_seen before after moment acknowledged sent q)
  pub rules : (l : Lates) → AllByRecursion (λ r. r.1 ≡ false) (late_rules l) → sel l ≡ false
  pub either : (a b : Lates) → sel (either a b) ≡ (sel a || sel b)
  pub fine : (moment : ℕ) (late : Bool) (v : View) (listener : Option ℕ) (o : Owed) (q : StrictOwed)
      → sel (with_brought late (strict_lates grain slack moment v listener o q)) ≡ false → Is v ≡ false → Inv o q → moment ≤ by
  -- of what it owes by the plain duties, nothing is read of acknowledgments
  pub reads : (is like : Owed) (q : StrictOwed) → but_acknowledge is ≡ but_acknowledge like → Inv like q → Inv is q

-- a duty that an endpoint has since a moment: `get`. It has this much time, and this kind of event ends it, or CLOSED
pub record StrictDuty (get : StrictOwed → Option ℕ) (extra : ℕ) (Kind : Event → (before after : View) → Type 0) (sel : Lates → Bool) : Type 0 where
  pub nothing : get nothing_strict ≡ None
  pub onward : (s : Sampling) (event as_seen : Event) → AsSeen event as_seen → (before after : View) (moment : ℕ) (acknowledged : Option ℕ)
      (sent : Option Unsent) (o : StrictOwed) (since : ℕ) → get o ≡ Some since
      → Kind event before after ⊎ (get (strict_after s as_seen before after moment acknowledged sent o) ≡ Some since)
  pub back : (s : Sampling) (as_seen : Event) (before after : View) (moment : ℕ) (acknowledged : Option ℕ) (sent : Option Unsent) (o : StrictOwed)
      (since : ℕ) → get (strict_after s as_seen before after moment acknowledged sent o) ≡ Some since → (since ≡ moment) ⊎ (get o ≡ Some since)
  pub rules : (l : Lates) → AllByRecursion (λ r. r.1 ≡ false) (late_rules l) → sel l ≡ false
  pub either : (a b : Lates) → sel (either a b) ≡ (sel a || sel b)
  pub fine : (grain slack moment : ℕ) (late : Bool) (v : View) (listener : Option ℕ) (o : Owed) (s : StrictOwed) (since : ℕ)
      → sel (with_brought late (strict_lates grain slack moment v listener o s)) ≡ false → is_closed v.state ≡ false → get s ≡ Some since
      → moment ≤ since + extra + slack

-- such a duty is something to do
strict_wait_of : {get : StrictOwed → Option ℕ} {extra : ℕ} {Kind : Event → (before after : View) → Type 0} {sel : Lates → Bool}
    → StrictDuty get extra Kind sel → (grain slack since by : ℕ) → since + extra + slack ≤ by
    → StrictWait (λ o q. get q ≡ Some since) Kind (λ v. is_closed v.state) sel grain slack by
strict_wait_of {get} {extra} {Kind} {sel} duty grain slack since by low = record {
  onward = λ s event as_seen like before after moment listener counts acknowledged sent o q open' is.
      on (duty.onward s event as_seen like before after moment acknowledged sent q since is);
  rules = duty.rules;
  either = duty.either;
  fine = λ moment late v listener o q none open' is.
      let at = duty.fine grain slack moment late v listener o q since none open' is in omega (arith, at, low);
  reads = λ is like q same owes. owes;
}
  where
    on : {event : Event} {before after : View} {next : StrictOwed} → Kind event before after ⊎ (get next ≡ Some since)
        → Kind event before after ⊎ (is_closed after.state ≡ true) ⊎ (get next ≡ Some since)
    on (inl kind) = inl kind
    on (inr still) = inr (inr still)

pub strict_first : (h : Header) (host : Host) (n : ℕ) → strict_by (first_known h).duties host n ≡ nothing_strict
strict_first h Zero n = refl
strict_first h One n = refl

module _ (t : Trace) (w : Witness) (slack : ℕ) (r : Run t.header slack (length w.steps) (act_at t w) (known_before t w))
    (placed : Placed t.header t.lines (moves w.steps)) (six : says_sender t.header.version ≡ true) where
  -- the endpoint's part before a step
  abbrev pub strict_at : ℕ → EndpointId → StrictOwed
  strict_at j me = strict_by (known_before t w j).duties me.host me.number

  -- what is late at the end isn't late of an endpoint
  pub end_strictly : (sel : Lates → Bool) → ((a b : Lates) → sel (either a b) ≡ (sel a || sel b))
      → ((l : Lates) → AllByRecursion (λ r. r.1 ≡ false) (late_rules l) → sel l ≡ false)
      → first_broken (end_rules t.header slack (last_moment (moves w.steps)) (known_before t w (length w.steps)).duties
      (known_before t w (length w.steps)).model) ≡ None
      → (me : EndpointId) (e : Endpoint) → find (known_before t w (length w.steps)).model.hosts me ≡ Some e
      → sel (lates_strictly t.header slack (last_moment (moves w.steps)) (known_before t w (length w.steps)) me None) ≡ false
  end_strictly sel joins reads late me e there =
      let last = last_moment (moves w.steps) in
      let k = known_before t w (length w.steps) in
      let brought = any_unsent (is_brought_late slack last) k.duties.unsent in
      let all = lates_of_all t.header slack last k.duties k.model in
      let none = reads _ (unbrought brought all
      (without_last (with_brought brought all)
      (rules.AnswerLate, any_call (is_unanswered_late t.header slack last k.model k.duties.waits) k.duties.waits.threads)
      (none_all (end_rules t.header slack last k.duties k.model) late).1.1)) in
      let here = sel_all sel joins t.header slack last k.duties k.model none me e there in
      let seen_so : view_of e ≡ seen k.model me = sym (ap (λ (o : Option Endpoint). option_map_or view_of o unborn) there) in
      subst (λ (v : View). sel (with_brought false (strict_lates t.header.grain slack last v (listener_closed k.duties me.host v)
      (owed_by k.duties me.host me.number) (strict_by k.duties me.host me.number))) ≡ false) seen_so
      (sym (ap (λ (b : Bool). sel (if b then with_brought false (strict_lates t.header.grain slack last (view_of e)
      (listener_closed k.duties me.host (view_of e)) (owed_by k.duties me.host me.number) (strict_by k.duties me.host me.number))
      else lates_of slack last (view_of e) (listener_closed k.duties me.host (view_of e)) (owed_by k.duties me.host me.number))) six) ∙ here)

  module _ (me : EndpointId) (Inv : Owed → StrictOwed → Type 0) (Kind : Event → (before after : View) → Type 0) (Is : View → Bool) (sel : Lates → Bool)
      (i by_then : ℕ) (wait : StrictWait Inv Kind Is sel t.header.grain slack by_then) where
    -- what is still to be done
    record Still (k : Known) : Type 0 where
      owes : Inv (owed_by k.duties me.host me.number) (strict_by k.duties me.host me.number)
      open' : Is (seen k.model me) ≡ false
      there : (e : Endpoint) × (find k.model.hosts me ≡ Some e)

    abbrev Goes_on : Known → Type 0
    Goes_on k = HappensBy t w i by_then me Kind ⊎ BecomesBy t w i by_then me Is ⊎ Still k

    next : (j : ℕ) (y : Stamped tcp_shape) → suc i ≤ j → j < length w.steps → act_at t w j ≡ Some y
        → Goes t.header slack (known_before t w j) (known_before t w (suc j)) y → Goes_on (known_before t w j) → Goes_on (known_before t w (suc j))
    next j y behind less at goes (inl done) = inl done
    next j y behind less at goes (inr (inl closed)) = inr (inl closed)
    next j y behind less at goes (inr (inr still)) =
        by_step (touches_or_not t.header slack (known_before t w j) (known_before t w (suc j)) y me goes)
      where
        there : (e : Endpoint) × (find (known_before t w (suc j)).model.hosts me ≡ Some e)
        there =
            let f = later_step t.header y.moment (known_before t w j).model y.step
            (steady_at t w slack r placed j (omega (arith, less))) goes.permitted me still.there.0 still.there.1 in
            (f.0, ap (λ (v : World tcp_shape). find v.hosts me) goes.model ∙ f.1)

        stays : Inv (owed_by (known_before t w (suc j)).duties me.host me.number) (strict_at (suc j) me)
            → ((event : Event) → (observe t.header y.moment (known_before t w j).model y.step).touched ≡ Some (touched (known_before t w j).model me event)
            → y.moment ≤ by_then)
            → Goes_on (known_before t w (suc j))
        stays now soon = test (Is (seen (known_before t w (suc j)).model me)) refl
          where
            test : (c : Bool) → Is (seen (known_before t w (suc j)).model me) ≡ c → Goes_on (known_before t w (suc j))
            test true closed =
                inr (inl (becomes t w slack r placed me Is i by_then j y (omega (arith, behind)) (λ less. still.open') at closed soon))
            test false open' = inr (inr (record { owes = now; open' = open'; there = there }))

        by_step : Touches t.header (known_before t w j) y me
            ⊎ ((owed_by (known_before t w (suc j)).duties me.host me.number ≡ owed_by (known_before t w j).duties me.host me.number)
            × ((event : Event) → (observe t.header y.moment (known_before t w j).model y.step).touched
            ≡ Some (touched (known_before t w j).model me event) → ⊥))
            → Goes_on (known_before t w (suc j))
        by_step (inr same) =
            stays (subst (λ (o : Owed). Inv o (strict_at (suc j) me)) (sym same.0)
            (subst (Inv (owed_by (known_before t w j).duties me.host me.number))
            (sym (strict_kept t.header slack (known_before t w j) (known_before t w (suc j)) y me goes six same.1)) still.owes))
            (λ event shows. absurd (same.1 event shows))
        by_step (inl touch) =
            ends (wait.onward (observe t.header y.moment (known_before t w j).model y.step).sampling touch.event (goes.sees.judge touch.event)
            (goes.sees.alike touch.event) before after' y.moment owes.listener owes.counts
            (owed_by (known_before t w j).duties me.host me.number).acknowledged sent (owed_by (known_before t w j).duties me.host me.number)
            (strict_at j me) still.open' still.owes)
          where
            before : View
            before = seen (known_before t w j).model me

            after' : View
            after' = seen (known_before t w (suc j)).model me

            sent : Option Unsent
            sent = sent_by (known_before t w j).duties (observe t.header y.moment (known_before t w j).model y.step).built_change

            owes : Owes t.header slack (known_before t w j) (known_before t w (suc j)) y me touch.event
            owes = owes_of t w slack r j y me touch.event at touch.shows

            soon : y.moment ≤ by_then
            soon =
                wait.fine y.moment _ before (listener_closed (known_before t w j).duties me.host before)
                (owed_by (known_before t w j).duties me.host me.number) (strict_at j me)
                (wait.rules _ (lates_compared t.header slack (known_before t w j) (known_before t w (suc j)) y me goes six touch.event touch.shows))
                still.open' still.owes

            ends : Kind touch.event before after' ⊎ (Is after' ≡ true)
                ⊎ Inv (owed_after touch.event before after' y.moment owes.listener owes.counts (owed_by (known_before t w j).duties me.host me.number))
                (strict_after (observe t.header y.moment (known_before t w j).model y.step).sampling (goes.sees.judge touch.event) before after'
                y.moment (owed_by (known_before t w j).duties me.host me.number).acknowledged sent (strict_at j me))
                → Goes_on (known_before t w (suc j))
            ends (inl kind) = inl (record {
              later = j;
              moment = y.moment;
              event = touch.event;
              behind = omega (arith, behind);
              happens = happens_from t w j y me touch.event at touch.shows;
              kind =
                  subst (λ (v : World tcp_shape). Kind touch.event (seen_before t w j me) (seen v me)) (world_is t w (suc j))
                  (subst (λ (v : World tcp_shape). Kind touch.event (seen v me) after') (world_is t w j) kind);
              soon = soon;
            })
            ends (inr (inl closed)) =
                inr (inl (becomes t w slack r placed me Is i by_then j y (omega (arith, behind)) (λ less. still.open') at closed (λ event shows. soon)))
            ends (inr (inr on')) =
                stays (wait.reads _ _ (strict_at (suc j) me) owes.rest
                (subst (Inv (owed_after touch.event before after' y.moment owes.listener owes.counts (owed_by (known_before t w j).duties me.host me.number)))
                (sym (strict_touched t.header slack (known_before t w j) (known_before t w (suc j)) y me goes six touch.event touch.shows)) on'))
                (λ event shows. soon)

    -- from a step at the endpoint on to the end
    pub from_step_strictly : first_broken (end_rules t.header slack (last_moment (moves w.steps)) (known_before t w (length w.steps)).duties
        (known_before t w (length w.steps)).model) ≡ None → (moment : ℕ) (event : Event) → Happens t w i moment me event
        → Is (seen (known_before t w (suc i)).model me) ≡ false
        → Inv (owed_by (known_before t w (suc i)).duties me.host me.number) (strict_at (suc i) me) → IsDoneUnless t w i by_then me Kind Is
    from_step_strictly late moment event a open' owes =
        at_end (run_keeps t.header slack (length w.steps) (act_at t w) (known_before t w) r (λ j k. Goes_on k) (λ j k p. p) (suc i) (length w.steps)
        (let below = within t w i a.act a.is in omega (arith, below)) (omega arith) (inr (inr (record { owes = owes; open' = open'; there = there }))) next)
      where
        there : (e : Endpoint) × (find (known_before t w (suc i)).model.hosts me ≡ Some e)
        there =
            let below = within t w i a.act a.is in
            let goes = goes_of t w slack r i a.act a.is in
            let e = there_after t.header a.act.moment (known_before t w i).model a.act.step me event (steady_at t w slack r placed i (omega (arith, below)))
            goes.permitted (happens_to t w i moment me event a) in
            (e.0, ap (λ (v : World tcp_shape). find v.hosts me) goes.model ∙ e.1)

        at_end : Goes_on (known_before t w (length w.steps)) → IsDoneUnless t w i by_then me Kind Is
        at_end (inl done) = inl done
        at_end (inr (inl closed)) = inr (inl closed)
        at_end (inr (inr still)) =
            let last = last_moment (moves w.steps) in
            let k = known_before t w (length w.steps) in
            let none = end_strictly sel wait.either wait.rules late me still.there.0 still.there.1 in
            inr (inr (wait.fine last false (seen k.model me) (listener_closed k.duties me.host (seen k.model me))
            (owed_by k.duties me.host me.number) (strict_at (length w.steps) me) none still.open' still.owes))

  module _ (me : EndpointId) (get : StrictOwed → Option ℕ) (extra : ℕ) (Kind : Event → (before after : View) → Type 0) (sel : Lates → Bool)
      (duty : StrictDuty get extra Kind sel) where
    abbrev since_at : Known → Option ℕ
    since_at k = get (strict_by k.duties me.host me.number)

    began_at : (to : ℕ) → to ≤ length w.steps → (since : ℕ) → since_at (known_before t w to) ≡ Some since → Began t w to since
    began_at to high =
        run_keeps t.header slack (length w.steps) (act_at t w) (known_before t w) r (λ j k. (since : ℕ) → since_at k ≡ Some since → Began t w j since)
        (λ j k all since is. began_before t w j since (all since is)) 0 to (omega arith) high
        (λ since is. absurd (none-some since (sym (ap since_at r.start ∙ ap get (strict_first t.header me.host me.number) ∙ duty.nothing) ∙ is)))
        (λ j x low less is goes all since now. next j x is goes all since now
        (touches_or_not t.header slack (known_before t w j) (known_before t w (suc j)) x me goes))
      where
        next : (j : ℕ) (x : Stamped tcp_shape) → act_at t w j ≡ Some x → (goes : Goes t.header slack (known_before t w j) (known_before t w (suc j)) x)
            → ((since : ℕ) → since_at (known_before t w j) ≡ Some since → Began t w j since) → (since : ℕ)
            → since_at (known_before t w (suc j)) ≡ Some since
            → Touches t.header (known_before t w j) x me
            ⊎ ((owed_by (known_before t w (suc j)).duties me.host me.number ≡ owed_by (known_before t w j).duties me.host me.number)
            × ((event : Event) → (observe t.header x.moment (known_before t w j).model x.step).touched ≡ Some (touched (known_before t w j).model me event)
            → ⊥))
            → Began t w (suc j) since
        next j x is goes all since now (inr same) =
            began_before t w j since (all since (sym (ap get (strict_kept t.header slack (known_before t w j) (known_before t w (suc j)) x me goes six same.1))
            ∙ now))
        next j x is goes all since now (inl at) =
            by (duty.back (observe t.header x.moment (known_before t w j).model x.step).sampling (goes.sees.judge at.event)
            (seen (known_before t w j).model me) (seen (known_before t w (suc j)).model me) x.moment
            (owed_by (known_before t w j).duties me.host me.number).acknowledged
            (sent_by (known_before t w j).duties (observe t.header x.moment (known_before t w j).model x.step).built_change) (strict_at j me) since
            (sym (ap get (strict_touched t.header slack (known_before t w j) (known_before t w (suc j)) x me goes six at.event at.shows)) ∙ now))
          where
            by : (since ≡ x.moment) ⊎ (since_at (known_before t w j) ≡ Some since) → Began t w (suc j) since
            by (inl here) = began_now t w j x is since here
            by (inr old) = began_before t w j since (all since old)

    not_after : (i : ℕ) (x : Stamped tcp_shape) → act_at t w i ≡ Some x → (since : ℕ) → since_at (known_before t w (suc i)) ≡ Some since
        → since ≤ x.moment
    not_after i x is since now =
        began_low t w placed i x is since (began_at (suc i) (let low = within t w i x is in omega (arith, low)) since now)

    -- from the step at which it arises
    pub arises_strictly : first_broken (end_rules t.header slack (last_moment (moves w.steps)) (known_before t w (length w.steps)).duties
        (known_before t w (length w.steps)).model) ≡ None → (place moment : ℕ) (event : Event) → Happens t w place moment me event
        → ((s : Sampling) (as_seen : Event) → AsSeen event as_seen → (before after : View) (now : ℕ) (acknowledged : Option ℕ) (sent : Option Unsent)
        (o : StrictOwed) → before ≡ seen_before t w place me
        → (since : ℕ) × (get (strict_after s as_seen before after now acknowledged sent o) ≡ Some since))
        → IsDoneBy t w place (moment + extra + slack) me Kind
    arises_strictly late place moment event a begins =
        subst (λ (m : ℕ). IsDoneBy t w place (m + extra + slack) me Kind) a.time (test (is_closed (seen (known_before t w (suc place)).model me).state) refl)
      where
        goes : Goes t.header slack (known_before t w place) (known_before t w (suc place)) a.act
        goes = goes_of t w slack r place a.act a.is

        owes : (since : ℕ) × (since_at (known_before t w (suc place)) ≡ Some since)
        owes =
            let shows = happens_to t w place moment me event a in
            let p = begins (observe t.header a.act.moment (known_before t w place).model a.act.step).sampling (goes.sees.judge event)
            (goes.sees.alike event) (seen (known_before t w place).model me) (seen (known_before t w (suc place)).model me) a.act.moment
            (owed_by (known_before t w place).duties me.host me.number).acknowledged
            (sent_by (known_before t w place).duties (observe t.header a.act.moment (known_before t w place).model a.act.step).built_change)
            (strict_at place me) (ap (λ (v : World tcp_shape). seen v me) (world_is t w place)) in
            (p.0, ap get (strict_touched t.header slack (known_before t w place) (known_before t w (suc place)) a.act me goes six event shows) ∙ p.1)

        test : (c : Bool) → is_closed (seen (known_before t w (suc place)).model me).state ≡ c → IsDoneBy t w place (a.act.moment + extra + slack) me Kind
        test true closed =
            inr (inl (becomes t w slack r placed me (λ v. is_closed v.state) place (a.act.moment + extra + slack) place a.act (omega arith)
            (λ less. absurd (omega (arith, less))) a.is closed (λ event shows. omega arith)))
        test false open' =
            let old = not_after place a.act a.is owes.0 owes.1 in
            from_step_strictly me (λ o q. get q ≡ Some owes.0) Kind (λ v. is_closed v.state) sel place (a.act.moment + extra + slack)
            (strict_wait_of duty t.header.grain slack owes.0 (a.act.moment + extra + slack) (omega (arith, old))) late moment event a open' owes.1
