-- What an endpoint owes is done in time, or it comes into a state that ends this, or the witness ends.
use Rattle.std.proofs.Common.{◌≡◌, ℕ, zero, suc, ◌+◌, ◌<◌, ◌≤◌, ◌⊎◌, inl, inr, Bool, true, false, List, [], ◌∷◌, length, Option, Some, None, refl, ap, sym}
use Rattle.std.proofs.Common.{subst, ◌∙◌, arith}
use Rattle.std.proofs.Math.Nat.{eq-or-lt_of_le, zero-add}
use Rattle.std.specs.List.{AllByRecursion}
use Rattle.std.specs.Prelude.{◌||◌, slice_get}
use Rattle.std.specs.Option.{option_map, option_map_or}
use Rattle.std.proofs.lemmas.Option.{none-some, same_Some, slice_get-map}
use Rattle.case_forms.specs.States.{is_closed}
use Rattle.case_forms.specs.declared.calls.Host.{Host}
use Rattle.case_forms.specs.declared.calls.Host.TheVariants.{Zero, One}
use Rattle.case_forms.specs.declared.steps.Witness.{Witness}
use Rattle.case_forms.specs.Versions.{says_sender}
use Rattle.case_forms.specs.declared.trace.Header.{Header}
use Rattle.case_forms.specs.declared.trace.Trace.{Trace}
use Rattle.verdict.specs.Rules.{first_broken}
use Rattle.verdict.specs.declared.rule.Rule.TheVariants as rules
use Rattle.verdict.proofs.RuleLemmas.{none_all}
use Rattle.interval_order.specs.Orders.{last_moment}
use Rattle.interval_order.specs.Placed.{Placed}
use Rattle.spec_network.specs.Hosts.{Stamped, World}
use Rattle.spec_network.specs.Tables.{pick}
use Rattle.spec_tcp.specs.Machine.{tcp_shape}
use Rattle.spec_tcp.specs.declared.endpoint.Endpoint.{Endpoint}
use Rattle.spec_tcp.specs.declared.endpoint.EndpointId.{EndpointId}
use Rattle.spec_tcp_laws.specs.Consequences.{find}
use Rattle.spec_tcp_laws.proofs.Rules.{neither}
use Rattle.spec_tcp_laws.proofs.Runs.{Steady, later_step, steady_start, steady_step}
use Rattle.spec_cases.specs.Cases.{Known, first_known}
use Rattle.spec_duties.specs.Answering.{any_call, is_unanswered_late}
use Rattle.spec_duties.specs.End.{any_unsent, either, end_rules, is_brought_late, lates_at, lates_from, lates_of_all}
use Rattle.spec_duties.specs.End.{lates_of_host}
use Rattle.spec_duties.specs.Strict.{with_brought}
use Rattle.spec_duties.specs.Owed as owed
use Rattle.spec_duties.specs.Owed.{late_rules, lates_of, none_late, owed_after}
use Rattle.spec_duties.specs.Observations.{observe}
use Rattle.spec_duties.specs.Views.{unborn, view_of}
use Rattle.spec_duties.specs.Watching.{Duties, listener_closed, owed_by}
use Rattle.spec_duties.specs.declared.events.Event.{Event}
use Rattle.spec_duties.specs.declared.owed.Lates.{Lates}
use Rattle.spec_duties.specs.declared.owed.Owed.{Owed}
use Rattle.spec_duties.specs.declared.views.View.{View}
use Rattle.kept_duties.specs.Happens.{Happens, act_at, known_before, seen_before}
use Rattle.checker.specs.Seen.{move_of, moves}
use Rattle.kept_duties.specs.Soon.{BecomesBy, HappensBy, IsDoneUnless}
use Rattle.kept_duties.proofs.Excused.{but_acknowledge}
use Rattle.kept_duties.proofs.Judged.{IsSame, unbrought, without_last}
use Rattle.kept_duties.proofs.Labels.{builder_is}
use Rattle.kept_duties.proofs.Repeats.{goes_of, happens_from, happens_to, owes_of}
use Rattle.kept_duties.proofs.Runs.{Goes, Run, run_keeps, world_is}
use Rattle.kept_duties.proofs.Segments.{step_of_act, within}
use Rattle.kept_duties.proofs.Touched.{Owes, Touches, lates_plain, seen, there_after, touched, touches_or_not}

-- what an endpoint is to do: while what it owes is like this, and its state isn't one that ends it, it isn't late by this moment
pub record Wait (Inv : Owed → Type 0) (Kind : Event → (before after : View) → Type 0) (Is : View → Bool) (sel : Lates → Bool) (slack by : ℕ) : Type 0 where
  pub onward : (event : Event) (before after : View) (moment : ℕ) (listener : Option ℕ) (counts : Bool) (o : Owed) → Is before ≡ false → Inv o
      → Kind event before after ⊎ (Is after ≡ true) ⊎ Inv (owed_after event before after moment listener counts o)
  pub rules : (l : Lates) → AllByRecursion (λ r. r.1 ≡ false) (late_rules l) → sel l ≡ false
  pub either : (a b : Lates) → sel (either a b) ≡ (sel a || sel b)
  pub fine : (moment : ℕ) (v : View) (listener : Option ℕ) (o : Owed) → sel (lates_of slack moment v listener o) ≡ false → Is v ≡ false → Inv o
      → moment ≤ by

-- what is read of what an endpoint owes is as if a step did what `observe` shows: of its acknowledgment in versions 1 to 5,
-- of all else in each version
abbrev pub IsAsShown : Header → {X : Type 0} → (Owed → X) → Type 0
IsAsShown h get = (is like : Owed) → (says_sender h.version ≡ false → is ≡ like) → but_acknowledge is ≡ but_acknowledge like → get is ≡ get like

-- a duty that an endpoint has since a moment: `get`. It has this much time, and this kind of event ends it, or CLOSED
pub record Duty (get : Owed → Option ℕ) (extra : ℕ) (Kind : Event → (before after : View) → Type 0) (sel : Lates → Bool) : Type 0 where
  pub nothing : get owed.nothing ≡ None
  pub onward : (event : Event) (before after : View) (moment : ℕ) (listener : Option ℕ) (counts : Bool) (o : Owed) (since : ℕ) → get o ≡ Some since
      → Kind event before after ⊎ (is_closed after.state ≡ true) ⊎ (get (owed_after event before after moment listener counts o) ≡ Some since)
  pub back : (event : Event) (before after : View) (moment : ℕ) (listener : Option ℕ) (counts : Bool) (o : Owed) (since : ℕ)
      → get (owed_after event before after moment listener counts o) ≡ Some since → (since ≡ moment) ⊎ (get o ≡ Some since)
  pub rules : (l : Lates) → AllByRecursion (λ r. r.1 ≡ false) (late_rules l) → sel l ≡ false
  pub either : (a b : Lates) → sel (either a b) ≡ (sel a || sel b)
  pub fine : (slack moment : ℕ) (v : View) (listener : Option ℕ) (o : Owed) (since : ℕ) → sel (lates_of slack moment v listener o) ≡ false
      → is_closed v.state ≡ false → get o ≡ Some since → moment ≤ since + extra + slack

-- such a duty is something to do
pub wait_of : {get : Owed → Option ℕ} {extra : ℕ} {Kind : Event → (before after : View) → Type 0} {sel : Lates → Bool} → Duty get extra Kind sel
    → (slack since by : ℕ) → since + extra + slack ≤ by → Wait (λ o. get o ≡ Some since) Kind (λ v. is_closed v.state) sel slack by
wait_of duty slack since by low = record {
  onward = λ event before after moment listener counts o open' is. duty.onward event before after moment listener counts o since is;
  rules = duty.rules;
  either = duty.either;
  fine = λ moment v listener o none open' is. let at = duty.fine slack moment v listener o since none open' is in omega (arith, at, low);
}

-- the comparison at the end looks at each endpoint
module _ (sel : Lates → Bool) (joins : (a b : Lates) → sel (either a b) ≡ (sel a || sel b)) (h : Header) (slack moment : ℕ) (d : Duties) where
  sel_from : (host : Host) (place : ℕ) (so_far : Lates) (es : List Endpoint) → sel (lates_from h slack moment d host place so_far es) ≡ false
      → (sel so_far ≡ false) × ((i : ℕ) (e : Endpoint) → slice_get es i ≡ Some e → sel (lates_at h slack moment d host (place + i) e) ≡ false)
  sel_from host place so_far [] none = (none, λ i e at. absurd (none-some e at))
  sel_from host place so_far (x ∷ es) none =
      let rest = sel_from host (suc place) (either so_far (lates_at h slack moment d host place x)) es none in
      let both = neither (sel so_far) (sel (lates_at h slack moment d host place x)) (sym (joins so_far (lates_at h slack moment d host place x)) ∙ rest.0) in
      (both.0, at both.1 rest.1)
    where
      at : sel (lates_at h slack moment d host place x) ≡ false
          → ((i : ℕ) (e : Endpoint) → slice_get es i ≡ Some e → sel (lates_at h slack moment d host (suc place + i) e) ≡ false)
          → (i : ℕ) (e : Endpoint) → slice_get (x ∷ es) i ≡ Some e → sel (lates_at h slack moment d host (place + i) e) ≡ false
      at first rest zero e is =
          let here : place ≡ place + zero = omega arith in
          subst (λ (n : ℕ). sel (lates_at h slack moment d host n e) ≡ false) here
          (subst (λ (y : Endpoint). sel (lates_at h slack moment d host place y) ≡ false) (same_Some x e is) first)
      at first rest (suc i) e is =
          let there : suc place + i ≡ place + suc i = omega arith in
          subst (λ (n : ℕ). sel (lates_at h slack moment d host n e) ≡ false) there (rest i e is)

  pub sel_all : (w : World tcp_shape) → sel (lates_of_all h slack moment d w) ≡ false
      → (me : EndpointId) (e : Endpoint) → find w.hosts me ≡ Some e → sel (lates_at h slack moment d me.host me.number e) ≡ false
  sel_all w none me e = by me.host
    where
      by : (host : Host) → slice_get (pick w.hosts host).body.endpoints me.number ≡ Some e → sel (lates_at h slack moment d host me.number e) ≡ false
      by One is =
          let all = sel_from One 0 (lates_of_host h slack moment d w Zero (none_late false)) w.hosts.one.body.endpoints none in
          subst (λ (n : ℕ). sel (lates_at h slack moment d One n e) ≡ false) (zero-add me.number) (all.1 me.number e is)
      by Zero is =
          let all = sel_from One 0 (lates_of_host h slack moment d w Zero (none_late false)) w.hosts.one.body.endpoints none in
          let first = sel_from Zero 0 (none_late false) w.hosts.zero.body.endpoints all.0 in
          subst (λ (n : ℕ). sel (lates_at h slack moment d Zero n e) ≡ false) (zero-add me.number) (first.1 me.number e is)

pub nothing_first : (h : Header) (host : Host) (n : ℕ) → owed_by (first_known h).duties host n ≡ owed.nothing
nothing_first h Zero n = refl
nothing_first h One n = refl

-- the moments of acts don't fall
pub moments_rise : (t : Trace) (w : Witness) → Placed t.header t.lines (moves w.steps) → (i j : ℕ) (x y : Stamped tcp_shape)
    → act_at t w i ≡ Some x → act_at t w j ≡ Some y → i < j → x.moment ≤ y.moment
moments_rise t w placed i j x y a b less =
    let s = step_of_act t w i x a in
    let u = step_of_act t w j y b in
    let le = placed.rising i j (move_of s.0) (move_of u.0) (slice_get-map move_of w.steps i ∙ ap (option_map move_of) s.1)
    (slice_get-map move_of w.steps j ∙ ap (option_map move_of) u.1) less in
    let first = (builder_is t.header t.lines s.0 x s.2).1 in
    let second = (builder_is t.header t.lines u.0 y u.2).1 in
    subst (λ (m : ℕ). m ≤ y.moment) first (subst (λ (m : ℕ). s.0.moment ≤ m) second le)

module _ (t : Trace) (w : Witness) where
  -- something began at the moment of an act
  pub record Began (to since : ℕ) : Type 0 where
    pub place : ℕ
    pub act : Stamped tcp_shape
    pub low : place < to
    pub is : act_at t w place ≡ Some act
    pub time : act.moment ≡ since

  abbrev pub began_before : (j since : ℕ) → Began j since → Began (suc j) since
  began_before j since b = record { place = b.place; act = b.act; low = (let low = b.low in omega arith); is = b.is; time = b.time }

  abbrev pub began_now : (j : ℕ) (x : Stamped tcp_shape) → act_at t w j ≡ Some x → (since : ℕ) → since ≡ x.moment → Began (suc j) since
  began_now j x is since same = record { place = j; act = x; low = omega arith; is = is; time = sym same }

  -- so not after an act that is the last one
  pub began_low : Placed t.header t.lines (moves w.steps) → (i : ℕ) (x : Stamped tcp_shape) → act_at t w i ≡ Some x → (since : ℕ) → Began (suc i) since
      → since ≤ x.moment
  began_low placed i x is since b = let behind = b.low in by b (eq-or-lt_of_le (let le : b.place ≤ i = omega arith in le))
    where
      by : (b : Began (suc i) since) → (b.place ≡ i) ⊎ (b.place < i) → since ≤ x.moment
      by b (inl here) =
          let one : b.act ≡ x = same_Some b.act x (sym b.is ∙ ap (act_at t w) here ∙ is) in
          let same : since ≡ x.moment = sym b.time ∙ ap (λ (y : Stamped tcp_shape). y.moment) one in
          omega (arith, same)
      by b (inr less) = subst (λ (m : ℕ). m ≤ x.moment) b.time (moments_rise t w placed b.place i b.act x b.is is less)

module _ (t : Trace) (w : Witness) (slack : ℕ) (r : Run t.header slack (length w.steps) (act_at t w) (known_before t w))
    (placed : Placed t.header t.lines (moves w.steps)) where
  pub steady_at : (to : ℕ) → to ≤ length w.steps → Steady (known_before t w to).model.hosts
  steady_at to high =
      run_keeps t.header slack (length w.steps) (act_at t w) (known_before t w) r (λ j k. Steady k.model.hosts) (λ j k s. s) 0 to (omega arith) high
      (subst (λ (k : Known). Steady k.model.hosts) (sym r.start) (steady_start t.header))
      (λ j x low less is goes s. subst (λ (v : World tcp_shape). Steady v.hosts) (sym goes.model)
      (steady_step t.header x.moment (known_before t w j).model x.step s goes.permitted))

  -- ---- a duty began at the moment of an act

  module _ (me : EndpointId) (get : Owed → Option ℕ) (extra : ℕ) (Kind : Event → (before after : View) → Type 0) (sel : Lates → Bool)
      (duty : Duty get extra Kind sel) (reads : IsAsShown t.header get) where
    abbrev since_at : Known → Option ℕ
    since_at k = get (owed_by k.duties me.host me.number)

    began_at : (to : ℕ) → to ≤ length w.steps → (since : ℕ) → since_at (known_before t w to) ≡ Some since → Began t w to since
    began_at to high =
        run_keeps t.header slack (length w.steps) (act_at t w) (known_before t w) r (λ j k. (since : ℕ) → since_at k ≡ Some since → Began t w j since)
        (λ j k all since is. began_before t w j since (all since is)) 0 to (omega arith) high
        (λ since is. absurd (none-some since (sym (ap since_at r.start ∙ ap get (nothing_first t.header me.host me.number) ∙ duty.nothing) ∙ is)))
        (λ j x low less is goes all since now. next j x is goes all since now
        (touches_or_not t.header slack (known_before t w j) (known_before t w (suc j)) x me goes))
      where
        next : (j : ℕ) (x : Stamped tcp_shape) → act_at t w j ≡ Some x → Goes t.header slack (known_before t w j) (known_before t w (suc j)) x
            → ((since : ℕ) → since_at (known_before t w j) ≡ Some since → Began t w j since) → (since : ℕ)
            → since_at (known_before t w (suc j)) ≡ Some since
            → Touches t.header (known_before t w j) x me
            ⊎ ((owed_by (known_before t w (suc j)).duties me.host me.number ≡ owed_by (known_before t w j).duties me.host me.number)
            × ((event : Event) → (observe t.header x.moment (known_before t w j).model x.step).touched ≡ Some (touched (known_before t w j).model me event)
            → ⊥))
            → Began t w (suc j) since
        next j x is goes all since now (inr same) = began_before t w j since (all since (sym (ap get same.0) ∙ now))
        next j x is goes all since now (inl at) =
            let owes = owes_of t w slack r j x me at.event is at.shows in
            by (duty.back at.event (seen (known_before t w j).model me) (seen (known_before t w (suc j)).model me) x.moment owes.listener owes.counts
            (owed_by (known_before t w j).duties me.host me.number) since (sym (reads _ _ owes.after owes.rest) ∙ now))
          where
            by : (since ≡ x.moment) ⊎ (since_at (known_before t w j) ≡ Some since) → Began t w (suc j) since
            by (inl here) = began_now t w j x is since here
            by (inr old) = began_before t w j since (all since old)

    pub not_after : (i : ℕ) (x : Stamped tcp_shape) → act_at t w i ≡ Some x → (since : ℕ) → since_at (known_before t w (suc i)) ≡ Some since
        → since ≤ x.moment
    not_after i x is since now =
        began_low t w placed i x is since (began_at (suc i) (let low = within t w i x is in omega (arith, low)) since now)

  -- ---- from a step on

  -- the endpoint comes into such a state by an act that is in time, if it is one of the endpoint
  pub becomes : (me : EndpointId) (Is : View → Bool) (i by : ℕ) (j : ℕ) (y : Stamped tcp_shape) → i ≤ j
      → (i < j → Is (seen (known_before t w j).model me) ≡ false) → act_at t w j ≡ Some y
      → Is (seen (known_before t w (suc j)).model me) ≡ true
      → ((event : Event) → (observe t.header y.moment (known_before t w j).model y.step).touched ≡ Some (touched (known_before t w j).model me event)
      → y.moment ≤ by)
      → BecomesBy t w i by me Is
  becomes me Is i by j y behind before at after soon = record {
    later = j;
    behind = behind;
    before = λ less. ap (λ (v : World tcp_shape). Is (seen v me)) (sym (world_is t w j)) ∙ before less;
    after = ap (λ (v : World tcp_shape). Is (seen v me)) (sym (world_is t w (suc j))) ∙ after;
    soon = λ moment event a.
        let one : a.act ≡ y = same_Some a.act y (sym a.is ∙ at) in
        let time : y.moment ≡ moment = sym (ap (λ (z : Stamped tcp_shape). z.moment) one) ∙ a.time in
        subst (λ (m : ℕ). m ≤ by) time (soon event
        (subst (λ (z : Stamped tcp_shape). (observe t.header z.moment (known_before t w j).model z.step).touched
        ≡ Some (touched (known_before t w j).model me event))
        one (happens_to t w j moment me event a)));
  }

  module _ (me : EndpointId) (Inv : Owed → Type 0) (Kind : Event → (before after : View) → Type 0) (Is : View → Bool) (sel : Lates → Bool) (i by_then : ℕ)
      (wait : Wait Inv Kind Is sel slack by_then) (same : IsSame sel t.header slack)
      (reads : (is like : Owed) → (says_sender t.header.version ≡ false → is ≡ like) → but_acknowledge is ≡ but_acknowledge like → Inv like → Inv is) where
    -- what is still to be done
    record Still (k : Known) : Type 0 where
      owes : Inv (owed_by k.duties me.host me.number)
      open' : Is (seen k.model me) ≡ false
      there : (e : Endpoint) × (find k.model.hosts me ≡ Some e)

    abbrev Goes_on : Known → Type 0
    Goes_on k = HappensBy t w i by_then me Kind ⊎ BecomesBy t w i by_then me Is ⊎ Still k

    next : (j : ℕ) (y : Stamped tcp_shape) → suc i ≤ j → j < length w.steps → act_at t w j ≡ Some y
        → Goes t.header slack (known_before t w j) (known_before t w (suc j)) y → Goes_on (known_before t w j)
        → Goes_on (known_before t w (suc j))
    next j y behind less at goes (inl done) = inl done
    next j y behind less at goes (inr (inl closed)) = inr (inl closed)
    next j y behind less at goes (inr (inr still)) =
        by_step (touches_or_not t.header slack (known_before t w j) (known_before t w (suc j)) y me goes)
      where
        there : (e : Endpoint) × (find (known_before t w (suc j)).model.hosts me ≡ Some e)
        there =
            let f = later_step t.header y.moment (known_before t w j).model y.step
            (steady_at j (omega (arith, less))) goes.permitted me still.there.0 still.there.1 in
            (f.0, ap (λ (v : World tcp_shape). find v.hosts me) goes.model ∙ f.1)

        stays : Inv (owed_by (known_before t w (suc j)).duties me.host me.number)
            → ((event : Event) → (observe t.header y.moment (known_before t w j).model y.step).touched ≡ Some (touched (known_before t w j).model me event)
            → y.moment ≤ by_then)
            → Goes_on (known_before t w (suc j))
        stays now soon = test (Is (seen (known_before t w (suc j)).model me)) refl
          where
            test : (c : Bool) → Is (seen (known_before t w (suc j)).model me) ≡ c → Goes_on (known_before t w (suc j))
            test true closed = inr (inl (becomes me Is i by_then j y (omega (arith, behind)) (λ less. still.open') at closed soon))
            test false open' = inr (inr (record { owes = now; open' = open'; there = there }))

        by_step : Touches t.header (known_before t w j) y me
            ⊎ ((owed_by (known_before t w (suc j)).duties me.host me.number ≡ owed_by (known_before t w j).duties me.host me.number)
            × ((event : Event) → (observe t.header y.moment (known_before t w j).model y.step).touched ≡ Some (touched (known_before t w j).model me event)
            → ⊥))
            → Goes_on (known_before t w (suc j))
        by_step (inr same) = stays (subst Inv (sym same.0) still.owes) (λ event shows. absurd (same.1 event shows))
        by_step (inl touch) = ends (wait.onward touch.event before after' y.moment owes.listener owes.counts
            (owed_by (known_before t w j).duties me.host me.number) still.open' still.owes)
          where
            before : View
            before = seen (known_before t w j).model me

            after' : View
            after' = seen (known_before t w (suc j)).model me

            owes : Owes t.header slack (known_before t w j) (known_before t w (suc j)) y me touch.event
            owes = owes_of t w slack r j y me touch.event at touch.shows

            soon : y.moment ≤ by_then
            soon =
                wait.fine y.moment before owes.listener (owed_by (known_before t w j).duties me.host me.number)
                (lates_plain sel t.header slack (known_before t w j) (known_before t w (suc j)) y me touch.event owes same
                (wait.rules _ owes.lates)) still.open'
                still.owes

            ends : Kind touch.event before after' ⊎ (Is after' ≡ true)
                ⊎ Inv (owed_after touch.event before after' y.moment owes.listener owes.counts (owed_by (known_before t w j).duties me.host me.number))
                → Goes_on (known_before t w (suc j))
            ends (inl kind) = inl (record {
              later = j;
              moment = y.moment;
              event = touch.event;
              behind = omega (arith, behind);
              happens = happens_from t w j y me touch.event at touch.shows;
              kind =
                  subst (λ (v : World tcp_shape). Kind touch.event (seen_before t w j me) (seen v me)) (world_is t w (suc j))
                  (subst (λ (v : World tcp_shape). Kind touch.event (seen v me) after') (world_is t w j) kind);
              soon = soon;
            })
            ends (inr (inl closed)) = inr (inl (becomes me Is i by_then j y (omega (arith, behind)) (λ less. still.open') at closed (λ event shows. soon)))
            ends (inr (inr on)) = stays (reads _ _ owes.after owes.rest on) (λ event shows. soon)

    -- from a step at the endpoint on to the end
    pub from_step : (late : first_broken (end_rules t.header slack (last_moment (moves w.steps)) (known_before t w (length w.steps)).duties
        (known_before t w (length w.steps)).model) ≡ None) → (moment : ℕ) (event : Event) → Happens t w i moment me event
        → Is (seen (known_before t w (suc i)).model me) ≡ false → Inv (owed_by (known_before t w (suc i)).duties me.host me.number)
        → IsDoneUnless t w i by_then me Kind Is
    from_step late moment event a open' owes =
        at_end (run_keeps t.header slack (length w.steps) (act_at t w) (known_before t w) r (λ j k. Goes_on k) (λ j k p. p) (suc i) (length w.steps)
        (let low = within t w i a.act a.is in omega (arith, low)) (omega arith) (inr (inr (record { owes = owes; open' = open'; there = there }))) next)
      where
        there : (e : Endpoint) × (find (known_before t w (suc i)).model.hosts me ≡ Some e)
        there =
            let low = within t w i a.act a.is in
            let goes = goes_of t w slack r i a.act a.is in
            let e = there_after t.header a.act.moment (known_before t w i).model a.act.step me event (steady_at i (omega (arith, low))) goes.permitted
            (happens_to t w i moment me event a) in
            (e.0, ap (λ (v : World tcp_shape). find v.hosts me) goes.model ∙ e.1)

        at_end : Goes_on (known_before t w (length w.steps)) → IsDoneUnless t w i by_then me Kind Is
        at_end (inl done) = inl done
        at_end (inr (inl closed)) = inr (inl closed)
        at_end (inr (inr still)) =
            let last = last_moment (moves w.steps) in
            let k = known_before t w (length w.steps) in
            let e = still.there in
            let brought = any_unsent (is_brought_late slack last) k.duties.unsent in
            let all = lates_of_all t.header slack last k.duties k.model in
            let none = wait.rules _ (unbrought brought all
            (without_last (with_brought brought all)
            (rules.AnswerLate, any_call (is_unanswered_late t.header slack last k.model k.duties.waits) k.duties.waits.threads)
            (none_all (end_rules t.header slack last k.duties k.model) late).1.1)) in
            let here = sym (same last k.duties None me.host me.number (view_of e.0))
            ∙ sel_all sel wait.either t.header slack last k.duties k.model none me e.0 e.1 in
            let open' : Is (view_of e.0) ≡ false =
            sym (ap (λ (o : Option Endpoint). Is (option_map_or view_of o unborn)) e.1) ∙ still.open' in
            inr (inr (wait.fine last (view_of e.0) (listener_closed k.duties me.host (view_of e.0)) (owed_by k.duties me.host me.number) here open' still.owes))
