-- What an endpoint owes by the stricter duties of version 6, step by step.
use Rattle.std.proofs.Common.{◌≡◌, ℕ, ◌⊎◌, inl, inr, Bool, true, false, List, Option, Some, None, refl, ap, sym, subst, ◌∙◌, cond}
use Rattle.std.proofs.Common.{nat_eq, arith}
use Rattle.std.specs.Prelude.{◌||◌, if◌then◌else◌, unwrap_or}
use Rattle.std.specs.List.{AllByRecursion}
use Rattle.std.specs.Map.{lookup}
use Rattle.std.proofs.lemmas.Bool.Decides.{nat_tests}
use Rattle.indexmap.specs.IndexMap.{insert_entry}
use Rattle.case_forms.specs.States.{is_closed}
use Rattle.case_forms.specs.Versions.{says_sender}
use Rattle.case_forms.specs.declared.calls.Host.{Host}
use Rattle.case_forms.specs.declared.calls.Host.TheVariants.{Zero, One}
use Rattle.case_forms.specs.declared.trace.Header.{Header}
use Rattle.spec_network.specs.HostSteps.{after}
use Rattle.spec_network.specs.Hosts.{Stamped, World}
use Rattle.spec_network.specs.Tables.{Both, on, pick, with_host}
use Rattle.spec_network.proofs.Entries.{lookup_insert}
use Rattle.spec_tcp.specs.Machine.{tcp, tcp_shape}
use Rattle.spec_tcp.specs.declared.endpoint.EndpointId.{EndpointId}
use Rattle.spec_cases.specs.Cases.{Known, untrue_at}
use Rattle.spec_duties.specs.Acknowledge.{acknowledge_due}
use Rattle.spec_duties.specs.Deadlines.{is_late}
use Rattle.spec_duties.specs.Observations.{observe, view_in}
use Rattle.spec_duties.specs.Owed.{late_rules, lates_of}
use Rattle.spec_duties.specs.Strict.{brought_by, coarse_expiry_due, coarse_probing_due, nothing_strict, strict_after, strict_lates, with_brought}
use Rattle.spec_duties.specs.Watching.{answer_rules, counts_now, built_by, listener_closed, owed_by, sent_by, strict_by, strict_table_after, touched_rules}
use Rattle.spec_duties.specs.declared.events.Event.{Event}
use Rattle.spec_duties.specs.declared.observations.Observation.{Observation}
use Rattle.spec_duties.specs.declared.observations.TouchedEndpoint.{TouchedEndpoint}
use Rattle.spec_duties.specs.declared.owed.Lates.{Lates}
use Rattle.spec_duties.specs.declared.owed.Owed.{Owed}
use Rattle.spec_duties.specs.declared.strict.StrictOwed.{StrictOwed}
use Rattle.spec_duties.specs.declared.views.View.{View}
use Rattle.kept_duties.proofs.Excused.{judged_by}
use Rattle.kept_duties.proofs.Runs.{Goes}
use Rattle.kept_duties.proofs.Touched.{AsBefore, as_before, seen, touched}

-- what an endpoint owes so in a table
abbrev strict_in : Both (List (ℕ × StrictOwed)) → EndpointId → StrictOwed
strict_in both me = unwrap_or (lookup (nat_eq me.number) (pick both me.host)) nothing_strict

-- another value for one endpoint
abbrev with_strict : Both (List (ℕ × StrictOwed)) → TouchedEndpoint → StrictOwed → Both (List (ℕ × StrictOwed))
with_strict both t v = with_host both t.host (insert_entry nat_eq (pick both t.host) t.place v)

pick_here : {X : Type 0} (both : Both X) (host : Host) (x : X) → pick (with_host both host x) host ≡ x
pick_here both Zero x = refl
pick_here both One x = refl

strict_here : (both : Both (List (ℕ × StrictOwed))) (w : World tcp_shape) (me : EndpointId) (event : Event) (v : StrictOwed)
    → strict_in (with_strict both (touched w me event) v) me ≡ v
strict_here both w me event v =
    let self : nat_eq me.number me.number ≡ true = grind (arith, nat_tests) in
    ap (λ es. unwrap_or (lookup (nat_eq me.number) es) nothing_strict) (pick_here both me.host (insert_entry nat_eq (pick both me.host) me.number v))
    ∙ ap (λ o. unwrap_or o nothing_strict) (lookup_insert me.number me.number v (pick both me.host)
    ∙ ap (λ b. cond b (Some v) (lookup (nat_eq me.number) (pick both me.host))) self)

-- the endpoint is the one that is touched, or what it owes stays
same_or_not : (t : TouchedEndpoint) (me : EndpointId)
    → ((t.host ≡ me.host) × (t.place ≡ me.number))
    ⊎ ((both : Both (List (ℕ × StrictOwed))) (v : StrictOwed) → strict_in (with_strict both t v) me ≡ strict_in both me)
same_or_not t me = by t.host me.host refl refl
  where
    entry : (es : List (ℕ × StrictOwed)) (v : StrictOwed) → nat_eq me.number t.place ≡ false
        → unwrap_or (lookup (nat_eq me.number) (insert_entry nat_eq es t.place v)) nothing_strict ≡ unwrap_or (lookup (nat_eq me.number) es) nothing_strict
    entry es v differs =
        ap (λ o. unwrap_or o nothing_strict) (lookup_insert me.number t.place v es ∙ ap (λ b. cond b (Some v) (lookup (nat_eq me.number) es)) differs)

    by : (g host : Host) → t.host ≡ g → me.host ≡ host
        → ((g ≡ host) × (t.place ≡ me.number))
        ⊎ ((both : Both (List (ℕ × StrictOwed))) (v : StrictOwed)
        → unwrap_or (lookup (nat_eq me.number) (pick (with_host both g (insert_entry nat_eq (pick both g) t.place v)) host)) nothing_strict
        ≡ unwrap_or (lookup (nat_eq me.number) (pick both host)) nothing_strict)
    by Zero Zero a b = test (nat_eq me.number t.place) refl
      where
        test : (c : Bool) → nat_eq me.number t.place ≡ c
            → ((Zero ≡ Zero) × (t.place ≡ me.number))
            ⊎ ((both : Both (List (ℕ × StrictOwed))) (v : StrictOwed)
            → unwrap_or (lookup (nat_eq me.number) (insert_entry nat_eq both.zero t.place v)) nothing_strict
            ≡ unwrap_or (lookup (nat_eq me.number) both.zero) nothing_strict)
        test true same = inl (refl, grind (arith, nat_tests, same))
        test false differs = inr (λ both v. entry both.zero v differs)
    by One One a b = test (nat_eq me.number t.place) refl
      where
        test : (c : Bool) → nat_eq me.number t.place ≡ c
            → ((One ≡ One) × (t.place ≡ me.number))
            ⊎ ((both : Both (List (ℕ × StrictOwed))) (v : StrictOwed)
            → unwrap_or (lookup (nat_eq me.number) (insert_entry nat_eq both.one t.place v)) nothing_strict
            ≡ unwrap_or (lookup (nat_eq me.number) both.one) nothing_strict)
        test true same = inl (refl, grind (arith, nat_tests, same))
        test false differs = inr (λ both v. entry both.one v differs)
    by Zero One a b = inr (λ both v. refl)
    by One Zero a b = inr (λ both v. refl)

-- what is late of it, if a segment is sent that brings an acknowledgment
abbrev pub lates_strictly : Header → (slack moment : ℕ) → Known → EndpointId → (brought : Option ℕ) → Lates
lates_strictly h slack moment k me brought =
    with_brought (is_late slack moment (acknowledge_due brought))
    (strict_lates h.grain slack moment (seen k.model me) (listener_closed k.duties me.host (seen k.model me)) (owed_by k.duties me.host me.number)
    (strict_by k.duties me.host me.number))

-- of an endpoint that isn't CLOSED
pub strict_open : (P : Lates → Type 0) (grain slack moment : ℕ) (late : Bool) (v : View) (listener : Option ℕ) (o : Owed) (q : StrictOwed)
    → is_closed v.state ≡ false → P (with_brought late (strict_lates grain slack moment v listener o q))
    → P (with_brought late (record (lates_of slack moment v listener o) {
      acknowledge = is_late slack moment (acknowledge_due q.acknowledge);
      expire = is_late slack moment (coarse_expiry_due grain v q.restarted);
      retransmit = is_late slack moment q.retransmit || is_late slack moment q.probe;
      probe = is_late slack moment (coarse_probing_due grain v o.probing);
    }))
strict_open P grain slack moment late v listener o q open' =
    subst (λ (c : Bool). P (with_brought late (if c then lates_of slack moment v listener o
    else record (lates_of slack moment v listener o) {
      acknowledge = is_late slack moment (acknowledge_due q.acknowledge);
      expire = is_late slack moment (coarse_expiry_due grain v q.restarted);
      retransmit = is_late slack moment q.retransmit || is_late slack moment q.probe;
      probe = is_late slack moment (coarse_probing_due grain v o.probing);
    }))) open'

module _ (h : Header) (slack : ℕ) (k next : Known) (x : Stamped tcp_shape) (me : EndpointId) (goes : Goes h slack k next x)
    (six : says_sender h.version ≡ true) where
  abbrev shown : Observation
  shown = observe h x.moment k.model x.step

  -- by the step's event at it, as duties see it
  pub strict_touched : (event : Event) → shown.touched ≡ Some (touched k.model me event)
      → strict_by next.duties me.host me.number
      ≡ strict_after shown.sampling (goes.sees.judge event) (seen k.model me) (seen next.model me) x.moment
      (owed_by k.duties me.host me.number).acknowledged (sent_by k.duties shown.built_change) (strict_by k.duties me.host me.number)
  strict_touched event shows =
      ap (λ (both : Both (List (ℕ × StrictOwed))). strict_in both me) (goes.strict six)
      ∙ ap (λ (o : Option TouchedEndpoint). strict_in (on (judged_by goes.sees.judge o) k.duties.strict (strict_table_after
      (view_in (after (tcp h) x.moment k.model x.step) (judged_by goes.sees.judge o)) x.moment k.duties (sent_by k.duties shown.built_change)
      shown.sampling)) me) shows
      ∙ strict_here k.duties.strict k.model me (goes.sees.judge event) _
      ∙ ap (λ (w : World tcp_shape). strict_after shown.sampling (goes.sees.judge event) (seen k.model me) (seen w me) x.moment
      (owed_by k.duties me.host me.number).acknowledged (sent_by k.duties shown.built_change) (strict_by k.duties me.host me.number)) (sym goes.model)

  -- another step leaves it
  pub strict_kept : ((event : Event) → shown.touched ≡ Some (touched k.model me event) → ⊥)
      → strict_by next.duties me.host me.number ≡ strict_by k.duties me.host me.number
  strict_kept not = by shown.touched refl (as_before h x.moment k.model x.step)
    where
      keeps : (o : Option TouchedEndpoint) → shown.touched ≡ o → strict_in (on (judged_by goes.sees.judge o) k.duties.strict
          (strict_table_after (view_in (after (tcp h) x.moment k.model x.step) (judged_by goes.sees.judge o)) x.moment k.duties
          (sent_by k.duties shown.built_change) shown.sampling)) me ≡ strict_in k.duties.strict me
          → strict_by next.duties me.host me.number ≡ strict_by k.duties me.host me.number
      keeps o shows same =
          ap (λ (both : Both (List (ℕ × StrictOwed))). strict_in both me) (goes.strict six)
          ∙ ap (λ (o : Option TouchedEndpoint). strict_in (on (judged_by goes.sees.judge o) k.duties.strict (strict_table_after
          (view_in (after (tcp h) x.moment k.model x.step) (judged_by goes.sees.judge o)) x.moment k.duties (sent_by k.duties shown.built_change)
          shown.sampling)) me) shows
          ∙ same

      by : (o : Option TouchedEndpoint) → shown.touched ≡ o → AsBefore k.model x.step o
          → strict_by next.duties me.host me.number ≡ strict_by k.duties me.host me.number
      by None shows before = keeps None shows refl
      by (Some t) shows before = which (same_or_not t me)
        where
          which : ((t.host ≡ me.host) × (t.place ≡ me.number))
              ⊎ ((both : Both (List (ℕ × StrictOwed))) (v : StrictOwed) → strict_in (with_strict both t v) me ≡ strict_in both me)
              → strict_by next.duties me.host me.number ≡ strict_by k.duties me.host me.number
          which (inl same) = absurd (not t.event (shows ∙ (λ i. Some (record {
            host = same.0 i;
            place = same.1 i;
            event = t.event;
            before = (before.before ∙ (λ i. seen k.model (record { host = same.0 i; number = same.1 i }))) i;
          }))))
          which (inr stays) = keeps (Some t) shows (stays k.duties.strict _)

  -- a step at the endpoint is compared
  pub lates_compared : (event : Event) → shown.touched ≡ Some (touched k.model me event)
      → AllByRecursion (λ r. r.1 ≡ false)
      (late_rules (lates_strictly h slack x.moment k me (brought_by (sent_by k.duties shown.built_change))))
  lates_compared event shows =
      let rules = goes.dutiful.1.1.1.1 in
      let here =
      subst (λ (o : Option TouchedEndpoint). AllByRecursion (λ r. r.1 ≡ false)
      (on o (answer_rules slack x.moment k.duties (untrue_at h x.moment k x.step) shown.call_change)
      (touched_rules h slack x.moment k.duties (counts_now (built_by k.duties shown.built_change)) (untrue_at h x.moment k x.step)
      (sent_by k.duties shown.built_change) shown.sampling))) shows rules in
      subst (λ (b : Bool). AllByRecursion (λ r. r.1 ≡ false) (late_rules (if b
      then lates_strictly h slack x.moment k me (brought_by (sent_by k.duties shown.built_change))
      else lates_of slack x.moment (seen k.model me) (listener_closed k.duties me.host (seen k.model me)) (owed_by k.duties me.host me.number)))) six
      (here.0, (here.1.0, (here.1.1.0, (here.1.1.1.0, (here.1.1.1.1.0, (here.1.1.1.1.1.0, tt))))))
