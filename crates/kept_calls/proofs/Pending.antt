-- Duties know of each segment that was built and not sent whether it needs a credit.
use Rattle.std.proofs.Common.{◌≡◌, ℕ, suc, ◌<◌, ◌≤◌, inl, inr, Bool, true, false, Option, Some, None, refl, ap, sym, subst, ◌∙◌, nat_eq}
use Rattle.std.proofs.Common.{arith}
use Rattle.std.specs.Map.{lookup}
use Rattle.std.specs.Option.{option_map_or}
use Rattle.std.proofs.lemmas.Bool.Decides.{nat_tests}
use Rattle.std.proofs.lemmas.Option.{none-some}
use Rattle.case_forms.specs.Versions.{says_sender}
use Rattle.case_forms.specs.declared.calls.Host.{Host}
use Rattle.case_forms.specs.declared.calls.Host.TheVariants.{Zero, One}
use Rattle.case_forms.specs.declared.trace.Header.{Header}
use Rattle.spec_network.specs.HostSteps.{after}
use Rattle.spec_network.specs.Hosts.{Stamped, World}
use Rattle.spec_network.specs.Tables.{Made, pick, waiting}
use Rattle.spec_tcp.specs.Machine.{tcp, tcp_shape}
use Rattle.spec_tcp.specs.declared.endpoint.Emission.{Emission}
use Rattle.spec_cases.specs.Cases.{Known, first_known}
use Rattle.spec_duties.specs.Credits.{needs_credit}
use Rattle.spec_duties.specs.Observations.{observe, view_in}
use Rattle.spec_duties.specs.Watching.{Duties, built_unsent, strict_by, unsent_after}
use Rattle.spec_duties.specs.declared.events.Event.{Event}
use Rattle.spec_duties.specs.declared.observations.BuiltChange.{BuiltChange}
use Rattle.spec_duties.specs.declared.observations.BuiltChange.TheVariants as built_change
use Rattle.spec_duties.specs.declared.observations.TouchedEndpoint.{TouchedEndpoint}
use Rattle.spec_duties.specs.declared.strict.Unsent.{Unsent}
use Rattle.spec_duties.specs.declared.views.View.{View}
use Rattle.kept_duties.proofs.Built.{WasBuilt, low_number, same_builder}
use Rattle.kept_duties.proofs.Excused.{AsSeen, as_event, judged_by}
use Rattle.kept_duties.proofs.Observations.{BuiltChangeOf, IsMade, IsNew, built_change_builds, built_change_of, built_change_sends, made_from, sends}
use Rattle.kept_duties.proofs.Observations.{waiting_elsewhere, waiting_here}
use Rattle.kept_duties.proofs.Runs.{Goes, Run, run_keeps}

-- whether the segment needs a credit that a step builds
abbrev pub costs_of : (after : View) → (moment : ℕ) → Duties → Option TouchedEndpoint → Bool
costs_of after moment d o = option_map_or (λ t. needs_credit t.event t.before after moment (strict_by d t.host t.place).kept_alive) o false

-- what duties see of the step doesn't matter
costs_alike : (judge : Event → Event) → ((event : Event) → AsSeen event (judge event)) → (w : World tcp_shape) (moment : ℕ) (d : Duties)
    (o : Option TouchedEndpoint) → costs_of (view_in w (judged_by judge o)) moment d (judged_by judge o) ≡ costs_of (view_in w o) moment d o
costs_alike judge alike w moment d None = refl
costs_alike judge alike w moment d (Some t) =
    as_event (λ (e : Event). needs_credit (judge t.event) t.before (view_in w (Some t)) moment (strict_by d t.host t.place).kept_alive
    ≡ needs_credit e t.before (view_in w (Some t)) moment (strict_by d t.host t.place).kept_alive)
    (λ asks now unlimited q. q) t.event (judge t.event) (alike t.event) refl

module _ (h : Header) (slack n : ℕ) (acts : ℕ → Option (Stamped tcp_shape)) (known : ℕ → Known) (r : Run h slack n acts known)
    (six : says_sender h.version ≡ true) where
  abbrev pub costs_by : Known → Stamped tcp_shape → Bool
  costs_by k x =
      costs_of (view_in (after (tcp h) x.moment k.model x.step) (observe h x.moment k.model x.step).touched) x.moment k.duties
      (observe h x.moment k.model x.step).touched

  -- a segment that was built and not sent
  pub record Waits (j : ℕ) (k : Known) (host : Host) (number : ℕ) : Type 0 where
    pub was : WasBuilt h slack n acts known r j host number
    pub unsent : Unsent
    pub waits : waiting number k.duties.unsent ≡ Some unsent
    pub costs : unsent.costs ≡ costs_by (known was.place) was.act

  abbrev AllWait : ℕ → Known → Type 0
  AllWait j k =
      (host : Host) (number : ℕ) (m : Made Emission) → lookup (nat_eq number) (pick k.model.hosts host).made ≡ Some m → m.sent ≡ false → Waits j k host number

  abbrev earlier : (j : ℕ) (host : Host) (number : ℕ) → WasBuilt h slack n acts known r j host number → WasBuilt h slack n acts known r (suc j) host number
  earlier j host number b = record { place = b.place; act = b.act; low = (let low = b.low in omega arith); is = b.is; builds = b.builds; count = b.count }

  module _ (j : ℕ) (x : Stamped tcp_shape) (low : j < n) (is : acts j ≡ Some x) (goes : Goes h slack (known j) (known (suc j)) x)
      (all : AllWait j (known j)) where
    abbrev shown : BuiltChange
    shown = (observe h x.moment (known j).model x.step).built_change

    abbrev judged : Option TouchedEndpoint
    judged = judged_by goes.sees.judge (observe h x.moment (known j).model x.step).touched

    abbrev view : View
    view = view_in (after (tcp h) x.moment (known j).model x.step) judged

    abbrev just_built : Unsent
    just_built = built_unsent view x.moment (known j).duties judged

    go_on : (q : ℕ) (p : BuiltChange) → shown ≡ p
        → waiting q (known (suc j)).duties.unsent ≡ waiting q (unsent_after view x.moment (known j).duties judged p)
    go_on q p shows =
        ap (waiting q) (goes.unsent six) ∙ ap (λ p. waiting q (unsent_after view x.moment (known j).duties judged p)) shows

    new : (host : Host) (number : ℕ) (m : Made Emission) → IsNew x.moment (known j).model x.step host number m → Waits (suc j) (known (suc j)) host number
    new host number m now = record {
      was = record { place = j; act = x; low = omega arith; is = is; builds = now.built; count = now.number };
      unsent = just_built;
      waits =
          go_on number (built_change.Builds number)
          (built_change_builds h x.moment (known j).model x.step host now.built ∙ ap built_change.Builds (sym now.number))
          ∙ waiting_here number (Some just_built) (known j).duties.unsent;
      costs =
          costs_alike goes.sees.judge goes.sees.alike (after (tcp h) x.moment (known j).model x.step) x.moment (known j).duties
          (observe h x.moment (known j).model x.step).touched;
    }

    still : (host : Host) (number : ℕ) → WasBuilt h slack n acts known r j host number → (sends x.step ≡ Some (host, number) → ⊥)
        → (u : Unsent) → waiting number (known j).duties.unsent ≡ Some u → waiting number (known (suc j)).duties.unsent ≡ Some u
    still host number was not u waits = by shown refl (built_change_of h x.moment (known j).model x.step)
      where
        by : (p : BuiltChange) → shown ≡ p → BuiltChangeOf (known j).model.count p x.step → waiting number (known (suc j)).duties.unsent ≡ Some u
        by built_change.Nothing shows of = go_on number built_change.Nothing shows ∙ waits
        by (built_change.Builds q) shows of =
            let low' = low_number h slack n acts known r j host number (omega (arith, low)) was in
            let next = of.0 in
            let other : nat_eq number q ≡ false = grind (arith, nat_tests, low', next) in
            go_on number (built_change.Builds q) shows ∙ waiting_elsewhere number q (Some just_built) (known j).duties.unsent other ∙ waits
        by (built_change.Sends q) shows of = test (nat_eq number q) refl
          where
            test : (c : Bool) → nat_eq number q ≡ c → waiting number (known (suc j)).duties.unsent ≡ Some u
            test true same =
                let e : q ≡ number = grind (arith, nat_tests, same) in
                let sent = built_change_sends h x.moment (known j).model x.step of.0 q goes.permitted of.1 in
                let other = subst (λ (k : ℕ). WasBuilt h slack n acts known r j of.0 k) e (all of.0 q sent.1.made sent.1.there sent.1.unsent).was in
                let one : of.0 ≡ host = same_builder h slack n acts known r j of.0 host number (omega (arith, low)) other was in
                absurd (not (of.1 ∙ (λ i. Some (one i, e i))))
            test false other = go_on number (built_change.Sends q) shows ∙ waiting_elsewhere number q None (known j).duties.unsent other ∙ waits

    step : AllWait (suc j) (known (suc j))
    step host number m there kept =
        by (made_from h x.moment (known j).model x.step host number m
        (ap (λ (w : World tcp_shape). lookup (nat_eq number) (pick w.hosts host).made) (sym goes.model) ∙ there))
      where
        by : IsMade x.moment (known j).model x.step host number m → Waits (suc j) (known (suc j)) host number
        by (inl now) = new host number m now
        by (inr was) =
            let unsent = was.unsent kept in
            let old = all host number was.before was.there unsent.0 in
            record {
              was = earlier j host number old.was;
              unsent = old.unsent;
              waits = still host number old.was unsent.1 old.unsent old.waits;
              costs = old.costs;
            }

  pub all_wait : (to : ℕ) → to ≤ n → AllWait to (known to)
  all_wait to high =
      run_keeps h slack n acts known r AllWait
      (λ j k all host number m there kept.
      let old = all host number m there kept in
      record { was = earlier j host number old.was; unsent = old.unsent; waits = old.waits; costs = old.costs })
      0 to (omega arith) high (subst (AllWait 0) (sym r.start) nothing) (λ j x low less is goes all. step j x (omega (arith, less, high)) is goes all)
    where
      nothing : AllWait 0 (first_known h)
      nothing Zero number m there kept = absurd (none-some m there)
      nothing One number m there kept = absurd (none-some m there)
