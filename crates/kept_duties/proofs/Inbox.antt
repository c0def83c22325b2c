-- What came to an inbox leaves it in time.
use Rattle.std.proofs.Common.{◌≡◌, ℕ, suc, ◌+◌, ◌<◌, ◌≤◌, ◌⊎◌, inl, inr, Bool, true, false, List, [], ◌∷◌, Option, Some, None, refl, ap, sym, subst, ◌∙◌}
use Rattle.std.proofs.Common.{nat_eq, arith}
use Rattle.std.specs.Prelude.{if◌then◌else◌, is_some, nat_lt}
use Rattle.std.proofs.lemmas.Bool.Decides.{nat_tests}
use Rattle.std.proofs.lemmas.Option.{none-some, same_Some, some_pair_parts}
use Rattle.case_forms.specs.declared.calls.Host.{Host}
use Rattle.case_forms.specs.declared.calls.Host.TheVariants.{Zero, One}
use Rattle.case_forms.specs.declared.trace.Header.{Header}
use Rattle.spec_network.specs.Hosts.{Stamped, World}
use Rattle.spec_network.specs.Tables.{pick, waiting}
use Rattle.spec_tcp.specs.Machine.{tcp_shape}
use Rattle.spec_tcp.specs.declared.endpoint.Emission.{Emission}
use Rattle.spec_cases.specs.Cases.{Known, first_known}
use Rattle.spec_duties.specs.Deadlines.{is_late}
use Rattle.spec_duties.specs.End.{first_waiting}
use Rattle.spec_duties.specs.Observations.{observe}
use Rattle.spec_duties.specs.Watching.{Duties, inbox_after, leaves_late}
use Rattle.spec_duties.specs.declared.observations.InboxChange.{InboxChange}
use Rattle.spec_duties.specs.declared.observations.InboxChange.TheVariants as inbox_change
use Rattle.kept_duties.proofs.Runs.{Goes, Run, run_goes, run_keeps}
use Rattle.kept_duties.proofs.Observations.{InboxChangeOf, enters, leaves, inbox_from, leaves_waits, inbox_change_enters, inbox_change_of, waiting_elsewhere}
use Rattle.kept_duties.proofs.Observations.{waiting_here}

-- a moment that isn't late
pub not_late : (slack since moment : ℕ) (due : Option ℕ) → due ≡ Some since → is_late slack moment due ≡ false → moment ≤ since + slack
not_late slack since moment due is e = at (sym (ap (is_late slack moment) is) ∙ e)
  where
    at : nat_lt (since + slack) moment ≡ false → moment ≤ since + slack
    at e = grind (arith, nat_tests, e)

module _ (h : Header) (slack n : ℕ) (acts : ℕ → Option (Stamped tcp_shape)) (known : ℕ → Known) (r : Run h slack n acts known) where
  -- before this place a segment came to a host by that line
  pub record Came (to : ℕ) (host : Host) (line : ℕ) : Type 0 where
    pub place : ℕ
    pub act : Stamped tcp_shape
    pub low : place < to
    pub is : acts place ≡ Some act
    pub enters : enters act.step ≡ Some (host, line)

  came_before : (j : ℕ) (host : Host) (line : ℕ) → Came j host line → Came (suc j) host line
  came_before j host line c = record { place = c.place; act = c.act; low = (let low = c.low in omega arith); is = c.is; enters = c.enters }

  abbrev AllCame : ℕ → Known → Type 0
  AllCame to k = (host : Host) (line : ℕ) (m : Emission) → waiting line (pick k.model.hosts host).inbox ≡ Some m → Came to host line

  -- what waits in an inbox of the model came there
  came : (to : ℕ) → to ≤ n → AllCame to (known to)
  came to high =
      run_keeps h slack n acts known r AllCame (λ j k all host line m is. came_before j host line (all host line m is)) 0 to (omega arith) high
      (subst (AllCame 0) (sym r.start) nothing) step
    where
      nothing : AllCame 0 (first_known h)
      nothing Zero line m is = absurd (none-some m is)
      nothing One line m is = absurd (none-some m is)

      step : (j : ℕ) (x : Stamped tcp_shape) → 0 ≤ j → j < to → acts j ≡ Some x → Goes h slack (known j) (known (suc j)) x
          → AllCame j (known j) → AllCame (suc j) (known (suc j))
      step j x low less is goes all host line m waits =
          by (inbox_from h x.moment (known j).model x.step host line m
          (ap (λ (w : World tcp_shape). waiting line (pick w.hosts host).inbox) (sym goes.model) ∙ waits))
        where
          by : (enters x.step ≡ Some (host, line)) ⊎ ((e : Emission) × (waiting line (pick (known j).model.hosts host).inbox ≡ Some e)) → Came (suc j) host line
          by (inl now) = record { place = j; act = x; low = omega arith; is = is; enters = now }
          by (inr before) = came_before j host line (all host line before.0 before.1)

  -- a later act takes the segment of that line from the inbox
  pub record Left (from by : ℕ) (host : Host) (line : ℕ) : Type 0 where
    pub place : ℕ
    pub act : Stamped tcp_shape
    pub after : from < place
    pub low : place < n
    pub is : acts place ≡ Some act
    pub leaves : leaves act.step ≡ Some (host, line)
    pub soon : act.moment ≤ by

  module _ (i : ℕ) (x : Stamped tcp_shape) (host : Host) (line : ℕ) (low : i < n) (is : acts i ≡ Some x) (comes : enters x.step ≡ Some (host, line))
      (once : (j : ℕ) (y : Stamped tcp_shape) (g : Host) → acts j ≡ Some y → enters y.step ≡ Some (g, line) → j ≡ i) where
    abbrev IsLeft : ℕ → Known → Type 0
    IsLeft j k = Left i (x.moment + slack) host line ⊎ (waiting line k.duties.inbox ≡ Some x.moment)

    begins : IsLeft (suc i) (known (suc i))
    begins =
        let goes = run_goes h slack n acts known r i x low is in
        let s = observe h x.moment (known i).model x.step in
        inr (ap (waiting line) goes.inbox
        ∙ ap (λ m. waiting line (inbox_after x.moment m (known i).duties.inbox)) (inbox_change_enters h x.moment (known i).model x.step host line comes)
        ∙ waiting_here line (Some x.moment) (known i).duties.inbox)

    -- whoever takes it is the host where it came
    same_host : (j : ℕ) → j ≤ n → (g : Host) (m : Emission) → waiting line (pick (known j).model.hosts g).inbox ≡ Some m → g ≡ host
    same_host j high g m waits =
        let c = came j high g line m waits in
        let one : c.place ≡ i = once c.place c.act g c.is c.enters in
        let act : c.act ≡ x = same_Some c.act x (sym c.is ∙ ap acts one ∙ is) in
        (some_pair_parts g host line line (sym c.enters ∙ ap (λ (y : Stamped tcp_shape). enters y.step) act ∙ comes)).0

    more : (j : ℕ) (y : Stamped tcp_shape) → suc i ≤ j → j < n → acts j ≡ Some y → Goes h slack (known j) (known (suc j)) y
        → IsLeft j (known j) → IsLeft (suc j) (known (suc j))
    more j y behind less at goes (inl left) = inl left
    more j y behind less at goes (inr waits) =
        by (observe h y.moment (known j).model y.step).inbox_change refl (inbox_change_of h y.moment (known j).model y.step)
      where
        d : Duties
        d = (known j).duties

        go_on : (m : InboxChange) → (observe h y.moment (known j).model y.step).inbox_change ≡ m → waiting line (inbox_after y.moment m d.inbox) ≡ Some x.moment
            → IsLeft (suc j) (known (suc j))
        go_on m shows still = inr (ap (waiting line) goes.inbox ∙ ap (λ m. waiting line (inbox_after y.moment m d.inbox)) shows
            ∙ still)

        leaving : (g : Host) → (observe h y.moment (known j).model y.step).inbox_change ≡ inbox_change.Leaves line → leaves y.step ≡ Some (g, line)
            → IsLeft (suc j) (known (suc j))
        leaving g shows takes =
            let m = leaves_waits h y.moment (known j).model y.step g line goes.permitted takes in
            let same : g ≡ host = same_host j (omega (arith, less)) g m.0 m.1 in
            let fine = goes.dutiful.1.1.0 in
            inl (record {
              place = j;
              act = y;
              after = omega (arith, behind);
              low = less;
              is = at;
              leaves = subst (λ (g : Host). leaves y.step ≡ Some (g, line)) same takes;
              soon =
                  not_late slack x.moment y.moment (waiting line d.inbox) waits (sym (ap (leaves_late slack y.moment d) shows) ∙ fine);
            })

        by : (m : InboxChange) → (observe h y.moment (known j).model y.step).inbox_change ≡ m → InboxChangeOf m y.step → IsLeft (suc j) (known (suc j))
        by inbox_change.Nothing shows known' = go_on inbox_change.Nothing shows waits
        by (inbox_change.Enters k) shows known' = test (nat_eq line k) refl
          where
            test : (b : Bool) → nat_eq line k ≡ b → IsLeft (suc j) (known (suc j))
            test true same =
                let e : k ≡ line = grind (arith, nat_tests, same) in
                let one : j ≡ i = once j y known'.0 at (known'.1 ∙ ap (λ (q : ℕ). Some (known'.0, q)) e) in
                absurd (omega (arith, one, behind))
            test false differs =
                go_on (inbox_change.Enters k) shows (waiting_elsewhere line k (Some y.moment) d.inbox differs ∙ waits)
        by (inbox_change.Leaves k) shows known' = test (nat_eq line k) refl
          where
            test : (b : Bool) → nat_eq line k ≡ b → IsLeft (suc j) (known (suc j))
            test true same =
                let e : k ≡ line = grind (arith, nat_tests, same) in
                leaving known'.0 (shows ∙ ap inbox_change.Leaves e) (known'.1 ∙ ap (λ (q : ℕ). Some (known'.0, q)) e)
            test false differs =
                go_on (inbox_change.Leaves k) shows (waiting_elsewhere line k None d.inbox differs ∙ waits)

    -- it leaves the inbox in time, or is there at the end
    pub left_or_waits : IsLeft n (known n)
    left_or_waits =
        run_keeps h slack n acts known r IsLeft (λ j k q. q) (suc i) n (omega (arith, low)) (omega arith) begins more

-- what still waits at the end isn't late
pub late_waiting : (slack moment line : ℕ) (inbox : List (ℕ × Option ℕ)) → is_some (first_waiting slack moment inbox) ≡ false
    → is_late slack moment (waiting line inbox) ≡ false
late_waiting slack moment line [] none = refl
late_waiting slack moment line (e ∷ inbox) none = by (is_late slack moment e.1) refl none (nat_eq line e.0) refl (late_waiting slack moment line inbox)
  where
    by : (late : Bool) → is_late slack moment e.1 ≡ late
        → is_some (if late then Some e.0 else first_waiting slack moment inbox) ≡ false
        → (b : Bool) → nat_eq line e.0 ≡ b
        → (is_some (first_waiting slack moment inbox) ≡ false → is_late slack moment (waiting line inbox) ≡ false)
        → is_late slack moment (waiting line (e ∷ inbox)) ≡ false
    by true is none b same rest = absurd cc
    by false is none true same rest = rw same is
    by false is none false same rest = rw same (rest none)
