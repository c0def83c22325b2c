-- What a yes with a slack says of segments.
use Rattle.std.proofs.Common.{◌≡◌, ℕ, suc, ◌+◌, ◌<◌, ◌≤◌, ◌⊎◌, inl, inr, Bool, true, false, List, [], ◌∷◌, length, take, Option, Some, None, refl, ap, sym}
use Rattle.std.proofs.Common.{subst, ◌∙◌, add-one, arith}
use Rattle.std.specs.Prelude.{count_by, get_or, if◌then◌else◌, is_some, slice_get}
use Rattle.std.specs.Option.{option_map, option_map_or}
use Rattle.std.proofs.lemmas.List.Sums.{count_by_more_no, count_by_more_yes}
use Rattle.std.proofs.lemmas.Option.{get_or_from_slice_get, none-some, slice_get_cases, slice_get_within}
use Rattle.case_forms.specs.Traces.{IsTrace}
use Rattle.case_forms.specs.declared.calls.Host.{Host}
use Rattle.case_forms.specs.declared.steps.Step.{Step}
use Rattle.case_forms.specs.declared.steps.Witness.{Witness}
use Rattle.case_forms.specs.declared.trace.Trace.{Trace}
use Rattle.verdict.proofs.RuleLemmas.{none_all}
use Rattle.verdict.specs.Rules.{first_broken}
use Rattle.verdict.specs.declared.rule.Rule.{Rule}
use Rattle.interval_order.specs.Orders.{last_moment}
use Rattle.interval_order.specs.Placed.{Placed}
use Rattle.spec_network.specs.HostSteps.{Lawful}
use Rattle.spec_network.specs.Hosts.{Stamped}
use Rattle.spec_network.specs.Tables.{on, waiting}
use Rattle.spec_tcp.specs.Machine.{tcp, tcp_shape}
use Rattle.spec_cases.specs.Cases.{Dutiful, Known, first_known, known_after_all, late_at_end}
use Rattle.spec_duties.specs.End as end
use Rattle.spec_duties.specs.End.{end_rules, first_waiting}
use Rattle.kept_duties.specs.Happens.{act_at, known_before}
use Rattle.kept_duties.specs.Places.{IsStep, builder, built_before}
use Rattle.checker.specs.Seen.{act_of, moves, stamped}
use Rattle.kept_duties.specs.Segments.{ArrivalsAreHandled, EndsBy, LeavesBy, SendingsAreFresh}
use Rattle.kept_duties.proofs.Built.{count_next, sent_in_time}
use Rattle.kept_duties.proofs.Inbox.{Left, late_waiting, left_or_waits, not_late}
use Rattle.kept_duties.proofs.Labels.{arrival_act, arrival_takes, arrives_at, builder_is, builder_none, leaves_at, sending_act}
use Rattle.kept_duties.proofs.Runs.{Run, Steps, onward, run_of}
use Rattle.kept_duties.proofs.Observations.{enters}

take_all : {X : Type 0} (xs : List X) → take (length xs) xs ≡ xs
take_all [] = refl
take_all (x ∷ xs) = ap (λ (ys : List _). x ∷ ys) (take_all xs)

-- the count of what passes a test, with one element more
count_one : {X : Type 0} (p : X → Bool) (xs : List X) (i : ℕ) (x : X) → slice_get xs i ≡ Some x
    → count_by p (take (suc i) xs) ≡ (if p x then suc (count_by p (take i xs)) else count_by p (take i xs))
count_one {X} p xs i x at = by (p x) refl
  where
    low : i < length xs
    low = slice_get_within xs i x at

    by : (b : Bool) → p x ≡ b → count_by p (take (suc i) xs) ≡ (if b then suc (count_by p (take i xs)) else count_by p (take i xs))
    by true is =
        subst (λ (n : ℕ). count_by p (take n xs) ≡ suc (count_by p (take i xs))) (add-one i)
        (count_by_more_yes p xs i x low (ap p (get_or_from_slice_get xs i x x at) ∙ is) ∙ add-one (count_by p (take i xs)))
    by false is =
        subst (λ (n : ℕ). count_by p (take n xs) ≡ count_by p (take i xs)) (add-one i)
        (count_by_more_no p xs i x low (ap p (get_or_from_slice_get xs i x x at) ∙ is))

-- what is late at the end
none_mapped : {X Y : Type 0} (f : X → Y) (o : Option X) → option_map f o ≡ None → o ≡ None
none_mapped f None e = refl
none_mapped f (Some x) e = absurd (none-some (f x) (sym e))

step_at : (w : Witness) (place moment : ℕ) (s : Step) → slice_get w.steps place ≡ Some s → s.moment ≡ moment → IsStep w place moment s.label
step_at w place moment s here is = record { span = s.span; here = here ∙ ap (λ (m : ℕ). Some (record s { moment = m })) is }

-- the step of an act
pub step_of_act : (t : Trace) (w : Witness) (place : ℕ) (x : Stamped tcp_shape) → act_at t w place ≡ Some x
    → (s : Step) × (slice_get w.steps place ≡ Some s) × (act_of t.header t.lines s ≡ Some x)
step_of_act t w place x is = by (slice_get w.steps place) refl is
  where
    by : (o : Option Step) → slice_get w.steps place ≡ o → option_map_or (act_of t.header t.lines) o None ≡ Some x
        → (s : Step) × (slice_get w.steps place ≡ Some s) × (act_of t.header t.lines s ≡ Some x)
    by None at is = absurd (none-some x is)
    by (Some s) at is = (s, at, is)

pub within : (t : Trace) (w : Witness) (place : ℕ) (x : Stamped tcp_shape) → act_at t w place ≡ Some x → place < length w.steps
within t w place x is = let s = step_of_act t w place x is in slice_get_within w.steps place s.0 s.1

-- no duty is late at the end
pub end_fine : (t : Trace) (w : Witness) (slack : ℕ) → t.header.slack ≡ Some slack
    → late_at_end t.header (last_moment (moves w.steps)) (known_after_all t.header (first_known t.header) (stamped t.header t.lines w.steps)) ≡ None
    → first_broken (end_rules t.header slack (last_moment (moves w.steps)) (known_before t w (length w.steps)).duties
    (known_before t w (length w.steps)).model) ≡ None
end_fine t w slack given late =
    let all : known_after_all t.header (first_known t.header) (stamped t.header t.lines w.steps) ≡ known_before t w (length w.steps) =
    ap (λ (ss : List Step). known_after_all t.header (first_known t.header) (stamped t.header t.lines ss)) (sym (take_all w.steps)) in
    let k = known_before t w (length w.steps) in
    let moment = last_moment (moves w.steps) in
    none_mapped (λ (rule : Rule). (end.line_of (first_waiting slack moment k.duties.inbox) rule, rule))
    (first_broken (end_rules t.header slack moment k.duties k.model))
    (sym (ap (λ o. on o None (λ slack. end.late_at_end t.header slack moment k.duties k.model)) given)
    ∙ sym (ap (λ (k : Known). late_at_end t.header moment k) all) ∙ late)

module _ (t : Trace) (w : Witness) (slack : ℕ) (given : t.header.slack ≡ Some slack)
    (lawful : Lawful (tcp t.header) (first_known t.header).model (stamped t.header t.lines w.steps))
    (dutiful : Dutiful t.header (first_known t.header) (stamped t.header t.lines w.steps)) where
  abbrev acts : ℕ → Option (Stamped tcp_shape)
  acts = act_at t w

  abbrev known : ℕ → Known
  known = known_before t w

  pub run : Run t.header slack (length w.steps) (act_at t w) (known_before t w)
  run = run_of t w slack given lawful dutiful

  -- as many segments were built as the steps before build
  pub count_is : (place : ℕ) → place ≤ length w.steps → (known_before t w place).model.count ≡ built_before w place
  count_is place high = onward (λ j. (known j).model.count ≡ built_before w j) 0 place (omega arith) refl
      (λ j low less was. next j (omega (arith, less, high)) was)
    where
      one : (j : ℕ) (s : Step) → j < length w.steps → slice_get w.steps j ≡ Some s → (o : Option (Stamped tcp_shape)) → act_of t.header t.lines s ≡ o
          → (known (suc j)).model.count ≡ (if is_some (builder s.label) then suc (known j).model.count else (known j).model.count)
      one j s low at None is =
          let same : known (suc j) ≡ known j =
          subst (λ o. Steps t.header slack (known j) (known (suc j)) o) (ap (λ (o : Option Step). option_map_or (act_of t.header t.lines) o None) at ∙ is)
          (run.each j low) in
          ap (λ (k : Known). k.model.count) same
          ∙ sym (ap (λ (o : Option Host). if is_some o then suc (known j).model.count else (known j).model.count) (builder_none t.header t.lines s is))
      one j s low at (Some x) is =
          count_next t.header slack (length w.steps) acts known run j x low (ap (λ (o : Option Step). option_map_or (act_of t.header t.lines) o None) at ∙ is)
          ∙ sym (ap (λ (o : Option Host). if is_some o then suc (known j).model.count else (known j).model.count) (builder_is t.header t.lines s x is).0)

      next : (j : ℕ) → j < length w.steps → (known j).model.count ≡ built_before w j → (known (suc j)).model.count ≡ built_before w (suc j)
      next j low was = by (slice_get_cases w.steps j).1
        where
          by : ((s : Step) × (j < length w.steps) × (slice_get w.steps j ≡ Some s) × (get_or w.steps j s ≡ s))
              ⊎ ((length w.steps ≤ j) × (slice_get w.steps j ≡ None)) → (known (suc j)).model.count ≡ built_before w (suc j)
          by (inl p) =
              one j p.0 low p.2 (act_of t.header t.lines p.0) refl
              ∙ ap (λ (n : ℕ). if is_some (builder p.0.label) then suc n else n) was
              ∙ sym (count_one (λ (s : Step). is_some (builder s.label)) w.steps j p.0 p.2)
          by (inr p) = absurd (omega (arith, low, p.0))

  -- what is sent had just been built
  pub sendings_fresh : SendingsAreFresh t w slack
  sendings_fresh place moment number host a =
      let x = sending_act t w place moment host number a in
      let b = sent_in_time t.header slack (length w.steps) acts known run place x.0 host number (within t w place x.0 x.1) x.1 x.3 in
      let s = step_of_act t w b.0.place b.0.act b.0.is in
      let is = builder_is t.header t.lines s.0 b.0.act s.2 in
      let count = count_is b.0.place (omega (arith, within t w b.0.place b.0.act b.0.is)) in
      record {
        earlier = b.0.place;
        since = b.0.act.moment;
        before = b.0.low;
        builds = record {
          label = s.0.label;
          step = step_at w b.0.place b.0.act.moment s.0 s.1 is.1;
          builds = is.0 ∙ b.0.builds;
          count = b.0.count ∙ ap (λ (n : ℕ). suc n) count;
        };
        soon = subst (λ (m : ℕ). m ≤ b.0.act.moment + slack) x.2 b.1;
      }

  module _ (trace : IsTrace t) (placed : Placed t.header t.lines (moves w.steps))
      (late : late_at_end t.header (last_moment (moves w.steps)) (known_after_all t.header (first_known t.header) (stamped t.header t.lines w.steps))
      ≡ None) where
    pub arrivals_handled : ArrivalsAreHandled t w slack
    arrivals_handled place moment line host a =
        let x = arrival_act t w trace placed place moment host line a in
        by x.0 x.2 (left_or_waits t.header slack (length w.steps) acts known run place x.0 host line (within t w place x.0 x.1) x.1 x.3 once)
      where
        once : (j : ℕ) (y : Stamped tcp_shape) (g : Host) → acts j ≡ Some y → enters y.step ≡ Some (g, line) → j ≡ place
        once j y g is comes =
            let s = step_of_act t w j y is in
            let b = arrives_at t w j trace s.0 s.1 y s.2 g line comes in
            placed.once line j place (arrival_takes t w j y.moment g line b) (arrival_takes t w place moment host line a)

        by : (x : Stamped tcp_shape) → x.moment ≡ moment
            → Left t.header slack (length w.steps) acts known run place (x.moment + slack) host line
            ⊎ (waiting line (known (length w.steps)).duties.inbox ≡ Some x.moment)
            → LeavesBy w place (moment + slack) host line ⊎ EndsBy w (moment + slack)
        by x time (inl left) =
            let s = step_of_act t w left.place left.act left.is in
            inl (record {
              later = left.place;
              moment = left.act.moment;
              after = left.after;
              leaves = leaves_at t w left.place s.0 s.1 left.act s.2 host line left.leaves;
              soon = subst (λ (m : ℕ). left.act.moment ≤ m + slack) time left.soon;
            })
        by x time (inr waits) =
            let k = known (length w.steps) in
            let last = last_moment (moves w.steps) in
            let fine = (none_all (end_rules t.header slack last k.duties k.model) (end_fine t w slack given late)).0 in
            inr (subst (λ (m : ℕ). last ≤ m + slack) time
            (not_late slack x.moment last (waiting line k.duties.inbox) waits (late_waiting slack last line k.duties.inbox fine)))
