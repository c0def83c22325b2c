-- What the verdict says of the whole lists.
use Rattle.std.proofs.Common.{◌≡◌, ℕ, ◌+◌, ◌<◌, zero, suc, true, List, [], ◌∷◌, ◌++◌, length, take, refl, sym, ap, ◌∙◌}
use Rattle.std.proofs.Common.{subst, arith, Option, Some, None, inl, inr, ◌⊎◌, append_assoc, append-nil, length-append}
use Rattle.std.proofs.Common.{Result, Ok, Err}
use Rattle.std.specs.Prelude.{not, count_by, slice_get, IfOk}
use Rattle.std.specs.Option.{option_map_or}
use Rattle.case_forms.specs.declared.trace.Header.{Header}
use Rattle.case_forms.specs.declared.trace.Line.{Line}
use Rattle.case_forms.specs.declared.trace.Trace.{Trace}
use Rattle.case_forms.specs.declared.steps.Step.{Step}
use Rattle.case_forms.specs.declared.steps.Witness.{Witness}
use Rattle.verdict.specs.declared.rule.Rule.{Rule}
use Rattle.verdict.specs.declared.rule.Rule.TheVariants.{Unplaced}
use Rattle.verdict.specs.declared.report.Verdict.{Verdict}
use Rattle.verdict.specs.declared.report.Verdict.TheVariants.{Yes, No}
use Rattle.interval_order.specs.Orders.{unplaced, order_of}
use Rattle.interval_order.specs.OrderRules.{order_rules}
use Rattle.spec_network.specs.Hosts.{Stamped}
use Rattle.spec_tcp.specs.Machine.{tcp_shape}
use Rattle.spec_tcp_laws.specs.Ascending.{ascend, IsLeastBroken}
use Rattle.spec_tcp_laws.proofs.Ascending.{first_is_least}
use Rattle.spec_cases.specs.Cases.{Known, first_known, known_after_all}
use Rattle.watched.proofs.RefusalLemmas.{all_ascend as step_ascend}
use Rattle.checker.specs.Seen.{move_of, moves, act_of, stamped}
use Rattle.checker.specs.Verdicts.{act_rules, all_rules, broken, next_world, takes_line, line_named, verdict, verdict_from, verdict_left, late_after}
use Rattle.checker.specs.Verdicts.{refused_or}
use Rattle.checker.specs.Explains.{IsYes}
use Rattle.checker.specs.Meaning.{Means}
use Rattle.checker.specs.Judges.{broken_at, rules_at, Says}
use Rattle.checker.proofs.YesLemmas.{after_more, yes_explains}

-- the world that steps leave, and one step more
pub world_more : (header : Header) (lines : List Line) (w : Known) (earlier : List Step) (s : Step)
    → known_after_all header w (stamped header lines (earlier ++ s ∷ [])) ≡ next_world header lines (known_after_all header w (stamped header lines earlier)) s
world_more header lines w [] s = after_more header w (act_of header lines s) []
world_more header lines w (t ∷ earlier) s =
    after_more header w (act_of header lines t) (stamped header lines (earlier ++ s ∷ []))
    ∙ world_more header lines (next_world header lines w t) earlier s
    ∙ ap (λ (u : Known). next_world header lines u s) (sym (after_more header w (act_of header lines t) (stamped header lines earlier)))

-- What the verdict on the steps that are left says, where the earlier ones broke no rule.
module _ (t : Trace) where
  abbrev world_of : List Step → Known
  world_of earlier = known_after_all t.header (first_known t.header) (stamped t.header t.lines earlier)

  abbrev breaks : List Step → Step → Option Rule
  breaks earlier s = broken t.header t.lines earlier (world_of earlier) s

  -- among the steps that are left, none breaks a rule and a line is left, or one is the first that does
  abbrev SaysLeft : List Step → List Step → Verdict → Type 0
  SaysLeft earlier steps (Yes lines hidden) =
      (lines ≡ count_by (λ s. takes_line s.label) (earlier ++ steps))
      × (hidden ≡ count_by (λ s. not (takes_line s.label)) (earlier ++ steps))
  SaysLeft earlier steps (No witness_line trace_line rule) =
      ((witness_line ≡ 0) × (rule ≡ Unplaced)
      × ((line : Line) × (slice_get (unplaced t.header t.lines (moves (earlier ++ steps))) 0 ≡ Some (trace_line, line)))
      × ((i : ℕ) (s : Step) → slice_get steps i ≡ Some s → breaks (earlier ++ take i steps) s ≡ None))
      ⊎ ((witness_line ≡ 0) × (unplaced t.header t.lines (moves (earlier ++ steps)) ≡ [])
      × (late_after t.header (earlier ++ steps) (world_of (earlier ++ steps)) ≡ Some (trace_line, rule))
      × ((i : ℕ) (s : Step) → slice_get steps i ≡ Some s → breaks (earlier ++ take i steps) s ≡ None))
      ⊎ ((place : ℕ) × (witness_line ≡ length earlier + place + 2)
      × ((s : Step) × (slice_get steps place ≡ Some s) × (breaks (earlier ++ take place steps) s ≡ Some rule) × (trace_line ≡ line_named s.label))
      × ((i : ℕ) (s : Step) → i < place → slice_get steps i ≡ Some s → breaks (earlier ++ take i steps) s ≡ None))

  left_says : (left : List (ℕ × Line)) (late : Option (ℕ × Rule)) (earlier : List Step)
      → unplaced t.header t.lines (moves (earlier ++ [])) ≡ left
      → late_after t.header (earlier ++ []) (world_of (earlier ++ [])) ≡ late
      → SaysLeft earlier [] (verdict_left left late earlier)
  left_says [] None earlier is late_is = (
    ap (count_by (λ s. takes_line s.label)) (sym (append-nil earlier)),
    ap (count_by (λ s. not (takes_line s.label))) (sym (append-nil earlier)),
  )
  left_says [] (Some late) earlier is late_is = inr (inl (refl, is, late_is, λ i s here. absurd cc))
  left_says (e ∷ left) late earlier is late_is =
      inl (refl, refl, (e.1, ap (λ (es : List (ℕ × Line)). slice_get es 0) is), λ i s here. absurd cc)

  -- no step breaks a rule, nor one in front of them
  front_each : (earlier : List Step) (s : Step) (steps : List Step) → breaks earlier s ≡ None
      → ((i : ℕ) (u : Step) → slice_get steps i ≡ Some u → breaks ((earlier ++ s ∷ []) ++ take i steps) u ≡ None)
      → (i : ℕ) (u : Step) → slice_get (s ∷ steps) i ≡ Some u → breaks (earlier ++ take i (s ∷ steps)) u ≡ None
  front_each earlier s steps none each zero u here =
      (let same : s ≡ u = cc in subst (λ (xs : List Step). breaks xs u ≡ None) (sym (append-nil earlier))
      (subst (λ (x : Step). breaks earlier x ≡ None) same none))
  front_each earlier s steps none each (suc i) u here =
      subst (λ (xs : List Step). breaks xs u ≡ None) (append_assoc earlier (s ∷ []) (take i steps)) (each i u here)

  -- one step in front, which breaks no rule
  front : (earlier : List Step) (s : Step) (steps : List Step) (v : Verdict) → breaks earlier s ≡ None
      → SaysLeft (earlier ++ s ∷ []) steps v → SaysLeft earlier (s ∷ steps) v
  front earlier s steps (Yes lines hidden) none said = rw (append_assoc) at said
  front earlier s steps (No witness_line trace_line rule) none (inl said) =
      inl (said.0, said.1, (said.2.0, rw append_assoc at said.2.1), front_each earlier s steps none said.3)
  front earlier s steps (No witness_line trace_line rule) none (inr (inl said)) =
      let same : (earlier ++ s ∷ []) ++ steps ≡ earlier ++ s ∷ steps = append_assoc earlier (s ∷ []) steps in
      inr (inl (
        said.0,
        subst (λ (xs : List Step). unplaced t.header t.lines (moves xs) ≡ []) same said.1,
        subst (λ (xs : List Step). late_after t.header xs (world_of xs) ≡ Some (trace_line, rule)) same said.2,
        front_each earlier s steps none said.3,
      ))
  front earlier s steps (No witness_line trace_line rule) none (inr (inr said)) =
      inr (inr (
        suc said.0,
        (let len : length (earlier ++ s ∷ []) ≡ length earlier + 1 = length-append earlier (s ∷ []) in omega (arith, said.1)),
        (said.2.0, said.2.1, subst (λ (xs : List Step). breaks xs said.2.0 ≡ Some rule) (append_assoc earlier (s ∷ []) (take said.0 steps)) said.2.2, said.2.3),
        each,
      ))
    where
      each : (i : ℕ) (u : Step) → i < suc said.0 → slice_get (s ∷ steps) i ≡ Some u → breaks (earlier ++ take i (s ∷ steps)) u ≡ None
      each zero u lt here =
          (let same : s ≡ u = cc in subst (λ (xs : List Step). breaks xs u ≡ None) (sym (append-nil earlier))
          (subst (λ (x : Step). breaks earlier x ≡ None) same none))
      each (suc i) u lt here = subst (λ (xs : List Step). breaks xs u ≡ None) (append_assoc earlier (s ∷ []) (take i steps)) (said.3 i u (omega arith) here)

  from_says : (earlier : List Step) (steps : List Step) → SaysLeft earlier steps (verdict_from t.header t.lines earlier (world_of earlier) steps)
  from_says earlier [] =
      rw (append-nil earlier) at (left_says (unplaced t.header t.lines (moves (earlier ++ [])))
      (late_after t.header (earlier ++ []) (world_of (earlier ++ []))) earlier refl refl)
  from_says earlier (s ∷ steps) = by_rule (breaks earlier s) refl (from_says (earlier ++ s ∷ []) steps)
    where
      by_rule : (r : Option Rule) → breaks earlier s ≡ r
          → SaysLeft (earlier ++ s ∷ []) steps
          (verdict_from t.header t.lines (earlier ++ s ∷ []) (world_of (earlier ++ s ∷ [])) steps)
          → SaysLeft earlier (s ∷ steps)
          (refused_or (breaks earlier s) earlier s
          (verdict_from t.header t.lines (earlier ++ s ∷ [])
          (next_world t.header t.lines (world_of earlier) s) steps))
      by_rule None is rest =
          subst (λ (r : Option Rule). SaysLeft earlier (s ∷ steps)
          (refused_or r earlier s (verdict_from t.header t.lines (earlier ++ s ∷ [])
          (next_world t.header t.lines (world_of earlier) s) steps))) (sym is)
          (front earlier s steps (verdict_from t.header t.lines (earlier ++ s ∷ []) (next_world t.header t.lines (world_of earlier) s) steps) is
          (subst (λ (u : Known).
          SaysLeft (earlier ++ s ∷ []) steps (verdict_from t.header t.lines (earlier ++ s ∷ []) u steps))
          (world_more t.header t.lines (first_known t.header) earlier s) rest))
      by_rule (Some rule) is rest =
          subst (λ (r : Option Rule). SaysLeft earlier (s ∷ steps)
          (refused_or r earlier s (verdict_from t.header t.lines (earlier ++ s ∷ [])
          (next_world t.header t.lines (world_of earlier) s) steps))) (sym is)
          (inr (inr (
            0,
            omega arith,
            (
              s,
              refl,
              subst (λ (xs : List Step). breaks xs s ≡ Some rule) (sym (append-nil earlier)) is,
              refl,
            ),
            λ i u lt here. absurd (omega arith),
          )))

-- all rules of a step ascend: those of order, then those of the machine
all_ascend : (header : Header) (lines : List Line) (earlier : List Step) (w : Known) (s : Step) → ascend 1 (all_rules header lines earlier w s) ≡ true
all_ascend header lines earlier w s = go (act_of header lines s)
  where
    go : (act : Option (Stamped tcp_shape))
        → ascend 1 (order_rules (order_of header lines (moves earlier)) (move_of s)
        ++ option_map_or (act_rules header w) act []) ≡ true
    go None = refl
    go (Some act) = step_ascend header act.moment w act.step

-- each verdict says what holds
pub verdict_says : (t : Trace) (w : Witness) (v : Verdict) → verdict t w ≡ v → Says t w v
verdict_says t w (Yes lines hidden) is =
    let said = subst (λ (v : Verdict). SaysLeft t [] w.steps v) is (from_says t [] w.steps) in
    (yes_explains t w (subst IsYes (sym is) tt), record { lines_are = said.0; hidden_are = said.1 })
verdict_says t w (No witness_line trace_line rule) is =
    by (subst (λ (v : Verdict). SaysLeft t [] w.steps v) is (from_says t [] w.steps))
  where
    least_at : (place : ℕ) (s : Step) → broken_at t w place s ≡ Some rule → IsLeastBroken (rules_at t w place s) rule
    least_at place s broken = first_is_least 1 (rules_at t w place s) rule
        (all_ascend t.header t.lines (take place w.steps)
        (known_after_all t.header (first_known t.header) (stamped t.header t.lines (take place w.steps))) s) broken

    by : SaysLeft t [] w.steps (No witness_line trace_line rule) → Says t w (No witness_line trace_line rule)
    by (inl said) = inl (said.0, said.1, record { line = said.2.0; left = said.2.1; before = said.3 })
    by (inr (inl said)) = inr (inl (said.0, record { placed = said.1; late = said.2; before = said.3 }))
    by (inr (inr said)) =
        inr (inr (
          said.0,
          omega (arith, said.1),
          record {
            step = said.2.0;
            here = said.2.1;
            breaks = said.2.2;
            least = least_at said.0 said.2.0 said.2.2;
            names = said.2.3;
            before = said.3;
          },
        ))

-- what the verdict means, a function's answer means
pub answer_means : {E : Type 0} (t : Trace) (w : Witness) (r : Result Verdict E) → Means t w (verdict t w) → IfOk r (λ v. v ≡ verdict t w) → IfOk r (Means t w)
answer_means t w (Ok v) means is = subst (λ (u : Verdict). Means t w u) (sym is) means
answer_means t w (Err e) means is = tt
