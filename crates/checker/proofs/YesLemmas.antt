-- A yes explains the trace, and what explains it gets a yes.
use Rattle.std.proofs.Common.{◌≡◌, ℕ, Bool, List, [], ◌∷◌, ◌++◌, refl, sym, ap, ◌∙◌, subst, Option, Some, None}
use Rattle.std.specs.List.{cons_option}
use Rattle.std.specs.Option.{option_map_or}
use Rattle.std.proofs.lemmas.List.{map-append, append-nil, append_assoc}
use Rattle.case_forms.specs.declared.trace.Header.{Header}
use Rattle.case_forms.specs.declared.trace.Line.{Line}
use Rattle.case_forms.specs.declared.trace.Trace.{Trace}
use Rattle.case_forms.specs.declared.steps.Step.{Step}
use Rattle.case_forms.specs.declared.steps.Witness.{Witness}
use Rattle.verdict.specs.declared.rule.Rule.{Rule}
use Rattle.verdict.specs.Rules.{first_broken}
use Rattle.verdict.proofs.RuleLemmas.{none_both, first_broken-append_none}
use Rattle.interval_order.specs.Orders.{Move, unplaced, order_of}
use Rattle.interval_order.specs.OrderRules.{order_rules}
use Rattle.interval_order.proofs.PlacedFrom.{IsOrderly, placed_from_orderly}
use Rattle.interval_order.proofs.PlacedTo.{orderly_from_placed}
use Rattle.spec_network.specs.Hosts.{Stamped}
use Rattle.spec_network.specs.HostSteps.{start, Lawful}
use Rattle.spec_network.proofs.Turns.{turns}
use Rattle.spec_tcp.specs.Machine.{tcp, tcp_shape}
use Rattle.spec_cases.specs.Cases.{Known, first_known, Dutiful, known_after_all, model_rules, watch_rules}
use Rattle.watched.proofs.CaseLemmas.{fine_by, not_refused_by, permitted_by}
use Rattle.checker.specs.Seen.{move_of, moves, act_of, stamped}
use Rattle.checker.specs.Verdicts.{act_rules, act_after, broken, late_after, next_world, verdict, verdict_from, verdict_left, refused_or}
use Rattle.checker.specs.Explains.{Explains, IsYes}

-- no step breaks a rule, and each line is placed in the end
abbrev pub IsClean : Header → List Line → List Step → Known → List Step → Type 0
IsClean header lines earlier w [] = (unplaced header lines (moves earlier) ≡ []) × (late_after header earlier w ≡ None)
IsClean header lines earlier w (s ∷ steps) =
    (broken header lines earlier w s ≡ None)
    × IsClean header lines (earlier ++ s ∷ []) (next_world header lines w s) steps

none_left : (left : List (ℕ × Line)) (late : Option (ℕ × Rule)) (steps : List Step) → IsYes (verdict_left left late steps)
    → (left ≡ []) × (late ≡ None)
none_left [] None steps said = (refl, refl)
none_left [] (Some late) steps said = absurd said
none_left (e ∷ left) late steps said = absurd said

pub clean_from_yes : (header : Header) (lines : List Line) (earlier : List Step) (w : Known)
    (steps : List Step) → IsYes (verdict_from header lines earlier w steps) → IsClean header lines earlier w steps
clean_from_yes header lines earlier w [] said =
    none_left (unplaced header lines (moves earlier)) (late_after header earlier w) earlier said
clean_from_yes header lines earlier w (s ∷ steps) said =
    by_rule (broken header lines earlier w s) refl said (λ rest. clean_from_yes header lines (earlier ++ s ∷ []) (next_world header lines w s) steps rest)
  where
    by_rule : (r : Option Rule) → broken header lines earlier w s ≡ r
        → IsYes (refused_or r earlier s (verdict_from header lines (earlier ++ s ∷ []) (next_world header lines w s) steps))
        → (IsYes (verdict_from header lines (earlier ++ s ∷ []) (next_world header lines w s) steps)
        → IsClean header lines (earlier ++ s ∷ []) (next_world header lines w s) steps)
        → IsClean header lines earlier w (s ∷ steps)
    by_rule None is said rest = (is, rest said)
    by_rule (Some rule) is said rest = absurd said

left_said : (left : List (ℕ × Line)) (late : Option (ℕ × Rule)) (steps : List Step) → left ≡ [] → late ≡ None
    → IsYes (verdict_left left late steps)
left_said [] None steps e n = tt
left_said [] (Some late) steps e n = absurd cc
left_said (x ∷ left) late steps e n = absurd cc

yes_from_clean : (header : Header) (lines : List Line) (earlier : List Step) (w : Known) (steps : List Step)
    → IsClean header lines earlier w steps → IsYes (verdict_from header lines earlier w steps)
yes_from_clean header lines earlier w [] clean =
    left_said (unplaced header lines (moves earlier)) (late_after header earlier w) earlier clean.0 clean.1
yes_from_clean header lines earlier w (s ∷ steps) clean =
    subst (λ (r : Option Rule). IsYes
    (refused_or r earlier s (verdict_from header lines (earlier ++ s ∷ [])
    (next_world header lines w s) steps))) (sym clean.0)
    (yes_from_clean header lines (earlier ++ s ∷ []) (next_world header lines w s) steps clean.1)

pub moves_more : (earlier : List Step) (s : Step) → moves (earlier ++ s ∷ []) ≡ moves earlier ++ move_of s ∷ []
moves_more earlier s = map-append move_of earlier (s ∷ [])

-- the machine's part of the rules of a step
abbrev act_part : Header → Known → Option (Stamped tcp_shape) → List (Rule × Bool)
act_part header w act = option_map_or (act_rules header w) act []

order_part : (header : Header) (lines : List Line) (earlier : List Step) (w : Known) (steps : List Step)
    → IsClean header lines earlier w steps → IsOrderly header lines (moves earlier) (moves steps)
order_part header lines earlier w [] clean = clean.0
order_part header lines earlier w (s ∷ steps) clean = (
  (none_both (order_rules (order_of header lines (moves earlier)) (move_of s)) (act_part header w (act_of header lines s)) clean.0).0,
  subst (λ (ms : List Move). IsOrderly header lines ms (moves steps)) (moves_more earlier s)
      (order_part header lines (earlier ++ s ∷ []) (next_world header lines w s) steps clean.1),
)

-- a run of the model that duties permit
abbrev IsKeptRun : Header → Known → List (Stamped tcp_shape) → Type 0
IsKeptRun header w acts = Lawful (tcp header) w.model acts × Dutiful header w acts

run_more : (header : Header) (w : Known) (act : Option (Stamped tcp_shape)) (rest : List (Stamped tcp_shape))
    → first_broken (act_part header w act) ≡ None → IsKeptRun header (option_map_or (act_after header w) act w) rest
    → IsKeptRun header w (cons_option act rest)
run_more header w None rest none run = run
run_more header w (Some act) rest none run =
    let both = none_both (model_rules header act.moment w act.step) (watch_rules header act.moment w act.step) none in (
      (permitted_by header act.moment w act.step both.0, run.0),
      (record { duties = both.1; flights = not_refused_by header act.moment w act.step both.0 }, run.1),
    )

run_part : (header : Header) (lines : List Line) (earlier : List Step) (w : Known) (steps : List Step)
    → IsClean header lines earlier w steps → IsKeptRun header w (stamped header lines steps)
run_part header lines earlier w [] clean = (tt, tt)
run_part header lines earlier w (s ∷ steps) clean =
    run_more header w (act_of header lines s) (stamped header lines steps)
    (none_both (order_rules (order_of header lines (moves earlier)) (move_of s)) (act_part header w (act_of header lines s)) clean.0).1
    (run_part header lines (earlier ++ s ∷ []) (next_world header lines w s) steps clean.1)

-- what is known after steps, one by one
pub after_more : (header : Header) (w : Known) (act : Option (Stamped tcp_shape)) (rest : List (Stamped tcp_shape))
    → known_after_all header w (cons_option act rest) ≡ known_after_all header (option_map_or (act_after header w) act w) rest
after_more header w None rest = refl
after_more header w (Some act) rest = refl

-- what is late at the end, from these steps on
abbrev late_behind : Header → List Line → List Step → Known → List Step → Option (ℕ × Rule)
late_behind header lines earlier w steps = late_after header (earlier ++ steps) (known_after_all header w (stamped header lines steps))

late_more : (header : Header) (lines : List Line) (earlier : List Step) (w : Known) (s : Step) (steps : List Step)
    → late_behind header lines (earlier ++ s ∷ []) (next_world header lines w s) steps ≡ late_behind header lines earlier w (s ∷ steps)
late_more header lines earlier w s steps =
    ap (λ (es : List Step). late_after header es (known_after_all header (next_world header lines w s) (stamped header lines steps)))
    (append_assoc earlier (s ∷ []) steps)
    ∙ ap (λ (k : Known). late_after header (earlier ++ s ∷ steps) k) (sym (after_more header w (act_of header lines s) (stamped header lines steps)))

late_end : (header : Header) (lines : List Line) (earlier : List Step) (w : Known) → late_after header earlier w ≡ late_behind header lines earlier w []
late_end header lines earlier w = ap (λ (es : List Step). late_after header es w) (sym (append-nil earlier))

late_part : (header : Header) (lines : List Line) (earlier : List Step) (w : Known) (steps : List Step)
    → IsClean header lines earlier w steps → late_behind header lines earlier w steps ≡ None
late_part header lines earlier w [] clean = sym (late_end header lines earlier w) ∙ clean.1
late_part header lines earlier w (s ∷ steps) clean =
    sym (late_more header lines earlier w s steps)
    ∙ late_part header lines (earlier ++ s ∷ []) (next_world header lines w s) steps clean.1

run_none : (header : Header) (w : Known) (act : Option (Stamped tcp_shape)) (rest : List (Stamped tcp_shape))
    → IsKeptRun header w (cons_option act rest) → first_broken (act_part header w act) ≡ None
run_none header w None rest run = refl
run_none header w (Some act) rest run =
    first_broken-append_none (model_rules header act.moment w act.step) (watch_rules header act.moment w act.step)
    (fine_by header act.moment w act.step run.1.0.flights run.0.0)
    ∙ run.1.0.duties

run_rest : (header : Header) (w : Known) (act : Option (Stamped tcp_shape)) (rest : List (Stamped tcp_shape))
    → IsKeptRun header w (cons_option act rest) → IsKeptRun header (option_map_or (act_after header w) act w) rest
run_rest header w None rest run = run
run_rest header w (Some act) rest run = (run.0.1, run.1.1)

both_parts : (header : Header) (lines : List Line) (earlier : List Step) (w : Known) (steps : List Step)
    → IsOrderly header lines (moves earlier) (moves steps) → IsKeptRun header w (stamped header lines steps)
    → late_behind header lines earlier w steps ≡ None → IsClean header lines earlier w steps
both_parts header lines earlier w [] orderly run late = (orderly, late_end header lines earlier w ∙ late)
both_parts header lines earlier w (s ∷ steps) orderly run late = (
  first_broken-append_none (order_rules (order_of header lines (moves earlier)) (move_of s))
      (act_part header w (act_of header lines s)) orderly.0
      ∙ run_none header w (act_of header lines s) (stamped header lines steps) run,
  both_parts header lines (earlier ++ s ∷ []) (next_world header lines w s) steps
      (subst (λ (ms : List Move). IsOrderly header lines ms (moves steps)) (sym (moves_more earlier s)) orderly.1)
      (run_rest header w (act_of header lines s) (stamped header lines steps) run)
      (late_more header lines earlier w s steps ∙ late),
)

pub yes_explains : (t : Trace) (w : Witness) → IsYes (verdict t w) → Explains t w
yes_explains t w said =
    let first : Known = first_known t.header in
    let clean : IsClean t.header t.lines [] first w.steps = clean_from_yes t.header t.lines [] first w.steps said in
    let run : IsKeptRun t.header first (stamped t.header t.lines w.steps) = run_part t.header t.lines [] first w.steps clean in
    record {
      placed = placed_from_orderly t.header t.lines (moves w.steps) (order_part t.header t.lines [] first w.steps clean);
      turns = λ thread. turns (tcp t.header) thread (start (tcp t.header)) (stamped t.header t.lines w.steps) run.0;
      run = run.0;
      duties = run.1;
      in_time = late_part t.header t.lines [] first w.steps clean;
    }

pub explains_yes : (t : Trace) (w : Witness) → Explains t w → IsYes (verdict t w)
explains_yes t w e =
    yes_from_clean t.header t.lines [] (first_known t.header) w.steps
    (both_parts t.header t.lines [] (first_known t.header) w.steps (orderly_from_placed t.header t.lines (moves w.steps) e.placed) (e.run, e.duties) e.in_time)
