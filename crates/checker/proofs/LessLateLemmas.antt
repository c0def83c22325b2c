-- With a greater slack, what explains a trace still explains it; with `any`, duties ask for nothing, and no rule of a duty
-- is named but that what a segment shows isn't true.
use Rattle.std.proofs.Common.{◌≡◌, ℕ, ◌≤◌, Bool, true, false, List, [], ◌∷◌, ◌++◌, Option, None, Some, inl, inr, refl, sym, ap, subst, ◌∙◌}
use Rattle.std.proofs.Common.{◌+◌, ◌⊎◌, take}
use Rattle.std.specs.Prelude.{nat_le}
use Rattle.std.specs.List.{cons_option}
use Rattle.std.specs.Option.{option_map_or}
use Rattle.std.proofs.lemmas.Option.{none-some, same_Some}
use Rattle.case_forms.specs.declared.steps.Step.{Step}
use Rattle.case_forms.specs.declared.steps.Witness.{Witness}
use Rattle.case_forms.specs.declared.trace.Header.{Header}
use Rattle.case_forms.specs.declared.trace.Line.{Line}
use Rattle.case_forms.specs.declared.trace.Trace.{Trace}
use Rattle.verdict.specs.Rules.{first_broken}
use Rattle.verdict.specs.declared.report.Verdict.TheVariants.{Yes, No}
use Rattle.verdict.specs.declared.rule.Rule.{Rule}
use Rattle.verdict.specs.declared.rule.Rule.TheVariants as rules
use Rattle.verdict.specs.declared.rule.Rule.TheVariants.{Unplaced}
use Rattle.interval_order.specs.OrderRules.{order_rules}
use Rattle.interval_order.specs.Orders.{Move, last_moment, order_of}
use Rattle.interval_order.specs.Placed.{Placed}
use Rattle.spec_network.specs.HostSteps.{start, Lawful}
use Rattle.spec_network.specs.Hosts.{Idle, Stamped}
use Rattle.spec_network.specs.Turns.{Turns}
use Rattle.spec_network.proofs.Turns.{turns}
use Rattle.spec_tcp.specs.Machine.{tcp, tcp_shape}
use Rattle.spec_tcp_laws.specs.Ascending.{rule_number}
use Rattle.spec_tcp_laws.proofs.Rules.{at_most_to, both_true}
use Rattle.duties.proofs.SlackLemmas.{dutiful_any, late_any, nothing_judged}
use Rattle.spec_duties.specs.Watching.{untrue_rules}
use Rattle.spec_duties.specs.declared.observations.Untruth.{Untruth}
use Rattle.spec_duties.specs.declared.observations.Untruth.TheVariants as untruth
use Rattle.spec_flights.specs.Flights.{judges}
use Rattle.spec_cases.specs.Cases.{Dutiful, Known, first_known, known_after_all, late_at_end, model_rules, shown, untrue_at, watch_rules}
use Rattle.spec_cases.specs.Slack.{AtMost, with_slack}
use Rattle.watched.proofs.AscendLemmas.{tops}
use Rattle.watched.proofs.RefusalLemmas.{model_top}
use Rattle.watched.proofs.SlackRuns.{dutiful_with, end_with, lawful_with}
use Rattle.checker.specs.Explains.{Explains}
use Rattle.checker.specs.Judges.{BreaksFirst, LeavesLine, OwesAtEnd}
use Rattle.checker.specs.Seen.{act_of, move_of, moves, stamped}
use Rattle.checker.specs.Slack.{AnyNamesNoDuty, IsUntrueLine, LessLateStaysYes, trace_with}
use Rattle.checker.specs.Verdicts.{act_rules, all_rules, verdict}
use Rattle.checker.proofs.JudgeLemmas.{verdict_says}
use Rattle.checker.proofs.JudgedLemmas.{same_counts}
use Rattle.checker.proofs.YesLemmas.{explains_yes}

-- neither the steps as the model sees them nor a placement reads the slack
stamped_with : (slack : Option ℕ) (h : Header) (all : List Line) (steps : List Step) → stamped (with_slack slack h) all steps ≡ stamped h all steps
stamped_with slack h all [] = refl
stamped_with slack h all (s ∷ steps) = ap (cons_option (act_of h all s)) (stamped_with slack h all steps)

placed_with : (slack : Option ℕ) (h : Header) (all : List Line) (steps : List Move) → Placed h all steps → Placed (with_slack slack h) all steps
placed_with slack h all steps p = record {
  rising = p.rising;
  every = p.every;
  once = p.once;
  timely = λ n i t. let found = p.timely n i t in (found.0, found.1, record { count = found.2.count; since = found.2.since; until = found.2.until });
  threads = p.threads;
}

explained_with : (slack : Option ℕ) (t : Trace) (w : Witness) → AtMost t.header.slack slack → Explains t w → Explains (trace_with slack t) w
explained_with slack t w at e =
    let by = with_slack slack t.header in
    let same = stamped_with slack t.header t.lines w.steps in
    let run : Lawful (tcp (with_slack slack t.header)) (start (tcp (with_slack slack t.header))) (stamped (with_slack slack t.header) t.lines w.steps) =
    subst (λ (xs : List (Stamped tcp_shape)). Lawful (tcp (with_slack slack t.header)) (start (tcp (with_slack slack t.header))) xs) (sym same)
    (lawful_with slack t.header (start (tcp t.header)) (stamped t.header t.lines w.steps) e.run) in
    record {
      placed = placed_with slack t.header t.lines (moves w.steps) e.placed;
      turns = λ thread. turns (tcp by) thread (start (tcp by)) (stamped by t.lines w.steps) run;
      run = run;
      duties =
          subst (λ (xs : List (Stamped tcp_shape)). Dutiful (with_slack slack t.header) (first_known (with_slack slack t.header)) xs) (sym same)
          (dutiful_with t.header.slack slack t.header (stamped t.header t.lines w.steps) at e.duties);
      in_time =
          ap (λ (xs : List (Stamped tcp_shape)). late (known_after_all (with_slack slack t.header) (first_known t.header) xs)) same
          ∙ end_with t.header.slack slack t.header (stamped t.header t.lines w.steps) (last_moment (moves w.steps)) at e.duties e.in_time;
    }
  where
    late : Known → Option (ℕ × Rule)
    late k = late_at_end (with_slack slack t.header) (last_moment (moves w.steps)) k

pub less_late_stays_yes : (slack : Option ℕ) → LessLateStaysYes slack
less_late_stays_yes slack = record {
  explains = λ t w at e. explained_with slack t w at e;
  yes = λ t w lines hidden at is.
      let said = verdict_says t w (Yes lines hidden) is in
      same_counts (trace_with slack t) w lines hidden said.1 (verdict (trace_with slack t) w) refl
      (explains_yes (trace_with slack t) w (explained_with slack t w at said.0));
}

-- ---- with `any`

-- lines that are placed, in turns, by a run of the model are explained, if data in flight isn't judged
pub explained_by_model : (t : Trace) (w : Witness) → t.header.slack ≡ None → judges t.header ≡ false → Placed t.header t.lines (moves w.steps)
    → ((thread : ℕ) → Turns (tcp t.header) thread Idle (stamped t.header t.lines w.steps))
    → Lawful (tcp t.header) (start (tcp t.header)) (stamped t.header t.lines w.steps) → Explains t w
explained_by_model t w any unjudged placed take_turns run = record {
  placed = placed;
  turns = take_turns;
  run = run;
  duties = dutiful_any t.header (first_known t.header) (stamped t.header t.lines w.steps) any unjudged;
  in_time = late_any t.header (last_moment (moves w.steps)) (known_after_all t.header (first_known t.header) (stamped t.header t.lines w.steps)) any;
}

-- what a no may name: a rule of order or of the model, or that what a segment shows isn't true
abbrev MayName : Rule → Type 0
MayName rule = (rule_number rule ≤ 39) ⊎ IsUntrueLine rule

first_named : (xs ys : List (Rule × Bool)) (rule : Rule) → tops xs ≡ true → (first_broken ys ≡ Some rule → MayName rule)
    → first_broken (xs ++ ys) ≡ Some rule → MayName rule
first_named [] ys rule top rest is = rest is
first_named ((r, true) ∷ xs) ys rule top rest is =
    inl (subst (λ (x : Rule). rule_number x ≤ 39) (same_Some r rule is) (at_most_to (rule_number r) 39 (both_true (nat_le (rule_number r) 39) (tops xs) top).0))
first_named ((r, false) ∷ xs) ys rule top rest is = first_named xs ys rule (both_true (nat_le (rule_number r) 39) (tops xs) top).1 rest is

untrue_named : (untrue : Option Untruth) (rule : Rule) → first_broken (untrue_rules untrue) ≡ Some rule → MayName rule
untrue_named None rule is = absurd (none-some rule is)
untrue_named (Some untruth.Blocks) rule is = inr (inl (sym (same_Some rules.SackUntrue rule is)))
untrue_named (Some untruth.Echo) rule is = inr (inr (inl (sym (same_Some rules.Echo rule is))))
untrue_named (Some untruth.Clock) rule is = inr (inr (inr (sym (same_Some rules.ClockFalls rule is))))

case_named : (h : Header) (k : Known) (o : Option (Stamped tcp_shape)) (rule : Rule) → h.slack ≡ None
    → first_broken (option_map_or (act_rules h k) o []) ≡ Some rule → MayName rule
case_named h k None rule any is = absurd (none-some rule is)
case_named h k (Some x) rule any is =
    let untrue = untrue_at h x.moment k x.step in
    let none = nothing_judged h x.moment k.duties untrue (shown h x.moment k x.step) any in
    first_named (model_rules h x.moment k x.step) (watch_rules h x.moment k x.step) rule (model_top h x.moment k x.step)
    (λ broken. untrue_named untrue rule (sym (ap first_broken none) ∙ broken)) is

all_named : (h : Header) (lines : List Line) (earlier : List Step) (k : Known) (s : Step) (rule : Rule) → h.slack ≡ None
    → first_broken (all_rules h lines earlier k s) ≡ Some rule → MayName rule
all_named h lines earlier k s rule any is =
    first_named (order_rules (order_of h lines (moves earlier)) (move_of s)) (option_map_or (act_rules h k) (act_of h lines s) []) rule refl
    (case_named h k (act_of h lines s) rule any) is

pub any_names_no_duty : AnyNamesNoDuty
any_names_no_duty t w witness_line trace_line rule any is = by (verdict_says t w (No witness_line trace_line rule) is)
  where
    before : ℕ → Known
    before place = known_after_all t.header (first_known t.header) (stamped t.header t.lines (take place w.steps))

    ended : Known
    ended = known_after_all t.header (first_known t.header) (stamped t.header t.lines w.steps)

    by : ((witness_line ≡ 0) × (rule ≡ Unplaced) × LeavesLine t w trace_line)
        ⊎ ((witness_line ≡ 0) × OwesAtEnd t w trace_line rule)
        ⊎ ((place : ℕ) × (witness_line ≡ place + 2) × BreaksFirst t w place trace_line rule)
        → MayName rule
    by (inl left) = inl (rw left.1 (at_most_to 39 39 refl))
    by (inr (inl owes)) = absurd (none-some (trace_line, rule) (sym (late_any t.header (last_moment (moves w.steps)) ended any) ∙ owes.1.late))
    by (inr (inr breaks)) =
        all_named t.header t.lines (take breaks.0 w.steps) (before breaks.0) breaks.2.step rule any breaks.2.breaks
