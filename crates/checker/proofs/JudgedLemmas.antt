-- Where less of congestion control is judged, what explains a trace still explains it.
use Rattle.std.proofs.Common.{◌≡◌, ℕ, ◌≤◌, List, [], ◌∷◌, Option, refl, sym, ap, subst, ◌∙◌}
use Rattle.std.specs.List.{cons_option}
use Rattle.case_forms.specs.declared.steps.Step.{Step}
use Rattle.case_forms.specs.declared.steps.Witness.{Witness}
use Rattle.case_forms.specs.declared.trace.Header.{Header}
use Rattle.case_forms.specs.declared.trace.Line.{Line}
use Rattle.case_forms.specs.declared.trace.Trace.{Trace}
use Rattle.case_forms.specs.declared.version.Judged.{Judged}
use Rattle.verdict.specs.declared.rule.Rule.{Rule}
use Rattle.verdict.specs.declared.report.Verdict.{Verdict}
use Rattle.verdict.specs.declared.report.Verdict.TheVariants.{Yes, No}
use Rattle.interval_order.specs.Orders.{Move, last_moment}
use Rattle.interval_order.specs.Placed.{Placed}
use Rattle.spec_network.specs.Hosts.{Stamped}
use Rattle.spec_network.specs.HostSteps.{start, Lawful}
use Rattle.spec_network.proofs.Turns.{turns}
use Rattle.spec_tcp.specs.Machine.{tcp, tcp_shape}
use Rattle.spec_tcp_laws.specs.Judging.{extent, header_by}
use Rattle.spec_tcp_laws.proofs.JudgedRuns.{judged_start, lawful_by}
use Rattle.spec_cases.specs.Cases.{Dutiful, Known, first_known, known_after_all, late_at_end}
use Rattle.watched.proofs.LevelRuns.{dutiful_by, end_by, known_by}
use Rattle.checker.specs.Explains.{Explains, IsYes}
use Rattle.checker.specs.Judges.{Counts}
use Rattle.checker.specs.Judging.{trace_by}
use Rattle.checker.specs.Seen.{act_of, moves, stamped}
use Rattle.checker.specs.Verdicts.{verdict}
use Rattle.checker.proofs.JudgeLemmas.{verdict_says}
use Rattle.checker.proofs.YesLemmas.{explains_yes}

-- neither the steps as the machine sees them nor a placement reads that word
stamped_by : (j : Judged) (h : Header) (all : List Line) (steps : List Step) → stamped (header_by j h) all steps ≡ stamped h all steps
stamped_by j h all [] = refl
stamped_by j h all (s ∷ steps) = ap (cons_option (act_of h all s)) (stamped_by j h all steps)

placed_by : (j : Judged) (h : Header) (all : List Line) (steps : List Move) → Placed h all steps → Placed (header_by j h) all steps
placed_by j h all steps p = record {
  rising = p.rising;
  every = p.every;
  once = p.once;
  timely = λ n i t. let found = p.timely n i t in (found.0, found.1, record { count = found.2.count; since = found.2.since; until = found.2.until });
  threads = p.threads;
}

explained_by : (j : Judged) (t : Trace) (w : Witness) → extent j ≤ extent t.header.congestion → Explains t w → Explains (trace_by j t) w
explained_by j t w le e =
    let by = header_by j t.header in
    let same = stamped_by j t.header t.lines w.steps in
    let run : Lawful (tcp (header_by j t.header)) (start (tcp (header_by j t.header))) (stamped (header_by j t.header) t.lines w.steps) =
    subst (λ (xs : List (Stamped tcp_shape)). Lawful (tcp (header_by j t.header)) (start (tcp (header_by j t.header))) xs)
    (sym same)
    (lawful_by j t.header (start (tcp t.header)) (stamped t.header t.lines w.steps) le (judged_start t.header) e.run) in
    record {
      placed = placed_by j t.header t.lines (moves w.steps) e.placed;
      turns = λ thread. turns (tcp by) thread (start (tcp by)) (stamped by t.lines w.steps) run;
      run = run;
      duties =
          subst (λ (xs : List (Stamped tcp_shape)). Dutiful (header_by j t.header) (first_known (header_by j t.header)) xs) (sym same)
          (dutiful_by j t.header (first_known t.header) (stamped t.header t.lines w.steps) le (judged_start t.header) e.run e.duties);
      in_time =
          ap (λ (xs : List (Stamped tcp_shape)). late (known_after_all (header_by j t.header) (first_known (header_by j t.header)) xs)) same
          ∙ ap late (known_by j t.header (first_known t.header) (stamped t.header t.lines w.steps) le (judged_start t.header) e.run)
          ∙ end_by j t.header (last_moment (moves w.steps)) (known_after_all t.header (first_known t.header) (stamped t.header t.lines w.steps))
          ∙ e.in_time;
    }
  where
    late : Known → Option (ℕ × Rule)
    late k = late_at_end (header_by j t.header) (last_moment (moves w.steps)) k

-- a yes on the same witness has the same counts
pub same_counts : (u : Trace) (w : Witness) (lines hidden : ℕ) → Counts w lines hidden → (v : Verdict) → verdict u w ≡ v → IsYes v
    → verdict u w ≡ Yes lines hidden
same_counts u w lines hidden c (Yes some others) is said =
    let d = (verdict_says u w (Yes some others) is).1 in
    is ∙ ap (λ (n : ℕ). Yes n others) (d.lines_are ∙ sym c.lines_are) ∙ ap (λ (n : ℕ). Yes lines n) (d.hidden_are ∙ sym c.hidden_are)
same_counts u w lines hidden c (No witness_line trace_line rule) is said = absurd said

pub yes_stays : (j : Judged) (t : Trace) (w : Witness) (lines hidden : ℕ) → extent j ≤ extent t.header.congestion
    → verdict t w ≡ Yes lines hidden
    → verdict (trace_by j t) w ≡ Yes lines hidden
yes_stays j t w lines hidden le is =
    let said = verdict_says t w (Yes lines hidden) is in
    same_counts (trace_by j t) w lines hidden said.1 (verdict (trace_by j t) w) refl (explains_yes (trace_by j t) w (explained_by j t w le said.0))
