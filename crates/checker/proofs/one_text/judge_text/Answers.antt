use Rattle.std.proofs.Common.{◌≡◌, ℕ, List, Option, Some, Ok, Err, ap, subst, sym, ◌∙◌}
use Rattle.std.specs.Option.{option_map, IfSome}
use Rattle.counted.specs.declared.ends.Counted.{Counted}
use Rattle.counted.specs.Counting.{left_of}
use Rattle.line_fields.specs.declared.fault.TextFault.{TextFault}
use Rattle.line_fields.specs.Faults.{missing_line}
use Rattle.trace_reader.specs.TraceText.{trace_in}
use Rattle.case_lines.specs.CaseLines.{KeepsWitness}
use Rattle.trace_reader.specs.TraceLeft.{source_of, end_of_text, rows_behind}
use Rattle.checker.specs.declared.case.CaseFault.{CaseFault}
use Rattle.checker.specs.declared.case.CaseFault.TheVariants as faults
use Rattle.checker.specs.Ahead.{TraceFails}
use Rattle.checker.specs.Cases.{case_fault}
use Rattle.checker.specs.OneText.{GivesText, steps_behind, trace_with}
use Rattle.checker.specs.Streaming.{Tells}
use Rattle.checker.proofs.OneTextLemmas.{fresh_same, met_tells, none_tells, fault_tells}
use Rattle.checker.proofs.one_text.judge_text.Goals as goal

pub returns-then-has_met_witness-clause-exact : goal.returns-then-has_met_witness-clause-exact
returns-then-has_met_witness-clause-exact g c =
    let known = g.R.Read.remaining in
    let fresh = c.of_case-trace.ensures in
    let same = fresh_same known c.args.source c.of_case-trace.result fresh.source fresh.end in
    let new = c.read_trace.new.trace in
    let header = c.in-Ok.header in
    met_tells (left_of known c.args.source) (left_of known (source_of new)) (end_of_text new) header c.in-Ok.lines c.judge_lines.result.0
    (subst (λ (rows : Option (List (List ℕ))). IfSome (option_map trace_in rows) (λ whole.
    whole ≡ Ok (trace_with header c.in-Ok.lines))) same.0 c.in-Ok.ensures.whole)
    (subst (λ (old : Option (Option (List (List ℕ)))). KeepsWitness old (rows_behind known new)) same.1 c.in-Ok.ensures.witness)
    (sym c.has_met_witness.ensures ∙ c.if-has_met_witness.true)
    (subst (λ (s : Counted g.row.R.Denot). Tells header (Some (Ok c.in-Ok.lines))
    (steps_behind header.version (left_of known s)) c.judge_lines.result.0) c.into_source.ensures c.judge_lines.ensures.tells)

pub returns-else-has_met_witness-clause-exact : goal.returns-else-has_met_witness-clause-exact
returns-else-has_met_witness-clause-exact g c =
    let known = g.R.Read.remaining in
    let fresh = c.of_case-trace.ensures in
    let same = fresh_same known c.args.source c.of_case-trace.result fresh.source fresh.end in
    let new = c.read_trace.new.trace in
    let header = c.in-Ok.header in
    let missing : c.witness_fault-missing.result ≡ faults.Witness (missing_line 1) =
    c.witness_fault-missing.ensures.fault
    ∙ ap (λ (f : TextFault). case_fault f.kind (faults.Witness f)) c.missing_line.ensures in
    subst (λ (e : CaseFault). GivesText (Err e) (left_of known c.args.source)) (sym missing)
    (none_tells (left_of known c.args.source) (left_of known (source_of new)) (end_of_text new) header c.in-Ok.lines
    (subst (λ (rows : Option (List (List ℕ))). IfSome (option_map trace_in rows) (λ whole.
    whole ≡ Ok (trace_with header c.in-Ok.lines))) same.0 c.in-Ok.ensures.whole)
    (subst (λ (old : Option (Option (List (List ℕ)))). KeepsWitness old (rows_behind known new)) same.1 c.in-Ok.ensures.witness)
    (sym c.has_met_witness.ensures ∙ c.if-has_met_witness.false)
    c.in-Ok.ensures.ended)

pub returns-in-Err-clause-exact : goal.returns-in-Err-clause-exact
returns-in-Err-clause-exact g c =
    let known = g.R.Read.remaining in
    let fresh = c.of_case-trace.ensures in
    let same = fresh_same known c.args.source c.of_case-trace.result fresh.source fresh.end in
    fault_tells (left_of known c.args.source) c.in-Err.fault
    (subst (λ (rows : Option (List (List ℕ))). TraceFails c.in-Err.fault (option_map trace_in rows)) same.0 c.in-Err.ensures.fault)
