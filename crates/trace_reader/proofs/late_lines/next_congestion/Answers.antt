use Rattle.std.proofs.Common.{ap, ◌∙◌, Err}
use Rattle.std.proofs.lemmas.Result.{err_from_is_err_and}
use Rattle.std.specs.Prelude.{codes}
use Rattle.line_fields.specs.declared.fault.SourceFault.{SourceFault}
use Rattle.line_fields.specs.Congestion.{judged_field}
use Rattle.line_fields.specs.Rows.{with_rest}
use Rattle.line_fields.proofs.ReadsLemmas.{reads_text}
use Rattle.trace_reader.specs.Headers.{value_line, next_value}
use Rattle.trace_reader.proofs.StreamLaw.{value_begins}
use Rattle.trace_reader.proofs.late_lines.next_congestion.Goals as goal

pub returns-in_err-require_line-clause-value : goal.returns-in_err-require_line-clause-value
unfolding next_value
returns-in_err-require_line-clause-value g c =
    let p = err_from_is_err_and c.from_residual.result c.from_residual.ensures.1 in
    rw (p.1, p.2)
    (reads_text with_rest 9 (value_line 9 (codes "congestion") (judged_field c.args.version))
    (value_begins 9 (codes "congestion") (judged_field c.args.version)) _ _ c.in_err-require_line.field-0.0
    (λ e is. c.require_line.ensures.fault e (c.in_err-require_line.was ∙ ap (λ (f : SourceFault). Err f) is)))
