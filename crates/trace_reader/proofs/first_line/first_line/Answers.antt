use Rattle.std.proofs.Common.{ap, ◌∙◌, Err}
use Rattle.std.proofs.lemmas.Result.{err_from_is_err_and}
use Rattle.line_fields.specs.declared.fault.SourceFault.{SourceFault}
use Rattle.line_fields.specs.Rows.{with_rest}
use Rattle.line_fields.proofs.ReadsLemmas.{reads_value, reads_fault, reads_text}
use Rattle.case_lines.specs.TextLeft.{last_raw}
use Rattle.trace_reader.specs.Headers.{first_version, first_line}
use Rattle.trace_reader.proofs.StreamLaw.{version_begins}
use Rattle.trace_reader.proofs.first_line.first_line.Goals as goal

pub returns-in_err-require_line-clause-line : goal.returns-in_err-require_line-clause-line
unfolding first_line
returns-in_err-require_line-clause-line g c =
    let p = err_from_is_err_and c.from_residual.result c.from_residual.ensures.1 in
    rw (p.1, p.2)
    (reads_text with_rest 1 first_version version_begins _ _ c.in_err-require_line.field-0.0
    (λ e is. c.require_line.ensures.fault e (c.in_err-require_line.was ∙ ap (λ (f : SourceFault). Err f) is)))

pub returns-in_err-version-clause-line : goal.returns-in_err-version-clause-line
unfolding first_line
returns-in_err-version-clause-line g c =
    let p = err_from_is_err_and c.from_residual-in_err-version.result c.from_residual-in_err-version.ensures.1 in
    rw (p.1, p.2) (reads_fault with_rest 1 first_version _ _ (last_raw c.require_line.new.self) c.in_err-version.field-0.0
    c.in_ok-require_line.ensures.line (rw c.raw.ensures at c.in_err-version.ensures))

pub returns-clause-line : goal.returns-clause-line
unfolding first_line
returns-clause-line g c =
    reads_value with_rest 1 first_version _ _ (last_raw c.require_line.new.self) c.in_ok-version.version
    c.in_ok-require_line.ensures.line (rw c.raw.ensures at c.in_ok-version.ensures)
