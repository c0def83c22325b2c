use Rattle.std.proofs.Common.{ap, ◌∙◌, Err}
use Rattle.std.proofs.lemmas.Result.{err_from_is_err_and}
use Rattle.counted.specs.Counting.{line_of}
use Rattle.line_fields.specs.declared.fault.SourceFault.{SourceFault}
use Rattle.line_fields.specs.Lines.{expect_line}
use Rattle.line_fields.specs.Rows.{rest_alone}
use Rattle.line_fields.proofs.ReadsLemmas.{reads_value, reads_fault, reads_text, exact_begins}
use Rattle.witness.specs.FirstLine.{first_text}
use Rattle.witness.proofs.stream.first_line.Goals as goal

pub returns-in_err-require_line-clause-line : goal.returns-in_err-require_line-clause-line
returns-in_err-require_line-clause-line g c =
    let p = err_from_is_err_and c.from_residual.result c.from_residual.ensures.1 in
    rw (p.1, p.2)
    (reads_text rest_alone 1 (expect_line 1 (first_text c.args.version))
    (exact_begins 1 (first_text c.args.version)) _ _ c.in_err-require_line.field-0.0
    (λ e is. c.require_line.ensures.fault e (c.in_err-require_line.was ∙ ap (λ (f : SourceFault). Err f) is)))

pub returns-in_err-expect_line-clause-line : goal.returns-in_err-expect_line-clause-line
returns-in_err-expect_line-clause-line g c =
    let p = err_from_is_err_and c.from_residual-in_err-expect_line.result c.from_residual-in_err-expect_line.ensures.1 in
    rw (p.1, p.2) (reads_fault rest_alone 1
    (expect_line 1 (first_text c.args.version)) _ _ (line_of c.require_line.new.source) c.in_err-expect_line.field-0.0
    c.in_ok-require_line.ensures.line
    (rw (c.line.ensures, c.first_text.ensures) at c.in_err-expect_line.ensures))

pub returns-clause-line : goal.returns-clause-line
returns-clause-line g c =
    reads_value rest_alone 1 (expect_line 1 (first_text c.args.version)) _ _ (line_of c.require_line.new.source) tt
    c.in_ok-require_line.ensures.line
    (rw (c.line.ensures, c.first_text.ensures) at c.in_ok-expect_line.ensures)
