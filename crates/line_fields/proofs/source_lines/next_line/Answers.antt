use Rattle.line_fields.specs.declared.fault.FaultKind.TheVariants.{LineTooLong}
use Rattle.std.proofs.Common.{◌≡◌, ◌+◌, length, ap, subst, ◌∙◌}
use Rattle.bstr.specs.Text.{without_terminator}
use Rattle.counted.specs.Counting.{left_of, line_of}
use Rattle.line_fields.specs.declared.fault.TextFault.{TextFault}
use Rattle.line_fields.specs.Rows.{rows_of, next_text, FailsAt}
use Rattle.line_fields.proofs.RowLemmas.{row_taken, no_row, too_long}
use Rattle.line_fields.proofs.source_lines.next_line.Goals as goal

pub returns-in-Ok-None-clause-none : goal.returns-in-Ok-None-clause-none
returns-in-Ok-None-clause-none g c = λ _. no_row 140002 _ _ (line_of c.next_line.new.self) (rw c.in-Ok-None.field-0-is at c.in-Ok-None.ensures.line)

pub returns-in-Ok-Some-eq0-clause-line : goal.returns-in-Ok-Some-eq0-clause-line
returns-in-Ok-Some-eq0-clause-line g c =
    λ _. row_taken 140002 _ _ (line_of c.next_line.new.self)
    (rw (c.in-Ok-Some-eq0.field-0-is, c.in-Ok-Some-eq0.field-0-0-test) at c.in-Ok-Some-eq0.ensures.line)

pub returns-in-Ok-Some-clause-fault : goal.returns-in-Ok-Some-clause-fault
returns-in-Ok-Some-clause-fault g c = λ e is.
    let gives = rw c.in-Ok-Some.field-0-is at c.in-Ok-Some.ensures.line in
    let text = c.without_line_end.ensures.content ∙ ap without_terminator c.line.ensures in
    let same : record {
      kind = LineTooLong;
      span = record {
        line = c.args.number;
        start = 0;
        stop = c.in-Ok-Some.before + length c.without_line_end.result.0.now;
      };
    } ≡ e = cc in
    subst (λ (f : TextFault). FailsAt (next_text c.args.number) f (rows_of (left_of g.B.Read.remaining c.args.source.now))) same
    (too_long _ _ (line_of c.next_line.new.self) c.without_line_end.result.0.now c.in-Ok-Some.before c.args.number gives c.in-Ok-Some.before-test.1 text)
