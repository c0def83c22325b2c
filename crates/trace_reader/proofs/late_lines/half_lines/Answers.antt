use Rattle.std.proofs.Common.{refl}
use Rattle.std.proofs.lemmas.Result.{err_from_is_err_and}
use Rattle.trace_reader.specs.Headers.{initial_line, half_line}
use Rattle.trace_reader.proofs.HeaderLaw.{with_host, with_half}
use Rattle.trace_reader.proofs.HeaderReads.{value_then, value_not, value_last}
use Rattle.trace_reader.proofs.late_lines.half_lines.Goals as goal

pub returns-in_err-initial-clause-value : goal.returns-in_err-initial-clause-value
returns-in_err-initial-clause-value g c =
    let p = err_from_is_err_and c.from_residual.result c.from_residual.ensures.1 in
    rw (p.1, p.2) (value_not initial_line with_half _ _ c.in_err-initial.field-0.0 c.in_err-initial.ensures.value)

pub returns-in_err-next_number-clause-value : goal.returns-in_err-next_number-clause-value
returns-in_err-next_number-clause-value g c =
    let p = err_from_is_err_and c.from_residual-in_err-next_number.result c.from_residual-in_err-next_number.ensures.1 in
    rw (p.1, p.2)
    (value_then initial_line with_half _ _ _ c.in_ok-initial.initial _ c.in_ok-initial.ensures.value
    (value_not half_line (with_host c.in_ok-initial.initial) _ _ c.in_err-next_number.field-0.0 c.in_err-next_number.ensures.value))

pub returns-clause-value : goal.returns-clause-value
returns-clause-value g c =
    value_then initial_line with_half _ _ _ c.in_ok-initial.initial _ c.in_ok-initial.ensures.value
    (value_last half_line (with_host c.in_ok-initial.initial) _ _ c.in_ok-next_number.field-0 _ (λ rest. refl) c.in_ok-next_number.ensures.value)
