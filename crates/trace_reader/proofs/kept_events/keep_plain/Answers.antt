use Rattle.std.proofs.Common.{ap, Ok, ◌∙◌}
use Rattle.trace_reader.proofs.PlainLaw.{appended}
use Rattle.trace_reader.proofs.kept_events.keep_plain.Goals as goal

pub returns-in-Ok-true-clause-kept : goal.returns-in-Ok-true-clause-kept
returns-in-Ok-true-clause-kept c =
    let s = c.push_spelled.ensures.kept (c.in-Ok-true.is ∙ ap (λ b. Ok b) c.in-Ok-true.field-0-test) in
    appended _ c.args.number c.in_ok-line.line.record s.0 _ _ (c.in_ok-line.ensures.line s.0 s.1) s.2
