use Rattle.std.proofs.Common.{sym, ◌∙◌}
use Rattle.witness.proofs.TextLaw.{begins_exactly}
use Rattle.witness.proofs.first_line.is_first_line.Goals as goal

pub returns-then-ended-clause-exact : goal.returns-then-ended-clause-exact
returns-then-ended-clause-exact c =
    let first = c.as_bytes.ensures.value ∙ c.first_text.ensures in
    begins_exactly c.args.version c.args.raw.now c.without_line_end-ended.result.0.now c.eq.result
    (sym c.without_line_end-ended.ensures.ended ∙ c.if-ended.true) c.without_line_end-ended.ensures.content
    (rw first at c.eq.ensures)
