use Rattle.std.proofs.Common.{◌<◌, arith}
use Rattle.line_fields.proofs.FirstField.{spells_next}
use Rattle.line_fields.proofs.fields.Fields.plain.Goals as goal

pub returns-clause-taken : goal.returns-clause-taken
returns-clause-taken c =
    let f = c.self.inside in
    let found = c.plain_number-value in
    let some : 0 < found.result.1 = omega arith in
    rw (← c.self.view_is) (spells_next found.result.0 f.line f.at f.text.now c.split_at.result.1.now found.result.1 (omega arith)
    c.split_at.ensures.back (found.ensures.place some) (found.ensures.value some))
