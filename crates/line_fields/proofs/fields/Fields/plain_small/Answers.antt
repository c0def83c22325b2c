use Rattle.std.proofs.Common.{arith}
use Rattle.line_fields.proofs.FirstField.{spells_next, spelled_number}
use Rattle.line_fields.proofs.fields.Fields.plain_small.Goals as goal

pub returns-in-Some-clause-taken : goal.returns-in-Some-clause-taken
returns-in-Some-clause-taken c =
    let f = c.self.inside in
    let n = c.in-Some.n in
    rw (← c.self.view_is) (spelled_number c.args.least c.args.most n _ _
    (spells_next n f.line f.at f.text.now c.split_at.result.1.now 1 (omega arith) c.split_at.ensures.back c.in-Some.ensures.place c.in-Some.ensures.value)
    (omega arith) c.if-least-n.true c.if-n-most.true)
