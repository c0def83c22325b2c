use Rattle.std.proofs.Common.{arith}
use Rattle.line_fields.proofs.FirstField.{letter_first, comes_next}
use Rattle.line_fields.proofs.fields.Fields.plain_letter.Goals as goal

pub returns-in-32-clause-taken : goal.returns-in-32-clause-taken
returns-in-32-clause-taken c = λ yes.
    let f = c.self.inside in
    let rest = c.split_at.result.1.now in
    let first = letter_first c.args.letter rest c.requires c.if-first-letter.true (omega arith) (omega arith) in
    rw (← c.self.view_is) (comes_next f.line f.at f.text.now rest _ 1 (omega arith) c.split_at.ensures.back first.0 first.1)
