use Rattle.std.proofs.Common.{sym, refl, arith}
use Rattle.line_fields.proofs.Columns.{ends_within}
use Rattle.line_fields.proofs.FirstField.{comes_next}
use Rattle.line_fields.proofs.fields.Fields.plain_word.Goals as goal

pub split_at-requires-2 : goal.split_at-requires-2
split_at-requires-2 c =
    let len = c.field_len-len.ensures in
    let within = ends_within c.split_at.result.1.now in omega arith

pub returns-clause-taken : goal.returns-clause-taken
returns-clause-taken c =
    let f = c.self.inside in
    rw (← c.self.view_is, c.split_at-2.ensures.front) (comes_next f.line f.at f.text.now c.split_at.result.1.now _ c.field_len-len.result (omega arith)
    c.split_at.ensures.back (sym c.field_len-len.ensures) refl)
