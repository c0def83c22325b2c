use Rattle.std.proofs.Common.{ap, length, arith}
use Rattle.line_fields.specs.Reading.{first_of}
use Rattle.line_fields.proofs.Columns.{ends_within, next_is}
use Rattle.line_fields.proofs.fields.Fields.next_by.Goals as goal

pub split_at-requires-2 : goal.split_at-requires-2
split_at-requires-2 c =
    let len = c.field_len-len.ensures in
    let within = ends_within c.split_at.result.1.now in omega arith

pub returns : goal.returns
returns c =
    let f = c.self.inside in
    rw (← c.self.view_is) (ap (first_of _ f.line (length f.text.now)) (next_is f.line f.at f.text.now
    c.split_at.result.1.now c.split_at-2.result.0.now c.field_len-len.result (omega arith)
    c.split_at.ensures.back c.field_len-len.ensures c.split_at-2.ensures.front))
