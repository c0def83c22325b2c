use Rattle.std.proofs.Common.{sym, ◌∙◌}
use Rattle.line_fields.proofs.Columns.{place_is}
use Rattle.line_fields.proofs.first_field.long_field_len.Goals as goal

pub returns : goal.returns
returns c = c.unwrap_or.ensures ∙ sym (place_is c.args.text.now c.memchr.result c.memchr.ensures)
