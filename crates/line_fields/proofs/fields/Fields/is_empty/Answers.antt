use Rattle.line_fields.proofs.Columns.{is_empty_is}
use Rattle.line_fields.proofs.fields.Fields.is_empty.Goals as goal

pub returns : goal.returns
returns c = let f = c.self.inside in rw (← c.self.view_is) (is_empty_is f.line f.at f.text.now)
