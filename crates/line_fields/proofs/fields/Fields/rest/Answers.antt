use Rattle.std.proofs.Common.{arith}
use Rattle.line_fields.proofs.LastFields.{texts_left}
use Rattle.line_fields.proofs.fields.Fields.rest.Goals as goal

pub returns : goal.returns
returns c = let f = c.self.inside in rw (← c.self.view_is) (texts_left f.line f.at f.text.now c.split_at.result.1.now (omega arith) c.split_at.ensures.back)
