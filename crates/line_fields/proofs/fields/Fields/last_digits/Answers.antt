use Rattle.std.proofs.Common.{arith}
use Rattle.line_fields.proofs.HexFieldLemmas.{ends_in_hex}
use Rattle.line_fields.proofs.fields.Fields.last_digits.Goals as goal

pub returns : goal.returns
returns c = λ bytes decodes.
    let f = c.self.inside in
    rw (← c.self.view_is) (ends_in_hex f.line f.at f.text.now c.split_at.result.1.now bytes (omega arith) c.split_at.ensures.back decodes)
