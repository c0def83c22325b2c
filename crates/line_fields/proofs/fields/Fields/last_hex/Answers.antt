use Rattle.std.proofs.Common.{arith}
use Rattle.line_fields.proofs.HexFieldLemmas.{last_is}
use Rattle.line_fields.proofs.fields.Fields.last_hex.Goals as goal

pub returns-clause-taken : goal.returns-clause-taken
returns-clause-taken c =
    let f = c.self.inside in
    rw (← c.self.view_is, c.from.ensures) (last_is f.line f.at f.text.now c.split_at.result.1.now c.in-Some.bytes.items (omega arith) c.split_at.ensures.back
    (rw c.in-Some.is at c.in_ok-bytes.ensures))
