use Rattle.std.proofs.Common.{sym, arith}
use Rattle.line_fields.proofs.Columns.{ends_at}
use Rattle.line_fields.proofs.first_field.field_len.Goals as goal

pub returns-then-byte-eq32 : goal.returns-then-byte-eq32
returns-then-byte-eq32 c = sym (ends_at c.args.text.now _ (omega arith) c.loop-len.invariant (λ lt. c.if-byte-eq32.true))

pub returns : goal.returns
returns c = sym (ends_at c.args.text.now _ (omega arith) (λ i lt. c.loop-len.invariant i (omega arith)) (λ lt. absurd (omega arith)))
