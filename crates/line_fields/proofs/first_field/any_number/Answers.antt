use Rattle.std.proofs.Common.{arith}
use Rattle.line_fields.proofs.Columns.{ends_at}
use Rattle.line_fields.proofs.Decimals.{front_read, one_read, read_below}
use Rattle.line_fields.proofs.first_field.any_number.Goals as goal
use Rattle.line_fields.proofs.first_field.any_number.Goals.{else-count-text-via-then-count-text+else-text-count-ne32, else-count-text-via-else-count-text}
use Rattle.line_fields.proofs.first_field.any_number.Goals.{else-count-gt1-via-then-count-gt1+else-text-eq48, else-count-gt1-via-else-count-gt1}

pub overflow_mul-value : goal.overflow_mul-value
overflow_mul-value c =
    let below = read_below c.args.text.now c.loop-count.count c.loop-count.value 18 c.loop-count.invariant.read (omega arith) (omega arith) in omega arith

pub overflow_add-value : goal.overflow_add-value
overflow_add-value c =
    let below = read_below c.args.text.now c.loop-count.count c.loop-count.value 18 c.loop-count.invariant.read (omega arith) (omega arith) in omega arith

pub loop-count-preserved : goal.loop-count-preserved
loop-count-preserved c =
    let read = one_read c.args.text.now c.loop-count.count c.loop-count.value c.loop-count.invariant.read (omega arith) (omega arith) (omega arith) in
    let digit = c.from.ensures in
    record { read = rw digit read; within = omega arith }

pub returns-clause-place : goal.returns-clause-place
returns-clause-place c = λ some.
    ends_at c.args.text.now c.loop-count.count (omega arith) (λ i lt e. let low = (c.loop-count.invariant.read.digits i lt).0 in omega arith)
    (elim c.else-count-text.branch [
      | else-count-text-via-then-count-text+else-text-count-ne32 w ↦ λ lt. omega arith
      | else-count-text-via-else-count-text w ↦ λ lt. absurd (omega arith)
    ])

pub returns-clause-value : goal.returns-clause-value
returns-clause-value c = λ some.
    front_read c.args.text.now c.loop-count.count c.loop-count.value c.loop-count.invariant.read (omega arith) some
    (elim c.else-count-gt1.branch [
      | else-count-gt1-via-then-count-gt1+else-text-eq48 w ↦ λ more. w.if-text-eq48.false
      | else-count-gt1-via-else-count-gt1 w ↦ λ more. absurd (omega arith)
    ])
    (omega arith)
