use Rattle.std.proofs.Common.{◌<◌, ◌≤◌, length, ◌∙◌, arith}
use Rattle.line_fields.proofs.Columns.{ends_at}
use Rattle.line_fields.proofs.Decimals.{front_read}
use Rattle.line_fields.proofs.first_field.plain_number.Goals as goal

pub returns-clause-place : goal.returns-clause-place
returns-clause-place c = λ some.
    let front = c.front_number-value in
    let few : c.front_number-value.result.1 < 8 = omega (arith, front.ensures.most) in
    ends_at c.args.text.now front.result.1 (omega arith) (λ i lt e. let low = (front.ensures.digits few i lt).0 in omega arith) (λ lt. omega arith)

pub returns-clause-value : goal.returns-clause-value
returns-clause-value c = λ some.
    let front = c.front_number-value in
    let few : c.front_number-value.result.1 < 8 = omega (arith, front.ensures.most) in
    let within : c.front_number-value.result.1 ≤ length c.args.text.now = omega arith in
    front_read c.args.text.now front.result.1 c.from.result
    (record { digits = front.ensures.digits few; shown = c.from.ensures ∙ front.ensures.value few }) within some
    (λ more. c.if-text-eq48.false)
    (omega arith)
