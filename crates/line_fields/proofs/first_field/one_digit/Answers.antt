use Rattle.std.proofs.Common.{◌-◌, get_or, arith}
use Rattle.line_fields.proofs.Decimals.{front_read, one_read, none_read}
use Rattle.line_fields.proofs.first_field.one_digit.Goals as goal

pub returns-clause-value : goal.returns-clause-value
returns-clause-value c =
    let text = c.args.text.now in
    let read = one_read text 0 0 (none_read text) (omega arith) (omega arith) (omega arith) in
    let shown = read.shown in
    rw c.from.ensures (front_read text 1 (get_or text 0 0 - 48)
    (record { digits = read.digits; shown = omega (arith, shown) }) (omega arith) (omega arith) (λ more. absurd (omega arith)) (omega arith))
