use Rattle.std.proofs.Common.{arith}
use Rattle.line_fields.proofs.Decimals.{all_read, no_digit, one_read, plain, too_great}
use Rattle.line_fields.proofs.digits.decimal_value.Goals as goal
use Rattle.line_fields.proofs.digits.decimal_value.Goals.{then-byte-lt48-via-then-byte-lt48, then-byte-lt48-via-else-byte-lt48+then-byte-gt57}

pub returns-in_default-clause-none : goal.returns-in_default-clause-none
returns-in_default-clause-none c = λ n lt e. let some = (plain c.args.text.now n lt e).some in omega arith

pub returns-then-text-gt1-clause-none : goal.returns-then-text-gt1-clause-none
returns-then-text-gt1-clause-none c = λ n lt e. let no_zero = (plain c.args.text.now n lt e).no_zero in omega arith

pub returns-then-byte-lt48-clause-none : goal.returns-then-byte-lt48-clause-none
returns-then-byte-lt48-clause-none c = elim c.then-byte-lt48.branch [
  | then-byte-lt48-via-then-byte-lt48 w ↦
      no_digit c.args.text.now c.loop-byte.byte-index c.loop-byte-test.true
      (λ r. let low = r.0 in let below = w.if-byte-lt48.true in omega (arith, low, below))
  | then-byte-lt48-via-else-byte-lt48+then-byte-gt57 w ↦
      no_digit c.args.text.now c.loop-byte.byte-index c.loop-byte-test.true
      (λ r. let high = r.1 in let above = w.if-byte-gt57.true in omega (arith, high, above))
]

pub returns-in_err-checked_mul-clause-none : goal.returns-in_err-checked_mul-clause-none
returns-in_err-checked_mul-clause-none c =
    let read =
    one_read c.args.text.now c.loop-byte.byte-index c.loop-byte.value c.loop-byte.invariant.read
    c.loop-byte-test.true c.if-byte-lt48.false c.if-byte-gt57.false in
    rw c.from_residual.ensures (too_great c.args.text.now _ _ read (λ less. c.in_err-checked_mul.ensures (omega (arith, less))))

pub returns-in_err-value-clause-none : goal.returns-in_err-value-clause-none
returns-in_err-value-clause-none c =
    let read =
    one_read c.args.text.now c.loop-byte.byte-index c.loop-byte.value c.loop-byte.invariant.read
    c.loop-byte-test.true c.if-byte-lt48.false c.if-byte-gt57.false in
    let tenfold = c.in_ok-checked_mul.ensures.1 in
    let digit = c.from.ensures in
    rw c.from_residual-in_err-value.ensures (too_great c.args.text.now _ _ read (λ less. c.in_err-value.ensures (omega (arith, less, tenfold, digit))))

pub loop-byte-preserved : goal.loop-byte-preserved
loop-byte-preserved c =
    let read =
    one_read c.args.text.now c.loop-byte.byte-index c.loop-byte.value c.loop-byte.invariant.read
    c.loop-byte-test.true c.if-byte-lt48.false c.if-byte-gt57.false in
    let tenfold = c.in_ok-checked_mul.ensures.1 in
    let sum = c.in_ok-value.ensures.1 in
    let digit = c.from.ensures in
    record { read = rw (sum, tenfold, digit) read; fits = rw sum c.in_ok-value.ensures.0 }

pub returns-clause-found : goal.returns-clause-found
returns-clause-found c =
    all_read c.args.text.now c.loop-byte.byte-index c.loop-byte.value c.loop-byte.invariant.read c.loop-byte-test.false
    c.in-len1-up.len_at_least (λ zero. omega arith) c.loop-byte.invariant.fits
