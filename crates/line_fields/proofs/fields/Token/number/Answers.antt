use Rattle.std.proofs.Common.{arith, sym, ◌∙◌, ◌≡◌}
use Rattle.std.proofs.lemmas.Fmt.{decimal_injective}
use Rattle.line_fields.specs.WordView.{word_of}
use Rattle.line_fields.proofs.Decimals.{number_value-in, number_value-out, filled}
use Rattle.line_fields.proofs.fields.Token.number.Goals as goal
use Rattle.line_fields.proofs.fields.Token.number.Goals.{in_default-via-in-Some+then-least-n+else-n-most}
use Rattle.line_fields.proofs.fields.Token.number.Goals.{in_default-via-in-Some+else-least-n, in_default-via-in_default}

pub returns-in-Some-clause-value : goal.returns-in-Some-clause-value
returns-in-Some-clause-value c =
    number_value-in c.args.least c.args.most c.in-Some.n (word_of c.args.self.now)
    (omega arith) c.in-Some.ensures.found c.if-least-n.true c.if-n-most.true

pub returns-in_default-clause-value : goal.returns-in_default-clause-value
returns-in_default-clause-value c =
    rw c.fault-in_default.ensures (number_value-out c.args.least c.args.most (word_of c.args.self.now) (filled _ c.if-is_empty.ensures) (λ n low high e.
    elim c.in_default.branch [
      | in_default-via-in-Some+then-least-n+else-n-most w ↦
          let same : w.in-Some.n ≡ n = decimal_injective w.in-Some.n n (omega arith) (omega arith) (sym w.in-Some.ensures.found ∙ e) in omega arith
      | in_default-via-in-Some+else-least-n w ↦
          let same : w.in-Some.n ≡ n = decimal_injective w.in-Some.n n (omega arith) (omega arith) (sym w.in-Some.ensures.found ∙ e) in omega arith
      | in_default-via-in_default w ↦ w.in_default.ensures.none n (omega arith) e
    ]))
