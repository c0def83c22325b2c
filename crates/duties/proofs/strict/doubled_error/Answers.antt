use Rattle.std.proofs.Common.{◌*◌, ◌^◌, ℕ, ap, ◌∙◌, arith}
use Rattle.std.proofs.lemmas.Nat.{shl_whole}
use Rattle.duties.proofs.strict.doubled_error.Goals as goal

pub returns : goal.returns
returns c =
    let is = c.clock_error.ensures in
    shl_whole c.clock_error.result 67 c.min.result 128 (omega (arith, is)) (omega arith)
    ∙ ap (λ (n : ℕ). n * 2 ^ c.min.result) is
    ∙ ap (λ (n : ℕ). 5 * c.args.grain * 2 ^ n) c.min.ensures
