use Rattle.std.proofs.Common.{◌≡◌, ◌-◌, Some, ℕ, replicate, ap, sym, ◌∙◌, arith}
use Rattle.std.proofs.lemmas.List.{drop-replicate}
use Rattle.answer_stream.proofs.long.FillerBufRead.consume.Goals as goal

pub returns : goal.returns
returns c =
    let fewer : c.saturating_sub-self.result ≡ c.args.self.now.left - c.args.amount = omega (arith, c.saturating_sub-self.ensures) in
    record { bytes = λ _. ap Some (ap (λ (n : ℕ). replicate n 120) fewer ∙ sym (drop-replicate c.args.amount c.args.self.now.left 120)) }
