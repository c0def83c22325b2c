use Rattle.std.proofs.Common.{◌≡◌, ℕ, min, replicate, ap, sym, ◌∙◌, arith}
use Rattle.std.proofs.lemmas.List.{take-replicate}
use Rattle.answer_stream.proofs.long.next_bytes.Goals as goal

pub returns-then-left-lt64 : goal.returns-then-left-lt64
returns-then-left-lt64 c =
    take-replicate c.args.left 64 120 (omega arith) ∙ ap (λ (n : ℕ). replicate n 120) (omega arith)

pub returns : goal.returns
returns c = sym (let is : min c.args.left 64 ≡ 64 = omega arith in ap (λ (n : ℕ). replicate n 120) is)
