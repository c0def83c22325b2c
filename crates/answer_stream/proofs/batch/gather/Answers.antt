use Rattle.std.proofs.Common.{rules, ◌≡◌, ◌++◌, ◌∙◌, ap₂, inr, refl, Err, codes, max, ℕ, List}
use Rattle.checker.specs.declared.case.CaseFault.TheVariants.{OutOfMemory}
use Rattle.answers.specs.Output.{status_of}
use Rattle.answer_stream.proofs.batch.gather.Goals as goal

pub returns-clause-told : goal.returns-clause-told
returns-clause-told c =
    let greatest : c.push.new.self.greatest ≡ max c.args.gathered.now.greatest (status_of (Err OutOfMemory)) = search rules in
    let grown : c.push.new.self.lines.items ≡ c.gather_line.new.gathered.lines.items ++ c.as_slice.result.now = search rules in
    let same : c.gather_line.new.gathered.lines.items ≡ c.args.gathered.now.lines.items = search rules in
    let line : c.as_slice.result.now ≡ codes "bad memory\n" = search rules in
    (Err OutOfMemory, inr refl, greatest, grown ∙ ap₂ (λ (xs ys : List ℕ). xs ++ ys) same line)
