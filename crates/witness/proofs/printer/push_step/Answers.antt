use Rattle.std.proofs.Common.{◌≡◌, ℕ, List, [], ◌∷◌, ◌++◌, ap, ◌∙◌, subst}
use Rattle.std.specs.Prelude.{OnOk}
use Rattle.line_fields.specs.Spelling.{printed_behind}
use Rattle.witness.specs.Labels.{label_pieces}
use Rattle.witness.proofs.PrintLaw.{writes_line}
use Rattle.witness.proofs.printer.push_step.Goals as goal

pub returns : goal.returns
returns c =
    let written = c.in_ok-push_label.ensures ∙ ap (λ (x : List ℕ). x ++ printed_behind (label_pieces c.args.step.now.label)) c.in_ok-push_number.ensures in
    subst (λ (x : List ℕ). OnOk c.push_end.result (c.push_end.new.out.items ≡ x))
    (ap (λ (x : List ℕ). x ++ 10 ∷ []) written ∙ writes_line c.args.out.now.items c.args.step.now)
    c.push_end.ensures
