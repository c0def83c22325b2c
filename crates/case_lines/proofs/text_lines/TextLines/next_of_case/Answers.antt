use Rattle.std.proofs.Common.{◌≡◌, Err, Ok, ap, sym, ◌∙◌}
use Rattle.std.proofs.lemmas.Result.{err_from_is_err_and}
use Rattle.line_fields.specs.declared.fault.SourceFault.{SourceFault}
use Rattle.line_fields.specs.declared.fault.SourceFault.TheVariants.{Text}
use Rattle.case_lines.proofs.CaseLinesLaw.{long_fails, unmet, takes, keeps}
use Rattle.case_lines.proofs.text_lines.TextLines.next_of_case.Goals as goal

pub returns-in_err-next_line-clause-fault : goal.returns-in_err-next_line-clause-fault
returns-in_err-next_line-clause-fault g c = λ e is.
    let p = err_from_is_err_and c.from_residual.result c.from_residual.ensures.1 in
    let made = p.1 in
    let gave = p.2 in
    let same : c.in_err-next_line.field-0.0 ≡ Text e = cc in
    let told = c.in_err-next_line.was ∙ ap (λ (f : SourceFault). Err f) same in
    long_fails c.args.self.now.end c.args.number _ e c.requires (c.next_line.ensures.long e told) (c.next_line.ensures.fault e told)

pub returns-clause-line : goal.returns-clause-line
returns-clause-line g c = λ is.
    let took = c.next_line.ensures.line (c.in_ok-next_line.was ∙ ap (λ b. Ok b) c.if-not-branch.false) in
    let after = rw c.line.ensures at c.after-self.ensures in
    let on = sym (rw after at c.has_met.ensures) ∙ unmet c.has_met.result is in
    rw after (takes c.args.self.now.end _ _ _ c.requires on took)

pub returns-clause-witness : goal.returns-clause-witness
returns-clause-witness g c =
    let took = c.next_line.ensures.line (c.in_ok-next_line.was ∙ ap (λ b. Ok b) c.if-not-branch.false) in
    let after = rw c.line.ensures at c.after-self.ensures in
    rw after (keeps c.args.self.now.end _ _ _ c.requires took)
