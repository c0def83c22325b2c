use Rattle.std.proofs.Common.{◌≡◌, ◌∙◌, Err, Ok, ap, refl, arith, subst}
use Rattle.std.proofs.lemmas.Result.{err_from_is_err_and}
use Rattle.counted.specs.Counting.{line_of}
use Rattle.line_fields.specs.declared.fault.TextFault.{TextFault}
use Rattle.line_fields.specs.declared.fault.SourceFault.{SourceFault}
use Rattle.line_fields.specs.declared.fault.SourceFault.TheVariants.{Text}
use Rattle.line_fields.specs.Left.{FailsLeft}
use Rattle.witness.specs.StepsLeft.{steps_left}
use Rattle.witness.proofs.StreamLaw.{next_fails, line_fails, step_read, all_read, stands}
use Rattle.witness.proofs.stream.StepReader.read_line.Goals as goal

pub returns-in_err-next_line-clause-fault : goal.returns-in_err-next_line-clause-fault
returns-in_err-next_line-clause-fault g c = λ e is.
    let p = err_from_is_err_and c.from_residual.result c.from_residual.ensures.1 in
    let made = p.1 in
    let gave = p.2 in
    let same : c.in_err-next_line.field-0.0 ≡ Text e = cc in
    rw c.requires (next_fails c.args.self.now.version c.args.number _ e
    (c.next_line.ensures.fault e (c.in_err-next_line.was ∙ ap (λ (f : SourceFault). Err f) same)))

pub returns-then-not-branch-clause-next : goal.returns-then-not-branch-clause-next
returns-then-not-branch-clause-next g c =
    rw c.requires (all_read c.args.self.now.version c.args.number _ _
    (c.next_line.ensures.none (c.in_ok-next_line.was ∙ ap (λ b. Ok b) c.if-not-branch.true)))

pub returns-in_err-read_step_into-clause-fault : goal.returns-in_err-read_step_into-clause-fault
returns-in_err-read_step_into-clause-fault g c = λ e is.
    let p = err_from_is_err_and c.from_residual-in_err-read_step_into.result c.from_residual-in_err-read_step_into.ensures.1 in
    let took = c.next_line.ensures.line (c.in_ok-next_line.was ∙ ap (λ b. Ok b) c.if-not-branch.false) in
    let made = p.1 in
    let gave = p.2 in
    let same : c.in_err-read_step_into.field-0.0 ≡ e = cc in
    subst (λ (f : TextFault). FailsLeft f (steps_left g.B.Read.remaining c.args.self.now)) same
    (rw c.requires (line_fails c.args.self.now.version c.args.number _ _ (line_of c.next_line.new.source)
    c.in_err-read_step_into.field-0.0 took (rw c.line.ensures at c.in_err-read_step_into.ensures.fault)))

pub overflow_add-self : goal.overflow_add-self
overflow_add-self g c =
    let s = stands c.args.self.now.version _ _ _ c.in_ok-read_step_into.ensures.step.is in
    let few = s.few in omega (arith, few)

pub returns-clause-next : goal.returns-clause-next
returns-clause-next g c =
    let took = c.next_line.ensures.line (c.in_ok-next_line.was ∙ ap (λ b. Ok b) c.if-not-branch.false) in
    let read = c.in_ok-read_step_into.ensures.step in
    let placed = read.placed in
    rw (c.requires, placed) (step_read c.args.self.now.version c.args.number _ _ (line_of c.next_line.new.source) read.step took
    (rw c.line.ensures at read.is))

pub returns-clause-place : goal.returns-clause-place
returns-clause-place g c =
    let read = c.in_ok-read_step_into.ensures.step in
    let placed = read.placed in
    rw placed (stands c.args.self.now.version _ _ _ read.is, refl)
