use Rattle.std.proofs.Common.{◌≡◌, Err, None, Ok, Some, ap, subst, ◌∙◌, ◌+◌, arith}
use Rattle.std.proofs.lemmas.Result.{err_from_is_err_and}
use Rattle.line_fields.specs.declared.fault.TextFault.{TextFault}
use Rattle.line_fields.specs.declared.fault.SourceFault.{SourceFault}
use Rattle.line_fields.specs.declared.fault.SourceFault.TheVariants.{Text}
use Rattle.line_fields.specs.Left.{FailsLeft}
use Rattle.case_lines.specs.TextLeft.{last_raw}
use Rattle.trace_reader.specs.TraceLeft.{lines_left}
use Rattle.trace_reader.proofs.StreamLaw.{next_fails, line_fails, line_read, all_read, stands, text_yields, text_fails_left}
use Rattle.trace_reader.proofs.stream.TraceReader.read_into.Goals as goal

pub returns-in_err-next_line-clause-fault : goal.returns-in_err-next_line-clause-fault
returns-in_err-next_line-clause-fault g c = λ e is.
    let p = err_from_is_err_and c.from_residual.result c.from_residual.ensures.1 in
    let made = p.1 in
    let gave = p.2 in
    let same : c.in_err-next_line.field-0.0 ≡ Text e = cc in
    let none = c.is_empty.ensures.0 c.if-not-is_empty.false in
    text_fails_left g.A.Read.remaining c.args.self.now e none
    (next_fails c.args.self.now.version _ _ e (c.next_line.ensures.fault e (c.in_err-next_line.was ∙ ap (λ (f : SourceFault). Err f) same)))

pub returns-then-not-branch-clause-next : goal.returns-then-not-branch-clause-next
returns-then-not-branch-clause-next g c =
    let none = c.is_empty.ensures.0 c.if-not-is_empty.false in
    text_yields g.A.Read.remaining c.args.self.now (record c.args.self.now { text = c.next_line.new.self }) None none none
    (all_read c.args.self.now.version _ _ _ (c.next_line.ensures.none (c.in_ok-next_line.was ∙ ap (λ b. Ok b) c.if-not-branch.true)))

pub returns-in_err-line-clause-fault : goal.returns-in_err-line-clause-fault
returns-in_err-line-clause-fault g c = λ e is.
    let p = err_from_is_err_and c.from_residual-in_err-line.result c.from_residual-in_err-line.ensures.1 in
    let took = c.next_line.ensures.line (c.in_ok-next_line.was ∙ ap (λ b. Ok b) c.if-not-branch.false) in
    let made = p.1 in
    let gave = p.2 in
    let same : c.in_err-line.field-0.0 ≡ e = cc in
    let none = c.is_empty.ensures.0 c.if-not-is_empty.false in
    subst (λ (f : TextFault). FailsLeft f (lines_left g.A.Read.remaining c.args.self.now)) same
    (text_fails_left g.A.Read.remaining c.args.self.now c.in_err-line.field-0.0 none
    (line_fails c.args.self.now.version _ _ _ (last_raw c.next_line.new.self) c.in_err-line.field-0.0 took (rw c.raw.ensures at c.in_err-line.ensures)))

pub after_line-requires : goal.after_line-requires
after_line-requires g c = let s = stands c.args.self.now.version _ _ _ c.in_ok-line.ensures in let few = s.few in omega (arith, few)

pub returns-clause-next : goal.returns-clause-next
returns-clause-next g c =
    let took = c.next_line.ensures.line (c.in_ok-next_line.was ∙ ap (λ b. Ok b) c.if-not-branch.false) in
    let none = c.is_empty.ensures.0 c.if-not-is_empty.false in
    rw c.after_line.ensures
    (text_yields g.A.Read.remaining c.args.self.now (record c.args.self.now {
      text = c.next_line.new.self;
      before = c.in_ok-line.line.moment;
      number = c.args.self.now.number + 1;
    }) (Some c.in_ok-line.line) none none
    (line_read c.args.self.now.version _ _ _ (last_raw c.next_line.new.self) c.in_ok-line.line took (rw c.raw.ensures at c.in_ok-line.ensures)))

pub returns-clause-place : goal.returns-clause-place
returns-clause-place g c = (stands c.args.self.now.version _ _ _ c.in_ok-line.ensures, c.after_line.ensures)
