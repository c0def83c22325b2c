use Rattle.std.proofs.Common.{ℕ, ap, ◌∙◌}
use Rattle.std.specs.Option.{is_some}
use Rattle.case_forms.specs.declared.trace.Line.{Line}
use Rattle.interval_order.specs.OrderRules.{is_overdue}
use Rattle.interval_order.proofs.EntryLemmas.{any_is_found}
use Rattle.interval_order.proofs.pending_lines.PendingLines.has_overdue.Goals as goal

pub returns : goal.returns
returns c =
    c.is_some.ensures ∙ ap is_some c.overdue.ensures.first
    ∙ any_is_found (λ (e : ℕ × Line). e.0) (is_overdue c.args.self.now c.args.moment) c.args.self.now.held
