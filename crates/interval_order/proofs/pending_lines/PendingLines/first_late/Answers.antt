use Rattle.std.proofs.Common.{◌+◌, Bool, nat_lt, ap, sym, ◌∙◌}
use Rattle.std.specs.Bool.{then_some}
use Rattle.interval_order.specs.Orders.{Order}
use Rattle.interval_order.specs.OrderRules.{first_overdue}
use Rattle.interval_order.proofs.EntryLemmas.{first_late, none_first}
use Rattle.interval_order.proofs.pending_lines.PendingLines.first_late.Goals as goal

pub returns : goal.returns
returns c =
    c.then_some.ensures
    ∙ ap (λ (b : Bool). then_some b c.in_ok-number.number) c.is_past.ensures
    ∙ sym (first_late c.self.inside.header.skew c.args.moment _ _ c.self.inside.waiting.entries c.self.invariant.rising (sym c.in_ok-number.ensures))
    ∙ ap (λ (o : Order). first_overdue o c.args.moment) c.self.view_is

pub returns-in_err-number : goal.returns-in_err-number
returns-in_err-number c =
    c.from_residual.ensures
    ∙ none_first (λ e. nat_lt (e.1.moment + c.self.inside.header.skew) c.args.moment) c.self.inside.waiting.entries c.in_err-number.ensures
    ∙ ap (λ (o : Order). first_overdue o c.args.moment) c.self.view_is
