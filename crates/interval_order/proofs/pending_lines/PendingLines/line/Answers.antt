use Rattle.std.proofs.Common.{ap, sym, ◌∙◌}
use Rattle.std.specs.Option.{option_map}
use Rattle.interval_order.specs.declared.pending_lines.Waiting.{Waiting}
use Rattle.interval_order.specs.Orders.{Order, held_line}
use Rattle.interval_order.specs.OrderRules.{has_earlier}
use Rattle.interval_order.proofs.EntryLemmas.{line_is}
use Rattle.interval_order.proofs.EarlierLemmas.{earlier_is}
use Rattle.interval_order.proofs.pending_lines.PendingLines.line.Goals as goal

pub returns-in-Some-clause-line : goal.returns-in-Some-clause-line
returns-in-Some-clause-line c =
    ap (option_map (λ (w : Waiting). w.line)) c.in-Some.ensures
    ∙ sym (line_is c.args.number c.self.inside.waiting.entries)
    ∙ ap (λ (o : Order). held_line o c.args.number) c.self.view_is

pub returns-in-Some-clause-second : goal.returns-in-Some-clause-second
returns-in-Some-clause-second c =
    let w = c.in-Some.waiting.now in
    c.is_held.ensures
    ∙ earlier_is c.self.inside.waiting.entries w.line.thread c.args.number w.previous c.self.invariant.ordered
    (c.self.invariant.linked.previous _ _ (sym c.in-Some.ensures))
    ∙ ap (λ (o : Order). has_earlier o c.args.number w.line.thread) c.self.view_is

pub returns-in-None-clause-line : goal.returns-in-None-clause-line
returns-in-None-clause-line c =
    ap (option_map (λ (w : Waiting). w.line)) c.in-None.ensures
    ∙ sym (line_is c.args.number c.self.inside.waiting.entries)
    ∙ ap (λ (o : Order). held_line o c.args.number) c.self.view_is
