use Rattle.std.proofs.Common.{ℕ, Option, ap, ◌∙◌}
use Rattle.std.specs.Option.{is_some, option_and_then}
use Rattle.interval_order.specs.Orders.{Order}
use Rattle.interval_order.specs.Later.{waits}
use Rattle.interval_order.specs.Waits.{waiting_at, latest_in}
use Rattle.interval_order.proofs.LaterLemmas.{waits_is}
use Rattle.interval_order.proofs.pending_lines.PendingLines.waits.Goals as goal

pub returns : goal.returns
returns c =
    c.is_held.ensures
    ∙ ap (λ (l : Option ℕ). is_some (option_and_then (waiting_at c.self.inside.waiting.entries) l)) c.latest_of.ensures
    ∙ waits_is c.self.inside.waiting.next c.self.inside.waiting.entries (latest_in c.self.inside.latest.entries) c.args.thread c.self.invariant
    ∙ ap (λ (o : Order). waits o c.args.thread) c.self.view_is
