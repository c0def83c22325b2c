use Rattle.std.proofs.Common.{◌≡◌, take, []}
use Rattle.interval_order.specs.Orders.{order_of}
use Rattle.checker.proofs.lists.offer_all.Given as goal

-- the lines so far were offered
abbrev pub invariant-loop-line : goal.invariant-loop-line
invariant-loop-line l = l.window ≡ order_of l.header (take l.line-index l.lines) []
