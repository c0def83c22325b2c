use Rattle.std.proofs.Common.{◌≡◌}
use Rattle.two_hosts.proofs.applications.send_round.Given as goal

abbrev pub invariant-loop : goal.invariant-loop
invariant-loop g l = l.caller.seat.thread ≡ l.fn.caller.seat.thread
