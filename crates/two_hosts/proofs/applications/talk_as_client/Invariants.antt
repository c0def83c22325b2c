use Rattle.std.proofs.Common.{◌≡◌}
use Rattle.two_hosts.proofs.applications.talk_as_client.Given as goal

abbrev pub invariant-loop-round : goal.invariant-loop-round
invariant-loop-round g l = l.caller.seat.thread ≡ l.fn.caller.seat.thread
