use Rattle.std.proofs.Common.{◌≤◌, length}
use Rattle.spec_network.specs.Tables.{pick}
use Rattle.stack_core.specs.Tended.{AreQuiet}
use Rattle.stack_core.proofs.next_segment.find_among.Given as goal

abbrev pub invariant-loop-wake : goal.invariant-loop-wake
invariant-loop-wake l =
    (length (pick l.world.world.hosts l.me).body.endpoints ≤ l.ready.looked)
    × AreQuiet l.ready.looked l.ready.entries.keys (pick l.world.world.hosts l.me).body.endpoints

abbrev pub decreases-loop-wake : goal.decreases-loop-wake
decreases-loop-wake l = length l.ready.entries.keys
