use Rattle.std.proofs.Common.{◌≡◌, drop}
use Rattle.spec_network.specs.Tables.{pick}
use Rattle.spec_duties.specs.End.{lates_from, lates_of_host}
use Rattle.watched.proofs.case_end.lates_of_host.Given as goal

-- what is late so far, with what is late at the other endpoints, is all that is late
abbrev pub invariant-loop-place : goal.invariant-loop-place
invariant-loop-place l =
    lates_from l.at.header.now l.at.slack l.at.moment l.duties l.host l.place l.lates (drop l.place (pick l.world.world.hosts l.host).body.endpoints)
    ≡ lates_of_host l.at.header.now l.at.slack l.at.moment l.duties l.world.world l.host l.fn.so_far
