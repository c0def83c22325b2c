use Rattle.std.proofs.Common.{take}
use Rattle.spec_network.specs.HostSteps.{start}
use Rattle.spec_tcp.specs.Machine.{tcp}
use Rattle.checker.specs.Consequences.{steps_of}
use Rattle.checker.proofs.ConsequenceLemmas.{run_until}
use Rattle.checker.proofs.laws.streams_at_each_moment.Goals as goal

pub returns-clause-received : goal.returns-clause-received
returns-clause-received c =
    λ t w e both place. c.received_is_a_prefix.ensures t.header both (take place (steps_of t w))
    (run_until t.header (start (tcp t.header)) (steps_of t w) e.run place)

pub returns-clause-whole : goal.returns-clause-whole
returns-clause-whole c =
    λ t w e both place. c.end_is_whole.ensures t.header both (take place (steps_of t w))
    (run_until t.header (start (tcp t.header)) (steps_of t w) e.run place)

pub returns-clause-carried : goal.returns-clause-carried
returns-clause-carried c =
    λ t w e place. c.reads_were_carried.ensures t.header (take place (steps_of t w))
    (run_until t.header (start (tcp t.header)) (steps_of t w) e.run place)
