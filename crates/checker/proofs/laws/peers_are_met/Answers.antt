use Rattle.std.proofs.Common.{take}
use Rattle.spec_network.specs.HostSteps.{start}
use Rattle.spec_tcp.specs.Machine.{tcp}
use Rattle.checker.specs.Consequences.{steps_of}
use Rattle.checker.proofs.ConsequenceLemmas.{run_at}
use Rattle.checker.proofs.PeerLemmas.{peers_met, peers_were_met}
use Rattle.checker.proofs.laws.peers_are_met.Goals as goal

pub returns-clause-each : goal.returns-clause-each
returns-clause-each c = λ t w e place x here.
    let run = run_at t.header (start (tcp t.header)) (steps_of t w) e.run place x here in
    peers_met t.header (take place (steps_of t w)) x run.0 run.1

pub returns-clause-all : goal.returns-clause-all
returns-clause-all c = λ t w e. peers_were_met t.header (steps_of t w) e.run
