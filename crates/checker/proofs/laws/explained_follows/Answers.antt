use Rattle.std.proofs.Common.{subst, take}
use Rattle.spec_network.specs.Hosts.{Step}
use Rattle.spec_network.specs.HostRules.{Permitted}
use Rattle.spec_network.specs.HostSteps.{start}
use Rattle.spec_tcp.specs.Machine.{tcp, tcp_shape}
use Rattle.spec_tcp_laws.specs.Runs.{world_at_end}
use Rattle.checker.specs.Consequences.{steps_of}
use Rattle.checker.proofs.ConsequenceLemmas.{run_at}
use Rattle.checker.proofs.laws.explained_follows.Goals as goal

pub returns-clause-received : goal.returns-clause-received
returns-clause-received c = λ t w e both. c.received_is_a_prefix.ensures t.header both (steps_of t w) e.run

pub returns-clause-whole : goal.returns-clause-whole
returns-clause-whole c = λ t w e both. c.end_is_whole.ensures t.header both (steps_of t w) e.run

pub returns-clause-acknowledged : goal.returns-clause-acknowledged
returns-clause-acknowledged c = λ t w e both place x here.
    let run = run_at t.header (start (tcp t.header)) (steps_of t w) e.run place x here in
    c.acknowledged_was_taken.ensures t.header both (take place (steps_of t w)) x run.0 run.1

pub returns-clause-carried : goal.returns-clause-carried
returns-clause-carried c = λ t w e. c.reads_were_carried.ensures t.header (steps_of t w) e.run

pub returns-clause-windows : goal.returns-clause-windows
returns-clause-windows c = λ t w e place x here.
    let before = take place (steps_of t w) in
    let run = run_at t.header (start (tcp t.header)) (steps_of t w) e.run place x here in
    record {
      follow = c.windows_follow.ensures t.header x.moment (world_at_end t.header before) x.step run.1;
      named = c.profiles_are_named.ensures t.header before run.0;
      fits = λ host m is. c.new_data_fits.ensures t.header x.moment (world_at_end t.header before) host m
          (subst (λ (step : Step tcp_shape). Permitted (tcp t.header) x.moment (world_at_end t.header before) step) is run.1);
    }

pub returns-clause-states : goal.returns-clause-states
returns-clause-states c = λ t w e place x here. c.states_follow.ensures t.header x.moment (world_at_end t.header (take place (steps_of t w))) x.step

pub returns-clause-positions : goal.returns-clause-positions
returns-clause-positions c = λ t w e place x here.
    let run = run_at t.header (start (tcp t.header)) (steps_of t w) e.run place x here in
    c.positions_never_fall.ensures t.header (take place (steps_of t w)) x run.0 run.1
