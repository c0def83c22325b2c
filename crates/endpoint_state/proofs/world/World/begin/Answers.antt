use Rattle.endpoint_state.proofs.Progresses.{begun, are_ready}
use Rattle.endpoint_state.proofs.world.World.begin.Goals as goal

pub returns-clause-ok : goal.returns-clause-ok
returns-clause-ok c =
    begun c.args.self.now c.self.inside.header c.self.inside.hosts c.self.inside.threads.entries
    c.begin.new.threads.entries c.self.inside.count c.self.inside.steps c.args.thread c.args.call
    (are_ready c.args.self.now c.self.inside.hosts c.self.inside.threads.entries c.self.inside.header
    c.self.inside.count c.self.inside.steps c.self.view_is c.requires c.self.invariant)
    c.self.view_is c.in_ok-begin.ensures.ok
