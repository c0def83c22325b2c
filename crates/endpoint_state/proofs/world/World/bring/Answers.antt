use Rattle.endpoint_state.proofs.Keeping.{brought_kept}
use Rattle.endpoint_state.proofs.world.World.bring.Goals as goal

pub invariant_of-self-2 : goal.invariant_of-self-2
invariant_of-self-2 c =
    brought_kept c.self.inside.steps c.self.inside.hosts c.bring.new.self c.self.inside.threads.entries
    c.self.inside.count c.args.host c.args.line c.args.emission.now c.requires.small c.in_ok-bring.ensures.ok
    c.self.invariant
