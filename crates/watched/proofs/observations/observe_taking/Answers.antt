use Rattle.watched.proofs.BlockLemmas.{kept_small}
use Rattle.watched.proofs.observations.observe_taking.Goals as goal

pub blocks_taken-requires-clause-small : goal.blocks_taken-requires-clause-small
blocks_taken-requires-clause-small c =
    kept_small c.args.world.now.steps c.args.world.now.world c.args.host c.args.line c.in-Some.m.now c.is_kept.ensures c.in-Some.ensures

pub kept_at-requires-clause-small : goal.kept_at-requires-clause-small
kept_at-requires-clause-small c =
    kept_small c.args.world.now.steps c.args.world.now.world c.args.host c.args.line c.in-Some.m.now c.is_kept.ensures c.in-Some.ensures
