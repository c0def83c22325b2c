use Rattle.stack_core.proofs.MadeLemmas.{made_small}
use Rattle.stack_core.proofs.recording.Recording.made.Goals as goal

pub returns-clause-small : goal.returns-clause-small
returns-clause-small c = made_small c.self.inside.world.steps c.self.inside.world.world c.self.inside.me c.args.number _ c.is_kept.ensures c.made.ensures
