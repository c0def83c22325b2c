use Rattle.watched.proofs.RefusalLemmas.{all_ascend}
use Rattle.watched.proofs.laws.case_rules_ascend.Goals as goal

pub returns : goal.returns
returns c = all_ascend
