use Rattle.checker.proofs.YesLemmas.{yes_explains, explains_yes}
use Rattle.checker.proofs.laws.explained_is_yes.Goals as goal

pub returns : goal.returns
returns c = λ t w. (yes_explains t w, explains_yes t w)
