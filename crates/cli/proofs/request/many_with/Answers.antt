use Rattle.cli.proofs.ManyWords.{no_option}
use Rattle.cli.proofs.request.many_with.Goals as goal

pub returns-in_default : goal.returns-in_default
returns-in_default c = no_option _ c.in_default.ensures
