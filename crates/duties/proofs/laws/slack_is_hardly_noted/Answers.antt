use Rattle.duties.proofs.SlackLemmas.{slack_is_hardly_noted}
use Rattle.duties.proofs.laws.slack_is_hardly_noted.Goals as goal

pub returns : goal.returns
returns c = slack_is_hardly_noted
