use Rattle.watched.proofs.SlackLemmas.{slack_is_not_read}
use Rattle.watched.proofs.laws.slack_is_not_read.Goals as goal

pub returns : goal.returns
returns c = slack_is_not_read
