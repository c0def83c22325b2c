use Rattle.kept_duties.proofs.Made.{built_sent}
use Rattle.kept_duties.proofs.strict_laws.what_is_built_is_sent.Goals as goal

pub returns : goal.returns
returns c = λ t w slack e given six. built_sent t w slack given e.run e.duties six e.in_time
