use Rattle.checker.proofs.CountLemmas.{all_counted}
use Rattle.checker.proofs.laws.yes_counts_all_lines.Goals as goal

pub returns : goal.returns
returns c = all_counted
