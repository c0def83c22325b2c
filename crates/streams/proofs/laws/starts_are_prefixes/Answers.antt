use Rattle.streams.proofs.ReadLemmas.{prefix_starts, starts_prefix}
use Rattle.streams.proofs.laws.starts_are_prefixes.Goals as goal

pub returns : goal.returns
returns c = λ bytes all. (starts_prefix bytes all, prefix_starts bytes all)
