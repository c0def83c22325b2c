use Rattle.std.proofs.Common.{rules}
use Rattle.window_rules.proofs.GrowthLemmas.{slow_segment, segment, keeps}
use Rattle.window_rules.proofs.laws.growth_is_gentle.Goals as goal

pub returns : goal.returns
returns c = record { slow_segment = slow_segment; slow_acked = search rules; segment = segment; keeps = keeps }
