use Rattle.std.proofs.Common.{rules}
use Rattle.timer_rules.proofs.TimeoutLemmas.{doubled_times-pow}
use Rattle.timer_rules.proofs.laws.back_off_is_exponential.Goals as goal

pub returns : goal.returns
returns c = record { grows = search rules; doubles = doubled_times-pow }
