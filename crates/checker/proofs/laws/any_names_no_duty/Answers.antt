use Rattle.checker.proofs.LessLateLemmas.{any_names_no_duty}
use Rattle.checker.proofs.laws.any_names_no_duty.Goals as goal

pub returns : goal.returns
returns c = any_names_no_duty
