use Rattle.std.proofs.Common.{refl}
use Rattle.spec_merge.proofs.Merged.{is_placed_run}
use Rattle.spec_tcp.specs.Machine.{tcp}
use Rattle.spec_merge.proofs.laws.merged_books_are_a_run.Goals as goal

pub returns : goal.returns
returns c = λ h first zeros ones books. is_placed_run (tcp h) (λ n. refl) h.skew first zeros ones books
