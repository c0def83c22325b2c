use Rattle.std.proofs.Common.{refl, arith}
use Rattle.segment.proofs.Cuts.{no_items}
use Rattle.segment.proofs.options.next_item.Goals as goal

pub returns-then-len-lt2-clause-fault : goal.returns-then-len-lt2-clause-fault
returns-then-len-lt2-clause-fault c = (refl, no_items c.args.bytes.now (omega arith) (λ e. omega arith) (λ e. omega arith) (λ long least within. omega arith))

pub returns-in-len1-clause-fault : goal.returns-in-len1-clause-fault
returns-in-len1-clause-fault c = (refl, no_items c.args.bytes.now (omega arith) (λ e. omega arith) (λ e. omega arith) (λ long least within. omega arith))
