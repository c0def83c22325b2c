use Rattle.std.proofs.Common.{ap, arith}
use Rattle.seqno.specs.declared.word.Word.{Word}
use Rattle.seqno.proofs.NumberLemmas.{reads_behind}
use Rattle.seqno.proofs.word.read_near.Goals as goal

pub returns-else-ahead-lt-HALF_TURN-clause-reads : goal.returns-else-ahead-lt-HALF_TURN-clause-reads
returns-else-ahead-lt-HALF_TURN-clause-reads c =
    reads_behind c.args.near c.from-ahead.result c.args.base c.args.w c.checked_sub.result (omega arith) (omega arith)
    (omega (arith, ap (λ (v : Word). v.0) c.number.ensures)) (omega arith) c.checked_sub.ensures
