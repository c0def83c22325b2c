use Rattle.std.proofs.Common.{arith}
use Rattle.tables.proofs.RisingLemmas.{found_at, not_found}
use Rattle.tables.proofs.sorted_numbers.place_among.Goals.{else-first-risen-via-then-first-risen+else-risen-first, else-first-risen-via-else-first-risen}
use Rattle.tables.proofs.sorted_numbers.place_among.Goals as goal

pub returns-then-risen-first : goal.returns-then-risen-first
returns-then-risen-first c = found_at c.args.risen.now c.count_from_end-first.result c.args.number c.requires c.if-first-risen.true c.if-risen-first.true

pub returns : goal.returns
returns c = not_found c.args.risen.now c.count_from_end-first.result c.args.number c.requires
    c.count_from_end-first.ensures.below c.count_from_end-first.ensures.from
    (λ inside. elim c.else-first-risen.branch [
      | else-first-risen-via-then-first-risen+else-risen-first w ↦ w.if-risen-first.false
      | else-first-risen-via-else-first-risen w ↦ absurd (let out = w.if-first-risen.false in omega arith)
    ])
