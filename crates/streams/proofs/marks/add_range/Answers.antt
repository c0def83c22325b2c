use Rattle.std.proofs.Common.{◌≡◌, ◌∙◌, ap, max, unwrap_or, ℕ, nat_cmp, arith, Option}
use Rattle.std.specs.Map.{lookup}
use Rattle.std.specs.BTreeMap.{is_at}
use Rattle.streams.proofs.MarkLemmas.{added, none_more, ranges_more}
use Rattle.streams.proofs.marks.add_range.Goals as goal

far : (c : goal.In_ok-insert) → c.max.result ≡ max c.args.upto (unwrap_or (lookup (is_at (nat_cmp c.args.from)) c.args.ranges.now.entries) 0)
far c =
    let old : c.unwrap_or-old.result ≡ unwrap_or (lookup (is_at (nat_cmp c.args.from)) c.args.ranges.now.entries) 0 =
    c.unwrap_or-old.ensures ∙ ap (λ (o : Option ℕ). unwrap_or o 0) (c.copied.ensures ∙ c.get.ensures.value) in
    omega arith

pub returns-clause-added : goal.returns-clause-added
returns-clause-added c position = rw c.in_ok-insert.ensures.entries (added c.args.ranges.now.entries c.args.from c.args.upto c.max.result (far c) position)

pub returns-clause-below : goal.returns-clause-below
returns-clause-below c floor end low high h =
    rw c.in_ok-insert.ensures.entries
    (ranges_more c.args.ranges.now.entries floor end c.args.from c.args.upto c.max.result
    (let some = c.if-upto-from.false in omega arith) low high (far c) h)

pub returns-then-upto-from-clause-added : goal.returns-then-upto-from-clause-added
returns-then-upto-from-clause-added c position = none_more c.args.ranges.now.entries c.args.from c.args.upto position c.if-upto-from.true
