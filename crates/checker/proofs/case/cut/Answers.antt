use Rattle.std.proofs.Common.{arith, length-append, sym, ◌∙◌}
use Rattle.std.specs.List.{concat}
use Rattle.checker.proofs.CaseLemmas.{cut_within, cut_more, cut_found, cut_end}
use Rattle.checker.proofs.case.cut.Goals as goal

pub split_at-requires : goal.split_at-requires
split_at-requires c =
    let within = cut_within c.args.version c.args.text.now c.loop-raw.at c.loop-raw.raw-iterator c.loop-raw.invariant in omega arith

pub returns-then-begins_witness-clause-trace : goal.returns-then-begins_witness-clause-trace
returns-then-begins_witness-clause-trace c =
    let so_far = rw c.in-Some.ensures.steps at c.loop-raw.invariant in
    c.split_at.ensures.front ∙ (cut_found c.args.version c.args.text.now c.loop-raw.at c.in-Some.raw.now c.next.new.self
    so_far (sym c.if-begins_witness.ensures.value)).0

pub returns-then-begins_witness-clause-witness : goal.returns-then-begins_witness-clause-witness
returns-then-begins_witness-clause-witness c =
    let so_far = rw c.in-Some.ensures.steps at c.loop-raw.invariant in
    c.split_at.ensures.back ∙ (cut_found c.args.version c.args.text.now c.loop-raw.at c.in-Some.raw.now c.next.new.self
    so_far (sym c.if-begins_witness.ensures.value)).1

pub overflow_add-at : goal.overflow_add-at
overflow_add-at c =
    let so_far = rw c.in-Some.ensures.steps at c.loop-raw.invariant in
    let within = cut_within c.args.version c.args.text.now c.loop-raw.at _ so_far in
    let both = length-append c.in-Some.raw.now (concat c.next.new.self) in
    omega arith

pub loop-raw-preserved : goal.loop-raw-preserved
loop-raw-preserved c =
    let so_far = rw c.in-Some.ensures.steps at c.loop-raw.invariant in
    cut_more c.args.version c.args.text.now c.loop-raw.at c.in-Some.raw.now c.next.new.self so_far (sym c.if-begins_witness.ensures.value)

pub split_at-requires-2 : goal.split_at-requires-2
split_at-requires-2 c =
    let within = cut_within c.args.version c.args.text.now c.loop-raw.at c.loop-raw.raw-iterator c.loop-raw.invariant in omega arith

pub returns-clause-trace : goal.returns-clause-trace
returns-clause-trace c =
    let so_far = rw c.in-None.ensures.steps.0 at c.loop-raw.invariant in
    c.split_at-2.ensures.front ∙ (cut_end c.args.version c.args.text.now c.loop-raw.at so_far).0

pub returns-clause-witness : goal.returns-clause-witness
returns-clause-witness c =
    let so_far = rw c.in-None.ensures.steps.0 at c.loop-raw.invariant in
    c.split_at-2.ensures.back ∙ (cut_end c.args.version c.args.text.now c.loop-raw.at so_far).1
