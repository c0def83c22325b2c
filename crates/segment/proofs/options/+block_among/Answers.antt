use Rattle.std.proofs.Common.{None, Some, ◌-◌, Option, ap, sym, ◌∙◌}
use Rattle.std.specs.Option.{option_or}
use Rattle.segment.specs.ItemView.{item_of}
use Rattle.segment.specs.Reading.{items_of}
use Rattle.segment.specs.declared.options.SackBlock.{SackBlock}
use Rattle.segment.proofs.Blocks.{BlockIn, block_next, block_none}
use Rattle.segment.proofs.options.+block_among.Goals as goal

pub returns-in-Some : goal.returns-in-Some
returns-in-Some t c =
    sym (block_next (item_of c.in-Ok-Some.item) c.in-Ok-Some.after.now c.args.options.now c.args.place (Some c.in-Some.found)
    (rw c.in-Ok-Some.field-0-is at c.in-Ok-Some.ensures.next)
    (sym c.in-Some.is ∙ c.block_among.ensures
    ∙ ap (λ k. BlockIn k (items_of c.in-Ok-Some.after.now)) (c.saturating_sub-later.ensures ∙ ap (λ n. c.args.place - n) c.block_count.ensures))
    ∙ ap Some (sym (c.or.ensures ∙ ap (λ (b : Option SackBlock). option_or b c.in-Some.found) c.block.ensures)))

pub returns-in-None : goal.returns-in-None
returns-in-None t c =
    sym (block_next (item_of c.in-Ok-Some.item) c.in-Ok-Some.after.now c.args.options.now c.args.place None
    (rw c.in-Ok-Some.field-0-is at c.in-Ok-Some.ensures.next)
    (sym c.in-None.is ∙ c.block_among.ensures
    ∙ ap (λ k. BlockIn k (items_of c.in-Ok-Some.after.now)) (c.saturating_sub-later.ensures ∙ ap (λ n. c.args.place - n) c.block_count.ensures)))

pub returns-in-Err : goal.returns-in-Err
returns-in-Err t c = sym (block_none c.args.options.now c.args.place c.in-Err.ensures.fault.1)
