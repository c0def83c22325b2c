use Rattle.std.proofs.Common.{◌<◌, ◌∙◌, ℕ, sym, subst, ap, length}
use Rattle.segment.specs.ItemView.{item_of}
use Rattle.segment.specs.Reading.{item_blocks}
use Rattle.segment.proofs.Blocks.{block_of_item}
use Rattle.segment.proofs.options.Item.block.Goals as goal

pub block_in-requires : goal.block_in-requires
block_in-requires c =
    (block_of_item c.in-Option.kind c.in-Option.content.now c.args.place
    (subst (λ (n : ℕ). c.args.place < n) (c.block_count.ensures ∙ ap (λ i. length (item_blocks (item_of i))) c.in-Option.is)
    c.if-place-block_count.false)).within

pub returns-in-Option : goal.returns-in-Option
returns-in-Option c =
    rw (c.in-Option.is, c.block_in.ensures)
    (sym (block_of_item c.in-Option.kind c.in-Option.content.now c.args.place
    (subst (λ (n : ℕ). c.args.place < n) (c.block_count.ensures ∙ ap (λ i. length (item_blocks (item_of i))) c.in-Option.is)
    c.if-place-block_count.false)).is)
