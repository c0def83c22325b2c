use Rattle.std.proofs.Common.{◌∙◌, ap}
use Rattle.segment.specs.Layout.{options_of}
use Rattle.segment.specs.Reading.{items_of}
use Rattle.segment.proofs.Blocks.{BlockIn, block_is, no_block_is}
use Rattle.segment.proofs.options.sack_block.Goals as goal

pub returns-in-Some : goal.returns-in-Some
returns-in-Some c =
    block_is (items_of (options_of c.args.bytes.now)) c.args.place c.block_among.result c.in-Some.block
    (c.block_among.ensures ∙ ap (λ options. BlockIn c.args.place (items_of options)) c.options_in.ensures) c.in-Some.is

pub returns-in-None : goal.returns-in-None
returns-in-None c =
    no_block_is (items_of (options_of c.args.bytes.now)) c.args.place c.block_among.result
    (c.block_among.ensures ∙ ap (λ options. BlockIn c.args.place (items_of options)) c.options_in.ensures) c.in-None.is
