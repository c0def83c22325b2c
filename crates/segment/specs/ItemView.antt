-- Items as the code holds them.
use Rattle.segment.specs.declared.options.Item.{Item}
use Rattle.segment.specs.declared.options.Item.TheVariants as code
use Rattle.segment.specs.Options as list

-- the item that the code's item represents
abbrev pub item_of : Item → list.Item
item_of code.Padding = list.padding
item_of (code.Option kind content) = list.option kind content.now
