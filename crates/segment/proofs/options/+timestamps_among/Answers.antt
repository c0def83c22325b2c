use Rattle.std.proofs.Common.{None, Some, Option, ap, sym, ◌∙◌}
use Rattle.std.specs.Option.{option_or}
use Rattle.segment.specs.ItemView.{item_of}
use Rattle.segment.specs.declared.options.TimestampPair.{TimestampPair}
use Rattle.segment.proofs.Clocks.{timestamps_next}
use Rattle.segment.proofs.options.+timestamps_among.Goals as goal

pub returns-in-Some : goal.returns-in-Some
returns-in-Some t c =
    sym (timestamps_next (item_of c.in-Ok-Some.item) c.in-Ok-Some.after.now c.args.options.now (Some c.in-Some.later)
    (rw c.in-Ok-Some.field-0-is at c.in-Ok-Some.ensures.next) (sym c.in-Some.is ∙ c.timestamps_among.ensures)
    ∙ ap Some (sym (c.or.ensures ∙ ap (λ (own : Option TimestampPair). option_or c.in-Some.later own) c.timestamps.ensures)))

pub returns-in-None : goal.returns-in-None
returns-in-None t c =
    sym (timestamps_next (item_of c.in-Ok-Some.item) c.in-Ok-Some.after.now c.args.options.now None
    (rw c.in-Ok-Some.field-0-is at c.in-Ok-Some.ensures.next) (sym c.in-None.is ∙ c.timestamps_among.ensures))
