use Rattle.std.proofs.Common.{None, Some, Bool, ap, sym, ◌∙◌}
use Rattle.std.specs.Prelude.{◌||◌}
use Rattle.segment.specs.ItemView.{item_of}
use Rattle.segment.proofs.Readings.{permitted_next}
use Rattle.segment.proofs.options.+has_permission.Goals as goal

pub returns-then-permits_sack : goal.returns-then-permits_sack
returns-then-permits_sack t c =
    sym (permitted_next (item_of c.in-Ok-Some.item) c.in-Ok-Some.after.now c.args.options.now (Some c.in-Some.later)
    (rw c.in-Ok-Some.field-0-is at c.in-Ok-Some.ensures.next) c.in-Some.ensures
    ∙ ap (λ (b : Bool). Some (b || c.in-Some.later)) (sym c.permits_sack.ensures ∙ c.if-permits_sack.true)
    ∙ ap Some (sym c.if-permits_sack.true))

pub returns-else-permits_sack : goal.returns-else-permits_sack
returns-else-permits_sack t c =
    sym (permitted_next (item_of c.in-Ok-Some.item) c.in-Ok-Some.after.now c.args.options.now (Some c.in-Some.later)
    (rw c.in-Ok-Some.field-0-is at c.in-Ok-Some.ensures.next) c.in-Some.ensures
    ∙ ap (λ (b : Bool). Some (b || c.in-Some.later)) (sym c.permits_sack.ensures ∙ c.if-permits_sack.false))

pub returns-in-None : goal.returns-in-None
returns-in-None t c =
    sym (permitted_next (item_of c.in-Ok-Some.item) c.in-Ok-Some.after.now c.args.options.now None
    (rw c.in-Ok-Some.field-0-is at c.in-Ok-Some.ensures.next) c.in-None.ensures)
