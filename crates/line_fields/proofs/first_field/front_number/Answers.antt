use Rattle.std.proofs.Common.{take}
use Rattle.std.proofs.lemmas.List.{length-take-le}
use Rattle.line_fields.proofs.NumberLanes.{count_most, are_digits, spelled}
use Rattle.line_fields.proofs.first_field.front_number.Goals as goal

pub overflow_sub-weighted : goal.overflow_sub-weighted
overflow_sub-weighted c = count_most (take 8 c.args.text.now) (length-take-le 8 c.args.text.now c.requires) c.if-others-eq0.false

pub returns-clause-most : goal.returns-clause-most
returns-clause-most c = count_most (take 8 c.args.text.now) (length-take-le 8 c.args.text.now c.requires) c.if-others-eq0.false

pub returns-clause-digits : goal.returns-clause-digits
returns-clause-digits c few = are_digits c.args.text.now c.requires c.type_inv.text c.if-others-eq0.false few

pub returns-clause-value : goal.returns-clause-value
returns-clause-value c few =
    spelled c.args.text.now _ c.requires few (are_digits c.args.text.now c.requires c.type_inv.text c.if-others-eq0.false few)
