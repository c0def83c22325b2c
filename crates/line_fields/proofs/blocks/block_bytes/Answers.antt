use Rattle.std.proofs.Common.{◌+◌, ◌*◌, get_or, refl, sym, ap, ◌∙◌}
use Rattle.hex.specs.Hex.{hex_digit_value}
use Rattle.line_fields.proofs.Lanes.{joined_is, joined_len, picked_at}
use Rattle.line_fields.specs.declared.blocks.TheConstants.{FIRST, SECOND}
use Rattle.line_fields.proofs.blocks.block_bytes.Goals as goal

pub returns-clause-len : goal.returns-clause-len
returns-clause-len c = joined_len c.values-high.result c.values-low.result c.values-high.ensures.len c.values-low.ensures.len

pub returns-clause-spelled : goal.returns-clause-spelled
returns-clause-spelled c all k i lt =
    let digits = c.args.digits in
    let high = c.values-high in
    let low = c.values-low in
    let below = c.are_below_16.ensures all k lt in
    let first = picked_at digits FIRST (λ j. 2 * j) c.fits-digits.0 tt refl refl k lt in
    let second = picked_at digits SECOND (λ j. 2 * j + 1) c.fits-digits.0 tt refl refl k lt in
    joined_is high.result low.result high.ensures.len low.ensures.len k i (get_or digits (2 * k) 0) (get_or digits (2 * k + 1) 0) lt below
    (ap hex_digit_value (sym first) ∙ high.ensures.values k lt below.0)
    (ap hex_digit_value (sym second) ∙ low.ensures.values k lt below.1)
