use Rattle.std.proofs.Common.{List, ℕ, Some, ◌≡◌, subst}
use Rattle.std.specs.List.{list_any}
use Rattle.std.specs.Option.{option_map}
use Rattle.segment.specs.Layout.{options_of}
use Rattle.segment.specs.Reading.{is_sack_permission, items_of}
use Rattle.segment.proofs.Readings.{permitted_is}
use Rattle.segment.proofs.options.permits_sack.Goals as goal

pub returns-in-Some : goal.returns-in-Some
returns-in-Some c =
    permitted_is (items_of (options_of c.args.bytes.now)) c.in-Some.permits
    (subst (λ (options : List ℕ). Some c.in-Some.permits ≡ option_map (list_any is_sack_permission) (items_of options)) c.options_in.ensures
    c.in-Some.ensures)
