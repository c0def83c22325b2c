-- How late a host may be.
use Rattle.std.specs.Prelude.{ℕ, Bool, false, if◌then◌else◌, List, slice_get, Option, None, Some, Result, Ok, Err}
use Rattle.std.specs.Prelude.{codes}
use Rattle.std.specs.Char.{is_ascii_digit}
use Rattle.std.specs.Option.{option_map_or}
use Rattle.std.specs.Str.{bytes_eq}
use Rattle.line_fields.specs.declared.fault.FaultKind.TheVariants.{Field}
use Rattle.line_fields.specs.declared.fault.TextFault.{TextFault}
use Rattle.line_fields.specs.Word.{Word, Rest}
use Rattle.line_fields.specs.Reading.{◌>>=◌, fault_at, next_field, number_value}

-- the first byte is a digit
abbrev pub begins_digit : List ℕ → Bool
begins_digit text = option_map_or is_ascii_digit (slice_get text 0) false

-- how late a host may be: `any`, or a number of microseconds; else Number if a digit begins the field, and Field if not
abbrev pub slack_value : Word → Result (Option ℕ) TextFault
slack_value w =
    if bytes_eq w.text (codes "any") then Ok None
    else if begins_digit w.text then (number_value 0 1000000000000000000 w >>= λ slack. Ok (Some slack))
    else Err (fault_at Field w)

-- the next field, which says so
unfoldable pub slack_field : Rest → Result (Option ℕ × Rest) TextFault
slack_field r = do
  w ← next_field r
  slack ← slack_value w.0
  Ok (slack, w.1)
