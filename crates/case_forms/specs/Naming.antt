-- A label that refers to its line in another way.
use Rattle.std.specs.Prelude.{Option, Some}
use Rattle.std.specs.Option.{option_map}
use Rattle.case_forms.specs.declared.steps.Label.{Label}
use Rattle.case_forms.specs.declared.steps.Label.TheVariants.{L, D, M, T, K, R, F}

-- what is found for the line takes its place; nothing if it is not found
abbrev pub with_line : {A B : Type 0} → (A → Option B) → Label A → Option (Label B)
with_line find (L line) = option_map (λ found. L found) (find line)
with_line find (D thread answer) = Some (D thread answer)
with_line find (M host plan) = Some (M host plan)
with_line find (T host line choice) = Some (T host line choice)
with_line find (K host line) = Some (K host line)
with_line find (R host line) = Some (R host line)
with_line find (F host recovery) = Some (F host recovery)
