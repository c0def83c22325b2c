-- A word in a choice of words.
use Rattle.std.specs.Prelude.{ℕ, if◌then◌else◌, List, [], ◌∷◌, Option, Some, None, Result, Ok}
use Rattle.std.specs.Str.{bytes_eq}
use Rattle.line_fields.specs.declared.fault.FaultKind.TheVariants.{Field}
use Rattle.line_fields.specs.declared.fault.TextFault.{TextFault}
use Rattle.line_fields.specs.Word.{Word, Rest}
use Rattle.line_fields.specs.Reading.{◌>>=◌, fault_at, next_field, or_fault}

-- the one of these kinds that has the text as its name
abbrev pub kind_named : {K : Type 0} → (K → List ℕ) → List K → List ℕ → Option K
kind_named name [] text = None
kind_named name (k ∷ ks) text = if bytes_eq text (name k) then Some k else kind_named name ks text

-- the kind that a field names, and Field if it names none
abbrev pub kind_value : {K : Type 0} → (K → List ℕ) → List K → Word → Result K TextFault
kind_value name kinds w = or_fault (fault_at Field w) (kind_named name kinds w.text)

-- the next field, which names a kind
abbrev pub kind_field : {K : Type 0} → (K → List ℕ) → List K → Rest → Result (K × Rest) TextFault
kind_field name kinds r = do
  w ← next_field r
  k ← kind_value name kinds w.0
  Ok (k, w.1)
