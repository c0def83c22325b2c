-- Lines that are read one after the other.
use Rattle.std.specs.Prelude.{ℕ, List, [], ◌∷◌, Result, Ok}
use Rattle.line_fields.specs.declared.fault.TextFault.{TextFault}
use Rattle.line_fields.specs.Reading.{◌>>=◌}

-- each line is read in a state, and the next one in the state after it
unfoldable pub read_lines : {S A : Type 0} → (S → List ℕ → Result A TextFault) → (S → A → S) → S → List (List ℕ)
    → Result (List A) TextFault
read_lines read after state [] = Ok []
read_lines read after state (raw ∷ raws) = do
  item ← read state raw
  items ← read_lines read after (after state item) raws
  Ok (item ∷ items)

-- each item with the bytes that spell it in its state
abbrev pub AreSpelled : {S A : Type 0} → (S → A → List ℕ → Type 0) → (S → A → S) → S → List A → List (List ℕ) → Type 0
AreSpelled R after state [] [] = Unit {0}
AreSpelled R after state [] (raw ∷ raws) = ⊥
AreSpelled R after state (a ∷ items) [] = ⊥
AreSpelled R after state (a ∷ items) (raw ∷ raws) = R state a raw × AreSpelled R after (after state a) items raws
