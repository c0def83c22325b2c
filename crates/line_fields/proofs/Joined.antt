-- Fields joined by spaces, and cut again.
use Rattle.std.proofs.Common.{◌≡◌, ◌<◌, ◌+◌, ◌^◌, ℕ, List, [], ◌∷◌, Bool, false, eqb, length, get_or, refl, ap, ◌∙◌, arith}
use Rattle.std.specs.Prelude.{map, All}
use Rattle.std.specs.List.{slice_split, join_with_byte, AllByRecursion}
use Rattle.std.specs.Fmt.{decimal}
use Rattle.std.specs.Str.Parse.{digits_value}
use Rattle.std.specs.Int.{IsInRange}
use Rattle.std.proofs.lemmas.Bool.{false_from_ne_true, eqb-true, le-leb}
use Rattle.std.proofs.lemmas.Fmt.{digits_decimal}
use Rattle.std.proofs.lemmas.List.Splits.{slice_split_at, slice_split_none, join_with_byte-slice_split}
use Rattle.std.proofs.lemmas.List.Elements.{All-from_get_or}
use Rattle.std.proofs.lemmas.Str.Parse.{IsNumeralModel, numerals_by_value, tells_by_index}
use Rattle.line_fields.specs.Word.{words_from, words_of}
use Rattle.line_fields.specs.Spelling.{IsClean}

abbrev is_space : ℕ → Bool
is_space b = eqb b 32

no_space : (text : List ℕ) → IsClean text → All (λ b. is_space b ≡ false) text
no_space text clean k d lt = false_from_ne_true (is_space (get_or text k d)) (λ hit. let high = clean k d lt in let same = eqb-true _ _ hit in omega arith)

-- fields with no space are found again
pub split-join : (w : List ℕ) (ws : List (List ℕ)) → AllByRecursion IsClean (w ∷ ws) → slice_split is_space (join_with_byte 32 (w ∷ ws)) ≡ w ∷ ws
split-join w [] clean = slice_split_none is_space w (no_space w clean.0)
split-join w (v ∷ ws) clean =
    slice_split_at is_space w 32 (join_with_byte 32 (v ∷ ws)) (no_space w clean.0) refl ∙ ap (λ (us : List (List ℕ)). w ∷ us) (split-join v ws clean.1)

-- the texts of the fields at their columns
pub texts-words_from : (line at : ℕ) (ts : List (List ℕ)) → map (λ w. w.text) (words_from line at ts) ≡ ts
texts-words_from line at [] = refl
texts-words_from line at (t ∷ ts) = ap (λ (us : List (List ℕ)). t ∷ us) (texts-words_from line (at + length t + 1) ts)

pub texts-words_of : (line : ℕ) (text : List ℕ) → map (λ w. w.text) (words_of line text) ≡ slice_split is_space text
texts-words_of line text = let test = le-leb 0 (length text) (omega arith) in rw test (texts-words_from line 0 (slice_split is_space text))

-- what is cut is joined again
pub join-split : (text : List ℕ) → join_with_byte 32 (slice_split is_space text) ≡ text
join-split text = join_with_byte-slice_split 32 text

digits : IsNumeralModel (λ ds. (i : ℕ) → i < length ds → IsInRange 48 57 (get_or ds i 0)) (digits_value 10)
digits = numerals_by_value (λ ds. (i : ℕ) → i < length ds → IsInRange 48 57 (get_or ds i 0)) tells_by_index

pub IsClean-decimal : (n : ℕ) → n < 2 ^ 64 → IsClean (decimal n)
IsClean-decimal n lt = All-from_get_or (λ b. 32 < b) (decimal n) 0 (λ i below. let range = digits_decimal digits n lt i below in omega arith)
