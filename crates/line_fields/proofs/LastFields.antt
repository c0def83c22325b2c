-- The last fields of a line, from their bytes.
use Rattle.std.proofs.Common.{◌≡◌, ℕ, suc, ◌+◌, ◌≤◌, List, [], ◌∷◌, length, get_or, drop, map, Ok, refl, sym, ap, ◌∙◌, arith}
use Rattle.std.specs.List.{position_or_len, slice_split}
use Rattle.std.proofs.lemmas.List.Splits.{slice_split_none}
use Rattle.std.proofs.lemmas.List.Sums.{fails_before_first}
use Rattle.hex.specs.Hex.{decode_of}
use Rattle.line_fields.specs.Word.{words_from, words_left}
use Rattle.line_fields.specs.FirstField.{fields_of}
use Rattle.line_fields.proofs.Columns.{is_space, words_left-within}
use Rattle.line_fields.proofs.HexFieldLemmas.{no_space}

texts_from : (line at : ℕ) (ts : List (List ℕ)) → map (λ w. w.text) (words_from line at ts) ≡ ts
texts_from line at [] = refl
texts_from line at (t ∷ ts) = ap (λ (us : List (List ℕ)). t ∷ us) (texts_from line (at + length t + 1) ts)

-- the texts of the fields that are left
pub texts_left : (line at : ℕ) (text rest : List ℕ) → at ≤ length text → rest ≡ drop at text → map (λ w. w.text) (words_left line at text) ≡ fields_of rest
texts_left line at text rest le e =
    ap (map (λ w. w.text)) (words_left-within line at text le) ∙ texts_from line at (slice_split is_space (drop at text)) ∙ ap fields_of (sym e)

-- bytes without a space are one field
pub alone : (text : List ℕ) → position_or_len is_space text ≡ length text → fields_of text ≡ text ∷ []
alone text place = slice_split_none is_space text (λ i d lt. fails_before_first is_space text i d (omega arith))

-- the text has these bytes from a place on
abbrev pub Has : List ℕ → ℕ → List ℕ → Type 0
Has text i [] = Unit {0}
Has text i (b ∷ bs) = (get_or text i 0 ≡ b) × Has text (suc i) bs

behind : (x : ℕ) (text : List ℕ) (i : ℕ) (bs : List ℕ) → Has (x ∷ text) (suc i) bs → Has text i bs
behind x text i [] has = tt
behind x text i (b ∷ bs) has = (has.0, behind x text (suc i) bs has.1)

-- a text that has just these bytes
pub is_word : (text word : List ℕ) → length text ≡ length word → Has text 0 word → text ≡ word
is_word [] [] long has = refl
is_word (x ∷ text) [] long has = absurd (omega arith)
is_word [] (b ∷ bs) long has = absurd (omega arith)
is_word (x ∷ text) (b ∷ bs) long has =
    ap (λ (y : ℕ). y ∷ text) has.0 ∙ ap (λ (ys : List ℕ). b ∷ ys) (is_word text bs (omega arith) (behind x text 0 bs has.1))

-- bytes in hex are one field
pub hex_alone : (digits bytes : List ℕ) → decode_of digits ≡ Ok bytes → fields_of digits ≡ digits ∷ []
hex_alone digits bytes decodes = alone digits (no_space digits bytes decodes)
