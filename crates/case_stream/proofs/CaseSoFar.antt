-- A case that is read line by line.
use Rattle.std.proofs.Common.{◌≡◌, ◌<◌, ◌∙◌, subst, sym, ap, refl, true, false, ℕ, List, [], ◌∷◌, ◌++◌, length, Option, None, Some, arith, inl, inr}
use Rattle.std.proofs.Common.{◌+◌, ◌-◌, ◌==◌, ◌&&◌, get_or, nat_lt, length-append}
use Rattle.std.proofs.Math.Seq.{get_or-append_seam}
use Rattle.std.proofs.lemmas.Bool.{lt-ltb}
use Rattle.line_fields.specs.Lines.{is_ended}
use Rattle.counted.specs.LineParts.{GivesLine, LosesLine}
use Rattle.bstr.specs.Text.{lines_of}
use Rattle.bstr.proofs.lemmas.LineLemmas.{lines-nil}
use Rattle.line_fields.specs.Rows.{rows_of, HasNoRow, TakesRow}
use Rattle.line_fields.proofs.RowLemmas.{no_row, row_taken}
use Rattle.case_stream.specs.Cases.{cases_from, cases_of, ends_case, rest_case}
use Rattle.case_stream.specs.Left.{HasNoCase, TakesCase, TakesLast}

pub no_row_at : (most : ℕ) (a b : Option (List ℕ)) (before : Option ℕ) (kept : List ℕ) → GivesLine most a b before kept → before ≡ None
    → HasNoRow (rows_of a) (rows_of b)
no_row_at most a b before kept gives is = no_row most a b kept (subst (λ n. GivesLine most a b n kept) is gives)

pub row_at : (most : ℕ) (a b : Option (List ℕ)) (before : Option ℕ) (n : ℕ) (kept : List ℕ) → GivesLine most a b before kept → before ≡ Some n → n ≡ 0
    → TakesRow (rows_of a) (rows_of b) kept
row_at most a b before n kept gives is zero = row_taken most a b kept (subst (λ m. GivesLine most a b m kept) (is ∙ ap Some zero) gives)

-- the cases are those of the lines that are left, of which the first begins with the bytes read so far
abbrev pub IsSoFar : Option (List ℕ) → List ℕ → Option (List ℕ) → Type 0
IsSoFar None text new = Unit {0}
IsSoFar (Some old) text None = ⊥
IsSoFar (Some old) text (Some new) = cases_of old ≡ cases_from text (lines_of new)

pub at_start : (a : Option (List ℕ)) (text : List ℕ) → text ≡ [] → IsSoFar a text a
at_start None text none = tt
at_start (Some old) text none = ap (λ (xs : List ℕ). cases_from xs (lines_of old)) (sym none)

pub one_line_more : (a b c : Option (List ℕ)) (text raw : List ℕ) → IsSoFar a text b → TakesRow (rows_of b) (rows_of c) raw
    → ends_case raw ≡ false → IsSoFar a (text ++ raw) c
one_line_more None b c text raw so_far takes none = tt
one_line_more (Some old) None c text raw so_far takes none = absurd so_far
one_line_more (Some old) (Some was) None text raw so_far takes none = absurd takes
one_line_more (Some old) (Some was) (Some new) text raw so_far takes none =
    so_far ∙ ap (cases_from text) takes ∙ rw none refl

pub case_ended : (a b c : Option (List ℕ)) (text raw : List ℕ) → IsSoFar a text b → TakesRow (rows_of b) (rows_of c) raw
    → ends_case raw ≡ true → TakesCase a c text
case_ended None b c text raw so_far takes ends = tt
case_ended (Some old) None c text raw so_far takes ends = absurd so_far
case_ended (Some old) (Some was) None text raw so_far takes ends = absurd takes
case_ended (Some old) (Some was) (Some new) text raw so_far takes ends =
    so_far ∙ ap (cases_from text) takes ∙ rw ends refl

pub nonempty_rest : (xs : List ℕ) → 0 < length xs → rest_case xs ≡ xs ∷ []
nonempty_rest [] some = absurd (omega (some, arith))
nonempty_rest (x ∷ xs) some = refl

pub last_ended : (a b c : Option (List ℕ)) (text : List ℕ) → IsSoFar a text b → HasNoRow (rows_of b) (rows_of c)
    → 0 < length text → TakesLast a text
last_ended None b c text so_far none some = tt
last_ended (Some old) None c text so_far none some = absurd so_far
last_ended (Some old) (Some was) None text so_far none some = absurd none
last_ended (Some old) (Some was) (Some new) text so_far none some =
    so_far ∙ ap (cases_from text) none.0 ∙ nonempty_rest text some

empty_rest : (xs : List ℕ) → length xs ≡ 0 → rest_case xs ≡ []
empty_rest [] none = refl
empty_rest (x ∷ xs) none = absurd (omega (none, arith))

pub nothing_left : (a b c : Option (List ℕ)) (text : List ℕ) → IsSoFar a text b → HasNoRow (rows_of b) (rows_of c)
    → length text ≡ 0 → HasNoCase a
nothing_left None b c text so_far none empty = tt
nothing_left (Some old) None c text so_far none empty = absurd so_far
nothing_left (Some old) (Some was) None text so_far none empty = absurd none
nothing_left (Some old) (Some was) (Some new) text so_far none empty =
    so_far ∙ ap (cases_from text) none.0 ∙ empty_rest text empty

-- ---- a line without an end is the last

pub feed_ends : (raw text : List ℕ) → raw ≡ text ++ 10 ∷ [] → is_ended raw ≡ true
feed_ends raw text is =
    let long : length (text ++ 10 ∷ []) ≡ length text + 1 = length-append text (10 ∷ []) in
    let some : nat_lt 0 (length (text ++ 10 ∷ [])) ≡ true = lt-ltb 0 (length (text ++ 10 ∷ [])) (omega (arith, long)) in
    let place : length (text ++ 10 ∷ []) - 1 ≡ length text = omega (arith, long) in
    let last : (get_or (text ++ 10 ∷ []) (length (text ++ 10 ∷ []) - 1) 0 == 10) ≡ true =
    ap (λ (n : ℕ). get_or (text ++ 10 ∷ []) n 0 == 10) place ∙ ap (λ (b : ℕ). b == 10) (get_or-append_seam text 10 [] 0) in
    ap is_ended is ∙ (λ i. some i && last i)

end_of : (most : ℕ) (was new raw : List ℕ) → GivesLine most (Some was) (Some new) (Some 0) raw → is_ended raw ≡ false
    → (new ≡ []) × (0 < length raw)
end_of most was new raw gives unended =
    let front : gives.0 ≡ [] = nil_of gives.0 gives.1.count in
    let loses : LosesLine (Some was) (Some new) raw = subst (λ (xs : List ℕ). LosesLine (Some was) (Some new) (xs ++ raw)) front gives.2 in
    elim loses.1 [
      | inl feed ↦ let ended : true ≡ false = sym (feed_ends raw feed.0 feed.2) ∙ unended in absurd cc
      | inr last ↦ (last.2, last.1)
    ]
  where
    nil_of : (xs : List ℕ) → length xs ≡ 0 → xs ≡ []
    nil_of [] h = refl
    nil_of (x ∷ xs) h = absurd (omega (h, arith))

whole_last : (most : ℕ) (old was new text raw : List ℕ) → cases_of old ≡ cases_from text (lines_of was)
    → GivesLine most (Some was) (Some new) (Some 0) raw → ends_case raw ≡ false → is_ended raw ≡ false → cases_of old ≡ (text ++ raw) ∷ []
whole_last most old was new text raw so_far gives none unended =
    let end = end_of most was new raw gives unended in
    let lines : lines_of was ≡ raw ∷ [] =
    row_taken most (Some was) (Some new) raw gives ∙ ap (λ (xs : List ℕ). raw ∷ lines_of xs) end.0 ∙ ap (λ (xs : List (List ℕ)). raw ∷ xs) lines-nil in
    let both = length-append text raw in
    let some = end.1 in
    so_far ∙ ap (cases_from text) lines ∙ rw none (nonempty_rest (text ++ raw) (omega (arith, both, some)))

pub unended_last : (most : ℕ) (a b c : Option (List ℕ)) (before : Option ℕ) (n : ℕ) (text raw : List ℕ) → IsSoFar a text b
    → GivesLine most b c before raw → before ≡ Some n → n ≡ 0 → ends_case raw ≡ false → is_ended raw ≡ false → TakesLast a (text ++ raw)
unended_last most None b c before n text raw so_far gives is zero none unended = tt
unended_last most (Some old) None c before n text raw so_far gives is zero none unended = absurd so_far
unended_last most (Some old) (Some was) None before n text raw so_far gives is zero none unended =
    absurd (row_at most (Some was) None before n raw gives is zero)
unended_last most (Some old) (Some was) (Some new) before n text raw so_far gives is zero none unended =
    whole_last most old was new text raw so_far (subst (λ m. GivesLine most (Some was) (Some new) m raw) (is ∙ ap Some zero) gives) none unended
