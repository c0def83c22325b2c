-- A case with a line that is too long.
use Rattle.std.proofs.Common.{◌≡◌, ◌<◌, ◌+◌, ◌-◌, ◌==◌, ◌&&◌, ◌∙◌, subst, sym, ap, refl, Bool, true, false, ℕ, zero, suc, List, [], ◌∷◌, ◌++◌, length}
use Rattle.std.proofs.Common.{Option, None, Some, Ok, arith, inl, inr, codes, drop, get_or, nat_lt, append-nil, append_assoc, length-append}
use Rattle.std.specs.List.{AllByRecursion, concat}
use Rattle.std.specs.Str.{bytes_eq}
use Rattle.std.proofs.lemmas.Bool.{eqb-true, false_from_ne_true}
use Rattle.std.proofs.lemmas.Slice.Eq.{bytes_eq-Decides}
use Rattle.bstr.specs.Text.{lines_of, without_terminator}
use Rattle.bstr.proofs.lemmas.LineLemmas.{lines-nil}
use Rattle.counted.specs.AtHand.{AreOthers, IsOther, Takes}
use Rattle.counted.specs.declared.at_hand.Taken.{Taken}
use Rattle.counted.specs.declared.at_hand.Taken.TheVariants.{Lines, Nothing}
use Rattle.std.specs.Io.{StartsWith}
use Rattle.std.proofs.KnownBytes.{starts_with_rest}
use Rattle.counted.specs.LineParts.{GivesLine, LosesLine}
use Rattle.line_fields.specs.Lines.{HasNoFeed, IsRaw, is_ended, line_text, text_in}
use Rattle.line_fields.specs.Rows.{HasNoRow, TakesRow, next_text, rows_of}
use Rattle.line_fields.proofs.RowLemmas.{row_taken, too_long}
use Rattle.line_fields.proofs.Texts.{lines_of-raw}
use Rattle.case_stream.specs.Cases.{cases_from, cases_of, ends_case}
use Rattle.case_stream.specs.Long.{AreWhole, GoesOn, IsTooLong, SkipsCase, SkipsLast, TakesLong, TakesLongLast}
use Rattle.case_stream.proofs.AtHand.{feed_raw}
use Rattle.case_stream.proofs.CaseSoFar.{IsSoFar, nonempty_rest, row_at}

nil_of : {A : Type 0} → (xs : List A) → length xs ≡ 0 → xs ≡ []
nil_of [] none = refl
nil_of (x ∷ xs) none = absurd (omega (none, arith))

both : (a b : Bool) → (a && b) ≡ true → (a ≡ true) × (b ≡ true)
both true b h = (refl, h)
both false b h = absurd cc

-- ---- whole lines

concat_both : (xs ys : List (List ℕ)) → concat (xs ++ ys) ≡ concat xs ++ concat ys
concat_both [] ys = refl
concat_both (x ∷ xs) ys = ap (λ (zs : List ℕ). x ++ zs) (concat_both xs ys) ∙ sym (append_assoc x (concat xs) (concat ys))

both_raw : (xs ys : List (List ℕ)) → AllByRecursion IsRaw xs → AllByRecursion IsRaw ys → AllByRecursion IsRaw (xs ++ ys)
both_raw [] ys front back = back
both_raw (x ∷ xs) ys front back = (front.0, both_raw xs ys front.1 back)

others_raw : (word : List ℕ) (lines : List (List ℕ)) → AllByRecursion (IsOther word) lines → AllByRecursion IsRaw lines
others_raw word [] are = tt
others_raw word (raw ∷ lines) are = (feed_raw raw are.0.0, others_raw word lines are.1)

pub whole_start : (text : List ℕ) → text ≡ [] → AreWhole text
whole_start text none = ([], tt, none)

whole_more : (text lines word : List ℕ) → AreWhole text → AreOthers word lines → AreWhole (text ++ lines)
whole_more text lines word whole are = (
  whole.0 ++ are.0,
  both_raw whole.0 are.0 whole.1 (others_raw word are.0 are.1),
  (λ i. whole.2 i ++ are.2 i) ∙ sym (concat_both whole.0 are.0),
)

-- what was taken of the lines at hand leaves whole lines
pub lines_whole : (b c : Option (List ℕ)) (text next word : List ℕ) (taken : Taken) → AreWhole text → StartsWith next text
    → Takes taken word b c (drop (length text) next) → taken ≡ Lines → AreWhole next
lines_whole b c text next word taken whole starts took is =
    let t : Takes Lines word b c (drop (length text) next) = subst (λ (k : Taken). Takes k word b c (drop (length text) next)) is took in
    subst AreWhole (sym (starts_with_rest next text starts)) (whole_more text (drop (length text) next) word whole t.0)

pub none_whole : (b c : Option (List ℕ)) (text next word : List ℕ) (taken : Taken) → AreWhole text → StartsWith next text
    → Takes taken word b c (drop (length text) next) → taken ≡ Nothing → AreWhole next
none_whole b c text next word taken whole starts took is =
    let t : Takes Nothing word b c (drop (length text) next) = subst (λ (k : Taken). Takes k word b c (drop (length text) next)) is took in
    let same : next ≡ text = starts_with_rest next text starts ∙ ap (λ (xs : List ℕ). text ++ xs) t.0 ∙ append-nil text in
    subst AreWhole (sym same) whole

-- the line that was kept has its end
kept_raw : (most n : ℕ) (a b : Option (List ℕ)) (before : Option ℕ) (kept : List ℕ) → GivesLine most a b before kept → before ≡ Some n
    → n ≡ 0 → is_ended kept ≡ true → IsRaw kept
kept_raw most n a b before kept gives is none ended =
    let g : GivesLine most a b (Some 0) kept = subst (λ (m : Option ℕ). GivesLine most a b m kept) (is ∙ ap Some none) gives in
    let front : g.0 ≡ [] = nil_of g.0 g.1.count in
    let loses : LosesLine a b kept = subst (λ (xs : List ℕ). LosesLine a b (xs ++ kept)) front g.2 in
    elim loses.1 [
      | inl feed ↦ feed_raw kept feed
      | inr last ↦ absurd (open_line kept last.0 last.1 ended)
    ]
  where
    open_line : (raw : List ℕ) → HasNoFeed raw → 0 < length raw → is_ended raw ≡ true → ⊥
    open_line [] none some ended = omega (some, arith)
    open_line (x ∷ xs) none some ended =
        let last = (both (nat_lt 0 (length (x ∷ xs))) (get_or (x ∷ xs) (length (x ∷ xs) - 1) 0 == 10) ended).1 in
        none (length (x ∷ xs) - 1) 0 (omega arith) (eqb-true (get_or (x ∷ xs) (length (x ∷ xs) - 1) 0) 10 last)

pub whole_line_more : (most n : ℕ) (a b : Option (List ℕ)) (before : Option ℕ) (text kept : List ℕ) → AreWhole text → GivesLine most a b before kept
    → before ≡ Some n → n ≡ 0 → is_ended kept ≡ true → AreWhole (text ++ kept)
whole_line_more most n a b before text kept whole gives is none ended = (
  whole.0 ++ kept ∷ [],
  both_raw whole.0 (kept ∷ []) whole.1 (kept_raw most n a b before kept gives is none ended, tt),
  ap (λ (xs : List ℕ). xs ++ kept) whole.2 ∙ ap (λ (xs : List ℕ). concat whole.0 ++ xs) (sym (append-nil kept))
      ∙ sym (concat_both whole.0 (kept ∷ [])),
)

lines_before : (lines : List (List ℕ)) (more : List ℕ) → AllByRecursion IsRaw lines → lines_of (concat lines ++ more) ≡ lines ++ lines_of more
lines_before [] more are = refl
lines_before (raw ∷ lines) more are =
    ap lines_of (append_assoc raw (concat lines) more)
    ∙ lines_of-raw raw (concat lines ++ more) are.0
    ∙ ap (λ (raws : List (List ℕ)). raw ∷ raws) (lines_before lines more are.1)

-- ---- one line, of which the last bytes are kept

row_read : (most n : ℕ) (a b : Option (List ℕ)) (kept : List ℕ) (g : GivesLine most a b (Some n) kept)
    → TakesRow (rows_of a) (rows_of b) (g.0 ++ kept)
row_read most n a b kept g =
    row_taken 0 a b (g.0 ++ kept)
    ([], record { count = refl; past = λ h. absurd (omega (h, arith)); begins = λ h. absurd (omega (h, arith)) }, g.2)

is_too_long : (n : ℕ) (was new kept : List ℕ) (g : GivesLine 140002 (Some was) (Some new) (Some n) kept) → (n ≡ 0 → ⊥)
    → IsTooLong (n + length (without_terminator kept)) (g.0 ++ kept)
is_too_long n was new kept g some number =
    ap (next_text number) (sym (row_read 140002 n (Some was) (Some new) kept g))
    ∙ too_long (Some was) (Some new) kept (without_terminator kept) n number g some refl

end_text : (text : List ℕ) (ended : Bool) → text ≡ codes "end" → ended ≡ true → text_in 1 text ended ≡ Ok (codes "end")
end_text text ended is end = rw (is, end) refl

-- a line that is too long ends no case
long_ends_none : (size : ℕ) (raw : List ℕ) → IsTooLong size raw → ends_case raw ≡ false
unfolding line_text
long_ends_none size raw long =
    false_from_ne_true _ (λ ends.
    let parts = both (is_ended raw) (bytes_eq (without_terminator raw) (codes "end")) ends in
    let text = (bytes_eq-Decides (without_terminator raw) (codes "end")).0 parts.1 in
    let clash = sym (end_text (without_terminator raw) (is_ended raw) text parts.0) ∙ long 1 in
    absurd cc)

-- ---- the rest of a case

-- lines were read that end no case
abbrev pub IsSkipped : Option (List ℕ) → Option (List ℕ) → Type 0
IsSkipped None new = Unit {0}
IsSkipped (Some old) None = ⊥
IsSkipped (Some old) (Some new) =
    (rest : List ℕ) × ((before : List ℕ) → cases_from before (lines_of old) ≡ cases_from (before ++ rest) (lines_of new))

pub skip_start : (a : Option (List ℕ)) → IsSkipped a a
skip_start None = tt
skip_start (Some old) = ([], λ before. ap (λ (xs : List ℕ). cases_from xs (lines_of old)) (sym (append-nil before)))

ends_none : (n : ℕ) (was new kept : List ℕ) (g : GivesLine 140002 (Some was) (Some new) (Some n) kept)
    → (n ≡ 0 → ends_case kept ≡ false) → ends_case (g.0 ++ kept) ≡ false
ends_none zero was new kept g none = ap (λ (xs : List ℕ). ends_case (xs ++ kept)) (nil_of g.0 g.1.count) ∙ none refl
ends_none (suc n) was new kept g none =
    long_ends_none (suc n + length (without_terminator kept)) (g.0 ++ kept) (is_too_long (suc n) was new kept g (λ h. omega (h, arith)))

pub skip_more : (a b c : Option (List ℕ)) (before : Option ℕ) (n : ℕ) (kept : List ℕ) → IsSkipped a b → GivesLine 140002 b c before kept
    → before ≡ Some n → (n ≡ 0 → ends_case kept ≡ false) → IsSkipped a c
skip_more None b c before n kept skipped gives is none = tt
skip_more (Some old) None c before n kept skipped gives is none = absurd skipped
skip_more (Some old) (Some was) None before n kept skipped gives is none =
    absurd (row_read 140002 n (Some was) None kept (subst (λ (m : Option ℕ). GivesLine 140002 (Some was) None m kept) is gives))
skip_more (Some old) (Some was) (Some new) before n kept skipped gives is none =
    let g : GivesLine 140002 (Some was) (Some new) (Some n) kept =
    subst (λ (m : Option ℕ). GivesLine 140002 (Some was) (Some new) m kept) is gives in
    let raw : List ℕ = g.0 ++ kept in
    let takes : lines_of was ≡ raw ∷ lines_of new = row_read 140002 n (Some was) (Some new) kept g in
    let other : ends_case raw ≡ false = ends_none n was new kept g none in (
      skipped.0 ++ raw,
      λ before.
          skipped.1 before
          ∙ ap (cases_from (before ++ skipped.0)) takes
          ∙ rw other (ap (λ (xs : List ℕ). cases_from xs (lines_of new)) (append_assoc before skipped.0 raw)),
    )

pub skip_ended : (a b c : Option (List ℕ)) (before : Option ℕ) (n : ℕ) (kept : List ℕ) → IsSkipped a b → GivesLine 140002 b c before kept
    → before ≡ Some n → n ≡ 0 → ends_case kept ≡ true → SkipsCase a c
skip_ended None b c before n kept skipped gives is none ends = tt
skip_ended (Some old) None c before n kept skipped gives is none ends = absurd skipped
skip_ended (Some old) (Some was) None before n kept skipped gives is none ends =
    absurd (row_at 140002 (Some was) None before n kept gives is none)
skip_ended (Some old) (Some was) (Some new) before n kept skipped gives is none ends =
    let takes : lines_of was ≡ kept ∷ lines_of new = row_at 140002 (Some was) (Some new) before n kept gives is none in
    (skipped.0, λ before. skipped.1 before ∙ ap (cases_from (before ++ skipped.0)) takes ∙ rw ends refl)

pub skip_last : (a b c : Option (List ℕ)) → IsSkipped a b → HasNoRow (rows_of b) (rows_of c) → SkipsLast a
skip_last None b c skipped none = tt
skip_last (Some old) None c skipped none = absurd skipped
skip_last (Some old) (Some was) None skipped none = absurd none
skip_last (Some old) (Some was) (Some new) skipped none = (
  skipped.0,
  λ before some.
      let long = length-append before skipped.0 in
      skipped.1 before ∙ ap (cases_from (before ++ skipped.0)) none.0 ∙ nonempty_rest (before ++ skipped.0) (omega (arith, some, long)),
)

-- ---- the whole case

-- after the last line, there is no rest
no_rest : (mid rest : List ℕ) (cases : List (List ℕ)) → cases_from (0 ∷ []) (lines_of mid) ≡ (0 ∷ rest) ∷ cases → mid ≡ [] → rest ≡ []
no_rest mid rest cases is none =
    let lines : lines_of mid ≡ [] = ap lines_of none ∙ lines-nil in
    let same : (0 ∷ []) ∷ [] ≡ (0 ∷ rest) ∷ cases = sym (ap (cases_from (0 ∷ [])) lines) ∙ is in
    let size : 1 ≡ suc (length rest) = ap (λ (xs : List (List ℕ)). length (get_or xs 0 [])) same in
    nil_of rest (omega (arith, size))

rows_behind : (was mid raw rest : List ℕ) → LosesLine (Some was) (Some mid) raw → lines_of was ≡ raw ∷ lines_of mid → (mid ≡ [] → rest ≡ [])
    → (raws : List (List ℕ)) × (lines_of (raw ++ rest) ≡ raw ∷ raws)
rows_behind was mid raw rest loses takes none = elim loses.1 [
  | inl feed ↦ (lines_of rest, lines_of-raw raw rest (feed_raw raw feed))
  | inr last ↦
      let same : raw ++ rest ≡ was = ap (λ (xs : List ℕ). raw ++ xs) (none last.2 ∙ sym last.2) ∙ sym loses.0 in (lines_of mid, ap lines_of same ∙ takes)
]

module _ (text was mid kept : List ℕ) (n : ℕ) (whole : AreWhole text) (g : GivesLine 140002 (Some was) (Some mid) (Some n) kept)
    (some : n ≡ 0 → ⊥) where
  abbrev raw : List ℕ
  raw = g.0 ++ kept

  abbrev all : ℕ
  all = n + length (without_terminator kept)

  long : IsTooLong all raw
  long = is_too_long n was mid kept g some

  takes : lines_of was ≡ raw ∷ lines_of mid
  takes = row_read 140002 n (Some was) (Some mid) kept g

  goes_on : (rest : List ℕ) → (mid ≡ [] → rest ≡ []) → GoesOn all text ((text ++ raw) ++ rest)
  goes_on rest none =
      let behind = rows_behind was mid raw rest g.2 takes none in
      record {
        whole = whole;
        raw = raw;
        rest = behind.0;
        long = long;
        are =
            ap lines_of (append_assoc text raw rest)
            ∙ ap (λ (xs : List ℕ). lines_of (xs ++ (raw ++ rest))) whole.2
            ∙ lines_before whole.0 (raw ++ rest) whole.1
            ∙ ap (λ (raws : List (List ℕ)). whole.0 ++ raws) behind.1;
      }

  module _ (old : List ℕ) (so_far : cases_of old ≡ cases_from text (lines_of was)) where
    cases_are : cases_of old ≡ cases_from (text ++ raw) (lines_of mid)
    cases_are = so_far ∙ ap (cases_from text) takes ∙ rw (long_ends_none all raw long) refl

    taken : (new : List ℕ) → SkipsCase (Some mid) (Some new) → TakesLong (Some old) (Some new) all text
    taken new skips = (
      (text ++ raw) ++ skips.0,
      goes_on skips.0 (no_rest mid skips.0 (cases_of new) (skips.1 (0 ∷ []))),
      cases_are ∙ skips.1 (text ++ raw),
    )

    some_bytes : 0 < length (text ++ raw)
    some_bytes =
        let front = g.1.count in
        let one = length-append text raw in
        let two = length-append g.0 kept in
        omega (arith, some, front, one, two)

    taken_last : SkipsLast (Some mid) → TakesLongLast (Some old) all text
    taken_last skips = (
      (text ++ raw) ++ skips.0,
      goes_on skips.0 (no_rest mid skips.0 [] (skips.1 (0 ∷ []) (omega arith))),
      cases_are ∙ skips.1 (text ++ raw) some_bytes,
    )

-- the line alone, if the bytes that it was read from aren't known
abbrev line_alone : (most n : ℕ) (a b : Option (List ℕ)) (kept : List ℕ) (g : GivesLine most a b (Some n) kept)
    → GivesLine most (Some (g.0 ++ kept)) (Some []) (Some n) kept
line_alone most n a b kept g = (
  g.0,
  g.1,
  (
    sym (append-nil (g.0 ++ kept)),
    elim g.2.1 [
      | inl feed ↦ inl feed
      | inr last ↦ inr (last.0, last.1, refl)
    ],
  ),
)

module _ (before : Option ℕ) (n size : ℕ) (text kept : List ℕ) (whole : AreWhole text) (is : before ≡ Some n) (some : n ≡ 0 → ⊥)
    (fits : size ≡ n + length (without_terminator kept)) where
  read : (b c : Option (List ℕ)) → GivesLine 140002 b c before kept → GivesLine 140002 b c (Some n) kept
  read b c gives = subst (λ (m : Option ℕ). GivesLine 140002 b c m kept) is gives

  unknown : (b c : Option (List ℕ)) → GivesLine 140002 b c before kept → (whole_text : List ℕ) × GoesOn size text whole_text
  unknown b c gives =
      let g = read b c gives in (
        (text ++ (g.0 ++ kept)) ++ [],
        subst (λ (k : ℕ). GoesOn k text ((text ++ (g.0 ++ kept)) ++ [])) (sym fits)
            (goes_on text (g.0 ++ kept) [] kept n whole (line_alone 140002 n b c kept g) some [] (λ none. refl)),
      )

  pub takes_long : (a b c d : Option (List ℕ)) → IsSoFar a text b → GivesLine 140002 b c before kept → SkipsCase c d → TakesLong a d size text
  takes_long None b c d so_far gives skips = let found = unknown b c gives in (found.0, found.1, tt)
  takes_long (Some old) None c d so_far gives skips = absurd so_far
  takes_long (Some old) (Some was) None d so_far gives skips = absurd (row_read 140002 n (Some was) None kept (read (Some was) None gives))
  takes_long (Some old) (Some was) (Some mid) None so_far gives skips = absurd skips
  takes_long (Some old) (Some was) (Some mid) (Some new) so_far gives skips =
      subst (λ (k : ℕ). TakesLong (Some old) (Some new) k text) (sym fits)
      (taken text was mid kept n whole (read (Some was) (Some mid) gives) some old so_far new skips)

  pub takes_long_last : (a b c : Option (List ℕ)) → IsSoFar a text b → GivesLine 140002 b c before kept → SkipsLast c → TakesLongLast a size text
  takes_long_last None b c so_far gives skips = let found = unknown b c gives in (found.0, found.1, tt)
  takes_long_last (Some old) None c so_far gives skips = absurd so_far
  takes_long_last (Some old) (Some was) None so_far gives skips =
      absurd (row_read 140002 n (Some was) None kept (read (Some was) None gives))
  takes_long_last (Some old) (Some was) (Some mid) so_far gives skips =
      subst (λ (k : ℕ). TakesLongLast (Some old) k text) (sym fits)
      (taken_last text was mid kept n whole (read (Some was) (Some mid) gives) some old so_far skips)
