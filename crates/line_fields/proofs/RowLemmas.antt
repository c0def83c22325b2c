-- What was read by pieces is a line of the text.
use Rattle.std.proofs.Common.{◌≡◌, ◌≢◌, ◌<◌, ◌≤◌, ◌+◌, ◌-◌, ◌==◌, ◌&&◌, Bool, true, false, cond, inl, inr, refl, sym}
use Rattle.std.proofs.Common.{ap, subst, ◌∙◌, arith, ℕ, suc, List, [], ◌∷◌, ◌++◌, Option, None, Some, length, get_or}
use Rattle.std.proofs.Common.{take, drop, append-nil, length-append, Err, nat_lt}
use Rattle.std.proofs.lemmas.Bool.{lt-ltb, eqb-true, false_from_ne_true}
use Rattle.std.proofs.lemmas.Grind.{common_steps}
use Rattle.bstr.specs.Text.{lines_of, line_len, without_terminator, no_cr}
use Rattle.bstr.proofs.lemmas.LineLemmas.{line_len-none, lines-nil, lines-step}
use Rattle.counted.specs.LineParts.{HasNoFeed, LosesLine, GivesLine}
use Rattle.line_fields.specs.declared.fault.FaultKind.TheVariants.{LineTooLong}
use Rattle.line_fields.specs.Lines.{line_text}
use Rattle.line_fields.proofs.Texts.{lines_of-line, one_line}
use Rattle.line_fields.specs.Rows.{rows_of, TakesRow, HasNoRow, next_text, FailsAt}

all_one : (raw : List ℕ) → 0 < length raw → HasNoFeed raw → lines_of raw ≡ raw ∷ []
all_one raw some none =
    let whole : line_len raw ≡ length raw = line_len-none raw (λ k lt is. none k 0 lt is) in
    let front : take (length raw) raw ≡ raw = grind (arith, common_steps) in
    let rest : drop (length raw) raw ≡ [] = grind (arith, common_steps) in
    lines-step raw some
    ∙ ap (λ (n : ℕ). take n raw ∷ lines_of (drop n raw)) whole
    ∙ (λ i. front i ∷ lines_of (rest i))
    ∙ ap (λ (xs : List (List ℕ)). raw ∷ xs) lines-nil

loses : (a b : Option (List ℕ)) (raw : List ℕ) → LosesLine a b raw → TakesRow (rows_of a) (rows_of b) raw
loses None b raw l = tt
loses (Some xs) None raw l = absurd l.0
loses (Some xs) (Some ys) raw l = elim l.1 [
  | inl feed ↦
      let e : xs ≡ (feed.0 ++ 10 ∷ []) ++ ys = l.0 ∙ ap (λ (r : List ℕ). r ++ ys) feed.2 in
      ap lines_of e ∙ lines_of-line (feed.0 ++ 10 ∷ []) ys (length feed.0) (one_line feed.0 feed.1) ∙ ap (λ (r : List ℕ). r ∷ lines_of ys) (sym feed.2)
  | inr last ↦
      let end : ys ≡ [] = last.2 in
      let e : xs ≡ raw = l.0 ∙ ap (λ (r : List ℕ). raw ++ r) end ∙ append-nil raw in
      ap lines_of e ∙ all_one raw last.1 last.0 ∙ ap (λ (r : List (List ℕ)). raw ∷ r) (sym (ap lines_of end ∙ lines-nil))
]

-- all of a line was kept
pub row_taken : (most : ℕ) (a b : Option (List ℕ)) (kept : List ℕ) → GivesLine most a b (Some 0) kept → TakesRow (rows_of a) (rows_of b) kept
row_taken most a b kept g =
    let front : g.0 ≡ [] = nil_of g.0 g.1.count in
    loses a b kept (subst (λ (xs : List ℕ). LosesLine a b (xs ++ kept)) front g.2)
  where
    nil_of : (xs : List ℕ) → length xs ≡ 0 → xs ≡ []
    nil_of [] h = refl
    nil_of (x ∷ xs) h = absurd (omega arith)

pub no_row : (most : ℕ) (a b : Option (List ℕ)) (kept : List ℕ) → GivesLine most a b None kept → HasNoRow (rows_of a) (rows_of b)
no_row most None b kept g = tt
no_row most (Some xs) None kept g = absurd g.0
no_row most (Some xs) (Some ys) kept g =
    let end : ys ≡ [] = g.1 in
    (ap lines_of (g.0 ∙ end) ∙ lines-nil, ap lines_of end ∙ lines-nil)

-- ---- a line that is too long

-- the length of a line's text is that of what was kept and of what stands before it
last_at : (front kept : List ℕ) (d : ℕ) → 0 < length kept → get_or (front ++ kept) (length (front ++ kept) - 1) d ≡ get_or kept (length kept - 1) d
last_at [] kept d some = refl
last_at (x ∷ front) kept d some =
    let len = length-append front kept in
    let on : length (x ∷ front ++ kept) - 1 ≡ suc (length (front ++ kept) - 1) = omega arith in
    ap (λ (n : ℕ). get_or (x ∷ front ++ kept) n d) on ∙ last_at front kept d some

take_last : (front kept : List ℕ) → 0 < length kept → take (length (front ++ kept) - 1) (front ++ kept) ≡ front ++ take (length kept - 1) kept
take_last [] kept some = refl
take_last (x ∷ front) kept some =
    let len = length-append front kept in
    let on : length (x ∷ front ++ kept) - 1 ≡ suc (length (front ++ kept) - 1) = omega arith in
    ap (λ (n : ℕ). take n (x ∷ front ++ kept)) on ∙ ap (λ (xs : List ℕ). x ∷ xs) (take_last front kept some)

some_both : (front kept : List ℕ) → 0 < length kept → nat_lt 0 (length (front ++ kept)) ≡ nat_lt 0 (length kept)
some_both front kept some =
    let len = length-append front kept in
    let one : nat_lt 0 (length (front ++ kept)) ≡ true = lt-ltb 0 _ (omega arith) in
    let two : nat_lt 0 (length kept) ≡ true = lt-ltb 0 _ some in
    one ∙ sym two

no_cr_both : (front kept : List ℕ) → 0 < length kept → no_cr (front ++ kept) ≡ front ++ no_cr kept
no_cr_both front kept some =
    (λ i. cond (some_both front kept some i && last_at front kept 0 some i == 13) (take_last front kept some i) (front ++ kept))
    ∙ by_test (nat_lt 0 (length kept) && get_or kept (length kept - 1) 0 == 13)
  where
    by_test : (b : Bool) → cond b (front ++ take (length kept - 1) kept) (front ++ kept) ≡ front ++ cond b (take (length kept - 1) kept) kept
    by_test true = refl
    by_test false = refl

-- what was kept has a byte before its LF
text_both : (front : List ℕ) (c : ℕ) (rest : List ℕ) → c ≢ 10 → without_terminator (front ++ c ∷ rest) ≡ front ++ without_terminator (c ∷ rest)
text_both front c rest other =
    (λ i. cond (some_both front (c ∷ rest) (omega arith) i && last_at front (c ∷ rest) 0 (omega arith) i == 10)
    (no_cr (take_last front (c ∷ rest) (omega arith) i)) (front ++ c ∷ rest))
    ∙ by_rest rest
  where
    by_test : (b : Bool) (r all : List ℕ) → 0 < length r → cond b (no_cr (front ++ r)) (front ++ all) ≡ front ++ cond b (no_cr r) all
    by_test true r all some = no_cr_both front r some
    by_test false r all some = refl

    by_rest : (rest : List ℕ)
        → cond (nat_lt 0 (length (c ∷ rest)) && get_or (c ∷ rest) (length (c ∷ rest) - 1) 0 == 10)
        (no_cr (front ++ take (length (c ∷ rest) - 1) (c ∷ rest))) (front ++ c ∷ rest)
        ≡ front ++ cond (nat_lt 0 (length (c ∷ rest)) && get_or (c ∷ rest) (length (c ∷ rest) - 1) 0 == 10)
        (no_cr (take (length (c ∷ rest) - 1) (c ∷ rest))) (c ∷ rest)
    by_rest [] =
        let no : (c == 10) ≡ false = false_from_ne_true _ (λ h. other (eqb-true _ _ h)) in
        rw no refl
    by_rest (r ∷ rs) =
        by_test (nat_lt 0 (length (c ∷ r ∷ rs)) && get_or (c ∷ r ∷ rs) (length (c ∷ r ∷ rs) - 1) 0 == 10)
        (take (length (c ∷ r ∷ rs) - 1) (c ∷ r ∷ rs)) (c ∷ r ∷ rs) (grind (arith, common_steps))

-- an end has two bytes at most
no_cr_short : (raw : List ℕ) → length raw ≤ length (no_cr raw) + 1
no_cr_short raw = by_test (nat_lt 0 (length raw) && get_or raw (length raw - 1) 0 == 13)
  where
    by_test : (b : Bool) → length raw ≤ length (cond b (take (length raw - 1) raw) raw) + 1
    by_test true = grind (arith, common_steps)
    by_test false = omega arith

text_short : (raw : List ℕ) → length raw ≤ length (without_terminator raw) + 2
text_short raw = by_test (nat_lt 0 (length raw) && get_or raw (length raw - 1) 0 == 10)
  where
    by_test : (b : Bool) → length raw ≤ length (cond b (no_cr (take (length raw - 1) raw)) raw) + 2
    by_test true =
        let one = no_cr_short (take (length raw - 1) raw) in
        let len : length raw ≤ length (take (length raw - 1) raw) + 1 = grind (arith, common_steps) in
        omega (arith, one, len)
    by_test false = omega arith

too_long_text : (number : ℕ) (raw : List ℕ) (n : ℕ) → length (without_terminator raw) ≡ n → 140000 < n
    → line_text number raw ≡ Err (record { kind = LineTooLong; span = record { line = number; start = 0; stop = n } })
unfolding line_text
too_long_text number raw n is long =
    let t : nat_lt 140000 n ≡ true = lt-ltb _ _ long in
    rw (is, t) refl

pub too_long : (a b : Option (List ℕ)) (kept text : List ℕ) (before number : ℕ)
    → GivesLine 140002 a b (Some before) kept → (before ≡ 0 → ⊥) → text ≡ without_terminator kept
    → FailsAt (next_text number) (record { kind = LineTooLong; span = record { line = number; start = 0; stop = before + length text } }) (rows_of a)
too_long None b kept text before number g some is = tt
too_long (Some xs) None kept text before number g some is = absurd g.2.0
too_long (Some xs) (Some ys) kept text before number g some is =
    let past = g.1.past (omega (arith, some)) in
    let begins = g.1.begins (omega (arith, some)) in
    let whole : without_terminator (g.0 ++ kept) ≡ g.0 ++ text =
    ap (λ (k : List ℕ). without_terminator (g.0 ++ k)) begins.2
    ∙ text_both g.0 begins.0 begins.1 begins.3
    ∙ ap (λ (k : List ℕ). g.0 ++ without_terminator k) (sym begins.2) ∙ ap (λ (t : List ℕ). g.0 ++ t) (sym is) in
    let len : length (without_terminator (g.0 ++ kept)) ≡ before + length text =
    ap length whole ∙ length-append g.0 text ∙ ap (λ (n : ℕ). n + length text) g.1.count in
    let short = text_short kept in
    let same : length text ≡ length (without_terminator kept) = ap length is in
    ap (next_text number) (loses (Some xs) (Some ys) (g.0 ++ kept) g.2)
    ∙ too_long_text number (g.0 ++ kept) (before + length text) len (omega (arith, past, short, same))
