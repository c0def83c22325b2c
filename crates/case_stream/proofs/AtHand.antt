-- A case whose lines are taken as they are at hand.
use Rattle.std.proofs.Common.{◌≡◌, ◌≢◌, ◌<◌, ◌+◌, ◌-◌, ◌==◌, ◌&&◌, ◌∙◌, subst, sym, ap, refl, Bool, true, false, ℕ, List, [], ◌∷◌, ◌++◌}
use Rattle.std.proofs.Common.{length, drop, take, Option, None, Some, arith, inl, inr, codes, cond, get_or, nat_lt, append-nil, append_assoc}
use Rattle.std.proofs.Common.{length-append}
use Rattle.std.specs.Io.{StartsWith}
use Rattle.std.specs.Io.KnownBytes.{Consumes}
use Rattle.std.specs.List.{AllByRecursion, concat}
use Rattle.std.proofs.KnownBytes.{starts_with_rest}
use Rattle.std.proofs.lemmas.Bool.{eqb-true, false_from_ne_true}
use Rattle.std.proofs.lemmas.List.{take_at, take_more}
use Rattle.std.proofs.lemmas.List.Elements.{All-cons, All-nil}
use Rattle.std.proofs.lemmas.Grind.{common_steps}
use Rattle.std.proofs.lemmas.Slice.Eq.{bytes_eq-Decides}
use Rattle.bstr.specs.Text.{lines_of, no_cr, without_terminator}
use Rattle.counted.specs.AtHand.{AreOthers, IsOther, IsWordLine, Takes}
use Rattle.counted.specs.LineParts.{EndsAtFeed}
use Rattle.counted.specs.declared.at_hand.Taken.{Taken}
use Rattle.counted.specs.declared.at_hand.Taken.TheVariants.{ToWord, Lines, Nothing, AtEnd}
use Rattle.line_fields.specs.Lines.{HasNoFeed, IsRaw}
use Rattle.line_fields.specs.Rows.{HasNoRow, rows_of}
use Rattle.line_fields.proofs.RowLemmas.{no_row}
use Rattle.line_fields.proofs.Texts.{lines_of-raw}
use Rattle.case_stream.specs.Cases.{cases_from, ends_case}
use Rattle.case_stream.specs.Left.{TakesCase}
use Rattle.case_stream.proofs.CaseSoFar.{IsSoFar}

-- ---- which lines end a case

both : (a b : Bool) → (a && b) ≡ true → (a ≡ true) × (b ≡ true)
both true b h = (refl, h)
both false b h = absurd cc

end_text : HasNoFeed (codes "end")
end_text =
    All-cons (λ b. b ≢ 10) 101 (110 ∷ 100 ∷ []) (λ e. omega arith)
    (All-cons (λ b. b ≢ 10) 110 (100 ∷ []) (λ e. omega arith)
    (All-cons (λ b. b ≢ 10) 100 [] (λ e. omega arith) (All-nil (λ b. b ≢ 10))))

word_raw : (raw : List ℕ) → IsWordLine (codes "end") raw → IsRaw raw
word_raw raw line = elim line [
  | inl feed ↦ (codes "end", end_text, (10 ∷ [], inl refl, feed))
  | inr return ↦ (codes "end", end_text, (13 ∷ 10 ∷ [], inr refl, return))
]

word_ends : (raw : List ℕ) → IsWordLine (codes "end") raw → ends_case raw ≡ true
word_ends raw line = elim line [
  | inl feed ↦ ap ends_case feed
  | inr return ↦ ap ends_case return
]

pub feed_raw : (raw : List ℕ) → EndsAtFeed raw → IsRaw raw
feed_raw raw ended = (ended.0, ended.1, (10 ∷ [], inl refl, ended.2))

-- a text that is the word, or the word and CR
by_return : (front : List ℕ) (b : Bool) → (nat_lt 0 (length front) && get_or front (length front - 1) 0 == 13) ≡ b
    → cond b (take (length front - 1) front) front ≡ codes "end" → IsWordLine (codes "end") (front ++ 10 ∷ [])
by_return front false is word = inl (ap (λ (xs : List ℕ). xs ++ 10 ∷ []) word)
by_return front true is word =
    let last : get_or front (length front - 1) 0 ≡ 13 = eqb-true _ _ (both _ _ is).1 in
    let size : length front - 1 < length front = some front (both _ _ is).0 in
    let whole : front ≡ take (length front - 1 + 1) front = grind (arith, common_steps) in
    let parts : front ≡ codes "end" ++ 13 ∷ [] =
    whole ∙ take_more front (length front - 1) 0 size ∙ ap (λ (xs : List ℕ). xs ++ get_or front (length front - 1) 0 ∷ []) word
    ∙ ap (λ (x : ℕ). codes "end" ++ x ∷ []) last in
    inr (ap (λ (xs : List ℕ). xs ++ 10 ∷ []) parts)
  where
    some : (xs : List ℕ) → nat_lt 0 (length xs) ≡ true → length xs - 1 < length xs
    some [] h = absurd cc
    some (x ∷ xs) h = omega arith

case_line : (front : List ℕ) → ends_case (front ++ 10 ∷ []) ≡ true → IsWordLine (codes "end") (front ++ 10 ∷ [])
case_line front ends =
    let parts = both _ _ ends in
    let raw : List ℕ = front ++ 10 ∷ [] in
    let size = length-append front (10 ∷ []) in
    let count : length front ≡ length raw - 1 = omega (arith, size) in
    let text : take (length raw - 1) raw ≡ front = take_at front (10 ∷ []) (length raw - 1) count in
    let same : without_terminator raw ≡ no_cr front =
    ap (λ (b : Bool). cond b (no_cr (take (length raw - 1) raw)) raw) parts.0 ∙ ap no_cr text in
    by_return front _ refl (sym same ∙ (bytes_eq-Decides (without_terminator raw) (codes "end")).0 parts.1)

other_line : (raw : List ℕ) → EndsAtFeed raw → (IsWordLine (codes "end") raw → ⊥) → ends_case raw ≡ false
other_line raw ended other =
    false_from_ne_true _ (λ ends. other (subst (IsWordLine (codes "end")) (sym ended.2) (case_line ended.0 (ap ends_case (sym ended.2) ∙ ends))))

-- ---- the cases that are left behind such lines

others_read : (text : List ℕ) (lines : List (List ℕ)) (rest : List ℕ)
    → AllByRecursion (IsOther (codes "end")) lines
    → cases_from text (lines_of (concat lines ++ rest)) ≡ cases_from (text ++ concat lines) (lines_of rest)
others_read text [] rest all = ap (λ (xs : List ℕ). cases_from xs (lines_of rest)) (sym (append-nil text))
others_read text (raw ∷ lines) rest all =
    ap (λ (xs : List ℕ). cases_from text (lines_of xs)) (append_assoc raw (concat lines) rest)
    ∙ ap (cases_from text) (lines_of-raw raw (concat lines ++ rest) (feed_raw raw all.0.0))
    ∙ rw (other_line raw all.0.0 all.0.1)
    (others_read (text ++ raw) lines rest all.1 ∙ ap (λ (xs : List ℕ). cases_from xs (lines_of rest)) (append_assoc text raw (concat lines)))

others_known : (text lines rest : List ℕ) → AreOthers (codes "end") lines
    → cases_from text (lines_of (lines ++ rest)) ≡ cases_from (text ++ lines) (lines_of rest)
others_known text lines rest are =
    ap (λ (xs : List ℕ). cases_from text (lines_of (xs ++ rest))) are.2
    ∙ others_read text are.0 rest are.1
    ∙ ap (λ (xs : List ℕ). cases_from (text ++ xs) (lines_of rest)) (sym are.2)

word_known : (text raw rest : List ℕ) → IsWordLine (codes "end") raw → cases_from text (lines_of (raw ++ rest)) ≡ text ∷ cases_from [] (lines_of rest)
word_known text raw rest line = ap (cases_from text) (lines_of-raw raw rest (word_raw raw line)) ∙ rw (word_ends raw line) refl

others_taken : (a b c : Option (List ℕ)) (text lines : List ℕ) → IsSoFar a text b → AreOthers (codes "end") lines → Consumes b c lines
    → IsSoFar a (text ++ lines) c
others_taken None b c text lines so_far are took = tt
others_taken (Some old) None c text lines so_far are took = absurd so_far
others_taken (Some old) (Some was) None text lines so_far are took = absurd took
others_taken (Some old) (Some was) (Some new) text lines so_far are took =
    so_far ∙ ap (λ (xs : List ℕ). cases_from text (lines_of xs)) took ∙ others_known text lines new are

case_taken : (a b c : Option (List ℕ)) (text lines raw : List ℕ) → IsSoFar a text b → AreOthers (codes "end") lines
    → IsWordLine (codes "end") raw → Consumes b c (lines ++ raw) → TakesCase a c (text ++ lines)
case_taken None b c text lines raw so_far are line took = tt
case_taken (Some old) None c text lines raw so_far are line took = absurd so_far
case_taken (Some old) (Some was) None text lines raw so_far are line took = absurd took
case_taken (Some old) (Some was) (Some new) text lines raw so_far are line took =
    so_far
    ∙ ap (λ (xs : List ℕ). cases_from text (lines_of xs)) (took ∙ append_assoc lines raw new)
    ∙ others_known text lines (raw ++ new) are
    ∙ word_known (text ++ lines) raw new line

none_taken : (a b c : Option (List ℕ)) (text : List ℕ) → IsSoFar a text b → Consumes b c [] → IsSoFar a text c
none_taken None b c text so_far took = tt
none_taken (Some old) None c text so_far took = absurd so_far
none_taken (Some old) (Some was) None text so_far took = absurd took
none_taken (Some old) (Some was) (Some new) text so_far took = so_far ∙ ap (λ (xs : List ℕ). cases_from text (lines_of xs)) took

-- ---- by what was taken

module _ (a b c : Option (List ℕ)) (text next word : List ℕ) (taken : Taken) (so_far : IsSoFar a text b) (starts : StartsWith next text)
    (is_word : word ≡ codes "end") (took : Takes taken word b c (drop (length text) next)) where
  took_so : (kind : Taken) → taken ≡ kind → Takes kind (codes "end") b c (drop (length text) next)
  took_so kind is =
      subst (λ (k : Taken). Takes k (codes "end") b c (drop (length text) next)) is
      (subst (λ (w : List ℕ). Takes taken w b c (drop (length text) next)) is_word took)

  pub word_ended : (more : Bool) → taken ≡ ToWord more → TakesCase a c next
  word_ended more is =
      let t = took_so (ToWord more) is in
      subst (TakesCase a c) (sym (starts_with_rest next text starts)) (case_taken a b c text (drop (length text) next) t.1.0 so_far t.0 t.1.1 t.1.2)

  pub lines_more : taken ≡ Lines → IsSoFar a next c
  lines_more is =
      let t = took_so Lines is in
      subst (λ (xs : List ℕ). IsSoFar a xs c) (sym (starts_with_rest next text starts)) (others_taken a b c text (drop (length text) next) so_far t.0 t.1)

  same_text : drop (length text) next ≡ [] → next ≡ text
  same_text none = starts_with_rest next text starts ∙ ap (λ (xs : List ℕ). text ++ xs) none ∙ append-nil text

  pub none_more : taken ≡ Nothing → IsSoFar a next c
  none_more is =
      let t = took_so Nothing is in subst (λ (xs : List ℕ). IsSoFar a xs c) (sym (same_text t.0)) (none_taken a b c text so_far t.1)

  pub all_read : taken ≡ AtEnd → IsSoFar a next b
  all_read is = subst (λ (xs : List ℕ). IsSoFar a xs b) (sym (same_text (took_so AtEnd is).0)) so_far

  pub no_row_left : taken ≡ AtEnd → HasNoRow (rows_of b) (rows_of c)
  no_row_left is = let t = took_so AtEnd is in no_row 0 b c [] (t.1, t.2)
