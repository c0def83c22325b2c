-- Lines that are at hand, up to a word's line.
use Rattle.std.proofs.Common.{◌≡◌, ◌<◌, ◌≤◌, ◌+◌, ◌-◌, ◌==◌, inl, inr, Bool, true, false, refl, sym, ap, subst, ◌∙◌, arith, ℕ}
use Rattle.std.proofs.Common.{List, [], ◌∷◌, ◌++◌, length, take, drop, append-nil, slice_range, slice_index, Option, Some, IfSome}
use Rattle.std.specs.Bool.{IsTrue}
use Rattle.std.specs.Io.KnownBytes.{Consumes}
use Rattle.std.specs.List.{AllByRecursion, concat}
use Rattle.std.specs.Str.{bytes_eq}
use Rattle.std.proofs.Math.Seq.{take-add}
use Rattle.std.proofs.lemmas.Grind.{common_steps}
use Rattle.std.proofs.lemmas.List.{drop_at, take_at}
use Rattle.std.proofs.lemmas.List.Folds.{concat-append}
use Rattle.std.proofs.lemmas.Slice.Eq.{bytes_eq-Decides}
use Rattle.counted.specs.AtHand.{AreOthers, IsOther, IsWordLine, Takes}
use Rattle.counted.specs.LineParts.{EndsAtFeed}
use Rattle.counted.specs.declared.at_hand.Taken.TheVariants.{ToWord, Lines}
use Rattle.counted.proofs.LineParts.{feed_at}

-- ---- whether a line is the word

not_both : (b : Bool) → b ≡ true → false ≡ b → ⊥
not_both b is other = let both : false ≡ true = other ∙ is in absurd cc

pub other_front : (raw word front : List ℕ) → front ≡ take (length word) raw → false ≡ bytes_eq front word → IsWordLine word raw → ⊥
other_front raw word front is other line = elim line [
  | inl feed ↦ same (is ∙ ap (take (length word)) feed ∙ take_at word (10 ∷ []) (length word) refl)
  | inr both ↦ same (is ∙ ap (take (length word)) both ∙ take_at word (13 ∷ 10 ∷ []) (length word) refl)
]
  where
    same : front ≡ word → ⊥
    same e = not_both _ ((bytes_eq-Decides front word).1 e) other

-- the bytes behind the word are no LF: then they are CR LF, or the line is another
pub by_rest : (raw word front rest : List ℕ) (b : Bool) → front ≡ take (length word) raw → rest ≡ drop (length word) raw
    → true ≡ bytes_eq front word → false ≡ bytes_eq rest (10 ∷ []) → b ≡ bytes_eq rest (13 ∷ 10 ∷ [])
    → (IsTrue b → IsWordLine word raw) × (IsWordLine word raw → IsTrue b)
by_rest raw word front rest b is behind same other whether = (
  λ said. inr (whole ∙ ap (λ (xs : List ℕ). word ++ xs) ((bytes_eq-Decides rest (13 ∷ 10 ∷ [])).0 (sym whether ∙ said))),
  λ line. elim line [
    | inl feed ↦
        absurd (not_both _ ((bytes_eq-Decides rest (10 ∷ [])).1 (behind ∙ ap (drop (length word)) feed ∙ drop_at word (10 ∷ []) (length word) refl)) other)
    | inr both ↦
        whether
        ∙ (bytes_eq-Decides rest (13 ∷ 10 ∷ [])).1 (behind ∙ ap (drop (length word)) both ∙ drop_at word (13 ∷ 10 ∷ []) (length word) refl)
  ],
)
  where
    joined : raw ≡ take (length word) raw ++ drop (length word) raw
    joined = grind (arith, common_steps)

    whole : raw ≡ word ++ rest
    whole =
        joined
        ∙ ap (λ (xs : List ℕ). xs ++ drop (length word) raw) (sym is ∙ (bytes_eq-Decides front word).0 (sym same))
        ∙ ap (λ (xs : List ℕ). word ++ xs) (sym behind)

-- ---- the lines of some bytes

pub feed_in : (bytes : List ℕ) (n at : ℕ) → at < length (slice_range bytes n (length bytes))
    → ((k : ℕ) → 0 ≤ k → k < at → (slice_index (slice_range bytes n (length bytes)) k == 10) ≡ true → ⊥)
    → (slice_index (slice_range bytes n (length bytes)) at == 10) ≡ true → EndsAtFeed (take (at + 1) (drop n bytes))
feed_in bytes n at lt none is = feed_at (drop n bytes) (length bytes - n) at lt none is

all_and_one : (word : List ℕ) (lines : List (List ℕ)) (raw : List ℕ) → AllByRecursion (IsOther word) lines
    → EndsAtFeed raw → (IsWordLine word raw → ⊥) → AllByRecursion (IsOther word) (lines ++ raw ∷ [])
all_and_one word [] raw all ended other = ((ended, other), tt)
all_and_one word (line ∷ lines) raw all ended other = (all.0, all_and_one word lines raw all.1 ended other)

pub one_more_other : (word bytes : List ℕ) (n at : ℕ) → AreOthers word (take n bytes) → EndsAtFeed (take (at + 1) (drop n bytes))
    → (IsWordLine word (slice_range bytes n (n + at + 1)) → ⊥) → AreOthers word (take (n + at + 1) bytes)
one_more_other word bytes n at others ended other =
    let count : n + at + 1 - n ≡ at + 1 = omega arith in
    let raw : List ℕ = take (at + 1) (drop n bytes) in
    let sum : n + at + 1 ≡ n + (at + 1) = omega arith in
    let line : IsWordLine word raw → ⊥ = subst (λ (k : ℕ). IsWordLine word (take k (drop n bytes)) → ⊥) count other in (
      others.0 ++ raw ∷ [],
      all_and_one word others.0 raw others.1 ended line,
      ap (λ (k : ℕ). take k bytes) sum
          ∙ take-add n (at + 1) bytes
          ∙ ap (λ (xs : List ℕ). xs ++ raw) others.2
          ∙ ap (λ (xs : List ℕ). concat others.0 ++ xs) (sym (append-nil raw))
          ∙ sym (concat-append others.0 (raw ∷ [])),
    )

-- ---- what was taken

same_front : (bytes : List ℕ) (n m : ℕ) → n ≤ length (take m bytes) → take n (take m bytes) ≡ take n bytes
same_front bytes n m le = grind (arith, common_steps)

pub lines_taken : (word bytes lines : List ℕ) (m n : ℕ) (old new : Option (List ℕ)) → n ≤ length (take m bytes)
    → AreOthers word (take n (take m bytes)) → lines ≡ take n bytes → Consumes old new (take n bytes) → Takes Lines word old new lines
lines_taken word bytes lines m n old new le others is took =
    (subst (AreOthers word) (same_front bytes n m le ∙ sym is) others, subst (Consumes old new) (sym is) took)

pub word_taken : (more : Bool) (word bytes lines : List ℕ) (m n end : ℕ) (old new : Option (List ℕ)) → n < end → end ≤ length (take m bytes)
    → AreOthers word (take n (take m bytes)) → IsWordLine word (slice_range (take m bytes) n end)
    → lines ≡ take n bytes → Consumes old new (take end bytes) → Takes (ToWord more) word old new lines
word_taken more word bytes lines m n end old new lt le others line is took =
    let raw : List ℕ = slice_range (take m bytes) n end in
    let sum : end ≡ n + (end - n) = omega arith in
    let whole : take end bytes ≡ lines ++ raw =
    sym (same_front bytes end m le)
    ∙ ap (λ (k : ℕ). take k (take m bytes)) sum
    ∙ take-add n (end - n) (take m bytes)
    ∙ ap (λ (xs : List ℕ). xs ++ raw) (same_front bytes n m (omega arith) ∙ sym is) in
    (subst (AreOthers word) (same_front bytes n m (omega arith) ∙ sym is) others, (raw, line, subst (Consumes old new) whole took))

pub part_within : (bytes : List ℕ) (m n : ℕ) → n ≤ length (take m bytes) → n ≤ length bytes
part_within bytes m n le = grind (arith, common_steps)

pub at_word : (P : ℕ → Type 0) (word : Option ℕ) (end : ℕ) → word ≡ Some end → IfSome word P → P end
at_word P word end is at = subst (λ (o : Option ℕ). IfSome o P) is at
