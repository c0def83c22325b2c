-- The fields of a line are its slices, one space apart.
use Rattle.std.proofs.Common.{◌≡◌, ℕ, zero, suc, ◌+◌, ◌-◌, ◌<◌, ◌≤◌, List, length, take, drop, refl, sym, ap, subst, arith, inl, inr}
use Rattle.std.specs.Prelude.{not}
use Rattle.std.specs.List.{position_or_len}
use Rattle.std.proofs.lemmas.Bool.{cases_lt}
use Rattle.std.proofs.lemmas.List.{length-drop}
use Rattle.std.proofs.lemmas.List.Sums.{prefix_len-le-length}
use Rattle.line_fields.specs.Word.{words_left, AreSlices}
use Rattle.line_fields.proofs.Columns.{is_space, words_left-past, words_left-next}

slices_within : (n line at : ℕ) (text : List ℕ) → length text < at + n → AreSlices text at (words_left line at text)
slices_within zero line at text past = subst (AreSlices text at) (sym (words_left-past line at text (omega arith))) tt
slices_within (suc n) line at text past = elim (cases_lt (length text) at) [
  | inl lt ↦ subst (AreSlices text at) (sym (words_left-past line at text lt)) tt
  | inr le ↦
      let len = length-drop at text in
      let short : position_or_len is_space (drop at text) ≤ length (drop at text) = prefix_len-le-length (λ (b : ℕ). not (is_space b)) (drop at text) in
      let size : (at + position_or_len is_space (drop at text)) - at ≡ position_or_len is_space (drop at text) = omega arith in
      let others = slices_within n line (at + position_or_len is_space (drop at text) + 1) text (omega arith) in
      subst (AreSlices text at) (sym (words_left-next line at text (position_or_len is_space (drop at text)) le refl))
      (record { start = refl; rises = omega arith; within = omega arith; text = ap (λ (m : ℕ). take m (drop at text)) (sym size) }, others)
]

pub are_slices : (line : ℕ) (text : List ℕ) → AreSlices text 0 (words_left line 0 text)
are_slices line text = slices_within (suc (length text)) line 0 text (omega arith)
