-- The fields that are left of a line: the first one and those after it.
use Rattle.std.proofs.Common.{◌≡◌, ℕ, ◌+◌, ◌<◌, ◌≤◌, Bool, eqb, List, [], ◌∷◌, length, get_or, take, drop, Option, Some, None, refl, sym, ap, ◌∙◌}
use Rattle.std.proofs.Common.{arith, inl, inr, eq-eqb}
use Rattle.std.specs.Prelude.{unwrap_or, nat_lt, not, IsTrue}
use Rattle.std.specs.List.{slice_split, position_or_len}
use Rattle.std.proofs.lemmas.Bool.{eqb-true, cases_lt, le-leb, lt-leb, ltb-true, lt-ltb, false_from_ne_true}
use Rattle.std.proofs.lemmas.List.{length-drop, length-take, drop-drop, take_all}
use Rattle.std.proofs.lemmas.List.Splits.{slice_split_first, slice_split_none}
use Rattle.std.proofs.lemmas.List.Sums.{position_or_len_is, prefix_len-le-length, fails_before_first}
use Rattle.memchr.specs.Find.{IsFirstByte, is_byte}
use Rattle.line_fields.specs.Word.{Word, words_from, words_left}

abbrev pub is_space : ℕ → Bool
is_space b = eqb b 32

-- the place that a search for a space gives
pub place_is : (bytes : List ℕ) (r : Option ℕ) → IsFirstByte (is_byte 32) bytes r → position_or_len is_space bytes ≡ unwrap_or r (length bytes)
place_is bytes (Some k) h =
    let below : k < length bytes = h.0.high in
    position_or_len_is is_space bytes k 0 (omega arith) (λ i lt. false_from_ne_true (is_space (get_or bytes i 0)) (h.0.before i (omega arith) lt)) (λ lt. h.1)
place_is bytes None h =
    position_or_len_is is_space bytes (length bytes) 0 (omega arith)
    (λ i lt. false_from_ne_true (is_space (get_or bytes i 0)) (h i (omega arith) lt)) (λ lt. absurd (omega arith))

pub words_left-within : (line at : ℕ) (text : List ℕ) → at ≤ length text → words_left line at text ≡ words_from line at (slice_split is_space (drop at text))
words_left-within line at text le = let test = le-leb at (length text) le in rw test refl

pub words_left-past : (line at : ℕ) (text : List ℕ) → length text < at → words_left line at text ≡ []
words_left-past line at text lt = let test = lt-leb at (length text) lt in rw test refl

-- the first field from a column on, and the fields after it
pub words_left-next : (line at : ℕ) (text : List ℕ) (k : ℕ) → at ≤ length text → position_or_len is_space (drop at text) ≡ k
    → words_left line at text ≡ record { text = take k (drop at text); line = line; start = at; stop = at + k } ∷ words_left line (at + k + 1) text
words_left-next line at text k le e =
    let len = length-drop at text in
    let short = prefix_len-le-length (λ (b : ℕ). not (is_space b)) (drop at text) in
    let bound : k ≤ length (drop at text) = omega arith in
    let one : length (take k (drop at text)) ≡ k = omega (arith, length-take k (drop at text)) in
    elim (cases_lt k (length (drop at text))) [
      | inl more ↦
          let cut : slice_split is_space (drop at text) ≡ take k (drop at text) ∷ slice_split is_space (drop (k + 1) (drop at text)) =
          slice_split_first is_space (drop at text) 0 (omega arith)
          ∙ ap (λ (n : ℕ). take n (drop at text) ∷ slice_split is_space (drop (n + 1) (drop at text))) e in
          let after : drop (k + 1) (drop at text) ≡ drop (at + k + 1) text = drop-drop (k + 1) at text ∙ ap (λ (n : ℕ). drop n text) (omega arith) in
          words_left-within line at text le ∙ ap (words_from line at) cut
          ∙ ap (λ (n : ℕ). record { text = take k (drop at text); line = line; start = at; stop = at + n }
          ∷ words_from line (at + n + 1) (slice_split is_space (drop (k + 1) (drop at text)))) one
          ∙ ap (λ (xs : List ℕ). record { text = take k (drop at text); line = line; start = at; stop = at + k }
          ∷ words_from line (at + k + 1) (slice_split is_space xs)) after
          ∙ ap (λ (ws : List Word). record { text = take k (drop at text); line = line; start = at; stop = at + k }
          ∷ ws) (sym (words_left-within line (at + k + 1) text (omega arith)))
      | inr all ↦
          let whole : drop at text ≡ take k (drop at text) = sym (take_all k (drop at text) all) in
          let cut : slice_split is_space (drop at text) ≡ take k (drop at text) ∷ [] =
          slice_split_none is_space (drop at text)
          (λ i d lt. fails_before_first is_space (drop at text) i d (omega arith))
          ∙ ap (λ (xs : List ℕ). xs ∷ []) whole in
          words_left-within line at text le ∙ ap (words_from line at) cut
          ∙ ap (λ (n : ℕ). record { text = take k (drop at text); line = line; start = at; stop = at + n } ∷ []) one
          ∙ ap (λ (ws : List Word). record { text = take k (drop at text); line = line; start = at; stop = at + k }
          ∷ ws) (sym (words_left-past line (at + k + 1) text (omega arith)))
    ]

-- a field ends at the first space
pub ends_at : (bytes : List ℕ) (k : ℕ) → k ≤ length bytes → ((i : ℕ) → i < k → get_or bytes i 0 ≡ 32 → ⊥) → (k < length bytes → get_or bytes k 0 ≡ 32)
    → position_or_len is_space bytes ≡ k
ends_at bytes k le before here =
    position_or_len_is is_space bytes k 0 le
    (λ i lt. false_from_ne_true (is_space (get_or bytes i 0)) (λ yes. before i lt (eqb-true _ _ yes)))
    (λ lt. eq-eqb _ _ (here lt))

pub ends_within : (bytes : List ℕ) → position_or_len is_space bytes ≤ length bytes
ends_within bytes = let short = prefix_len-le-length (λ (b : ℕ). not (is_space b)) bytes in omega arith

-- what stands up to the first space is the first field
pub next_is : (line at : ℕ) (text rest field : List ℕ) (k : ℕ) → at ≤ length text → rest ≡ drop at text
    → k ≡ position_or_len is_space rest → field ≡ take k rest
    → words_left line at text ≡ record { text = field; line = line; start = at; stop = at + k } ∷ words_left line (at + k + 1) text
next_is line at text rest field k le e k-is field-is =
    let place : position_or_len is_space (drop at text) ≡ k = ap (position_or_len is_space) (sym e) ∙ sym k-is in
    let same : take k (drop at text) ≡ field = ap (take k) (sym e) ∙ sym field-is in
    words_left-next line at text k le place
    ∙ ap (λ (f : List ℕ). record { text = f; line = line; start = at; stop = at + k }
    ∷ words_left line (at + k + 1) text) same

nothing_left : (line at : ℕ) (text : List ℕ) → at ≤ length text → words_left line at text ≡ [] → ⊥
nothing_left line at text le none = let one = words_left-next line at text (position_or_len is_space (drop at text)) le refl in cc

pub is_empty_is : (line at : ℕ) (text : List ℕ)
    → (IsTrue (nat_lt (length text) at) → words_left line at text ≡ [])
    × (words_left line at text ≡ [] → IsTrue (nat_lt (length text) at))
is_empty_is line at text = (
  λ yes. words_left-past line at text (ltb-true _ _ yes),
  λ none. elim (cases_lt (length text) at)
      [ inl lt ↦ lt-ltb _ _ lt | inr le ↦ absurd (nothing_left line at text le none) ],
)
