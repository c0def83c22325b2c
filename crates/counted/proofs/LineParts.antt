-- Where the first LF of some bytes stands.
use Rattle.std.proofs.Common.{◌≡◌, ◌<◌, ◌≤◌, ◌+◌, ◌==◌, true, sym, ap, ◌∙◌, arith, ℕ, List, [], ◌∷◌, ◌++◌, length, take}
use Rattle.std.proofs.Common.{slice_index, get_or, get_or-take, eqb-true, eq-eqb}
use Rattle.std.proofs.lemmas.List.{take_more, get_or_default}
use Rattle.std.proofs.lemmas.Grind.{common_steps}
use Rattle.counted.specs.LineParts.{HasNoFeed, EndsAtFeed}

byte_is : (b : ℕ) → (b == 10) ≡ true → b ≡ 10
byte_is b h = eqb-true b 10 h

none_before : (bytes : List ℕ) (m at : ℕ) → at ≤ length (take m bytes)
    → ((k : ℕ) → 0 ≤ k → k < at → (slice_index (take m bytes) k == 10) ≡ true → ⊥) → HasNoFeed (take at bytes)
none_before bytes m at le none = λ k d lt is.
    let within : length (take m bytes) ≤ m = grind (arith, common_steps) in
    let long : length (take m bytes) ≤ length bytes = grind (arith, common_steps) in
    let short : length (take at bytes) ≡ at = grind (arith, common_steps) in
    let here : get_or (take at bytes) k d ≡ get_or bytes k d = get_or-take at bytes k d (omega arith) in
    let there : get_or (take m bytes) k 0 ≡ get_or bytes k 0 = get_or-take m bytes k 0 (omega arith) in
    let same : get_or bytes k d ≡ get_or bytes k 0 = get_or_default bytes k d 0 (omega arith) in
    none k (omega arith) (omega arith) (eq-eqb _ _ (there ∙ sym same ∙ sym here ∙ is))

pub feed_at : (bytes : List ℕ) (m at : ℕ) → at < length (take m bytes)
    → ((k : ℕ) → 0 ≤ k → k < at → (slice_index (take m bytes) k == 10) ≡ true → ⊥)
    → (slice_index (take m bytes) at == 10) ≡ true → EndsAtFeed (take (at + 1) bytes)
feed_at bytes m at lt none is =
    let within : length (take m bytes) ≤ m = grind (arith, common_steps) in
    let long : length (take m bytes) ≤ length bytes = grind (arith, common_steps) in
    let there : get_or (take m bytes) at 0 ≡ get_or bytes at 0 = get_or-take m bytes at 0 (omega arith) in
    let feed : get_or bytes at 0 ≡ 10 = sym there ∙ eqb-true _ _ is in
    (take at bytes, none_before bytes m at (omega arith) none, take_more bytes at 0 (omega arith) ∙ ap (λ (b : ℕ). take at bytes ++ b ∷ []) feed)

pub no_feed : (bytes : List ℕ) (m : ℕ)
    → ((k : ℕ) → 0 ≤ k → k < length (take m bytes) → (slice_index (take m bytes) k == 10) ≡ true → ⊥)
    → HasNoFeed (take (length (take m bytes)) bytes)
no_feed bytes m none = none_before bytes m (length (take m bytes)) (omega arith) none

-- the same in all of the bytes
pub feed_in : (bytes : List ℕ) (at : ℕ) → at < length bytes
    → ((k : ℕ) → 0 ≤ k → k < at → (slice_index bytes k == 10) ≡ true → ⊥)
    → (slice_index bytes at == 10) ≡ true → EndsAtFeed (take (at + 1) bytes)
feed_in bytes at lt none is =
    let short : length (take at bytes) ≡ at = grind (arith, common_steps) in
    let feed : get_or bytes at 0 ≡ 10 = eqb-true _ _ is in (
      take at bytes,
      (λ k d within found.
          let here : get_or (take at bytes) k d ≡ get_or bytes k d = get_or-take at bytes k d (omega arith) in
          let same : get_or bytes k d ≡ get_or bytes k 0 = get_or_default bytes k d 0 (omega arith) in
          none k (omega arith) (omega arith) (eq-eqb _ _ (sym same ∙ sym here ∙ found))),
      take_more bytes at 0 (omega arith) ∙ ap (λ (b : ℕ). take at bytes ++ b ∷ []) feed,
    )

pub no_feed_in : (bytes : List ℕ) → ((k : ℕ) → 0 ≤ k → k < length bytes → (slice_index bytes k == 10) ≡ true → ⊥) → HasNoFeed bytes
no_feed_in bytes none = λ k d within found.
    let same : get_or bytes k d ≡ get_or bytes k 0 = get_or_default bytes k d 0 (omega arith) in
    none k (omega arith) within (eq-eqb _ _ (sym same ∙ found))
