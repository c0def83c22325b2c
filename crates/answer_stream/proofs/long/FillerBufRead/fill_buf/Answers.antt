use Rattle.std.proofs.Common.{◌≡◌, ℕ, [], refl, replicate, min, length, take, List, ap, sym, ◌∙◌, arith}
use Rattle.std.proofs.lemmas.List.{length-replicate, take-replicate}
use Rattle.answer_stream.proofs.long.FillerBufRead.fill_buf.Goals as goal

-- the first bytes begin those that are left
begins : (left : ℕ) (shown : List ℕ) → shown ≡ replicate (min left 64) 120 → take (length shown) (replicate left 120) ≡ shown
begins left shown is =
    let long : length shown ≡ min left 64 = ap length is ∙ length-replicate (min left 64) 120 in
    ap (λ (n : ℕ). take n (replicate left 120)) long ∙ take-replicate (min left 64) left 120 (omega arith) ∙ sym is

-- none are shown only if none are left
none_left : (left : ℕ) (shown : List ℕ) → shown ≡ replicate (min left 64) 120 → length shown ≡ 0 → replicate {A = ℕ} left 120 ≡ []
none_left left shown is none =
    let long : length shown ≡ min left 64 = ap length is ∙ length-replicate (min left 64) 120 in
    let zero : left ≡ 0 = omega (arith, long, none) in
    ap (λ (n : ℕ). replicate {A = ℕ} n 120) zero

pub returns : goal.returns
returns c =
    let bytes = c.next_bytes.ensures in
    let left = c.args.self.now.left in
    ((refl, λ _. tt, (refl, tt)), record { front = begins left _ bytes; end = none_left left _ bytes; after_borrow = tt })
