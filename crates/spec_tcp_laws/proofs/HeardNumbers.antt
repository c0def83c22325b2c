-- A number that is heard reads back exactly where it reads as a position.
use Rattle.std.proofs.Common.{◌≡◌, ◌≤◌, ◌<◌, ◌+◌, ◌%◌, ◌^◌, ℕ, Bool, true, false, Option, None, Some, refl, ap, subst, ◌∙◌, arith}
use Rattle.std.specs.Prelude.{nat_le, nat_lt, ◌&&◌, if◌then◌else◌}
use Rattle.std.proofs.lemmas.Bool.Decides.{nat_tests}
use Rattle.seqno.specs.declared.word.Word.{Word}
use Rattle.seqno.specs.Numbers.{IsBelow, IsReading, Reads, number_of}
use Rattle.seqno.specs.Near.{FindsReading, near_position}
use Rattle.spec_tcp.specs.Bounds.{greatest_position}
use Rattle.spec_tcp.specs.Heard.{position_near, readable}
use Rattle.spec_tcp.specs.Same.{same_word}
use Rattle.spec_tcp.specs.Arrives.OtherStates.Sequence.{reads_as}
use Rattle.spec_tcp_laws.specs.HeardNumbers.{HeardNumbersAreRead}

near_is : (near : ℕ) (base w : Word) (o : Option ℕ) → near_position near base w ≡ o → position_near near (Some base) w ≡ readable o
near_is near base w o is = ap (λ (p : Option ℕ). readable p) is

readable_is : (p : ℕ) → p ≤ greatest_position → readable (Some p) ≡ p
readable_is p few = by (nat_le p greatest_position) refl
  where
    by : (b : Bool) → nat_le p greatest_position ≡ b → (if b then p else 0) ≡ p
    by true is = refl
    by false is = absurd (let more : greatest_position < p = grind (arith, nat_tests, is) in omega arith)

reads_back : (near : ℕ) (base w : Word) (p : ℕ) → IsReading near base w p → reads_as near (Some base) w p ≡ true
reads_back near base w p r =
    let number : (number_of base p).0 ≡ w.0 = ap (λ (x : Word). x.0) r.number in
    let least = r.is_near.least in
    let most = r.is_near.most in
    grind (arith, nat_tests)

below_differs : (near : ℕ) (base w : Word) (places : ℕ) → w.0 < 2 ^ 32 → base.0 < 2 ^ 32 → IsBelow near base w places → reads_as near (Some base) w 0 ≡ false
below_differs near base w places w_fits base_fits b = by (same_word (number_of base 0) w) (nat_le near (0 + 2 ^ 31)) (nat_lt 0 (near + 2 ^ 31)) refl
  where
    differ : (base.0 + 0) % 2 ^ 32 ≡ w.0 → ⊥
    differ same =
        let number : (w.0 + places) % 2 ^ 32 ≡ base.0 = ap (λ (x : Word). x.0) b.number in
        let some = b.some in
        let most = b.most in
        omega arith

    by : (s n m : Bool) → same_word (number_of base 0) w ≡ s → (s && n && m) ≡ false
    by false n m is = refl
    by true n m is = absurd (differ (grind (arith, nat_tests, is)))

pub heard_numbers : FindsReading → (near : ℕ) (base w : Word) → base.0 < 2 ^ 32 → w.0 < 2 ^ 32 → HeardNumbersAreRead near base w
heard_numbers finds near base w base_fits w_fits = record { read = read; again = again; none = none }
  where
    reading : (o : Option ℕ) → near_position near base w ≡ o → Reads near base w o
    reading o is = subst (λ (p : Option ℕ). Reads near base w p) is (finds near base w base_fits w_fits)

    read : (p : ℕ) → near_position near base w ≡ Some p → p ≤ greatest_position → position_near near (Some base) w ≡ p
    read p is few = near_is near base w (Some p) is ∙ readable_is p few

    again : (p : ℕ) → near_position near base w ≡ Some p → p ≤ greatest_position → reads_as near (Some base) w (position_near near (Some base) w) ≡ true
    again p is few = ap (λ (q : ℕ). reads_as near (Some base) w q) (read p is few) ∙ reads_back near base w p (reading (Some p) is)

    none : near_position near base w ≡ None → reads_as near (Some base) w (position_near near (Some base) w) ≡ false
    none is = let below = reading None is in
        ap (λ (q : ℕ). reads_as near (Some base) w q) (near_is near base w None is) ∙ below_differs near base w below.0 w_fits base_fits below.1
