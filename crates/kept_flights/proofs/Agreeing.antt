-- A number that two endpoints read near different positions.
use Rattle.std.proofs.Common.{◌≡◌, ℕ, ◌+◌, ◌-◌, ◌%◌, ◌^◌, ◌<◌, ◌≤◌, ◌⊎◌, inl, inr, Bool, true, false, Some, None, refl, ap, arith}
use Rattle.std.specs.Prelude.{if◌then◌else◌, nat_lt}
use Rattle.std.proofs.lemmas.Bool.Decides.{nat_tests}
use Rattle.std.proofs.lemmas.Bool.{cases_lt}
use Rattle.std.proofs.lemmas.Option.{none-some, same_Some}
use Rattle.seqno.specs.Near.{ahead, near_position}
use Rattle.seqno.specs.Numbers.{number_of}
use Rattle.seqno.specs.declared.word.Word.{Word}

-- the position is near, and has the number
pub record IsAt (near : ℕ) (base w : Word) (p : ℕ) : Type 0 where
  pub number : (base.0 + p) % 2 ^ 32 ≡ w.0 % 2 ^ 32
  pub least : near ≤ p + 2 ^ 31
  pub most : p < near + 2 ^ 31

pub is_at : (near : ℕ) (base w : Word) (p : ℕ) → near_position near base w ≡ Some p → IsAt near base w p
is_at near base w p = by (ahead near base w) (omega arith) (nat_lt (ahead near base w) (2 ^ 31)) (nat_lt (near + ahead near base w) (2 ^ 32)) refl refl
  where
    by : (n : ℕ) → n ≡ (w.0 + (2 ^ 32 - (base.0 + near) % 2 ^ 32)) % 2 ^ 32 → (a b : Bool) → nat_lt n (2 ^ 31) ≡ a → nat_lt (near + n) (2 ^ 32) ≡ b
        → (if a then Some (near + n) else if b then None else Some (near + n - 2 ^ 32)) ≡ Some p → IsAt near base w p
    by n is true b half below read =
        let less : n < 2 ^ 31 = grind (arith, nat_tests, half) in
        let there : near + n ≡ p = same_Some (near + n) p read in
        record { number = omega (arith, is, less, there); least = omega (arith, less, there); most = omega (arith, less, there) }
    by n is false true half below read = absurd (none-some p read)
    by n is false false half below read =
        let more : 2 ^ 31 ≤ n = grind (arith, nat_tests, half) in
        let least : 2 ^ 32 ≤ near + n = grind (arith, nat_tests, below) in
        let small : n < 2 ^ 32 = omega (arith, is) in
        let there : near + n - 2 ^ 32 ≡ p = same_Some (near + n - 2 ^ 32) p read in
        record { number = omega (arith, is, least, small, there); least = omega (arith, more, least, there); most = omega (arith, small, least, there) }

-- two positions of one number, less than a turn apart
pub one_place : (x y : ℕ) → x % 2 ^ 32 ≡ y % 2 ^ 32 → x < y + 2 ^ 32 → y < x + 2 ^ 32 → x ≡ y
one_place x y same less more = omega (arith, same, less, more)

-- two readings by numbers that begin alike have the same number
pub alike : (near other : ℕ) (iss irs w : Word) (p q : ℕ) → irs ≡ number_of iss 0 → IsAt near iss w p → IsAt other irs w q → p % 2 ^ 32 ≡ q % 2 ^ 32
alike near other iss irs w p q begins here there =
    let first : irs.0 ≡ (iss.0 + 0) % 2 ^ 32 = ap (λ (x : Word). x.0) begins in
    let a = here.number in
    let b = there.number in
    omega (arith, first, a, b)

-- what the sender of a block reports, and what its receiver reads of it: the sender's next position is `other`
pub record Agree (left right p : ℕ) : Type 0 where
  pub from : left ≤ p
  pub upto : p < right

pub agree : (near other ack top : ℕ) (left right far_left far_right p : ℕ) → left % 2 ^ 32 ≡ far_left % 2 ^ 32 → right % 2 ^ 32 ≡ far_right % 2 ^ 32
    → near ≤ left + 2 ^ 31 → right < near + 2 ^ 31 → other ≤ far_right + 2 ^ 31 → far_right < other + 2 ^ 31 → far_left < far_right
    → ack ≤ other → top < ack + 2 ^ 31 → right ≤ top → left ≤ p → p < right → other ≤ p → Agree far_left far_right p
agree near other ack top left right far_left far_right p lefts rights low high far_low far_high some acked near_top within from upto beyond =
    let same : right ≡ far_right = one_place right far_right rights (omega (arith, far_low, acked, near_top, within)) (omega (arith, far_high, beyond, upto)) in
    record { from = left_first (cases_lt p far_left); upto = omega (arith, same, upto) }
  where
    left_first : (p < far_left) ⊎ (far_left ≤ p) → far_left ≤ p
    left_first (inr is) = is
    left_first (inl less) =
        let same : right ≡ far_right =
        one_place right far_right rights (omega (arith, far_low, acked, near_top, within)) (omega (arith, far_high, beyond, upto)) in
        let one : left ≡ far_left = one_place left far_left lefts (omega (arith, less, from)) (omega (arith, some, same, high, low)) in
        omega (arith, one, less, from)
