-- How many credits of an endpoint are kept.
use Rattle.std.proofs.Common.{◌≡◌, ℕ, suc, ◌+◌, ◌*◌, ◌^◌, ◌<◌, ◌≤◌, ◌⊎◌, inl, inr, Bool, true, false, List, [], ◌∷◌, refl, ap, sym, ◌∙◌, arith}
use Rattle.std.specs.Prelude.{if◌then◌else◌, ◌&&◌, ◌||◌, nat_le, nat_lt}
use Rattle.std.specs.List.{list_any}
use Rattle.std.proofs.lemmas.Bool.{cases_lt}
use Rattle.std.proofs.lemmas.Bool.Decides.{nat_tests}
use Rattle.spec_tcp_laws.proofs.Rules.{both_true}
use Rattle.spec_duties.specs.Credits.{credit_of, earned, has_credit, is_credit_from, spent}

abbrev pub held : (place : ℕ) → List ℕ → ℕ
held place [] = 0
held place (c ∷ cs) = if is_credit_from place 0 c then suc (held place cs) else held place cs

-- one more is earned
pub held_earned : (place credit : ℕ) (cs : List ℕ)
    → held place (earned credit cs) ≡ (if is_credit_from place 0 credit then suc (held place cs) else held place cs)
held_earned place credit [] = refl
held_earned place credit (c ∷ cs) = by (nat_lt c credit) (held_earned place credit cs)
  where
    swap : (a b : Bool) (n : ℕ)
        → (if a then suc (if b then suc n else n) else (if b then suc n else n)) ≡ (if b then suc (if a then suc n else n) else (if a then suc n else n))
    swap true true n = refl
    swap true false n = refl
    swap false true n = refl
    swap false false n = refl

    by : (less : Bool) → held place (earned credit cs) ≡ (if is_credit_from place 0 credit then suc (held place cs) else held place cs)
        → held place (if less then c ∷ earned credit cs else credit ∷ c ∷ cs)
        ≡ (if is_credit_from place 0 credit then suc (held place (c ∷ cs)) else held place (c ∷ cs))
    by true rest =
        ap (λ (n : ℕ). if is_credit_from place 0 c then suc n else n) rest
        ∙ swap (is_credit_from place 0 c) (is_credit_from place 0 credit) (held place cs)
    by false rest = refl

-- one is spent
from_start : (place moment c : ℕ) → is_credit_from place moment c ≡ true → is_credit_from place 0 c ≡ true
from_start place moment c is =
    let both = both_true (nat_le (place * 2 ^ 64 + moment) c) (nat_lt c ((place + 1) * 2 ^ 64 + 0)) is in
    let low = both.0 in
    let first : nat_le (place * 2 ^ 64 + 0) c ≡ true = grind (arith, nat_tests, low) in
    ap (λ (b : Bool). b && nat_lt c ((place + 1) * 2 ^ 64 + 0)) first ∙ both.1

pub held_spent : (place moment : ℕ) (cs : List ℕ) → has_credit place moment cs ≡ true → suc (held place (spent place moment cs)) ≡ held place cs
held_spent place moment [] has = absurd (let e : false ≡ true = has in cc)
held_spent place moment (c ∷ cs) has = by (is_credit_from place moment c) refl has (held_spent place moment cs)
  where
    both : (a : Bool) (n m : ℕ) → suc n ≡ m → suc (if a then suc n else n) ≡ (if a then suc m else m)
    both true n m same = ap (λ (k : ℕ). suc k) same
    both false n m same = same

    by : (here : Bool) → is_credit_from place moment c ≡ here → (here || list_any (is_credit_from place moment) cs) ≡ true
        → (has_credit place moment cs ≡ true → suc (held place (spent place moment cs)) ≡ held place cs)
        → suc (held place (if here then cs else c ∷ spent place moment cs)) ≡ held place (c ∷ cs)
    by true is some rest = sym (ap (λ (b : Bool). if b then suc (held place cs) else held place cs) (from_start place moment c is))
    by false is some rest = both (is_credit_from place 0 c) (held place (spent place moment cs)) (held place cs) (rest some)

pub held_left : (other place moment : ℕ) (cs : List ℕ) → held other (spent place moment cs) ≤ held other cs
held_left other place moment [] = omega arith
held_left other place moment (c ∷ cs) = by (is_credit_from place moment c) (held_left other place moment cs)
  where
    less : (a : Bool) (n : ℕ) → n ≤ (if a then suc n else n)
    less true n = omega arith
    less false n = omega arith

    both : (a : Bool) (n m : ℕ) → n ≤ m → (if a then suc n else n) ≤ (if a then suc m else m)
    both true n m le = omega arith
    both false n m le = le

    by : (here : Bool) → held other (spent place moment cs) ≤ held other cs
        → held other (if here then cs else c ∷ spent place moment cs) ≤ held other (c ∷ cs)
    by true rest = less (is_credit_from other 0 c) (held other cs)
    by false rest = both (is_credit_from other 0 c) (held other (spent place moment cs)) (held other cs) rest

-- another endpoint's credit is another one
pub another : (other place moment : ℕ) → (place ≡ other → ⊥) → moment < 2 ^ 64 → is_credit_from other 0 (credit_of place moment) ≡ false
another other place moment differs low = by (cases_lt place other)
  where
    no_both : (a b : Bool) → a ≡ false → (a && b) ≡ false
    no_both true b e = absurd (let f : true ≡ false = e in cc)
    no_both false b e = refl

    nor_both : (a b : Bool) → b ≡ false → (a && b) ≡ false
    nor_both true b e = e
    nor_both false b e = refl

    by : (place < other) ⊎ (other ≤ place) → is_credit_from other 0 (credit_of place moment) ≡ false
    by (inl less) =
        no_both (nat_le (other * 2 ^ 64 + 0) (place * 2 ^ 64 + moment)) (nat_lt (place * 2 ^ 64 + moment) ((other + 1) * 2 ^ 64 + 0))
        (grind (arith, nat_tests, less, low))
    by (inr le) =
        let more : other < place = omega (arith, le, differs) in
        nor_both (nat_le (other * 2 ^ 64 + 0) (place * 2 ^ 64 + moment)) (nat_lt (place * 2 ^ 64 + moment) ((other + 1) * 2 ^ 64 + 0))
        (grind (arith, nat_tests, more))
