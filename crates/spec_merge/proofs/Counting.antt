-- Counting anew: the numbers stay apart, and rise by one.
use Rattle.std.proofs.Common.{◌≡◌, ℕ, zero, suc, ◌+◌, Bool, true, false, List, [], ◌∷◌, Option, refl, ap, sym, subst, ◌∙◌, arith}
use Rattle.case_forms.specs.declared.calls.Host.{Host}
use Rattle.spec_merge.specs.Merging.{heads, mine, nth, pass}

-- different numbers lead to different numbers
abbrev pub Apart : (ℕ → ℕ) → Type 0
Apart f = (x y : ℕ) → f x ≡ f y → x ≡ y

pass_apart : (b : Bool) (f : ℕ → ℕ) → Apart f → Apart (pass b f)
pass_apart true f h zero zero e = refl
pass_apart true f h zero (suc y) e = absurd (omega arith)
pass_apart true f h (suc x) zero e = absurd (omega arith)
pass_apart true f h (suc x) (suc y) e = ap suc (h x y (omega arith))
pass_apart false f h x y e = h x y (omega arith)

-- the places of turns are apart
pub nth_apart : (h : Host) (ms : List (Option Host)) → Apart (nth h ms)
nth_apart h [] x y e = e
nth_apart h (m ∷ ms) x y e = pass_apart (mine h m) (nth h ms) (nth_apart h ms) x y e

-- from a on, f counts this host's turns, of which the first has the number b
abbrev pub Counts : (ℕ → ℕ) → ℕ → ℕ → Host → List (Option Host) → Type 0
Counts f a b h ms = (j : ℕ) → f (a + j) ≡ b + nth h ms j

-- a turn of this host's has the number that is counted
pub counts_mine : (f : ℕ → ℕ) (a b : ℕ) (h : Host) (m : Option Host) (ms : List (Option Host)) → mine h m ≡ true
    → Counts f a b h (m ∷ ms) → (f a ≡ b) × Counts f (suc a) (suc b) h ms
counts_mine f a b h m ms is c = go (mine h m) is c
  where
    go : (t : Bool) → t ≡ true → ((j : ℕ) → f (a + j) ≡ b + pass t (nth h ms) j) → (f a ≡ b) × Counts f (suc a) (suc b) h ms
    go true is c = (
      let e = c 0 in let z : a + 0 ≡ a = omega arith in subst (λ x. f x ≡ b) z (let w : b + 0 ≡ b = omega arith in e ∙ w),
      λ j. let z : a + suc j ≡ suc a + j = omega arith in
          subst (λ x. f x ≡ suc b + nth h ms j) z
          (let w : b + suc (nth h ms j) ≡ suc b + nth h ms j = omega arith in c (suc j) ∙ w),
    )
    go false is c = absurd (cc)

-- a turn that is not this host's moves the count on
pub counts_other : (f : ℕ → ℕ) (a b : ℕ) (h : Host) (m : Option Host) (ms : List (Option Host)) → mine h m ≡ false
    → Counts f a b h (m ∷ ms) → Counts f a (suc b) h ms
counts_other f a b h m ms is c = go (mine h m) is c
  where
    go : (t : Bool) → t ≡ false → ((j : ℕ) → f (a + j) ≡ b + pass t (nth h ms) j) → Counts f a (suc b) h ms
    go true is c = absurd (cc)
    go false is c = λ j. let e = c j in omega arith

-- behind n turns of everybody, turns are counted from n on
pub nth_heads : (h : Host) (n : ℕ) (ms : List (Option Host)) → Counts (nth h (heads n ms)) n n h ms
nth_heads h zero ms j = let z : zero + j ≡ j = omega arith in subst (λ x. nth h ms x ≡ zero + nth h ms j) (sym z) (omega arith)
nth_heads h (suc n) ms j = let z : suc n + j ≡ suc (n + j) = omega arith in
    subst (λ x. pass true (nth h (heads n ms)) x ≡ suc n + nth h ms j) (sym z)
    (let e = nth_heads h n ms j in omega arith)
