-- What is held: what is next in order isn't kept there.
use Rattle.std.proofs.Common.{◌≡◌, ℕ, ◌≤◌, Bool, sym, ap, ◌∙◌, arith}
use Rattle.std.specs.Prelude.{◌&&◌, ◌||◌, nat_le, nat_lt, not}
use Rattle.std.specs.Cmp.{nat_cmp_total}
use Rattle.std.specs.FinSet.{FinSet, contains, contains-difference, contains-union, difference, nat_cmp-IsAntisymmetric, same_set, union}
use Rattle.std.specs.Ordering.{nat_cmp}
use Rattle.std.proofs.lemmas.Bool.Decides.{nat_tests}
use Rattle.streams.specs.Ranges.{span}
use Rattle.streams.proofs.RangeLemmas.{contains-span}

-- whether a position is in a set without those below another
left_above : (s : FinSet nat_cmp) (next p : ℕ)
    → contains (difference s (span 0 next)) p ≡ (contains s p && not (nat_le 0 p && nat_lt p next))
left_above s next p =
    contains-difference nat_cmp_total s (span 0 next) p ∙ ap (λ (b : Bool). contains s p && not b) (contains-span 0 next p)

-- positions below another are no more there if they are added before
pub below_gone : (s : FinSet nat_cmp) (from upto next : ℕ) → upto ≤ next
    → difference (union s (span from upto)) (span 0 next) ≡ difference s (span 0 next)
below_gone s from upto next le =
    same_set nat_cmp_total nat_cmp-IsAntisymmetric (difference (union s (span from upto)) (span 0 next)) (difference s (span 0 next))
    (λ p. left_above (union s (span from upto)) next p
    ∙ (ap (λ (b : Bool). b && not (nat_le 0 p && nat_lt p next))
    (contains-union nat_cmp_total s (span from upto) p ∙ ap (λ (b : Bool). contains s p || b) (contains-span from upto p))
    ∙ (gone p (contains s p) ∙ sym (left_above s next p))))
  where
    gone : (p : ℕ) (there : Bool) → ((there || (nat_le from p && nat_lt p upto)) && not (nat_le 0 p && nat_lt p next))
        ≡ (there && not (nat_le 0 p && nat_lt p next))
    gone p there = grind (arith, nat_tests, le)
