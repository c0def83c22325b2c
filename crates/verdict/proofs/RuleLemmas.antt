-- What the first broken rule of a list says of its parts.
use Rattle.std.proofs.Common.{◌≡◌, Bool, true, false, List, [], ◌∷◌, ◌++◌, refl, Option, Some, None}
use Rattle.std.specs.List.{AllByRecursion}
use Rattle.verdict.specs.declared.rule.Rule.{Rule}
use Rattle.verdict.specs.Rules.{first_broken}

-- where none is broken, each test is false
pub none_all : (rules : List (Rule × Bool)) → first_broken rules ≡ None → AllByRecursion (λ r. r.1 ≡ false) rules
none_all [] e = tt
none_all ((r, true) ∷ rules) e = absurd cc
none_all ((r, false) ∷ rules) e = (refl, none_all rules e)

-- and back
pub all_none : (rules : List (Rule × Bool)) → AllByRecursion (λ r. r.1 ≡ false) rules → first_broken rules ≡ None
all_none [] h = refl
all_none ((r, b) ∷ rules) h = rw h.0 (all_none rules h.1)

-- none of two lists
pub none_both : (xs ys : List (Rule × Bool)) → first_broken (xs ++ ys) ≡ None → (first_broken xs ≡ None) × (first_broken ys ≡ None)
none_both [] ys e = (refl, e)
none_both ((r, true) ∷ xs) ys e = absurd cc
none_both ((r, false) ∷ xs) ys e = none_both xs ys e

pub first_broken-append_none : (xs ys : List (Rule × Bool)) → first_broken xs ≡ None → first_broken (xs ++ ys) ≡ first_broken ys
first_broken-append_none [] ys e = refl
first_broken-append_none ((r, true) ∷ xs) ys e = absurd cc
first_broken-append_none ((r, false) ∷ xs) ys e = first_broken-append_none xs ys e

pub first_broken-append_some : (xs ys : List (Rule × Bool)) (r : Rule) → first_broken xs ≡ Some r → first_broken (xs ++ ys) ≡ Some r
first_broken-append_some [] ys r e = absurd cc
first_broken-append_some ((q, true) ∷ xs) ys r e = e
first_broken-append_some ((q, false) ∷ xs) ys r e = first_broken-append_some xs ys r e
