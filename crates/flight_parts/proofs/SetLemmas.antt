-- Sets of positions, and the lists of their positions.
use Rattle.std.proofs.Common.{◌≡◌, ℕ, Bool, true, false, List, [], ◌∷◌, refl, sym, ap, ◌∙◌, rules}
use Rattle.std.specs.Prelude.{◌||◌}
use Rattle.std.specs.FinSet.{FinSet, contains-empty, contains-from_list, contains-items, empty, from_list, items, nat_cmp-IsAntisymmetric, same_set}
use Rattle.std.specs.Cmp.{nat_cmp_total}
use Rattle.std.specs.List.{list_any}
use Rattle.std.specs.Ordering.{eq_by_cmp, nat_cmp}
use Rattle.streams.specs.Ranges.{covers}

-- a set is that of its positions
pub read_back : (s : FinSet nat_cmp) → from_list (items s) ≡ s
read_back s = same_set nat_cmp_total nat_cmp-IsAntisymmetric (from_list (items s)) s
    (λ q. contains-from_list nat_cmp_total (items s) q ∙ sym (contains-items s q))

-- the empty set has none
pub none_in : items (empty {R = nat_cmp}) ≡ []
none_in = by (items (empty {R = nat_cmp})) (λ q. sym (contains-items empty q) ∙ contains-empty nat_cmp q)
  where
    itself : (n : ℕ) → eq_by_cmp nat_cmp n n ≡ true
    itself n = search rules

    by : (ks : List ℕ) → ((q : ℕ) → list_any (eq_by_cmp nat_cmp q) ks ≡ false) → ks ≡ []
    by [] none = refl
    by (k ∷ ks) none =
        let is : true ≡ false = sym (ap (λ (b : Bool). b || list_any (eq_by_cmp nat_cmp k) ks) (itself k)) ∙ none k in
        absurd cc

pub covers_back : (s : FinSet nat_cmp) (from upto : ℕ) → covers s from upto ≡ covers (from_list (items s)) from upto
covers_back s from upto = ap (λ (r : FinSet nat_cmp). covers r from upto) (sym (read_back s))
