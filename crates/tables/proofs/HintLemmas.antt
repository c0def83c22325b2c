-- Numbers whose slots aren't empty.
use Rattle.std.proofs.Common.{◌≡◌, ◌+◌, ◌<◌, ◌≤◌, ℕ, zero, suc, Bool, true, false, List, [], ◌∷◌, length, get_or, take, Option, None, Some, IsSome}
use Rattle.std.proofs.Common.{refl, sym, subst, ◌++◌, ◌∙◌}
use Rattle.std.proofs.lemmas.List.Elements.{All-head, All-tail, All-weaker, All-more, All-set}
use Rattle.std.proofs.lemmas.List.{get_or_default, nil_from_length, take_all}
use Rattle.std.specs.Prelude.{nat_eq, slice_get, slice_set}
use Rattle.std.specs.Map.{lookup}
use Rattle.tables.specs.Hints.{no_place, slot, AreHinted, AreIn, IsHinted}
use Rattle.std.specs.Option.{option_or}
use Rattle.tables.specs.Tables.{place_in, place_of, IsPlaced}
use Rattle.tables.proofs.TableLemmas.{equal, first, later, own_place}

module _ {V : Type 0} (hints : List ℕ) where
  -- a number whose slot is empty has no entry
  pub no_entry : (es : List (ℕ × V)) (k : ℕ) → AreHinted hints es → slice_get hints (slot (length hints) k) ≡ Some no_place → place_of es k ≡ None
  no_entry [] k all empty = refl
  no_entry (x ∷ es) k all empty = by (nat_eq k x.0) refl (no_entry es k (All-tail (λ e. IsHinted hints e.0) x es all) empty)
    where
      by : (b : Bool) → nat_eq k x.0 ≡ b → place_of es k ≡ None → place_of (x ∷ es) k ≡ None
      by true is rest =
          let own : IsHinted hints x.0 = All-head (λ e. IsHinted hints e.0) x es all in
          absurd (own (subst (λ (n : ℕ). slice_get hints (slot (length hints) n) ≡ Some no_place) (equal k x.0 is) empty))
      by false is rest = rw (is, rest) refl

  -- the slot of a number that has one isn't
  pub has_hint : (es : List (ℕ × V)) (k p : ℕ) → AreHinted hints es → place_of es k ≡ Some p → IsHinted hints k
  has_hint [] k p all at = absurd cc
  has_hint (x ∷ es) k zero all at =
      subst (λ (n : ℕ). IsHinted hints n) (sym (equal k x.0 (first x es k at))) (All-head (λ e. IsHinted hints e.0) x es all)
  has_hint (x ∷ es) k (suc q) all at = has_hint es k q (All-tail (λ e. IsHinted hints e.0) x es all) (later x es k q at).1

  -- an entry takes a value where it stands
  pub hinted_set : (es : List (ℕ × V)) (k p : ℕ) (v : V) → AreHinted hints es → place_of es k ≡ Some p → AreHinted hints (slice_set es p (k, v))
  hinted_set es k p v all at = All-set (λ e. IsHinted hints e.0) es p (k, v) (has_hint es k p all at) all

  -- one more of the entries is hinted at, and those before it stay so
  pub hinted_more : (old : List ℕ) (es : List (ℕ × V)) (i : ℕ) (e : ℕ × V) → i < length es → e ≡ get_or es i e
      → AreHinted old (take i es) → ((n : ℕ) → IsHinted old n → IsHinted hints n) → IsHinted hints e.0 → AreHinted hints (take (i + 1) es)
  hinted_more old es i e within is all kept own =
      All-more (λ x. IsHinted hints x.0) es i e within
      (All-weaker (λ x. IsHinted old x.0) (λ x. IsHinted hints x.0) (λ x. kept x.0) (take i es) all)
      (subst (λ (x : ℕ × V). IsHinted hints x.0) is own)

  -- once there is no more entry, all are
  pub hinted_all : (es : List (ℕ × V)) (i : ℕ) → length es ≤ i → AreHinted hints (take i es) → AreHinted hints es
  hinted_all es i end all = subst (λ (xs : List (ℕ × V)). AreHinted hints xs) (take_all i es end) all

-- the slot of a number in a list isn't empty, if those of the list aren't
hinted_number : {W : Type 0} (hints : List ℕ) (numbers : List (ℕ × W)) (k : ℕ) → AreHinted hints numbers → IsSome (lookup (nat_eq k) numbers) → IsHinted hints k
hinted_number hints [] k all is = absurd cc
hinted_number {W} hints (x ∷ xs) k all is = by (nat_eq k x.0) refl is (hinted_number hints xs k (All-tail (λ e. IsHinted hints e.0) x xs all))
  where
    by : (b : Bool) → nat_eq k x.0 ≡ b → IsSome (lookup (nat_eq k) (x ∷ xs)) → (IsSome (lookup (nat_eq k) xs) → IsHinted hints k) → IsHinted hints k
    by true same some rest = subst (λ (n : ℕ). IsHinted hints n) (sym (equal k x.0 same)) (All-head (λ e. IsHinted hints e.0) x xs all)
    by false other some rest = rest (rw other at some)

pub hinted_by : {V W : Type 0} (hints : List ℕ) (numbers : List (ℕ × W)) (es : List (ℕ × V)) → AreHinted hints numbers → AreIn numbers es → AreHinted hints es
hinted_by hints numbers es all are =
    All-weaker (λ e. IsSome (lookup (nat_eq e.0) numbers)) (λ e. IsHinted hints e.0) (λ e is. hinted_number hints numbers e.0 all is) es are

-- a number that is in a list is in a longer one
in_longer : {W : Type 0} (xs ys : List (ℕ × W)) (k : ℕ) → IsSome (lookup (nat_eq k) xs) → IsSome (lookup (nat_eq k) (xs ++ ys))
in_longer [] ys k is = absurd cc
in_longer {W} (x ∷ xs) ys k is = by (nat_eq k x.0) refl is (in_longer xs ys k)
  where
    by : (b : Bool) → nat_eq k x.0 ≡ b → IsSome (lookup (nat_eq k) (x ∷ xs)) → (IsSome (lookup (nat_eq k) xs) → IsSome (lookup (nat_eq k) (xs ++ ys)))
        → IsSome (lookup (nat_eq k) (x ∷ xs ++ ys))
    by true same some rest = rw same refl
    by false other some rest = rw other (rest (rw other at some))

-- where the map of the others is empty, each entry's number is among those that rose
pub all_rose : {V : Type 0} (top : Option ℕ) (risen : List (ℕ × ℕ)) (others : List (ℕ × Option ℕ)) (es : List (ℕ × V)) (more : List (ℕ × ℕ))
    → IsPlaced top risen others es → length others ≡ 0 → AreIn (risen ++ more) es
all_rose {V} top risen others es more placed none = λ k d lt.
    let e : ℕ × V = get_or es k d in
    let own = own_place es k e.0 e placed.apart lt (get_or_default es k d e lt) refl in
    let led : place_in risen [] e.0 ≡ Some k =
    subst (λ (o : List (ℕ × Option ℕ)). place_in risen o e.0 ≡ Some k) (nil_from_length others none) (placed.leads e.0 ∙ own) in
    in_longer risen more e.0 (risen_alone (lookup (nat_eq e.0) risen) k led)
  where
    risen_alone : (o : Option ℕ) (k : ℕ) → option_or o None ≡ Some k → IsSome o
    risen_alone (Some p) k is = refl
    risen_alone None k is = absurd cc
