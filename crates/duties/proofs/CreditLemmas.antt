-- Credits as the entries of a map.
use Rattle.std.proofs.Common.{◌≡◌, ◌+◌, ℕ, zero, suc, Bool, true, false, nat_lt, List, [], ◌∷◌, Option, None, Some, refl, ap, ◌∙◌, sym, subst, arith}
use Rattle.std.specs.Prelude.{if◌then◌else◌, slice_get}
use Rattle.std.specs.List.{AllByRecursion}
use Rattle.std.specs.List.Sorted.{IsStrictlySortedBy}
use Rattle.std.specs.Map.{keys_of, lookup, remove_entry}
use Rattle.std.specs.Option.{option_map_or}
use Rattle.std.specs.Ordering.{nat_cmp}
use Rattle.std.specs.declared.cmp.Ordering.{Ordering}
use Rattle.std.specs.declared.cmp.Ordering.TheVariants.{Less, Equal, Greater}
use Rattle.std.specs.BTreeMap.{insert_entry, is_at}
use Rattle.std.specs.BTreeMap.Range.{entries_between, range_contains}
use Rattle.std.specs.declared.ops.Bound.TheVariants.{Included, Excluded}
use Rattle.std.proofs.lemmas.Bool.Decides.{nat_tests}
use Rattle.std.proofs.lemmas.Option.{none-some, same_Some}
use Rattle.spec_duties.specs.Credits.{credit_of, earned, has_credit, is_credit_from, spent}
use Rattle.duties.specs.CreditCounts.{found, listed, repeated}

abbrev pub sorted : List (ℕ × ℕ) → Type 0
sorted es = IsStrictlySortedBy nat_cmp (keys_of es)

-- ---- one more

earned_past : (c k n : ℕ) (xs : List ℕ) → nat_lt c k ≡ true → earned k (repeated c n xs) ≡ repeated c n (earned k xs)
earned_past c k zero xs less = refl
earned_past c k (suc n) xs less = rw less (ap (λ (ys : List ℕ). c ∷ ys) (earned_past c k n xs less))

-- no key is as low as one that is below the first
none_below : (k : ℕ) (es : List (ℕ × ℕ)) → AllByRecursion (λ y. nat_cmp k y ≡ Less) (keys_of es) → lookup (is_at (nat_cmp k)) es ≡ None
none_below k [] all = refl
none_below k (e ∷ es) all = rw all.0 (none_below k es all.1)

lower : (k c : ℕ) (es : List (ℕ × ℕ)) → nat_cmp k c ≡ Less → AllByRecursion (λ y. nat_cmp c y ≡ Less) (keys_of es)
    → AllByRecursion (λ y. nat_cmp k y ≡ Less) (keys_of es)
lower k c [] less all = tt
lower k c (e ∷ es) less all = (let next : nat_cmp c e.0 ≡ Less = all.0 in grind (arith, nat_tests, less, next), lower k c es less all.1)

pub more_earned : (k n : ℕ) (es : List (ℕ × ℕ)) → sorted es → lookup (is_at (nat_cmp k)) es ≡ Some n
    → listed (insert_entry nat_cmp es k (suc n)) ≡ earned k (listed es)
unfolding IsStrictlySortedBy
more_earned k n [] s is = absurd (none-some n is)
more_earned k n (e ∷ es) s is = by (nat_cmp k e.0) refl (more_earned k n es s.1)
  where
    by : (o : Ordering) → nat_cmp k e.0 ≡ o
        → (lookup (is_at (nat_cmp k)) es ≡ Some n → listed (insert_entry nat_cmp es k (suc n)) ≡ earned k (listed es))
        → listed (insert_entry nat_cmp (e ∷ es) k (suc n)) ≡ earned k (listed (e ∷ es))
    by Less o rest = absurd (none-some n (sym (none_below k (e ∷ es) (o, lower k e.0 es o s.0)) ∙ is))
    by Equal o rest =
        let same : k ≡ e.0 = grind (arith, nat_tests, o) in
        let count : e.1 ≡ n = same_Some e.1 n (rw o at is) in
        let not_less : nat_lt e.0 k ≡ false = grind (arith, nat_tests, o) in
        rw (o, not_less) (rw (same, count) refl)
    by Greater o rest =
        let less : nat_lt e.0 k ≡ true = grind (arith, nat_tests, o) in
        rw (o, less) (ap (λ (xs : List ℕ). e.0 ∷ xs)
        (ap (repeated e.0 e.1) (rest (rw o at is)) ∙ sym (earned_past e.0 k e.1 (listed es) less)))

pub first_earned : (k : ℕ) (es : List (ℕ × ℕ)) → lookup (is_at (nat_cmp k)) es ≡ None
    → listed (insert_entry nat_cmp es k 0) ≡ earned k (listed es)
first_earned k [] is = refl
first_earned k (e ∷ es) is = by (nat_cmp k e.0) refl (first_earned k es)
  where
    by : (o : Ordering) → nat_cmp k e.0 ≡ o
        → (lookup (is_at (nat_cmp k)) es ≡ None → listed (insert_entry nat_cmp es k 0) ≡ earned k (listed es))
        → listed (insert_entry nat_cmp (e ∷ es) k 0) ≡ earned k (listed (e ∷ es))
    by Less o rest = let not_less : nat_lt e.0 k ≡ false = grind (arith, nat_tests, o) in rw (o, not_less) refl
    by Equal o rest = absurd (none-some e.1 (sym (rw o at is)))
    by Greater o rest =
        let less : nat_lt e.0 k ≡ true = grind (arith, nat_tests, o) in
        rw (o, less) (ap (λ (xs : List ℕ). e.0 ∷ xs)
        (ap (repeated e.0 e.1) (rest (rw o at is)) ∙ sym (earned_past e.0 k e.1 (listed es) less)))

pub joined : (k n : ℕ) (es : List (ℕ × ℕ)) (o : Option ℕ) → sorted es → o ≡ lookup (is_at (nat_cmp k)) es → n ≡ option_map_or (λ m. suc m) o 0
    → listed (insert_entry nat_cmp es k n) ≡ earned k (listed es)
joined k n es None s is count = ap (λ (n : ℕ). listed (insert_entry nat_cmp es k n)) count ∙ first_earned k es (sym is)
joined k n es (Some m) s is count = ap (λ (n : ℕ). listed (insert_entry nat_cmp es k n)) count ∙ more_earned k m es s (sym is)

-- ---- one less

module _ (place moment : ℕ) where
  abbrev here : ℕ → Bool
  here = is_credit_from place moment

  same_test : (end q : ℕ) → end ≡ credit_of (place + 1) 0
      → range_contains nat_cmp (Included (credit_of place moment)) (Excluded end) q ≡ here q
  same_test end q is = grind (arith, nat_tests, is)

  pub found_between : (es : List (ℕ × ℕ)) (end : ℕ) → end ≡ credit_of (place + 1) 0
      → slice_get (entries_between nat_cmp (Included (credit_of place moment)) (Excluded end) es) 0 ≡ found place moment es
  found_between [] end is = refl
  found_between (e ∷ es) end is = by (here e.0) refl (found_between es end is)
    where
      by : (b : Bool) → here e.0 ≡ b
          → slice_get (entries_between nat_cmp (Included (credit_of place moment)) (Excluded end) es) 0 ≡ found place moment es
          → slice_get (entries_between nat_cmp (Included (credit_of place moment)) (Excluded end) (e ∷ es)) 0
          ≡ (if b then Some e else found place moment es)
      by true at rest =
          let between : range_contains nat_cmp (Included (credit_of place moment)) (Excluded end) e.0 ≡ true = same_test end e.0 is ∙ at in
          rw between refl
      by false at rest =
          let between : range_contains nat_cmp (Included (credit_of place moment)) (Excluded end) e.0 ≡ false = same_test end e.0 is ∙ at in
          rw between rest

  pub first_is : (es r : List (ℕ × ℕ)) (from end : ℕ) (x : ℕ × ℕ) (rest : List (ℕ × ℕ)) → from ≡ credit_of place moment → end ≡ credit_of (place + 1) 0
      → r ≡ entries_between nat_cmp (Included from) (Excluded end) es → r ≡ x ∷ rest → Some x ≡ found place moment es
  first_is es r from end x rest low high between is =
      ap (λ (ys : List (ℕ × ℕ)). slice_get ys 0) (sym is ∙ between ∙ ap (λ (n : ℕ). entries_between nat_cmp (Included n) (Excluded end) es) low)
      ∙ found_between es end high

  pub none_is : (es r : List (ℕ × ℕ)) (from end : ℕ) → from ≡ credit_of place moment → end ≡ credit_of (place + 1) 0
      → r ≡ entries_between nat_cmp (Included from) (Excluded end) es → r ≡ [] → None ≡ found place moment es
  none_is es r from end low high between is =
      ap (λ (ys : List (ℕ × ℕ)). slice_get ys 0) (sym is ∙ between ∙ ap (λ (n : ℕ). entries_between nat_cmp (Included n) (Excluded end) es) low)
      ∙ found_between es end high

  found_here : (es : List (ℕ × ℕ)) (x : ℕ × ℕ) → found place moment es ≡ Some x → here x.0 ≡ true
  found_here [] x is = absurd (none-some x is)
  found_here (e ∷ es) x is = by (here e.0) refl is (found_here es x)
    where
      by : (b : Bool) → here e.0 ≡ b → (if b then Some e else found place moment es) ≡ Some x
          → (found place moment es ≡ Some x → here x.0 ≡ true) → here x.0 ≡ true
      by true at is rest = subst (λ (y : ℕ × ℕ). here y.0 ≡ true) (same_Some e x is) at
      by false at is rest = rest is

  found_above : (c : ℕ) (es : List (ℕ × ℕ)) (x : ℕ × ℕ) → AllByRecursion (λ y. nat_cmp c y ≡ Less) (keys_of es) → found place moment es ≡ Some x
      → nat_cmp c x.0 ≡ Less
  found_above c [] x all is = absurd (none-some x is)
  found_above c (e ∷ es) x all is = by (here e.0) is (found_above c es x all.1)
    where
      by : (b : Bool) → (if b then Some e else found place moment es) ≡ Some x → (found place moment es ≡ Some x → nat_cmp c x.0 ≡ Less)
          → nat_cmp c x.0 ≡ Less
      by true is rest = subst (λ (y : ℕ × ℕ). nat_cmp c y.0 ≡ Less) (same_Some e x is) all.0
      by false is rest = rest is

  spent_past : (c n : ℕ) (xs : List ℕ) → here c ≡ false → spent place moment (repeated c n xs) ≡ repeated c n (spent place moment xs)
  spent_past c zero xs not = refl
  spent_past c (suc n) xs not = rw not (ap (λ (ys : List ℕ). c ∷ ys) (spent_past c n xs not))

  any_past : (c n : ℕ) (xs : List ℕ) → here c ≡ false → has_credit place moment (repeated c n xs) ≡ has_credit place moment xs
  any_past c zero xs not = refl
  any_past c (suc n) xs not = rw not (any_past c n xs not)

  pub none_spent : (es : List (ℕ × ℕ)) → found place moment es ≡ None
      → (spent place moment (listed es) ≡ listed es) × (has_credit place moment (listed es) ≡ false)
  none_spent [] is = (refl, refl)
  none_spent (e ∷ es) is = by (here e.0) refl is (none_spent es)
    where
      by : (b : Bool) → here e.0 ≡ b → (if b then Some e else found place moment es) ≡ None
          → (found place moment es ≡ None → (spent place moment (listed es) ≡ listed es) × (has_credit place moment (listed es) ≡ false))
          → (spent place moment (listed (e ∷ es)) ≡ listed (e ∷ es)) × (has_credit place moment (listed (e ∷ es)) ≡ false)
      by true at is others = absurd (none-some e (sym is))
      by false at is others =
          let rest = others is in (
            rw at (ap (λ (xs : List ℕ). e.0 ∷ xs) (spent_past e.0 e.1 (listed es) at ∙ ap (repeated e.0 e.1) rest.0)),
            rw at (any_past e.0 e.1 (listed es) at ∙ rest.1),
          )

  pub some_there : (es : List (ℕ × ℕ)) (x : ℕ × ℕ) → found place moment es ≡ Some x → has_credit place moment (listed es) ≡ true
  some_there [] x is = absurd (none-some x is)
  some_there (e ∷ es) x is = by (here e.0) refl is (some_there es x)
    where
      by : (b : Bool) → here e.0 ≡ b → (if b then Some e else found place moment es) ≡ Some x
          → (found place moment es ≡ Some x → has_credit place moment (listed es) ≡ true) → has_credit place moment (listed (e ∷ es)) ≡ true
      by true at is rest = rw at refl
      by false at is rest = rw at (any_past e.0 e.1 (listed es) at ∙ rest is)

  -- one that isn't the head is after it
  after_head : (e x : ℕ × ℕ) (es : List (ℕ × ℕ)) → sorted (e ∷ es) → found place moment es ≡ Some x → nat_cmp x.0 e.0 ≡ Greater
  unfolding IsStrictlySortedBy
  after_head e x es s is = let less = found_above e.0 es x s.0 is in grind (arith, nat_tests, less)

  pub last_spent : (es : List (ℕ × ℕ)) (k : ℕ) → sorted es → found place moment es ≡ Some (k, 0)
      → listed (remove_entry (is_at (nat_cmp k)) es) ≡ spent place moment (listed es)
  unfolding IsStrictlySortedBy
  last_spent [] k s is = absurd (none-some (k, 0) is)
  last_spent (e ∷ es) k s is = by (here e.0) refl is (last_spent es k s.1)
    where
      by : (b : Bool) → here e.0 ≡ b → (if b then Some e else found place moment es) ≡ Some (k, 0)
          → (found place moment es ≡ Some (k, 0) → listed (remove_entry (is_at (nat_cmp k)) es) ≡ spent place moment (listed es))
          → listed (remove_entry (is_at (nat_cmp k)) (e ∷ es)) ≡ spent place moment (listed (e ∷ es))
      by true at is rest =
          let same : e ≡ (k, 0) = same_Some e (k, 0) is in
          let equal : nat_cmp k e.0 ≡ Equal = let key : e.0 ≡ k = ap (λ (y : ℕ × ℕ). y.0) same in grind (arith, nat_tests, key) in
          rw (equal, at) (rw (ap (λ (y : ℕ × ℕ). y.1) same) refl)
      by false at is rest =
          let greater = after_head e (k, 0) es s is in
          rw (greater, at) (ap (λ (xs : List ℕ). e.0 ∷ xs)
          (ap (repeated e.0 e.1) (rest is) ∙ sym (spent_past e.0 e.1 (listed es) at)))

  pub one_spent : (es : List (ℕ × ℕ)) (k n : ℕ) → sorted es → found place moment es ≡ Some (k, suc n)
      → listed (insert_entry nat_cmp es k n) ≡ spent place moment (listed es)
  unfolding IsStrictlySortedBy
  one_spent [] k n s is = absurd (none-some (k, suc n) is)
  one_spent (e ∷ es) k n s is = by (here e.0) refl is (one_spent es k n s.1)
    where
      by : (b : Bool) → here e.0 ≡ b → (if b then Some e else found place moment es) ≡ Some (k, suc n)
          → (found place moment es ≡ Some (k, suc n) → listed (insert_entry nat_cmp es k n) ≡ spent place moment (listed es))
          → listed (insert_entry nat_cmp (e ∷ es) k n) ≡ spent place moment (listed (e ∷ es))
      by true at is rest =
          let same : e ≡ (k, suc n) = same_Some e (k, suc n) is in
          let equal : nat_cmp k e.0 ≡ Equal = let key : e.0 ≡ k = ap (λ (y : ℕ × ℕ). y.0) same in grind (arith, nat_tests, key) in
          rw (equal, at) (rw (ap (λ (y : ℕ × ℕ). y.1) same) refl)
      by false at is rest =
          let greater = after_head e (k, suc n) es s is in
          rw (greater, at) (ap (λ (xs : List ℕ). e.0 ∷ xs)
          (ap (repeated e.0 e.1) (rest is) ∙ sym (spent_past e.0 e.1 (listed es) at)))
