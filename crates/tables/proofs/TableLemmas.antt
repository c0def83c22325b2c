-- Entries and where they stand.
use Rattle.std.proofs.Common.{◌≡◌, ℕ, zero, suc, ◌<◌, Bool, true, false, cond, List, [], ◌∷◌, ◌++◌, length, get_or}
use Rattle.std.proofs.Common.{Option, None, Some, Result, Ok, Err, OnErr, refl, sym, ap, ◌∙◌, subst, arith, rules}
use Rattle.std.proofs.lemmas.Bool.Decides.{nat_tests}
use Rattle.std.specs.Prelude.{nat_eq, slice_set, if◌then◌else◌}
use Rattle.std.specs.Map.{lookup}
use Rattle.std.specs.Option.{option_map, option_map_or, option_flatten, option_or}
use Rattle.std.specs.Ordering.{nat_cmp}
use Rattle.std.specs.BTreeMap.{is_at}
use Rattle.indexmap.specs.IndexMap.{insert_entry}
use Rattle.tables.specs.Tables.{changed_at, is_above, led_in, place_of, place_in, AreApart, IsPlaced}
use Rattle.tables.proofs.RisingLemmas.{rising_more, below_more}

pub equal : (k n : ℕ) → nat_eq k n ≡ true → k ≡ n
equal k n is = grind (arith, nat_tests, is)

swapped : (k n : ℕ) → nat_eq n k ≡ nat_eq k n
swapped k n = by (nat_eq k n) refl
  where
    by : (b : Bool) → nat_eq k n ≡ b → nat_eq n k ≡ b
    by true is = grind (arith, nat_tests, is)
    by false is = grind (arith, nat_tests, is)

module _ {V : Type 0} (x : ℕ × V) (es : List (ℕ × V)) (k : ℕ) where
  step : (b : Bool) → nat_eq k x.0 ≡ b → place_of (x ∷ es) k ≡ (if b then Some 0 else option_map (λ place. suc place) (place_of es k))
  step b is = ap (λ (t : Bool). if t then Some 0 else option_map (λ place. suc place) (place_of es k)) is

  pub first : place_of (x ∷ es) k ≡ Some 0 → nat_eq k x.0 ≡ true
  first at = by (nat_eq k x.0) refl (place_of es k) refl
    where
      by : (b : Bool) → nat_eq k x.0 ≡ b → (o : Option ℕ) → place_of es k ≡ o → nat_eq k x.0 ≡ true
      by true is o rest = is
      by false is None rest = let none : place_of (x ∷ es) k ≡ None = rw (is, rest) refl in absurd cc
      by false is (Some q) rest = let some : place_of (x ∷ es) k ≡ Some (suc q) = rw (is, rest) refl in absurd cc

  pub later : (q : ℕ) → place_of (x ∷ es) k ≡ Some (suc q) → (nat_eq k x.0 ≡ false) × (place_of es k ≡ Some q)
  later q at = by (nat_eq k x.0) refl (place_of es k) refl
    where
      by : (b : Bool) → nat_eq k x.0 ≡ b → (o : Option ℕ) → place_of es k ≡ o → (nat_eq k x.0 ≡ false) × (place_of es k ≡ Some q)
      by true is o rest = let own : place_of (x ∷ es) k ≡ Some 0 = rw is refl in absurd cc
      by false is None rest = let none : place_of (x ∷ es) k ≡ None = rw (is, rest) refl in absurd cc
      by false is (Some p) rest = let some : place_of (x ∷ es) k ≡ Some (suc p) = rw (is, rest) refl in (is, cc)

  nowhere : place_of (x ∷ es) k ≡ None → (nat_eq k x.0 ≡ false) × (place_of es k ≡ None)
  nowhere at = by (nat_eq k x.0) refl (place_of es k) refl
    where
      by : (b : Bool) → nat_eq k x.0 ≡ b → (o : Option ℕ) → place_of es k ≡ o → (nat_eq k x.0 ≡ false) × (place_of es k ≡ None)
      by true is o rest = let own : place_of (x ∷ es) k ≡ Some 0 = rw is refl in absurd cc
      by false is None rest = (is, rest)
      by false is (Some p) rest = let some : place_of (x ∷ es) k ≡ Some (suc p) = rw (is, rest) refl in absurd cc

module _ {V : Type 0} where
  -- a place is one of the list's
  pub within : (es : List (ℕ × V)) (k p : ℕ) → place_of es k ≡ Some p → p < length es
  within [] k p at = absurd cc
  within (x ∷ es) k zero at = omega arith
  within (x ∷ es) k (suc q) at = let rest : q < length es = within es k q (later x es k q at).1 in omega arith

  -- what stands there is what is looked up
  pub found : (es : List (ℕ × V)) (k p : ℕ) (e : ℕ × V) → place_of es k ≡ Some p → e ≡ get_or es p e → Some e.1 ≡ lookup (nat_eq k) es
  found [] k p e at is = absurd cc
  found (x ∷ es) k zero e at is = rw (first x es k at) (ap (λ (y : ℕ × V). Some y.1) is)
  found (x ∷ es) k (suc q) e at is = let rest = later x es k q at in rw rest.0 (found es k q e rest.1 is)

  -- it stands there under its number
  pub keyed : (es : List (ℕ × V)) (k p : ℕ) (e : ℕ × V) → place_of es k ≡ Some p → e ≡ get_or es p e → e.0 ≡ k
  keyed [] k p e at is = absurd cc
  keyed (x ∷ es) k zero e at is = ap (λ (y : ℕ × V). y.0) is ∙ sym (equal k x.0 (first x es k at))
  keyed (x ∷ es) k (suc q) e at is = keyed es k q e (later x es k q at).1 is

  -- where no entry has a place none is found
  pub none_found : (es : List (ℕ × V)) (k : ℕ) → place_of es k ≡ None → lookup (nat_eq k) es ≡ None
  none_found [] k at = refl
  none_found (x ∷ es) k at = let rest = nowhere x es k at in rw rest.0 (none_found es k rest.1)

  -- an entry that is there takes a value
  pub set_is : (es : List (ℕ × V)) (k p : ℕ) (v : V) → place_of es k ≡ Some p → slice_set es p (k, v) ≡ insert_entry nat_eq es k v
  set_is [] k p v at = absurd cc
  set_is (x ∷ es) k zero v at = let own = first x es k at in rw own (ap (λ (n : ℕ). (n, v) ∷ es) (equal k x.0 own))
  set_is (x ∷ es) k (suc q) v at = let rest = later x es k q at in rw rest.0 (ap (λ (ys : List (ℕ × V)). x ∷ ys) (set_is es k q v rest.1))

  -- and all stay where they were
  pub place_set : (es : List (ℕ × V)) (k p : ℕ) (v : V) → place_of es k ≡ Some p → (n : ℕ) → place_of es n ≡ place_of (slice_set es p (k, v)) n
  place_set [] k p v at n = absurd cc
  place_set (x ∷ es) k zero v at n =
      ap (λ (m : ℕ). if nat_eq n m then Some 0 else option_map (λ place. suc place) (place_of es n))
      (sym (equal k x.0 (first x es k at)))
  place_set (x ∷ es) k (suc q) v at n =
      ap (λ (o : Option ℕ). if nat_eq n x.0 then Some 0 else option_map (λ place. suc place) o)
      (place_set es k q v (later x es k q at).1 n)

  -- a new entry goes last
  pub push_is : (es : List (ℕ × V)) (k : ℕ) (v : V) → place_of es k ≡ None → es ++ (k, v) ∷ [] ≡ insert_entry nat_eq es k v
  push_is [] k v at = refl
  push_is (x ∷ es) k v at = let rest = nowhere x es k at in rw rest.0 (ap (λ (ys : List (ℕ × V)). x ∷ ys) (push_is es k v rest.1))

  -- and stands there
  pub place_push : (es : List (ℕ × V)) (k : ℕ) (v : V) → place_of es k ≡ None → (n : ℕ)
      → cond (nat_eq k n) (Some (length es)) (place_of es n) ≡ place_of (es ++ (k, v) ∷ []) n
  place_push [] k v at n = by (nat_eq k n) refl
    where
      by : (b : Bool) → nat_eq k n ≡ b → cond (nat_eq k n) (Some 0) None ≡ place_of ((k, v) ∷ []) n
      by true is = rw (swapped k n, is) refl
      by false is = rw (swapped k n, is) refl
  place_push (x ∷ es) k v at n = by (nat_eq k n) refl (nowhere x es k at).0 (place_push es k v (nowhere x es k at).1 n)
    where
      by : (b : Bool) → nat_eq k n ≡ b → nat_eq k x.0 ≡ false → cond (nat_eq k n) (Some (length es)) (place_of es n) ≡ place_of (es ++ (k, v) ∷ []) n
          → cond (nat_eq k n) (Some (length (x ∷ es))) (place_of (x ∷ es) n) ≡ place_of (x ∷ es ++ (k, v) ∷ []) n
      by true is apart rest =
          let other : nat_eq n x.0 ≡ false = subst (λ (m : ℕ). nat_eq m x.0 ≡ false) (equal k n is) apart in
          rw (is, other) (ap (option_map (λ (place : ℕ). suc place)) (rw is at rest))
      by false is apart rest = rw is (ap (λ (o : Option ℕ). if nat_eq n x.0 then Some 0 else option_map (λ place. suc place) o) (rw is at rest))

  -- what stands at a place stands where its number is led to
  pub own_place : (es : List (ℕ × V)) (p k : ℕ) (e : ℕ × V) → AreApart es → p < length es → e ≡ get_or es p e → e.0 ≡ k → place_of es k ≡ Some p
  own_place [] p k e apart low is key = absurd (omega arith)
  own_place (x ∷ es) zero k e apart low is key =
      let own : nat_eq k x.0 ≡ true = let same : x.0 ≡ k = ap (λ (y : ℕ × V). y.0) (sym is) ∙ key in grind (arith, nat_tests, same) in
      rw own refl
  own_place (x ∷ es) (suc q) k e apart low is key = by (nat_eq k x.0) refl (own_place es q k e apart.1 (omega arith) is key)
    where
      by : (b : Bool) → nat_eq k x.0 ≡ b → place_of es k ≡ Some q → place_of (x ∷ es) k ≡ Some (suc q)
      by true at rest =
          let none : place_of es k ≡ None = subst (λ (n : ℕ). place_of es n ≡ None) (sym (equal k x.0 at)) apart.0 in
          absurd cc
      by false at rest = rw (at, rest) refl

  -- an entry that takes a value stays the only one of its number
  pub apart_set : (es : List (ℕ × V)) (k p : ℕ) (v : V) → AreApart es → place_of es k ≡ Some p → AreApart (slice_set es p (k, v))
  apart_set [] k p v apart at = absurd cc
  apart_set (x ∷ es) k zero v apart at = (subst (λ (n : ℕ). place_of es n ≡ None) (sym (equal k x.0 (first x es k at))) apart.0, apart.1)
  apart_set (x ∷ es) k (suc q) v apart at =
      let rest = (later x es k q at).1 in (sym (place_set es k q v rest x.0) ∙ apart.0, apart_set es k q v apart.1 rest)

  -- and so does a new one, if there was none
  pub apart_push : (es : List (ℕ × V)) (k : ℕ) (v : V) → AreApart es → place_of es k ≡ None → AreApart (es ++ (k, v) ∷ [])
  apart_push [] k v apart at = (refl, tt)
  apart_push (x ∷ es) k v apart at =
      let rest = nowhere x es k at in
      (sym (place_push es k v rest.1 x.0) ∙ rw rest.0 apart.0, apart_push es k v apart.1 rest.1)

-- what stands at a number's place is changed there
pub change_is : {V : Type 0} (f : V → V) (es : List (ℕ × V)) (k p : ℕ) (e : ℕ × V) (v : V) → place_of es k ≡ Some p → e ≡ get_or es p e → v ≡ f e.1
    → slice_set es p (e.0, v) ≡ changed_at f es k
change_is {V} f es k p e v at is new =
    ap (λ (n : ℕ). slice_set es p (n, v)) (keyed es k p e at is)
    ∙ set_is es k p v at
    ∙ ap (λ (w : V). insert_entry nat_eq es k w) new
    ∙ ap (λ (o : Option V). option_map_or (λ w. insert_entry nat_eq es k (f w)) o es) (found es k p e at is)

-- and nothing is where no entry has it
pub no_change : {V : Type 0} (f : V → V) (es : List (ℕ × V)) (k : ℕ) → lookup (nat_eq k) es ≡ None → es ≡ changed_at f es k
no_change {V} f es k none = sym (ap (λ (o : Option V). option_map_or (λ w. insert_entry nat_eq es k (f w)) o es) none)

at_is : (n k : ℕ) → is_at (nat_cmp n) k ≡ nat_eq n k
at_is n k = search rules

-- a number is led to one more place
led : (old new : List (ℕ × Option ℕ)) (k : ℕ) (to : Option ℕ)
    → ((q : ℕ) → lookup (is_at (nat_cmp q)) new ≡ cond (is_at (nat_cmp k) q) (Some to) (lookup (is_at (nat_cmp q)) old))
    → (n : ℕ) → led_in new n ≡ cond (nat_eq k n) to (led_in old n)
led old new k to updates n = ap (λ (o : Option (Option ℕ)). option_flatten o) (updates n) ∙ by (nat_eq k n) refl
  where
    by : (b : Bool) → nat_eq k n ≡ b
        → option_flatten (cond (is_at (nat_cmp k) n) (Some to) (lookup (is_at (nat_cmp n)) old))
        ≡ cond (nat_eq k n) to (led_in old n)
    by true is = rw (at_is k n, is) refl
    by false is = rw (at_is k n, is) refl

-- a number that neither leads is among neither
nowhere_in : (o p : Option ℕ) → option_or o p ≡ None → o ≡ None
nowhere_in None p none = refl
nowhere_in (Some x) p none = absurd cc

-- one of the others is led to its place, where nothing led it before
pub led_other : (risen : List (ℕ × ℕ)) (old new : List (ℕ × Option ℕ)) (k to : ℕ)
    → ((q : ℕ) → lookup (is_at (nat_cmp q)) new ≡ cond (is_at (nat_cmp k) q) (Some (Some to)) (lookup (is_at (nat_cmp q)) old))
    → place_in risen old k ≡ None
    → (n : ℕ) → place_in risen new n ≡ cond (nat_eq k n) (Some to) (place_in risen old n)
led_other risen old new k to updates none n =
    ap (λ (o : Option ℕ). option_or (lookup (nat_eq n) risen) o) (led old new k (Some to) updates n)
    ∙ by (nat_eq k n) refl
  where
    by : (b : Bool) → nat_eq k n ≡ b
        → option_or (lookup (nat_eq n) risen) (cond (nat_eq k n) (Some to) (led_in old n))
        ≡ cond (nat_eq k n) (Some to) (option_or (lookup (nat_eq n) risen) (led_in old n))
    by true is =
        let absent : lookup (nat_eq n) risen ≡ None =
        subst (λ (m : ℕ). lookup (nat_eq m) risen ≡ None) (equal k n is)
        (nowhere_in (lookup (nat_eq k) risen) (led_in old k) none) in
        rw (is, absent) refl
    by false is = rw is refl

found_behind : (risen : List (ℕ × ℕ)) (k to n : ℕ) → lookup (nat_eq k) risen ≡ None
    → lookup (nat_eq n) (risen ++ (k, to) ∷ []) ≡ cond (nat_eq k n) (Some to) (lookup (nat_eq n) risen)
found_behind [] k to n none = by (nat_eq k n) refl
  where
    by : (b : Bool) → nat_eq k n ≡ b → lookup (nat_eq n) ((k, to) ∷ []) ≡ cond (nat_eq k n) (Some to) None
    by true is = rw (swapped k n, is) refl
    by false is = rw (swapped k n, is) refl
found_behind (x ∷ xs) k to n none = by (nat_eq k x.0) refl (nat_eq n x.0) refl (λ behind. found_behind xs k to n behind)
  where
    by : (b : Bool) → nat_eq k x.0 ≡ b → (c : Bool) → nat_eq n x.0 ≡ c
        → (lookup (nat_eq k) xs ≡ None → lookup (nat_eq n) (xs ++ (k, to) ∷ []) ≡ cond (nat_eq k n) (Some to) (lookup (nat_eq n) xs))
        → lookup (nat_eq n) (x ∷ xs ++ (k, to) ∷ []) ≡ cond (nat_eq k n) (Some to) (lookup (nat_eq n) (x ∷ xs))
    by true at c is rest = let found : lookup (nat_eq k) (x ∷ xs) ≡ Some x.1 = rw at refl in absurd cc
    by false at true is rest =
        let apart : nat_eq k n ≡ false = subst (λ (m : ℕ). nat_eq k m ≡ false) (sym (equal n x.0 is)) at in
        rw (is, apart) refl
    by false at false is rest =
        let behind : lookup (nat_eq k) xs ≡ None = rw at at none in
        rw is (rest behind)

-- a number that rises is led to its place, where nothing led it before
pub led_risen : (risen : List (ℕ × ℕ)) (others : List (ℕ × Option ℕ)) (k to : ℕ) → place_in risen others k ≡ None
    → (n : ℕ) → place_in (risen ++ (k, to) ∷ []) others n ≡ cond (nat_eq k n) (Some to) (place_in risen others n)
led_risen risen others k to none n =
    ap (λ (o : Option ℕ). option_or o (led_in others n))
    (found_behind risen k to n (nowhere_in (lookup (nat_eq k) risen) (led_in others k) none)) ∙ by (nat_eq k n)
  where
    by : (b : Bool)
        → option_or (cond b (Some to) (lookup (nat_eq n) risen)) (led_in others n)
        ≡ cond b (Some to) (option_or (lookup (nat_eq n) risen) (led_in others n))
    by true = refl
    by false = refl

-- what holds in any case holds of an error
pub on_err : {A E : Type 0} {P : Type 0} (r : Result A E) → P → OnErr r P
on_err (Ok x) p = tt
on_err (Err e) p = p

above_later : (top : Option ℕ) (k n : ℕ) → is_above top k ≡ true → k < n → is_above top n ≡ true
above_later None k n above low = refl
above_later (Some t) k n above low = grind (arith, nat_tests, above, low)

above_apart : (top : Option ℕ) (k n : ℕ) → is_above top k ≡ false → is_above top n ≡ true → nat_eq k n ≡ false
above_apart None k n not_above above = absurd cc
above_apart (Some t) k n not_above above = grind (arith, nat_tests, not_above, above)

module _ {V : Type 0} (top : Option ℕ) (risen : List (ℕ × ℕ)) (others : List (ℕ × Option ℕ)) (es : List (ℕ × V)) (are : IsPlaced top risen others es) where
  -- an entry takes a value where it stands
  pub placed_set : (k p : ℕ) (v : V) → place_of es k ≡ Some p → IsPlaced top risen others (slice_set es p (k, v))
  placed_set k p v at = record {
    leads = λ n. are.leads n ∙ place_set es k p v at n;
    rises = are.rises;
    below = are.below;
    new = λ n above. sym (place_set es k p v at n) ∙ are.new n above;
    apart = apart_set es k p v are.apart at;
  }

  -- an entry of a number that is above all goes last
  pub placed_risen : (k : ℕ) (v : V) → is_above top k ≡ true → IsPlaced (Some k) (risen ++ (k, length es) ∷ []) others (es ++ (k, v) ∷ [])
  placed_risen k v above = record {
    leads =
        λ n. led_risen risen others k (length es) (are.leads k ∙ absent) n
        ∙ ap (λ (o : Option ℕ). cond (nat_eq k n) (Some (length es)) o) (are.leads n) ∙ place_push es k v absent n;
    rises = rising_more risen (k, length es) are.rises (are.below k above);
    below = λ n is. below_more risen (k, length es) n (are.below n (above_later top k n above (higher n is))) (higher n is);
    new = λ n is. sym (place_push es k v absent n) ∙ rw (smaller_apart n (higher n is)) (are.new n (above_later top k n above (higher n is)));
    apart = apart_push es k v are.apart absent;
  }
    where
      absent : place_of es k ≡ None
      absent = are.new k above

      higher : (n : ℕ) → is_above (Some k) n ≡ true → k < n
      higher n is = grind (arith, nat_tests, is)

      smaller_apart : (n : ℕ) → k < n → nat_eq k n ≡ false
      smaller_apart n low = grind (arith, nat_tests, low)

  -- an entry of another number goes last
  pub placed_other : (new : List (ℕ × Option ℕ)) (k : ℕ) (v : V) → is_above top k ≡ false → place_of es k ≡ None
      → ((q : ℕ) → lookup (is_at (nat_cmp q)) new ≡ cond (is_at (nat_cmp k) q) (Some (Some (length es))) (lookup (is_at (nat_cmp q)) others))
      → IsPlaced top risen new (es ++ (k, v) ∷ [])
  placed_other new k v low absent updates = record {
    leads =
        λ n. led_other risen others new k (length es) updates (are.leads k ∙ absent) n
        ∙ ap (λ (o : Option ℕ). cond (nat_eq k n) (Some (length es)) o) (are.leads n) ∙ place_push es k v absent n;
    rises = are.rises;
    below = are.below;
    new = λ n above. sym (place_push es k v absent n) ∙ rw (above_apart top k n low above) (are.new n above);
    apart = apart_push es k v are.apart absent;
  }
