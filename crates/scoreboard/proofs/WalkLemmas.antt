-- What is in flight, one after the other, and run by run.
use Rattle.std.proofs.Common.{◌≡◌, ℕ, zero, suc, ◌+◌, ◌-◌, ◌<◌, Bool, true, false, nat_le, nat_lt, nat_eq, List, [], ◌∷◌, ◌++◌, refl, sym, ap, ◌∙◌, arith}
use Rattle.std.proofs.Common.{min, if◌then◌else◌}
use Rattle.std.proofs.lemmas.Bool.Decides.{nat_tests}
use Rattle.std.proofs.lemmas.List.Folds.{list_any-append}
use Rattle.std.specs.Prelude.{Option, None, Some, ◌&&◌, ◌||◌}
use Rattle.std.specs.Cmp.{nat_cmp_total}
use Rattle.std.specs.FinSet.{FinSet, contains, contains-from_list_nat, contains-union, from_list, nat_cmp-IsAntisymmetric, same_set, union}
use Rattle.std.specs.List.{list_any, zip}
use Rattle.std.specs.Ordering.{nat_cmp}
use Rattle.streams.specs.Flying.{run_of}
use Rattle.streams.specs.Pieces.{alike}
use Rattle.streams.specs.Ranges.{counted_from, span}
use Rattle.streams.specs.declared.flying.Run.{Run}
use Rattle.streams.specs.declared.outstanding.Outstanding.{Outstanding}
use Rattle.streams.proofs.RangeLemmas.{contains-span}
use Rattle.spec_flights.specs.Delivered.{ends_among, is_later, is_plausible, latest_after, latest_by, least_after, least_by}
use Rattle.spec_flights.specs.declared.making.Latest.{Latest}

-- this many positions from this one on that are alike
abbrev several : (from count : ℕ) → Outstanding → List (ℕ × Outstanding)
several from count x = zip (counted_from from count) (alike x count)

-- ---- a test

module _ (number : ℕ) where
  any_of : (from count : ℕ) (x : Outstanding) → list_any (λ y. nat_lt y.1.number number) (several from (suc count) x) ≡ nat_lt x.number number
  any_of from zero x = by (nat_lt x.number number)
    where
      by : (b : Bool) → (b || false) ≡ b
      by true = refl
      by false = refl
  any_of from (suc count) x = rw (any_of (suc from) count x) (by (nat_lt x.number number))
    where
      by : (b : Bool) → (b || b) ≡ b
      by true = refl
      by false = refl

  pub any_run : (run : Run) (rest : List (ℕ × Outstanding)) → run.from < run.upto
      → list_any (λ y. nat_lt y.1.number number) (run_of run ++ rest) ≡ (nat_lt run.state.number number || list_any (λ y. nat_lt y.1.number number) rest)
  any_run run rest some =
      list_any-append (λ y. nat_lt y.1.number number) (run_of run) rest
      ∙ ap (λ (b : Bool). b || list_any (λ y. nat_lt y.1.number number) rest) (by (run.upto - run.from) refl)
    where
      by : (count : ℕ) → run.upto - run.from ≡ count → list_any (λ y. nat_lt y.1.number number) (several run.from count run.state)
          ≡ nat_lt run.state.number number
      by zero is = absurd (omega (arith, is, some))
      by (suc count) is = any_of run.from count run.state

-- ---- the least round trip

module _ (moment : ℕ) where
  least_again : (x : Outstanding) (least : Option ℕ) → least_by moment x (least_by moment x least) ≡ least_by moment x least
  least_again x least = by x.again refl least
    where
      twice : (a b : ℕ) → min a (min a b) ≡ min a b
      twice a b = omega arith

      once : (a : ℕ) → min a a ≡ a
      once a = omega arith

      by : (b : Bool) → x.again ≡ b → (l : Option ℕ) → least_by moment x (least_by moment x l) ≡ least_by moment x l
      by true is l = rw is refl
      by false is None = rw is (ap (λ (n : ℕ). Some n) (once (moment - x.moment)))
      by false is (Some l) = rw is (ap (λ (n : ℕ). Some n) (twice (moment - x.moment) l))

  pub least_append : (least : Option ℕ) (xs ys : List (ℕ × Outstanding)) → least_after moment least (xs ++ ys)
      ≡ least_after moment (least_after moment least xs) ys
  least_append least [] ys = refl
  least_append least (x ∷ xs) ys = least_append (least_by moment x.1 least) xs ys

  least_of : (least : Option ℕ) (from count : ℕ) (x : Outstanding) → least_after moment least (several from (suc count) x) ≡ least_by moment x least
  least_of least from zero x = refl
  least_of least from (suc count) x = least_of (least_by moment x least) (suc from) count x ∙ least_again x least

  pub least_run : (least : Option ℕ) (run : Run) (rest : List (ℕ × Outstanding)) → run.from < run.upto
      → least_after moment least (run_of run ++ rest) ≡ least_after moment (least_by moment run.state least) rest
  least_run least run rest some =
      least_append least (run_of run) rest ∙ ap (λ l. least_after moment l rest) (by (run.upto - run.from) refl)
    where
      by : (count : ℕ) → run.upto - run.from ≡ count → least_after moment least (several run.from count run.state) ≡ least_by moment run.state least
      by zero is = absurd (omega (arith, is, some))
      by (suc count) is = least_of least run.from count run.state

-- ---- what was delivered and built last

module _ (moment : ℕ) (least : Option ℕ) where
  latest_again : (x : Outstanding) (latest : Option Latest) → latest_by moment least x (latest_by moment least x latest) ≡ latest_by moment least x latest
  latest_again x latest = by (is_plausible moment least x) refl (is_later x latest) refl
    where
      not_later : is_later x (Some (record { number = x.number; round_trip = moment - x.moment })) ≡ false
      not_later = grind (arith, nat_tests)

      by : (b : Bool) → is_plausible moment least x ≡ b → (c : Bool) → is_later x latest ≡ c
          → latest_by moment least x (latest_by moment least x latest) ≡ latest_by moment least x latest
      by true is true later = rw (is, later, not_later) refl
      by true is false later = rw (is, later, later) refl
      by false is c later = rw is refl

  pub latest_append : (latest : Option Latest) (xs ys : List (ℕ × Outstanding))
      → latest_after moment least latest (xs ++ ys) ≡ latest_after moment least (latest_after moment least latest xs) ys
  latest_append latest [] ys = refl
  latest_append latest (x ∷ xs) ys = latest_append (latest_by moment least x.1 latest) xs ys

  latest_of : (latest : Option Latest) (from count : ℕ) (x : Outstanding) → latest_after moment least latest (several from (suc count) x)
      ≡ latest_by moment least x latest
  latest_of latest from zero x = refl
  latest_of latest from (suc count) x = latest_of (latest_by moment least x latest) (suc from) count x ∙ latest_again x latest

  pub latest_run : (latest : Option Latest) (run : Run) (rest : List (ℕ × Outstanding)) → run.from < run.upto
      → latest_after moment least latest (run_of run ++ rest) ≡ latest_after moment least (latest_by moment least run.state latest) rest
  latest_run latest run rest some =
      latest_append latest (run_of run) rest ∙ ap (λ l. latest_after moment least l rest) (by (run.upto - run.from) refl)
    where
      by : (count : ℕ) → run.upto - run.from ≡ count → latest_after moment least latest (several run.from count run.state)
          ≡ latest_by moment least run.state latest
      by zero is = absurd (omega (arith, is, some))
      by (suc count) is = latest_of latest run.from count run.state

-- ---- where segments end

ends_append : (xs ys : List (ℕ × Outstanding)) → ends_among (xs ++ ys) ≡ ends_among xs ++ ends_among ys
ends_append [] ys = refl
ends_append (x ∷ xs) ys = ap (λ (es : List ℕ). if x.1.last then x.0 ∷ es else es) (ends_append xs ys) ∙ by x.1.last
  where
    by : (b : Bool) → (if b then x.0 ∷ ends_among xs ++ ends_among ys else ends_among xs ++ ends_among ys)
        ≡ (if b then x.0 ∷ ends_among xs else ends_among xs) ++ ends_among ys
    by true = refl
    by false = refl

ends_of : (from count upto : ℕ) (x : Outstanding) → suc upto ≡ from + suc count → ends_among (several from (suc count) x) ≡ (if x.last then upto ∷ [] else [])
ends_of from zero upto x is = let same : from ≡ upto = omega (arith, is) in ap (λ (p : ℕ). if x.last then p ∷ [] else []) same
ends_of from (suc count) upto x is = ends_of (suc from) count upto x (omega (arith, is))

ends_run : (run : Run) (rest : List (ℕ × Outstanding)) → run.from < run.upto
    → ends_among (run_of run ++ rest) ≡ (if run.state.last then (run.upto - 1) ∷ [] else []) ++ ends_among rest
ends_run run rest some =
    ends_append (run_of run) rest ∙ ap (λ (es : List ℕ). es ++ ends_among rest) (by (run.upto - run.from) refl)
  where
    by : (count : ℕ) → run.upto - run.from ≡ count → ends_among (several run.from count run.state) ≡ (if run.state.last then (run.upto - 1) ∷ [] else [])
    by zero is = absurd (omega (arith, is, some))
    by (suc count) is = ends_of run.from count (run.upto - 1) run.state (omega (arith, is, some))

pub no_end : (run : Run) (rest : List (ℕ × Outstanding)) → run.from < run.upto → run.state.last ≡ false → ends_among (run_of run ++ rest) ≡ ends_among rest
no_end run rest some is = ends_run run rest some ∙ ap (λ (b : Bool). (if b then (run.upto - 1) ∷ [] else []) ++ ends_among rest) is

pub an_end : (run : Run) (rest : List (ℕ × Outstanding)) → run.from < run.upto → run.state.last ≡ true
    → ends_among (run_of run ++ rest) ≡ (run.upto - 1) ∷ ends_among rest
an_end run rest some is = ends_run run rest some ∙ ap (λ (b : Bool). (if b then (run.upto - 1) ∷ [] else []) ++ ends_among rest) is

-- the same as sets
in_several : (held : FinSet nat_cmp) (ends : List ℕ) (p : ℕ) → contains (union held (from_list ends)) p ≡ (contains held p || list_any (λ q. nat_eq q p) ends)
in_several held ends p = contains-union nat_cmp_total held (from_list ends) p ∙ ap (λ (b : Bool). contains held p || b) (contains-from_list_nat ends p)

pub no_ends : (held : FinSet nat_cmp) → union held (from_list []) ≡ held
no_ends held = same_set nat_cmp_total nat_cmp-IsAntisymmetric _ _ (λ p. in_several held [] p ∙ by (contains held p))
  where
    by : (b : Bool) → (b || false) ≡ b
    by true = refl
    by false = refl

pub more_ends : (held : FinSet nat_cmp) (upto : ℕ) (ends : List ℕ) → 0 < upto
    → union (union held (span (upto - 1) upto)) (from_list ends) ≡ union held (from_list ((upto - 1) ∷ ends))
more_ends held upto ends some = same_set nat_cmp_total nat_cmp-IsAntisymmetric _ _ (λ p.
    in_several (union held (span (upto - 1) upto)) ends p
    ∙ ap (λ (b : Bool). b || list_any (λ q. nat_eq q p) ends)
    (contains-union nat_cmp_total held (span (upto - 1) upto) p ∙ ap (λ (b : Bool). contains held p || b) (contains-span (upto - 1) upto p ∙ here p))
    ∙ by (contains held p) (nat_eq (upto - 1) p) (list_any (λ q. nat_eq q p) ends)
    ∙ sym (in_several held ((upto - 1) ∷ ends) p))
  where
    here : (p : ℕ) → (nat_le (upto - 1) p && nat_lt p upto) ≡ nat_eq (upto - 1) p
    here p = grind (arith, nat_tests, some)

    by : (a b c : Bool) → ((a || b) || c) ≡ (a || (b || c))
    by true b c = refl
    by false b c = refl
