-- Sets of positions, and what is found among the ranges that keep one.
use Rattle.std.proofs.Common.{◌≡◌, ℕ, zero, suc, ◌+◌, ◌-◌, ◌<◌, ◌≤◌, max, Bool, true, false, ◌&&◌, ◌||◌, nat_le, nat_lt, nat_eq, List, [], ◌∷◌, refl, sym, ap}
use Rattle.std.proofs.Common.{◌∙◌, subst, arith}
use Rattle.std.proofs.lemmas.Bool.Decides.{nat_tests}
use Rattle.std.proofs.lemmas.Option.{none-some, same_Some}
use Rattle.std.specs.Prelude.{Option, None, Some, option_map, find, filter}
use Rattle.std.specs.BTreeMap.Range.{entries_between, range_contains}
use Rattle.std.specs.declared.ops.Bound.TheVariants.{Included, Excluded, Unbounded}
use Rattle.std.specs.List.{list_any, list_all, slice_get}
use Rattle.std.specs.Ordering.{nat_cmp}
use Rattle.std.specs.Cmp.{nat_cmp_total}
use Rattle.std.specs.FinSet.{FinSet, contains, contains-empty, contains-union, contains-from_list_nat}
use Rattle.streams.specs.Ranges.{counted_from, positions, span, meets, covers}
use Rattle.streams.specs.RangeEntries.{in_entries, held, AreApart, first_from, first_after, first_between}
use Rattle.streams.proofs.MarkLemmas.{or_true}

-- which positions are counted
in_counted : (from count p : ℕ) → list_any (λ y. nat_eq y p) (counted_from from count) ≡ (nat_le from p && nat_lt p (from + count))
in_counted from zero p = grind (arith, nat_tests)
in_counted from (suc count) p = rw (in_counted (suc from) count p) (grind (arith, nat_tests))

pub contains-span : (from upto p : ℕ) → contains (span from upto) p ≡ (nat_le from p && nat_lt p upto)
unfolding span
contains-span from upto p = contains-from_list_nat (positions from upto) p ∙ (in_counted from (upto - from) p ∙ grind (arith, nat_tests))

-- a test that each counted position passes, one fails, one passes, or none
pub all_counted : (f : ℕ → Bool) (from count : ℕ) → ((p : ℕ) → from ≤ p → p < from + count → f p ≡ true) → list_all f (counted_from from count) ≡ true
all_counted f from zero each = refl
all_counted f from (suc count) each =
    rw (each from (omega arith) (omega arith)) (all_counted f (suc from) count (λ p low high. each p (omega arith) (omega arith)))

none_counted : (f : ℕ → Bool) (from count : ℕ) → ((p : ℕ) → from ≤ p → p < from + count → f p ≡ false) → list_any f (counted_from from count) ≡ false
none_counted f from zero each = refl
none_counted f from (suc count) each =
    rw (each from (omega arith) (omega arith)) (none_counted f (suc from) count (λ p low high. each p (omega arith) (omega arith)))

pub counted_all : (f : ℕ → Bool) (from count : ℕ) → list_all f (counted_from from count) ≡ true → (p : ℕ) → from ≤ p → p < from + count → f p ≡ true
counted_all f from zero all p low high = absurd (omega arith)
counted_all f from (suc count) all p low high = by (f from) refl (nat_eq from p) refl (λ rest above. counted_all f (suc from) count rest p above (omega arith))
  where
    by : (b : Bool) → f from ≡ b → (c : Bool) → nat_eq from p ≡ c
        → (list_all f (counted_from (suc from) count) ≡ true → suc from ≤ p → f p ≡ true) → f p ≡ true
    by false is c here rest = absurd (let no : list_all f (counted_from from (suc count)) ≡ false = rw is refl in cc)
    by true is true here rest =
        let same : from ≡ p = grind (arith, nat_tests, here) in
        subst (λ (n : ℕ). f n ≡ true) same is
    by true is false here rest =
        let above : suc from ≤ p = grind (arith, nat_tests, here, low) in
        rest (rw is at all) above

counted_none : (f : ℕ → Bool) (from count : ℕ) → list_any f (counted_from from count) ≡ false → (p : ℕ) → from ≤ p → p < from + count → f p ≡ false
counted_none f from zero none p low high = absurd (omega arith)
counted_none f from (suc count) none p low high =
    by (f from) refl (nat_eq from p) refl (λ rest above. counted_none f (suc from) count rest p above (omega arith))
  where
    by : (b : Bool) → f from ≡ b → (c : Bool) → nat_eq from p ≡ c
        → (list_any f (counted_from (suc from) count) ≡ false → suc from ≤ p → f p ≡ false) → f p ≡ false
    by true is c here rest = absurd (let some : list_any f (counted_from from (suc count)) ≡ true = rw is refl in cc)
    by false is true here rest =
        let same : from ≡ p = grind (arith, nat_tests, here) in
        subst (λ (n : ℕ). f n ≡ false) same is
    by false is false here rest =
        let above : suc from ≤ p = grind (arith, nat_tests, here, low) in
        rest (rw is at none) above

pub not_counted : (f : ℕ → Bool) (from count p : ℕ) → from ≤ p → p < from + count → f p ≡ false → list_all f (counted_from from count) ≡ false
not_counted f from count p low high is = by (list_all f (counted_from from count)) refl
  where
    by : (b : Bool) → list_all f (counted_from from count) ≡ b → list_all f (counted_from from count) ≡ false
    by true all = absurd (let passes : f p ≡ true = counted_all f from count all p low high in cc)
    by false all = all

one_counted : (f : ℕ → Bool) (from count p : ℕ) → from ≤ p → p < from + count → f p ≡ true → list_any f (counted_from from count) ≡ true
one_counted f from count p low high is = by (list_any f (counted_from from count)) refl
  where
    by : (b : Bool) → list_any f (counted_from from count) ≡ b → list_any f (counted_from from count) ≡ true
    by false none = absurd (let fails : f p ≡ false = counted_none f from count none p low high in cc)
    by true none = none

-- what `covers` and `meets` say of each position
pub each_covers : (s : FinSet nat_cmp) (from upto : ℕ) → ((p : ℕ) → from ≤ p → p < upto → contains s p ≡ true) → covers s from upto ≡ true
unfolding covers
each_covers s from upto each = all_counted (contains s) from (upto - from) (λ p low high. each p low (omega arith))

pub covers_each : (s : FinSet nat_cmp) (from upto : ℕ) → covers s from upto ≡ true → (p : ℕ) → from ≤ p → p < upto → contains s p ≡ true
unfolding covers
covers_each s from upto all p low high = counted_all (contains s) from (upto - from) all p low (omega arith)

pub lacks_covers : (s : FinSet nat_cmp) (from upto p : ℕ) → from ≤ p → p < upto → contains s p ≡ false → covers s from upto ≡ false
unfolding covers
lacks_covers s from upto p low high is = not_counted (contains s) from (upto - from) p low (omega arith) is

pub none_meets : (s : FinSet nat_cmp) (from upto : ℕ) → ((p : ℕ) → from ≤ p → p < upto → contains s p ≡ false) → meets s from upto ≡ false
unfolding meets
none_meets s from upto each = none_counted (contains s) from (upto - from) (λ p low high. each p low (omega arith))

pub meets_none : (s : FinSet nat_cmp) (from upto : ℕ) → meets s from upto ≡ false → (p : ℕ) → from ≤ p → p < upto → contains s p ≡ false
unfolding meets
meets_none s from upto none p low high = counted_none (contains s) from (upto - from) none p low (omega arith)

pub one_meets : (s : FinSet nat_cmp) (from upto p : ℕ) → from ≤ p → p < upto → contains s p ≡ true → meets s from upto ≡ true
unfolding meets
one_meets s from upto p low high is = one_counted (contains s) from (upto - from) p low (omega arith) is

-- which positions the ranges hold
pub contains-held : (es : List (ℕ × ℕ)) (p : ℕ) → contains (held es) p ≡ in_entries es p
contains-held [] p = contains-empty nat_cmp p
contains-held (e ∷ es) p = contains-union nat_cmp_total (span e.1 e.0) (held es) p ∙ (λ i. contains-span e.1 e.0 p i || contains-held es p i)

pub in_above : (es : List (ℕ × ℕ)) (low p : ℕ) → AreApart low es → p < low → in_entries es p ≡ false
in_above [] low p h under = refl
in_above (e ∷ es) low p h under =
    let start : low ≤ e.1 = h.0 in
    let size : e.1 < e.0 = h.1 in
    let apart : (nat_le e.1 p && nat_lt p e.0) ≡ false = grind (arith, nat_tests, start, under) in
    rw apart (in_above es (suc e.0) p h.2 (omega arith))

only : (a : Bool) → ((a && true) || false) ≡ a
only true = refl
only false = refl

not_here : (a b : Bool) → ((a && false) || b) ≡ b
not_here true b = refl
not_here false b = refl

-- whether the first range that ends after a position holds it
abbrev pub begun_by : ℕ → Option (ℕ × ℕ) → Bool
begun_by p None = false
begun_by p (Some e) = nat_le e.1 p

pub in_first : (es : List (ℕ × ℕ)) (low p : ℕ) → AreApart low es → in_entries es p ≡ begun_by p (first_after p es)
in_first [] low p h = refl
in_first (e ∷ es) low p h = by (nat_lt p e.0) refl (in_first es (suc e.0) p h.2)
  where
    by : (b : Bool) → nat_lt p e.0 ≡ b → in_entries es p ≡ begun_by p (first_after p es)
        → in_entries (e ∷ es) p ≡ begun_by p (first_after p (e ∷ es))
    by true under rest =
        let below : p < suc e.0 = grind (arith, nat_tests, under) in
        rw (under, in_above es (suc e.0) p h.2 below) (only (nat_le e.1 p))
    by false above rest = rw above (not_here (nat_le e.1 p) (in_entries es p) ∙ rest)

-- what the first range that ends after a position says
pub record IsAfter (es : List (ℕ × ℕ)) (low q : ℕ) (e : ℕ × ℕ) : Type 0 where
  pub after : q < e.0
  pub size : e.1 < e.0
  pub from : low ≤ e.1
  pub before : (p : ℕ) → q ≤ p → p < e.1 → in_entries es p ≡ false
  pub inside : (p : ℕ) → e.1 ≤ p → p < e.0 → in_entries es p ≡ true
  pub gap : in_entries es e.0 ≡ false

pub is_after : (es : List (ℕ × ℕ)) (low q : ℕ) (e : ℕ × ℕ) → AreApart low es → first_after q es ≡ Some e → IsAfter es low q e
is_after [] low q e h is = absurd (none-some e is)
is_after (d ∷ es) low q e h is = by (nat_lt q d.0) refl (λ later. is_after es (suc d.0) q e h.2 later)
  where
    start : low ≤ d.1
    start = h.0

    size : d.1 < d.0
    size = h.1

    by : (b : Bool) → nat_lt q d.0 ≡ b → (first_after q es ≡ Some e → IsAfter es (suc d.0) q e) → IsAfter (d ∷ es) low q e
    by true under rest = subst (IsAfter (d ∷ es) low q) (same_Some d e (rw under at is)) (record {
      after = grind (arith, nat_tests, under);
      size = size;
      from = start;
      before = λ p high low.
          let apart : (nat_le d.1 p && nat_lt p d.0) ≡ false = grind (arith, nat_tests, low) in
          rw apart (in_above es (suc d.0) p h.2 (omega (arith, size, low)));
      inside = λ p low high.
          let here : (nat_le d.1 p && nat_lt p d.0) ≡ true = grind (arith, nat_tests, low, high) in
          rw here refl;
      gap =
          let ended : nat_lt d.0 d.0 ≡ false = grind (arith, nat_tests) in
          rw ended (not_here (nat_le d.1 d.0) (in_entries es d.0) ∙ in_above es (suc d.0) d.0 h.2 (omega arith));
    })
    by false above rest =
        let later = rest (rw above at is) in
        let begun : suc d.0 ≤ e.1 = later.from in
        let some : e.1 < e.0 = later.size in
        record {
          after = later.after;
          size = some;
          from = omega (arith, start, size, begun);
          before = λ p high low.
              let apart : (nat_le d.1 p && nat_lt p d.0) ≡ false = grind (arith, nat_tests, above, high) in
              rw apart (later.before p high low);
          inside = λ p low high. or_true (nat_le d.1 p && nat_lt p d.0) (in_entries es p) (later.inside p low high);
          gap =
              let ended : nat_lt e.0 d.0 ≡ false = grind (arith, nat_tests, begun, some) in
              rw ended (not_here (nat_le d.1 e.0) (in_entries es e.0) ∙ later.gap);
        }

-- no range ends after it
pub none_after : (es : List (ℕ × ℕ)) (q p : ℕ) → first_after q es ≡ None → q ≤ p → in_entries es p ≡ false
none_after [] q p is low = refl
none_after (d ∷ es) q p is low = by (nat_lt q d.0) refl (λ later. none_after es q p later low)
  where
    by : (b : Bool) → nat_lt q d.0 ≡ b → (first_after q es ≡ None → in_entries es p ≡ false) → in_entries (d ∷ es) p ≡ false
    by true under rest = absurd (none-some d (sym (rw under at is)))
    by false above rest =
        let apart : (nat_le d.1 p && nat_lt p d.0) ≡ false = grind (arith, nat_tests, above, low) in
        rw apart (rest (rw above at is))

-- one position, one of several, each of several
pub holds_is : (es : List (ℕ × ℕ)) (p : ℕ) → AreApart 0 es → contains (held es) p ≡ begun_by p (first_after p es)
holds_is es p h = contains-held es p ∙ in_first es 0 p h

pub meets_is : (es : List (ℕ × ℕ)) (from upto : ℕ) (e : ℕ × ℕ) → AreApart 0 es → first_after from es ≡ Some e → from < upto
    → nat_lt e.1 upto ≡ meets (held es) from upto
meets_is es from upto e h is some = by (nat_lt e.1 upto) refl (is_after es 0 from e h is)
  where
    by : (b : Bool) → nat_lt e.1 upto ≡ b → IsAfter es 0 from e → nat_lt e.1 upto ≡ meets (held es) from upto
    by true begun first =
        let high : max from e.1 < upto = grind (arith, nat_tests, begun, some) in
        let after : from < e.0 = first.after in
        let size : e.1 < e.0 = first.size in
        begun ∙ sym (one_meets (held es) from upto (max from e.1) (omega arith) high
        (contains-held es (max from e.1) ∙ first.inside (max from e.1) (omega arith) (omega (arith, after, size))))
    by false behind first =
        let above : upto ≤ e.1 = grind (arith, nat_tests, behind) in
        behind ∙ sym (none_meets (held es) from upto (λ p low high. contains-held es p ∙ first.before p low (omega (arith, high, above))))

pub meets_nothing : (es : List (ℕ × ℕ)) (from upto : ℕ) → first_after from es ≡ None → meets (held es) from upto ≡ false
meets_nothing es from upto is = none_meets (held es) from upto (λ p low high. contains-held es p ∙ none_after es from p is low)

pub meets_empty : (s : FinSet nat_cmp) (from upto : ℕ) → upto ≤ from → meets s from upto ≡ false
meets_empty s from upto none = none_meets s from upto (λ p low high. absurd (omega (arith, none, low, high)))

pub covers_is : (es : List (ℕ × ℕ)) (from upto : ℕ) (e : ℕ × ℕ) → AreApart 0 es → first_after from es ≡ Some e → from < upto
    → (nat_le e.1 from && nat_le upto e.0) ≡ covers (held es) from upto
covers_is es from upto e h is some = by (nat_le e.1 from) refl (nat_le upto e.0) refl (is_after es 0 from e h is)
  where
    by : (b : Bool) → nat_le e.1 from ≡ b → (c : Bool) → nat_le upto e.0 ≡ c → IsAfter es 0 from e
        → (nat_le e.1 from && nat_le upto e.0) ≡ covers (held es) from upto
    by false late c to first =
        let above : from < e.1 = grind (arith, nat_tests, late) in
        rw late (sym (lacks_covers (held es) from upto from (omega arith) some (contains-held es from ∙ first.before from (omega arith) above)))
    by true begun true to first =
        let low : e.1 ≤ from = grind (arith, nat_tests, begun) in
        let high : upto ≤ e.0 = grind (arith, nat_tests, to) in
        rw (begun, to) (sym (each_covers (held es) from upto (λ p above under. contains-held es p
        ∙ first.inside p (omega (arith, low, above)) (omega (arith, high, under)))))
    by true begun false short first =
        let high : e.0 < upto = grind (arith, nat_tests, short) in
        let after : from < e.0 = first.after in
        rw (begun, short) (sym (lacks_covers (held es) from upto e.0 (omega (arith, after)) high (contains-held es e.0 ∙ first.gap)))

pub covers_nothing : (es : List (ℕ × ℕ)) (from upto : ℕ) → from < upto → first_after from es ≡ None → covers (held es) from upto ≡ false
covers_nothing es from upto some is =
    lacks_covers (held es) from upto from (omega arith) some (contains-held es from ∙ none_after es from from is (omega arith))

pub covers_empty : (s : FinSet nat_cmp) (from upto : ℕ) → upto ≤ from → covers s from upto ≡ true
covers_empty s from upto none = each_covers s from upto (λ p low high. absurd (omega (arith, none, low, high)))

-- the first entry that passes a test
pub first_filtered : {X : Type 0} (t : X → Bool) (xs : List X) → slice_get (filter t xs) 0 ≡ find t xs
first_filtered t [] = refl
first_filtered {X} t (x ∷ xs) = by (t x) refl (first_filtered t xs)
  where
    by : (b : Bool) → t x ≡ b → slice_get (filter t xs) 0 ≡ find t xs → slice_get (filter t (x ∷ xs)) 0 ≡ find t (x ∷ xs)
    by true passes rest = rw passes refl
    by false fails rest = rw fails rest

from_test : (p q : ℕ) → range_contains nat_cmp (Included p) Unbounded q ≡ nat_le p q
from_test p q = grind (arith, nat_tests)

pub after_test : (p q : ℕ) → range_contains nat_cmp (Excluded p) Unbounded q ≡ nat_lt p q
after_test p q = grind (arith, nat_tests)

between_test : (low high q : ℕ) → range_contains nat_cmp (Included low) (Excluded high) q ≡ (nat_le low q && nat_lt q high)
between_test low high q = grind (arith, nat_tests)

pub first_from_is : (es r : List (ℕ × ℕ)) (p : ℕ) → r ≡ entries_between nat_cmp (Included p) Unbounded es → slice_get r 0 ≡ first_from p es
first_from_is es r p is =
    ap (λ (xs : List (ℕ × ℕ)). slice_get xs 0) is
    ∙ (first_filtered (λ e. range_contains nat_cmp (Included p) Unbounded e.0) es ∙ (λ i. find (λ e. from_test p e.0 i) es))

pub first_after_is : (es r : List (ℕ × ℕ)) (p : ℕ) → r ≡ entries_between nat_cmp (Excluded p) Unbounded es → slice_get r 0 ≡ first_after p es
first_after_is es r p is =
    ap (λ (xs : List (ℕ × ℕ)). slice_get xs 0) is
    ∙ (first_filtered (λ e. range_contains nat_cmp (Excluded p) Unbounded e.0) es ∙ (λ i. find (λ e. after_test p e.0 i) es))

pub first_between_is : {X : Type 0} (es r : List (ℕ × X)) (low high : ℕ) → r ≡ entries_between nat_cmp (Included low) (Excluded high) es
    → option_map (λ e. e.0) (slice_get r 0) ≡ first_between low high es
first_between_is {X} es r low high is =
    ap (λ (xs : List (ℕ × X)). option_map (λ (e : ℕ × X). e.0) (slice_get xs 0)) is
    ∙ (ap (λ (o : Option (ℕ × X)). option_map (λ (e : ℕ × X). e.0) o) (first_filtered (λ e. range_contains nat_cmp (Included low) (Excluded high) e.0) es)
    ∙ (λ i. option_map (λ (e : ℕ × X). e.0) (find (λ e. between_test low high e.0 i) es)))
