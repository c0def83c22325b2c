-- The first position of a set from one on, and the first one that isn't in it.
use Rattle.std.proofs.Common.{◌≡◌, ℕ, ◌<◌, ◌≤◌, max, min, Bool, true, false, ◌||◌, nat_le, nat_lt, nat_eq, List, [], ◌∷◌, refl, sym, ap, ◌∙◌}
use Rattle.std.proofs.Common.{subst, arith}
use Rattle.std.proofs.lemmas.Bool.Decides.{nat_tests}
use Rattle.std.proofs.lemmas.Option.{none-some, same_Some}
use Rattle.std.specs.Prelude.{None, Some, filter}
use Rattle.std.specs.List.{fold, list_any, reduce}
use Rattle.std.specs.Ordering.{eq_by_cmp, nat_cmp}
use Rattle.std.specs.Cmp.{unsigned_tied}
use Rattle.std.specs.FinSet.{FinSet, contains, contains-items, items}
use Rattle.streams.specs.Ranges.{covers, first_held, meets}
use Rattle.streams.specs.RangeEntries.{AreApart, first_after, held}
use Rattle.streams.proofs.MarkLemmas.{or_true}
use Rattle.streams.proofs.RangeLemmas.{contains-held, each_covers, is_after, none_after, none_meets}

-- ---- the least of a list's numbers from one on

has_items : (xs : List ℕ) (q : ℕ) → list_any (eq_by_cmp nat_cmp q) xs ≡ list_any (nat_eq q) xs
has_items [] q = refl
has_items (x ∷ xs) q = λ i. unsigned_tied q x i || has_items xs q i

pub contains_has : (s : FinSet nat_cmp) (q : ℕ) → contains s q ≡ list_any (nat_eq q) (items s)
contains_has s q = contains-items s q ∙ has_items (items s) q

or_none : (a b : Bool) → (a || b) ≡ false → (a ≡ false) × (b ≡ false)
or_none true b is = absurd cc
or_none false b is = (refl, is)

-- what holds of the first number, and of the others
head_apart : (x p q : ℕ) (xs : List ℕ) → ((r : ℕ) → p ≤ r → r < q → list_any (nat_eq r) (x ∷ xs) ≡ false) → p ≤ x → q ≤ x
head_apart x p q xs none low = by (nat_lt x q) refl
  where
    by : (b : Bool) → nat_lt x q ≡ b → q ≤ x
    by false over = grind (arith, nat_tests, over)
    by true under =
        let apart : nat_eq x x ≡ false = (or_none (nat_eq x x) (list_any (nat_eq x) xs) (none x low (grind (arith, nat_tests, under)))).0 in
        absurd (grind (arith, nat_tests, apart))

tail_apart : (x p q : ℕ) (xs : List ℕ) → ((r : ℕ) → p ≤ r → r < q → list_any (nat_eq r) (x ∷ xs) ≡ false)
    → (r : ℕ) → p ≤ r → r < q → list_any (nat_eq r) xs ≡ false
tail_apart x p q xs none r low high = (or_none (nat_eq r x) (list_any (nat_eq r) xs) (none r low high)).1

least_of : (xs : List ℕ) (p q a : ℕ) → p ≤ q → q ≤ a → (nat_eq q a || list_any (nat_eq q) xs) ≡ true
    → ((r : ℕ) → p ≤ r → r < q → list_any (nat_eq r) xs ≡ false) → fold min a (filter (nat_le p) xs) ≡ q
least_of [] p q a low high is none = by (nat_eq q a) refl is
  where
    by : (b : Bool) → nat_eq q a ≡ b → (b || false) ≡ true → a ≡ q
    by true same here = grind (arith, nat_tests, same)
    by false other here = absurd cc
least_of (x ∷ xs) p q a low high is none =
    by (nat_le p x) refl (nat_eq q a) refl (nat_eq q x) refl is (λ b at one. least_of xs p q b low at one (tail_apart x p q xs none))
  where
    reached : (c : Bool) → nat_eq q a ≡ c → (d : Bool) → nat_eq q x ≡ d → (c || (d || list_any (nat_eq q) xs)) ≡ true → q ≤ x
        → (nat_eq q (min a x) || list_any (nat_eq q) xs) ≡ true
    reached true at d here one over = let same : nat_eq q (min a x) ≡ true = grind (arith, nat_tests, at, high, over) in rw same refl
    reached false at true here one over = let same : nat_eq q (min a x) ≡ true = grind (arith, nat_tests, here, high, over) in rw same refl
    reached false at false here one over = or_true (nat_eq q (min a x)) (list_any (nat_eq q) xs) one

    by : (b : Bool) → nat_le p x ≡ b → (c : Bool) → nat_eq q a ≡ c → (d : Bool) → nat_eq q x ≡ d → (c || (d || list_any (nat_eq q) xs)) ≡ true
        → ((b : ℕ) → q ≤ b → (nat_eq q b || list_any (nat_eq q) xs) ≡ true → fold min b (filter (nat_le p) xs) ≡ q)
        → fold min a (filter (nat_le p) (x ∷ xs)) ≡ q
    by true begun c at d here one rest =
        let over : q ≤ x = head_apart x p q xs none (grind (arith, nat_tests, begun)) in
        rw begun (rest (min a x) (omega (arith, high, over)) (reached c at d here one over))
    by false late true at d here one rest = rw late (rest a high (ap (λ b. b || list_any (nat_eq q) xs) at))
    by false late false at true here one rest = absurd (grind (arith, nat_tests, late, here, low))
    by false late false at false here one rest = rw late (rest a high (or_true (nat_eq q a) (list_any (nat_eq q) xs) one))

least_is : (xs : List ℕ) (p q : ℕ) → p ≤ q → list_any (nat_eq q) xs ≡ true → ((r : ℕ) → p ≤ r → r < q → list_any (nat_eq r) xs ≡ false)
    → reduce min (filter (nat_le p) xs) ≡ Some q
least_is [] p q low is none = absurd cc
least_is (x ∷ xs) p q low is none = by (nat_le p x) refl (nat_eq q x) refl is (λ one. least_is xs p q low one (tail_apart x p q xs none))
  where
    by : (b : Bool) → nat_le p x ≡ b → (c : Bool) → nat_eq q x ≡ c → (c || list_any (nat_eq q) xs) ≡ true
        → (list_any (nat_eq q) xs ≡ true → reduce min (filter (nat_le p) xs) ≡ Some q) → reduce min (filter (nat_le p) (x ∷ xs)) ≡ Some q
    by true begun c at one rest =
        let over : q ≤ x = head_apart x p q xs none (grind (arith, nat_tests, begun)) in
        rw begun (ap (λ n. Some n)
        (least_of xs p q x low over (ap (λ b. b || list_any (nat_eq q) xs) at ∙ one) (tail_apart x p q xs none)))
    by false late true at one rest = absurd (grind (arith, nat_tests, late, at, low))
    by false late false at one rest = rw late (rest one)

none_least : (xs : List ℕ) (p : ℕ) → ((r : ℕ) → p ≤ r → list_any (nat_eq r) xs ≡ false) → reduce min (filter (nat_le p) xs) ≡ None
none_least [] p none = refl
none_least (x ∷ xs) p none = by (nat_le p x) refl (none_least xs p (λ r low. (or_none (nat_eq r x) (list_any (nat_eq r) xs) (none r low)).1))
  where
    by : (b : Bool) → nat_le p x ≡ b → reduce min (filter (nat_le p) xs) ≡ None → reduce min (filter (nat_le p) (x ∷ xs)) ≡ None
    by true begun rest =
        let apart : nat_eq x x ≡ false = (or_none (nat_eq x x) (list_any (nat_eq x) xs) (none x (grind (arith, nat_tests, begun)))).0 in
        absurd (grind (arith, nat_tests, apart))
    by false late rest = rw late rest

-- ---- the first position of a set

pub first_held_is : (s : FinSet nat_cmp) (p q : ℕ) → p ≤ q → contains s q ≡ true → ((r : ℕ) → p ≤ r → r < q → contains s r ≡ false)
    → first_held s p ≡ Some q
unfolding first_held
first_held_is s p q low is none =
    least_is (items s) p q low (sym (contains_has s q) ∙ is) (λ r from under. sym (contains_has s r) ∙ none r from under)

pub none_held : (s : FinSet nat_cmp) (p : ℕ) → ((r : ℕ) → p ≤ r → contains s r ≡ false) → first_held s p ≡ None
unfolding first_held
none_held s p none = none_least (items s) p (λ r low. sym (contains_has s r) ∙ none r low)

-- the same from what is first
pub record IsFirst (s : FinSet nat_cmp) (p q : ℕ) : Type 0 where
  pub from : p ≤ q
  pub held : contains s q ≡ true
  pub before : (r : ℕ) → p ≤ r → r < q → contains s r ≡ false

record Found (p q a : ℕ) (xs : List ℕ) : Type 0 where
  from : p ≤ q
  under : q ≤ a
  one : (nat_eq q a || list_any (nat_eq q) xs) ≡ true
  none : (r : ℕ) → p ≤ r → r < q → list_any (nat_eq r) xs ≡ false

least_found : (xs : List ℕ) (p q a : ℕ) → p ≤ a → fold min a (filter (nat_le p) xs) ≡ q → Found p q a xs
least_found [] p q a low is =
    let same : a ≡ q = is in
    let here : nat_eq q a ≡ true = grind (arith, nat_tests, same) in
    record { from = omega (arith, low, same); under = omega (arith, same); one = rw here refl; none = λ r from under. refl }
least_found (x ∷ xs) p q a low is = by (nat_le p x) refl (λ b over. least_found xs p q b over)
  where
    one_of : (c d m : Bool) → nat_eq q a ≡ c → nat_eq q x ≡ d → (nat_eq q (min a x) || m) ≡ true → (c || (d || m)) ≡ true
    one_of true d m at here one = refl
    one_of false true m at here one = refl
    one_of false false m at here one =
        let other : nat_eq q (min a x) ≡ false = grind (arith, nat_tests, at, here) in
        rw other at one

    kept : (c m : Bool) → (c || m) ≡ true → (c || (nat_eq q x || m)) ≡ true
    kept true m one = refl
    kept false m one = or_true (nat_eq q x) m one

    by : (b : Bool) → nat_le p x ≡ b → ((b : ℕ) → p ≤ b → fold min b (filter (nat_le p) xs) ≡ q → Found p q b xs) → Found p q a (x ∷ xs)
    by true begun rest =
        let over : p ≤ x = grind (arith, nat_tests, begun) in
        let later = rest (min a x) (omega (arith, low, over)) (rw begun at is) in
        let high : q ≤ min a x = later.under in
        record {
          from = later.from;
          under = omega (arith, high);
          one = one_of (nat_eq q a) (nat_eq q x) (list_any (nat_eq q) xs) refl refl later.one;
          none = λ r from under.
              let other : nat_eq r x ≡ false = grind (arith, nat_tests, under, high) in
              rw other (later.none r from under);
        }
    by false late rest =
        let later = rest a low (rw late at is) in
        record {
          from = later.from;
          under = later.under;
          one = kept (nat_eq q a) (list_any (nat_eq q) xs) later.one;
          none = λ r from under.
              let other : nat_eq r x ≡ false = grind (arith, nat_tests, late, from) in
              rw other (later.none r from under);
        }

record FirstOf (p q : ℕ) (xs : List ℕ) : Type 0 where
  from : p ≤ q
  one : list_any (nat_eq q) xs ≡ true
  none : (r : ℕ) → p ≤ r → r < q → list_any (nat_eq r) xs ≡ false

first_found : (xs : List ℕ) (p q : ℕ) → reduce min (filter (nat_le p) xs) ≡ Some q → FirstOf p q xs
first_found [] p q is = absurd (none-some q is)
first_found (x ∷ xs) p q is = by (nat_le p x) refl (λ later. first_found xs p q later)
  where
    by : (b : Bool) → nat_le p x ≡ b → (reduce min (filter (nat_le p) xs) ≡ Some q → FirstOf p q xs) → FirstOf p q (x ∷ xs)
    by true begun rest =
        let over : p ≤ x = grind (arith, nat_tests, begun) in
        let later = least_found xs p q x over (same_Some (fold min x (filter (nat_le p) xs)) q (rw begun at is)) in
        let high : q ≤ x = later.under in
        record {
          from = later.from;
          one = later.one;
          none = λ r from under.
              let other : nat_eq r x ≡ false = grind (arith, nat_tests, under, high) in
              rw other (later.none r from under);
        }
    by false late rest =
        let later = rest (rw late at is) in
        record {
          from = later.from;
          one = or_true (nat_eq q x) (list_any (nat_eq q) xs) later.one;
          none = λ r from under.
              let other : nat_eq r x ≡ false = grind (arith, nat_tests, late, from) in
              rw other (later.none r from under);
        }

none_found : (xs : List ℕ) (p r : ℕ) → reduce min (filter (nat_le p) xs) ≡ None → p ≤ r → list_any (nat_eq r) xs ≡ false
none_found [] p r is low = refl
none_found (x ∷ xs) p r is low = by (nat_le p x) refl (λ later. none_found xs p r later low)
  where
    by : (b : Bool) → nat_le p x ≡ b → (reduce min (filter (nat_le p) xs) ≡ None → list_any (nat_eq r) xs ≡ false)
        → (nat_eq r x || list_any (nat_eq r) xs) ≡ false
    by true begun rest = absurd (none-some (fold min x (filter (nat_le p) xs)) (sym (rw begun at is)))
    by false late rest = let other : nat_eq r x ≡ false = grind (arith, nat_tests, late, low) in rw other (rest (rw late at is))

pub is_first : (s : FinSet nat_cmp) (p q : ℕ) → first_held s p ≡ Some q → IsFirst s p q
unfolding first_held
is_first s p q is =
    let found = first_found (items s) p q is in
    record {
      from = found.from;
      held = contains_has s q ∙ found.one;
      before = λ r low high. contains_has s r ∙ found.none r low high;
    }

pub not_held : (s : FinSet nat_cmp) (p r : ℕ) → first_held s p ≡ None → p ≤ r → contains s r ≡ false
unfolding first_held
not_held s p r is low = contains_has s r ∙ none_found (items s) p r is low

-- ---- the ranges that keep a set

pub next_is : (es : List (ℕ × ℕ)) (p : ℕ) (e : ℕ × ℕ) → AreApart 0 es → first_after p es ≡ Some e → first_held (held es) p ≡ Some (max e.1 p)
next_is es p e h is =
    let first = is_after es 0 p e h is in
    let after : p < e.0 = first.after in
    let size : e.1 < e.0 = first.size in
    first_held_is (held es) p (max e.1 p) (omega arith)
    (contains-held es (max e.1 p) ∙ first.inside (max e.1 p) (omega arith) (omega (arith, after, size)))
    (λ r low high. contains-held es r ∙ first.before r low (omega (arith, low, high)))

pub next_none : (es : List (ℕ × ℕ)) (p : ℕ) → first_after p es ≡ None → first_held (held es) p ≡ None
next_none es p is = none_held (held es) p (λ r low. contains-held es r ∙ none_after es p r is low)

-- the first position that isn't held
pub record IsMissing (s : FinSet nat_cmp) (p q : ℕ) : Type 0 where
  pub from : p ≤ q
  pub missing : contains s q ≡ false
  pub held : covers s p q ≡ true

pub missing_behind : (es : List (ℕ × ℕ)) (p : ℕ) (e : ℕ × ℕ) → AreApart 0 es → first_after p es ≡ Some e → e.1 ≤ p → IsMissing (held es) p e.0
missing_behind es p e h is begun =
    let first = is_after es 0 p e h is in
    let after : p < e.0 = first.after in
    record {
      from = omega (arith, after);
      missing = contains-held es e.0 ∙ first.gap;
      held = each_covers (held es) p e.0 (λ r low high. contains-held es r ∙ first.inside r (omega (arith, begun, low)) high);
    }

missing_at : (s : FinSet nat_cmp) (p : ℕ) → contains s p ≡ false → IsMissing s p p
missing_at s p is = record {
  from = omega arith;
  missing = is;
  held = each_covers s p p (λ r low high. absurd (omega (arith, low, high)));
}

pub missing_before : (es : List (ℕ × ℕ)) (p : ℕ) (e : ℕ × ℕ) → AreApart 0 es → first_after p es ≡ Some e → p < e.1 → IsMissing (held es) p p
missing_before es p e h is late = missing_at (held es) p (contains-held es p ∙ (is_after es 0 p e h is).before p (omega arith) late)

pub missing_here : (es : List (ℕ × ℕ)) (p : ℕ) → first_after p es ≡ None → IsMissing (held es) p p
missing_here es p is = missing_at (held es) p (contains-held es p ∙ none_after es p p is (omega arith))

-- ---- what lies between a position that isn't held and the next one that is

pub first_later : (s : FinSet nat_cmp) (p q : ℕ) → first_held s p ≡ Some q → contains s p ≡ false → p < q
first_later s p q is missing = by (nat_eq p q) refl (is_first s p q is)
  where
    by : (b : Bool) → nat_eq p q ≡ b → IsFirst s p q → p < q
    by true same first =
        let here : q ≡ p = grind (arith, nat_tests, same) in
        absurd (let also : contains s p ≡ true = subst (λ (n : ℕ). contains s n ≡ true) here first.held in cc)
    by false other first = let from : p ≤ q = first.from in grind (arith, nat_tests, other, from)

pub untold_before : (s : FinSet nat_cmp) (p q n : ℕ) → first_held s p ≡ Some q → n ≤ q → meets s p n ≡ false
untold_before s p q n is high = none_meets s p n (λ r low under. (is_first s p q is).before r low (omega (arith, under, high)))

pub untold_all : (s : FinSet nat_cmp) (p n : ℕ) → first_held s p ≡ None → meets s p n ≡ false
untold_all s p n is = none_meets s p n (λ r low under. not_held s p r is low)
