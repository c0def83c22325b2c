-- What single calls leave of the ranges that keep a set of positions.
use Rattle.std.proofs.Common.{◌≡◌, ℕ, suc, ◌<◌, ◌≤◌, max, Bool, true, false, ◌&&◌, nat_le, nat_lt, List, [], ◌∷◌, length, refl, sym, ap, subst, arith}
use Rattle.std.proofs.lemmas.Bool.Decides.{nat_tests}
use Rattle.std.proofs.lemmas.Option.{none-some, same_Some}
use Rattle.std.specs.Prelude.{None, Some, find, ⊤}
use Rattle.std.specs.Ordering.{nat_cmp}
use Rattle.std.specs.Cmp.{nat_cmp_is}
use Rattle.std.specs.declared.cmp.Ordering.{Ordering}
use Rattle.std.specs.declared.cmp.Ordering.TheVariants.{Less, Equal, Greater}
use Rattle.std.specs.Map.{lookup, remove_entry, set_value}
use Rattle.std.specs.BTreeMap.{is_at}
use Rattle.streams.specs.RangeEntries.{AreApart, begun_at, first_after, first_between, without}

pub cmp_less : (a b : ℕ) → a < b → nat_cmp a b ≡ Less
cmp_less a b h = sym (nat_cmp_is a b Less h)

pub cmp_greater : (a b : ℕ) → b < a → nat_cmp a b ≡ Greater
cmp_greater a b h = sym (nat_cmp_is a b Greater h)

pub cmp_same : (a : ℕ) → nat_cmp a a ≡ Equal
cmp_same a = sym (nat_cmp_is a a Equal refl)

-- ranges that ascend from a position ascend from a lower one
pub apart_low : (es : List (ℕ × ℕ)) (low lower : ℕ) → lower ≤ low → AreApart low es → AreApart lower es
apart_low [] low lower l h = tt
apart_low (e ∷ es) low lower l h = let start : low ≤ e.1 = h.0 in (omega (arith, l, start), h.1, h.2)

-- no range ends before this position
abbrev pub EndsFrom : ℕ → List (ℕ × ℕ) → Type 0
EndsFrom low [] = ⊤
EndsFrom low (e ∷ es) = low ≤ e.0

pub ends_from : (es : List (ℕ × ℕ)) (base low : ℕ) → low ≤ suc base → AreApart base es → EndsFrom low es
ends_from [] base low l h = tt
ends_from (e ∷ es) base low l h = let start : base ≤ e.1 = h.0 in let size : e.1 < e.0 = h.1 in omega (arith, l, start, size)

-- ---- one end after the other is taken out

pub between_bounds : {X : Type 0} (es : List (ℕ × X)) (low high k : ℕ) → first_between low high es ≡ Some k → (low ≤ k) × (k < high)
between_bounds [] low high k is = absurd (none-some k is)
between_bounds {X} (e ∷ es) low high k is = by (nat_le low e.0 && nat_lt e.0 high) refl (λ later. between_bounds es low high k later)
  where
    by : (b : Bool) → (nat_le low e.0 && nat_lt e.0 high) ≡ b → (first_between low high es ≡ Some k → (low ≤ k) × (k < high)) → (low ≤ k) × (k < high)
    by true here rest =
        let same : e.0 ≡ k = same_Some e.0 k (rw here at is) in
        subst (λ (n : ℕ). (low ≤ n) × (n < high)) same (grind (arith, nat_tests, here), grind (arith, nat_tests, here))
    by false other rest = rest (rw other at is)

pub without_removed : {X : Type 0} (es : List (ℕ × X)) (low high k : ℕ) → low ≤ k → k < high
    → without low high (remove_entry (is_at (nat_cmp k)) es) ≡ without low high es
without_removed [] low high k l h = refl
without_removed {X} (e ∷ es) low high k l h = by (nat_cmp k e.0) refl (without_removed es low high k l h)
  where
    passed : (b : Bool) → (nat_le low e.0 && nat_lt e.0 high) ≡ b → without low high (remove_entry (is_at (nat_cmp k)) es) ≡ without low high es
        → without low high (e ∷ remove_entry (is_at (nat_cmp k)) es) ≡ without low high (e ∷ es)
    passed true gone rest = rw gone rest
    passed false stays rest = rw stays (ap (λ (xs : List (ℕ × X)). e ∷ xs) rest)

    by : (o : Ordering) → nat_cmp k e.0 ≡ o → without low high (remove_entry (is_at (nat_cmp k)) es) ≡ without low high es
        → without low high (remove_entry (is_at (nat_cmp k)) (e ∷ es)) ≡ without low high (e ∷ es)
    by Less is rest = rw is (passed (nat_le low e.0 && nat_lt e.0 high) refl rest)
    by Greater is rest = rw is (passed (nat_le low e.0 && nat_lt e.0 high) refl rest)
    by Equal is rest =
        let gone : (nat_le low e.0 && nat_lt e.0 high) ≡ true = grind (arith, nat_tests, is, l, h) in
        rw (is, gone) refl

pub removed_shorter : {X : Type 0} (es : List (ℕ × X)) (low high k : ℕ) → first_between low high es ≡ Some k
    → length (remove_entry (is_at (nat_cmp k)) es) < length es
removed_shorter [] low high k is = absurd (none-some k is)
removed_shorter {X} (e ∷ es) low high k is = by (nat_cmp k e.0) refl (nat_le low e.0 && nat_lt e.0 high) refl (λ later. removed_shorter es low high k later)
  where
    by : (o : Ordering) → nat_cmp k e.0 ≡ o → (b : Bool) → (nat_le low e.0 && nat_lt e.0 high) ≡ b
        → (first_between low high es ≡ Some k → length (remove_entry (is_at (nat_cmp k)) es) < length es)
        → length (remove_entry (is_at (nat_cmp k)) (e ∷ es)) < length (e ∷ es)
    by Equal at b here rest = rw at (omega arith)
    by Less at true here rest = absurd (let same : e.0 ≡ k = same_Some e.0 k (rw here at is) in grind (arith, nat_tests, same, at))
    by Greater at true here rest = absurd (let same : e.0 ≡ k = same_Some e.0 k (rw here at is) in grind (arith, nat_tests, same, at))
    by Less at false other rest = let less = rest (rw other at is) in rw at (omega (arith, less))
    by Greater at false other rest = let less = rest (rw other at is) in rw at (omega (arith, less))

pub none_between : {X : Type 0} (es : List (ℕ × X)) (low high : ℕ) → first_between low high es ≡ None → without low high es ≡ es
none_between [] low high is = refl
none_between {X} (e ∷ es) low high is = by (nat_le low e.0 && nat_lt e.0 high) refl (λ later. none_between es low high later)
  where
    by : (b : Bool) → (nat_le low e.0 && nat_lt e.0 high) ≡ b → (first_between low high es ≡ None → without low high es ≡ es)
        → without low high (e ∷ es) ≡ e ∷ es
    by true here rest = absurd (none-some e.0 (sym (rw here at is)))
    by false other rest = rw other (ap (λ (xs : List (ℕ × X)). e ∷ xs) (rest (rw other at is)))

-- ---- the first range that ends after a position loses what lies below it

pub after_bound : {X : Type 0} (es : List (ℕ × X)) (p : ℕ) (e : ℕ × X) → find (λ e. nat_lt p e.0) es ≡ Some e → p < e.0
after_bound [] p e is = absurd (none-some e is)
after_bound {X} (d ∷ es) p e is = by (nat_lt p d.0) refl (after_bound es p e)
  where
    by : (b : Bool) → nat_lt p d.0 ≡ b → (find (λ e. nat_lt p e.0) es ≡ Some e → p < e.0) → p < e.0
    by true under rest = subst (λ (x : ℕ × X). p < x.0) (same_Some d e (rw under at is)) (grind (arith, nat_tests, under))
    by false above rest = rest (rw above at is)

pub after_found : {X : Type 0} (es : List (ℕ × X)) (p : ℕ) (e : ℕ × X) → find (λ e. nat_lt p e.0) es ≡ Some e
    → lookup (is_at (nat_cmp e.0)) es ≡ Some e.1
after_found [] p e is = absurd (none-some e is)
after_found {X} (d ∷ es) p e is = by (nat_lt p d.0) refl (after_bound es p e) (after_found es p e)
  where
    by : (b : Bool) → nat_lt p d.0 ≡ b → (find (λ e. nat_lt p e.0) es ≡ Some e → p < e.0)
        → (find (λ e. nat_lt p e.0) es ≡ Some e → lookup (is_at (nat_cmp e.0)) es ≡ Some e.1) → lookup (is_at (nat_cmp e.0)) (d ∷ es) ≡ Some e.1
    by true under bound rest =
        subst (λ (x : ℕ × X). lookup (is_at (nat_cmp x.0)) (d ∷ es) ≡ Some x.1) (same_Some d e (rw under at is)) (rw (cmp_same d.0) refl)
    by false above bound rest =
        let after : p < e.0 = bound (rw above at is) in
        let more : nat_cmp e.0 d.0 ≡ Greater = cmp_greater e.0 d.0 (grind (arith, nat_tests, above, after)) in
        rw more (rest (rw above at is))

pub begun_set : (es : List (ℕ × ℕ)) (p w : ℕ) (e : ℕ × ℕ) → first_after p es ≡ Some e → w ≡ max e.1 p
    → set_value (is_at (nat_cmp e.0)) es w ≡ begun_at p es
begun_set [] p w e is to = absurd (none-some e is)
begun_set (d ∷ es) p w e is to = by (nat_lt p d.0) refl (after_bound es p e) (λ later. begun_set es p w e later to)
  where
    by : (b : Bool) → nat_lt p d.0 ≡ b → (first_after p es ≡ Some e → p < e.0)
        → (first_after p es ≡ Some e → set_value (is_at (nat_cmp e.0)) es w ≡ begun_at p es)
        → set_value (is_at (nat_cmp e.0)) (d ∷ es) w ≡ begun_at p (d ∷ es)
    by true under bound rest =
        let same : d ≡ e = same_Some d e (rw under at is) in
        rw (under, to) (subst (λ (x : ℕ × ℕ). set_value (is_at (nat_cmp x.0)) (d ∷ es) (max x.1 p) ≡ (d.0, max d.1 p) ∷ es) same (rw (cmp_same d.0) refl))
    by false above bound rest =
        let after : p < e.0 = bound (rw above at is) in
        let more : nat_cmp e.0 d.0 ≡ Greater = cmp_greater e.0 d.0 (grind (arith, nat_tests, above, after)) in
        rw (above, more) (ap (λ (xs : List (ℕ × ℕ)). d ∷ xs) (rest (rw above at is)))

pub begun_none : (es : List (ℕ × ℕ)) (p : ℕ) → first_after p es ≡ None → es ≡ begun_at p es
begun_none [] p is = refl
begun_none (d ∷ es) p is = by (nat_lt p d.0) refl (begun_none es p)
  where
    by : (b : Bool) → nat_lt p d.0 ≡ b → (first_after p es ≡ None → es ≡ begun_at p es) → d ∷ es ≡ begun_at p (d ∷ es)
    by true under rest = absurd (none-some d (sym (rw under at is)))
    by false above rest = rw above (ap (λ (xs : List (ℕ × ℕ)). d ∷ xs) (rest (rw above at is)))

-- ---- ranges beyond `high` stay

pub without_above : (es : List (ℕ × ℕ)) (low high : ℕ) → AreApart high es → without low high es ≡ es
without_above [] low high h = refl
without_above (e ∷ es) low high h =
    let start : high ≤ e.1 = h.0 in
    let size : e.1 < e.0 = h.1 in
    let stays : (nat_le low e.0 && nat_lt e.0 high) ≡ false = grind (arith, nat_tests, start, size) in
    rw stays (ap (λ (xs : List (ℕ × ℕ)). e ∷ xs) (without_above es low high (apart_low es (suc e.0) high (omega (arith, start, size)) h.2)))

pub removed_above : (es : List (ℕ × ℕ)) (high : ℕ) → AreApart high es → remove_entry (is_at (nat_cmp high)) es ≡ es
removed_above [] high h = refl
removed_above (e ∷ es) high h =
    let start : high ≤ e.1 = h.0 in
    let size : e.1 < e.0 = h.1 in
    let less : nat_cmp high e.0 ≡ Less = cmp_less high e.0 (omega (arith, start, size)) in
    rw less (ap (λ (xs : List (ℕ × ℕ)). e ∷ xs) (removed_above es high (apart_low es (suc e.0) high (omega (arith, start, size)) h.2)))

pub begun_above : (es : List (ℕ × ℕ)) (high : ℕ) → AreApart high es → begun_at high es ≡ es
begun_above [] high h = refl
begun_above (e ∷ es) high h =
    let start : high ≤ e.1 = h.0 in
    let size : e.1 < e.0 = h.1 in
    let over : nat_lt high e.0 ≡ true = grind (arith, nat_tests, start, size) in
    let same : max e.1 high ≡ e.1 = omega (arith, start) in
    rw over (ap (λ (n : ℕ). (e.0, n) ∷ es) same)
