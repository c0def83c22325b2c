-- What is left once positions were removed.
use Rattle.std.proofs.Common.{◌≡◌, ℕ, suc, ◌<◌, ◌≤◌, max, Bool, true, false, not, ◌&&◌, ◌||◌, nat_le, nat_lt, List, [], ◌∷◌, refl, sym, ap, ◌∙◌, subst, arith}
use Rattle.std.proofs.lemmas.Bool.Decides.{nat_tests}
use Rattle.std.specs.Prelude.{Option, None, Some}
use Rattle.std.specs.Ordering.{nat_cmp}
use Rattle.std.specs.Cmp.{nat_cmp_is, nat_cmp_total}
use Rattle.std.specs.declared.cmp.Ordering.{Ordering}
use Rattle.std.specs.declared.cmp.Ordering.TheVariants.{Less, Equal, Greater}
use Rattle.std.specs.Map.{remove_entry}
use Rattle.std.specs.BTreeMap.{is_at}
use Rattle.std.specs.FinSet.{FinSet, contains, difference, same_set, contains-difference, nat_cmp-IsAntisymmetric}
use Rattle.streams.specs.Ranges.{span}
use Rattle.streams.specs.RangeEntries.{in_entries, held, AreApart, first_after, without, lower_by, with_lower, begun_at, cleared}
use Rattle.streams.proofs.RangeLemmas.{contains-span, contains-held, in_above, is_after}
use Rattle.streams.proofs.RangeEdits.{cmp_less, cmp_greater, apart_low, EndsFrom, ends_from, without_above, removed_above, begun_above}

-- ---- what `cleared` makes of the first range

cleared_kept : (e : ℕ × ℕ) (es : List (ℕ × ℕ)) (low high : ℕ) → e.0 < low → e.0 < high → cleared low high (e ∷ es) ≡ e ∷ cleared low high es
cleared_kept e es low high below under =
    let stays : (nat_le low e.0 && nat_lt e.0 high) ≡ false = grind (arith, nat_tests, below) in
    let more : nat_cmp high e.0 ≡ Greater = cmp_greater high e.0 under in
    let passed : nat_lt high e.0 ≡ false = grind (arith, nat_tests, under) in
    rw (stays, more, passed) refl

cleared_below : (e : ℕ × ℕ) (es : List (ℕ × ℕ)) (low high : ℕ) → low ≤ e.0 → e.0 < high → cleared low high (e ∷ es) ≡ cleared low high es
cleared_below e es low high from under =
    let gone : (nat_le low e.0 && nat_lt e.0 high) ≡ true = grind (arith, nat_tests, from, under) in
    rw gone refl

cleared_at : (e : ℕ × ℕ) (es : List (ℕ × ℕ)) (low high : ℕ) → high ≡ e.0 → AreApart (suc e.0) es → cleared low high (e ∷ es) ≡ es
cleared_at e es low high at h =
    let stays : (nat_le low e.0 && nat_lt e.0 high) ≡ false = grind (arith, nat_tests, at) in
    let same : nat_cmp high e.0 ≡ Equal = sym (nat_cmp_is high e.0 Equal at) in
    let rest : AreApart high es = apart_low es (suc e.0) high (omega (arith, at)) h in
    rw (stays, same, without_above es low high rest) (begun_above es high rest)

cleared_over : (e : ℕ × ℕ) (es : List (ℕ × ℕ)) (low high : ℕ) → high < e.0 → AreApart (suc e.0) es
    → cleared low high (e ∷ es) ≡ (e.0, max e.1 high) ∷ es
cleared_over e es low high over h =
    let stays : (nat_le low e.0 && nat_lt e.0 high) ≡ false = grind (arith, nat_tests, over) in
    let less : nat_cmp high e.0 ≡ Less = cmp_less high e.0 over in
    let passed : nat_lt high e.0 ≡ true = grind (arith, nat_tests, over) in
    let rest : AreApart high es = apart_low es (suc e.0) high (omega (arith, over)) h in
    rw (stays, less, without_above es low high rest, removed_above es high rest, passed) refl

-- ---- what they hold, where `x` says whether the others do

above : (es : List (ℕ × ℕ)) (low p : ℕ) → AreApart low es → in_entries es p ≡ true → low ≤ p
above es low p h is = by (nat_lt p low) refl
  where
    by : (b : Bool) → nat_lt p low ≡ b → low ≤ p
    by true under = absurd (let none : in_entries es p ≡ false = in_above es low p h (grind (arith, nat_tests, under)) in cc)
    by false over = grind (arith, nat_tests, over)

lost_below : (end start high p : ℕ) (x : Bool) → end < high → (x && nat_le high p) ≡ (((nat_le start p && nat_lt p end) || x) && nat_le high p)
lost_below end start high p true under = grind (arith, nat_tests, under)
lost_below end start high p false under = grind (arith, nat_tests, under)

lost_at : (end start high p : ℕ) (x : Bool) → high ≡ end → (x ≡ true → suc end ≤ p) → x ≡ (((nat_le start p && nat_lt p end) || x) && nat_le high p)
lost_at end start high p true at after = let low : suc end ≤ p = after refl in grind (arith, nat_tests, at, low)
lost_at end start high p false at after = grind (arith, nat_tests, at)

lost_over : (end start high p : ℕ) (x : Bool) → high < end → (x ≡ true → suc end ≤ p)
    → ((nat_le (max start high) p && nat_lt p end) || x) ≡ (((nat_le start p && nat_lt p end) || x) && nat_le high p)
lost_over end start high p true over after = let low : suc end ≤ p = after refl in grind (arith, nat_tests, over, low)
lost_over end start high p false over after = grind (arith, nat_tests, over)

pub cleared_is : (es : List (ℕ × ℕ)) (base low high p : ℕ) → AreApart base es → EndsFrom low es
    → in_entries (cleared low high es) p ≡ (in_entries es p && nat_le high p)
cleared_is [] base low high p h ends = refl
cleared_is (e ∷ es) base low high p h ends =
    by (nat_cmp high e.0) refl (cleared_is es (suc e.0) low high p h.2 (ends_from es (suc e.0) low (omega (arith, ends)) h.2)) (above es (suc e.0) p h.2)
  where
    by : (o : Ordering) → nat_cmp high e.0 ≡ o → in_entries (cleared low high es) p ≡ (in_entries es p && nat_le high p)
        → (in_entries es p ≡ true → suc e.0 ≤ p)
        → in_entries (cleared low high (e ∷ es)) p ≡ (in_entries (e ∷ es) p && nat_le high p)
    by Greater at rest after =
        let under : e.0 < high = grind (arith, nat_tests, at) in
        ap (λ (xs : List (ℕ × ℕ)). in_entries xs p) (cleared_below e es low high ends under) ∙ (rest ∙ lost_below e.0 e.1 high p (in_entries es p) under)
    by Equal at rest after =
        let same : high ≡ e.0 = grind (arith, nat_tests, at) in
        ap (λ (xs : List (ℕ × ℕ)). in_entries xs p) (cleared_at e es low high same h.2) ∙ lost_at e.0 e.1 high p (in_entries es p) same after
    by Less at rest after =
        let over : high < e.0 = grind (arith, nat_tests, at) in
        ap (λ (xs : List (ℕ × ℕ)). in_entries xs p) (cleared_over e es low high over h.2) ∙ lost_over e.0 e.1 high p (in_entries es p) over after

pub cleared_apart : (es : List (ℕ × ℕ)) (base low high bound : ℕ) → AreApart base es → EndsFrom low es → bound ≤ max base high
    → AreApart bound (cleared low high es)
cleared_apart [] base low high bound h ends at = tt
cleared_apart (e ∷ es) base low high bound h ends at =
    by (nat_cmp high e.0) refl (cleared_apart es (suc e.0) low high bound h.2 (ends_from es (suc e.0) low (omega (arith, ends)) h.2))
  where
    start : base ≤ e.1
    start = h.0

    size : e.1 < e.0
    size = h.1

    by : (o : Ordering) → nat_cmp high e.0 ≡ o → (bound ≤ max (suc e.0) high → AreApart bound (cleared low high es))
        → AreApart bound (cleared low high (e ∷ es))
    by Greater is rest =
        let under : e.0 < high = grind (arith, nat_tests, is) in
        subst (AreApart bound) (sym (cleared_below e es low high ends under)) (rest (omega (arith, at, start, size, under)))
    by Equal is rest =
        let same : high ≡ e.0 = grind (arith, nat_tests, is) in
        subst (AreApart bound) (sym (cleared_at e es low high same h.2)) (apart_low es (suc e.0) bound (omega (arith, at, start, size, same)) h.2)
    by Less is rest =
        let over : high < e.0 = grind (arith, nat_tests, is) in
        subst (AreApart bound) (sym (cleared_over e es low high over h.2)) (omega (arith, at, start), omega (arith, size, over), h.2)

-- ---- a part is removed

lower_kept : (e : ℕ × ℕ) (es : List (ℕ × ℕ)) (from : ℕ) → e.0 ≤ from → AreApart (suc e.0) es → with_lower from (e ∷ es) ≡ e ∷ with_lower from es
lower_kept e es from under h =
    let passed : nat_lt from e.0 ≡ false = grind (arith, nat_tests, under) in
    rw passed (by (first_after from es) refl)
  where
    by : (o : Option (ℕ × ℕ)) → first_after from es ≡ o → lower_by from (e ∷ es) o ≡ e ∷ lower_by from es o
    by None is = refl
    by (Some d) is = inside (nat_lt d.1 from) refl
      where
        inside : (b : Bool) → nat_lt d.1 from ≡ b → lower_by from (e ∷ es) (Some d) ≡ e ∷ lower_by from es (Some d)
        inside true begun =
            let low : suc e.0 ≤ d.1 = (is_after es (suc e.0) from d h is).from in
            let more : nat_cmp from e.0 ≡ Greater = cmp_greater from e.0 (grind (arith, nat_tests, low, begun)) in
            rw (begun, more) refl
        inside false late = rw late refl

lower_cut : (e : ℕ × ℕ) (es : List (ℕ × ℕ)) (from : ℕ) → from < e.0 → e.1 < from → with_lower from (e ∷ es) ≡ (from, e.1) ∷ e ∷ es
lower_cut e es from over begun =
    let after : nat_lt from e.0 ≡ true = grind (arith, nat_tests, over) in
    let here : nat_lt e.1 from ≡ true = grind (arith, nat_tests, begun) in
    let less : nat_cmp from e.0 ≡ Less = cmp_less from e.0 over in
    rw (after, here, less) refl

lower_whole : (e : ℕ × ℕ) (es : List (ℕ × ℕ)) (from : ℕ) → from < e.0 → from ≤ e.1 → with_lower from (e ∷ es) ≡ e ∷ es
lower_whole e es from over late =
    let after : nat_lt from e.0 ≡ true = grind (arith, nat_tests, over) in
    let behind : nat_lt e.1 from ≡ false = grind (arith, nat_tests, late) in
    rw (after, behind) refl

out_kept : (end start from upto p : ℕ) (x : Bool) → end ≤ from
    → ((nat_le start p && nat_lt p end) || (x && not (nat_le from p && nat_lt p upto)))
    ≡ (((nat_le start p && nat_lt p end) || x) && not (nat_le from p && nat_lt p upto))
out_kept end start from upto p true under = grind (arith, nat_tests, under)
out_kept end start from upto p false under = grind (arith, nat_tests, under)

out_cut : (end start from upto p : ℕ) (x : Bool) → from < end → start < from → from < upto → (x ≡ true → suc end ≤ p)
    → ((nat_le start p && nat_lt p from) || (((nat_le start p && nat_lt p end) || x) && nat_le upto p))
    ≡ (((nat_le start p && nat_lt p end) || x) && not (nat_le from p && nat_lt p upto))
out_cut end start from upto p true over begun some after = let low : suc end ≤ p = after refl in grind (arith, nat_tests, over, begun, some, low)
out_cut end start from upto p false over begun some after = grind (arith, nat_tests, over, begun, some)

out_whole : (end start from upto p : ℕ) (x : Bool) → from < end → from ≤ start → (x ≡ true → suc end ≤ p)
    → (((nat_le start p && nat_lt p end) || x) && nat_le upto p) ≡ (((nat_le start p && nat_lt p end) || x) && not (nat_le from p && nat_lt p upto))
out_whole end start from upto p true over late after = let low : suc end ≤ p = after refl in grind (arith, nat_tests, over, late, low)
out_whole end start from upto p false over late after = grind (arith, nat_tests, over, late)

pub removed_is : (es : List (ℕ × ℕ)) (base from upto p : ℕ) → AreApart base es → from < upto
    → in_entries (cleared (suc from) upto (with_lower from es)) p ≡ (in_entries es p && not (nat_le from p && nat_lt p upto))
removed_is [] base from upto p h some = refl
removed_is (e ∷ es) base from upto p h some =
    by (nat_le e.0 from) refl (nat_lt e.1 from) refl (removed_is es (suc e.0) from upto p h.2 some) (above es (suc e.0) p h.2)
    (λ over. cleared_is (e ∷ es) base (suc from) upto p h over)
  where
    by : (b : Bool) → nat_le e.0 from ≡ b → (c : Bool) → nat_lt e.1 from ≡ c
        → in_entries (cleared (suc from) upto (with_lower from es)) p ≡ (in_entries es p && not (nat_le from p && nat_lt p upto))
        → (in_entries es p ≡ true → suc e.0 ≤ p)
        → (suc from ≤ e.0 → in_entries (cleared (suc from) upto (e ∷ es)) p ≡ (in_entries (e ∷ es) p && nat_le upto p))
        → in_entries (cleared (suc from) upto (with_lower from (e ∷ es))) p ≡ (in_entries (e ∷ es) p && not (nat_le from p && nat_lt p upto))
    by true is c begun rest after here =
        let under : e.0 ≤ from = grind (arith, nat_tests, is) in
        ap (λ (xs : List (ℕ × ℕ)). in_entries (cleared (suc from) upto xs) p) (lower_kept e es from under h.2)
        ∙ (ap (λ (xs : List (ℕ × ℕ)). in_entries xs p) (cleared_kept e (with_lower from es) (suc from) upto (omega (arith, under)) (omega (arith, under, some)))
        ∙ (ap (λ (b : Bool). (nat_le e.1 p && nat_lt p e.0) || b) rest ∙ out_kept e.0 e.1 from upto p (in_entries es p) under))
    by false is true begun rest after here =
        let over : from < e.0 = grind (arith, nat_tests, is) in
        let low : e.1 < from = grind (arith, nat_tests, begun) in
        ap (λ (xs : List (ℕ × ℕ)). in_entries (cleared (suc from) upto xs) p) (lower_cut e es from over low)
        ∙ (ap (λ (xs : List (ℕ × ℕ)). in_entries xs p) (cleared_kept (from, e.1) (e ∷ es) (suc from) upto (omega arith) some)
        ∙ (ap (λ (b : Bool). (nat_le e.1 p && nat_lt p from) || b) (here over) ∙ out_cut e.0 e.1 from upto p (in_entries es p) over low some after))
    by false is false begun rest after here =
        let over : from < e.0 = grind (arith, nat_tests, is) in
        let late : from ≤ e.1 = grind (arith, nat_tests, begun) in
        ap (λ (xs : List (ℕ × ℕ)). in_entries (cleared (suc from) upto xs) p) (lower_whole e es from over late)
        ∙ (here over ∙ out_whole e.0 e.1 from upto p (in_entries es p) over late after)

pub removed_apart : (es : List (ℕ × ℕ)) (base from upto : ℕ) → AreApart base es → from < upto → AreApart base (cleared (suc from) upto (with_lower from es))
removed_apart [] base from upto h some = tt
removed_apart (e ∷ es) base from upto h some = by (nat_le e.0 from) refl (nat_lt e.1 from) refl (removed_apart es (suc e.0) from upto h.2 some)
  where
    start : base ≤ e.1
    start = h.0

    by : (b : Bool) → nat_le e.0 from ≡ b → (c : Bool) → nat_lt e.1 from ≡ c
        → AreApart (suc e.0) (cleared (suc from) upto (with_lower from es)) → AreApart base (cleared (suc from) upto (with_lower from (e ∷ es)))
    by true is c begun rest =
        let under : e.0 ≤ from = grind (arith, nat_tests, is) in
        subst (AreApart base) (sym (ap (cleared (suc from) upto) (lower_kept e es from under h.2)
        ∙ cleared_kept e (with_lower from es) (suc from) upto (omega (arith, under)) (omega (arith, under, some)))) (h.0, h.1, rest)
    by false is true begun rest =
        let over : from < e.0 = grind (arith, nat_tests, is) in
        let low : e.1 < from = grind (arith, nat_tests, begun) in
        subst (AreApart base) (sym (ap (cleared (suc from) upto) (lower_cut e es from over low)
        ∙ cleared_kept (from, e.1) (e ∷ es) (suc from) upto (omega arith) some))
        (h.0, low, cleared_apart (e ∷ es) base (suc from) upto (suc from) h over (omega (arith, some)))
    by false is false begun rest =
        let over : from < e.0 = grind (arith, nat_tests, is) in
        let late : from ≤ e.1 = grind (arith, nat_tests, begun) in
        subst (AreApart base) (sym (ap (cleared (suc from) upto) (lower_whole e es from over late)))
        (cleared_apart (e ∷ es) base (suc from) upto base h over (omega arith))

-- ---- the same as sets

pub cleared_entries : (es dropped removed new : List (ℕ × ℕ)) (low high from : ℕ) → low ≡ from → dropped ≡ without low high es
    → removed ≡ remove_entry (is_at (nat_cmp high)) dropped → new ≡ begun_at high removed → new ≡ cleared from high es
cleared_entries es dropped removed new low high from at is less left =
    left ∙ (ap (begun_at high) (less ∙ ap (remove_entry (is_at (nat_cmp high))) is) ∙ ap (λ (n : ℕ). cleared n high es) at)

pub contains-less : (s : FinSet nat_cmp) (from upto p : ℕ) → contains (difference s (span from upto)) p ≡ (contains s p && not (nat_le from p && nat_lt p upto))
contains-less s from upto p =
    contains-difference nat_cmp_total s (span from upto) p ∙ ap (λ (b : Bool). contains s p && not b) (contains-span from upto p)

held_less : (es : List (ℕ × ℕ)) (from upto p : ℕ)
    → contains (difference (held es) (span from upto)) p ≡ (in_entries es p && not (nat_le from p && nat_lt p upto))
held_less es from upto p = contains-less (held es) from upto p ∙ ap (λ (b : Bool). b && not (nat_le from p && nat_lt p upto)) (contains-held es p)

pub removed_set : (es : List (ℕ × ℕ)) (from upto : ℕ) → AreApart 0 es → from < upto
    → held (cleared (suc from) upto (with_lower from es)) ≡ difference (held es) (span from upto)
removed_set es from upto h some = same_set nat_cmp_total nat_cmp-IsAntisymmetric _ _ (λ p.
    contains-held (cleared (suc from) upto (with_lower from es)) p
    ∙ (removed_is es 0 from upto p h some ∙ sym (held_less es from upto p)))

from_above : (high p : ℕ) → nat_le high p ≡ not (nat_le 0 p && nat_lt p high)
from_above high p = grind (arith, nat_tests)

pub forgotten_set : (es : List (ℕ × ℕ)) (position : ℕ) → AreApart 0 es → held (cleared 0 position es) ≡ difference (held es) (span 0 position)
forgotten_set es position h = same_set nat_cmp_total nat_cmp-IsAntisymmetric _ _ (λ p.
    contains-held (cleared 0 position es) p
    ∙ (cleared_is es 0 0 position p h (ends_from es 0 0 (omega arith) h)
    ∙ (ap (λ (b : Bool). in_entries es p && b) (from_above position p) ∙ sym (held_less es 0 position p))))

pub forgotten_apart : (es : List (ℕ × ℕ)) (position : ℕ) → AreApart 0 es → AreApart 0 (cleared 0 position es)
forgotten_apart es position h = cleared_apart es 0 0 position 0 h (ends_from es 0 0 (omega arith) h) (omega arith)

none_out : (from upto p : ℕ) (x : Bool) → upto ≤ from → x ≡ (x && not (nat_le from p && nat_lt p upto))
none_out from upto p true none = grind (arith, nat_tests, none)
none_out from upto p false none = refl

pub none_removed : (s : FinSet nat_cmp) (from upto : ℕ) → upto ≤ from → s ≡ difference s (span from upto)
none_removed s from upto none = same_set nat_cmp_total nat_cmp-IsAntisymmetric _ _ (λ p.
    none_out from upto p (contains s p) none ∙ sym (contains-less s from upto p))
