-- Ranges of positions that are marked.
use Rattle.std.proofs.Common.{◌≡◌, ℕ, ◌<◌, ◌≤◌, max, Bool, true, false, ◌&&◌, ◌||◌, nat_le, nat_lt, List, [], ◌∷◌, refl, ap, ◌∙◌, subst, arith, unwrap_or}
use Rattle.std.proofs.lemmas.Bool.Decides.{nat_tests}
use Rattle.std.specs.Prelude.{All}
use Rattle.std.specs.List.{AllByRecursion, list_any}
use Rattle.std.specs.Ordering.{nat_cmp}
use Rattle.std.specs.declared.cmp.Ordering.{Ordering}
use Rattle.std.specs.declared.cmp.Ordering.TheVariants.{Less, Equal, Greater}
use Rattle.std.specs.Map.{keys_of, lookup}
use Rattle.std.specs.BTreeMap.{insert_entry, is_at}
use Rattle.std.specs.BTreeMap.Range.{IsLeBy, entries_between, range_contains}
use Rattle.std.specs.declared.ops.Bound.TheVariants.{Excluded, Unbounded}
use Rattle.std.proofs.lemmas.List.Elements.{recursion_from_All}
use Rattle.streams.specs.declared.marks.Marks.{Marks}
use Rattle.streams.specs.Marks.{in_ranges, is_marked, AreRanges, IsBelow}

or_comm : (a b : Bool) → (a || b) ≡ (b || a)
or_comm true true = refl
or_comm true false = refl
or_comm false true = refl
or_comm false false = refl

or_assoc : (a b c : Bool) → (a || (b || c)) ≡ ((a || b) || c)
or_assoc true b c = refl
or_assoc false b c = refl

or_first : (r a b : Bool) → (r || (a || b)) ≡ ((a || r) || b)
or_first true true b = refl
or_first true false b = refl
or_first false true b = refl
or_first false false b = refl

pub or_true : (a b : Bool) → b ≡ true → (a || b) ≡ true
or_true true b is = refl
or_true false b is = is

pub both_false : (a b : Bool) → a ≡ false → b ≡ false → (a || b) ≡ false
both_false a b none other = rw (none, other) refl

absorbed : (x r y : Bool) → (x ≡ true → y ≡ true) → (y || r) ≡ ((x || r) || y)
absorbed true r true then = refl
absorbed true r false then = absurd (let no : false ≡ true = then refl in cc)
absorbed false r y then = or_comm y r

-- what a range covers
abbrev covers : ℕ × ℕ → ℕ → Bool
covers e p = nat_le e.0 p && nat_lt p e.1

wider : (from to upto p : ℕ) → to ≤ upto → covers (from, to) p ≡ true → covers (from, upto) p ≡ true
wider from to upto p h is = grind (arith, nat_tests, h, is)

apart_covers : (from to p : ℕ) → covers (from, to) p ≡ true → (from ≤ p) × (p < to)
apart_covers from to p is = (grind (arith, nat_tests, is), grind (arith, nat_tests, is))

-- one more range, which reaches at least as far as one that began there
inserted : (es : List (ℕ × ℕ)) (from upto p : ℕ) → unwrap_or (lookup (is_at (nat_cmp from)) es) 0 ≤ upto
    → in_ranges (insert_entry nat_cmp es from upto) p ≡ (in_ranges es p || covers (from, upto) p)
inserted [] from upto p h = or_comm (covers (from, upto) p) false
inserted (e ∷ es) from upto p h = by (nat_cmp from e.0) refl (λ later. inserted es from upto p later)
  where
    by : (o : Ordering) → nat_cmp from e.0 ≡ o
        → (unwrap_or (lookup (is_at (nat_cmp from)) es) 0 ≤ upto
        → in_ranges (insert_entry nat_cmp es from upto) p ≡ (in_ranges es p || covers (from, upto) p))
        → in_ranges (insert_entry nat_cmp (e ∷ es) from upto) p ≡ (in_ranges (e ∷ es) p || covers (from, upto) p)
    by Less is rest = rw is (or_comm (covers (from, upto) p) (in_ranges (e ∷ es) p))
    by Equal is rest =
        let same : from ≡ e.0 = grind (arith, nat_tests, is) in
        let low : e.1 ≤ upto = rw is at h in
        rw is (rw (← same) (absorbed (covers (from, e.1) p) (in_ranges es p) (covers (from, upto) p) (wider from e.1 upto p low)))
    by Greater is rest = rw is (ap (λ (b : Bool). covers e p || b) (rest (rw is at h)) ∙ or_assoc (covers e p) (in_ranges es p) (covers (from, upto) p))

-- what one that begins there covers is covered
own : (es : List (ℕ × ℕ)) (from p : ℕ) → covers (from, unwrap_or (lookup (is_at (nat_cmp from)) es) 0) p ≡ true → in_ranges es p ≡ true
own [] from p is = absurd (let far = (apart_covers from 0 p is).1 in omega arith)
own (e ∷ es) from p is = by (nat_cmp from e.0) refl (λ later. own es from p later)
  where
    by : (o : Ordering) → nat_cmp from e.0 ≡ o
        → (covers (from, unwrap_or (lookup (is_at (nat_cmp from)) es) 0) p ≡ true → in_ranges es p ≡ true)
        → in_ranges (e ∷ es) p ≡ true
    by Less o rest = or_true (covers e p) (in_ranges es p) (rest (rw o at is))
    by Equal o rest =
        let same : from ≡ e.0 = grind (arith, nat_tests, o) in
        let here : covers (from, e.1) p ≡ true = rw o at is in
        let covered : covers e p ≡ true = subst (λ (n : ℕ). covers (n, e.1) p ≡ true) same here in
        rw covered refl
    by Greater o rest = or_true (covers e p) (in_ranges es p) (rest (rw o at is))

pub added : (es : List (ℕ × ℕ)) (from upto far : ℕ) → far ≡ max upto (unwrap_or (lookup (is_at (nat_cmp from)) es) 0)
    → (p : ℕ) → in_ranges (insert_entry nat_cmp es from far) p ≡ (in_ranges es p || (nat_le from p && nat_lt p upto))
added es from upto far is p = inserted es from far p (omega arith) ∙ by (in_ranges es p) refl
  where
    old : ℕ
    old = unwrap_or (lookup (is_at (nat_cmp from)) es) 0

    by : (b : Bool) → in_ranges es p ≡ b → (in_ranges es p || covers (from, far) p) ≡ (in_ranges es p || covers (from, upto) p)
    by true inside = rw inside refl
    by false outside = rw outside (same (covers (from, old) p) refl)
      where
        same : (c : Bool) → covers (from, old) p ≡ c → covers (from, far) p ≡ covers (from, upto) p
        same true covered = absurd (let inside : in_ranges es p ≡ true = own es from p covered in cc)
        same false apart = grind (arith, nat_tests, is, apart)

old_below : (es : List (ℕ × ℕ)) (floor end from : ℕ) → AreRanges floor end es → unwrap_or (lookup (is_at (nat_cmp from)) es) 0 ≤ end
old_below [] floor end from h = omega arith
old_below (e ∷ es) floor end from h = by (is_at (nat_cmp from) e.0) refl (old_below es floor end from h.1)
  where
    by : (b : Bool) → is_at (nat_cmp from) e.0 ≡ b → unwrap_or (lookup (is_at (nat_cmp from)) es) 0 ≤ end
        → unwrap_or (lookup (is_at (nat_cmp from)) (e ∷ es)) 0 ≤ end
    by true here rest = rw here h.0.2
    by false other rest = rw other rest

ranges_with : (es : List (ℕ × ℕ)) (floor end from far : ℕ) → floor ≤ from → from < far → far ≤ end
    → AreRanges floor end es → AreRanges floor end (insert_entry nat_cmp es from far)
ranges_with [] floor end from far l f e h = ((l, f, e), tt)
ranges_with (x ∷ es) floor end from far l f e h = by (nat_cmp from x.0) refl (ranges_with es floor end from far l f e h.1)
  where
    by : (o : Ordering) → nat_cmp from x.0 ≡ o → AreRanges floor end (insert_entry nat_cmp es from far)
        → AreRanges floor end (insert_entry nat_cmp (x ∷ es) from far)
    by Less is rest = rw is ((l, f, e), h)
    by Equal is rest =
        let same : from ≡ x.0 = grind (arith, nat_tests, is) in
        rw is ((h.0.0, omega arith, e), h.1)
    by Greater is rest = rw is (h.0, rest)

pub ranges_more : (es : List (ℕ × ℕ)) (floor end from upto far : ℕ) → from < upto → floor ≤ from → upto ≤ end
    → far ≡ max upto (unwrap_or (lookup (is_at (nat_cmp from)) es) 0) → AreRanges floor end es
    → AreRanges floor end (insert_entry nat_cmp es from far)
ranges_more es floor end from upto far some low high is h = let old = old_below es floor end from h in
    ranges_with es floor end from far low (omega arith) (omega arith) h

-- ranges that begin no lower
pub ranges_from : (es : List (ℕ × ℕ)) (floor start snd_una end : ℕ) → snd_una ≤ start
    → All (IsLeBy nat_cmp start) (keys_of es) → AreRanges floor end es → AreRanges snd_una end es
ranges_from es floor start snd_una end low all h = go es (recursion_from_All (IsLeBy nat_cmp start) (keys_of es) all) h
  where
    go : (es : List (ℕ × ℕ)) → AllByRecursion (IsLeBy nat_cmp start) (keys_of es) → AreRanges floor end es → AreRanges snd_una end es
    go [] k h = tt
    go (e ∷ es) k h = let under : start ≤ e.0 = grind (arith, nat_tests, k.0) in ((omega arith, h.0.1, h.0.2), go es k.1 h.1)

-- the first range goes, and what it covers from a position on is kept by its end
pub dropped : (old new : List (ℕ × ℕ)) (start end far snd_una p : ℕ) → old ≡ (start, end) ∷ new → start < snd_una
    → snd_una ≤ p → (in_ranges new p || nat_lt p (max far end)) ≡ (in_ranges old p || nat_lt p far)
dropped old new start end far snd_una p is low from =
    let reached : nat_lt p (max far end) ≡ (nat_lt p end || nat_lt p far) = grind (arith, nat_tests) in
    let begun : nat_le start p ≡ true = grind (arith, nat_tests, low, from) in
    rw (is, reached, begun) (or_first (in_ranges new p) (nat_lt p end) (nat_lt p far))

pub rest_ranges : (old new : List (ℕ × ℕ)) (e : ℕ × ℕ) (floor end : ℕ) → old ≡ e ∷ new → AreRanges floor end old → (e.1 ≤ end) × AreRanges floor end new
rest_ranges old new e floor end is h = let both : AreRanges floor end (e ∷ new) = subst (AreRanges floor end) is h in (both.0.2, both.1)

-- a range that meets others has a position that is marked
pub met : (es : List (ℕ × ℕ)) (floor end from upto : ℕ) → from < upto → AreRanges floor end es
    → list_any (λ e. nat_lt e.0 upto && nat_lt from e.1) es ≡ true
    → (p : ℕ) × (from ≤ p) × (p < upto) × (p < end) × (in_ranges es p ≡ true)
met [] floor end from upto some h is = absurd cc
met (e ∷ es) floor end from upto some h is = by (nat_lt e.0 upto && nat_lt from e.1) refl (λ later. met es floor end from upto some h.1 later)
  where
    by : (b : Bool) → (nat_lt e.0 upto && nat_lt from e.1) ≡ b
        → (list_any (λ e. nat_lt e.0 upto && nat_lt from e.1) es ≡ true
        → (p : ℕ) × (from ≤ p) × (p < upto) × (p < end) × (in_ranges es p ≡ true))
        → (p : ℕ) × (from ≤ p) × (p < upto) × (p < end) × (in_ranges (e ∷ es) p ≡ true)
    by true here rest =
        let low : e.0 < upto = grind (arith, nat_tests, here) in
        let high : from < e.1 = grind (arith, nat_tests, here) in
        let size : e.0 < e.1 = h.0.1 in
        let bound : e.1 ≤ end = h.0.2 in
        let covered : covers e (max from e.0) ≡ true = grind (arith, nat_tests, low, high, size) in
        (max from e.0, omega arith, omega arith, omega arith, rw covered refl)
    by false other rest =
        let found = rest (rw other at is) in
        (found.0, found.1, found.2, found.3, or_true (covers e found.0) (in_ranges es found.0) found.4)

-- and where it meets none, none of its positions is marked
pub unmet : (es : List (ℕ × ℕ)) (from upto p : ℕ) → list_any (λ e. nat_lt e.0 upto && nat_lt from e.1) es ≡ false → from ≤ p → p < upto → in_ranges es p ≡ false
unmet [] from upto p is low high = refl
unmet (e ∷ es) from upto p is low high = by (nat_lt e.0 upto && nat_lt from e.1) refl (λ later. unmet es from upto p later low high)
  where
    by : (b : Bool) → (nat_lt e.0 upto && nat_lt from e.1) ≡ b
        → (list_any (λ e. nat_lt e.0 upto && nat_lt from e.1) es ≡ false → in_ranges es p ≡ false)
        → in_ranges (e ∷ es) p ≡ false
    by true here rest = absurd (let all : list_any (λ e. nat_lt e.0 upto && nat_lt from e.1) (e ∷ es) ≡ true = rw here refl in cc)
    by false other rest =
        let apart : covers e p ≡ false = grind (arith, nat_tests, other, low, high) in
        rw apart (rest (rw other at is))

-- only those that begin below the end can meet it
pub any_between : (es : List (ℕ × ℕ)) (from upto : ℕ)
    → list_any (λ e. nat_lt e.0 upto && nat_lt from e.1) (entries_between nat_cmp Unbounded (Excluded upto) es)
    ≡ list_any (λ e. nat_lt e.0 upto && nat_lt from e.1) es
any_between [] from upto = refl
any_between (e ∷ es) from upto = by (range_contains nat_cmp Unbounded (Excluded upto) e.0) refl (any_between es from upto)
  where
    by : (b : Bool) → range_contains nat_cmp Unbounded (Excluded upto) e.0 ≡ b
        → list_any (λ e. nat_lt e.0 upto && nat_lt from e.1) (entries_between nat_cmp Unbounded (Excluded upto) es)
        ≡ list_any (λ e. nat_lt e.0 upto && nat_lt from e.1) es
        → list_any (λ e. nat_lt e.0 upto && nat_lt from e.1)
        (entries_between nat_cmp Unbounded (Excluded upto) (e ∷ es))
        ≡ list_any (λ e. nat_lt e.0 upto && nat_lt from e.1) (e ∷ es)
    by true inside rest = rw inside (ap (λ (b : Bool). (nat_lt e.0 upto && nat_lt from e.1) || b) rest)
    by false outside rest =
        let behind : nat_lt e.0 upto ≡ false = grind (arith, nat_tests, outside) in
        rw (outside, behind) rest

-- no position lies in an empty range
pub none_more : (es : List (ℕ × ℕ)) (from upto p : ℕ) → upto ≤ from → in_ranges es p ≡ (in_ranges es p || (nat_le from p && nat_lt p upto))
none_more es from upto p h = let apart : (nat_le from p && nat_lt p upto) ≡ false = grind (arith, nat_tests, h) in rw apart (or_comm false (in_ranges es p))

-- ranges may begin lower
pub ranges_low : (es : List (ℕ × ℕ)) (low floor end : ℕ) → low ≤ floor → AreRanges floor end es → AreRanges low end es
ranges_low [] low floor end l h = tt
ranges_low (e ∷ es) low floor end l h = let under : floor ≤ e.0 = h.0.0 in ((omega arith, h.0.1, h.0.2), ranges_low es low floor end l h.1)

-- no position below all ranges lies in one, nor one beyond their ends
pub none_below : (es : List (ℕ × ℕ)) (floor end p : ℕ) → p < floor → AreRanges floor end es → in_ranges es p ≡ false
none_below [] floor end p l h = refl
none_below (e ∷ es) floor end p l h =
    let under : floor ≤ e.0 = h.0.0 in
    let apart : covers e p ≡ false = grind (arith, nat_tests, under, l) in
    rw apart (none_below es floor end p l h.1)

pub none_beyond : (es : List (ℕ × ℕ)) (floor end p : ℕ) → end ≤ p → AreRanges floor end es → in_ranges es p ≡ false
none_beyond [] floor end p l h = refl
none_beyond (e ∷ es) floor end p l h =
    let under : e.1 ≤ end = h.0.2 in
    let apart : covers e p ≡ false = grind (arith, nat_tests, under, l) in
    rw apart (none_beyond es floor end p l h.1)

-- one range more, and the front apart
pub or_last : (r a f : Bool) → ((r || a) || f) ≡ ((r || f) || a)
or_last true a f = refl
or_last false a f = or_comm a f

-- the front as a range, and no front
pub front_in : (r a n : Bool) → n ≡ false → ((r || a) || n) ≡ (r || a)
front_in r a n none = rw none (or_comm (r || a) false)

pub met_marked : (m : Marks) (from upto end : ℕ)
    → list_any (λ e. nat_lt e.0 upto && nat_lt from e.1) m.ranges.entries ≡ true → from < upto → IsBelow end m
    → (p : ℕ) × (from ≤ p) × (p < upto) × (p < end) × (is_marked m p ≡ true)
met_marked m from upto end is some h =
    let found = met m.ranges.entries m.floor end from upto some h.0 is in
    (found.0, found.1, found.2, found.3, rw found.4 refl)

-- where nothing is marked below the floor, nothing is discarded below it
pub none_lower : (m : Marks) (snd_una end p : ℕ) → snd_una ≤ m.floor → IsBelow end m → is_marked m p ≡ (nat_le snd_una p && is_marked m p)
none_lower m snd_una end p low h = by (nat_le snd_una p) refl
  where
    by : (b : Bool) → nat_le snd_una p ≡ b → is_marked m p ≡ (nat_le snd_una p && is_marked m p)
    by true is = rw is refl
    by false is =
        let under : p < m.floor = grind (arith, nat_tests, is, low) in
        let front : (nat_le m.floor p && nat_lt p m.reached) ≡ false = grind (arith, nat_tests, under) in
        rw is (both_false (in_ranges m.ranges.entries p) (nat_le m.floor p && nat_lt p m.reached) (none_below m.ranges.entries m.floor end p under h.0) front)

-- what is marked from a position on, once the ranges below it gave way to their end
pub still_marked : (old new : List (ℕ × ℕ)) (floor reached far snd_una end p : ℕ) → floor < snd_una → AreRanges snd_una end new
    → (snd_una ≤ p → (in_ranges new p || nat_lt p far) ≡ (in_ranges old p || nat_lt p reached))
    → (in_ranges new p || (nat_le snd_una p && nat_lt p far)) ≡ (nat_le snd_una p && (in_ranges old p || (nat_le floor p && nat_lt p reached)))
still_marked old new floor reached far snd_una end p low h same = by (nat_le snd_una p) refl
  where
    by : (b : Bool) → nat_le snd_una p ≡ b
        → (in_ranges new p || (nat_le snd_una p && nat_lt p far))
        ≡ (nat_le snd_una p && (in_ranges old p || (nat_le floor p && nat_lt p reached)))
    by true is =
        let from : snd_una ≤ p = grind (arith, nat_tests, is) in
        let begun : nat_le floor p ≡ true = grind (arith, nat_tests, from, low) in
        rw (is, begun) (same from)
    by false is =
        let under : p < snd_una = grind (arith, nat_tests, is) in
        rw is (both_false (in_ranges new p) false (none_below new snd_una end p under h) refl)

-- nothing is marked from the end on
pub unmarked : (m : Marks) (end p : ℕ) → IsBelow end m → end ≤ p → is_marked m p ≡ false
unmarked m end p h high =
    let far : m.reached ≤ end = h.1 in
    let front : (nat_le m.floor p && nat_lt p m.reached) ≡ false = grind (arith, nat_tests, far, high) in
    both_false (in_ranges m.ranges.entries p) (nat_le m.floor p && nat_lt p m.reached) (none_beyond m.ranges.entries m.floor end p high h.0) front

-- a later end
ranges_high : (es : List (ℕ × ℕ)) (floor end later : ℕ) → end ≤ later → AreRanges floor end es → AreRanges floor later es
ranges_high [] floor end later l h = tt
ranges_high (e ∷ es) floor end later l h = let under : e.1 ≤ end = h.0.2 in ((h.0.0, h.0.1, omega arith), ranges_high es floor end later l h.1)

pub below_later : (m : Marks) (end later : ℕ) → end ≤ later → IsBelow end m → IsBelow later m
below_later m end later l h = let far : m.reached ≤ end = h.1 in (ranges_high m.ranges.entries m.floor end later l h.0, omega arith)
