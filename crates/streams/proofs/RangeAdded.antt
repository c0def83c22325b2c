-- What there is once positions were added.
use Rattle.std.proofs.Common.{◌≡◌, ℕ, suc, ◌<◌, ◌≤◌, min, Bool, true, false, ◌&&◌, ◌||◌, nat_le, nat_lt, List, [], ◌∷◌, refl, sym, ap, ◌∙◌, subst, arith}
use Rattle.std.proofs.lemmas.Bool.Decides.{nat_tests}
use Rattle.std.specs.Ordering.{nat_cmp}
use Rattle.std.specs.Cmp.{nat_cmp_total}
use Rattle.std.specs.declared.cmp.Ordering.TheVariants.{Less, Greater}
use Rattle.std.specs.BTreeMap.{insert_entry}
use Rattle.std.specs.FinSet.{FinSet, contains, contains-empty, empty, union, same_set, contains-union, nat_cmp-IsAntisymmetric}
use Rattle.streams.specs.Ranges.{span}
use Rattle.streams.specs.RangeEntries.{in_entries, held, AreApart, without, joined_start, joined_end}
use Rattle.streams.proofs.RangeLemmas.{contains-span, contains-held}
use Rattle.streams.proofs.RangeEdits.{cmp_less, cmp_greater, cmp_same, apart_low, EndsFrom, ends_from, without_above}

-- ---- a range is added: what is put in, and the ranges that it joins are taken out

abbrev pub put : (from end start : ℕ) → List (ℕ × ℕ) → List (ℕ × ℕ)
put from end start es = without from end (insert_entry nat_cmp es end start)

put_none : (from end start : ℕ) → put from end start [] ≡ (end, start) ∷ []
put_none from end start =
    let stays : (nat_le from end && nat_lt end end) ≡ false = grind (arith, nat_tests) in
    rw stays refl

put_kept : (e : ℕ × ℕ) (es : List (ℕ × ℕ)) (from end start : ℕ) → e.0 < from → e.0 < end → put from end start (e ∷ es) ≡ e ∷ put from end start es
put_kept e es from end start below under =
    let more : nat_cmp end e.0 ≡ Greater = cmp_greater end e.0 under in
    let stays : (nat_le from e.0 && nat_lt e.0 end) ≡ false = grind (arith, nat_tests, below) in
    rw (more, stays) refl

put_joined : (e : ℕ × ℕ) (es : List (ℕ × ℕ)) (from end start : ℕ) → from ≤ e.0 → e.0 < end → put from end start (e ∷ es) ≡ put from end start es
put_joined e es from end start low under =
    let more : nat_cmp end e.0 ≡ Greater = cmp_greater end e.0 under in
    let gone : (nat_le from e.0 && nat_lt e.0 end) ≡ true = grind (arith, nat_tests, low, under) in
    rw (more, gone) refl

put_at : (e : ℕ × ℕ) (es : List (ℕ × ℕ)) (from start : ℕ) → AreApart (suc e.0) es → put from e.0 start (e ∷ es) ≡ (e.0, start) ∷ es
put_at e es from start h =
    let stays : (nat_le from e.0 && nat_lt e.0 e.0) ≡ false = grind (arith, nat_tests) in
    rw (cmp_same e.0, stays, without_above es from e.0 (apart_low es (suc e.0) e.0 (omega arith) h)) refl

put_before : (e : ℕ × ℕ) (es : List (ℕ × ℕ)) (from end start : ℕ) → AreApart end (e ∷ es) → put from end start (e ∷ es) ≡ (end, start) ∷ e ∷ es
put_before e es from end start h =
    let low : end ≤ e.1 = h.0 in
    let size : e.1 < e.0 = h.1 in
    let less : nat_cmp end e.0 ≡ Less = cmp_less end e.0 (omega (arith, low, size)) in
    let stays : (nat_le from end && nat_lt end end) ≡ false = grind (arith, nat_tests) in
    rw (less, stays) (ap (λ (xs : List (ℕ × ℕ)). (end, start) ∷ xs) (without_above (e ∷ es) from end h))

-- the end of what is put in
pub end_from : (es : List (ℕ × ℕ)) (upto : ℕ) → upto ≤ joined_end upto es
end_from [] upto = omega arith
end_from (e ∷ es) upto = by (nat_le upto e.0) refl (nat_le e.1 upto) refl (end_from es upto)
  where
    by : (b : Bool) → nat_le upto e.0 ≡ b → (c : Bool) → nat_le e.1 upto ≡ c → upto ≤ joined_end upto es → upto ≤ joined_end upto (e ∷ es)
    by false under c is rest = rw under rest
    by true over true begun rest = rw (over, begun) (grind (arith, nat_tests, over))
    by true over false late rest = rw (over, late) (omega arith)

end_later : (e : ℕ × ℕ) (es : List (ℕ × ℕ)) (upto : ℕ) → e.0 < upto → joined_end upto (e ∷ es) ≡ joined_end upto es
end_later e es upto under = let passed : nat_le upto e.0 ≡ false = grind (arith, nat_tests, under) in rw passed refl

end_at : (e : ℕ × ℕ) (es : List (ℕ × ℕ)) (upto : ℕ) → upto ≤ e.0 → e.1 ≤ upto → joined_end upto (e ∷ es) ≡ e.0
end_at e es upto over begun =
    let here : nat_le upto e.0 ≡ true = grind (arith, nat_tests, over) in
    let low : nat_le e.1 upto ≡ true = grind (arith, nat_tests, begun) in
    rw (here, low) refl

end_before : (e : ℕ × ℕ) (es : List (ℕ × ℕ)) (upto : ℕ) → upto ≤ e.0 → upto < e.1 → joined_end upto (e ∷ es) ≡ upto
end_before e es upto over late =
    let here : nat_le upto e.0 ≡ true = grind (arith, nat_tests, over) in
    let high : nat_le e.1 upto ≡ false = grind (arith, nat_tests, late) in
    rw (here, high) refl

in_joined : (end first start upto p : ℕ) (x : Bool) → start ≤ first → end < upto
    → (x || (nat_le start p && nat_lt p upto)) ≡ (((nat_le first p && nat_lt p end) || x) || (nat_le start p && nat_lt p upto))
in_joined end first start upto p true low under = grind (arith, nat_tests)
in_joined end first start upto p false low under = grind (arith, nat_tests, low, under)

in_at : (end first start upto p : ℕ) (x : Bool) → start ≤ first → first ≤ upto → upto ≤ end
    → ((nat_le start p && nat_lt p end) || x) ≡ (((nat_le first p && nat_lt p end) || x) || (nat_le start p && nat_lt p upto))
in_at end first start upto p true low begun over = grind (arith, nat_tests)
in_at end first start upto p false low begun over = grind (arith, nat_tests, low, begun, over)

or_swap : (a b : Bool) → (a || b) ≡ (b || a)
or_swap true true = refl
or_swap true false = refl
or_swap false true = refl
or_swap false false = refl

or_assoc : (a b c : Bool) → (a || (b || c)) ≡ ((a || b) || c)
or_assoc true b c = refl
or_assoc false b c = refl

-- once each range left ends at `from` or after it
tail_is : (es : List (ℕ × ℕ)) (from upto start p : ℕ) → AreApart start es → EndsFrom from es → start < upto
    → in_entries (put from (joined_end upto es) start es) p ≡ (in_entries es p || (nat_le start p && nat_lt p upto))
tail_is [] from upto start p h ends some =
    ap (λ (xs : List (ℕ × ℕ)). in_entries xs p) (put_none from upto start) ∙ or_swap (nat_le start p && nat_lt p upto) false
tail_is (e ∷ es) from upto start p h ends some =
    by (nat_le upto e.0) refl (nat_le e.1 upto) refl
    (tail_is es from upto start p (apart_low es (suc e.0) start (omega (arith, low, size)) h.2) (ends_from es (suc e.0) from (omega (arith, ends)) h.2) some)
  where
    low : start ≤ e.1
    low = h.0

    size : e.1 < e.0
    size = h.1

    by : (b : Bool) → nat_le upto e.0 ≡ b → (c : Bool) → nat_le e.1 upto ≡ c
        → in_entries (put from (joined_end upto es) start es) p ≡ (in_entries es p || (nat_le start p && nat_lt p upto))
        → in_entries (put from (joined_end upto (e ∷ es)) start (e ∷ es)) p ≡ (in_entries (e ∷ es) p || (nat_le start p && nat_lt p upto))
    by false is c begun rest =
        let under : e.0 < upto = grind (arith, nat_tests, is) in
        let end : upto ≤ joined_end upto es = end_from es upto in
        ap (λ (n : ℕ). in_entries (put from n start (e ∷ es)) p) (end_later e es upto under)
        ∙ (ap (λ (xs : List (ℕ × ℕ)). in_entries xs p) (put_joined e es from (joined_end upto es) start ends (omega (arith, under, end)))
        ∙ (rest ∙ in_joined e.0 e.1 start upto p (in_entries es p) low under))
    by true is true begun rest =
        let over : upto ≤ e.0 = grind (arith, nat_tests, is) in
        let first : e.1 ≤ upto = grind (arith, nat_tests, begun) in
        ap (λ (n : ℕ). in_entries (put from n start (e ∷ es)) p) (end_at e es upto over first)
        ∙ (ap (λ (xs : List (ℕ × ℕ)). in_entries xs p) (put_at e es from start h.2)
        ∙ in_at e.0 e.1 start upto p (in_entries es p) low first over)
    by true is false late rest =
        let over : upto ≤ e.0 = grind (arith, nat_tests, is) in
        let behind : upto < e.1 = grind (arith, nat_tests, late) in
        ap (λ (n : ℕ). in_entries (put from n start (e ∷ es)) p) (end_before e es upto over behind)
        ∙ (ap (λ (xs : List (ℕ × ℕ)). in_entries xs p) (put_before e es from upto start (omega (arith, behind), h.1, h.2))
        ∙ or_swap (nat_le start p && nat_lt p upto) (in_entries (e ∷ es) p))

tail_apart : (es : List (ℕ × ℕ)) (from upto start : ℕ) → AreApart start es → EndsFrom from es → start < upto
    → AreApart start (put from (joined_end upto es) start es)
tail_apart [] from upto start h ends some = subst (AreApart start) (sym (put_none from upto start)) (omega arith, some, tt)
tail_apart (e ∷ es) from upto start h ends some =
    by (nat_le upto e.0) refl (nat_le e.1 upto) refl
    (tail_apart es from upto start (apart_low es (suc e.0) start (omega (arith, low, size)) h.2) (ends_from es (suc e.0) from (omega (arith, ends)) h.2) some)
  where
    low : start ≤ e.1
    low = h.0

    size : e.1 < e.0
    size = h.1

    by : (b : Bool) → nat_le upto e.0 ≡ b → (c : Bool) → nat_le e.1 upto ≡ c → AreApart start (put from (joined_end upto es) start es)
        → AreApart start (put from (joined_end upto (e ∷ es)) start (e ∷ es))
    by false is c begun rest =
        let under : e.0 < upto = grind (arith, nat_tests, is) in
        let end : upto ≤ joined_end upto es = end_from es upto in
        subst (AreApart start) (sym (ap (λ (n : ℕ). put from n start (e ∷ es)) (end_later e es upto under)
        ∙ put_joined e es from (joined_end upto es) start ends (omega (arith, under, end)))) rest
    by true is true begun rest =
        let over : upto ≤ e.0 = grind (arith, nat_tests, is) in
        let first : e.1 ≤ upto = grind (arith, nat_tests, begun) in
        subst (AreApart start) (sym (ap (λ (n : ℕ). put from n start (e ∷ es)) (end_at e es upto over first) ∙ put_at e es from start h.2))
        (omega arith, omega (arith, some, over), h.2)
    by true is false late rest =
        let over : upto ≤ e.0 = grind (arith, nat_tests, is) in
        let behind : upto < e.1 = grind (arith, nat_tests, late) in
        subst (AreApart start) (sym (ap (λ (n : ℕ). put from n start (e ∷ es)) (end_before e es upto over behind)
        ∙ put_before e es from upto start (omega (arith, behind), h.1, h.2)))
        (omega arith, some, (omega (arith, behind), h.1, h.2))

-- the start of what is put in
start_later : (e : ℕ × ℕ) (es : List (ℕ × ℕ)) (from : ℕ) → e.0 < from → joined_start from (e ∷ es) ≡ joined_start from es
start_later e es from under = let passed : nat_le from e.0 ≡ false = grind (arith, nat_tests, under) in rw passed refl

start_here : (e : ℕ × ℕ) (es : List (ℕ × ℕ)) (from : ℕ) → from ≤ e.0 → joined_start from (e ∷ es) ≡ min e.1 from
start_here e es from over = let here : nat_le from e.0 ≡ true = grind (arith, nat_tests, over) in rw here refl

in_start : (end first from upto p : ℕ) (x : Bool) → from ≤ end
    → (((nat_le first p && nat_lt p end) || x) || (nat_le (min first from) p && nat_lt p upto))
    ≡ (((nat_le first p && nat_lt p end) || x) || (nat_le from p && nat_lt p upto))
in_start end first from upto p true over = grind (arith, nat_tests)
in_start end first from upto p false over = grind (arith, nat_tests, over)

pub added_is : (es : List (ℕ × ℕ)) (base from upto p : ℕ) → AreApart base es → from < upto
    → in_entries (put from (joined_end upto es) (joined_start from es) es) p ≡ (in_entries es p || (nat_le from p && nat_lt p upto))
added_is [] base from upto p h some = ap (λ (xs : List (ℕ × ℕ)). in_entries xs p) (put_none from upto from) ∙ or_swap (nat_le from p && nat_lt p upto) false
added_is (e ∷ es) base from upto p h some = by (nat_le from e.0) refl (added_is es (suc e.0) from upto p h.2 some)
  where
    by : (b : Bool) → nat_le from e.0 ≡ b
        → in_entries (put from (joined_end upto es) (joined_start from es) es) p ≡ (in_entries es p || (nat_le from p && nat_lt p upto))
        → in_entries (put from (joined_end upto (e ∷ es)) (joined_start from (e ∷ es)) (e ∷ es)) p ≡ (in_entries (e ∷ es) p || (nat_le from p && nat_lt p upto))
    by false is rest =
        let under : e.0 < from = grind (arith, nat_tests, is) in
        let end : upto ≤ joined_end upto es = end_from es upto in
        (λ i. in_entries (put from (end_later e es upto (omega (arith, under, some)) i) (start_later e es from under i) (e ∷ es)) p)
        ∙ (ap (λ (xs : List (ℕ × ℕ)). in_entries xs p) (put_kept e es from (joined_end upto es) (joined_start from es) under (omega (arith, under, some, end)))
        ∙ (ap (λ (b : Bool). (nat_le e.1 p && nat_lt p e.0) || b) rest
        ∙ or_assoc (nat_le e.1 p && nat_lt p e.0) (in_entries es p) (nat_le from p && nat_lt p upto)))
    by true is rest =
        let over : from ≤ e.0 = grind (arith, nat_tests, is) in
        ap (λ (n : ℕ). in_entries (put from (joined_end upto (e ∷ es)) n (e ∷ es)) p) (start_here e es from over)
        ∙ (tail_is (e ∷ es) from upto (min e.1 from) p (omega arith, h.1, h.2) over (omega (arith, some))
        ∙ in_start e.0 e.1 from upto p (in_entries es p) over)

pub added_apart : (es : List (ℕ × ℕ)) (base from upto : ℕ) → AreApart base es → base ≤ from → from < upto
    → AreApart base (put from (joined_end upto es) (joined_start from es) es)
added_apart [] base from upto h low some = subst (AreApart base) (sym (put_none from upto from)) (low, some, tt)
added_apart (e ∷ es) base from upto h low some = by (nat_le from e.0) refl (λ later. added_apart es (suc e.0) from upto h.2 later some)
  where
    start : base ≤ e.1
    start = h.0

    by : (b : Bool) → nat_le from e.0 ≡ b → (suc e.0 ≤ from → AreApart (suc e.0) (put from (joined_end upto es) (joined_start from es) es))
        → AreApart base (put from (joined_end upto (e ∷ es)) (joined_start from (e ∷ es)) (e ∷ es))
    by false is rest =
        let under : e.0 < from = grind (arith, nat_tests, is) in
        let end : upto ≤ joined_end upto es = end_from es upto in
        subst (AreApart base) (sym ((λ i. put from (end_later e es upto (omega (arith, under, some)) i) (start_later e es from under i) (e ∷ es))
        ∙ put_kept e es from (joined_end upto es) (joined_start from es) under (omega (arith, under, some, end)))) (h.0, h.1, rest under)
    by true is rest =
        let over : from ≤ e.0 = grind (arith, nat_tests, is) in
        subst (AreApart base) (sym (ap (λ (n : ℕ). put from (joined_end upto (e ∷ es)) n (e ∷ es)) (start_here e es from over)))
        (apart_low (put from (joined_end upto (e ∷ es)) (min e.1 from) (e ∷ es)) (min e.1 from) base (omega (arith, start, low))
        (tail_apart (e ∷ es) from upto (min e.1 from) (omega arith, h.1, h.2) over (omega (arith, some))))

-- ---- the same as sets

pub added_entries : (es inserted new : List (ℕ × ℕ)) (from upto end start : ℕ) → end ≡ joined_end upto es → start ≡ joined_start from es
    → inserted ≡ insert_entry nat_cmp es end start → new ≡ without from end inserted → new ≡ put from (joined_end upto es) (joined_start from es) es
added_entries es inserted new from upto end start to at is left = left ∙ (ap (without from end) is ∙ (λ i. put from (to i) (at i) es))

pub contains-more : (s : FinSet nat_cmp) (from upto p : ℕ) → contains (union s (span from upto)) p ≡ (contains s p || (nat_le from p && nat_lt p upto))
contains-more s from upto p = contains-union nat_cmp_total s (span from upto) p ∙ ap (λ (b : Bool). contains s p || b) (contains-span from upto p)

held_more : (es : List (ℕ × ℕ)) (from upto p : ℕ)
    → contains (union (held es) (span from upto)) p ≡ (in_entries es p || (nat_le from p && nat_lt p upto))
held_more es from upto p = contains-more (held es) from upto p ∙ ap (λ (b : Bool). b || (nat_le from p && nat_lt p upto)) (contains-held es p)

pub added_set : (es : List (ℕ × ℕ)) (from upto : ℕ) → AreApart 0 es → from < upto
    → held (put from (joined_end upto es) (joined_start from es) es) ≡ union (held es) (span from upto)
added_set es from upto h some = same_set nat_cmp_total nat_cmp-IsAntisymmetric _ _ (λ p.
    contains-held (put from (joined_end upto es) (joined_start from es) es) p
    ∙ (added_is es 0 from upto p h some ∙ sym (held_more es from upto p)))

none_in : (from upto p : ℕ) (x : Bool) → upto ≤ from → x ≡ (x || (nat_le from p && nat_lt p upto))
none_in from upto p true none = refl
none_in from upto p false none = grind (arith, nat_tests, none)

pub none_added : (s : FinSet nat_cmp) (from upto : ℕ) → upto ≤ from → s ≡ union s (span from upto)
none_added s from upto none = same_set nat_cmp_total nat_cmp-IsAntisymmetric _ _ (λ p.
    none_in from upto p (contains s p) none ∙ sym (contains-more s from upto p))

pub added_alone : (from upto : ℕ) → union empty (span from upto) ≡ span from upto
added_alone from upto = same_set nat_cmp_total nat_cmp-IsAntisymmetric _ _ (λ p.
    contains-union nat_cmp_total empty (span from upto) p ∙ ap (λ (b : Bool). b || contains (span from upto) p) (contains-empty nat_cmp p))
