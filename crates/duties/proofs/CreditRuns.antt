-- Credits of two runs: if in each window of moments the one has at least as many as the other, it still has after both
-- earn one, and after both take one, if it may take older ones.
use Rattle.std.proofs.Common.{◌≡◌, ℕ, suc, ◌+◌, ◌-◌, ◌≤◌, Bool, true, false, ◌||◌, nat_lt, List, [], ◌∷◌, Option, None, Some, refl, ap, ◌∙◌, sym, subst, arith}
use Rattle.std.specs.Prelude.{if◌then◌else◌}
use Rattle.std.specs.List.{AllByRecursion}
use Rattle.std.proofs.lemmas.Bool.Decides.{nat_tests}
use Rattle.std.proofs.lemmas.Option.{none-some, same_Some}
use Rattle.spec_duties.specs.Credits.{credit_of, earned, has_credit, is_credit_from, spent}
use Rattle.spec_cases.specs.Slack.{AreInOrder, credits_left}

-- one counts or doesn't
abbrev pub one_if : Bool → ℕ
one_if true = 1
one_if false = 0

-- ---- one is earned

pub left_earned : (p m c : ℕ) (xs : List ℕ) → credits_left p m (earned c xs) ≡ one_if (is_credit_from p m c) + credits_left p m xs
left_earned p m c [] = by (is_credit_from p m c)
  where
    by : (b : Bool) → (if b then suc 0 else 0) ≡ one_if b + 0
    by true = refl
    by false = refl
left_earned p m c (x ∷ xs) = by (nat_lt x c) (left_earned p m c xs)
  where
    front : (b : Bool) (n : ℕ) → (if b then suc n else n) ≡ one_if b + n
    front true n = omega arith
    front false n = omega arith

    swap : (b : Bool) (k n m : ℕ) → n ≡ k + m → (if b then suc n else n) ≡ k + (if b then suc m else m)
    swap true k n m is = omega (arith, is)
    swap false k n m is = is

    by : (b : Bool) → credits_left p m (earned c xs) ≡ one_if (is_credit_from p m c) + credits_left p m xs
        → credits_left p m (if b then x ∷ earned c xs else c ∷ x ∷ xs) ≡ one_if (is_credit_from p m c) + credits_left p m (x ∷ xs)
    by true rest = swap (is_credit_from p m x) (one_if (is_credit_from p m c)) (credits_left p m (earned c xs)) (credits_left p m xs) rest
    by false rest = front (is_credit_from p m c) (credits_left p m (x ∷ xs))

order_below : (c x : ℕ) (xs : List ℕ) → c ≤ x → AllByRecursion (λ y. x ≤ y) xs → AllByRecursion (λ y. c ≤ y) xs
order_below c x [] le all = tt
order_below c x (y ∷ ys) le all = (let next : x ≤ y = all.0 in omega (arith, le, next), order_below c x ys le all.1)

all_earned : (x c : ℕ) (xs : List ℕ) → x ≤ c → AllByRecursion (λ y. x ≤ y) xs → AllByRecursion (λ y. x ≤ y) (earned c xs)
all_earned x c [] le all = (le, tt)
all_earned x c (y ∷ ys) le all = by (nat_lt y c) (all_earned x c ys le all.1)
  where
    by : (b : Bool) → AllByRecursion (λ y. x ≤ y) (earned c ys)
        → AllByRecursion (λ y. x ≤ y) (if b then y ∷ earned c ys else c ∷ y ∷ ys)
    by true rest = (all.0, rest)
    by false rest = (le, all)

pub order_earned : (c : ℕ) (xs : List ℕ) → AreInOrder xs → AreInOrder (earned c xs)
order_earned c [] order = (tt, tt)
order_earned c (x ∷ xs) order = by (nat_lt x c) refl (order_earned c xs order.1)
  where
    by : (b : Bool) → nat_lt x c ≡ b → AreInOrder (earned c xs) → AreInOrder (if b then x ∷ earned c xs else c ∷ x ∷ xs)
    by true less rest = (all_earned x c xs (grind (arith, nat_tests, less)) order.0, rest)
    by false less rest =
        let le : c ≤ x = grind (arith, nat_tests, less) in
        ((le, order_below c x xs le order.0), order)

-- ---- one is taken

all_spent : (x p t : ℕ) (xs : List ℕ) → AllByRecursion (λ y. x ≤ y) xs → AllByRecursion (λ y. x ≤ y) (spent p t xs)
all_spent x p t [] all = tt
all_spent x p t (y ∷ ys) all = by (is_credit_from p t y) (all_spent x p t ys all.1)
  where
    by : (b : Bool) → AllByRecursion (λ y. x ≤ y) (spent p t ys)
        → AllByRecursion (λ y. x ≤ y) (if b then ys else y ∷ spent p t ys)
    by true rest = all.1
    by false rest = (all.0, rest)

pub order_spent : (p t : ℕ) (xs : List ℕ) → AreInOrder xs → AreInOrder (spent p t xs)
order_spent p t [] order = tt
order_spent p t (x ∷ xs) order = by (is_credit_from p t x) (order_spent p t xs order.1)
  where
    by : (b : Bool) → AreInOrder (spent p t xs) → AreInOrder (if b then xs else x ∷ spent p t xs)
    by true rest = order.1
    by false rest = (all_spent x p t xs order.0, rest)

-- the one that is taken
abbrev pub taken : (p t : ℕ) → List ℕ → Option ℕ
taken p t [] = None
taken p t (x ∷ xs) = if is_credit_from p t x then Some x else taken p t xs

-- it is what is missing then
left_spent : (p t : ℕ) (xs : List ℕ) (c : ℕ) → taken p t xs ≡ Some c
    → (q m : ℕ) → one_if (is_credit_from q m c) + credits_left q m (spent p t xs) ≡ credits_left q m xs
left_spent p t [] c is q m = absurd (none-some c is)
left_spent p t (x ∷ xs) c is q m = by (is_credit_from p t x) is (λ rest. left_spent p t xs c rest q m)
  where
    more : (b : Bool) (n k : ℕ) → n + k ≡ credits_left q m xs
        → n + (if b then suc k else k) ≡ (if b then suc (credits_left q m xs) else credits_left q m xs)
    more true n k is = omega (arith, is)
    more false n k is = is

    first : (b : Bool) → one_if b + credits_left q m xs ≡ (if b then suc (credits_left q m xs) else credits_left q m xs)
    first true = omega arith
    first false = omega arith

    by : (b : Bool) → (if b then Some x else taken p t xs) ≡ Some c
        → (taken p t xs ≡ Some c → one_if (is_credit_from q m c) + credits_left q m (spent p t xs) ≡ credits_left q m xs)
        → one_if (is_credit_from q m c) + credits_left q m (if b then xs else x ∷ spent p t xs) ≡ credits_left q m (x ∷ xs)
    by true is rest =
        subst (λ (n : ℕ). one_if (is_credit_from q m n) + credits_left q m xs ≡ credits_left q m (x ∷ xs)) (same_Some x c is)
        (first (is_credit_from q m x))
    by false is rest = more (is_credit_from q m x) (one_if (is_credit_from q m c)) (credits_left q m (spent p t xs)) (rest is)

-- it serves
taken_serves : (p t : ℕ) (xs : List ℕ) (c : ℕ) → taken p t xs ≡ Some c → is_credit_from p t c ≡ true
taken_serves p t [] c is = absurd (none-some c is)
taken_serves p t (x ∷ xs) c is = by (is_credit_from p t x) refl is (taken_serves p t xs c)
  where
    by : (b : Bool) → is_credit_from p t x ≡ b → (if b then Some x else taken p t xs) ≡ Some c
        → (taken p t xs ≡ Some c → is_credit_from p t c ≡ true) → is_credit_from p t c ≡ true
    by true at is rest = subst (λ (n : ℕ). is_credit_from p t n ≡ true) (same_Some x c is) at
    by false at is rest = rest is

-- without one, nothing is taken
none_taken : (p t : ℕ) (xs : List ℕ) → taken p t xs ≡ None → spent p t xs ≡ xs
none_taken p t [] is = refl
none_taken p t (x ∷ xs) is = by (is_credit_from p t x) is (none_taken p t xs)
  where
    by : (b : Bool) → (if b then Some x else taken p t xs) ≡ None → (taken p t xs ≡ None → spent p t xs ≡ xs)
        → (if b then xs else x ∷ spent p t xs) ≡ x ∷ xs
    by true is rest = absurd (none-some x (sym is))
    by false is rest = ap (λ (ys : List ℕ). x ∷ ys) (rest is)

-- there is one to take
some_taken : (p t : ℕ) (xs : List ℕ) → has_credit p t xs ≡ true → (c : ℕ) × (taken p t xs ≡ Some c)
some_taken p t [] is = absurd cc
some_taken p t (x ∷ xs) is = by (is_credit_from p t x) is (some_taken p t xs)
  where
    by : (b : Bool) → (b || has_credit p t xs) ≡ true → (has_credit p t xs ≡ true → (c : ℕ) × (taken p t xs ≡ Some c))
        → (c : ℕ) × ((if b then Some x else taken p t xs) ≡ Some c)
    by true is rest = (x, refl)
    by false is rest = rest is

-- a window that begins earlier has no less
wider : (p early late x : ℕ) → early ≤ late → is_credit_from p late x ≡ true → is_credit_from p early x ≡ true
wider p early late x le is = grind (arith, nat_tests, le, is)

pub left_wider : (p early late : ℕ) (xs : List ℕ) → early ≤ late → credits_left p late xs ≤ credits_left p early xs
left_wider p early late [] le = omega arith
left_wider p early late (x ∷ xs) le = by (is_credit_from p late x) (is_credit_from p early x) (wider p early late x le) (left_wider p early late xs le)
  where
    by : (a b : Bool) → (a ≡ true → b ≡ true) → credits_left p late xs ≤ credits_left p early xs
        → (if a then suc (credits_left p late xs) else credits_left p late xs)
        ≤ (if b then suc (credits_left p early xs) else credits_left p early xs)
    by true true also rest = omega (arith, rest)
    by true false also rest = absurd (let no : false ≡ true = also refl in cc)
    by false true also rest = omega (arith, rest)
    by false false also rest = rest

-- what serves is left
pub left_some : (p t : ℕ) (xs : List ℕ) → has_credit p t xs ≡ true → 1 ≤ credits_left p t xs
left_some p t [] is = absurd cc
left_some p t (x ∷ xs) is = by (is_credit_from p t x) is (left_some p t xs)
  where
    by : (b : Bool) → (b || has_credit p t xs) ≡ true → (has_credit p t xs ≡ true → 1 ≤ credits_left p t xs)
        → 1 ≤ (if b then suc (credits_left p t xs) else credits_left p t xs)
    by true is rest = omega arith
    by false is rest = rest is

pub some_left : (p t : ℕ) (xs : List ℕ) → 1 ≤ credits_left p t xs → has_credit p t xs ≡ true
some_left p t [] le = absurd (omega (arith, le))
some_left p t (x ∷ xs) le = by (is_credit_from p t x) le (some_left p t xs)
  where
    by : (b : Bool) → 1 ≤ (if b then suc (credits_left p t xs) else credits_left p t xs)
        → (1 ≤ credits_left p t xs → has_credit p t xs ≡ true) → (b || has_credit p t xs) ≡ true
    by true le rest = refl
    by false le rest = rest le

-- ---- the exchange

-- what serves from an early moment on is no older than the one that is taken
least : (p t : ℕ) (xs : List ℕ) (c : ℕ) → AreInOrder xs → taken p t xs ≡ Some c → AllByRecursion (λ x. is_credit_from p t x ≡ true → c ≤ x) xs
least p t [] c order is = tt
least p t (x ∷ xs) c order is = by (is_credit_from p t x) refl is (least p t xs c order.1)
  where
    above : (ys : List ℕ) → x ≡ c → AllByRecursion (λ y. x ≤ y) ys → AllByRecursion (λ y. is_credit_from p t y ≡ true → c ≤ y) ys
    above [] same all = tt
    above (y ∷ ys) same all = (λ serves. let le : x ≤ y = all.0 in omega (arith, le, same), above ys same all.1)

    by : (b : Bool) → is_credit_from p t x ≡ b → (if b then Some x else taken p t xs) ≡ Some c
        → (taken p t xs ≡ Some c → AllByRecursion (λ y. is_credit_from p t y ≡ true → c ≤ y) xs)
        → AllByRecursion (λ y. is_credit_from p t y ≡ true → c ≤ y) (x ∷ xs)
    by true at is rest = let same : x ≡ c = same_Some x c is in (λ serves. omega (arith, same), above xs same order.0)
    by false at is rest = (λ serves. absurd (let no : false ≡ true = sym at ∙ serves in cc no), rest is)

-- between that moment and the credit's own there is none
same_window : (p t u m c x : ℕ) → t ≤ u → u ≤ m → is_credit_from p m c ≡ true → (is_credit_from p t x ≡ true → c ≤ x)
    → is_credit_from p u x ≡ is_credit_from p m x
same_window p t u m c x low high served serves = by (is_credit_from p u x) (is_credit_from p m x) refl refl
  where
    by : (a b : Bool) → is_credit_from p u x ≡ a → is_credit_from p m x ≡ b → a ≡ b
    by true true e f = refl
    by false false e f = refl
    by true false e f =
        let le : c ≤ x = serves (wider p t u x low e) in
        absurd (let is : is_credit_from p m x ≡ true = grind (arith, nat_tests, le, e, served) in let no : true ≡ false = sym is ∙ f in cc no)
    by false true e f = absurd (let no : true ≡ false = sym (wider p u m x high f) ∙ e in cc no)

none_between : (p t u m c : ℕ) (xs : List ℕ) → t ≤ u → u ≤ m → is_credit_from p m c ≡ true
    → AllByRecursion (λ x. is_credit_from p t x ≡ true → c ≤ x) xs → credits_left p u xs ≡ credits_left p m xs
none_between p t u m c [] low high served all = refl
none_between p t u m c (x ∷ xs) low high served all =
    rw (same_window p t u m c x low high served all.0, none_between p t u m c xs low high served all.1) refl

-- one that is taken is in the window from its own moment on, and not in a later one
one_between : (p t u m : ℕ) (xs : List ℕ) (c : ℕ) → taken p t xs ≡ Some c → u ≤ m → is_credit_from p u c ≡ true → is_credit_from p m c ≡ false
    → suc (credits_left p m xs) ≤ credits_left p u xs
one_between p t u m xs c is le inside outside =
    let at_u = left_spent p t xs c is p u in
    let at_m = left_spent p t xs c is p m in
    let less = left_wider p u m (spent p t xs) le in
    let u_is : 1 + credits_left p u (spent p t xs) ≡ credits_left p u xs = rw inside at at_u in
    let m_is : 0 + credits_left p m (spent p t xs) ≡ credits_left p m xs = rw outside at at_m in
    omega (arith, u_is, m_is, less)

-- an endpoint's moments
moment_of : (p t c : ℕ) → is_credit_from p t c ≡ true → (u : ℕ) × (c ≡ credit_of p u) × (t ≤ u)
moment_of p t c is = (c - credit_of p 0, grind (arith, nat_tests, is), grind (arith, nat_tests, is))

one_place : (p q t m c : ℕ) → is_credit_from p t c ≡ true → is_credit_from q m c ≡ true → p ≡ q
one_place p q t m c a b = grind (arith, nat_tests, a, b)

-- the one run takes a credit that is too old for a window in which the other takes one, or younger
exchanged : (p early late m : ℕ) (few many : List ℕ) (a c : ℕ) → early ≤ late → AreInOrder many
    → ((m : ℕ) → credits_left p m few ≤ credits_left p m many) → taken p late few ≡ Some a → taken p early many ≡ Some c
    → is_credit_from p m c ≡ true → is_credit_from p m a ≡ false
    → credits_left p m (spent p late few) ≤ credits_left p m (spent p early many)
exchanged p early late m few many a c le order more was is inside outside =
    let serves : is_credit_from p late a ≡ true = taken_serves p late few a was in
    let u = moment_of p late a serves in
    let u_is = u.1 in
    let after : late ≤ u.0 = u.2 in
    let its : is_credit_from p u.0 a ≡ true = grind (arith, nat_tests, serves, u_is) in
    let earlier : u.0 ≤ m = grind (arith, nat_tests, serves, outside, u_is) in
    let here = one_between p late u.0 m few a was earlier its outside in
    let there = none_between p early u.0 m c many (omega (arith, le, after)) earlier inside (least p early many c order is) in
    let between = more u.0 in
    let few_is : one_if false + credits_left p m (spent p late few) ≡ credits_left p m few =
    ap (λ (b : Bool). one_if b + credits_left p m (spent p late few)) (sym outside) ∙ left_spent p late few a was p m in
    let many_is : one_if true + credits_left p m (spent p early many) ≡ credits_left p m many =
    ap (λ (b : Bool). one_if b + credits_left p m (spent p early many)) (sym inside) ∙ left_spent p early many c is p m in
    omega (arith, here, there, between, few_is, many_is)

pub left_exchanged : (p early late : ℕ) (few many : List ℕ) → early ≤ late → AreInOrder many → has_credit p late few ≡ true
    → ((q m : ℕ) → credits_left q m few ≤ credits_left q m many)
    → (q m : ℕ) → credits_left q m (spent p late few) ≤ credits_left q m (spent p early many)
left_exchanged p early late few many le order some more q m = by (taken p early many) refl
  where
    a : (c : ℕ) × (taken p late few ≡ Some c)
    a = some_taken p late few some

    with : (c : ℕ) → taken p early many ≡ Some c → (x y : Bool) → is_credit_from q m c ≡ x → is_credit_from q m a.0 ≡ y
        → one_if x + credits_left q m (spent p early many) ≡ credits_left q m many
        → one_if y + credits_left q m (spent p late few) ≡ credits_left q m few
        → credits_left q m (spent p late few) ≤ credits_left q m (spent p early many)
    with c is false true e f many_is few_is = let le = more q m in omega (arith, le, many_is, few_is)
    with c is false false e f many_is few_is = let le = more q m in omega (arith, le, many_is, few_is)
    with c is true true e f many_is few_is = let le = more q m in omega (arith, le, many_is, few_is)
    with c is true false e f many_is few_is =
        let same : p ≡ q = one_place p q early m c (taken_serves p early many c is) e in
        subst (λ (n : ℕ). credits_left n m (spent p late few) ≤ credits_left n m (spent p early many)) same
        (exchanged p early late m few many a.0 c le order (more p) a.1 is
        (subst (λ (n : ℕ). is_credit_from n m c ≡ true) (sym same) e) (subst (λ (n : ℕ). is_credit_from n m a.0 ≡ false) (sym same) f))

    own : (b : Bool) → one_if b + credits_left q m (spent p late few) ≡ credits_left q m few → credits_left q m (spent p late few) ≤ credits_left q m many
    own true is = let le = more q m in omega (arith, le, is)
    own false is = let le = more q m in omega (arith, le, is)

    by : (o : Option ℕ) → taken p early many ≡ o → credits_left q m (spent p late few) ≤ credits_left q m (spent p early many)
    by None is = rw (none_taken p early many is) (own (is_credit_from q m a.0) (left_spent p late few a.0 a.1 q m))
    by (Some c) is =
        with c is (is_credit_from q m c) (is_credit_from q m a.0) refl refl (left_spent p early many c is q m) (left_spent p late few a.0 a.1 q m)
