-- Steps whose lines rise are a placement of the lines that they take.
use Rattle.std.proofs.Common.{◌≡◌, ℕ, zero, suc, ◌+◌, ◌<◌, ◌≤◌, Bool, true, false, List, [], ◌∷◌, Option, Some, None}
use Rattle.std.proofs.Common.{refl, ap, sym, subst, ◌∙◌, inl, inr, ◌⊎◌, arith}
use Rattle.std.specs.Prelude.{if◌then◌else◌}
use Rattle.std.specs.List.{slice_get}
use Rattle.std.proofs.lemmas.Bool.Decides.{nat_tests}
use Rattle.std.proofs.lemmas.Bool.{cases_order}
use Rattle.std.proofs.lemmas.Option.{none-some, same_Some}
use Rattle.case_forms.specs.declared.calls.Host.TheVariants.{One, Zero}
use Rattle.spec_network.specs.Tables.{on}
use Rattle.spec_network.specs.Hosts.{Answers, At, Begin, HostStep, Does, Drops, Effect, Expires, Finish, Gets, Hears, Kernel, Makes, Sends, Stamped, Step}
use Rattle.spec_network.specs.Hosts.{Takes}
use Rattle.spec_network.specs.HostSteps.{Lawful, start}
use Rattle.spec_merge.specs.Books.{Bring, Do, Entry, Item, Key, host_step_line, step_line}
use Rattle.spec_merge.specs.Merging.{Names, steps_of, with_step}
use Rattle.spec_merge.specs.Keys.{EachEntry, If, KeysRise, before, lesser, merge, merge_with, rank}
use Rattle.spec_merge.specs.Placing.{CallBegin, CallEnd, Event, Line, MomentsRise, NamesAt, Placement, host_step_event, event_of, lines_of}
use Rattle.spec_merge.proofs.Joint.{LinesRise}
use Rattle.spec_network.proofs.Turns.{turns}

-- 1. lines

-- a step takes a line where it names one
both_or_none : (k : Kernel) (step : Step k.shape)
    → ((step_line k step ≡ None) × (event_of k step ≡ None))
    ⊎ ((n : ℕ) × (e : Event k.shape) × (step_line k step ≡ Some n) × (event_of k step ≡ Some e))
both_or_none k (Begin line t call) = inr (line, CallBegin t call, refl, refl)
both_or_none k (Finish line t answer) = inr (line, CallEnd t answer, refl, refl)
both_or_none k (Effect t answer) = inl (refl, refl)
both_or_none k (At side d) = go d
  where
    go : (d : HostStep k.shape)
        → ((host_step_line k d ≡ None) × (host_step_event k side d ≡ None))
        ⊎ ((n : ℕ) × (e : Event k.shape) × (host_step_line k d ≡ Some n) × (host_step_event k side d ≡ Some e))
    go (Does v) = inl (refl, refl)
    go (Expires line v) = inr (line, _, refl, refl)
    go (Makes v) = inl (refl, refl)
    go (Sends line number wire) = inr (line, _, refl, refl)
    go (Gets line copied wire) = inr (line, _, refl, refl)
    go (Hears line wire) = inr (line, _, refl, refl)
    go (Takes line how) = inl (refl, refl)
    go (Drops line) = inl (refl, refl)
    go (Answers line) = inl (refl, refl)

-- the head names no line, or the first
abbrev Head : (k : Kernel) → ℕ → Stamped k.shape → List (Stamped k.shape) → Type 0
Head k n x xs = ((step_line k x.step ≡ None) × (lines_of k (x ∷ xs) ≡ lines_of k xs) × LinesRise k n xs)
    ⊎ ((e : Event k.shape) × (step_line k x.step ≡ Some n) × (event_of k x.step ≡ Some e)
    × (lines_of k (x ∷ xs) ≡ record { moment = x.moment; event = e } ∷ lines_of k xs) × LinesRise k (suc n) xs)

head_line : (k : Kernel) (n : ℕ) (x : Stamped k.shape) (xs : List (Stamped k.shape)) → LinesRise k n (x ∷ xs)
    → Head k n x xs
head_line k n x xs r = go (both_or_none k x.step)
  where
    go : ((step_line k x.step ≡ None) × (event_of k x.step ≡ None))
        ⊎ ((m : ℕ) × (e : Event k.shape) × (step_line k x.step ≡ Some m) × (event_of k x.step ≡ Some e))
        → Head k n x xs
    go (inl g) =
        inl (
          g.0,
          ap (λ (o : Option (Event k.shape)).
              on o (lines_of k xs) (λ e. record { moment = x.moment; event = e } ∷ lines_of k xs)) g.1,
          subst (λ (o : Option ℕ). If o (LinesRise k n xs) (λ line. (line ≡ n) × LinesRise k (suc n) xs)) g.0 r,
        )
    go (inr g) = let h : (g.0 ≡ n) × LinesRise k (suc n) xs =
        subst (λ (o : Option ℕ). If o (LinesRise k n xs) (λ line. (line ≡ n) × LinesRise k (suc n) xs)) g.2 r in
        inr (
          g.1,
          g.2 ∙ ap (λ (m : ℕ). Some m) h.0,
          g.3,
          ap (λ (o : Option (Event k.shape)).
              on o (lines_of k xs) (λ e. record { moment = x.moment; event = e } ∷ lines_of k xs)) g.3,
          h.1,
        )

same_number : (m n : ℕ) (o : Option ℕ) → o ≡ Some m → o ≡ Some n → m ≡ n
same_number m n o p q = same_Some m n (sym p ∙ q)

-- a line named later has a number from the first on
from_first : (k : Kernel) (n : ℕ) (xs : List (Stamped k.shape)) → LinesRise k n xs → (p m : ℕ) → NamesAt k xs p m → n ≤ m
from_first k n [] r p m at = absurd (none-some at.0 at.1)
from_first k n (x ∷ xs) r zero m at = go (head_line k n x xs r)
  where
    go : Head k n x xs → n ≤ m
    go (inl g) = absurd (none-some m (sym g.0 ∙ (ap (λ (y : Stamped k.shape). step_line k y.step) (same_Some x at.0 at.1) ∙ at.2)))
    go (inr g) = let e =
        same_number n m (step_line k x.step) g.1
        (ap (λ (y : Stamped k.shape). step_line k y.step) (same_Some x at.0 at.1) ∙ at.2) in omega arith
from_first k n (x ∷ xs) r (suc p) m at = go (head_line k n x xs r) (λ n r. from_first k n xs r p m at)
  where
    go : Head k n x xs
        → ((n : ℕ) → LinesRise k n xs → n ≤ m) → n ≤ m
    go (inl g) rest = rest n g.2
    go (inr g) rest = let h = rest (suc n) g.4 in omega arith

names_head : (k : Kernel) (x : Stamped k.shape) (xs : List (Stamped k.shape)) (m : ℕ) → NamesAt k (x ∷ xs) zero m → step_line k x.step ≡ Some m
names_head k x xs m at = ap (λ (y : Stamped k.shape). step_line k y.step) (same_Some x at.0 at.1) ∙ at.2

-- later steps name later lines
rises : (k : Kernel) (n : ℕ) (xs : List (Stamped k.shape)) → LinesRise k n xs → (p q a b : ℕ) → NamesAt k xs p a → NamesAt k xs q b → p < q → a < b
rises k n [] r p q a b at bt less = absurd (none-some at.0 at.1)
rises k n (x ∷ xs) r zero zero a b at bt less = absurd (omega arith)
rises k n (x ∷ xs) r (suc p) zero a b at bt less = absurd (omega arith)
rises k n (x ∷ xs) r zero (suc q) a b at bt less = go (head_line k n x xs r)
  where
    go : Head k n x xs → a < b
    go (inl g) = absurd (none-some a (sym g.0 ∙ names_head k x xs a at))
    go (inr g) = let e = same_number n a (step_line k x.step) g.1 (names_head k x xs a at) in let f = from_first k (suc n) xs g.4 q b bt in omega arith
rises k n (x ∷ xs) r (suc p) (suc q) a b at bt less = go (head_line k n x xs r) (λ n r. rises k n xs r p q a b at bt (omega arith))
  where
    go : Head k n x xs → ((n : ℕ) → LinesRise k n xs → a < b) → a < b
    go (inl g) rest = rest n g.2
    go (inr g) rest = rest (suc n) g.4

abbrev TakenAt : (k : Kernel) → ℕ → List (Stamped k.shape) → ℕ → Line k.shape → Type 0
TakenAt k number xs p line =
    (x : Stamped k.shape) × (slice_get xs p ≡ Some x) × (step_line k x.step ≡ Some number)
    × (event_of k x.step ≡ Some line.event) × (x.moment ≡ line.moment)

taken : (k : Kernel) (n : ℕ) (xs : List (Stamped k.shape)) → LinesRise k n xs → (i : ℕ) (line : Line k.shape)
    → slice_get (lines_of k xs) i ≡ Some line → (p : ℕ) × TakenAt k (n + i) xs p line
taken k n [] r i line at = absurd (none-some line at)
taken k n (x ∷ xs) r i line at = go (head_line k n x xs r) i at (λ n r i at. taken k n xs r i line at)
  where
    go : Head k n x xs → (i : ℕ) → slice_get (lines_of k (x ∷ xs)) i ≡ Some line
        → ((n : ℕ) → LinesRise k n xs → (i : ℕ) → slice_get (lines_of k xs) i ≡ Some line
        → (p : ℕ) × TakenAt k (n + i) xs p line) → (p : ℕ) × TakenAt k (n + i) (x ∷ xs) p line
    go (inl g) i at rest = let h = rest n g.2 i (sym (ap (λ (ls : List (Line k.shape)). slice_get ls i) g.1) ∙ at) in (suc h.0, h.1)
    go (inr g) zero at rest =
        let e : record { moment = x.moment; event = g.0 } ≡ line =
        same_Some (let l : Line k.shape = record { moment = x.moment; event = g.0 } in l) line
        (sym (ap (λ (ls : List (Line k.shape)). slice_get ls zero) g.3) ∙ at) in
        let z : n ≡ n + zero = omega arith in
        (zero, (x, refl, g.1 ∙ ap (λ (m : ℕ). Some m) z, g.2 ∙ ap (λ (l : Line k.shape). Some l.event) e, ap (λ (l : Line k.shape). l.moment) e))
    go (inr g) (suc i) at rest = let h = rest (suc n) g.4 i (sym (ap (λ (ls : List (Line k.shape)). slice_get ls (suc i)) g.3) ∙ at) in
        let z : suc n + i ≡ n + suc i = omega arith in
        (suc h.0, subst (λ (m : ℕ). TakenAt k m xs h.0 line) z h.1)

only : (k : Kernel) (n : ℕ) (xs : List (Stamped k.shape)) → LinesRise k n xs → (p m : ℕ) → NamesAt k xs p m
    → (i : ℕ) × (line : Line k.shape) × (m ≡ n + i) × (slice_get (lines_of k xs) i ≡ Some line)
only k n [] r p m at = absurd (none-some at.0 at.1)
only k n (x ∷ xs) r zero m at = go (head_line k n x xs r)
  where
    go : Head k n x xs → (i : ℕ) × (line : Line k.shape) × (m ≡ n + i) × (slice_get (lines_of k (x ∷ xs)) i ≡ Some line)
    go (inl g) = absurd (none-some m (sym g.0 ∙ names_head k x xs m at))
    go (inr g) = let e = same_number n m (step_line k x.step) g.1 (names_head k x xs m at) in
        (zero, record { moment = x.moment; event = g.0 }, omega arith, ap (λ (ls : List (Line k.shape)). slice_get ls zero) g.3)
only k n (x ∷ xs) r (suc p) m at = go (head_line k n x xs r) (λ n r. only k n xs r p m at)
  where
    go : Head k n x xs
        → ((n : ℕ) → LinesRise k n xs
        → (i : ℕ) × (line : Line k.shape) × (m ≡ n + i) × (slice_get (lines_of k xs) i ≡ Some line))
        → (i : ℕ) × (line : Line k.shape) × (m ≡ n + i) × (slice_get (lines_of k (x ∷ xs)) i ≡ Some line)
    go (inl g) rest = let h = rest n g.2 in (h.0, h.1, h.2, ap (λ (ls : List (Line k.shape)). slice_get ls h.0) g.1 ∙ h.3)
    go (inr g) rest = let h = rest (suc n) g.4 in let e = h.2 in
        (suc h.0, h.1, omega arith, ap (λ (ls : List (Line k.shape)). slice_get ls (suc h.0)) g.3 ∙ h.3)

-- 2. moments

each_merge : (k : Kernel) (P : Entry k.shape → Type 0) (xs ys : List (Entry k.shape)) → EachEntry k P xs → EachEntry k P ys → EachEntry k P (merge k xs ys)
each_merge k P [] ys p q = q
each_merge k P (x ∷ xs) ys p q = inner (merge k xs) (each_merge k P xs) ys q
  where
    inner : (rest : List (Entry k.shape) → List (Entry k.shape))
        → ((ys : List (Entry k.shape)) → EachEntry k P xs → EachEntry k P ys → EachEntry k P (rest ys))
        → (ys : List (Entry k.shape)) → EachEntry k P ys → EachEntry k P (merge_with k x rest ys)
    inner rest told [] q = (p.0, told [] p.1 tt)
    inner rest told (y ∷ ys) q = go (before x.key y.key) (inner rest told ys q.1)
      where
        go : (b : Bool) → EachEntry k P (merge_with k x rest ys) → EachEntry k P (if b then x ∷ rest (y ∷ ys) else y ∷ merge_with k x rest ys)
        go true more = (p.0, told (y ∷ ys) p.1 q)
        go false more = (q.0, more)

abbrev From : (k : Kernel) → ℕ → List (Entry k.shape) → Type 0
From k m xs = EachEntry k (λ y. m ≤ y.key.moment) xs

abbrev Sorted : (k : Kernel) → List (Entry k.shape) → Type 0
Sorted k [] = Unit {0}
Sorted k (x ∷ xs) = From k x.key.moment xs × Sorted k xs

not_before : (a b c x y z : ℕ) → lesser x y z a b c ≡ false → a ≤ x
not_before a b c x y z e = grind (arith, nat_tests)

is_before : (a b c x y z : ℕ) → lesser a b c x y z ≡ true → a ≤ x
is_before a b c x y z e = grind (arith, nat_tests)

from_keys : (k : Kernel) (x : Key) (ys : List (Entry k.shape)) → EachEntry k (λ y. before y.key x ≡ false) ys → From k x.moment ys
from_keys k x [] g = tt
from_keys k x (y ∷ ys) g = (not_before x.moment x.counter (rank x.host) y.key.moment y.key.counter (rank y.key.host) g.0, from_keys k x ys g.1)

from_less : (k : Kernel) (m n : ℕ) → m ≤ n → (ys : List (Entry k.shape)) → From k n ys → From k m ys
from_less k m n le [] g = tt
from_less k m n le (y ∷ ys) g = ((let h = g.0 in omega arith), from_less k m n le ys g.1)

sorted_merge : (k : Kernel) (xs ys : List (Entry k.shape)) → KeysRise k Zero xs → KeysRise k One ys → Sorted k (merge k xs ys)
sorted_merge k [] ys p q = one ys q
  where
    one : (ys : List (Entry k.shape)) → KeysRise k One ys → Sorted k ys
    one [] q = tt
    one (y ∷ ys) q = (from_keys k y.key ys q.1, one ys q.2)
sorted_merge k (x ∷ xs) ys p q = inner (merge k xs) (λ ys. sorted_merge k xs ys p.2) (λ m ys f g. each_merge k (λ y. m ≤ y.key.moment) xs ys f g) ys q
  where
    with_from : (rest : List (Entry k.shape) → List (Entry k.shape))
        → ((m : ℕ) (ys : List (Entry k.shape)) → From k m xs → From k m ys → From k m (rest ys))
        → (m : ℕ) (ys : List (Entry k.shape)) → m ≤ x.key.moment → From k m xs → From k m ys
        → From k m (merge_with k x rest ys)
    with_from rest low m [] le f g = (le, low m [] f tt)
    with_from rest low m (y ∷ ys) le f g = go (before x.key y.key) (with_from rest low m ys le f g.1)
      where
        go : (b : Bool) → From k m (merge_with k x rest ys) → From k m (if b then x ∷ rest (y ∷ ys) else y ∷ merge_with k x rest ys)
        go true more = (le, low m (y ∷ ys) f g)
        go false more = (g.0, more)

    inner : (rest : List (Entry k.shape) → List (Entry k.shape))
        → ((ys : List (Entry k.shape)) → KeysRise k One ys → Sorted k (rest ys))
        → ((m : ℕ) (ys : List (Entry k.shape)) → From k m xs → From k m ys → From k m (rest ys))
        → (ys : List (Entry k.shape)) → KeysRise k One ys → Sorted k (merge_with k x rest ys)
    inner rest told low [] q = (low x.key.moment [] (from_keys k x.key xs p.1) tt, told [] tt)
    inner rest told low (y ∷ ys) q = go (before x.key y.key) refl (inner rest told low ys q.2)
      where
        go : (b : Bool) → before x.key y.key ≡ b → Sorted k (merge_with k x rest ys) → Sorted k (if b then x ∷ rest (y ∷ ys) else y ∷ merge_with k x rest ys)
        go true is more =
            let le = is_before x.key.moment x.key.counter (rank x.key.host) y.key.moment y.key.counter (rank y.key.host) is in
            (low x.key.moment (y ∷ ys) (from_keys k x.key xs p.1) (le, from_less k x.key.moment y.key.moment le ys (from_keys k y.key ys q.1)), told (y ∷ ys) q)
        go false is more =
            let le = not_before y.key.moment y.key.counter (rank y.key.host) x.key.moment x.key.counter (rank x.key.host) is in
            (with_from rest low y.key.moment ys le (from_less k y.key.moment x.key.moment le xs (from_keys k x.key xs p.1)) (from_keys k y.key ys q.1), more)

steps_rise : (k : Kernel) (names : Names) (m : ℕ) (zs : List (Entry k.shape)) → From k m zs → Sorted k zs → MomentsRise k m (steps_of k names zs)
steps_rise k names m [] f g = tt
steps_rise k names m (x ∷ xs) f g = go x.item f.0 (steps_rise k names m xs f.1 g.1) (steps_rise k names x.key.moment xs g.0 g.1)
  where
    go : (item : Item k.shape) → m ≤ x.key.moment → MomentsRise k m (steps_of k names xs)
        → MomentsRise k x.key.moment (steps_of k names xs)
        → MomentsRise k m (with_step k names x.key item (steps_of k names xs))
    go (Do step) le low high = (le, high)
    go (Bring fl) le low high = low

from_zero : (k : Kernel) (zs : List (Entry k.shape)) → From k 0 zs
from_zero k [] = tt
from_zero k (z ∷ zs) = (omega arith, from_zero k zs)

-- 4. the placement

-- a run whose lines are numbered on and whose moments don't fall is a placement of the lines that it takes
pub placement_of : (k : Kernel) (skew first : ℕ) (xs : List (Stamped k.shape)) → LinesRise k first xs
    → MomentsRise k 0 xs → Lawful k (start k) xs → Placement k skew first (lines_of k xs) xs
placement_of k skew first xs r m l = record {
  moments = m;
  taken = λ i line at. let h = taken k first xs r i line at in let e = h.1.4 in (h.0, (h.1.0, h.1.1, h.1.2, h.1.3, omega arith, omega arith));
  once = λ p q n a b. go p q n (rises k first xs r p q n n a b) (rises k first xs r q p n n b a) (cases_order p q);
  only = λ p n a. only k first xs r p n a;
  order = λ p q a b at bt less. ord p q a b less at bt (cases_order p q) (rises k first xs r q p b a bt at);
  turns = λ t. turns k t (start k) xs l;
}
  where
    go : (p q n : ℕ) → (p < q → n < n) → (q < p → n < n) → (p ≡ q) ⊎ ((p < q) ⊎ (q < p)) → p ≡ q
    go p q n f g (inl e) = e
    go p q n f g (inr (inl e)) = let h = f e in absurd (omega arith)
    go p q n f g (inr (inr e)) = let h = g e in absurd (omega arith)

    ord : (p q a b : ℕ) → a < b → NamesAt k xs p a → NamesAt k xs q b → (p ≡ q) ⊎ ((p < q) ⊎ (q < p)) → (q < p → b < a) → p < q
    ord p q a b less at bt (inl e) f = let s =
        same_number a b (step_line k bt.0.step)
        (subst (λ (x : Stamped k.shape). step_line k x.step ≡ Some a)
        (same_Some at.0 bt.0 (sym at.1 ∙ (ap (λ (i : ℕ). slice_get xs i) e ∙ bt.1))) at.2) bt.2 in
        absurd (omega arith)
    ord p q a b less at bt (inr (inl e)) f = e
    ord p q a b less at bt (inr (inr e)) f = let h = f e in absurd (omega arith)

-- so are the steps of two merged books
pub placed : (k : Kernel) (skew first : ℕ) (names : Names) (xs ys : List (Entry k.shape)) → KeysRise k Zero xs
    → KeysRise k One ys → LinesRise k first (steps_of k names (merge k xs ys))
    → Lawful k (start k) (steps_of k names (merge k xs ys))
    → Placement k skew first (lines_of k (steps_of k names (merge k xs ys))) (steps_of k names (merge k xs ys))
placed k skew first names xs ys p q r l =
    placement_of k skew first (steps_of k names (merge k xs ys)) r
    (steps_rise k names 0 (merge k xs ys) (from_zero k (merge k xs ys)) (sorted_merge k xs ys p q)) l
