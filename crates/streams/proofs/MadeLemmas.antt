-- What was made, where those that are marked were made again.
use Rattle.std.proofs.Common.{◌≡◌, ℕ, zero, suc, ◌+◌, ◌-◌, ◌<◌, ◌≤◌, Bool, true, false, ◌&&◌, ◌||◌, nat_le, nat_lt}
use Rattle.std.proofs.Common.{List, [], ◌∷◌, ◌++◌, length, take, drop, min, length-drop, replicate, Some, Result, Ok}
use Rattle.std.proofs.Common.{Err, OnErr, refl, sym, ap, ◌∙◌, arith}
use Rattle.std.proofs.lemmas.Bool.Decides.{nat_tests}
use Rattle.std.specs.Prelude.{if◌then◌else◌}
use Rattle.streams.specs.declared.transmission.Transmission.{Transmission}
use Rattle.streams.specs.declared.marks.Marks.{Marks}
use Rattle.streams.specs.declared.runs.Run.{Run}
use Rattle.streams.specs.Lists.{covered}
use Rattle.streams.specs.Transmissions.{any_again, made, retransmitted, made_moment, mark, once, remade}
use Rattle.streams.specs.Marks.{IsBelow, is_marked, marked}
use Rattle.streams.specs.Views.{expand}
use Rattle.streams.proofs.MarkLemmas.{unmarked}

pub marked-cong : (f g : ℕ → Bool) (at : ℕ) (all : List Transmission) → ((p : ℕ) → at ≤ p → p < at + length all → f p ≡ g p) → marked f at all ≡ marked g at all
marked-cong f g at [] h = refl
marked-cong f g at (x ∷ all) h =
    let first : f at ≡ g at = h at (omega arith) (omega arith) in
    let rest : marked f (suc at) all ≡ marked g (suc at) all = marked-cong f g (suc at) all (λ p low high. h p (omega arith) (omega arith)) in
    rw (first, rest) refl

pub length-marked : (f : ℕ → Bool) (at : ℕ) (all : List Transmission) → length (marked f at all) ≡ length all
length-marked f at [] = refl
length-marked f at (x ∷ all) = ap (λ (n : ℕ). suc n) (length-marked f (suc at) all)

marked-append : (f : ℕ → Bool) (at : ℕ) (xs ys : List Transmission) → marked f at (xs ++ ys) ≡ marked f at xs ++ marked f (at + length xs) ys
marked-append f at [] ys = let same : at + 0 ≡ at = omega arith in rw same refl
marked-append f at (x ∷ xs) ys = let same : at + suc (length xs) ≡ suc at + length xs = omega arith in
    rw same (ap (λ (all : List Transmission). (if f at then remade x else x) ∷ all) (marked-append f (suc at) xs ys))

marked-none : (f : ℕ → Bool) (at : ℕ) (all : List Transmission) → ((p : ℕ) → at ≤ p → f p ≡ false) → marked f at all ≡ all
marked-none f at [] h = refl
marked-none f at (x ∷ all) h = rw (h at (omega arith), marked-none f (suc at) all (λ p low. h p (omega arith))) refl

-- what is marked on top of others
abbrev with_range : (f : ℕ → Bool) (a b : ℕ) → ℕ → Bool
with_range f a b p = f p || (nat_le a p && nat_lt p b)

or_false : (b : Bool) → (b || false) ≡ b
or_false true = refl
or_false false = refl

twice : (b : Bool) (x : Transmission) → remade (if b then remade x else x) ≡ (if b || true then remade x else x)
twice true x = refl
twice false x = refl

mark-marked : (f : ℕ → Bool) (at p c a b : ℕ) (all : List Transmission) → a ≡ at + p → b ≡ a + c → mark p c (marked f at all) ≡ marked (with_range f a b) at all
mark-marked f at p c a b [] from upto = refl
mark-marked f at (suc p) c a b (x ∷ all) from upto =
    let apart : (nat_le a at && nat_lt at b) ≡ false = grind (arith, nat_tests, from) in
    rw (apart, or_false (f at)) (ap (λ (ys : List Transmission). (if f at then remade x else x) ∷ ys) (mark-marked f (suc at) p c a b all (omega arith) upto))
mark-marked f at zero zero a b (x ∷ all) from upto =
    marked-cong f (with_range f a b) at (x ∷ all)
    (λ p low high. let apart : (nat_le a p && nat_lt p b) ≡ false = grind (arith, nat_tests, upto) in
    rw apart (sym (or_false (f p))))
mark-marked f at zero (suc c) a b (x ∷ all) from upto =
    let here : (nat_le a at && nat_lt at b) ≡ true = grind (arith, nat_tests, from, upto) in
    let rest : mark zero c (marked f (suc at) all) ≡ marked (with_range f a b) (suc at) all =
    mark-marked f (suc at) zero c (suc a) b all (omega arith) (omega arith)
    ∙ marked-cong (with_range f (suc a) b) (with_range f a b) (suc at) all (λ p low high.
    let one : nat_le (suc a) p ≡ true = grind (arith, nat_tests, from, low) in
    let two : nat_le a p ≡ true = grind (arith, nat_tests, from, low) in
    rw (one, two) refl) in
    rw (here, rest) (ap (λ (y : Transmission). y ∷ marked (with_range f a b) (suc at) all) (twice (f at) x))

pub drop-marked : (f : ℕ → Bool) (at k : ℕ) (all : List Transmission) → drop k (marked f at all) ≡ marked f (at + k) (drop k all)
drop-marked f at zero all = let same : at + 0 ≡ at = omega arith in rw same refl
drop-marked f at (suc k) [] = refl
drop-marked f at (suc k) (x ∷ all) = let same : at + suc k ≡ suc at + k = omega arith in rw same (drop-marked f (suc at) k all)

covered-marked : (f g : ℕ → Bool) (at n snd_una : ℕ) (all : List Transmission) → snd_una ≡ at + n
    → ((p : ℕ) → g p ≡ (nat_le snd_una p && f p))
    → covered (once 0) n (marked f at all) ≡ marked g at (covered (once 0) n all)
covered-marked f g at zero snd_una all is h =
    marked-cong f g at all (λ p low high. let from : nat_le snd_una p ≡ true = grind (arith, nat_tests, is, low) in
    sym (h p ∙ ap (λ (b : Bool). b && f p) from))
covered-marked f g at (suc n) snd_una [] is h = refl
covered-marked f g at (suc n) snd_una (x ∷ all) is h =
    let below : nat_le snd_una at ≡ false = grind (arith, nat_tests, is) in
    let none : g at ≡ false = h at ∙ ap (λ (b : Bool). b && f at) below in
    rw none (ap (λ (ys : List Transmission). once 0 ∷ ys) (covered-marked f g (suc at) n snd_una all (omega arith) h))

moment_is : (b : Bool) (x : Transmission) → (if b then remade x else x).moment ≡ x.moment
moment_is true x = refl
moment_is false x = refl

pub moment-marked : (f : ℕ → Bool) (at p : ℕ) (all : List Transmission) → made_moment (marked f at all) p ≡ made_moment all p
moment-marked f at p [] = refl
moment-marked f at zero (x ∷ all) = ap (λ (n : ℕ). Some n) (moment_is (f at) x)
moment-marked f at (suc p) (x ∷ all) = moment-marked f (suc at) p all

again_is : (b : Bool) (x : Transmission) → (if b then remade x else x).again ≡ (b || x.again)
again_is true x = refl
again_is false x = refl

or_right : (a b : Bool) → b ≡ true → (a || b) ≡ true
or_right true b is = refl
or_right false b is = is

again_some : (f : ℕ → Bool) (at n p : ℕ) (all : List Transmission) → at ≤ p → p < at + n → p < at + length all
    → f p ≡ true → any_again (take n (marked f at all)) ≡ true
again_some f at n p [] low high end is = absurd (omega arith)
again_some f at zero p (x ∷ all) low high end is = absurd (omega arith)
again_some f at (suc n) p (x ∷ all) low high end is = by (f at) refl (λ later. again_some f (suc at) n p all later (omega arith) (omega arith) is)
  where
    by : (b : Bool) → f at ≡ b → (suc at ≤ p → any_again (take n (marked f (suc at) all)) ≡ true) → any_again (take (suc n) (marked f at (x ∷ all))) ≡ true
    by true here rest = rw here refl
    by false other rest =
        or_right (if f at then remade x else x).again (any_again (take n (marked f (suc at) all)))
        (rest (let away : at ≡ p → ⊥ = (λ same. let one : f at ≡ true = ap f same ∙ is in cc) in omega arith))

first_false : (a b : Bool) → (a || b) ≡ false → (a ≡ false) × (b ≡ false)
first_false true b is = absurd cc
first_false false b is = (refl, is)

again_none : (f : ℕ → Bool) (at n : ℕ) (all : List Transmission) → ((p : ℕ) → at ≤ p → p < at + n → f p ≡ false)
    → any_again all ≡ false → any_again (take n (marked f at all)) ≡ false
again_none f at n [] h fresh = ap any_again (take-none n)
  where
    take-none : (n : ℕ) → take {A = Transmission} n [] ≡ []
    take-none zero = refl
    take-none (suc n) = refl
again_none f at zero (x ∷ all) h fresh = refl
again_none f at (suc n) (x ∷ all) h fresh =
    let both = first_false x.again (any_again all) fresh in
    let none : (if f at then remade x else x).again ≡ false = again_is (f at) x ∙ ap (λ (b : Bool). b || x.again) (h at (omega arith) (omega arith)) ∙ both.0 in
    rw none (again_none f (suc at) n all (λ p low high. h p (omega arith) (omega arith)) both.1)

-- what was made once, was not made again
pub fresh_run : (n moment : ℕ) (all : List Transmission) → any_again all ≡ false → any_again (replicate n (once moment) ++ all) ≡ false
fresh_run zero moment all h = h
fresh_run (suc n) moment all h = fresh_run n moment all h

pub fresh_runs : (runs : List Run) → any_again (expand runs) ≡ false
fresh_runs [] = refl
fresh_runs (r ∷ runs) = fresh_run r.count r.moment (expand runs) (fresh_runs runs)

fresh_drop : (k : ℕ) (all : List Transmission) → any_again all ≡ false → any_again (drop k all) ≡ false
fresh_drop zero all h = h
fresh_drop (suc k) [] h = refl
fresh_drop (suc k) (x ∷ all) h = fresh_drop k all (first_false x.again (any_again all) h).1

-- a range is asked for, one of whose positions is marked, or none
pub asked_some : (f : ℕ → Bool) (from upto p : ℕ) (all : List Transmission) → from ≤ p → p < upto → p < length all
    → f p ≡ true → true ≡ retransmitted (marked f 0 all) from upto
asked_some f from upto p all low high end is =
    let long : length (drop from all) ≡ length all - from = length-drop from all in
    rw (drop-marked f 0 from all) (sym (again_some f (0 + from) (upto - from) p (drop from all) (omega arith) (omega arith) (omega arith) is))

pub asked_none : (f : ℕ → Bool) (from upto : ℕ) (all : List Transmission)
    → ((p : ℕ) → from ≤ p → p < upto → f p ≡ false) → any_again all ≡ false
    → false ≡ retransmitted (marked f 0 all) from upto
asked_none f from upto all h fresh =
    rw (drop-marked f 0 from all) (sym
    (again_none f (0 + from) (upto - from) (drop from all) (λ p low high. h p (omega arith) (omega arith))
    (fresh_drop from all fresh)))

-- a segment is made
pub made_marked : (m n : Marks) (position count moment fresh end : ℕ) (all grown : List Transmission) → end ≡ length all
    → IsBelow end m → fresh ≡ position + count - end
    → ((p : ℕ) → is_marked n p ≡ (is_marked m p || (nat_le position p && nat_lt p (min end (position + count)))))
    → grown ≡ all ++ replicate fresh (once moment) → marked (is_marked n) 0 grown ≡ made (marked (is_marked m) 0 all) position count moment
made_marked m n position count moment fresh end all grown long below new more is =
    let first : marked (is_marked n) 0 all ≡ mark position count (marked (is_marked m) 0 all) =
    marked-cong (is_marked n) (with_range (is_marked m) position (position + count)) 0 all (λ p low high. more p ∙ near p (omega arith))
    ∙ sym (mark-marked (is_marked m) 0 position count position (position + count) all (omega arith) refl) in
    let last : marked (is_marked n) (0 + length all) (replicate fresh (once moment)) ≡ replicate fresh (once moment) =
    marked-none (is_marked n) (0 + length all) (replicate fresh (once moment))
    (λ p low. more p ∙ beyond p (omega arith)) in
    let measure : position + count - length (marked (is_marked m) 0 all) ≡ fresh = (let same = length-marked (is_marked m) 0 all in omega arith) in
    ap (λ (ys : List Transmission). marked (is_marked n) 0 ys) is ∙ marked-append (is_marked n) 0 all (replicate fresh (once moment))
    ∙ rw (first, last, measure) refl
  where
    near : (p : ℕ) → p < end
        → (is_marked m p || (nat_le position p && nat_lt p (min end (position + count))))
        ≡ with_range (is_marked m) position (position + count) p
    near p inside = let same : nat_lt p (min end (position + count)) ≡ nat_lt p (position + count) = grind (arith, nat_tests, inside) in rw same refl

    beyond : (p : ℕ) → end ≤ p → (is_marked m p || (nat_le position p && nat_lt p (min end (position + count)))) ≡ false
    beyond p outside = let apart : (nat_le position p && nat_lt p (min end (position + count))) ≡ false =
        grind (arith, nat_tests, outside) in rw (unmarked m end p below outside, apart) refl

-- those below a position are discarded
pub forgot_marked : (m n : Marks) (snd_una : ℕ) (all kept : List Transmission) → kept ≡ covered (once 0) snd_una all
    → ((p : ℕ) → is_marked n p ≡ (nat_le snd_una p && is_marked m p))
    → marked (is_marked n) 0 kept ≡ covered (once 0) snd_una (marked (is_marked m) 0 all)
forgot_marked m n snd_una all kept is less =
    ap (λ (ys : List Transmission). marked (is_marked n) 0 ys) is
    ∙ sym (covered-marked (is_marked m) (is_marked n) 0 snd_una snd_una all (omega arith) less)

-- what holds in any case holds of an error
pub on_err : {A E : Type 0} {P : Type 0} (r : Result A E) → P → OnErr r P
on_err (Ok x) p = tt
on_err (Err e) p = p
