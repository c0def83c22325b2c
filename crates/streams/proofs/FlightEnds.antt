-- How many positions are the last one of a segment.
use Rattle.std.proofs.Common.{◌≡◌, ℕ, zero, suc, ◌+◌, ◌-◌, ◌≤◌, min, cond, Bool, true, false, ◌&&◌, nat_le, List, [], ◌∷◌, ◌++◌, length, take, drop, refl, sym}
use Rattle.std.proofs.Common.{ap, ◌∙◌, subst, arith}
use Rattle.std.proofs.lemmas.Bool.Decides.{nat_tests}
use Rattle.std.proofs.lemmas.List.{drop-drop, take-append-drop}
use Rattle.std.proofs.lemmas.List.Sums.{sum_by-append}
use Rattle.std.specs.Prelude.{Option, Some, count_by, map, ◌==◌}
use Rattle.streams.specs.declared.outstanding.Outstanding.{Outstanding}
use Rattle.streams.specs.Pieces.{EndOnce, alike, built_again, built_first, ends, known_from, made, made_again, made_first}

abbrev some : Outstanding → Option Outstanding
some x = Some x

abbrev one_if : Bool → ℕ
one_if b = cond b 1 0

append_count : (n : ℕ) (xs ys : List (Option Outstanding)) → count_by (ends n) (xs ++ ys) ≡ count_by (ends n) xs + count_by (ends n) ys
append_count n xs ys = sum_by-append (λ (x : Option Outstanding). cond (ends n x) 1 0) xs ys

parts_count : (n k : ℕ) (xs : List (Option Outstanding)) → count_by (ends n) (take k xs) + count_by (ends n) (drop k xs) ≡ count_by (ends n) xs
parts_count n k xs = sym (append_count n (take k xs) (drop k xs)) ∙ ap (count_by (ends n)) (take-append-drop k xs)

-- behind a later place there are no more
later_count : (n i j : ℕ) (xs : List (Option Outstanding)) → i ≤ j → count_by (ends n) (drop j xs) ≤ count_by (ends n) (drop i xs)
later_count n i j xs low =
    let parts = parts_count n (j - i) (drop i xs) in
    let to : i + (j - i) ≡ j = omega (arith, low) in
    let same : count_by (ends n) (drop (j - i) (drop i xs)) ≡ count_by (ends n) (drop j xs) =
    ap (count_by (ends n)) (drop-drop (j - i) i xs ∙ ap (λ (m : ℕ). drop m xs) to) in
    omega (arith, parts, same)

alike_count : (n c : ℕ) (x : Outstanding) → count_by (ends n) (map some (alike x c)) ≤ one_if (ends n (Some x))
alike_count n zero x = omega arith
alike_count n (suc zero) x = omega arith
alike_count n (suc (suc c)) x = alike_count n (suc c) x

covered_count : (n p : ℕ) (xs : List (Option Outstanding)) → count_by (ends n) (known_from p xs) ≤ count_by (ends n) xs
covered_count n zero xs = omega arith
covered_count n (suc p) [] = omega arith
covered_count n (suc p) (x ∷ xs) =
    let rest = covered_count n p xs in
    let gone : count_by (ends n) (known_from (suc p) (x ∷ xs)) ≡ count_by (ends n) (known_from p xs) = refl in
    let all = append_count n (x ∷ []) xs in
    omega (arith, rest, gone, all)

at_most : (b : Bool) → one_if b ≤ 1
at_most true = omega arith
at_most false = omega arith

not_other : (a : Bool) → one_if (a && false) ≡ 0
not_other true = refl
not_other false = refl

-- a segment with a number of its own
made_count : (n position upto number moment : ℕ) (all : List (Option Outstanding)) → count_by (ends n) (made position upto number moment all)
    ≡ (count_by (ends n) (take position all)
    + (count_by (ends n) (made_again position upto number moment all) + count_by (ends n) (drop (min upto (length all)) all)))
    + count_by (ends n) (made_first upto number moment all)
made_count n position upto number moment all =
    append_count n (take position all ++ (made_again position upto number moment all ++ drop (min upto (length all)) all)) (made_first upto number moment all)
    ∙ ap (λ (c : ℕ). c + count_by (ends n) (made_first upto number moment all))
    (append_count n (take position all) (made_again position upto number moment all ++ drop (min upto (length all)) all)
    ∙ ap (λ (c : ℕ). count_by (ends n) (take position all) + c)
    (append_count n (made_again position upto number moment all) (drop (min upto (length all)) all)))

pub made_once : (position upto number moment : ℕ) (all : List (Option Outstanding)) → EndOnce all → count_by (ends number) all ≡ 0
    → position ≤ length all → position ≤ upto → EndOnce (made position upto number moment all)
made_once position upto number moment all once fresh low high n = by (number == n) refl (nat_le upto (length all)) refl
  where
    whole : count_by (ends n) (take position all) + count_by (ends n) (drop position all) ≡ count_by (ends n) all
    whole = parts_count n position all

    later : count_by (ends n) (drop (min upto (length all)) all) ≤ count_by (ends n) (drop position all)
    later = later_count n position (min upto (length all)) all (omega (arith, low, high))

    by : (b : Bool) → number == n ≡ b → (c : Bool) → nat_le upto (length all) ≡ c → count_by (ends n) (made position upto number moment all) ≤ 1
    by false own c within =
        let again = alike_count n (min upto (length all) - position) (built_again number moment (nat_le upto (length all))) in
        let first = alike_count n (upto - length all) (built_first number moment) in
        let none : one_if (nat_le upto (length all) && (number == n)) ≡ 0 = rw own (not_other (nat_le upto (length all))) in
        let nothing : one_if (number == n) ≡ 0 = rw own refl in
        let sum = made_count n position upto number moment all in
        let most = once n in
        omega (arith, again, first, none, nothing, sum, most, whole, later)
    by true own true within =
        let same : number ≡ n = grind (arith, nat_tests, own) in
        let none : count_by (ends n) all ≡ 0 = subst (λ (m : ℕ). count_by (ends m) all ≡ 0) same fresh in
        let again = alike_count n (min upto (length all) - position) (built_again number moment (nat_le upto (length all))) in
        let one : one_if (nat_le upto (length all) && (number == n)) ≤ 1 = at_most (nat_le upto (length all) && (number == n)) in
        let under : upto ≤ length all = grind (arith, nat_tests, within) in
        let empty : upto - length all ≡ 0 = omega (arith, under) in
        let nothing : count_by (ends n) (made_first upto number moment all) ≡ 0 =
        ap (λ (m : ℕ). count_by (ends n) (map some (alike (built_first number moment) m))) empty in
        let sum = made_count n position upto number moment all in
        omega (arith, again, one, nothing, none, sum, whole, later)
    by true own false within =
        let same : number ≡ n = grind (arith, nat_tests, own) in
        let none : count_by (ends n) all ≡ 0 = subst (λ (m : ℕ). count_by (ends m) all ≡ 0) same fresh in
        let again = alike_count n (min upto (length all) - position) (built_again number moment (nat_le upto (length all))) in
        let first = alike_count n (upto - length all) (built_first number moment) in
        let nothing : one_if (nat_le upto (length all) && (number == n)) ≡ 0 = rw within refl in
        let one : one_if (number == n) ≤ 1 = at_most (number == n) in
        let sum = made_count n position upto number moment all in
        omega (arith, again, first, nothing, one, none, sum, whole, later)

pub forgotten_once : (snd_una : ℕ) (all : List (Option Outstanding)) → EndOnce all → EndOnce (known_from snd_una all)
forgotten_once snd_una all once n =
    let fewer = covered_count n snd_una all in
    let most = once n in
    omega (arith, fewer, most)
