-- What is in flight among consecutive positions.
use Rattle.std.proofs.Common.{◌≡◌, ℕ, zero, suc, ◌+◌, ◌-◌, ◌<◌, ◌≤◌, max, Bool, true, false, nat_lt, List, [], ◌∷◌, ◌++◌, length, refl, sym, ap, ◌∙◌}
use Rattle.std.proofs.Common.{subst, arith, if◌then◌else◌}
use Rattle.std.proofs.lemmas.Bool.Decides.{nat_tests}
use Rattle.std.proofs.lemmas.Option.{none-some, same_Some, slice_get-map, slice_get_past}
use Rattle.std.proofs.lemmas.List.{length-replicate}
use Rattle.std.specs.Prelude.{Option, None, Some, map, replicate, slice_get}
use Rattle.std.specs.List.{cons_option, zip}
use Rattle.std.specs.Option.{option_flatten, option_map}
use Rattle.std.specs.Ordering.{nat_cmp}
use Rattle.std.specs.FinSet.{FinSet, contains}
use Rattle.streams.specs.Ranges.{counted_from, covers, meets, positions}
use Rattle.streams.specs.Pieces.{Adjoin, acknowledged, alike, inner, known, piece_after, shown}
use Rattle.streams.specs.Flying.{AreAlike, flying, flying_among, flying_in, state_before}
use Rattle.streams.specs.declared.outstanding.Outstanding.{Outstanding}
use Rattle.streams.specs.declared.piece.Piece.{Piece}
use Rattle.streams.proofs.Places.{get_append}
use Rattle.streams.proofs.FlightLemmas.{acknowledged_is}
use Rattle.streams.proofs.PieceLemmas.{length_alike}
use Rattle.streams.proofs.RangeLemmas.{covers_each, meets_none}

-- ---- positions in two parts

counted_parts : (m n total a b : ℕ) → total ≡ m + n → b ≡ a + m → counted_from a total ≡ counted_from a m ++ counted_from b n
counted_parts zero n total a b is at =
    let same : total ≡ n = omega (arith, is) in
    let here : a ≡ b = omega (arith, at) in
    λ i. counted_from (here i) (same i)
counted_parts (suc m) n zero a b is at = absurd (omega (arith, is))
counted_parts (suc m) n (suc total) a b is at =
    ap (λ (xs : List ℕ). a ∷ xs) (counted_parts m n total (suc a) b (omega (arith, is)) (omega (arith, at)))

pub positions_parts : (a b c : ℕ) → a ≤ b → b ≤ c → positions a c ≡ positions a b ++ positions b c
positions_parts a b c low high = counted_parts (b - a) (c - b) (c - a) a b (omega (arith, low, high)) (omega (arith, low))

module _ (all : List (Option Outstanding)) (told : FinSet nat_cmp) where
  cons_append : {X : Type 0} (o : Option X) (xs ys : List X) → cons_option o (xs ++ ys) ≡ cons_option o xs ++ ys
  cons_append None xs ys = refl
  cons_append (Some x) xs ys = refl

  among_append : (xs ys : List ℕ) → flying_among all told (xs ++ ys) ≡ flying_among all told xs ++ flying_among all told ys
  among_append [] ys = refl
  among_append (x ∷ xs) ys =
      ap (cons_option (option_map (λ y. (x, y)) (flying all told x))) (among_append xs ys)
      ∙ cons_append (option_map (λ y. (x, y)) (flying all told x)) (flying_among all told xs) (flying_among all told ys)

  pub in_parts : (a b c : ℕ) → a ≤ b → b ≤ c → flying_in all told a c ≡ flying_in all told a b ++ flying_in all told b c
  in_parts a b c low high = ap (flying_among all told) (positions_parts a b c low high) ∙ among_append (positions a b) (positions b c)

  -- none of some positions is in flight
  none_counted : (m a : ℕ) → ((p : ℕ) → a ≤ p → p < a + m → flying all told p ≡ None) → flying_among all told (counted_from a m) ≡ []
  none_counted zero a none = refl
  none_counted (suc m) a none =
      ap (λ (o : Option Outstanding). cons_option (option_map (λ y. (a, y)) o) (flying_among all told (counted_from (suc a) m)))
      (none a (omega arith) (omega arith))
      ∙ none_counted m (suc a) (λ p low high. none p (omega (arith, low)) (omega (arith, high)))

  pub none_in : (a b : ℕ) → ((p : ℕ) → a ≤ p → p < b → flying all told p ≡ None) → flying_in all told a b ≡ []
  none_in a b none = none_counted (b - a) a (λ p low high. none p low (omega (arith, low, high)))

  -- each of some positions is, and they are alike
  alike_counted : (m a b : ℕ) (x : Outstanding) → b ≡ a + m → ((p : ℕ) → a ≤ p → p < b → flying all told p ≡ Some (state_before (suc p) b x))
      → flying_among all told (counted_from a m) ≡ zip (counted_from a m) (alike x m)
  alike_counted zero a b x is each = refl
  alike_counted (suc zero) a b x is each =
      let last : nat_lt (suc a) b ≡ false = grind (arith, nat_tests, is) in
      ap (λ (o : Option Outstanding). cons_option (option_map (λ y. (a, y)) o) [])
      (each a (omega arith) (omega (arith, is)) ∙ ap (λ c. Some (if c then inner x else x)) last)
  alike_counted (suc (suc m)) a b x is each =
      let more : nat_lt (suc a) b ≡ true = grind (arith, nat_tests, is) in
      ap (λ (o : Option Outstanding). cons_option (option_map (λ y. (a, y)) o) (flying_among all told (counted_from (suc a) (suc m))))
      (each a (omega arith) (omega (arith, is)) ∙ ap (λ c. Some (if c then inner x else x)) more)
      ∙ ap (λ (xs : List (ℕ × Outstanding)). (a, inner x) ∷ xs)
      (alike_counted (suc m) (suc a) b x (omega (arith, is)) (λ p low high. each p (omega (arith, low)) high))

  alike_in : (a b : ℕ) (x : Outstanding) → a ≤ b → ((p : ℕ) → a ≤ p → p < b → flying all told p ≡ Some (state_before (suc p) b x))
      → flying_in all told a b ≡ zip (positions a b) (alike x (b - a))
  alike_in a b x low each = alike_counted (b - a) a b x (omega (arith, low)) each

  -- ---- a position that was reported, one that was acknowledged, one after the end, and one of several that are alike

  told_rests : (p : ℕ) → contains told p ≡ true → flying all told p ≡ None
  told_rests p is = rw is refl

  unknown_rests : (p : ℕ) → option_flatten (slice_get all p) ≡ None → flying all told p ≡ None
  unknown_rests p is = by (contains told p)
    where
      by : (b : Bool) → (if b then None else option_flatten (slice_get all p)) ≡ None
      by true = refl
      by false = is

  first_unknown : (xs : List (Option Outstanding)) (p : ℕ) → p < acknowledged xs → option_flatten (slice_get xs p) ≡ None
  first_unknown [] p low = refl
  first_unknown (None ∷ xs) zero low = refl
  first_unknown (None ∷ xs) (suc p) low = first_unknown xs p (omega (arith, low))
  first_unknown (Some x ∷ xs) p low = absurd (omega (arith, low))

  flies : (p : ℕ) (x : Outstanding) → contains told p ≡ false → slice_get all p ≡ Some (Some x) → flying all told p ≡ Some x
  flies p x is at = rw is (ap option_flatten at)

  -- before `first`, from the first outstanding position on, all was reported
  pub passed : (from first p : ℕ) → covers told (max from (acknowledged all)) first ≡ true → from ≤ p → p < first → flying all told p ≡ None
  passed from first p held low high = by (nat_lt p (acknowledged all)) refl
    where
      by : (b : Bool) → nat_lt p (acknowledged all) ≡ b → flying all told p ≡ None
      by true under = unknown_rests p (first_unknown all p (grind (arith, nat_tests, under)))
      by false over =
          let above : acknowledged all ≤ p = grind (arith, nat_tests, over) in
          told_rests p (covers_each told (max from (acknowledged all)) first held p (omega (arith, low, above)) high)

  -- the same where nothing is known from there on
  pub left : (from first p : ℕ) → covers told (max from (acknowledged all)) first ≡ true → length all ≤ first → from ≤ p → flying all told p ≡ None
  left from first p held end low = by (nat_lt p first) refl
    where
      by : (b : Bool) → nat_lt p first ≡ b → flying all told p ≡ None
      by true under = passed from first p held low (grind (arith, nat_tests, under))
      by false over =
          let past : length all ≤ p = grind (arith, nat_tests, over, end) in
          unknown_rests p (ap option_flatten (slice_get_past all p past))

  pub all_passed : (from upto first : ℕ) → covers told (max from (acknowledged all)) first ≡ true → upto ≤ first → flying_in all told from upto ≡ []
  all_passed from upto first held over = none_in from upto (λ p low high. passed from first p held low (omega (arith, over, high)))

  pub none_left : (from upto first : ℕ) → covers told (max from (acknowledged all)) first ≡ true → length all ≤ first → flying_in all told from upto ≡ []
  none_left from upto first held end = none_in from upto (λ p low high. left from first p held end low)

  -- ---- the first run

  shorter : (p next end : ℕ) (x : Outstanding) → p < next → next ≤ end → state_before (suc p) end x ≡ state_before (suc p) next (state_before next end x)
  shorter p next end x low high = by (nat_lt (suc p) next) refl
    where
      again : (b : Bool) → inner (if b then inner x else x) ≡ inner x
      again true = refl
      again false = refl

      by : (b : Bool) → nat_lt (suc p) next ≡ b → state_before (suc p) end x ≡ state_before (suc p) next (state_before next end x)
      by true more =
          let also : nat_lt (suc p) end ≡ true = grind (arith, nat_tests, more, high) in
          rw (more, also) (sym (again (nat_lt next end)))
      by false last =
          let here : suc p ≡ next = grind (arith, nat_tests, last, low) in
          rw last (ap (λ (n : ℕ). state_before n end x) here)

  pub run_alike : (first next end : ℕ) (x : Outstanding) → next ≤ end → meets told first next ≡ false → AreAlike all first end x
      → (p : ℕ) → first ≤ p → p < next → flying all told p ≡ Some (state_before (suc p) next (state_before next end x))
  run_alike first next end x within untold all_alike p over under =
      flies p (state_before (suc p) end x) (meets_none told first next untold p over under) (all_alike p over (omega (arith, under, within)))
      ∙ ap (λ y. Some y) (shorter p next end x under within)

  pub first_run : (from first next end upto : ℕ) (x : Outstanding) → max from (acknowledged all) ≤ first → first < next → next ≤ end → next ≤ upto
      → covers told (max from (acknowledged all)) first ≡ true → meets told first next ≡ false → AreAlike all first end x
      → flying_in all told from upto ≡ zip (positions first next) (alike (state_before next end x) (next - first)) ++ flying_in all told next upto
  first_run from first next end upto x low some within before held untold all_alike =
      in_parts from first upto (omega (arith, low)) (omega (arith, some, before))
      ∙ (ap (λ (xs : List (ℕ × Outstanding)). xs ++ flying_in all told first upto) (none_in from first (λ p over under. passed from first p held over under))
      ∙ (in_parts first next upto (omega (arith, some)) before
      ∙ ap (λ (xs : List (ℕ × Outstanding)). xs ++ flying_in all told next upto)
      (alike_in first next (state_before next end x) (omega (arith, some)) (run_alike first next end x within untold all_alike))))

-- ---- what a piece says of its positions

alike_at : (x : Outstanding) (n k : ℕ) → k < n → slice_get (alike x n) k ≡ Some (state_before (suc k) n x)
alike_at x zero k under = absurd (omega (arith, under))
alike_at x (suc zero) zero under = refl
alike_at x (suc zero) (suc k) under = absurd (omega (arith, under))
alike_at x (suc (suc n)) zero under =
    let more : nat_lt 1 (suc (suc n)) ≡ true = grind (arith, nat_tests) in
    rw more refl
alike_at x (suc (suc n)) (suc k) under =
    let same : nat_lt (suc k) (suc n) ≡ nat_lt (suc (suc k)) (suc (suc n)) = grind (arith, nat_tests) in
    alike_at x (suc n) k (omega (arith, under)) ∙ ap (λ b. Some (if b then inner x else x)) same

get_behind : {X : Type 0} (xs ys : List X) (k n : ℕ) → length xs ≡ n → n ≤ k → slice_get (xs ++ ys) k ≡ slice_get ys (k - n)
get_behind [] ys k n long over = let same : k ≡ k - n = omega (arith, long) in ap (slice_get ys) same
get_behind (x ∷ xs) ys zero n long over = absurd (omega (arith, long, over))
get_behind (x ∷ xs) ys (suc k) zero long over = absurd (omega (arith, long, over))
get_behind (x ∷ xs) ys (suc k) (suc n) long over =
    let same : k - n ≡ suc k - suc n = omega arith in
    get_behind xs ys k n (omega (arith, long)) (omega (arith, over)) ∙ ap (slice_get ys) same

-- what is known from a position on to before another
abbrev Shows : (from q end : ℕ) → Outstanding → List Outstanding → Type 0
Shows from q end x all = (p : ℕ) → q ≤ p → p < end → slice_get all (p - from) ≡ Some (state_before (suc p) end x)

shown_at : (es : List (ℕ × Piece)) (from upto q : ℕ) (d : ℕ × Piece) → Adjoin from upto es → from ≤ q → piece_after q es ≡ Some d
    → Shows from q d.0 d.1.state (shown es)
shown_at [] from upto q d h low is = absurd (none-some d is)
shown_at (e ∷ es) from upto q d h low is = by (nat_lt q e.0) refl (λ over later. shown_at es e.0 upto q d h.2 over later)
  where
    start : e.1.start ≡ from
    start = h.0

    size : from < e.0
    size = h.1

    here : Shows from q e.0 e.1.state (shown (e ∷ es))
    here p above under =
        let within : p - from < e.0 - e.1.start = omega (arith, start, size, low, above, under) in
        let ends : nat_lt (suc (p - from)) (e.0 - e.1.start) ≡ nat_lt (suc p) e.0 = grind (arith, nat_tests, start, size, low, above, under) in
        get_append (alike e.1.state (e.0 - e.1.start)) (shown es) (p - from) (state_before (suc p) e.0 e.1.state)
        (alike_at e.1.state (e.0 - e.1.start) (p - from) within ∙ ap (λ b. Some (if b then inner e.1.state else e.1.state)) ends)

    by : (b : Bool) → nat_lt q e.0 ≡ b → (e.0 ≤ q → piece_after q es ≡ Some d → Shows e.0 q d.0 d.1.state (shown es))
        → Shows from q d.0 d.1.state (shown (e ∷ es))
    by true under rest = subst (λ (x : ℕ × Piece). Shows from q x.0 x.1.state (shown (e ∷ es))) (same_Some e d (rw under at is)) here
    by false over rest = λ p above below.
        let behind : e.0 ≤ q = grind (arith, nat_tests, over) in
        let parts : (p - from) - (e.0 - e.1.start) ≡ p - e.0 = omega (arith, start, size, behind, above) in
        get_behind (alike e.1.state (e.0 - e.1.start)) (shown es) (p - from) (e.0 - e.1.start) (length_alike e.1.state (e.0 - e.1.start))
        (omega (arith, start, size, behind, above))
        ∙ (ap (slice_get (shown es)) parts ∙ rest behind (rw over at is) p above below)

pub known_at : (es : List (ℕ × Piece)) (snd_una upto q : ℕ) (d : ℕ × Piece) → Adjoin snd_una upto es → snd_una ≤ q → piece_after q es ≡ Some d
    → AreAlike (known snd_una es) q d.0 d.1.state
known_at es snd_una upto q d h low is p above under =
    get_behind (replicate snd_una None) (map (λ x. Some x) (shown es)) p snd_una (length-replicate {A = Option Outstanding} snd_una None)
    (omega (arith, low, above))
    ∙ (slice_get-map (λ (x : Outstanding). Some x) (shown es) (p - snd_una)
    ∙ ap (option_map (λ (x : Outstanding). Some x)) (shown_at es snd_una upto q d h low is p above under))

pub none_known : (es : List (ℕ × Piece)) (from upto q : ℕ) → Adjoin from upto es → from ≤ q → piece_after q es ≡ None → upto ≤ q
none_known [] from upto q h low is = let same : from ≡ upto = h in omega (arith, same, low)
none_known (e ∷ es) from upto q h low is = by (nat_lt q e.0) refl (λ over later. none_known es e.0 upto q h.2 over later)
  where
    by : (b : Bool) → nat_lt q e.0 ≡ b → (e.0 ≤ q → piece_after q es ≡ None → upto ≤ q) → upto ≤ q
    by true under rest = absurd (none-some e (sym (rw under at is)))
    by false over rest = rest (grind (arith, nat_tests, over)) (rw over at is)

pub from_first : (es : List (ℕ × Piece)) (snd_una q : ℕ) (all : List (Option Outstanding)) → known snd_una es ≡ all → acknowledged all ≤ q → snd_una ≤ q
from_first es snd_una q all is low =
    let first = acknowledged_is es snd_una in
    let same = ap (λ (xs : List (Option Outstanding)). acknowledged xs) is in
    omega (arith, first, same, low)

-- where the search begins, from the calls that say so
pub begins : (all : List (Option Outstanding)) (told : FinSet nat_cmp) (from snd_una low first : ℕ) → low ≡ max from snd_una → snd_una ≡ acknowledged all
    → covers told low first ≡ true → covers told (max from (acknowledged all)) first ≡ true
begins all told from snd_una low first at una held = subst (λ (n : ℕ). covers told n first ≡ true) (at ∙ ap (max from) una) held
