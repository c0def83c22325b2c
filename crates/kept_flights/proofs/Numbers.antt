-- Under which number a position was built last: after building it, this is the new number; and it is above what is given up, until something is.
use Rattle.std.proofs.Common.{◌≡◌, ℕ, zero, suc, ◌+◌, ◌-◌, ◌<◌, ◌≤◌, ◌⊎◌, inl, inr, min, Bool, true, false, List, [], ◌∷◌, ◌++◌, length, take, drop, map}
use Rattle.std.proofs.Common.{Option, Some, None, length-drop, refl, ap, sym, subst, ◌∙◌, arith}
use Rattle.std.specs.Prelude.{◌&&◌, ◌||◌, if◌then◌else◌, nat_le, nat_lt, slice_get}
use Rattle.std.proofs.lemmas.Bool.Decides.{nat_tests}
use Rattle.std.proofs.lemmas.List.{length-append, length-map, length-take}
use Rattle.std.proofs.lemmas.Option.{none-some, same_Some, slice_get_past, slice_get_within}
use Rattle.case_forms.specs.States.{is_syn_sent}
use Rattle.case_forms.specs.declared.steps.SegmentPlan.{SegmentPlan}
use Rattle.case_forms.specs.declared.timer.RecoveryChange.TheVariants.{Begins, IsUndone}
use Rattle.case_forms.specs.declared.timer.Timer.TheVariants.{Persist, Rto}
use Rattle.streams.specs.Lists.{covered}
use Rattle.streams.specs.Pieces.{acknowledged, alike, built_again, built_first, inner, known_from, made, made_again, made_first}
use Rattle.streams.specs.declared.outstanding.Outstanding.{Outstanding}
use Rattle.streams.proofs.Covers.{get-covered}
use Rattle.streams.proofs.PieceLemmas.{length_alike}
use Rattle.streams.proofs.Places.{get_drop, get_take}
use Rattle.spec_duties.specs.declared.events.Event.{Event}
use Rattle.spec_duties.specs.declared.events.Event.TheVariants.{Builds, Expires, Processes, Recovers}
use Rattle.spec_duties.specs.declared.views.View.{View}
use Rattle.spec_flights.specs.Delivered.{heard}
use Rattle.spec_flights.specs.Flights.{board_after, board_heard, board_opened}
use Rattle.spec_flights.specs.Late.{settled}
use Rattle.spec_flights.specs.Marks.{opens_probed}
use Rattle.spec_flights.specs.Scoreboard.{Scoreboard, left_without, stretch_built, with_built, with_given_up}
use Rattle.spec_flights.specs.declared.reports.Reports.{Reports}
use Rattle.spec_flights.specs.declared.stretch.Stretch.{Stretch}

-- ---- lists

pub covered_some : {X : Type 0} (n : ℕ) (xs : List (Option X)) (i : ℕ) (x : X)
    → slice_get (covered None n xs) i ≡ Some (Some x) → slice_get xs i ≡ Some (Some x)
covered_some zero xs i x is = is
covered_some (suc n) [] i x is = is
covered_some {X} (suc n) (y ∷ xs) zero x is = absurd (none-some x (same_Some None (Some x) is))
covered_some (suc n) (y ∷ xs) (suc i) x is = covered_some n xs i x is

get_either : {X : Type 0} (xs ys : List X) (i : ℕ) (y : X) → slice_get (xs ++ ys) i ≡ Some y
    → (slice_get xs i ≡ Some y) ⊎ ((length xs ≤ i) × (slice_get ys (i - length xs) ≡ Some y))
get_either [] ys i y is = inr (omega arith, subst (λ n. slice_get ys n ≡ Some y) (let e : i ≡ i - 0 = omega arith in e) is)
get_either (x ∷ xs) ys zero y is = inl is
get_either {X} (x ∷ xs) ys (suc i) y is = by (get_either xs ys i y is)
  where
    by : (slice_get xs i ≡ Some y) ⊎ ((length xs ≤ i) × (slice_get ys (i - length xs) ≡ Some y))
        → (slice_get xs i ≡ Some y) ⊎ ((suc (length xs) ≤ suc i) × (slice_get ys (suc i - suc (length xs)) ≡ Some y))
    by (inl here) = inl here
    by (inr there) =
        let over = there.0 in
        inr (omega (arith, over), subst (λ n. slice_get ys n ≡ Some y) (let e : i - length xs ≡ suc i - suc (length xs) = omega arith in e) there.1)

-- ---- what is built has the number

abbrev pub HasNumber : (number : ℕ) → Option Outstanding → Type 0
HasNumber number y = (x : Outstanding) × (y ≡ Some x) × (x.number ≡ number)

pub has_number : (number : ℕ) (x : Outstanding) → HasNumber number (Some x) → x.number ≡ number
has_number number x has = ap (λ (z : Outstanding). z.number) (same_Some x has.0 has.1) ∙ has.2

-- it is one of the positions that are built
abbrev pub IsNew : (position upto number : ℕ) → (i : ℕ) → Option Outstanding → Type 0
IsNew position upto number i y = HasNumber number y × (position ≤ i) × (i < upto)

alike_number : (x : Outstanding) (n i : ℕ) (y : Option Outstanding) → slice_get (map (λ z. Some z) (alike x n)) i ≡ Some y → HasNumber x.number y
alike_number x zero i y is = absurd (none-some y is)
alike_number x (suc zero) zero y is = (x, sym (same_Some (Some x) y is), refl)
alike_number x (suc zero) (suc i) y is = absurd (none-some y is)
alike_number x (suc (suc n)) zero y is = (inner x, sym (same_Some (Some (inner x)) y is), refl)
alike_number x (suc (suc n)) (suc i) y is = alike_number x (suc n) i y is

-- outside of what is built, as before
abbrev pub IsOld : (position upto : ℕ) → List (Option Outstanding) → (i : ℕ) → Option Outstanding → Type 0
IsOld position upto all i y = (slice_get all i ≡ Some y) × ((i < position) ⊎ (upto ≤ i))

module _ (position upto number moment : ℕ) (all : List (Option Outstanding)) (some : position < upto) (low : position ≤ length all) where
  abbrev begun : List (Option Outstanding)
  begun = take position all

  abbrev again : List (Option Outstanding)
  again = made_again position upto number moment all

  abbrev rest : List (Option Outstanding)
  rest = drop (min upto (length all)) all

  begun_long : length begun ≡ position
  begun_long = let long = length-take position all in omega (arith, long, low)

  again_long : length again ≡ min upto (length all) - position
  again_long =
      length-map (alike (built_again number moment (nat_le upto (length all))) (min upto (length all) - position)) (λ x. Some x)
      ∙ length_alike (built_again number moment (nat_le upto (length all))) (min upto (length all) - position)

  built_long : length (begun ++ (again ++ rest)) ≡ length all
  built_long =
      let first = begun_long in
      let second = again_long in
      let third = length-drop (min upto (length all)) all in
      let both = length-append again rest in
      let three = length-append begun (again ++ rest) in
      omega (arith, first, second, third, both, three, some, low)

  first_long : length (made_first upto number moment all) ≡ upto - length all
  first_long =
      length-map (alike (built_first number moment) (upto - length all)) (λ x. Some x) ∙ length_alike (built_first number moment) (upto - length all)

  in_rest : (i j : ℕ) (y : Option Outstanding) → length again ≤ j → j ≡ i - position → position ≤ i → slice_get rest (j - length again) ≡ Some y
      → IsOld position upto all i y
  in_rest i j y over place above is =
      let long = again_long in
      let there = get_drop (min upto (length all)) all (j - length again) y is in
      let same : min upto (length all) + (j - length again) ≡ i = omega (arith, long, over, place, above, some, low) in
      let here : slice_get all i ≡ Some y = subst (λ n. slice_get all n ≡ Some y) same there in
      let within = slice_get_within all i y here in
      (here, inr (omega (arith, same, within)))

  pub made_is : (i : ℕ) (y : Option Outstanding) → slice_get (made position upto number moment all) i ≡ Some y
      → IsOld position upto all i y ⊎ IsNew position upto number i y
  made_is i y is = first (get_either (begun ++ (again ++ rest)) (made_first upto number moment all) i y is)
    where
      third : (j : ℕ) → j ≡ i - position → position ≤ i
          → (slice_get again j ≡ Some y) ⊎ ((length again ≤ j) × (slice_get rest (j - length again) ≡ Some y))
          → IsOld position upto all i y ⊎ IsNew position upto number i y
      third j place above (inl here) =
          let within = slice_get_within again j y here in
          let long = again_long in
          inr (
            alike_number (built_again number moment (nat_le upto (length all))) (min upto (length all) - position) j y here,
            above,
            omega (arith, place, above, within, long),
          )
      third j place above (inr there) = inl (in_rest i j y there.0 place above there.1)

      second : (slice_get begun i ≡ Some y) ⊎ ((length begun ≤ i) × (slice_get (again ++ rest) (i - length begun) ≡ Some y))
          → IsOld position upto all i y ⊎ IsNew position upto number i y
      second (inl here) =
          let within = slice_get_within begun i y here in
          let long = begun_long in
          inl (get_take position all i y here, inl (omega (arith, within, long)))
      second (inr there) =
          let long = begun_long in
          let over = there.0 in
          third (i - length begun) (omega (arith, long)) (omega (arith, long, over)) (get_either again rest (i - length begun) y there.1)

      first : (slice_get (begun ++ (again ++ rest)) i ≡ Some y)
          ⊎ ((length (begun ++ (again ++ rest)) ≤ i) × (slice_get (made_first upto number moment all) (i - length (begun ++ (again ++ rest))) ≡ Some y))
          → IsOld position upto all i y ⊎ IsNew position upto number i y
      first (inl here) = second (get_either begun (again ++ rest) i y here)
      first (inr there) =
          let within = slice_get_within (made_first upto number moment all) (i - length (begun ++ (again ++ rest))) y there.1 in
          let long = first_long in
          let whole = built_long in
          let over = there.0 in
          inr (
            alike_number (built_first number moment) (upto - length all) _ y there.1,
            omega (arith, whole, over, low),
            omega (arith, within, long, whole, over),
          )

-- ---- nothing is unknown from the oldest unacknowledged position on

abbrev pub IsWhole : (una : ℕ) → Scoreboard → Type 0
IsWhole una b = (i : ℕ) → una ≤ i → slice_get b.known i ≡ Some None → ⊥

acknowledged_none : (all : List (Option Outstanding)) (i : ℕ) → i < acknowledged all → slice_get all i ≡ Some None
acknowledged_none [] i under = absurd (omega (arith, under))
acknowledged_none (None ∷ all) zero under = refl
acknowledged_none (None ∷ all) (suc i) under = acknowledged_none all i (omega (arith, under))
acknowledged_none (Some x ∷ all) i under = absurd (omega (arith, under))

pub whole_from : (una place : ℕ) (b : Scoreboard) → IsWhole una b → una ≤ place → nat_le (acknowledged b.known) place ≡ true
whole_from una place b whole low = by (nat_le (acknowledged b.known) place) refl
  where
    by : (c : Bool) → nat_le (acknowledged b.known) place ≡ c → c ≡ true
    by true is = refl
    by false is =
        let under : place < acknowledged b.known = grind (arith, nat_tests, is) in
        absurd (whole place low (acknowledged_none b.known place under))

abbrev pub built_board : (number moment : ℕ) → Stretch → Scoreboard → Scoreboard
built_board number moment s b = record b {
  known = made s.from s.upto number moment b.known;
  told = left_without b.told s.from s.upto;
  ends = left_without b.ends s.from s.upto;
  built = b.built ++ record { number = number; moment = moment } ∷ [];
  newest = number;
}

-- the segment holds positions, and none is left out before it
pub record Fits (s : Stretch) (b : Scoreboard) : Type 0 where
  pub some : s.from < s.upto
  pub low : s.from ≤ length b.known

-- what holds of both
pub built_cases : (P : Scoreboard → Type 0) (number moment : ℕ) (s : Stretch) (b : Scoreboard) → P b → (Fits s b → P (built_board number moment s b))
    → P (with_built number moment s b)
built_cases P number moment s b old new = by (nat_lt s.from s.upto && nat_le (acknowledged b.known) s.from && nat_le s.from (length b.known)) refl
  where
    by : (c : Bool) → (nat_lt s.from s.upto && nat_le (acknowledged b.known) s.from && nat_le s.from (length b.known)) ≡ c
        → P (if c then built_board number moment s b else b)
    by false is = old
    by true is = new (record { some = grind (arith, nat_tests, is); low = grind (arith, nat_tests, is) })

pub heard_cases : (P : Scoreboard → Type 0) (moment clock : ℕ) (recovers rst : Bool) (before after : View) (r : Reports) (b : Scoreboard)
    → P (record b { known = known_from after.snd_una b.known }) → P (heard moment before.snd_una after.snd_una r (settled recovers clock b))
    → P (board_heard moment clock recovers rst before after r b)
heard_cases P moment clock recovers rst before after r b short long = by (rst || is_syn_sent before.state)
  where
    by : (c : Bool)
        → P (if c then record b { known = known_from after.snd_una b.known } else heard moment before.snd_una after.snd_una r (settled recovers clock b))
    by true = short
    by false = long

pub opened_cases : (P : Scoreboard → Type 0) (before after : View) (b : Scoreboard) → P b → (opens_probed before after ≡ true → P (with_given_up b))
    → P (board_opened before after b)
opened_cases P before after b old new = by (opens_probed before after) refl
  where
    by : (c : Bool) → opens_probed before after ≡ c → P (if c then with_given_up b else b)
    by true is = new is
    by false is = old

-- no number is above that of the last segment
pub record IsCounted (count : ℕ) (b : Scoreboard) : Type 0 where
  pub newest : b.newest ≤ count
  pub given_up : b.given_up ≤ b.newest

-- what is known of a position isn't given up
abbrev pub IsAbove : (p : ℕ) → Scoreboard → Type 0
IsAbove p b = (x : Outstanding) → slice_get b.known p ≡ Some (Some x) → b.given_up < x.number

-- nothing is given up
pub record GivesUpNothing (event : Event) (before after : View) : Type 0 where
  pub timeout : event ≡ Expires Rto → ⊥
  pub probe : event ≡ Expires Persist → ⊥
  pub opens : (length : ℕ) (rst : Bool) → event ≡ Processes length rst → opens_probed before after ≡ true → ⊥

module _ (moment clock : ℕ) (recovers : Bool) (number : ℕ) where
  abbrev board : Event → (before after : View) → Reports → Scoreboard → Scoreboard
  board event before after r b = board_after moment clock recovers number event before after r b

  pub board_whole : (event : Event) (before after : View) (r : Reports) (b : Scoreboard) (una : ℕ) → una ≤ after.snd_una → IsWhole una b
      → IsWhole after.snd_una (board event before after r b)
  board_whole event before after r b una rises whole = by event
    where
      above : IsWhole after.snd_una b
      above i low is = whole i (omega (arith, low, rises)) is

      forgets : (i : ℕ) → after.snd_una ≤ i → slice_get (known_from after.snd_una b.known) i ≡ Some None → ⊥
      forgets i low is = above i low (sym (get-covered None after.snd_una i b.known low) ∙ is)

      fills : (s : Stretch) → Fits s b → (i : ℕ) → after.snd_una ≤ i → slice_get (made s.from s.upto number moment b.known) i ≡ Some None → ⊥
      fills s fits i low is = cases (made_is s.from s.upto number moment b.known fits.some fits.low i None is)
        where
          cases : IsOld s.from s.upto b.known i None ⊎ IsNew s.from s.upto number i None → ⊥
          cases (inl old) = above i low old.0
          cases (inr new) = none-some new.0.0 new.0.1

      by : (event : Event) → IsWhole after.snd_una (board event before after r b)
      by (Processes length rst) =
          opened_cases (IsWhole after.snd_una) before after (board_heard moment clock recovers rst before after r b)
          (heard_cases (IsWhole after.snd_una) moment clock recovers rst before after r b forgets forgets)
          (λ opens. heard_cases (λ c. IsWhole after.snd_una (with_given_up c)) moment clock recovers rst before after r b forgets forgets)
      by (Builds m) =
          built_cases (IsWhole after.snd_una) number moment (stretch_built m before after) (settled recovers clock b) above
          (λ fits. fills (stretch_built m before after) (record { some = fits.some; low = fits.low }))
      by (Expires Rto) = above
      by (Expires Persist) = above
      by (Recovers Begins) = above
      by (Recovers IsUndone) = above
      by event = above

  -- ---- numbers

  pub board_counted : (event : Event) (before after : View) (r : Reports) (b : Scoreboard) (old new : ℕ) → old ≤ new
      → ((m : SegmentPlan) → event ≡ Builds m → (old < number) × (number ≤ new)) → IsCounted old b → IsCounted new (board event before after r b)
  board_counted event before after r b old new rises builds c = by event builds
    where
      newest : b.newest ≤ old
      newest = c.newest

      given_up : b.given_up ≤ b.newest
      given_up = c.given_up

      stays : IsCounted new b
      stays = record { newest = omega (arith, newest, rises); given_up = given_up }

      gives_up : IsCounted new (with_given_up b)
      gives_up = record { newest = omega (arith, newest, rises); given_up = omega arith }

      by : (event : Event) → ((m : SegmentPlan) → event ≡ Builds m → (old < number) × (number ≤ new)) → IsCounted new (board event before after r b)
      by (Processes length rst) none =
          opened_cases (IsCounted new) before after (board_heard moment clock recovers rst before after r b)
          (heard_cases (IsCounted new) moment clock recovers rst before after r b
          (record { newest = stays.newest; given_up = stays.given_up }) (record { newest = stays.newest; given_up = stays.given_up }))
          (λ opens. heard_cases (λ d. IsCounted new (with_given_up d)) moment clock recovers rst before after r b
          (record { newest = gives_up.newest; given_up = gives_up.given_up }) (record { newest = gives_up.newest; given_up = gives_up.given_up }))
      by (Builds m) builds =
          let low = (builds m refl).0 in
          let high = (builds m refl).1 in
          built_cases (IsCounted new) number moment (stretch_built m before after) (settled recovers clock b)
          (record { newest = stays.newest; given_up = stays.given_up })
          (λ fits. record { newest = high; given_up = omega (arith, low, newest, given_up) })
      by (Expires Rto) none = gives_up
      by (Expires Persist) none = gives_up
      by (Recovers Begins) none = record { newest = stays.newest; given_up = stays.given_up }
      by (Recovers IsUndone) none = record { newest = stays.newest; given_up = omega arith }
      by event none = stays

  module _ (p : ℕ) where
    pub board_above : (event : Event) (before after : View) (r : Reports) (b : Scoreboard) → GivesUpNothing event before after
        → ((m : SegmentPlan) → event ≡ Builds m → b.given_up < number) → IsAbove p b → IsAbove p (board event before after r b)
    board_above event before after r b none builds above = by event none builds
      where
        forgets : (x : Outstanding) → slice_get (known_from after.snd_una b.known) p ≡ Some (Some x) → b.given_up < x.number
        forgets x is = above x (covered_some after.snd_una b.known p x is)

        fills : (s : Stretch) → Fits s b → b.given_up < number → (x : Outstanding) → slice_get (made s.from s.upto number moment b.known) p ≡ Some (Some x)
            → b.given_up < x.number
        fills s fits less x is = cases (made_is s.from s.upto number moment b.known fits.some fits.low p (Some x) is)
          where
            cases : IsOld s.from s.upto b.known p (Some x) ⊎ IsNew s.from s.upto number p (Some x) → b.given_up < x.number
            cases (inl old) = above x old.0
            cases (inr new) = subst (λ (n : ℕ). b.given_up < n) (sym (has_number number x new.0)) less

        by : (event : Event) → GivesUpNothing event before after → ((m : SegmentPlan) → event ≡ Builds m → b.given_up < number)
            → IsAbove p (board event before after r b)
        by (Processes length rst) none builds =
            opened_cases (IsAbove p) before after (board_heard moment clock recovers rst before after r b)
            (heard_cases (IsAbove p) moment clock recovers rst before after r b forgets forgets) (λ opens. absurd (none.opens length rst refl opens))
        by (Builds m) none builds =
            built_cases (IsAbove p) number moment (stretch_built m before after) (settled recovers clock b) above
            (λ fits. fills (stretch_built m before after) (record { some = fits.some; low = fits.low }) (builds m refl))
        by (Expires Rto) none builds = absurd (none.timeout refl)
        by (Expires Persist) none builds = absurd (none.probe refl)
        by (Recovers Begins) none builds = above
        by (Recovers IsUndone) none builds = λ x is. let less = above x is in omega (arith, less)
        by event none builds = above

    -- what was built just now
    pub built_above : (s : Stretch) (b : Scoreboard) → s.from ≤ p → p < s.upto → nat_le (acknowledged b.known) s.from ≡ true → b.given_up < number
        → IsAbove p (with_built number moment s b)
    built_above s b low high whole less = by (nat_le s.from (length b.known)) refl
      where
        some : nat_lt s.from s.upto ≡ true
        some = grind (arith, nat_tests, low, high)

        cases : (x : Outstanding) → IsOld s.from s.upto b.known p (Some x) ⊎ IsNew s.from s.upto number p (Some x) → b.given_up < x.number
        cases x (inl (is, inl under)) = absurd (omega (arith, low, under))
        cases x (inl (is, inr over)) = absurd (omega (arith, high, over))
        cases x (inr new) = subst (λ (n : ℕ). b.given_up < n) (sym (has_number number x new.0)) less

        by : (c : Bool) → nat_le s.from (length b.known) ≡ c → IsAbove p (with_built number moment s b)
        by true fits =
            subst (λ (c : Bool). IsAbove p (if c then built_board number moment s b else b)) (sym (λ i. some i && whole i && fits i))
            (λ x is. cases x (made_is s.from s.upto number moment b.known (omega (arith, low, high)) (grind (arith, nat_tests, fits)) p (Some x) is))
        by false out =
            subst (λ (c : Bool). IsAbove p (if c then built_board number moment s b else b)) (sym (λ i. some i && whole i && out i))
            (λ x is. let past : length b.known ≤ p = grind (arith, nat_tests, out, low) in
            absurd (none-some (Some x) (sym (slice_get_past b.known p past) ∙ is)))
