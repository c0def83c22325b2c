-- What may be sent again, position by position.
use Rattle.std.proofs.Common.{◌≡◌, ℕ, suc, ◌-◌, ◌<◌, ◌≤◌, min, Bool, true, false, not, ◌&&◌, ◌||◌, nat_lt, nat_eq, List, refl, sym, ap, ◌∙◌}
use Rattle.std.proofs.Common.{subst, arith, if◌then◌else◌}
use Rattle.std.proofs.lemmas.Bool.Decides.{nat_tests}
use Rattle.std.proofs.lemmas.List.Folds.{list_all-append}
use Rattle.std.specs.Prelude.{Option, None, Some}
use Rattle.std.specs.FinSet.{FinSet, contains, from_list, items}
use Rattle.std.specs.List.{list_all}
use Rattle.std.specs.Option.{option_map_or}
use Rattle.std.specs.Ordering.{nat_cmp}
use Rattle.streams.specs.Flying.{flying, state_before}
use Rattle.streams.specs.Pieces.{inner}
use Rattle.streams.specs.Ranges.{covers, first_held, positions}
use Rattle.streams.specs.declared.outstanding.Outstanding.{Outstanding}
use Rattle.streams.proofs.Firsts.{is_first, not_held}
use Rattle.streams.proofs.FlyingLemmas.{positions_parts}
use Rattle.streams.proofs.MarkLemmas.{or_true}
use Rattle.streams.proofs.RangeLemmas.{all_counted, counted_all, covers_each, not_counted}
use Rattle.spec_flights.specs.Flights.{Flight, is_free, is_marked}
use Rattle.flight_parts.proofs.SetLemmas.{read_back}

and_false : (a b : Bool) → b ≡ false → (a && b) ≡ false
and_false true b is = is
and_false false b is = refl

-- ---- a test of consecutive positions

module _ (test : ℕ → Bool) where
  pub each_all : (a b : ℕ) → ((p : ℕ) → a ≤ p → p < b → test p ≡ true) → list_all test (positions a b) ≡ true
  each_all a b each = all_counted test a (b - a) (λ p low high. each p low (omega (arith, low, high)))

  pub all_each : (a b : ℕ) → list_all test (positions a b) ≡ true → (p : ℕ) → a ≤ p → p < b → test p ≡ true
  all_each a b all p low high = counted_all test a (b - a) all p low (omega (arith, low, high))

  pub first_fails : (a b : ℕ) → a < b → test a ≡ false → list_all test (positions a b) ≡ false
  first_fails a b some is = not_counted test a (b - a) a (omega arith) (omega (arith, some)) is

  pub none_fails : (a b : ℕ) → b ≤ a → list_all test (positions a b) ≡ true
  none_fails a b none = each_all a b (λ p low high. absurd (omega (arith, none, low, high)))

  -- some that pass the test, and those after them
  pub both_pass : (a b c : ℕ) → a ≤ b → b ≤ c → list_all test (positions a b) ≡ true → list_all test (positions b c) ≡ true
      → list_all test (positions a c) ≡ true
  both_pass a b c low high front rest =
      ap (list_all test) (positions_parts a b c low high)
      ∙ list_all-append test (positions a b) (positions b c)
      ∙ ap (λ d. d && list_all test (positions b c)) front
      ∙ rest

  -- where the ones to before `next` pass
  pub front_passes : (a next b : ℕ) → a < next → list_all test (positions a next) ≡ true
      → list_all test (positions a b) ≡ list_all test (positions next b)
  front_passes a next b some front = by (nat_lt next b) refl
    where
      by : (c : Bool) → nat_lt next b ≡ c → list_all test (positions a b) ≡ list_all test (positions next b)
      by true under =
          let high : next ≤ b = grind (arith, nat_tests, under) in
          ap (list_all test) (positions_parts a next b (omega (arith, some)) high)
          ∙ list_all-append test (positions a next) (positions next b)
          ∙ ap (λ c. c && list_all test (positions next b)) front
      by false over =
          let low : b ≤ next = grind (arith, nat_tests, over) in
          each_all a b (λ p from to. all_each a next front p from (omega (arith, low, to))) ∙ sym (none_fails next b low)

-- ---- what is kept of an endpoint, as the code has it

pub record Keeps (f : Flight) (marks told : FinSet nat_cmp) (fast : Bool) (known : List (Option Outstanding)) : Type 0 where
  pub marks_is : from_list f.marks ≡ marks
  pub told_is : from_list f.board.told ≡ told
  pub fast_is : f.recovery.is_fast ≡ fast
  pub known_is : f.board.known ≡ known

pub keeps : (g f : Flight) (marks told : FinSet nat_cmp) → g ≡ f → g.marks ≡ items marks → g.board.told ≡ items told
    → Keeps f marks told g.recovery.is_fast g.board.known
keeps g f marks told is marked held = record {
  marks_is = ap (λ (f : Flight). from_list f.marks) (sym is) ∙ (ap from_list marked ∙ read_back marks);
  told_is = ap (λ (f : Flight). from_list f.board.told) (sym is) ∙ (ap from_list held ∙ read_back told);
  fast_is = ap (λ (f : Flight). f.recovery.is_fast) (sym is);
  known_is = ap (λ (f : Flight). f.board.known) (sym is);
}

module _ {f : Flight} {marks told : FinSet nat_cmp} {fast : Bool} {known : List (Option Outstanding)} (k : Keeps f marks told fast known) where
  marked_is : (p : ℕ) → is_marked f p ≡ (contains marks p && not (fast && contains told p))
  marked_is p =
      ap (λ (s : FinSet nat_cmp). contains s p && not (f.recovery.is_fast && contains (from_list {K = ℕ} {R = nat_cmp} f.board.told) p)) k.marks_is
      ∙ (ap (λ b. contains marks p && not (b && contains (from_list {K = ℕ} {R = nat_cmp} f.board.told) p)) k.fast_is
      ∙ ap (λ (s : FinSet nat_cmp). contains marks p && not (fast && contains s p)) k.told_is)

  unmarked : (p : ℕ) → contains marks p ≡ false → is_marked f p ≡ false
  unmarked p is = marked_is p ∙ ap (λ b. b && not (fast && contains told p)) is

  untold_marked : (p : ℕ) → contains marks p ≡ true → (fast && contains told p) ≡ false → is_marked f p ≡ true
  untold_marked p is not_told = marked_is p ∙ rw (is, not_told) refl

  told_unmarked : (p : ℕ) → fast ≡ true → contains told p ≡ true → is_marked f p ≡ false
  told_unmarked p quick is = marked_is p ∙ rw (quick, is) (and_false (contains marks p) false refl)

  -- ---- the position after some that are marked

  pub all_marked : (at end : ℕ) → fast ≡ false → covers marks at end ≡ true → list_all (is_marked f) (positions at end) ≡ true
  all_marked at end slow held =
      each_all (is_marked f) at end
      (λ p low high. untold_marked p (covers_each marks at end held p low high) (ap (λ b. b && contains told p) slow))

  pub none_marked : (at end : ℕ) → contains marks end ≡ false → end ≡ at → is_marked f at ≡ false
  none_marked at end missing here = subst (λ (n : ℕ). is_marked f n ≡ false) here (unmarked end missing)

  pub marked_before : (at end next n : ℕ) → covers marks at end ≡ true → Some next ≡ first_held told at → n ≡ min next end
      → list_all (is_marked f) (positions at n) ≡ true
  marked_before at end next n held first least =
      each_all (is_marked f) at n
      (λ p low high. untold_marked p (covers_each marks at end held p low (omega (arith, least, high)))
      (and_false fast (contains told p) ((is_first told at next (sym first)).before p low (omega (arith, least, high)))))

  pub above_first : (at end next n : ℕ) → at ≤ end → Some next ≡ first_held told at → n ≡ min next end → at ≤ n
  above_first at end next n low first least =
      let from : at ≤ next = (is_first told at next (sym first)).from in
      omega (arith, from, low, least)

  pub none_before : (at end next n : ℕ) → fast ≡ true → contains marks end ≡ false → Some next ≡ first_held told at → n ≡ min next end
      → n ≡ at → is_marked f at ≡ false
  none_before at end next n quick missing first least here = by (nat_eq end at) refl
    where
      by : (b : Bool) → nat_eq end at ≡ b → is_marked f at ≡ false
      by true same = none_marked at end missing (grind (arith, nat_tests, same))
      by false other =
          let is : next ≡ at = grind (arith, nat_tests, other, least, here) in
          told_unmarked at quick (subst (λ (p : ℕ). contains told p ≡ true) is (is_first told at next (sym first)).held)

  pub marked_rest : (at end : ℕ) → covers marks at end ≡ true → None ≡ first_held told at → list_all (is_marked f) (positions at end) ≡ true
  marked_rest at end held none =
      each_all (is_marked f) at end
      (λ p low high. untold_marked p (covers_each marks at end held p low high)
      (and_false fast (contains told p) (not_held told at p (sym none) low)))

  -- ---- the position after some that may be sent again

  module _ (below : ℕ) where
    free_is : (p : ℕ) (o : Option Outstanding) → flying known told p ≡ o
        → is_free below f p ≡ (is_marked f p || option_map_or (λ x. nat_lt x.number below) o false)
    free_is p o is =
        ap (λ (all : List (Option Outstanding)).
        is_marked f p || option_map_or (λ x. nat_lt x.number below) (flying all (from_list f.board.told) p) false) k.known_is
        ∙ (ap (λ (s : FinSet nat_cmp). is_marked f p || option_map_or (λ x. nat_lt x.number below) (flying known s p) false) k.told_is
        ∙ ap (λ (o : Option Outstanding). is_marked f p || option_map_or (λ x. nat_lt x.number below) o false) is)

    pub run_free : (from upto : ℕ) (x : Outstanding) → x.number < below
        → ((p : ℕ) → from ≤ p → p < upto → flying known told p ≡ Some (state_before (suc p) upto x))
        → list_all (is_free below f) (positions from upto) ≡ true
    run_free from upto x low alike =
        each_all (is_free below f) from upto (λ p over under.
        free_is p (Some (state_before (suc p) upto x)) (alike p over under)
        ∙ or_true (is_marked f p) (nat_lt (state_before (suc p) upto x).number below) (numbered (nat_lt (suc p) upto)))
      where
        numbered : (b : Bool) → nat_lt (if b then inner x else x).number below ≡ true
        numbered true = grind (arith, nat_tests, low)
        numbered false = grind (arith, nat_tests, low)

    pub rests_unfree : (p : ℕ) → is_marked f p ≡ false → flying known told p ≡ None → is_free below f p ≡ false
    rests_unfree p unmarked rests = free_is p None rests ∙ ap (λ b. b || false) unmarked

pub marked_free : (f : Flight) (below a b : ℕ) → list_all (is_marked f) (positions a b) ≡ true → list_all (is_free below f) (positions a b) ≡ true
marked_free f below a b all =
    each_all (is_free below f) a b (λ p low high.
    ap (λ c. c || option_map_or (λ x. nat_lt x.number below) (flying f.board.known (from_list f.board.told) p) false)
    (all_each (is_marked f) a b all p low high))
