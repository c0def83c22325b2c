-- The steps of a placement break no rule of order, and leave no line.
use Rattle.std.proofs.Common.{◌≡◌, ℕ, ◌<◌, ◌≤◌, ◌+◌, suc, zero, Bool, true, false, cond, not, ◌&&◌, List, [], ◌∷◌, ◌++◌}
use Rattle.std.proofs.Common.{length, take, refl, sym, ap, ◌∙◌, arith, Option, Some, None, append_assoc, append-nil}
use Rattle.std.proofs.lemmas.Grind.{common_steps}
use Rattle.std.proofs.lemmas.Bool.Decides.{nat_tests}
use Rattle.std.specs.Prelude.{nat_eq, nat_lt, nat_le, filter, slice_get}
use Rattle.std.specs.List.{enumerate_from, list_any}
use Rattle.std.specs.Map.{lookup}
use Rattle.case_forms.specs.declared.trace.Header.{Header}
use Rattle.case_forms.specs.declared.trace.Line.{Line}
use Rattle.case_forms.specs.Traces.{first_event_line, line_at}
use Rattle.verdict.specs.Rules.{first_broken}
use Rattle.verdict.proofs.RuleLemmas.{all_none}
use Rattle.interval_order.specs.Orders.{Take, Move, Order, taking, is_placed, unplaced, last_moment, order_of, held_line, is_offered}
use Rattle.interval_order.specs.OrderRules.{extras_of, has_earlier, moment_falls, has_overdue, order_rules}
use Rattle.interval_order.specs.Placed.{TakesAt, Placed, IsTimely}
use Rattle.interval_order.proofs.OrderLemmas.{held_is}
use Rattle.interval_order.proofs.PlacedFrom.{IsOrderly, placed_before, place_before}

orderly_from_places : (header : Header) (lines : List Line) (earlier moves : List Move)
    → ((i : ℕ) (s : Move) → slice_get moves i ≡ Some s → first_broken (order_rules (order_of header lines (earlier ++ take i moves)) s) ≡ None)
    → unplaced header lines (earlier ++ moves) ≡ []
    → IsOrderly header lines earlier moves
orderly_from_places header lines earlier [] h none = rw (sym (append-nil earlier)) none
orderly_from_places header lines earlier (t ∷ moves) h none = (
  rw append-nil at (h 0 t refl),
  orderly_from_places header lines (earlier ++ t ∷ []) moves
      (λ i s here. rw append_assoc (h (suc i) s here))
      (rw append_assoc none),
)

-- a line that some test finds among those not placed
record Found (keep : ℕ → Bool) (p : ℕ × Line → Bool) (k : ℕ) (xs : List Line) : Type 0 where
  number : ℕ
  line : Line
  here : lookup (nat_eq number) (enumerate_from k xs) ≡ Some line
  kept : keep number ≡ true
  passes : p (number, line) ≡ true
  above : k ≤ number

found : (keep : ℕ → Bool) (p : ℕ × Line → Bool) (k : ℕ) (xs : List Line) → list_any p (filter (λ e. keep e.0) (enumerate_from k xs)) ≡ true → Found keep p k xs
found keep p k [] any = absurd cc
found keep p k (x ∷ xs) any = by_test (keep k) refl (p (k, x)) refl (λ a. found keep p (k + 1) xs a)
  where
    later : Found keep p (k + 1) xs → Found keep p k (x ∷ xs)
    later f =
        let apart : nat_eq f.number k ≡ false = (let up : k + 1 ≤ f.number = f.above in grind (arith, nat_tests)) in
        record { number = f.number; line = f.line; here = rw apart f.here; kept = f.kept; passes = f.passes; above = omega (arith, f.above) }

    by_test : (b : Bool) → keep k ≡ b → (c : Bool) → p (k, x) ≡ c
        → (list_any p (filter (λ e. keep e.0) (enumerate_from (k + 1) xs)) ≡ true → Found keep p (k + 1) xs)
        → Found keep p k (x ∷ xs)
    by_test true is true at rest =
        let self : nat_eq k k ≡ true = grind (arith, nat_tests) in
        record { number = k; line = x; here = rw self refl; kept = is; passes = at; above = omega arith }
    by_test true is false at rest = later (rest (let r = rw is at any in rw at at r))
    by_test false is c at rest = later (rest (rw is at any))

in_bounds : (k n : ℕ) (xs : List Line) (line : Line) → lookup (nat_eq n) (enumerate_from k xs) ≡ Some line → (k ≤ n) × (n < k + length xs)
in_bounds k n [] line h = absurd cc
in_bounds k n (x ∷ xs) line h = by_test (nat_eq n k) refl (λ r. in_bounds (k + 1) n xs line r)
  where
    by_test : (b : Bool) → nat_eq n k ≡ b
        → (lookup (nat_eq n) (enumerate_from (k + 1) xs) ≡ Some line → (k + 1 ≤ n) × (n < k + 1 + length xs))
        → (k ≤ n) × (n < k + suc (length xs))
    by_test true is rest =
        let same : n ≡ k = grind (arith, nat_tests, is) in
        (omega arith, omega arith)
    by_test false is rest =
        let r = rest (rw is at h) in
        (omega (arith, r.0), omega (arith, r.1))

last_bound : (moves : List Move) (b : ℕ) → ((j : ℕ) (t : Move) → slice_get moves j ≡ Some t → t.moment ≤ b) → last_moment moves ≤ b
last_bound [] b h = omega arith
last_bound (s ∷ []) b h = h 0 s refl
last_bound (s ∷ t ∷ moves) b h = last_bound (t ∷ moves) b (λ j u there. h (suc j) u there)

record InFront (moves : List Move) (i j : ℕ) (t : Move) : Type 0 where
  before : j < i
  there : slice_get moves j ≡ Some t

in_front : (moves : List Move) (i j : ℕ) (t : Move) → slice_get (take i moves) j ≡ Some t → InFront moves i j t
in_front [] zero j t h = absurd cc
in_front [] (suc i) j t h = absurd cc
in_front (s ∷ moves) zero j t h = absurd cc
in_front (s ∷ moves) (suc i) zero t h = record { before = omega arith; there = h }
in_front (s ∷ moves) (suc i) (suc j) t h =
    let f = in_front moves i j t h in
    record { before = omega (arith, f.before); there = f.there }

-- a step that takes a held line in time breaks no rule of order
take_ok : (o : Order) (moment n extras : ℕ) (line : Line)
    → is_offered o n ≡ true → held_line o n ≡ Some line → IsTimely o.header line moment extras → has_earlier o n line.thread ≡ false
    → moment_falls o moment ≡ false → has_overdue o moment ≡ false
    → first_broken (order_rules o (taking moment n extras)) ≡ None
take_ok o moment n extras line offered is timely front falls late =
    let counted : extras ≡ extras_of o.header.version line.event = timely.count in
    let low : line.moment ≤ moment = timely.since in
    let high : moment ≤ line.moment + o.header.skew = timely.until in
    let count : nat_eq extras (extras_of o.header.version line.event) ≡ true = grind (arith, nat_tests, counted) in
    let below : nat_lt moment line.moment ≡ false = grind (arith, nat_tests, low) in
    let above : nat_lt (line.moment + o.header.skew) moment ≡ false = grind (arith, nat_tests, high) in
    all_none (order_rules o (taking moment n extras))
    (simp (offered, is, count) refl, (simp (offered, is) refl, (rw is front, (falls, (rw is (simp (below, above) refl), (late, tt))))))

-- Below, the steps are a placement.
module _ (header : Header) (lines : List Line) (moves : List Move) (p : Placed header lines moves) where
  takes_self : (n : ℕ) → nat_eq n n ≡ true
  takes_self n = grind (arith, nat_tests)

  placed_at : (j i n : ℕ) → TakesAt moves j n → j < i → is_placed (take i moves) n ≡ true
  placed_at j i n t lt = placed_before moves j i n (taking t.moment n t.extras) t.here (takes_self n) lt

  -- a line that isn't placed yet is taken here or later
  not_before : (i j n : ℕ) → TakesAt moves j n → not (is_placed (take i moves) n) ≡ true → i ≤ j
  not_before i j n t waits =
      let later : j < i → ⊥ = λ lt. (let h : true ≡ false = sym waits ∙ ap not (placed_at j i n t lt) in absurd cc) in
      omega arith

  is_fresh : (i n : ℕ) → TakesAt moves i n → is_placed (take i moves) n ≡ false
  is_fresh i n t = by_test (is_placed (take i moves) n) refl
    where
      by_test : (b : Bool) → is_placed (take i moves) n ≡ b → is_placed (take i moves) n ≡ false
      by_test false is = is
      by_test true is =
          let b = place_before moves i n is in
          let same : b.place ≡ i = p.once n b.place i b.at_place t in
          absurd (omega (arith, b.before))

  not_below : (i : ℕ) (s : Move) → slice_get moves i ≡ Some s → moment_falls (order_of header lines (take i moves)) s.moment ≡ false
  not_below i s here =
      let le : last_moment (take i moves) ≤ s.moment =
      last_bound (take i moves) s.moment
      (λ j t there. (let f = in_front moves i j t there in p.rising j i t s f.there here f.before)) in
      grind (arith, nat_tests, le)

  none_late : (i : ℕ) (s : Move) → slice_get moves i ≡ Some s → has_overdue (order_of header lines (take i moves)) s.moment ≡ false
  none_late i s here = by_test (has_overdue (order_of header lines (take i moves)) s.moment) refl
    where
      same_step : (i j : ℕ) (s t : Move) → i ≡ j → slice_get moves i ≡ Some s → slice_get moves j ≡ Some t → s.moment ≡ t.moment
      same_step i j s t q here there =
          let h : Some s ≡ Some t = sym here ∙ ap (λ (k : ℕ). slice_get moves k) q ∙ there in
          cc

      by_test : (b : Bool) → has_overdue (order_of header lines (take i moves)) s.moment ≡ b
          → has_overdue (order_of header lines (take i moves)) s.moment ≡ false
      by_test false is = is
      by_test true is =
          let f = found (λ n. not (is_placed (take i moves) n)) (λ x. nat_lt (x.1.moment + header.skew) s.moment) (first_event_line header) lines is in
          let taken = p.every f.number f.line f.here in
          let time = p.timely f.number taken.0 taken.1 in
          let until : taken.1.moment ≤ time.0.moment + header.skew = time.2.until in
          let same : Some time.0 ≡ Some f.line = sym time.1 ∙ f.here in
          let moment : time.0.moment ≡ f.line.moment = cc in
          let later : i ≤ taken.0 = not_before i taken.0 f.number taken.1 f.kept in
          let early : f.line.moment + header.skew < s.moment = grind (arith, nat_tests, f.passes) in
          let up : i < taken.0 → s.moment ≤ taken.1.moment = λ lt. p.rising i taken.0 s (taking taken.1.moment f.number taken.1.extras) here taken.1.here lt in
          let no_later : i < taken.0 → ⊥ = λ lt. (let h : s.moment ≤ taken.1.moment = up lt in omega arith) in
          let no_same : i ≡ taken.0 → ⊥ =
          λ q. (let h : s.moment ≡ taken.1.moment =
          same_step i taken.0 s (taking taken.1.moment f.number taken.1.extras) q here taken.1.here in
          omega arith) in
          absurd (omega arith)

  none_earlier : (i n : ℕ) (line : Line) → line_at header lines n ≡ Some line → TakesAt moves i n
      → has_earlier (order_of header lines (take i moves)) n line.thread ≡ false
  none_earlier i n line is_line t = by_test (has_earlier (order_of header lines (take i moves)) n line.thread) refl
    where
      both : (a b : Bool) → (a && b) ≡ true → (a ≡ true) × (b ≡ true)
      both true b q = (refl, q)
      both false b q = absurd cc

      by_test : (b : Bool) → has_earlier (order_of header lines (take i moves)) n line.thread ≡ b
          → has_earlier (order_of header lines (take i moves)) n line.thread ≡ false
      by_test false is = is
      by_test true is =
          let f = found (λ m. not (is_placed (take i moves) m)) (λ x. nat_lt x.0 n && nat_eq x.1.thread line.thread) (first_event_line header) lines is in
          let pass = both (nat_lt f.number n) (nat_eq f.line.thread line.thread) f.passes in
          let lower : f.number < n = grind (arith, nat_tests, pass.0) in
          let thread : f.line.thread ≡ line.thread = grind (arith, nat_tests, pass.1) in
          let taken = p.every f.number f.line f.here in
          let before : taken.0 < i = p.threads f.number n taken.0 i f.line line f.here is_line thread lower taken.1 t in
          let later : i ≤ taken.0 = not_before i taken.0 f.number taken.1 f.kept in
          absurd (omega arith)

  order_ok : (i moment : ℕ) (k : Option Take) → slice_get moves i ≡ Some (record { moment = moment; take = k })
      → first_broken (order_rules (order_of header lines (take i moves)) (record { moment = moment; take = k })) ≡ None
  order_ok i moment None here =
      all_none (order_rules (order_of header lines (take i moves)) (record { moment = moment; take = None })) (
        refl,
        (
          refl,
          (
            refl,
            (
              not_below i (record { moment = moment; take = None }) here,
              (refl, (none_late i (record { moment = moment; take = None }) here, tt)),
            ),
          ),
        ),
      )
  order_ok i moment (Some k) here =
      let t : TakesAt moves i k.number = record { moment = moment; extras = k.extras; here = here } in
      let time = p.timely k.number i t in
      let bounds = in_bounds (first_event_line header) k.number lines time.0 time.1 in
      let offered : (nat_le (first_event_line header) k.number
      && nat_lt k.number (first_event_line header + length lines)) ≡ true =
      grind (arith, nat_tests, bounds.0, bounds.1) in
      take_ok (order_of header lines (take i moves)) moment k.number k.extras time.0 offered
      (held_is header lines (take i moves) k.number ∙ ap (λ (b : Bool). cond (not b) (line_at header lines k.number) None) (is_fresh i k.number t) ∙ time.1)
      time.2 (none_earlier i k.number time.0 time.1 t)
      (not_below i (taking moment k.number k.extras) here) (none_late i (taking moment k.number k.extras) here)

  all_placed : unplaced header lines moves ≡ []
  all_placed = by_left (unplaced header lines moves) refl
    where
      whole : take (length moves) moves ≡ moves
      whole = grind (arith, common_steps)

      within : (ss : List Move) (j : ℕ) (t : Move) → slice_get ss j ≡ Some t → j < length ss
      within [] j t h = absurd cc
      within (u ∷ ss) zero t h = omega arith
      within (u ∷ ss) (suc j) t h = (let r : j < length ss = within ss j t h in omega arith)

      by_left : (l : List (ℕ × Line)) → unplaced header lines moves ≡ l → unplaced header lines moves ≡ []
      by_left [] is = is
      by_left (x ∷ l) is =
          let f =
          found (λ n. not (is_placed moves n)) (λ _. true) (first_event_line header) lines
          (ap (λ (es : List (ℕ × Line)). list_any (λ _. true) es) is) in
          let taken = p.every f.number f.line f.here in
          let there : is_placed (take (length moves) moves) f.number ≡ true =
          placed_at taken.0 (length moves) f.number taken.1
          (within moves taken.0 (taking taken.1.moment f.number taken.1.extras) taken.1.here) in
          let there' : is_placed moves f.number ≡ true = ap (λ (ss : List Move). is_placed ss f.number) (sym whole) ∙ there in
          let h : false ≡ true = ap not (sym there') ∙ f.kept in
          absurd cc

  pub orderly_from_placed : IsOrderly header lines [] moves
  orderly_from_placed = orderly_from_places header lines [] moves (λ i s here. order_ok i s.moment s.take here) all_placed
