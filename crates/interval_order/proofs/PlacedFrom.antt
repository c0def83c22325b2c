-- Steps that break no rule of order, and leave no line, are a placement.
use Rattle.std.proofs.Common.{◌≡◌, ℕ, ◌<◌, ◌≤◌, ◌+◌, suc, zero, Bool, true, false, cond, not, ◌&&◌, ◌||◌, List, [], ◌∷◌}
use Rattle.std.proofs.Common.{◌++◌, length, take, refl, sym, ap, ◌∙◌, subst, arith, Option, Some, None, append_assoc}
use Rattle.std.proofs.Common.{append-nil, inl, inr}
use Rattle.std.proofs.lemmas.Grind.{common_steps}
use Rattle.std.proofs.lemmas.Bool.Decides.{nat_tests}
use Rattle.std.specs.Prelude.{nat_eq, nat_lt, slice_get}
use Rattle.std.specs.List.{list_any}
use Rattle.std.specs.Map.{lookup}
use Rattle.case_forms.specs.declared.trace.Header.{Header}
use Rattle.case_forms.specs.declared.trace.Line.{Line}
use Rattle.case_forms.specs.Traces.{line_at}
use Rattle.verdict.specs.Rules.{first_broken}
use Rattle.verdict.proofs.RuleLemmas.{none_all}
use Rattle.interval_order.specs.Orders.{Take, Move, Order, taking, takes, is_placed, unplaced, last_moment, order_of, held_line, is_offered}
use Rattle.interval_order.specs.OrderRules.{extras_of, line_range, line_again, has_earlier, thread_order, moment_falls, moment_off, has_overdue, order_rules}
use Rattle.interval_order.specs.Placed.{TakesAt, Placed, IsTimely, Precedes}
use Rattle.interval_order.proofs.OrderLemmas.{held_is, last_more}

-- no step breaks a rule of order, and each line is placed in the end
abbrev pub IsOrderly : Header → List Line → List Move → List Move → Type 0
IsOrderly header lines earlier [] = unplaced header lines earlier ≡ []
IsOrderly header lines earlier (s ∷ moves) =
    (first_broken (order_rules (order_of header lines earlier) s) ≡ None)
    × IsOrderly header lines (earlier ++ s ∷ []) moves

-- at each place no rule is broken
orderly_at : (header : Header) (lines : List Line) (earlier moves : List Move) → IsOrderly header lines earlier moves
    → (i : ℕ) (s : Move) → slice_get moves i ≡ Some s → first_broken (order_rules (order_of header lines (earlier ++ take i moves)) s) ≡ None
orderly_at header lines earlier [] orderly i s here = absurd cc
orderly_at header lines earlier (t ∷ moves) orderly zero s here =
    let same : t ≡ s = cc in
    subst (λ (u : Move). first_broken (order_rules (order_of header lines (earlier ++ [])) u) ≡ None) same (rw append-nil orderly.0)
orderly_at header lines earlier (t ∷ moves) orderly (suc i) s here =
    rw (← append_assoc earlier (t ∷ []) (take i moves)) (orderly_at header lines (earlier ++ t ∷ []) moves orderly.1 i s here)

orderly_end : (header : Header) (lines : List Line) (earlier moves : List Move) → IsOrderly header lines earlier moves
    → unplaced header lines (earlier ++ moves) ≡ []
orderly_end header lines earlier [] orderly = rw append-nil orderly
orderly_end header lines earlier (t ∷ moves) orderly =
    rw (← append_assoc earlier (t ∷ []) moves) (orderly_end header lines (earlier ++ t ∷ []) moves orderly.1)

-- no rule of order is broken, rule by rule
record Keeps (o : Order) (s : Move) : Type 0 where
  in_range : line_range o s.take ≡ false
  not_again : line_again o s.take ≡ false
  in_order : thread_order o s.take ≡ false
  not_below : moment_falls o s.moment ≡ false
  on_time : moment_off o s.moment s.take ≡ false
  none_late : has_overdue o s.moment ≡ false

keeps : (o : Order) (s : Move) → first_broken (order_rules o s) ≡ None → Keeps o s
keeps o s e =
    let all = none_all (order_rules o s) e in
    record { in_range = all.0; not_again = all.1.0; in_order = all.1.1.0; not_below = all.1.1.1.0; on_time = all.1.1.1.1.0; none_late = all.1.1.1.1.1.0 }

-- a line that a step takes is held, and the step is in time
record Held (o : Order) (moment n extras : ℕ) : Type 0 where
  line : Line
  here : held_line o n ≡ Some line
  in_order : has_earlier o n line.thread ≡ false
  timely : IsTimely o.header line moment extras

never : (b : Bool) → (not b || false) ≡ false → (b && true) ≡ false → ⊥
never true p q = cc
never false p q = cc

right : (a b : Bool) → (a || b) ≡ false → b ≡ false
right true b e = absurd cc
right false b e = e

left : (a b : Bool) → (a || b) ≡ false → a ≡ false
left true b e = e
left false b e = refl

not_not : (b : Bool) → not b ≡ false → b ≡ true
not_not true e = refl
not_not false e = absurd cc

held : (o : Order) (moment n extras : ℕ) → Keeps o (taking moment n extras) → Held o moment n extras
held o moment n extras ok = by_held (held_line o n) refl
  where
    by_held : (h : Option Line) → held_line o n ≡ h → Held o moment n extras
    by_held None is = absurd (never (is_offered o n) (rw is at ok.in_range) (rw is at ok.not_again))
    by_held (Some line) is =
        let range : (not (is_offered o n) || not (nat_eq extras (extras_of o.header.version line.event))) ≡ false = rw is at ok.in_range in
        let time : (nat_lt moment line.moment || nat_lt (line.moment + o.header.skew) moment) ≡ false = rw is at ok.on_time in
        let low : nat_lt moment line.moment ≡ false = left (nat_lt moment line.moment) (nat_lt (line.moment + o.header.skew) moment) time in
        let high : nat_lt (line.moment + o.header.skew) moment ≡ false = right (nat_lt moment line.moment) (nat_lt (line.moment + o.header.skew) moment) time in
        let count : nat_eq extras (extras_of o.header.version line.event) ≡ true =
        not_not (nat_eq extras (extras_of o.header.version line.event))
        (right (not (is_offered o n)) (not (nat_eq extras (extras_of o.header.version line.event))) range) in
        record {
          line = line;
          here = is;
          in_order = rw is at ok.in_order;
          timely = record { count = grind (arith, nat_tests, count); since = grind (arith, nat_tests, low); until = grind (arith, nat_tests, high) };
        }

-- it is the trace's, and no step before took it
record Fresh (header : Header) (lines : List Line) (earlier : List Move) (n : ℕ) (line : Line) : Type 0 where
  fresh : is_placed earlier n ≡ false
  here : line_at header lines n ≡ Some line

fresh : (header : Header) (lines : List Line) (earlier : List Move) (n : ℕ) (line : Line)
    → held_line (order_of header lines earlier) n ≡ Some line → Fresh header lines earlier n line
fresh header lines earlier n line is = by_test (is_placed earlier n) refl
  where
    by_test : (b : Bool) → is_placed earlier n ≡ b → Fresh header lines earlier n line
    by_test true placed =
        let gone : Some line ≡ None = sym is ∙ held_is header lines earlier n ∙ ap (λ (b : Bool). cond (not b) (line_at header lines n) None) placed in
        absurd cc
    by_test false placed = record {
      fresh = placed;
      here = sym (held_is header lines earlier n ∙ ap (λ (b : Bool). cond (not b) (line_at header lines n) None) placed) ∙ is;
    }

-- a step before that takes the line has placed it
pub placed_before : (moves : List Move) (i j n : ℕ) (s : Move) → slice_get moves i ≡ Some s → takes n s ≡ true → i < j → is_placed (take j moves) n ≡ true
placed_before [] i j n s here it lt = absurd cc
placed_before (t ∷ moves) i zero n s here it lt = absurd (omega arith)
placed_before (t ∷ moves) zero (suc j) n s here it lt =
    let same : t ≡ s = cc in
    ap (λ (b : Bool). b || is_placed (take j moves) n) (ap (takes n) same ∙ it)
placed_before (t ∷ moves) (suc i) (suc j) n s here it lt =
    either (takes n t) (is_placed (take j moves) n) (placed_before moves i j n s here it (omega arith))
  where
    either : (a b : Bool) → b ≡ true → (a || b) ≡ true
    either true b e = refl
    either false b e = e

-- and a line that is placed was taken by some step
pub record TakenBefore (moves : List Move) (j n : ℕ) : Type 0 where
  pub place : ℕ
  pub before : place < j
  pub at_place : TakesAt moves place n

pub place_before : (moves : List Move) (j n : ℕ) → is_placed (take j moves) n ≡ true → TakenBefore moves j n
place_before [] zero n e = absurd cc
place_before [] (suc j) n e = absurd cc
place_before (t ∷ moves) zero n e = absurd cc
place_before (t ∷ moves) (suc j) n e = by_take t.take refl (λ rest. place_before moves j n rest)
  where
    later : TakenBefore moves j n → TakenBefore (t ∷ moves) (suc j) n
    later b =
        record {
          place = suc b.place;
          before = omega (arith, b.before);
          at_place = record { moment = b.at_place.moment; extras = b.at_place.extras; here = b.at_place.here };
        }

    by_take : (k : Option Take) → t.take ≡ k → (is_placed (take j moves) n ≡ true → TakenBefore moves j n) → TakenBefore (t ∷ moves) (suc j) n
    by_take None is rest = later (rest (ap (λ (k : Option Take). takes n (record { moment = t.moment; take = k }) || is_placed (take j moves) n) (sym is) ∙ e))
    by_take (Some k) is rest = by_test (nat_eq k.number n) refl
      where
        by_test : (b : Bool) → nat_eq k.number n ≡ b → TakenBefore (t ∷ moves) (suc j) n
        by_test true same =
            let same' : k.number ≡ n = grind (arith, nat_tests, same) in
            record {
              place = 0;
              before = omega arith;
              at_place = record {
                moment = t.moment;
                extras = k.extras;
                here = ap (λ (q : Option Take). Some (record { moment = t.moment; take = q })) is
                    ∙ ap (λ (m : ℕ). Some (taking t.moment m k.extras)) same';
              };
            }
        by_test false same =
            later (rest (sym (ap (λ (q : Option Take).
            takes n (record { moment = t.moment; take = q }) || is_placed (take j moves) n) is
            ∙ ap (λ (b : Bool). b || is_placed (take j moves) n) same) ∙ e))

-- moments of what follows are at least this, and don't fall
abbrev IsRising : ℕ → List Move → Type 0
IsRising last [] = Unit {0}
IsRising last (s ∷ moves) = (last ≤ s.moment) × IsRising s.moment moves

rising_from : (header : Header) (lines : List Line) (earlier moves : List Move) → IsOrderly header lines earlier moves → IsRising (last_moment earlier) moves
rising_from header lines earlier [] orderly = tt
rising_from header lines earlier (s ∷ moves) orderly =
    let ok = keeps (order_of header lines earlier) s orderly.0 in
    let up : last_moment earlier ≤ s.moment = not_below s.moment (last_moment earlier) ok.not_below in
    (up, subst (λ (m : ℕ). IsRising m moves) (last_more earlier s) (rising_from header lines (earlier ++ s ∷ []) moves orderly.1))
  where
    not_below : (a b : ℕ) → nat_lt a b ≡ false → b ≤ a
    not_below a b e = grind (arith, nat_tests, e)

rising_first : (last : ℕ) (moves : List Move) → IsRising last moves → (j : ℕ) (t : Move) → slice_get moves j ≡ Some t → last ≤ t.moment
rising_first last [] r j t there = absurd cc
rising_first last (s ∷ moves) r zero t there =
    let same : s ≡ t = cc in
    subst (λ (u : Move). last ≤ u.moment) same r.0
rising_first last (s ∷ moves) r (suc j) t there =
    let rest : s.moment ≤ t.moment = rising_first s.moment moves r.1 j t there in
    omega (arith, r.0)

rising_at : (last : ℕ) (moves : List Move) → IsRising last moves → (i j : ℕ) (s t : Move) → slice_get moves i ≡ Some s
    → slice_get moves j ≡ Some t → i < j → s.moment ≤ t.moment
rising_at last [] r i j s t here there lt = absurd cc
rising_at last (u ∷ moves) r i zero s t here there lt = absurd (omega arith)
rising_at last (u ∷ moves) r zero (suc j) s t here there lt =
    let same : u ≡ s = cc in
    subst (λ (v : Move). v.moment ≤ t.moment) same (rising_first u.moment moves r.1 j t there)
rising_at last (u ∷ moves) r (suc i) (suc j) s t here there lt = rising_at u.moment moves r.1 i j s t here there (omega arith)

-- a line found by its number is among the entries
lookup_any : (es : List (ℕ × Line)) (m : ℕ) (a : Line) (p : ℕ × Line → Bool) → lookup (nat_eq m) es ≡ Some a → p (m, a) ≡ true → list_any p es ≡ true
lookup_any [] m a p found pass = absurd cc
lookup_any (e ∷ es) m a p found pass = by_test (nat_eq m e.0) refl (λ rest. lookup_any es m a p rest pass)
  where
    either : (a b : Bool) → b ≡ true → (a || b) ≡ true
    either true b e = refl
    either false b e = e

    by_test : (b : Bool) → nat_eq m e.0 ≡ b → (lookup (nat_eq m) es ≡ Some a → list_any p es ≡ true) → list_any p (e ∷ es) ≡ true
    by_test true is rest =
        let key : e.0 ≡ m = grind (arith, nat_tests, is) in
        let value : Some e.1 ≡ Some a = rw is at found in
        let value' : e.1 ≡ a = cc in
        ap (λ (b : Bool). b || list_any p es) (ap p (λ i. (key i, value' i)) ∙ pass)
    by_test false is rest = either (p e) (list_any p es) (rest (rw is at found))

-- Below, the steps break no rule of order.
module _ (header : Header) (lines : List Line) (moves : List Move) (orderly : IsOrderly header lines [] moves) where
  ok_at : (i : ℕ) (s : Move) → slice_get moves i ≡ Some s → Keeps (order_of header lines (take i moves)) s
  ok_at i s here = keeps (order_of header lines (take i moves)) s (orderly_at header lines [] moves orderly i s here)

  held_at : (i n : ℕ) (t : TakesAt moves i n) → Held (order_of header lines (take i moves)) t.moment n t.extras
  held_at i n t = held (order_of header lines (take i moves)) t.moment n t.extras (ok_at i (taking t.moment n t.extras) t.here)

  fresh_at : (i n : ℕ) (t : TakesAt moves i n) → Fresh header lines (take i moves) n (held_at i n t).line
  fresh_at i n t = fresh header lines (take i moves) n (held_at i n t).line (held_at i n t).here

  takes_self : (n : ℕ) → nat_eq n n ≡ true
  takes_self n = grind (arith, nat_tests)

  before_is_placed : (i j n : ℕ) → TakesAt moves i n → i < j → is_placed (take j moves) n ≡ true
  before_is_placed i j n t lt = placed_before moves i j n (taking t.moment n t.extras) t.here (takes_self n) lt

  not_later : (n i j : ℕ) → TakesAt moves i n → TakesAt moves j n → i < j → ⊥
  not_later n i j a b lt =
      let was : is_placed (take j moves) n ≡ true = before_is_placed i j n a lt in
      let is : is_placed (take j moves) n ≡ false = (fresh_at j n b).fresh in
      let h : true ≡ false = sym was ∙ is in
      cc

  once : (n i j : ℕ) → TakesAt moves i n → TakesAt moves j n → i ≡ j
  once n i j a b =
      let low : i < j → ⊥ = not_later n i j a b in
      let high : j < i → ⊥ = not_later n j i b a in
      omega arith

  every : (n : ℕ) (line : Line) → line_at header lines n ≡ Some line → (i : ℕ) × TakesAt moves i n
  every n line is = by_test (is_placed moves n) refl
    where
      by_test : (b : Bool) → is_placed moves n ≡ b → (i : ℕ) × TakesAt moves i n
      by_test true placed =
          let t = place_before moves (length moves) n (ap (λ (ss : List Move). is_placed ss n) (take_whole moves) ∙ placed) in
          (t.place, t.at_place)
        where
          take_whole : (ss : List Move) → take (length ss) ss ≡ ss
          take_whole ss = grind (arith, common_steps)
      by_test false placed =
          let none : lookup (nat_eq n) (unplaced header lines moves) ≡ None =
          ap (λ (es : List (ℕ × Line)). lookup (nat_eq n) es) (orderly_end header lines [] moves orderly) in
          let some : lookup (nat_eq n) (unplaced header lines moves) ≡ Some line =
          held_is header lines moves n ∙ ap (λ (b : Bool). cond (not b) (line_at header lines n) None) placed
          ∙ is in
          let h : None ≡ Some line = sym none ∙ some in
          absurd cc

  threads : (m n i j : ℕ) (a b : Line) → line_at header lines m ≡ Some a → line_at header lines n ≡ Some b
      → a.thread ≡ b.thread → m < n → TakesAt moves i m → TakesAt moves j n → i < j
  threads m n i j a b is_a is_b thread lt take_m take_n = by_test (is_placed (take j moves) m) refl
    where
      by_test : (x : Bool) → is_placed (take j moves) m ≡ x → i < j
      by_test true placed =
          let t = place_before moves j m placed in
          let same : t.place ≡ i = once m t.place i t.at_place take_m in
          omega (arith, t.before)
      by_test false placed =
          let line : Line = (held_at j n take_n).line in
          let found : Some line ≡ Some b = sym (fresh_at j n take_n).here ∙ is_b in
          let same : line ≡ b = cc in
          let there : held_line (order_of header lines (take j moves)) m ≡ Some a =
          held_is header lines (take j moves) m
          ∙ ap (λ (x : Bool). cond (not x) (line_at header lines m) None) placed ∙ is_a in
          let pass : (nat_lt m n && nat_eq a.thread line.thread) ≡ true = grind (arith, nat_tests, ap (λ (l : Line). l.thread) same) in
          let any : has_earlier (order_of header lines (take j moves)) n line.thread ≡ true =
          lookup_any (unplaced header lines (take j moves)) m a
          (λ e. nat_lt e.0 n && nat_eq e.1.thread line.thread) there pass in
          let h : true ≡ false = sym any ∙ (held_at j n take_n).in_order in
          absurd cc

  pub placed_from_orderly : Placed header lines moves
  placed_from_orderly = record {
    rising = λ i j s t here there lt. rising_at 0 moves (rising_from header lines [] moves orderly) i j s t here there lt;
    every = every;
    once = once;
    timely = λ n i t. ((held_at i n t).line, (fresh_at i n t).here, (held_at i n t).timely);
    threads = threads;
  }

-- the law of the interval order
pub precedes_stands_before : (header : Header) (lines : List Line) (moves : List Move) → Placed header lines moves
    → (m n i j : ℕ) (a b : Line) → line_at header lines m ≡ Some a → line_at header lines n ≡ Some b
    → Precedes header m a n b → TakesAt moves i m → TakesAt moves j n → i < j
precedes_stands_before header lines moves p m n i j a b is_a is_b (inl order) take_m take_n = p.threads m n i j a b is_a is_b order.0 order.1 take_m take_n
precedes_stands_before header lines moves p m n i j a b is_a is_b (inr apart) take_m take_n =
    let first = p.timely m i take_m in
    let second = p.timely n j take_n in
    let same_a : Some first.0 ≡ Some a = sym first.1 ∙ is_a in
    let same_b : Some second.0 ≡ Some b = sym second.1 ∙ is_b in
    let moment_a : first.0.moment ≡ a.moment = cc in
    let moment_b : second.0.moment ≡ b.moment = cc in
    let gap : take_m.moment < take_n.moment = omega (arith, first.2.until, second.2.since) in
    let above : j < i → ⊥ =
    λ lt. (let h : take_n.moment ≤ take_m.moment =
    p.rising j i (taking take_n.moment n take_n.extras)
    (taking take_m.moment m take_m.extras) take_n.here take_m.here lt in omega arith) in
    let same : i ≡ j → ⊥ =
    λ e. (let h : take_m.moment ≡ take_n.moment =
    same_step i j (taking take_m.moment m take_m.extras)
    (taking take_n.moment n take_n.extras) e take_m.here take_n.here in omega arith) in
    omega arith
  where
    same_step : (i j : ℕ) (s t : Move) → i ≡ j → slice_get moves i ≡ Some s → slice_get moves j ≡ Some t → s.moment ≡ t.moment
    same_step i j s t e here there =
        let h : Some s ≡ Some t = sym here ∙ ap (λ (k : ℕ). slice_get moves k) e ∙ there in
        cc
