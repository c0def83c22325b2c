-- How the order grows, by a line and by a step.
use Rattle.std.proofs.Common.{◌≡◌, ℕ, ◌+◌, suc, Bool, true, false, cond, not, ◌&&◌, ◌||◌, List, [], ◌∷◌, ◌++◌, length}
use Rattle.std.proofs.Common.{refl, sym, ap, ◌∙◌, arith, Option, Some, None, length-append}
use Rattle.std.proofs.lemmas.Bool.Decides.{nat_tests}
use Rattle.std.proofs.lemmas.List.Folds.{list_any-append}
use Rattle.std.proofs.lemmas.Map.Entries.{lookup-filter-keys}
use Rattle.std.specs.Prelude.{nat_eq, filter}
use Rattle.std.specs.List.{enumerate_from}
use Rattle.case_forms.specs.declared.trace.Header.{Header}
use Rattle.case_forms.specs.declared.trace.Line.{Line}
use Rattle.case_forms.specs.Traces.{first_event_line, numbered, line_at}
use Rattle.interval_order.specs.Orders.{Take, Move, Order, takes, is_placed, unplaced, last_moment, order_of, order_after, held_after, held_line, with_line}

enumerate_more : {X : Type 0} → (n : ℕ) (xs : List X) (x : X) → enumerate_from n (xs ++ x ∷ []) ≡ enumerate_from n xs ++ (n + length xs, x) ∷ []
enumerate_more n [] x = λ i. (plus_none n i, x) ∷ []
  where
    plus_none : (n : ℕ) → n ≡ n + 0
    plus_none n = omega arith
enumerate_more {X} n (y ∷ ys) x =
    ap (λ (zs : List (ℕ × X)). (n, y) ∷ zs) (enumerate_more (n + 1) ys x ∙ ap (λ (m : ℕ). enumerate_from (n + 1) ys ++ (m, x) ∷ []) (one_on n ys))
  where
    one_on : (n : ℕ) (ys : List X) → n + 1 + length ys ≡ n + suc (length ys)
    one_on n ys = omega arith

-- one filter after another
filter_both : {X : Type 0} → (p q r : X → Bool) → ((x : X) → r x ≡ (q x && p x)) → (xs : List X) → filter p (filter q xs) ≡ filter r xs
filter_both p q r h [] = refl
filter_both {X} p q r h (x ∷ xs) = by_test (q x) refl (filter_both p q r h xs)
  where
    by_test : (b : Bool) → q x ≡ b → filter p (filter q xs) ≡ filter r xs → filter p (filter q (x ∷ xs)) ≡ filter r (x ∷ xs)
    by_test true is rest = rw (h x, is) (ap (λ (ys : List X). cond (p x) (x ∷ ys) ys) rest)
    by_test false is rest = rw (h x, is) rest

pub last_more : (earlier : List Move) (s : Move) → last_moment (earlier ++ s ∷ []) ≡ s.moment
last_more [] s = refl
last_more (t ∷ []) s = refl
last_more (t ∷ u ∷ moves) s = last_more (u ∷ moves) s

placed_more : (earlier : List Move) (s : Move) (n : ℕ) → not (is_placed (earlier ++ s ∷ []) n) ≡ (not (is_placed earlier n) && not (takes n s))
placed_more earlier s n = ap not (list_any-append (takes n) earlier (s ∷ [])) ∙ both (is_placed earlier n) (takes n s)
  where
    both : (a b : Bool) → not (a || (b || false)) ≡ (not a && not b)
    both true b = refl
    both false true = refl
    both false false = refl

all_kept : {X : Type 0} → (xs : List X) → filter (λ _. not false) xs ≡ xs
all_kept [] = refl
all_kept {X} (x ∷ xs) = ap (λ (ys : List X). x ∷ ys) (all_kept xs)

held_more : (header : Header) (lines : List Line) (earlier : List Move) (moment : ℕ) (take : Option Take)
    → held_after (unplaced header lines earlier) take
    ≡ unplaced header lines (earlier ++ record { moment = moment; take = take } ∷ [])
held_more header lines earlier moment (Some t) =
    filter_both (λ e. not (nat_eq t.number e.0)) (λ e. not (is_placed earlier e.0))
    (λ e. not (is_placed (earlier ++ record { moment = moment; take = Some t } ∷ []) e.0))
    (λ e. placed_more earlier (record { moment = moment; take = Some t }) e.0) (numbered header lines)
held_more header lines earlier moment None =
    sym (all_kept (unplaced header lines earlier))
    ∙ filter_both (λ e. not false) (λ e. not (is_placed earlier e.0)) (λ e. not (is_placed (earlier ++ record { moment = moment; take = None } ∷ []) e.0))
    (λ e. placed_more earlier (record { moment = moment; take = None }) e.0) (numbered header lines)

-- the order after one more step
pub order_more : (header : Header) (lines : List Line) (earlier : List Move) (s : Move)
    → order_after (order_of header lines earlier) s ≡ order_of header lines (earlier ++ s ∷ [])
order_more header lines earlier s = λ i. record {
  header = header;
  next = first_event_line header + length lines;
  held = held_more header lines earlier s.moment s.take i;
  last = sym (last_more earlier s) i;
}

-- before any step
pub order_first : (header : Header) (lines : List Line)
    → order_of header lines [] ≡ record {
      header = header;
      next = first_event_line header + length lines;
      held = numbered header lines;
      last = 0;
    }
order_first header lines = λ i. record { header = header; next = first_event_line header + length lines; held = all_kept (numbered header lines) i; last = 0 }

-- the order of one more line, before any step
pub line_more : (header : Header) (lines : List Line) (line : Line) → with_line (order_of header lines []) line ≡ order_of header (lines ++ line ∷ []) []
line_more header lines line =
    ap (λ (o : Order). with_line o line) (order_first header lines)
    ∙ (λ i. record { header = header; next = one_more i; held = sym (enumerate_more (first_event_line header) lines line) i; last = 0 })
    ∙ sym (order_first header (lines ++ line ∷ []))
  where
    one_more : first_event_line header + length lines + 1 ≡ first_event_line header + length (lines ++ line ∷ [])
    one_more = omega (arith, length-append lines (line ∷ []))

-- a line is held where it is the trace's and no step took it
pub held_is : (header : Header) (lines : List Line) (earlier : List Move) (n : ℕ)
    → held_line (order_of header lines earlier) n ≡ cond (not (is_placed earlier n)) (line_at header lines n) None
held_is header lines earlier n =
    lookup-filter-keys (nat_eq n) (λ k. not (is_placed earlier k)) (not (is_placed earlier n))
    (λ k e. ap (λ (m : ℕ). not (is_placed earlier m)) (same k e)) (numbered header lines)
  where
    same : (k : ℕ) → nat_eq n k ≡ true → k ≡ n
    same k e = grind (arith, nat_tests)
