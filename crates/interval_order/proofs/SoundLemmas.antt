-- What pending lines keep true stays true with one line more, and with the first of its thread placed.
use Rattle.std.proofs.Common.{◌≡◌, ℕ, ◌<◌, ◌≤◌, ◌+◌, true, false, cond, ◌&&◌, ◌==◌, nat_lt, List, [], ◌∷◌, ◌++◌, ◌-◌}
use Rattle.std.proofs.Common.{not, length, get_or, Option, Some, None, sym, ap, subst, arith}
use Rattle.std.proofs.lemmas.Bool.Decides.{nat_tests}
use Rattle.std.specs.Prelude.{nat_eq, filter, All}
use Rattle.std.specs.List.{list_any}
use Rattle.std.specs.List.Sorted.{IsStrictlySortedBy, IsNonDecreasingBy}
use Rattle.std.specs.Ordering.{nat_cmp}
use Rattle.std.specs.Map.{keys_of}
use Rattle.std.proofs.lemmas.List.{length-map, map-append}
use Rattle.std.proofs.lemmas.List.Elements.{All-append, All-filter, All-from_recursion}
use Rattle.std.proofs.Math.ListN.{get_or-map}
use Rattle.std.proofs.lemmas.List.Kept.{IsNonDecreasingBy-filter, IsStrictlySortedBy-filter}
use Rattle.std.proofs.lemmas.List.Sorted.{IsNonDecreasingBy-push}
use Rattle.std.proofs.lemmas.Map.Entries.{lookup-filter-keys}
use Rattle.case_forms.specs.declared.trace.Line.{Line}
use Rattle.interval_order.specs.declared.pending_lines.Waiting.{Waiting}
use Rattle.interval_order.specs.Orders.{Order, with_line}
use Rattle.interval_order.specs.Waits.{lines_of, waiting_at, latest_in, IsSound}
use Rattle.interval_order.proofs.EntryLemmas.{rising_more, found_last, found_still, keys_kept, found_below, any_at}
use Rattle.interval_order.proofs.LinkLemmas.{linked_with, linked_without}

-- a line whose moment is not below that of any other goes last
rising_with : (es : List (ℕ × Waiting)) (k : ℕ) (v : Waiting) → All (λ e. e.1.moment ≤ v.line.moment) (lines_of es)
    → IsNonDecreasingBy (λ e. e.1.line.moment) es
    → IsNonDecreasingBy (λ e. e.1.line.moment) (es ++ (k, v) ∷ [])
rising_with es k v all rising = IsNonDecreasingBy-push (λ e. e.1.line.moment) es (k, v) rising
    (λ d some.
    let low : length es - 1 < length es = omega arith in
    let last : (get_or (lines_of es) (length es - 1) (d.0, d.1.line)).1.moment ≤ v.line.moment =
    all (length es - 1) (d.0, d.1.line)
    (rw (length-map {B = ℕ × Line} es (λ (e : ℕ × Waiting). (e.0, e.1.line))) low) in
    rw (get_or-map {B = ℕ × Line} (λ (e : ℕ × Waiting). (e.0, e.1.line)) es (length es - 1) d) at last)

-- the order with one line more, by the line's own number
pub with_line_at : (o : Order) (line : Line) (n : ℕ) → n ≡ o.next → record o { next = n + 1; held = o.held ++ (n, line) ∷ [] } ≡ with_line o line
with_line_at o line n is = ap (λ (k : ℕ). record o { next = k + 1; held = o.held ++ (k, line) ∷ [] }) is

pub sound_first : (next : ℕ) → IsSound next [] (latest_in [])
unfolding IsStrictlySortedBy
sound_first next = record {
  below = λ k d low. absurd (omega arith);
  ordered = tt;
  rising = λ i j d order low. absurd (omega arith);
  linked = record {
    previous = λ n w at. absurd cc;
    all = λ thread. record { below = λ p is. absurd cc; own = λ p w is at. absurd cc; last = λ m w at same low. absurd cc };
  };
}

pub sound_with : (es : List (ℕ × Waiting)) (next : ℕ) (latest latest_now : ℕ → Option ℕ) (v : Waiting) → IsSound next es latest
    → v.previous ≡ latest v.line.thread
    → All (λ e. e.1.moment ≤ v.line.moment) (lines_of es)
    → ((thread : ℕ) → latest_now thread ≡ cond (nat_eq v.line.thread thread) (Some next) (latest thread))
    → IsSound (next + 1) (es ++ (next, v) ∷ []) latest_now
sound_with es next latest latest_now v h before moment after = record {
  below = subst (All (λ n. n < next + 1)) (sym (map-append (λ (e : ℕ × Waiting). e.0) es ((next, v) ∷ [])))
      (All-append (λ n. n < next + 1) (keys_of es) (next ∷ [])
      (λ k d low. let under : get_or (keys_of es) k d < next = h.below k d low in omega arith)
      (All-from_recursion (λ n. n < next + 1) (next ∷ []) (omega arith, tt)));
  ordered = rising_more es next v h.below h.ordered;
  rising = rising_with es next v moment h.rising;
  linked = linked_with next (waiting_at es) (waiting_at (es ++ (next, v) ∷ [])) (λ q away. found_still q next v es away) v (found_last es next v h.below)
      (λ n w at. found_below next n w es h.below at) latest latest_now before later kept h.linked;
}
  where
    later : latest_now v.line.thread ≡ Some next
    later = let here : nat_eq v.line.thread v.line.thread ≡ true = grind (arith, nat_tests) in rw here at (after v.line.thread)

    kept : (thread : ℕ) → (thread ≡ v.line.thread → ⊥) → latest_now thread ≡ latest thread
    kept thread apart = let away : nat_eq v.line.thread thread ≡ false = grind (arith, nat_tests, apart) in rw away at (after thread)

pub sound_without : (es : List (ℕ × Waiting)) (next n : ℕ) (latest : ℕ → Option ℕ) (v : Waiting) → IsSound next es latest
    → waiting_at es n ≡ Some v
    → list_any (λ e. nat_lt e.0 n && e.1.thread == v.line.thread) (lines_of es) ≡ false
    → IsSound next (filter (λ e. not (nat_eq n e.0)) es) latest
sound_without es next n latest v h here none = record {
  below = subst (All (λ k. k < next)) (keys_kept (λ k. not (nat_eq n k)) es) (All-filter (λ k. not (nat_eq n k)) (λ k. k < next) (keys_of es) h.below);
  ordered =
      subst (IsStrictlySortedBy nat_cmp) (keys_kept (λ k. not (nat_eq n k)) es)
      (IsStrictlySortedBy-filter nat_cmp (λ k. not (nat_eq n k)) (keys_of es) h.ordered);
  rising = IsNonDecreasingBy-filter (λ e. e.1.line.moment) (λ e. not (nat_eq n e.0)) es h.rising;
  linked = linked_without n (waiting_at es) (waiting_at (filter (λ e. not (nat_eq n e.0)) es)) others gone v here first next latest h.linked;
}
  where
    others : (q : ℕ) → (q ≡ n → ⊥) → waiting_at (filter (λ e. not (nat_eq n e.0)) es) q ≡ waiting_at es q
    others q apart = lookup-filter-keys (nat_eq q) (λ k. not (nat_eq n k)) true (λ k e. grind (arith, nat_tests, apart, e)) es

    gone : waiting_at (filter (λ e. not (nat_eq n e.0)) es) n ≡ None
    gone = lookup-filter-keys (nat_eq n) (λ k. not (nat_eq n k)) false (λ k e. grind (arith, nat_tests, e)) es

    first : (m : ℕ) (w : Waiting) → waiting_at es m ≡ Some w → w.line.thread ≡ v.line.thread → m < n → ⊥
    first m w at same low =
        let passes : nat_lt m n && w.line.thread == v.line.thread ≡ true = grind (arith, nat_tests, low, same) in
        let found : list_any (λ e. nat_lt e.0 n && e.1.thread == v.line.thread) (lines_of es) ≡ true =
        any_at (λ e. nat_lt e.0 n && e.1.thread == v.line.thread) m w es at passes in
        cc
