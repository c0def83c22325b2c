-- Whether an earlier line of a thread waits, by the link to it.
use Rattle.std.proofs.Common.{◌≡◌, ℕ, ◌<◌, ◌≤◌, Bool, true, false, Option, Some, None, refl, arith}
use Rattle.std.specs.Prelude.{nat_eq, nat_lt, ◌&&◌, ◌==◌, is_some, List}
use Rattle.std.specs.List.{list_any}
use Rattle.std.specs.List.Sorted.{IsStrictlySortedBy}
use Rattle.std.specs.Ordering.{nat_cmp}
use Rattle.std.specs.Option.{option_and_then, option_map_or}
use Rattle.std.specs.Map.{keys_of, lookup}
use Rattle.std.proofs.lemmas.Bool.Decides.{nat_tests}
use Rattle.interval_order.specs.declared.pending_lines.Waiting.{Waiting}
use Rattle.interval_order.specs.Waits.{lines_of, waiting_at, Leads}
use Rattle.interval_order.proofs.EntryLemmas.{line_is, any_at, found_any}

-- an earlier line of the thread waits exactly where the line does that the link names
pub earlier_is : (es : List (ℕ × Waiting)) (thread n : ℕ) (link : Option ℕ) → IsStrictlySortedBy nat_cmp (keys_of es) → Leads (waiting_at es) thread n link
    → is_some (option_and_then (waiting_at es) link) ≡ list_any (λ e. nat_lt e.0 n && e.1.thread == thread) (lines_of es)
earlier_is es thread n link o h = by_test (list_any (λ e. nat_lt e.0 n && e.1.thread == thread) (lines_of es)) refl
  where
    by_test : (b : Bool) → list_any (λ e. nat_lt e.0 n && e.1.thread == thread) (lines_of es) ≡ b → is_some (option_and_then (waiting_at es) link) ≡ b
    by_test true is =
        let found : (p : ℕ) × (w : Waiting) × (waiting_at es p ≡ Some w)
        × (nat_lt p n && w.line.thread == thread ≡ true) =
        found_any (λ e. nat_lt e.0 n && e.1.thread == thread) es o is in
        let low : found.0 < n = grind (arith, nat_tests, found.3) in
        let same : found.1.line.thread ≡ thread = grind (arith, nat_tests, found.3) in
        let there : (p : ℕ) × (v : Waiting) × (link ≡ Some p) × (found.0 ≤ p) × (waiting_at es p ≡ Some v) = h.last found.0 found.1 found.2 same low in
        rw (there.2, there.4) (refl {a = true})
    by_test false is = by_link link refl
      where
        by_link : (l : Option ℕ) → link ≡ l → is_some (option_and_then (waiting_at es) l) ≡ false
        by_link None at = refl
        by_link (Some p) at = by_place (waiting_at es p) refl
          where
            by_place : (w : Option Waiting) → waiting_at es p ≡ w → is_some (waiting_at es p) ≡ false
            by_place None here = rw here refl
            by_place (Some w) here =
                let low : p < n = h.below p at in
                let same : w.line.thread ≡ thread = h.own p w at here in
                let passes : nat_lt p n && w.line.thread == thread ≡ true = grind (arith, nat_tests, low, same) in
                let found : list_any (λ e. nat_lt e.0 n && e.1.thread == thread) (lines_of es) ≡ true =
                any_at (λ e. nat_lt e.0 n && e.1.thread == thread) p w es here passes in
                absurd cc

pub none_earlier : (es : List (ℕ × Waiting)) (n : ℕ) (w : Waiting) → waiting_at es n ≡ Some w
    → option_map_or (λ line. list_any (λ e. nat_lt e.0 n && e.1.thread == line.thread) (lines_of es)) (lookup (nat_eq n) (lines_of es)) false ≡ false
    → list_any (λ e. nat_lt e.0 n && e.1.thread == w.line.thread) (lines_of es) ≡ false
none_earlier es n w at h = rw (line_is n es, at) at h
