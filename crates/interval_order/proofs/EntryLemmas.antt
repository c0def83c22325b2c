-- The entries of the lines that wait: one more at the end, one fewer, what is found in them, and the first overdue.
use Rattle.std.proofs.Common.{◌≡◌, ℕ, ◌<◌, ◌≤◌, ◌+◌, Bool, true, false, not, nat_lt, List, [], ◌∷◌, ◌++◌, suc, refl}
use Rattle.std.proofs.Common.{sym, ap, ◌∙◌, subst, arith, rules, Less, Some, None}
use Rattle.std.proofs.lemmas.Bool.Decides.{nat_tests}
use Rattle.std.specs.Prelude.{nat_eq, filter, All, is_some, slice_get}
use Rattle.std.specs.List.{AllByRecursion, list_any, find}
use Rattle.std.specs.List.Sorted.{IsStrictlySortedBy, IsNonDecreasingBy}
use Rattle.std.specs.Ordering.{nat_cmp}
use Rattle.std.specs.Option.{option_map}
use Rattle.std.specs.Bool.{then_some}
use Rattle.std.specs.Cmp.{nat_cmp_is}
use Rattle.std.specs.Map.{keys_of, lookup}
use Rattle.std.proofs.lemmas.List.{map-append}
use Rattle.std.proofs.lemmas.List.Elements.{recursion_from_All}
use Rattle.std.proofs.lemmas.Map.Keys.{sorted_head, sorted_tail}
use Rattle.std.proofs.lemmas.Map.Made.{lookup-map_values}
use Rattle.case_forms.specs.declared.trace.Line.{Line}
use Rattle.interval_order.specs.declared.pending_lines.Waiting.{Waiting}
use Rattle.interval_order.specs.Waits.{lines_of, waiting_at}

module _ {X : Type 0} where
  -- a number above all others goes last, and the numbers rise still
  front_more : (n k : ℕ) (v : X) (es : List (ℕ × X)) → n < k → AllByRecursion (λ m. nat_cmp n m ≡ Less) (keys_of es)
      → AllByRecursion (λ m. nat_cmp n m ≡ Less) (keys_of (es ++ (k, v) ∷ []))
  front_more n k v [] low h = (sym (nat_cmp_is n k Less low), tt)
  front_more n k v (e ∷ es) low h = (h.0, front_more n k v es low h.1)

  rise_more : (es : List (ℕ × X)) (k : ℕ) (v : X) → AllByRecursion (λ n. n < k) (keys_of es)
      → IsStrictlySortedBy nat_cmp (keys_of es) → IsStrictlySortedBy nat_cmp (keys_of (es ++ (k, v) ∷ []))
  unfolding IsStrictlySortedBy
  rise_more [] k v low h = (tt, tt)
  rise_more (e ∷ es) k v low h = (front_more e.0 k v es low.0 h.0, rise_more es k v low.1 h.1)

  pub rising_more : (es : List (ℕ × X)) (k : ℕ) (v : X) → All (λ n. n < k) (keys_of es)
      → IsStrictlySortedBy nat_cmp (keys_of es) → IsStrictlySortedBy nat_cmp (keys_of (es ++ (k, v) ∷ []))
  rising_more es k v low h = rise_more es k v (recursion_from_All (λ n. n < k) (keys_of es) low) h

  -- it is found, and what was found before is found still
  last_found : (es : List (ℕ × X)) (k : ℕ) (v : X) → AllByRecursion (λ n. n < k) (keys_of es) → lookup (nat_eq k) (es ++ (k, v) ∷ []) ≡ Some v
  last_found [] k v low = let itself : nat_eq k k ≡ true = grind (arith, nat_tests) in rw itself refl
  last_found (e ∷ es) k v low = let apart : nat_eq k e.0 ≡ false = grind (arith, nat_tests, low.0) in rw apart (last_found es k v low.1)

  pub found_last : (es : List (ℕ × X)) (k : ℕ) (v : X) → All (λ n. n < k) (keys_of es) → lookup (nat_eq k) (es ++ (k, v) ∷ []) ≡ Some v
  found_last es k v low = last_found es k v (recursion_from_All (λ n. n < k) (keys_of es) low)

  pub found_still : (q k : ℕ) (v : X) (es : List (ℕ × X)) → (q ≡ k → ⊥) → lookup (nat_eq q) (es ++ (k, v) ∷ []) ≡ lookup (nat_eq q) es
  found_still q k v [] away = let apart : nat_eq q k ≡ false = grind (arith, nat_tests, away) in rw apart refl
  found_still q k v (e ∷ es) away = by_test (found_still q k v es away) (nat_eq q e.0) refl
    where
      by_test : lookup (nat_eq q) (es ++ (k, v) ∷ []) ≡ lookup (nat_eq q) es → (b : Bool) → nat_eq q e.0 ≡ b
          → lookup (nat_eq q) (e ∷ es ++ (k, v) ∷ []) ≡ lookup (nat_eq q) (e ∷ es)
      by_test rest true is = rw is refl
      by_test rest false is = rw is rest

  -- the numbers of entries that are kept by their numbers
  pub keys_kept : (keep : ℕ → Bool) (es : List (ℕ × X)) → filter keep (keys_of es) ≡ keys_of (filter (λ e. keep e.0) es)
  keys_kept keep [] = refl
  keys_kept keep (e ∷ es) = by_test (keys_kept keep es) (keep e.0) refl
    where
      by_test : filter keep (keys_of es) ≡ keys_of (filter (λ e. keep e.0) es) → (b : Bool) → keep e.0 ≡ b
          → filter keep (keys_of (e ∷ es)) ≡ keys_of (filter (λ e. keep e.0) (e ∷ es))
      by_test rest true is = rw is (ap (λ (ns : List ℕ). e.0 ∷ ns) rest)
      by_test rest false is = rw is rest

-- one line more
pub lines_with : (es : List (ℕ × Waiting)) (k : ℕ) (w : Waiting) → lines_of (es ++ (k, w) ∷ []) ≡ lines_of es ++ (k, w.line) ∷ []
lines_with es k w = map-append _ es ((k, w) ∷ [])

-- one line less
pub lines_without : (n : ℕ) (es : List (ℕ × Waiting)) → lines_of (filter (λ e. not (nat_eq n e.0)) es) ≡ filter (λ e. not (nat_eq n e.0)) (lines_of es)
lines_without n [] = refl
lines_without n (e ∷ es) = by_test (lines_without n es) (nat_eq n e.0) refl
  where
    by_test : lines_of (filter (λ e. not (nat_eq n e.0)) es) ≡ filter (λ e. not (nat_eq n e.0)) (lines_of es) → (b : Bool) → nat_eq n e.0 ≡ b
        → lines_of (filter (λ e. not (nat_eq n e.0)) (e ∷ es)) ≡ filter (λ e. not (nat_eq n e.0)) (lines_of (e ∷ es))
    by_test rest true is = rw is rest
    by_test rest false is = rw is (ap (λ (xs : List (ℕ × Line)). (e.0, e.1.line) ∷ xs) rest)

-- the line of a number is that of the entry
pub line_is : (n : ℕ) (es : List (ℕ × Waiting)) → lookup (nat_eq n) (lines_of es) ≡ option_map (λ w. w.line) (waiting_at es n)
line_is n es = lookup-map_values (λ (w : Waiting). w.line) (nat_eq n) es

-- an entry that passes is found
pub any_at : (test : ℕ × Line → Bool) (p : ℕ) (w : Waiting) (es : List (ℕ × Waiting)) → waiting_at es p ≡ Some w
    → test (p, w.line) ≡ true → list_any test (lines_of es) ≡ true
any_at test p w [] at passes = absurd cc
any_at test p w (e ∷ es) at passes = by_test (λ h. any_at test p w es h passes) (nat_eq p e.0) refl
  where
    by_test : (waiting_at es p ≡ Some w → list_any test (lines_of es) ≡ true) → (b : Bool) → nat_eq p e.0 ≡ b → list_any test (lines_of (e ∷ es)) ≡ true
    by_test rest true is =
        let same : p ≡ e.0 = grind (arith, nat_tests, is) in
        let here : Some e.1 ≡ Some w = rw is at at in
        let equal : e.1 ≡ w = cc in
        let now : test (e.0, e.1.line) ≡ true = ap (λ (k : ℕ). test (k, e.1.line)) (sym same) ∙ ap (λ (v : Waiting). test (p, v.line)) equal ∙ passes in
        rw now refl
    by_test rest false is =
        let further : list_any test (lines_of es) ≡ true = rest (rw is at at) in
        rw further (search rules)

-- what holds of each number holds of one that is found
found_key : (P : ℕ → Type 0) (n : ℕ) (w : Waiting) (es : List (ℕ × Waiting)) → AllByRecursion P (keys_of es) → waiting_at es n ≡ Some w → P n
found_key P n w [] h at = absurd cc
found_key P n w (e ∷ es) h at = by_test (found_key P n w es h.1) (nat_eq n e.0) refl
  where
    by_test : (waiting_at es n ≡ Some w → P n) → (b : Bool) → nat_eq n e.0 ≡ b → P n
    by_test rest true is = let same : e.0 ≡ n = grind (arith, nat_tests, is) in subst P same h.0
    by_test rest false is = rest (rw is at at)

pub found_below : (next n : ℕ) (w : Waiting) (es : List (ℕ × Waiting)) → All (λ k. k < next) (keys_of es) → waiting_at es n ≡ Some w → n < next
found_below next n w es h at = found_key (λ k. k < next) n w es (recursion_from_All (λ k. k < next) (keys_of es) h) at

-- where some line passes, it is found
pub found_any : (test : ℕ × Line → Bool) (es : List (ℕ × Waiting)) → IsStrictlySortedBy nat_cmp (keys_of es) → list_any test (lines_of es) ≡ true
    → (p : ℕ) × (w : Waiting) × (waiting_at es p ≡ Some w) × (test (p, w.line) ≡ true)
found_any test [] o h = absurd cc
found_any test (e ∷ es) o h = by_test (found_any test es (sorted_tail nat_cmp _ _ o)) (test (e.0, e.1.line)) refl
  where
    by_test : (list_any test (lines_of es) ≡ true → (p : ℕ) × (w : Waiting) × (waiting_at es p ≡ Some w) × (test (p, w.line) ≡ true))
        → (b : Bool) → test (e.0, e.1.line) ≡ b → (p : ℕ) × (w : Waiting) × (waiting_at (e ∷ es) p ≡ Some w) × (test (p, w.line) ≡ true)
    by_test rest true is = let itself : nat_eq e.0 e.0 ≡ true = grind (arith, nat_tests) in (e.0, e.1, rw itself refl, is)
    by_test rest false is =
        let found : (p : ℕ) × (w : Waiting) × (waiting_at es p ≡ Some w) × (test (p, w.line) ≡ true) = rest (rw is at h) in
        let less : nat_cmp e.0 found.0 ≡ Less = found_key (λ y. nat_cmp e.0 y ≡ Less) found.0 found.1 es (sorted_head nat_cmp _ _ o) found.2 in
        let less_is = nat_cmp_is e.0 found.0 Less in
        let apart : nat_eq found.0 e.0 ≡ false = grind (arith, nat_tests, less_is) in
        (found.0, found.1, rw apart found.2, found.3)

module _ (skew moment : ℕ) where
  none_late : (from : ℕ) (es : List (ℕ × Waiting)) → AllByRecursion (λ e. from ≤ e.1.line.moment) es → nat_lt (from + skew) moment ≡ false
      → find (λ e. nat_lt (e.1.moment + skew) moment) (lines_of es) ≡ None
  none_late from [] h on_time = refl
  none_late from (e ∷ es) h on_time =
      let since : from ≤ e.1.line.moment = h.0 in
      let not_late : nat_lt (e.1.line.moment + skew) moment ≡ false = grind (arith, nat_tests, on_time, since) in
      rw not_late (none_late from es h.1 on_time)

  -- where moments don't fall, a line is late only if the first is
  pub first_late : (n : ℕ) (w : Waiting) (es : List (ℕ × Waiting)) → IsNonDecreasingBy (λ e. e.1.line.moment) es → slice_get es 0 ≡ Some (n, w)
      → option_map (λ e. e.0) (find (λ e. nat_lt (e.1.moment + skew) moment) (lines_of es)) ≡ then_some (nat_lt (w.line.moment + skew) moment) n
  first_late n w [] h first = absurd cc
  first_late n w (e ∷ es) h first = by_test (nat_lt (e.1.line.moment + skew) moment) refl
    where
      after : AllByRecursion (λ f. e.1.line.moment ≤ f.1.line.moment) es
      after = recursion_from_All (λ f. e.1.line.moment ≤ f.1.line.moment) es (λ k d low. h 0 (suc k) d (omega arith) (omega arith))

      entry : e ≡ (n, w)
      entry = cc

      by_test : (b : Bool) → nat_lt (e.1.line.moment + skew) moment ≡ b
          → option_map (λ e. e.0) (find (λ e. nat_lt (e.1.moment + skew) moment) (lines_of (e ∷ es))) ≡ then_some (nat_lt (w.line.moment + skew) moment) n
      by_test true is =
          let late : nat_lt (w.line.moment + skew) moment ≡ true = ap (λ (f : ℕ × Waiting). nat_lt (f.1.line.moment + skew) moment) (sym entry) ∙ is in
          rw (is, late) (ap (λ (f : ℕ × Waiting). Some f.0) entry)
      by_test false is =
          let timely : nat_lt (w.line.moment + skew) moment ≡ false = ap (λ (f : ℕ × Waiting). nat_lt (f.1.line.moment + skew) moment) (sym entry) ∙ is in
          rw (is, timely, none_late e.1.line.moment es after is) refl

-- where nothing stands first, nothing is found
pub none_first : (test : ℕ × Line → Bool) (es : List (ℕ × Waiting)) → None ≡ slice_get es 0 → None ≡ option_map (λ e. e.0) (find test (lines_of es))
none_first test [] none = refl
none_first test (e ∷ es) none = absurd cc

-- a test passes somewhere exactly where something is found
pub any_is_found : {X : Type 0} (f : X → ℕ) (test : X → Bool) (xs : List X) → is_some (option_map f (find test xs)) ≡ list_any test xs
any_is_found f test [] = refl
any_is_found f test (x ∷ xs) = by_test (any_is_found f test xs) (test x) refl
  where
    by_test : is_some (option_map f (find test xs)) ≡ list_any test xs → (b : Bool) → test x ≡ b
        → is_some (option_map f (find test (x ∷ xs))) ≡ list_any test (x ∷ xs)
    by_test rest true is = rw is refl
    by_test rest false is = rw is rest
