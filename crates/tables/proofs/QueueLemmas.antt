-- What stands in the slots of a queue.
use Rattle.std.proofs.Common.{◌≡◌, ℕ, zero, suc, ◌+◌, ◌<◌, ◌≤◌, Bool, true, false, not, filter, List, [], ◌∷◌, ◌++◌}
use Rattle.std.proofs.Common.{length, Option, None, Some, slice_get, slice_set, slice_index_or, length-append, nat_eq}
use Rattle.std.proofs.Common.{refl, sym, ap, ◌∙◌, arith}
use Rattle.std.specs.Map.{lookup}
use Rattle.std.specs.Option.{option_flatten}
use Rattle.tables.specs.Queues.{Queue, standing, IsTrimmed}
use Rattle.tables.proofs.RisingLemmas.{same, smaller, greater}

-- slots 4 to 6, of which the second is empty
three_slots : standing {V = ℕ} 4 (Some 1 ∷ None ∷ Some 3 ∷ []) ≡ (4, 1) ∷ (6, 3) ∷ []
three_slots = refl

module _ {V : Type 0} where
  -- nothing stands under a number below the first
  pub none_below : (n first : ℕ) (slots : List (Option V)) → n < first → lookup (nat_eq n) (standing first slots) ≡ None
  none_below n first [] low = refl
  none_below n first (None ∷ slots) low = none_below n (first + 1) slots (omega arith)
  none_below n first (Some item ∷ slots) low = rw (greater n first low) (none_below n (first + 1) slots (omega arith))

  pub there : (slots : List (Option V)) (place : ℕ) (x : Option V) → place < length slots → x ≡ slice_index_or slots place x → slice_get slots place ≡ Some x
  there [] place x low is = absurd (omega arith)
  there (slot ∷ slots) zero x low is = ap (λ (y : Option V). Some y) (sym is)
  there (slot ∷ slots) (suc place) x low is = there slots place x (omega arith) is

  -- what stands under a number is what its slot has
  pub slot_is : (n first place : ℕ) (slots : List (Option V)) → n ≡ first + place
      → lookup (nat_eq n) (standing first slots) ≡ option_flatten (slice_get slots place)
  slot_is n first place [] is = refl
  slot_is n first zero (None ∷ slots) is = none_below n (first + 1) slots (omega (arith, is))
  slot_is n first zero (Some item ∷ slots) is = rw (same n first (omega (arith, is))) refl
  slot_is n first (suc place) (None ∷ slots) is = slot_is n (first + 1) place slots (omega (arith, is))
  slot_is n first (suc place) (Some item ∷ slots) is = rw (smaller n first (omega (arith, is))) (slot_is n (first + 1) place slots (omega (arith, is)))

  pub none_beyond : (n first : ℕ) (slots : List (Option V)) → first + length slots ≤ n → lookup (nat_eq n) (standing first slots) ≡ None
  none_beyond n first [] far = refl
  none_beyond n first (None ∷ slots) far = none_beyond n (first + 1) slots (omega arith)
  none_beyond n first (Some item ∷ slots) far = rw (smaller n first (omega arith)) (none_beyond n (first + 1) slots (omega arith))

  -- an entry is the slot that an index gives
  pub slot_has : (n first place : ℕ) (slots : List (Option V)) (x : Option V) → n ≡ first + place → place < length slots → x ≡ slice_index_or slots place x
      → lookup (nat_eq n) (standing first slots) ≡ x
  slot_has n first place slots x is low here = slot_is n first place slots is ∙ ap option_flatten (there slots place x low here)

  -- one item more stands last
  pub one_more : (first : ℕ) (slots : List (Option V)) (item : V)
      → standing first (slots ++ Some item ∷ []) ≡ standing first slots ++ (first + length slots, item) ∷ []
  one_more first [] item = ap (λ (k : ℕ). (k, item) ∷ []) (omega arith)
  one_more first (None ∷ slots) item = one_more (first + 1) slots item ∙ ap (λ (k : ℕ). standing (first + 1) slots ++ (k, item) ∷ []) (omega arith)
  one_more first (Some other ∷ slots) item =
      ap (λ (es : List (ℕ × V)). (first, other) ∷ es)
      (one_more (first + 1) slots item
      ∙ ap (λ (k : ℕ). standing (first + 1) slots ++ (k, item) ∷ []) (omega arith))

  pub pushed : (first : ℕ) (slots : List (Option V)) (item : V) (q : Queue V)
      → ◌≡◌ {A = Queue V} (record { entries = standing first slots; next = first + length slots }) q
      → ◌≡◌ {A = Queue V} (record { entries = standing first (slots ++ Some item ∷ []); next = first + length (slots ++ Some item ∷ []) })
      (record { entries = q.entries ++ (q.next, item) ∷ []; next = q.next + 1 })
  pushed first slots item q is =
      (λ i. record { entries = one_more first slots item i; next = longer i })
      ∙ ap (λ (o : Queue V). record { entries = o.entries ++ (o.next, item) ∷ []; next = o.next + 1 }) is
    where
      longer : first + length (slots ++ Some item ∷ []) ≡ first + length slots + 1
      longer = omega (arith, length-append slots (Some item ∷ []))

  pub counted : (first : ℕ) (slots : List (Option V)) (item : V) → length (standing first (slots ++ Some item ∷ [])) ≡ length (standing first slots) + 1
  counted first slots item = ap length (one_more first slots item) ∙ length-append (standing first slots) ((first + length slots, item) ∷ [])

  pub at_most : (first : ℕ) (slots : List (Option V)) → length (standing first slots) ≤ length slots
  at_most first [] = omega arith
  at_most first (None ∷ slots) = let rest = at_most (first + 1) slots in omega (arith, rest)
  at_most first (Some item ∷ slots) = let rest = at_most (first + 1) slots in omega (arith, rest)

  pub trimmed_more : (slots : List (Option V)) (item : V) → IsTrimmed slots → IsTrimmed (slots ++ Some item ∷ [])
  trimmed_more [] item h = λ is. cc
  trimmed_more (slot ∷ slots) item h = h

  -- no entry goes where none has the number
  pub none_gone : (n : ℕ) (es : List (ℕ × V)) → lookup (nat_eq n) es ≡ None → filter (λ e. not (nat_eq n e.0)) es ≡ es
  none_gone n [] none = refl
  none_gone n (e ∷ es) none = by (none_gone n es) (nat_eq n e.0) refl
    where
      by : (lookup (nat_eq n) es ≡ None → filter (λ e. not (nat_eq n e.0)) es ≡ es) → (b : Bool) → nat_eq n e.0 ≡ b
          → filter (λ e. not (nat_eq n e.0)) (e ∷ es) ≡ e ∷ es
      by rest true is = let some : lookup (nat_eq n) (e ∷ es) ≡ Some e.1 = rw is refl in absurd cc
      by rest false is = rw is (ap (λ (xs : List (ℕ × V)). e ∷ xs) (rest (rw is at none)))

  -- the item of an emptied slot goes, and no other
  pub one_less : (n first place : ℕ) (slots : List (Option V)) → n ≡ first + place
      → standing first (slice_set slots place None) ≡ filter (λ e. not (nat_eq n e.0)) (standing first slots)
  one_less n first place [] is = refl
  one_less n first zero (None ∷ slots) is = sym (none_gone n (standing (first + 1) slots) (none_below n (first + 1) slots (omega (arith, is))))
  one_less n first zero (Some item ∷ slots) is =
      rw (same n first (omega (arith, is)))
      (sym (none_gone n (standing (first + 1) slots) (none_below n (first + 1) slots (omega (arith, is)))))
  one_less n first (suc place) (None ∷ slots) is = one_less n (first + 1) place slots (omega (arith, is))
  one_less n first (suc place) (Some item ∷ slots) is =
      rw (smaller n first (omega (arith, is))) (ap (λ (es : List (ℕ × V)). (first, item) ∷ es) (one_less n (first + 1) place slots (omega (arith, is))))

  -- so there is one item fewer
  pub fewer : (first place : ℕ) (slots : List (Option V)) (item : V) → slice_get slots place ≡ Some (Some item)
      → suc (length (standing first (slice_set slots place None))) ≡ length (standing first slots)
  fewer first place [] item at = absurd cc
  fewer first zero (None ∷ slots) item at = absurd cc
  fewer first zero (Some other ∷ slots) item at = refl
  fewer first (suc place) (None ∷ slots) item at = fewer (first + 1) place slots item at
  fewer first (suc place) (Some other ∷ slots) item at = ap (λ (k : ℕ). suc k) (fewer (first + 1) place slots item at)
