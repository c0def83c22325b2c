-- Endpoints stay covered by an agenda.
use Rattle.std.proofs.Common.{◌≡◌, ◌≤◌, ◌<◌, ◌⊎◌, ◌+◌, ℕ, zero, suc, Bool, true, false, List, [], ◌∷◌, drop, length}
use Rattle.std.proofs.Common.{map, None, Some, refl, ap, sym, ◌∙◌, subst, inl, inr, nat_lt, nat_cmp, is_gt, cond}
use Rattle.std.proofs.Common.{Ordering, Less, Equal, Greater, arith}
use Rattle.std.specs.Prelude.{slice_get, ◌==◌}
use Rattle.std.specs.List.{All}
use Rattle.std.proofs.lemmas.List.Elements.{All-head, All-tail}
use Rattle.std.specs.Ordering.{match_ordering, ordering_then}
use Rattle.std.specs.BTreeSet.{insert_key}
use Rattle.std.proofs.lemmas.Bool.Decides.{nat_tests}
use Rattle.std.proofs.lemmas.Map.Lookups.{exact_unsigned}
use Rattle.std.proofs.lemmas.Option.{none-some, same_Some}
use Rattle.spec_tcp.specs.declared.endpoint.Endpoint.{Endpoint}
use Rattle.spec_tcp.specs.Forgetting.{forget_endpoint}
use Rattle.spec_tcp_laws.proofs.Moves.{map_back}
use Rattle.stack_core.specs.declared.deadline_queue.Affected.{Affected}
use Rattle.stack_core.specs.declared.deadline_queue.Affected.TheVariants as kinds
use Rattle.stack_core.specs.declared.deadline_queue.Deadline.{Deadline}
use Rattle.stack_core.specs.DeadlineQueues.{AreCovered, AreFrom, AreStill, IsGrown, IsListed, IsRenewed, IsAffectedAt}
use Rattle.stack_core.specs.DeadlineQueues.{LooksAgain, IsListedAgain, Leaves, at_once, from}

by_test : {A : Type 0} (b : Bool) → (b ≡ true → A) → (b ≡ false → A) → A
by_test true yes_ no_ = yes_ refl
by_test false yes_ no_ = no_ refl

is_less : (a b : ℕ) → nat_lt a b ≡ true → a < b
is_less a b p = grind (arith, nat_tests)

is_not_less : (a b : ℕ) → nat_lt a b ≡ false → b ≤ a
is_not_less a b p = grind (arith, nat_tests)

-- 1. entries

-- the order of entries
abbrev pub wake_cmp : Deadline → Deadline → Ordering
wake_cmp a b = ordering_then (nat_cmp a.moment b.moment) (nat_cmp a.place b.place)

-- an entry joins
pub still_inserted : (c : Deadline → Deadline → Ordering) (xs : List Deadline) (k : Deadline) → AreStill xs (insert_key c xs k)
still_inserted c [] k w is = absurd is
still_inserted c (x ∷ xs) k w is = by (c k x) (still_inserted c xs k w)
  where
    rest : (IsListed w xs → IsListed w (insert_key c xs k)) → (w ≡ x) ⊎ IsListed w xs → (w ≡ x) ⊎ IsListed w (insert_key c xs k)
    rest still (inl same) = inl same
    rest still (inr later) = inr (still later)

    by : (o : Ordering) → (IsListed w xs → IsListed w (insert_key c xs k)) → IsListed w (match_ordering o (k ∷ x ∷ xs) (x ∷ xs) (x ∷ insert_key c xs k))
    by Less still = inr is
    by Equal still = is
    by Greater still = rest still is

pub now_inserted : (c : Deadline → Deadline → Ordering) → ((a b : Deadline) → c a b ≡ Equal → a ≡ b)
    → (xs : List Deadline) (k : Deadline) → IsListed k (insert_key c xs k)
now_inserted c exact [] k = inl refl
now_inserted c exact (x ∷ xs) k = by (c k x) refl (now_inserted c exact xs k)
  where
    by : (o : Ordering) → c k x ≡ o → IsListed k (insert_key c xs k) → IsListed k (match_ordering o (k ∷ x ∷ xs) (x ∷ xs) (x ∷ insert_key c xs k))
    by Less is later = inl refl
    by Equal is later = inl (exact k x is)
    by Greater is later = inr later

-- the place of a number of a key, where both compare alike
exact_numbers : (a b : ℕ) → nat_cmp a b ≡ Equal → a ≡ b
exact_numbers a b is = exact_unsigned a b is

exact_wakes : (a b : Deadline) → wake_cmp a b ≡ Equal → a ≡ b
exact_wakes a b = by (nat_cmp a.moment b.moment) refl (nat_cmp a.place b.place) refl
  where
    by : (o : Ordering) → nat_cmp a.moment b.moment ≡ o → (p : Ordering) → nat_cmp a.place b.place ≡ p → ordering_then o p ≡ Equal → a ≡ b
    by Less m p is same = absurd cc
    by Greater m p is same = absurd cc
    by Equal m Less is same = absurd cc
    by Equal m Greater is same = absurd cc
    by Equal m Equal is same =
        ap (λ (n : ℕ). from n a.place) (exact_numbers a.moment b.moment m)
        ∙ ap (λ (n : ℕ). from b.moment n) (exact_numbers a.place b.place is)

pub inserted : (old new : List Deadline) (k : Deadline) → new ≡ insert_key wake_cmp old k → AreStill old new × IsListed k new
inserted old new k is =
    subst (λ (l : List Deadline). AreStill old l × IsListed k l) (sym is)
    (still_inserted wake_cmp old k, now_inserted wake_cmp exact_wakes old k)

-- the first is the earliest
not_greater : (a b : Deadline) → is_gt (wake_cmp a b) ≡ false → a.moment ≤ b.moment
not_greater a b = by (nat_lt a.moment b.moment) refl (a.moment == b.moment) refl
  where
    by : (p : Bool) → nat_lt a.moment b.moment ≡ p → (q : Bool) → (a.moment == b.moment) ≡ q
        → is_gt (ordering_then (cond p Less (cond q Equal Greater)) (nat_cmp a.place b.place)) ≡ false
        → a.moment ≤ b.moment
    by true p q eq is = let less = is_less a.moment b.moment p in omega arith
    by false p true eq is = same_le a.moment b.moment eq
      where
        same_le : (m n : ℕ) → (m == n) ≡ true → m ≤ n
        same_le m n eq = grind (arith, nat_tests)
    by false p false eq is = absurd cc

pub earliest_first : (k : Deadline) (ks : List Deadline) → All (λ w. is_gt (wake_cmp k w) ≡ false) ks → AreFrom k.moment ks
earliest_first k [] all w listed = absurd listed
earliest_first k (x ∷ ks) all w (inl same) =
    subst (λ (y : Deadline). k.moment ≤ y.moment) (sym same)
    (not_greater k x (All-head (λ (y : Deadline). is_gt (wake_cmp k y) ≡ false) x ks all))
earliest_first k (x ∷ ks) all w (inr later) = earliest_first k ks (All-tail (λ (y : Deadline). is_gt (wake_cmp k y) ≡ false) x ks all) w later

-- one more is listed
pub grows_one : (n first : ℕ) (ks : List Deadline) (looked now : ℕ) (ls ms : List Deadline)
    → IsGrown n first ks looked ls → now ≡ looked → looked < n → AreStill ls ms × IsListed (at_once looked) ms
    → IsGrown n first ks (now + 1) ms
grows_one n first ks looked now ls ms g same less joined = record {
  more = let more = g.more in omega arith;
  within = λ low. omega arith;
  still = λ w is. joined.0 w (g.still w is);
  new = λ i low high. by i low high (cases_lt i);
}
  where
    cases_lt : (i : ℕ) → (i < looked) ⊎ (looked ≤ i)
    cases_lt i = by_test (nat_lt i looked) (λ is. inl (is_less i looked is)) (λ is. inr (is_not_less i looked is))

    by : (i : ℕ) → first ≤ i → i < now + 1 → (i < looked) ⊎ (looked ≤ i) → IsListed (at_once i) ms
    by i low high (inl old) = joined.0 (at_once i) (g.new i low old)
    by i low high (inr new) = let is : looked ≡ i = omega arith in subst (λ (j : ℕ). IsListed (at_once j) ms) is joined.1

pub entries_inside : {X : Type 0} (xs : List X) (i : ℕ) (x : X) → slice_get xs i ≡ Some x → i < length xs
entries_inside [] i x at = absurd (none-some x at)
entries_inside (y ∷ ys) zero x at = omega arith
entries_inside (y ∷ ys) (suc i) x at = let less = entries_inside ys i x at in omega arith

pub entries_outside : {X : Type 0} (xs : List X) (i : ℕ) → slice_get xs i ≡ None → length xs ≤ i
entries_outside [] i out = omega arith
entries_outside (y ∷ ys) zero out = absurd (none-some y (sym out))
entries_outside (y ∷ ys) (suc i) out = let more = entries_outside ys i out in omega arith

-- 2. what is covered

module _ (Before : ℕ → Endpoint → Type 0) (Ever : Endpoint → Type 0) where
  -- nothing was looked at
  pub none_covered : (looked : ℕ) (ks : List Deadline) (es : List Endpoint) → looked ≡ 0 → AreCovered Before Ever looked ks es
  none_covered looked ks es is =
      subst (λ (n : ℕ). AreCovered Before Ever n ks es) (sym is)
      (record { within = omega arith; each = λ i e less at. absurd (omega arith) })

  -- a step changes what it affects
  pub affected_covered : ((e : Endpoint) → Before 0 e)
      → (t : Affected) (looked now : ℕ) (ks ls : List Deadline) (es fs : List Endpoint) → LooksAgain t looked ks now ls
      → Leaves t es fs → AreCovered Before Ever looked ks es → AreCovered Before Ever now ls fs
  affected_covered begins t looked now ks ls es fs (inl none) leaves are = none_covered now ls fs none
  affected_covered begins t looked now ks ls es fs (inr (same, still, affected)) leaves are =
      subst (λ (n : ℕ). AreCovered Before Ever n ls fs) (sym same) (record {
        within = let low = are.within in let more = leaves.count in omega arith;
        each = λ i f less at. let low = are.within in let inside : i < length es = omega arith in by t affected i f less (leaves.back i f inside at);
      })
    where
      stays : (i : ℕ) (f : Endpoint) → ((m : ℕ) × IsListed (from m i) ks × Before m f) ⊎ Ever f → ((m : ℕ) × IsListed (from m i) ls × Before m f) ⊎ Ever f
      stays i f (inl (m, listed, before)) = inl (m, still (from m i) listed, before)
      stays i f (inr ever) = inr ever

      by : (t : Affected) → IsListedAgain t looked ls → (i : ℕ) (f : Endpoint) → i < looked
          → IsAffectedAt t i ⊎ (slice_get es i ≡ Some f) → ((m : ℕ) × IsListed (from m i) ls × Before m f) ⊎ Ever f
      by t affected i f less (inr at) = stays i f (are.each i f less at)
      by kinds.Nobody affected i f less (inl there) = absurd there
      by (kinds.Place j) affected i f less (inl there) = inl (0, listed_here i j there less affected, begins f)
        where
          listed_here : (i j : ℕ) → i ≡ j → i < looked → (j < looked → IsListed (at_once j) ls) → IsListed (at_once i) ls
          listed_here i j same less affected = subst (λ (n : ℕ). IsListed (at_once n) ls) (sym same) (affected (subst (λ (n : ℕ). n < looked) same less))
      by kinds.All affected i f less (inl there) = absurd affected

  -- more are listed
  pub grown_covered : ((e : Endpoint) → Before 0 e) → (looked now : ℕ) (ks ls : List Deadline) (es : List Endpoint)
      → IsGrown (length es) looked ks now ls → AreCovered Before Ever looked ks es → AreCovered Before Ever now ls es
  grown_covered begins looked now ks ls es g are = record { within = g.within are.within; each = λ i e less at. by i e less at (le_lt_cases looked i) }
    where
      le_lt_cases : (a b : ℕ) → (a ≤ b) ⊎ (b < a)
      le_lt_cases a b = by_test (nat_lt b a) (λ is. inr (is_less b a is)) (λ is. inl (is_not_less b a is))

      old : (i : ℕ) (e : Endpoint) → ((m : ℕ) × IsListed (from m i) ks × Before m e) ⊎ Ever e → ((m : ℕ) × IsListed (from m i) ls × Before m e) ⊎ Ever e
      old i e (inl (m, listed, before)) = inl (m, g.still (from m i) listed, before)
      old i e (inr ever) = inr ever

      by : (i : ℕ) (e : Endpoint) → i < now → slice_get es i ≡ Some e → (looked ≤ i) ⊎ (i < looked) → ((m : ℕ) × IsListed (from m i) ls × Before m e) ⊎ Ever e
      by i e less at (inl new) = inl (0, g.new i new less, begins e)
      by i e less at (inr low) = old i e (are.each i e low at)

  -- the first entry leaves: all is well there for ever
  pub left_covered : (looked now : ℕ) (ks ls : List Deadline) (w : Deadline) (es : List Endpoint)
      → Some w ≡ slice_get ks 0 → now ≡ looked → ls ≡ drop 1 ks
      → ((e : Endpoint) → slice_get es w.place ≡ Some e → Ever e) → AreCovered Before Ever looked ks es
      → AreCovered Before Ever now ls es
  left_covered looked now [] ls w es first same rest ever are = absurd (none-some w (sym first))
  left_covered looked now (k ∷ ks) ls w es first same rest ever are =
      subst (λ (n : ℕ). AreCovered Before Ever n ls es) (sym same)
      (subst (λ (l : List Deadline). AreCovered Before Ever looked l es) (sym rest) (record {
        within = are.within;
        each = λ i e less at. by i e at (are.each i e less at);
      }))
    where
      by : (i : ℕ) (e : Endpoint) → slice_get es i ≡ Some e
          → ((m : ℕ) × IsListed (from m i) (k ∷ ks) × Before m e) ⊎ Ever e
          → ((m : ℕ) × IsListed (from m i) ks × Before m e) ⊎ Ever e
      by i e at (inr well) = inr well
      by i e at (inl (m, inr later, before)) = inl (m, later, before)
      by i e at (inl (m, inl same, before)) =
          inr (ever e (ap (λ (n : ℕ). slice_get es n)
          (sym (ap (λ (x : Deadline). x.place) same ∙ ap (λ (x : Deadline). x.place) (sym (same_Some w k first))))
          ∙ at))

  -- the first entry gives way to one of the same endpoint
  pub renewed_covered : (looked now : ℕ) (ks ls : List Deadline) (w : Deadline) (m : ℕ) (es : List Endpoint)
      → Some w ≡ slice_get ks 0 → IsRenewed (from m w.place) looked ks now ls
      → ((e : Endpoint) → slice_get es w.place ≡ Some e → Before m e) → AreCovered Before Ever looked ks es
      → AreCovered Before Ever now ls es
  renewed_covered looked now [] ls w m es first renewed before are = absurd (none-some w (sym first))
  renewed_covered looked now (k ∷ ks) ls w m es first (inl none) before are = none_covered now ls es none
  renewed_covered looked now (k ∷ ks) ls w m es first (inr (same, still, listed)) before are =
      subst (λ (n : ℕ). AreCovered Before Ever n ls es) (sym same) (record {
        within = are.within;
        each = λ i e less at. by i e at (are.each i e less at);
      })
    where
      by : (i : ℕ) (e : Endpoint) → slice_get es i ≡ Some e
          → ((n : ℕ) × IsListed (from n i) (k ∷ ks) × Before n e) ⊎ Ever e
          → ((n : ℕ) × IsListed (from n i) ls × Before n e) ⊎ Ever e
      by i e at (inr well) = inr well
      by i e at (inl (n, inr later, early)) = inl (n, still (from n i) later, early)
      by i e at (inl (n, inl is, early)) =
          let there : w.place ≡ i = sym (ap (λ (x : Deadline). x.place) is ∙ ap (λ (x : Deadline). x.place) (sym (same_Some w k first))) in
          inl (m, subst (λ (j : ℕ). IsListed (from m j) ls) there listed, before e (ap (λ (j : ℕ). slice_get es j) there ∙ at))

-- 3. what is kept of endpoints

length_map : (es : List Endpoint) → length (map forget_endpoint es) ≡ length es
length_map [] = refl
length_map (e ∷ es) = ap suc (length_map es)

there_kept : (es : List Endpoint) (i : ℕ) (e : Endpoint) → slice_get es i ≡ Some e → slice_get (map forget_endpoint es) i ≡ Some (forget_endpoint e)
there_kept [] i e is = absurd (none-some e is)
there_kept (x ∷ es) zero e is = ap (λ (y : Endpoint). Some (forget_endpoint y)) (same_Some x e is)
there_kept (x ∷ es) (suc i) e is = there_kept es i e is

pub leaves_kept : (t : Affected) (es fs : List Endpoint) → Leaves t es fs → Leaves t (map forget_endpoint es) (map forget_endpoint fs)
leaves_kept t es fs leaves = record {
  back = λ i f less at.
      let was = map_back forget_endpoint fs i f at in
      by i f was.0 was.2 (leaves.back i was.0 (subst (λ (n : ℕ). i < n) (length_map es) less) was.1);
  count = subst (λ (n : ℕ). n ≤ length (map forget_endpoint fs)) (sym (length_map es)) (subst (λ (n : ℕ). length es ≤ n) (sym (length_map fs)) leaves.count);
}
  where
    by : (i : ℕ) (f x : Endpoint) → forget_endpoint x ≡ f → IsAffectedAt t i ⊎ (slice_get es i ≡ Some x)
        → IsAffectedAt t i ⊎ (slice_get (map forget_endpoint es) i ≡ Some f)
    by i f x is (inl there) = inl there
    by i f x is (inr at) = inr (there_kept es i x at ∙ ap (λ (y : Endpoint). Some y) is)
