-- The indexes stay what they have to be, as endpoints and listeners are added and change.
use Rattle.std.proofs.Common.{◌≡◌, ℕ, zero, suc, ◌+◌, Bool, true, false, cond, List, [], ◌∷◌, ◌++◌, length, Option}
use Rattle.std.proofs.Common.{None, Some, refl, sym, ap, ◌∙◌, subst, arith, rules}
use Rattle.std.proofs.Math.Nat.{zero-add, add-zero}
use Rattle.std.proofs.lemmas.Bool.Decides.{nat_tests}
use Rattle.std.proofs.lemmas.Option.{same_Some}
use Rattle.std.specs.Prelude.{if◌then◌else◌, nat_eq, ◌&&◌, Vec}
use Rattle.std.specs.declared.alloc.Global.{Global}
use Rattle.streams.specs.Lists.{modify}
use Rattle.streams.proofs.Places.{all_push, all_modify}
use Rattle.spec_tcp.specs.declared.endpoint.Endpoint.{Endpoint}
use Rattle.spec_tcp.specs.HostTcp.{last_from, has_ports}
use Rattle.endpoint_state.specs.Indexes.{IsIndexed, is_child_in, stands_in, ports_cmp}
use Rattle.std.specs.Map.{lookup}
use Rattle.std.specs.BTreeMap.{is_at}
use Rattle.std.specs.Ordering.{nat_cmp}
use Rattle.std.specs.Option.{option_map_or}

-- one more at the end
last_push : {X : Type 0} (test : X → Bool) (k : ℕ) (found : Option ℕ) (xs : List X) (x : X)
    → last_from test k found (xs ++ x ∷ []) ≡ (if test x then Some (k + length xs) else last_from test k found xs)
last_push test k found [] x = ap (λ (n : ℕ). if test x then Some n else found) (sym (add-zero k))
last_push {X} test k found (y ∷ ys) x =
    last_push test (suc k) (if test y then Some k else found) ys x
    ∙ ap (λ (n : ℕ). if test x then Some n else last_from test (suc k) (if test y then Some k else found) ys)
    (omega arith)

-- one changes, and passes the test as before
last_modify : {X : Type 0} (test : X → Bool) (k : ℕ) (found : Option ℕ) (xs : List X) (i : ℕ) (f : X → X)
    → ((x : X) → test (f x) ≡ test x) → last_from test k found (modify xs i f) ≡ last_from test k found xs
last_modify test k found [] i f same = refl
last_modify test k found (x ∷ xs) zero f same = ap (λ (b : Bool). last_from test (suc k) (if b then Some k else found) xs) (same x)
last_modify test k found (x ∷ xs) (suc i) f same = last_modify test (suc k) (if test x then Some k else found) xs i f same

module _ (find : ℕ → ℕ → Option ℕ) (child : ℕ → ℕ → Bool) (es : List Endpoint) (index : IsIndexed find child es) where
  -- more places stand among children
  pub indexed_more : (child' : ℕ → ℕ → Bool) → ((l i : ℕ) → child l i ≡ true → child' l i ≡ true) → IsIndexed find child' es
  indexed_more child' kept = record { ports = index.ports; children = λ i l x at is. kept l i (index.children i l x at is) }

  -- an endpoint is added: its ports lead to it, and it stands among the children of its listener
  pub indexed_push : (find' : ℕ → ℕ → Option ℕ) (child' : ℕ → ℕ → Bool) (e : Endpoint) (n : ℕ) → n ≡ length es
      → ((l r : ℕ) → find' l r ≡ cond (has_ports l r e) (Some n) (find l r))
      → ((l i : ℕ) → child l i ≡ true → child' l i ≡ true)
      → ((l : ℕ) → e.listener ≡ Some l → child' l n ≡ true)
      → IsIndexed find' child' (es ++ e ∷ [])
  indexed_push find' child' e n last found kept added = record {
    ports =
        λ l r. found l r ∙ ap (λ (m : ℕ). cond (has_ports l r e) (Some m) (find l r)) last
        ∙ ap (λ (o : Option ℕ). cond (has_ports l r e) (Some (length es)) o) (index.ports l r)
        ∙ sym (last_push (has_ports l r) 0 None es e
        ∙ ap (λ (n : ℕ). if has_ports l r e then Some n else last_from (has_ports l r) 0 None es)
        (zero-add (length es)));
    children =
        λ i l x at is. all_push (λ i x. (l : ℕ) → x.listener ≡ Some l → child' l i ≡ true) es e
        (λ i x at l is. kept l i (index.children i l x at is))
        (λ l is. subst (λ (m : ℕ). child' l m ≡ true) last (added l is)) i x at l is;
  }

  -- an endpoint changes, and keeps its ports and its listener
  pub indexed_modify : (i : ℕ) (f : Endpoint → Endpoint)
      → ((l r : ℕ) (e : Endpoint) → has_ports l r (f e) ≡ has_ports l r e)
      → ((l : ℕ) (e : Endpoint) → (f e).listener ≡ Some l → e.listener ≡ Some l) → IsIndexed find child (modify es i f)
  indexed_modify i f ports listener = record {
    ports = λ l r. index.ports l r ∙ sym (last_modify (has_ports l r) 0 None es i f (ports l r));
    children =
        λ j l x at is. all_modify (λ j x. (l : ℕ) → x.listener ≡ Some l → child l j ≡ true) f es i
        (λ j x at l is. index.children j l x at is)
        (λ x at l is. index.children i l x at (listener l x is)) j x at l is;
  }

-- a pair of ports is found where both are the same
pub at_ports : (l r l' r' : ℕ) → is_at (ports_cmp (l, r)) (l', r') ≡ (nat_eq l l' && nat_eq r r')
at_ports l r l' r' = search rules

stands_push : (n m : ℕ) (ns : List ℕ) → stands_in n ns ≡ true → stands_in n (ns ++ m ∷ []) ≡ true
stands_push n m [] is = absurd cc
stands_push n m (k ∷ ns) is = by (nat_eq n k) refl (λ is. stands_push n m ns is)
  where
    by : (b : Bool) → nat_eq n k ≡ b → (stands_in n ns ≡ true → stands_in n (ns ++ m ∷ []) ≡ true) → stands_in n (k ∷ ns ++ m ∷ []) ≡ true
    by true same rest = rw same refl
    by false other rest = rw other (rest (rw other at is))

nat_same : (n : ℕ) → nat_eq n n ≡ true
nat_same n = grind (arith, nat_tests)

stands_last : (n : ℕ) (ns : List ℕ) → stands_in n (ns ++ n ∷ []) ≡ true
stands_last n [] = rw (nat_same n) refl
stands_last n (k ∷ ns) = by (nat_eq n k) refl (stands_last n ns)
  where
    by : (b : Bool) → nat_eq n k ≡ b → stands_in n (ns ++ n ∷ []) ≡ true → stands_in n (k ∷ ns ++ n ∷ []) ≡ true
    by true same rest = rw same refl
    by false other rest = rw other rest

at_number : (k n : ℕ) → is_at (nat_cmp k) n ≡ nat_eq k n
at_number k n = search rules

-- a list of children gives way to one that has as many and perhaps more
module _ (old new : List (ℕ × Vec ℕ Global)) (key : ℕ) (w : Vec ℕ Global)
    (found : (q : ℕ) → lookup (is_at (nat_cmp q)) new
    ≡ cond (is_at (nat_cmp key) q) (Some w) (lookup (is_at (nat_cmp q)) old)) where
  pub child_kept : ((v : Vec ℕ Global) → lookup (is_at (nat_cmp key)) old ≡ Some v → (i : ℕ)
      → stands_in i v.items ≡ true → stands_in i w.items ≡ true) → (l i : ℕ) → is_child_in old l i ≡ true
      → is_child_in new l i ≡ true
  child_kept more l i is = rw (found l, at_number key l) (by (nat_eq key l) refl)
    where
      before : key ≡ l → (o : Option (Vec ℕ Global)) → lookup (is_at (nat_cmp l)) old ≡ o
          → option_map_or (λ v. stands_in i v.items) o false ≡ true → stands_in i w.items ≡ true
      before same None at is = absurd cc
      before same (Some v) at is = more v (subst (λ (n : ℕ). lookup (is_at (nat_cmp n)) old ≡ Some v) (sym same) at) i is

      by : (b : Bool) → nat_eq key l ≡ b → option_map_or (λ v. stands_in i v.items) (cond b (Some w) (lookup (is_at (nat_cmp l)) old)) false ≡ true
      by true same = before (grind (arith, nat_tests, same)) (lookup (is_at (nat_cmp l)) old) refl is
      by false other = is

  pub child_added : (i : ℕ) → stands_in i w.items ≡ true → is_child_in new key i ≡ true
  child_added i stands = rw (found key, at_number key key, nat_same key) stands

  -- a place is added to a list that was there
  pub child_more : (v : Vec ℕ Global) (i : ℕ) → lookup (is_at (nat_cmp key)) old ≡ Some v → w.items ≡ v.items ++ i ∷ []
      → ((l j : ℕ) → is_child_in old l j ≡ true → is_child_in new l j ≡ true) × (is_child_in new key i ≡ true)
  child_more v i at is =
      let more : (u : Vec ℕ Global) → lookup (is_at (nat_cmp key)) old ≡ Some u → (j : ℕ) → stands_in j u.items ≡ true → stands_in j w.items ≡ true =
      λ u at' j stands. rw is (stands_push j i v.items (subst (λ (x : Vec ℕ Global). stands_in j x.items ≡ true) (same_Some u v (sym at' ∙ at)) stands)) in
      (child_kept more, child_added i (rw is (stands_last i v.items)))
