-- The index of ports tells what a look at each listener would, and stays so.
use Rattle.std.proofs.Common.{◌≡◌, ℕ, zero, suc, ◌+◌, ◌&&◌, Bool, true, false, cond, List, [], ◌∷◌, ◌++◌, length}
use Rattle.std.proofs.Common.{Option, None, Some, refl, sym, ap, ◌∙◌, subst, arith, true≢false}
use Rattle.std.proofs.Math.Nat.{zero-add, add-zero}
use Rattle.std.proofs.lemmas.Bool.Decides.{nat_tests}
use Rattle.std.proofs.lemmas.Option.{none-some, same_Some}
use Rattle.std.specs.Prelude.{if◌then◌else◌, slice_get, nat_eq, Result, Ok, Err, OnOk, OnErr}
use Rattle.std.specs.Option.{IsSomeAnd}
use Rattle.streams.specs.Lists.{modify}
use Rattle.streams.proofs.Places.{all_push, all_modify, get_append}
use Rattle.spec_tcp.specs.declared.endpoint.Listener.{Listener}
use Rattle.spec_tcp.specs.HostTcp.{last_from, listens_on}
use Rattle.endpoint_state.specs.Indexes.{IsListening}

last_none : {X : Type 0} (test : X → Bool) (k : ℕ) (found : Option ℕ) (xs : List X)
    → ((j : ℕ) (y : X) → slice_get xs j ≡ Some y → test y ≡ false) → last_from test k found xs ≡ found
last_none test k found [] fails = refl
last_none test k found (x ∷ xs) fails =
    last_none test (suc k) (if test x then Some k else found) xs (λ j y at. fails (suc j) y at)
    ∙ ap (λ (b : Bool). if b then Some k else found) (fails 0 x refl)

or_true : (b : Bool) → (b ≡ true → false ≡ true) → b ≡ false
or_true true h = absurd (true≢false (sym (h refl)))
or_true false h = refl

last_only : {X : Type 0} (test : X → Bool) (k : ℕ) (found : Option ℕ) (xs : List X) (i : ℕ) (x : X) → slice_get xs i ≡ Some x → test x ≡ true
    → ((j : ℕ) (y : X) → slice_get xs j ≡ Some y → test y ≡ true → j ≡ i) → last_from test k found xs ≡ Some (k + i)
last_only test k found [] i x at is one = absurd (none-some x at)
last_only {X} test k found (y ∷ ys) zero x at is one =
    let here : test y ≡ true = subst (λ (z : X). test z ≡ true) (sym (same_Some y x at)) is in
    last_none test (suc k) (if test y then Some k else found) ys
    (λ j z there. or_true (test z) (λ passes. absurd (let e = one (suc j) z there passes in omega arith)))
    ∙ ap (λ (b : Bool). if b then Some k else found) here ∙ ap (λ (n : ℕ). Some n) (sym (add-zero k))
last_only {X} test k found (y ∷ ys) (suc i) x at is one =
    last_only test (suc k) (if test y then Some k else found) ys i x at is (λ j z there passes. let e = one (suc j) z there passes in omega arith)
    ∙ ap (λ (n : ℕ). Some n) (omega arith)

port_of : (p : ℕ) (x : Listener) → listens_on p x ≡ true → (x.is_open ≡ true) × (x.port ≡ p)
port_of p x is = by (x.is_open) refl is
  where
    by : (b : Bool) → x.is_open ≡ b → (b && nat_eq x.port p) ≡ true → (x.is_open ≡ true) × (x.port ≡ p)
    by true opened is = (opened, grind (arith, nat_tests, is))
    by false shut is = absurd (true≢false (sym is))

get_last : {X : Type 0} (xs : List X) (x : X) → slice_get (xs ++ x ∷ []) (length xs) ≡ Some x
get_last [] x = refl
get_last (y ∷ ys) x = get_last ys x

someand_modify : {X : Type 0} (P : X → Type 0) (f : X → X) → ((x : X) → P x → P (f x)) → (xs : List X) (i j : ℕ)
    → IsSomeAnd (slice_get xs j) P → IsSomeAnd (slice_get (modify xs i f) j) P
someand_modify P f keeps [] i j h = h
someand_modify P f keeps (x ∷ xs) zero zero h = keeps x h
someand_modify P f keeps (x ∷ xs) zero (suc j) h = h
someand_modify P f keeps (x ∷ xs) (suc i) zero h = h
someand_modify P f keeps (x ∷ xs) (suc i) (suc j) h = someand_modify P f keeps xs i j h

module _ (find : ℕ → Option ℕ) (xs : List Listener) (index : IsListening find xs) where
  leads : (p i : ℕ) (x : Listener) → slice_get xs i ≡ Some x → listens_on p x ≡ true → find p ≡ Some i
  leads p i x at is = let facts = port_of p x is in subst (λ (q : ℕ). find q ≡ Some i) facts.1 (index.live i x at facts.0)

  -- a port that leads to no listener
  pub unknown_port : (p : ℕ) → find p ≡ None → last_from (listens_on p) 0 None xs ≡ None
  unknown_port p none = last_none (listens_on p) 0 None xs (λ j y at. or_true (listens_on p y) (λ is. absurd (none-some j (sym none ∙ leads p j y at is))))

  port_at : (p i : ℕ) (x : Listener) → find p ≡ Some i → slice_get xs i ≡ Some x → x.port ≡ p
  port_at p i x known at = rw at at (index.port p i known)

  -- to one that is open
  pub open_port : (p i : ℕ) (x : Listener) → find p ≡ Some i → slice_get xs i ≡ Some x → x.is_open ≡ true → last_from (listens_on p) 0 None xs ≡ Some i
  open_port p i x known at opened =
      let port : x.port ≡ p = port_at p i x known at in
      let passes : listens_on p x ≡ true = grind (arith, nat_tests, opened, port) in
      last_only (listens_on p) 0 None xs i x at passes
      (λ j y there is. same_Some j i (sym (leads p j y there is) ∙ known)) ∙ ap (λ (n : ℕ). Some n) (zero-add i)

  -- to one that was closed
  pub closed_port : (p i : ℕ) (x : Listener) → find p ≡ Some i → slice_get xs i ≡ Some x → x.is_open ≡ false → last_from (listens_on p) 0 None xs ≡ None
  closed_port p i x known at shut =
      last_none (listens_on p) 0 None xs (λ j y there. or_true (listens_on p y) (λ is.
      let same : j ≡ i = same_Some j i (sym (leads p j y there is) ∙ known) in
      let one : y ≡ x = same_Some y x (sym there ∙ subst (λ (n : ℕ). slice_get xs n ≡ Some x) (sym same) at) in
      absurd (true≢false (sym ((port_of p y is).0) ∙ ap (λ (l : Listener). l.is_open) one ∙ shut))))

  -- and never to no listener
  pub no_port : (p i : ℕ) → find p ≡ Some i → slice_get xs i ≡ None → last_from (listens_on p) 0 None xs ≡ None
  no_port p i known at = let none = index.port p i known in absurd (rw at at none)

  -- one more, on a port with no open listener
  pub listening_push : (find' : ℕ → Option ℕ) (x : Listener) (n : ℕ) → n ≡ length xs → last_from (listens_on x.port) 0 None xs ≡ None
      → ((q : ℕ) → find' q ≡ cond (nat_eq x.port q) (Some n) (find q)) → IsListening find' (xs ++ x ∷ [])
  listening_push find' x n last free found = record {
    live = all_push (λ i y. y.is_open ≡ true → find' y.port ≡ Some i) xs x before (λ opened. found x.port ∙ rw (nat_same x.port) (ap (λ (m : ℕ). Some m) last));
    port = λ p i known. by p i (nat_eq x.port p) refl (sym (found p) ∙ known);
  }
    where
      nat_same : (m : ℕ) → nat_eq m m ≡ true
      nat_same m = grind (arith, nat_tests)

      before : (i : ℕ) (y : Listener) → slice_get xs i ≡ Some y → y.is_open ≡ true → find' y.port ≡ Some i
      before i y at opened = found y.port ∙ by_port (nat_eq x.port y.port) refl
        where
          by_port : (b : Bool) → nat_eq x.port y.port ≡ b → cond b (Some n) (find y.port) ≡ Some i
          by_port false other = index.live i y at opened
          by_port true same =
              let ports : y.port ≡ x.port = grind (arith, nat_tests, same) in
              let known : find x.port ≡ Some i = subst (λ (q : ℕ). find q ≡ Some i) ports (index.live i y at opened) in
              absurd (none-some i (sym free ∙ open_port x.port i y known at opened))

      by : (p i : ℕ) (b : Bool) → nat_eq x.port p ≡ b → cond b (Some n) (find p) ≡ Some i → IsSomeAnd (slice_get (xs ++ x ∷ []) i) (λ y. y.port ≡ p)
      by p i true same is = rw (sym (same_Some n i is), last, get_last xs x) (grind (arith, nat_tests, same))
      by p i false other is = at_port (slice_get xs i) refl (index.port p i is)
        where
          at_port : (o : Option Listener) → slice_get xs i ≡ o → IsSomeAnd o (λ y. y.port ≡ p) → IsSomeAnd (slice_get (xs ++ x ∷ []) i) (λ y. y.port ≡ p)
          at_port None at port = absurd port
          at_port (Some y) at port = rw (get_append xs (x ∷ []) i y at) port

  -- one changes, keeps its port and isn't opened again
  pub listening_modify : (i : ℕ) (f : Listener → Listener) → ((x : Listener) → (f x).port ≡ x.port)
      → ((x : Listener) → (f x).is_open ≡ true → x.is_open ≡ true) → IsListening find (modify xs i f)
  listening_modify i f ports opens = record {
    live = all_modify (λ j y. y.is_open ≡ true → find y.port ≡ Some j) f xs i index.live
        (λ x at opened. subst (λ (q : ℕ). find q ≡ Some i) (sym (ports x)) (index.live i x at (opens x opened)));
    port = λ p j known. someand_modify (λ y. y.port ≡ p) f (λ x is. ports x ∙ is) xs i j (index.port p j known);
  }

  -- also where memory may have run out
  pub listening_tried : {A E : Type 0} (r : Result A E) (new : List Listener) (i : ℕ) (f : Listener → Listener)
      → ((x : Listener) → (f x).port ≡ x.port) → ((x : Listener) → (f x).is_open ≡ true → x.is_open ≡ true)
      → OnOk r (new ≡ modify xs i f) → OnErr r (new ≡ xs) → IsListening find new
  listening_tried (Ok y) new i f ports opens ok err = rw ok (listening_modify i f ports opens)
  listening_tried (Err y) new i f ports opens ok err = rw err index
