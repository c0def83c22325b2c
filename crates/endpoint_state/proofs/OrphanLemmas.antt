-- The children of a listener that is gone: to abort those that the index knows is to abort all that are its own.
use Rattle.std.proofs.Common.{◌≡◌, ℕ, zero, suc, ◌<◌, length, get_or, Bool, true, false, List, [], ◌∷◌, Option, None}
use Rattle.std.proofs.Common.{Some, map, nat_eq, ◌||◌, refl, sym, ap, subst, ◌∙◌, arith, true≢false}
use Rattle.std.specs.Prelude.{if◌then◌else◌, slice_get, slice_set, Vec}
use Rattle.std.specs.declared.alloc.Global.{Global}
use Rattle.std.specs.Map.{lookup}
use Rattle.std.specs.Ordering.{nat_cmp}
use Rattle.std.specs.BTreeMap.{is_at}
use Rattle.std.specs.List.{All}
use Rattle.std.specs.Option.{option_map_or}
use Rattle.std.proofs.lemmas.Bool.Decides.{nat_tests}
use Rattle.std.proofs.lemmas.Option.{none-some, same_Some}
use Rattle.std.proofs.lemmas.List.Elements.{All-cons}
use Rattle.streams.specs.Lists.{modify}
use Rattle.streams.proofs.Places.{all_modify}
use Rattle.spec_tcp.specs.declared.endpoint.Endpoint.{Endpoint}
use Rattle.spec_tcp.specs.Bounds.{HasRoom}
use Rattle.spec_tcp.specs.Calls.Close.{orphaned, after_abort, resets_at_abort}
use Rattle.spec_tcp.specs.Forgetting.{forget_endpoint}
use Rattle.spec_tcp.specs.HostTcp.{has_ports}
use Rattle.endpoint_state.specs.Indexes.{IsIndexed, stands_in, is_child_in}
use Rattle.endpoint_state.specs.Changes.{orphan_each}
use Rattle.endpoint_state.proofs.IndexLemmas.{indexed_modify}
use Rattle.endpoint_state.proofs.PlaceLemmas.{modified_at}
use Rattle.endpoint_state.proofs.Forgotten.{forget_same, first, later}

abbrev is_of : ℕ → Endpoint → Bool
is_of l e = option_map_or (λ holder. nat_eq holder l) e.listener false

or_false : (b : Bool) → (b || false) ≡ b
or_false true = refl
or_false false = refl

abort_again : (e : Endpoint) → after_abort (after_abort e) ≡ after_abort e
abort_again e = ap (λ (b : Bool). let x : Endpoint = record (after_abort e) { reset_due = b } in x) (or_false (e.reset_due || resets_at_abort e.state))

pub orphaned_again : (l : ℕ) (e : Endpoint) → orphaned l (orphaned l e) ≡ orphaned l e
orphaned_again l e = by (is_of l e) refl
  where
    by : (b : Bool) → is_of l e ≡ b → orphaned l (if b then after_abort e else e) ≡ (if b then after_abort e else e)
    by true is = ap (λ (b : Bool). if b then after_abort (after_abort e) else after_abort e) is ∙ abort_again e
    by false is = ap (λ (b : Bool). if b then after_abort e else e) is

pub room_orphaned : (l : ℕ) (e : Endpoint) → HasRoom e → HasRoom (orphaned l e)
room_orphaned l e room = by (is_of l e)
  where
    by : (b : Bool) → HasRoom (if b then after_abort e else e)
    by false = room
    by true =
        record {
          snd_una = room.snd_una;
          counts = room.counts;
          unanswered_expiries = room.unanswered_expiries;
          backoffs = room.backoffs;
          accepted = room.accepted;
          forgets = record {
            accepted = room.forgets.accepted;
            received = room.forgets.received;
            made = room.forgets.made;
          };
          met = λ sent closed. absurd (true≢false closed);
          unmet = λ sent. absurd (true≢false (sym sent));
        }

pub all_modified : {X : Type 0} (P : X → Type 0) (f : X → X) → ((x : X) → P x → P (f x)) → (xs : List X) (i : ℕ) → All P xs → All P (modify xs i f)
all_modified P f keeps [] i all = all
all_modified P f keeps (x ∷ xs) zero all = All-cons P (f x) xs (keeps x (all 0 x (omega arith))) (λ k d within. all (suc k) d (omega arith))
all_modified P f keeps (x ∷ xs) (suc i) all =
    All-cons P x (modify xs i f) (all 0 x (omega arith))
    (all_modified P f keeps xs i (λ k d within. all (suc k) d (omega arith)))

-- forgetting has nothing to do then
pub orphans_forgotten : (l : ℕ) (es : List Endpoint) → All HasRoom es → map forget_endpoint (map (orphaned l) es) ≡ map (orphaned l) es
orphans_forgotten l [] room = refl
orphans_forgotten l (e ∷ es) room = let here =
    forget_same (orphaned l e) (room_orphaned l e (first e es room)).forgets in
    let rest = orphans_forgotten l es (later e es room) in cc

-- one child in its place
pub orphaned_at : (l : ℕ) (es : List Endpoint) (i : ℕ) (x y : Endpoint) → All HasRoom es → i < length es
    → x ≡ get_or es i x → y ≡ forget_endpoint (orphaned l x) → slice_set es i y ≡ modify es i (orphaned l)
orphaned_at l es i x y room within read is =
    modified_at es i x y (orphaned l) within read
    (is ∙ forget_same (orphaned l x) (room_orphaned l x (subst HasRoom (sym read) (room i x within))).forgets)

map_modify : {X : Type 0} (f : X → X) → ((x : X) → f (f x) ≡ f x) → (xs : List X) (i : ℕ) → map f (modify xs i f) ≡ map f xs
map_modify f again [] i = refl
map_modify {X} f again (x ∷ xs) zero = ap (λ (y : X). y ∷ map f xs) (again x)
map_modify {X} f again (x ∷ xs) (suc i) = ap (λ (ys : List X). f x ∷ ys) (map_modify f again xs i)

map_same : {X : Type 0} (f : X → X) (xs : List X) → ((i : ℕ) (x : X) → slice_get xs i ≡ Some x → f x ≡ x) → xs ≡ map f xs
map_same f [] same = refl
map_same f (x ∷ xs) same = let here = same 0 x refl in let rest = map_same f xs (λ i y at. same (suc i) y at) in cc

modified_here : {X : Type 0} (f : X → X) → ((x : X) → f (f x) ≡ f x) → (xs : List X) (i : ℕ) (y : X) → slice_get (modify xs i f) i ≡ Some y → f y ≡ y
modified_here f again [] i y at = absurd (none-some y at)
modified_here {X} f again (x ∷ xs) zero y at = subst (λ (z : X). f z ≡ z) (same_Some (f x) y at) (again x)
modified_here f again (x ∷ xs) (suc i) y at = modified_here f again xs i y at

stands_apart : (i c : ℕ) (cs : List ℕ) → nat_eq i c ≡ false → stands_in i cs ≡ false → stands_in i (c ∷ cs) ≡ false
stands_apart i c cs other out = rw other out

-- whoever is not at one of the places is left as it is
each_is_all : (l : ℕ) (cs : List ℕ) (es : List Endpoint)
    → ((i : ℕ) (e : Endpoint) → slice_get es i ≡ Some e → stands_in i cs ≡ false → orphaned l e ≡ e)
    → orphan_each l cs es ≡ map (orphaned l) es
each_is_all l [] es left = map_same (orphaned l) es (λ i e at. left i e at refl)
each_is_all l (c ∷ cs) es left =
    each_is_all l cs (modify es c (orphaned l)) (λ i e at out. by i e at out (nat_eq i c) refl)
    ∙ map_modify (orphaned l) (orphaned_again l) es c
  where
    kept : (i : ℕ) (e : Endpoint) → slice_get (modify es c (orphaned l)) i ≡ Some e → stands_in i (c ∷ cs) ≡ false → orphaned l e ≡ e
    kept = all_modify (λ i e. stands_in i (c ∷ cs) ≡ false → orphaned l e ≡ e) (orphaned l) es c left (λ x at out. orphaned_again l x)

    by : (i : ℕ) (e : Endpoint) → slice_get (modify es c (orphaned l)) i ≡ Some e → stands_in i cs ≡ false → (b : Bool) → nat_eq i c ≡ b → orphaned l e ≡ e
    by i e at out false other = kept i e at (stands_apart i c cs other out)
    by i e at out true same =
        let one : i ≡ c = grind (arith, nat_tests, same) in
        modified_here (orphaned l) (orphaned_again l) es c e (subst (λ (j : ℕ). slice_get (modify es c (orphaned l)) j ≡ Some e) one at)

module _ (find : ℕ → ℕ → Option ℕ) (child : ℕ → ℕ → Bool) (es : List Endpoint) (index : IsIndexed find child es) (l : ℕ) (cs : List ℕ) where
  -- the children that the index knows are all
  pub orphans_all : ((i : ℕ) → child l i ≡ true → stands_in i cs ≡ true) → orphan_each l cs es ≡ map (orphaned l) es
  orphans_all known = each_is_all l cs es (λ i e at out. by i e at out e.listener refl)
    where
      by : (i : ℕ) (e : Endpoint) → slice_get es i ≡ Some e → stands_in i cs ≡ false → (o : Option ℕ) → e.listener ≡ o → orphaned l e ≡ e
      by i e at out None is = ap (λ (o : Option ℕ). if option_map_or (λ holder. nat_eq holder l) o false then after_abort e else e) is
      by i e at out (Some k) is =
          ap (λ (o : Option ℕ). if option_map_or (λ holder. nat_eq holder l) o false then after_abort e else e) is
          ∙ by_holder (nat_eq k l) refl
        where
          by_holder : (b : Bool) → nat_eq k l ≡ b → (if b then after_abort e else e) ≡ e
          by_holder false other = refl
          by_holder true same =
              let one : k ≡ l = grind (arith, nat_tests, same) in
              absurd (true≢false (sym (known i (index.children i l e at (subst (λ (n : ℕ). e.listener ≡ Some n) one is))) ∙ out))

pub indexed_orphans : (find : ℕ → ℕ → Option ℕ) (child : ℕ → ℕ → Bool) (l : ℕ) (cs : List ℕ) (es : List Endpoint)
    → IsIndexed find child es → IsIndexed find child (orphan_each l cs es)
indexed_orphans find child l [] es index = index
indexed_orphans find child l (c ∷ cs) es index =
    indexed_orphans find child l cs (modify es c (orphaned l))
    (indexed_modify find child es index c (orphaned l) (λ p r e. ports p r e (is_of l e))
    (λ k e is. listener k e (is_of l e) is))
  where
    ports : (p r : ℕ) (e : Endpoint) (b : Bool) → has_ports p r (if b then after_abort e else e) ≡ has_ports p r e
    ports p r e true = refl
    ports p r e false = refl

    listener : (k : ℕ) (e : Endpoint) (b : Bool) → (if b then after_abort e else e).listener ≡ Some k → e.listener ≡ Some k
    listener k e true is = is
    listener k e false is = is

pub child_known : (entries : List (ℕ × Vec ℕ Global)) (l : ℕ) (v : Vec ℕ Global) (i : ℕ)
    → lookup (is_at (nat_cmp l)) entries ≡ Some v → is_child_in entries l i ≡ true → stands_in i v.items ≡ true
child_known entries l v i at is = sym (ap (λ (o : Option (Vec ℕ Global)). option_map_or (λ w. stands_in i w.items) o false) at) ∙ is

pub no_child : (entries : List (ℕ × Vec ℕ Global)) (l i : ℕ) → lookup (is_at (nat_cmp l)) entries ≡ None
    → is_child_in entries l i ≡ true → stands_in i [] ≡ true
no_child entries l i at is = sym (ap (λ (o : Option (Vec ℕ Global)). option_map_or (λ w. stands_in i w.items) o false) at) ∙ is
