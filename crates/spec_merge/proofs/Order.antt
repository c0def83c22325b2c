-- The merge by keys tells both runs so that each arrival's segment stands on the wire by then.
use Rattle.std.proofs.Common.{◌≡◌, ℕ, suc, Bool, true, false, cond, List, [], ◌∷◌, Option, Some, None, refl, ap, sym, subst, ◌∙◌, inl, inr, ◌⊎◌, arith}
use Rattle.std.specs.Prelude.{if◌then◌else◌, nat_eq}
use Rattle.std.specs.Map.{lookup}
use Rattle.indexmap.specs.IndexMap.{insert_entry}
use Rattle.std.proofs.lemmas.Bool.Decides.{nat_tests}
use Rattle.std.proofs.lemmas.Option.{none-some, same_Some}
use Rattle.case_forms.specs.declared.calls.Host.{Host}
use Rattle.case_forms.specs.declared.calls.Host.TheVariants.{One, Zero}
use Rattle.spec_network.specs.Tables.{Both, on, other, pick, with_host}
use Rattle.spec_network.specs.Hosts.{Answered, At, Begin, Called, Effect, Finish, HostState, Idle, Kernel, Turn, World, turn_of}
use Rattle.spec_network.specs.HostRules.{aim_of}
use Rattle.spec_network.specs.HostSteps.{call_after, host_step_after, effect_after}
use Rattle.spec_merge.specs.Books.{Bring, Do, Entry, FitsItem, HostRun, InLane, Item, Key, host_step_line, end, item_line, next, next_item}
use Rattle.spec_merge.specs.Keys.{Book, EachEntry, If, NamesOne, Numbered, before, lesser, merge, merge_with, rank}
use Rattle.spec_network.proofs.Entries.{lookup_insert}
use Rattle.spec_merge.proofs.Joint.{Joint, NamedItem, NumberedItem, count_on}
use Rattle.spec_merge.proofs.Halves.{pick_same, pick_far, host_step_wire}

-- 1. the order of keys

lesser_both : (a b c x y z : ℕ) → lesser a b c x y z ≡ true → lesser x y z a b c ≡ true → ⊥
lesser_both a b c x y z p q = grind (arith, nat_tests)

lesser_between : (a b c x y z u v w : ℕ) → lesser a b c x y z ≡ true → lesser u v w x y z ≡ false → lesser u v w a b c ≡ true → ⊥
lesser_between a b c x y z u v w p q r = grind (arith, nat_tests)

lesser_behind : (a b c x y z u v w : ℕ) → lesser a b c x y z ≡ false → lesser u v w a b c ≡ false → lesser u v w x y z ≡ true → ⊥
lesser_behind a b c x y z u v w p q r = grind (arith, nat_tests)

-- 2. lists of entries

each_weaker : (k : Kernel) (P Q : Entry k.shape → Type 0) → ((x : Entry k.shape) → P x → Q x)
    → (xs : List (Entry k.shape)) → EachEntry k P xs → EachEntry k Q xs
each_weaker k P Q f [] g = tt
each_weaker k P Q f (x ∷ xs) g = (f x g.0, each_weaker k P Q f xs g.1)

each_two : (k : Kernel) (P Q R : Entry k.shape → Type 0) → ((x : Entry k.shape) → P x → Q x → R x)
    → (xs : List (Entry k.shape)) → EachEntry k P xs → EachEntry k Q xs → EachEntry k R xs
each_two k P Q R f [] g h = tt
each_two k P Q R f (x ∷ xs) g h = (f x g.0 h.0, each_two k P Q R f xs g.1 h.1)

-- 3. what stands on a host's wire stays under its line

abbrev Without : (k : Kernel) → ℕ → Item k.shape → Type 0
Without k tag x = item_line k x ≡ Some tag → ⊥

call_wire : (k : Kernel) (h : Host) (s : ℕ) (hosts : Both (HostState k.shape)) (act : k.shape.Act) (o : Option Host)
    → (pick (call_after k s hosts act o) h).wire ≡ (pick hosts h).wire
call_wire k h s hosts act None = refl
call_wire k Zero s hosts act (Some Zero) = refl
call_wire k Zero s hosts act (Some One) = refl
call_wire k One s hosts act (Some Zero) = refl
call_wire k One s hosts act (Some One) = refl

-- a line stands on the host's wire as before, if the item does not take it
wire_step : (k : Kernel) (h : Host) (s : ℕ) (w : World k.shape) (item : Item k.shape) → FitsItem k h s w item
    → (tag : ℕ) → Without k tag item
    → lookup (nat_eq tag) (pick (next_item k h s w item).hosts h).wire ≡ lookup (nat_eq tag) (pick w.hosts h).wire
wire_step k h s w (Bring f) fits tag free = ap (λ (x : HostState k.shape). lookup (nat_eq tag) x.wire) (pick_far w.hosts h _)
wire_step k h s w (Do (Begin line t call)) fits tag free = refl
wire_step k h s w (Do (Finish line t answer)) fits tag free = refl
wire_step k h s w (Do (Effect t answer)) fits tag free = go (turn_of t w.threads)
  where
    go : (u : Turn k.shape) → lookup (nat_eq tag) (pick (effect_after k s w t answer u).hosts h).wire ≡ lookup (nat_eq tag) (pick w.hosts h).wire
    go Idle = refl
    go (Called call) =
        ap (λ (ts : List (ℕ × k.shape.Emission)). lookup (nat_eq tag) ts)
        (call_wire k h s w.hosts (k.calls call answer) (aim_of k w.hosts (k.aim call)))
    go (Answered given) = refl
wire_step k h s w (Do (At side d)) fits tag free =
    subst (λ (g : Host). lookup (nat_eq tag)
    (pick (with_host w.hosts g (host_step_after k g s (suc w.count) (pick w.hosts (other g)).wire (pick w.hosts g) d))
    h).wire ≡ lookup (nat_eq tag) (pick w.hosts h).wire) (sym fits.1)
    (ap (λ (x : HostState k.shape). lookup (nat_eq tag) x.wire) (pick_same w.hosts h _)
    ∙ go (host_step_wire k h s (suc w.count) (pick w.hosts (other h)).wire (pick w.hosts h) d))
  where
    y : HostState k.shape
    y = host_step_after k h s (suc w.count) (pick w.hosts (other h)).wire (pick w.hosts h) d

    go : ((host_step_after k h s (suc w.count) (pick w.hosts (other h)).wire (pick w.hosts h) d).wire
        ≡ (pick w.hosts h).wire) ⊎ ((line : ℕ) × (e : k.shape.Emission) × (host_step_line k d ≡ Some line)
        × ((host_step_after k h s (suc w.count) (pick w.hosts (other h)).wire (pick w.hosts h) d).wire
        ≡ insert_entry nat_eq (pick w.hosts h).wire line e))
        → lookup (nat_eq tag) (host_step_after k h s (suc w.count) (pick w.hosts (other h)).wire (pick w.hosts h) d).wire
        ≡ lookup (nat_eq tag) (pick w.hosts h).wire
    go (inl same) = ap (λ (ts : List (ℕ × k.shape.Emission)). lookup (nat_eq tag) ts) same
    go (inr new) =
        ap (λ (ts : List (ℕ × k.shape.Emission)). lookup (nat_eq tag) ts) new.3
        ∙ (lookup_insert tag new.0 new.1 (pick w.hosts h).wire ∙ skip (nat_eq tag new.0) refl)
      where
        skip : (b : Bool) → nat_eq tag new.0 ≡ b → cond b (Some new.1) (lookup (nat_eq tag) (pick w.hosts h).wire) ≡ lookup (nat_eq tag) (pick w.hosts h).wire
        skip false e = refl
        skip true e = let n : new.0 ≡ tag = grind (arith, nat_tests) in absurd (free (new.2 ∙ ap (λ (i : ℕ). Some i) n))

-- and as at the end, if no entry takes it
wire_end : (k : Kernel) (h : Host) (w : World k.shape) (xs : List (Entry k.shape)) → HostRun k h w xs → (tag : ℕ)
    → EachEntry k (λ x. Without k tag x.item) xs
    → lookup (nat_eq tag) (pick (end k h w xs).hosts h).wire ≡ lookup (nat_eq tag) (pick w.hosts h).wire
wire_end k h w [] runs tag free = refl
wire_end k h w (x ∷ xs) runs tag free = wire_end k h (next k h w x) xs runs.2 tag free.1 ∙ wire_step k h x.key.moment w x.item runs.0 tag free.0

-- 4. the head of a book

numbered_head : (k : Kernel) (n : ℕ) (l : Option ℕ) (xs : List (Entry k.shape))
    → If l (Numbered k n xs) (λ line. (line ≡ n) × Numbered k (suc n) xs)
    → ((line : ℕ) → l ≡ Some line → line ≡ n) × Numbered k (on l n (λ line. suc n)) xs
numbered_head k n None xs g = ((λ line e. absurd (none-some line e)), g)
numbered_head k n (Some m) xs g = ((λ line e. sym (same_Some m line e) ∙ g.0), g.1)

book_tail : (k : Kernel) (h o : Host) (w : World k.shape) (n : ℕ) (x : Entry k.shape) (xs : List (Entry k.shape))
    (last : World k.shape) (ys : List (Entry k.shape)) → Book k h o w n (x ∷ xs) last ys
    → Book k h o (next k h w x) (count_on k x.item n) xs last ys
book_tail k h o w n x xs last ys b =
    record {
      runs = b.runs.2;
      numbered = (numbered_head k n (item_line k x.item) xs b.numbered).1;
      keys = b.keys.2;
      arrivals = b.arrivals.1;
    }

-- the other's head is told
names_tail : (k : Kernel) (o : Host) (last : World k.shape) (y : Entry k.shape) (ys : List (Entry k.shape)) (key : Key)
    (item : Item k.shape) → NamesOne k o last (y ∷ ys) key item → NamesOne k o last ys key item
names_tail k o last y ys key (Do step) g = tt
names_tail k o last y ys key (Bring f) g = (g.0, g.1, g.2.1)

book_past : (k : Kernel) (h o : Host) (w : World k.shape) (n : ℕ) (xs : List (Entry k.shape)) (last : World k.shape)
    (y : Entry k.shape) (ys : List (Entry k.shape)) → Book k h o w n xs last (y ∷ ys) → Book k h o w n xs last ys
book_past k h o w n xs last y ys b = record {
  runs = b.runs;
  numbered = b.numbered;
  keys = b.keys;
  arrivals =
      each_weaker k (λ x. NamesOne k o last (y ∷ ys) x.key x.item) (λ x. NamesOne k o last ys x.key x.item)
      (λ x. names_tail k o last y ys x.key x.item) xs b.arrivals;
}

-- all that is left of the other's book has keys from this one's head on
abbrev Behind : (k : Kernel) → Key → List (Entry k.shape) → Type 0
Behind k key ys = EachEntry k (λ y. (g : Key) → before g key ≡ true → y.key ≡ g → ⊥) ys

named_now : (k : Kernel) (h o : Host) (fw : World k.shape) (ys : List (Entry k.shape)) (ws : Both (World k.shape))
    → pick ws o ≡ fw → HostRun k o fw ys → (key : Key) (item : Item k.shape) → NamesOne k o (end k o fw ys) ys key item
    → Behind k key ys → NamedItem k o ws item
named_now k h o fw ys ws is runs key (Do step) names behind = tt
named_now k h o fw ys ws is runs key (Bring f) names behind =
    ap (λ (w : World k.shape). lookup (nat_eq f.line) (pick w.hosts o).wire) is
    ∙ (sym (wire_end k o fw ys runs f.line
    (each_two k (λ y. item_line k y.item ≡ Some f.line → y.key ≡ f.key)
    (λ y. (g : Key) → before g key ≡ true → y.key ≡ g → ⊥) (λ y. Without k f.line y.item)
    (λ y p q l. q f.key names.0 (p l)) ys names.2 behind))
    ∙ names.1)

-- one entry more, told by its own host
abbrev JointAt : (k : Kernel) → Both (World k.shape) → Both ℕ → Host → Entry k.shape → List (Entry k.shape) → Type 0
JointAt k ws ls h x zs = FitsItem k h x.key.moment (pick ws h) x.item
    × InLane k h (next k h (pick ws h) x)
    × NamedItem k (other h) ws x.item
    × NumberedItem k (pick ls h) x.item
    × Joint k (with_host ws h (next k h (pick ws h) x)) (with_host ls h (count_on k x.item (pick ls h))) zs

joint_head : (k : Kernel) (ws : Both (World k.shape)) (ls : Both ℕ) (h : Host) (x : Entry k.shape)
    (zs : List (Entry k.shape)) → x.key.host ≡ h → JointAt k ws ls h x zs → Joint k ws ls (x ∷ zs)
joint_head k ws ls h x zs is j = subst (λ (g : Host). JointAt k ws ls g x zs) (sym is) j

-- 5. the merge

abbrev BothW : (k : Kernel) → World k.shape → World k.shape → Both (World k.shape)
BothW k a b = record { zero = a; one = b }

abbrev BothN : ℕ → ℕ → Both ℕ
BothN a b = record { zero = a; one = b }

joint_zero : (k : Kernel) (a b : World k.shape) (m n : ℕ) (x : Entry k.shape) (xs ys zs : List (Entry k.shape))
    → Book k Zero One a m (x ∷ xs) (end k One b ys) ys → HostRun k One b ys → Behind k x.key ys
    → Joint k (BothW k (next k Zero a x) b) (BothN (count_on k x.item m) n) zs → Joint k (BothW k a b) (BothN m n) (x ∷ zs)
joint_zero k a b m n x xs ys zs book runs behind rest = joint_head k (BothW k a b) (BothN m n) Zero x zs book.keys.0 (
  book.runs.0,
  book.runs.1,
  named_now k Zero One b ys (BothW k a b) refl runs x.key x.item book.arrivals.0 behind,
  (numbered_head k m (item_line k x.item) xs book.numbered).0,
  rest,
)

joint_one : (k : Kernel) (a b : World k.shape) (m n : ℕ) (y : Entry k.shape) (xs ys zs : List (Entry k.shape))
    → Book k One Zero b n (y ∷ ys) (end k Zero a xs) xs → HostRun k Zero a xs → Behind k y.key xs
    → Joint k (BothW k a (next k One b y)) (BothN m (count_on k y.item n)) zs → Joint k (BothW k a b) (BothN m n) (y ∷ zs)
joint_one k a b m n y xs ys zs book runs behind rest = joint_head k (BothW k a b) (BothN m n) One y zs book.keys.0 (
  book.runs.0,
  book.runs.1,
  named_now k One Zero a xs (BothW k a b) refl runs y.key y.item book.arrivals.0 behind,
  (numbered_head k n (item_line k y.item) ys book.numbered).0,
  rest,
)

-- the head has the lesser key
lesser_head : (k : Kernel) (x y : Key) (ys : List (Entry k.shape)) → before x y ≡ true
    → EachEntry k (λ z. before z.key y ≡ false) ys → EachEntry k (λ z. (g : Key) → before g x ≡ true → z.key ≡ g → ⊥) ys
lesser_head k x y [] p q = tt
lesser_head k x y (z ∷ ys) p q = (
  (λ g r e. lesser_between x.moment x.counter (rank x.host) y.moment y.counter
      (rank y.host) z.key.moment z.key.counter (rank z.key.host) p q.0
      (subst (λ (g : Key). before g x ≡ true) (sym e) r)),
  lesser_head k x y ys p q.1,
)

other_head : (k : Kernel) (x y : Key) (xs : List (Entry k.shape)) → before x y ≡ false
    → EachEntry k (λ z. before z.key x ≡ false) xs → EachEntry k (λ z. (g : Key) → before g y ≡ true → z.key ≡ g → ⊥) xs
other_head k x y [] p q = tt
other_head k x y (z ∷ xs) p q = (
  (λ g r e. lesser_behind x.moment x.counter (rank x.host) y.moment y.counter
      (rank y.host) z.key.moment z.key.counter (rank z.key.host) p q.0
      (subst (λ (g : Key). before g y ≡ true) (sym e) r)),
  other_head k x y xs p q.1,
)

abbrev Told : (k : Kernel) → List (Entry k.shape) → List (Entry k.shape) → List (Entry k.shape) → Type 0
Told k xs ys zs = (a b : World k.shape) (m n : ℕ) → Book k Zero One a m xs (end k One b ys) ys
    → Book k One Zero b n ys (end k Zero a xs) xs → Joint k (BothW k a b) (BothN m n) zs

ones : (k : Kernel) (ys : List (Entry k.shape)) → Told k [] ys ys
ones k [] a b m n p q = tt
ones k (y ∷ ys) a b m n p q = joint_one k a b m n y [] ys ys q tt tt
    (ones k ys a (next k One b y) m (count_on k y.item n)
    (book_past k Zero One a m [] (end k One (next k One b y) ys) y ys p) (book_tail k One Zero b n y ys a [] q))

told_with : (k : Kernel) (x : Entry k.shape) (xs : List (Entry k.shape))
    (rest : List (Entry k.shape) → List (Entry k.shape)) → ((ys : List (Entry k.shape)) → Told k xs ys (rest ys))
    → (ys : List (Entry k.shape)) → Told k (x ∷ xs) ys (merge_with k x rest ys)
told_with k x xs rest told [] a b m n p q = joint_zero k a b m n x xs [] (rest []) p tt tt
    (told [] (next k Zero a x) b (count_on k x.item m) n (book_tail k Zero One a m x xs b [] p)
    (book_past k One Zero b n [] (end k Zero (next k Zero a x) xs) x xs q))
told_with k x xs rest told (y ∷ ys) a b m n p q = go (before x.key y.key) refl (told_with k x xs rest told ys)
  where
    go : (t : Bool) → before x.key y.key ≡ t → Told k (x ∷ xs) ys (merge_with k x rest ys)
        → Joint k (BothW k a b) (BothN m n) (if t then x ∷ rest (y ∷ ys) else y ∷ merge_with k x rest ys)
    go true is more = joint_zero k a b m n x xs (y ∷ ys) (rest (y ∷ ys)) p q.runs (
      (λ g r e. lesser_both x.key.moment x.key.counter (rank x.key.host) y.key.moment y.key.counter
          (rank y.key.host) is (subst (λ (g : Key). before g x.key ≡ true) (sym e) r)),
      lesser_head k x.key y.key ys is q.keys.1,
    )
        (told (y ∷ ys) (next k Zero a x) b (count_on k x.item m) n
        (book_tail k Zero One a m x xs (end k One b (y ∷ ys)) (y ∷ ys) p)
        (book_past k One Zero b n (y ∷ ys) (end k Zero (next k Zero a x) xs) x xs q))
    go false is more = joint_one k a b m n y (x ∷ xs) ys (merge_with k x rest ys) q p.runs
        ((λ g r e. let r' = subst (λ (g : Key). before g y.key ≡ true) (sym e) r in absurd (cc)), other_head k x.key y.key xs is p.keys.1)
        (more a (next k One b y) m (count_on k y.item n)
        (book_past k Zero One a m (x ∷ xs) (end k One (next k One b y) ys) y ys p)
        (book_tail k One Zero b n y ys (end k Zero a (x ∷ xs)) (x ∷ xs) q))

-- the merge by keys tells both books in one order
pub told : (k : Kernel) (xs ys : List (Entry k.shape)) → Told k xs ys (merge k xs ys)
told k [] ys = ones k ys
told k (x ∷ xs) ys = told_with k x xs (merge k xs) (told k xs) ys
