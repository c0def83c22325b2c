-- What stands in the tables of a host: whatever a look-up finds has a property, before and after a table changes.
use Rattle.std.proofs.Common.{◌≡◌, ℕ, Bool, true, false, cond, List, Option, Some, None, sym, ◌∙◌, subst, nat_eq}
use Rattle.std.specs.Map.{lookup}
use Rattle.std.proofs.lemmas.Option.{none-some, same_Some}
use Rattle.indexmap.specs.IndexMap.{insert_entry}
use Rattle.spec_network.specs.Tables.{on, Made, waiting, settled}
use Rattle.spec_network.specs.Hosts.{HostState}
use Rattle.spec_network.proofs.Entries.{lookup_insert}
use Rattle.spec_tcp.specs.declared.endpoint.Emission.{Emission}
use Rattle.spec_tcp.specs.Machine.{tcp_shape}

-- whatever stands in a table has this
abbrev pub AllIn : {X : Type 0} → (X → Type 0) → List (ℕ × X) → Type 0
AllIn {X} P table = (n : ℕ) (x : X) → lookup (nat_eq n) table ≡ Some x → P x

-- each emission in a host's tables has this
pub record InTables (P : Emission → Type 0) (h : HostState tcp_shape) : Type 0 where
  pub made : AllIn (λ (x : Made Emission). P x.emission) h.made
  pub wire : AllIn P h.wire
  pub inbox : (n : ℕ) (m : Emission) → waiting n h.inbox ≡ Some m → P m

-- something is inserted
pub all_insert : {X : Type 0} (P : X → Type 0) (es : List (ℕ × X)) (n : ℕ) (v : X) → P v → AllIn P es → AllIn P (insert_entry nat_eq es n v)
all_insert {X} P es n v new old q x e = go (nat_eq q n) (sym (lookup_insert q n v es) ∙ e)
  where
    go : (b : Bool) → cond b (Some v) (lookup (nat_eq q) es) ≡ Some x → P x
    go true e = subst P (same_Some v x e) new
    go false e = old q x e

-- what is found after an insertion is new, or was found before
inbox_insert : (P : Emission → Type 0) (inbox : List (ℕ × Option Emission)) (n : ℕ) (v : Option Emission) → ((m : Emission) → v ≡ Some m → P m)
    → ((q : ℕ) (m : Emission) → waiting q inbox ≡ Some m → P m) → (q : ℕ) (m : Emission) → waiting q (insert_entry nat_eq inbox n v) ≡ Some m → P m
inbox_insert P inbox n v new old q m e = go (nat_eq q n) (subst (λ (o : Option (Option Emission)). on o None (λ x. x) ≡ Some m) (lookup_insert q n v inbox) e)
  where
    go : (b : Bool) → on (cond b (Some v) (lookup (nat_eq q) inbox)) None (λ x. x) ≡ Some m → P m
    go true e = new m e
    go false e = old q m e

-- a segment joins the inbox
pub inbox_join : (P : Emission → Type 0) (inbox : List (ℕ × Option Emission)) (n : ℕ) (x : Emission) → P x
    → ((q : ℕ) (m : Emission) → waiting q inbox ≡ Some m → P m) → (q : ℕ) (m : Emission)
    → waiting q (insert_entry nat_eq inbox n (Some x)) ≡ Some m → P m
inbox_join P inbox n x new old = inbox_insert P inbox n (Some x) (λ m e. subst P (same_Some x m e) new) old

-- it waits no longer
pub inbox_settled : (P : Emission → Type 0) (inbox : List (ℕ × Option Emission)) (n : ℕ)
    → ((q : ℕ) (m : Emission) → waiting q inbox ≡ Some m → P m) → (q : ℕ) (m : Emission)
    → waiting q (settled n inbox) ≡ Some m → P m
inbox_settled P inbox n old = inbox_insert P inbox n None (λ m e. absurd (none-some m e)) old
