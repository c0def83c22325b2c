-- Indexes that lead to an endpoint or a listener without a walk over all of them, and when they are right.
use Rattle.std.specs.Prelude.{◌≡◌, ℕ, Bool, true, false, nat_eq, ◌||◌, List, [], ◌∷◌, Option, None, Some, slice_get}
use Rattle.std.specs.Prelude.{Vec}
use Rattle.std.specs.declared.alloc.Global.{Global}
use Rattle.std.specs.Map.{lookup}
use Rattle.std.specs.declared.cmp.Ordering.{Ordering}
use Rattle.std.specs.Ordering.{nat_cmp, ordering_then}
use Rattle.std.specs.BTreeMap.{is_at}
use Rattle.std.specs.Option.{option_map_or, IsSomeAnd}
use Rattle.spec_tcp.specs.declared.endpoint.Endpoint.{Endpoint}
use Rattle.spec_tcp.specs.declared.endpoint.Listener.{Listener}
use Rattle.spec_tcp.specs.HostTcp.{last_from, has_ports}

-- the order of pairs of ports
abbrev pub ports_cmp : ℕ × ℕ → ℕ × ℕ → Ordering
ports_cmp a b = ordering_then (nat_cmp a.0 b.0) (nat_cmp a.1 b.1)

-- the number is in the list
abbrev pub stands_in : ℕ → List ℕ → Bool
stands_in n [] = false
stands_in n (m ∷ ms) = nat_eq n m || stands_in n ms

-- each pair of ports leads to the endpoint created last there, and each endpoint is among the children of its listener
pub record IsIndexed (found : ℕ → ℕ → Option ℕ) (is_child : ℕ → ℕ → Bool) (endpoints : List Endpoint) : Type 0 where
  pub ports : (lport rport : ℕ) → found lport rport ≡ last_from (has_ports lport rport) 0 None endpoints
  pub children : (place l : ℕ) (e : Endpoint) → slice_get endpoints place ≡ Some e → e.listener ≡ Some l
      → is_child l place ≡ true

-- the port of each open listener leads to it, and a port leads to no listener of another port
pub record IsListening (found : ℕ → Option ℕ) (listeners : List Listener) : Type 0 where
  pub live : (place : ℕ) (x : Listener) → slice_get listeners place ≡ Some x → x.is_open ≡ true
      → found x.port ≡ Some place
  pub port : (port place : ℕ) → found port ≡ Some place → IsSomeAnd (slice_get listeners place) (λ x. x.port ≡ port)

-- the place to which a map from pairs of ports leads
abbrev pub find_ports : List ((ℕ × ℕ) × ℕ) → ℕ → ℕ → Option ℕ
find_ports entries lport rport = lookup (is_at (ports_cmp (lport, rport))) entries

-- the place is among the children of that listener
abbrev pub is_child_in : List (ℕ × Vec ℕ Global) → ℕ → ℕ → Bool
is_child_in entries l place =
    option_map_or (λ places. stands_in place places.items) (lookup (is_at (nat_cmp l)) entries) false
