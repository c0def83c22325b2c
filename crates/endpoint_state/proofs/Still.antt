-- What is kept is forgotten already, and what waits is small.
use Rattle.std.proofs.Common.{◌≡◌, ℕ, List, [], ◌∷◌, map, Option, None, Some, refl, subst, nat_eq}
use Rattle.std.proofs.lemmas.List.Elements.{All-head, All-tail}
use Rattle.std.proofs.lemmas.Map.Entries.{All-lookup}
use Rattle.std.proofs.lemmas.Option.{none-some}
use Rattle.std.specs.List.{All}
use Rattle.std.specs.Option.{IfSome}
use Rattle.std.specs.Map.{lookup}
use Rattle.spec_network.specs.Tables.{waiting, on}
use Rattle.spec_network.specs.Hosts.{HostState}
use Rattle.spec_tcp.specs.declared.endpoint.Emission.{Emission}
use Rattle.spec_tcp.specs.declared.endpoint.Endpoint.{Endpoint}
use Rattle.spec_tcp.specs.HostTcp.{HostTcp}
use Rattle.spec_tcp.specs.Machine.{tcp_shape}
use Rattle.spec_tcp.specs.Forgetting.{forget_endpoint, forget_body, forget_host}
use Rattle.spec_tcp.specs.Bounds.{HasRoom, IsForgotten, IsSmallEmission}
use Rattle.endpoint_state.specs.Kept.{IsReady, IsSmallArrival, AreSmall}

still_endpoint : (e : Endpoint) → IsForgotten e → forget_endpoint e ≡ e
still_endpoint e is = rw (is.accepted, is.received, is.made) refl

still_endpoints : (es : List Endpoint) → All HasRoom es → map forget_endpoint es ≡ es
still_endpoints [] all = refl
still_endpoints (e ∷ es) all = rw (still_endpoint e (All-head HasRoom e es all).forgets, still_endpoints es (All-tail HasRoom e es all)) refl

pub still_body : (b : HostTcp) → All HasRoom b.endpoints → forget_body b ≡ b
still_body b room = rw (still_endpoints b.endpoints room) refl

pub still_host : (h : HostState tcp_shape) → IsReady h → forget_host h ≡ h
still_host h ready = rw (still_body h.body ready.room) refl

-- the segment that waits is small
pub waiting_small : (h : HostState tcp_shape) (line : ℕ) (m : Emission) → AreSmall h → waiting line h.inbox ≡ Some m → IsSmallEmission m
waiting_small h line m small is = by (lookup (nat_eq line) h.inbox) (All-lookup IsSmallArrival (nat_eq line) h.inbox small.inbox) is
  where
    by : (o : Option (Option Emission)) → IfSome o IsSmallArrival → on o None (λ e. e) ≡ Some m → IsSmallEmission m
    by None holds same = absurd (none-some m same)
    by (Some arrival) holds same = subst IsSmallArrival same holds
