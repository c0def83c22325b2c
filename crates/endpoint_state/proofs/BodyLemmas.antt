-- A host of which there is nothing to discard.
use Rattle.std.proofs.Common.{◌≡◌, ℕ, List, [], ◌∷◌, ◌++◌, map, ap, sym, refl}
use Rattle.std.specs.List.{All}
use Rattle.spec_tcp.specs.declared.endpoint.Endpoint.{Endpoint}
use Rattle.spec_tcp.specs.declared.endpoint.Listener.{Listener}
use Rattle.spec_tcp.specs.declared.endpoint.Socket.{Socket}
use Rattle.spec_tcp.specs.HostTcp.{HostTcp}
use Rattle.spec_tcp.specs.Bounds.{HasRoom}
use Rattle.spec_tcp.specs.Forgetting.{forget_body, forget_endpoint}
use Rattle.endpoint_state.proofs.Forgotten.{all_same, forget_same, first, later}

pub body_same : (b : HostTcp) → All HasRoom b.endpoints → forget_body b ≡ b
body_same b room = ap (λ (es : List Endpoint). let c : HostTcp = record b { endpoints = es } in c) (all_same b.endpoints room)

-- an endpoint is added of which there is nothing to discard
pub forgot_push : (es : List Endpoint) (e : Endpoint) → All HasRoom es → forget_endpoint e ≡ e → es ++ e ∷ [] ≡ map forget_endpoint (es ++ e ∷ [])
forgot_push [] e room is = ap (λ (x : Endpoint). x ∷ []) (sym is)
forgot_push (x ∷ es) e room is = let here = forget_same x (first x es room).forgets in let rest = forgot_push es e (later x es room) is in cc

-- the parts of a host
pub body_is : (es es' : List Endpoint) (xs xs' : List Listener) (ss ss' : List (ℕ × Socket)) → es ≡ es' → xs ≡ xs'
    → ss ≡ ss' → (let b : HostTcp = record { endpoints = es; listeners = xs; sockets = ss } in b)
    ≡ record { endpoints = es'; listeners = xs'; sockets = ss' }
body_is es es' xs xs' ss ss' e x s = rw (e, x, s) refl
