-- A host's endpoints, of which something was discarded.
use Rattle.std.proofs.Common.{◌≡◌, ℕ, zero, suc, Bool, true, List, [], ◌∷◌, ◌++◌, Option, None, Some, map, refl}
use Rattle.std.specs.Prelude.{if◌then◌else◌, slice_get}
use Rattle.std.specs.Option.{option_map, option_map_or}
use Rattle.std.proofs.lemmas.Option.{slice_get-map}
use Rattle.verdict.specs.declared.rule.Rule.{Rule}
use Rattle.verdict.specs.declared.rule.Rule.TheVariants as rules
use Rattle.streams.specs.Lists.{modify}
use Rattle.spec_tcp.specs.declared.endpoint.Endpoint.{Endpoint}
use Rattle.spec_tcp.specs.HostTcp.{HostTcp, has_ports, last_from, place_of, endpoint_of, with_endpoint, at_ports}
use Rattle.spec_tcp.specs.Machine.{rules_at}
use Rattle.spec_tcp.specs.Forgetting.{forget_endpoint, forget_body}
use Rattle.spec_tcp_laws.proofs.ForgetReads.{forget-forget}
use Rattle.spec_tcp_laws.proofs.ForgetEffects.{Forgets}

-- what is asked of an endpoint that may be there
pub each-forget : {X : Type 0} (f g : Endpoint → X) (o : Option Endpoint) (none : X)
    → ((e : Endpoint) → f (forget_endpoint e) ≡ g e)
    → option_map_or f (option_map forget_endpoint o) none ≡ option_map_or g o none
each-forget f g None none same = refl
each-forget f g (Some e) none same = same e

-- endpoints are found at their places
found-forget : (lport rport place : ℕ) (found : Option ℕ) (es : List Endpoint)
    → last_from (has_ports lport rport) place found (map forget_endpoint es)
    ≡ last_from (has_ports lport rport) place found es
found-forget lport rport place found [] = refl
found-forget lport rport place found (e ∷ es) = found-forget lport rport (suc place) (if has_ports lport rport e then Some place else found) es

pub place-forget : (b : HostTcp) (lport rport : ℕ) → place_of (forget_body b) lport rport ≡ place_of b lport rport
place-forget b lport rport = found-forget lport rport 0 None b.endpoints

pub endpoint-forget : (b : HostTcp) (lport rport : ℕ) → endpoint_of (forget_body b) lport rport ≡ option_map forget_endpoint (endpoint_of b lport rport)
endpoint-forget b lport rport = rw (place-forget b lport rport) (by (place_of b lport rport))
  where
    by : (place : Option ℕ)
        → option_map_or (λ i. slice_get (map forget_endpoint b.endpoints) i) place None
        ≡ option_map forget_endpoint (option_map_or (λ i. slice_get b.endpoints i) place None)
    by None = refl
    by (Some i) = slice_get-map forget_endpoint b.endpoints i

pub rules_at-forget : (b : HostTcp) (lport rport : ℕ) (f : Endpoint → List (Rule × Bool))
    → ((e : Endpoint) → f (forget_endpoint e) ≡ f e) → rules_at (forget_body b) lport rport f ≡ rules_at b lport rport f
rules_at-forget b lport rport f same = rw (endpoint-forget b lport rport) (each-forget f f (endpoint_of b lport rport) ((rules.NoEndpoint, true) ∷ []) same)

-- endpoints change in their places
pub all-forget : (es : List Endpoint) → map forget_endpoint (map forget_endpoint es) ≡ map forget_endpoint es
all-forget [] = refl
all-forget (e ∷ es) = let here = forget-forget e in let rest = all-forget es in cc

pub modify-forgets : (es : List Endpoint) (i : ℕ) (f : Endpoint → Endpoint) → Forgets f
    → map forget_endpoint (modify (map forget_endpoint es) i f) ≡ map forget_endpoint (modify es i f)
modify-forgets [] i f same = refl
modify-forgets (e ∷ es) zero f same = let here = same e in let rest = all-forget es in cc
modify-forgets (e ∷ es) (suc i) f same = let here = forget-forget e in let rest = modify-forgets es i f same in cc

pub map-forgets : (es : List Endpoint) (f : Endpoint → Endpoint) → Forgets f
    → map forget_endpoint (map f (map forget_endpoint es)) ≡ map forget_endpoint (map f es)
map-forgets [] f same = refl
map-forgets (e ∷ es) f same = let here = same e in let rest = map-forgets es f same in cc

pub append-forgets : (es new : List Endpoint) → map forget_endpoint (map forget_endpoint es ++ new) ≡ map forget_endpoint (es ++ new)
append-forgets [] new = refl
append-forgets (e ∷ es) new = let here = forget-forget e in let rest = append-forgets es new in cc

pub body-forget : (b : HostTcp) → forget_body (forget_body b) ≡ forget_body b
body-forget b = rw (all-forget b.endpoints) refl

pub place-forgets : (b : HostTcp) (i : ℕ) (f : Endpoint → Endpoint) → Forgets f
    → forget_body (with_endpoint (forget_body b) i f) ≡ forget_body (with_endpoint b i f)
place-forgets b i f same = rw (modify-forgets b.endpoints i f same) refl

pub ports-forgets : (b : HostTcp) (lport rport : ℕ) (f : Endpoint → Endpoint) → Forgets f
    → forget_body (at_ports (forget_body b) lport rport f) ≡ forget_body (at_ports b lport rport f)
ports-forgets b lport rport f same = rw (place-forget b lport rport) (by (place_of b lport rport))
  where
    by : (place : Option ℕ)
        → forget_body (option_map_or (λ i. with_endpoint (forget_body b) i f) place (forget_body b))
        ≡ forget_body (option_map_or (λ i. with_endpoint b i f) place b)
    by None = body-forget b
    by (Some i) = place-forgets b i f same
