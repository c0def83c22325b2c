-- What waits to be read is what came in order and was not delivered.
use Rattle.std.proofs.Common.{◌≡◌, ℕ, zero, suc, ◌+◌, ◌≤◌, List, [], ◌∷◌, ◌++◌, length, take, drop, Option, Some, None, refl, ap, sym, subst, ◌∙◌, arith}
use Rattle.std.specs.Prelude.{slice_get}
use Rattle.std.proofs.Math.Nat.{le_refl}
use Rattle.std.proofs.lemmas.Option.{none-some, same_Some}
use Rattle.std.proofs.lemmas.List.{take_all, take-append-le, length-append}
use Rattle.streams.specs.declared.cell.Cell.{Cell}
use Rattle.streams.specs.Cells.{Taken, front}
use Rattle.streams.specs.Received.{Receiving, arrived, received, waiting, told}
use Rattle.streams.proofs.ReadLemmas.{received_told, told_within}
use Rattle.spec_tcp.specs.declared.endpoint.EndpointId.{EndpointId}
use Rattle.spec_tcp.specs.declared.endpoint.Stream.{Stream}
use Rattle.spec_tcp.specs.declared.endpoint.Endpoint.{Endpoint}
use Rattle.spec_tcp_laws.specs.Consequences.{find}
use Rattle.spec_tcp_laws.proofs.Later.{Hosts, all_cells, GoodStream}

-- all that an endpoint took is what its peer sends
pub taken_of : (hosts : Hosts) (me : EndpointId) (s : Stream) (q : EndpointId) (t : Endpoint) → GoodStream hosts me s
    → s.peer ≡ Some q → find hosts q ≡ Some t → Taken (λ p c. slice_get (all_cells t.stream) p ≡ Some c) s.receive.taken
taken_of hosts me s q t g e there p c x =
    let h = g.taken p c x in
    let which : h.0 ≡ q = same_Some h.0 q (sym h.1 ∙ e) in
    let one : find hosts q ≡ Some h.2.0 = subst (λ (k : EndpointId). find hosts k ≡ Some h.2.0) which h.2.1 in
    let same : h.2.0 ≡ t = same_Some h.2.0 t (sym one ∙ there) in
    subst (λ (u : Endpoint). slice_get (all_cells u.stream) p ≡ Some c) same h.2.2

-- without a peer nothing was taken
pub taken_none : (hosts : Hosts) (me : EndpointId) (s : Stream) → GoodStream hosts me s → s.peer ≡ None → Taken (λ p c. ⊥) s.receive.taken
taken_none hosts me s g e p c x = let h = g.taken p c x in none-some h.0 (sym e ∙ h.1)

pub nothing_in_front : (taken : List (Option Cell)) → Taken (λ p c. ⊥) taken → front taken ≡ []
nothing_in_front [] h = refl
nothing_in_front (None ∷ taken) h = refl
nothing_in_front (Some c ∷ taken) h = absurd (h 0 c refl)

pub take_nothing : (n : ℕ) (xs : List ℕ) → xs ≡ [] → take n xs ≡ []
take_nothing zero xs h = refl
take_nothing (suc n) [] h = refl
take_nothing (suc n) (x ∷ xs) h = absurd cc

-- the bytes that begin others are what is taken of these
take_begin : (x rest all : List ℕ) → x ++ rest ≡ all → take (length x) all ≡ x
take_begin x rest all e = ap (λ (l : List ℕ). take (length x) l) (sym e) ∙ (take-append-le (length x) x rest (le_refl _) ∙ take_all (length x) x (le_refl _))

-- bytes that wait are read
pub read_more : (r : Receiving) (x rest : List ℕ) → waiting r ≡ drop r.delivered (arrived r) → x ++ rest ≡ waiting r
    → received r ++ x ≡ received (told r (length x))
read_more r x rest is e = ap (λ (l : List ℕ). received r ++ l) (sym (take_begin x rest (waiting r) e)) ∙ sym (received_told r (length x) is)

pub read_fits : (r : Receiving) (x rest : List ℕ) → waiting r ≡ drop r.delivered (arrived r) → x ++ rest ≡ waiting r
    → r.delivered ≤ length (arrived r) → r.delivered + length x ≤ length (arrived r)
read_fits r x rest is e le = told_within r (length x) is le (let all = ap length e in omega (arith, all, length-append x rest))
