-- What holds of streams in one world in which all is good.
use Rattle.std.proofs.Common.{◌≡◌, ℕ, suc, true, List, [], ◌∷◌, ◌++◌, length, take, drop, Some, None, refl, ap, sym, ◌∙◌, append_assoc, arith}
use Rattle.std.proofs.lemmas.List.{take-append-drop, append-nil, length-append}
use Rattle.streams.specs.Cells.{bytes_of}
use Rattle.streams.specs.Lists.{IsPrefixOf}
use Rattle.streams.specs.Received.{arrived, received}
use Rattle.streams.proofs.ReadLemmas.{in_order}
use Rattle.spec_tcp.specs.declared.endpoint.EndpointId.{EndpointId}
use Rattle.spec_tcp.specs.declared.endpoint.Stream.{Stream}
use Rattle.spec_tcp.specs.declared.endpoint.Endpoint.{Endpoint}
use Rattle.spec_tcp_laws.specs.Consequences.{find, HasStream}
use Rattle.spec_tcp_laws.proofs.Later.{Hosts, GoodStream}
use Rattle.spec_tcp_laws.proofs.Reading.{taken_of, taken_none, nothing_in_front, take_nothing}
use Rattle.spec_tcp_laws.proofs.Ordered.{body_fin}
use Rattle.spec_tcp_laws.proofs.Grows.{Ended}
use Rattle.streams.specs.declared.cell.Cell.TheVariants.{Fin}

pub prefix_take : (n : ℕ) (xs ys : List ℕ) → IsPrefixOf xs ys → IsPrefixOf (take n xs) ys
prefix_take n xs ys p =
    let parts = take-append-drop n xs in
    (drop n xs ++ p.0, sym (append_assoc (take n xs) (drop n xs) p.0) ∙ (ap (λ (l : List ℕ). l ++ p.0) parts ∙ p.1))

-- without a peer nothing was received
pub received_none : (hosts : Hosts) (me : EndpointId) (s : Stream) → GoodStream hosts me s → s.peer ≡ None → received s.receive ≡ []
received_none hosts me s g p = take_nothing s.receive.delivered (arrived s.receive) (ap bytes_of (nothing_in_front s.receive.taken (taken_none hosts me s g p)))

-- what was received is how that begins which the peer's sends accepted
pub received_prefix : (hosts : Hosts) (me : EndpointId) (s : Stream) (q : EndpointId) (t : Endpoint)
    → GoodStream hosts me s → s.peer ≡ Some q → find hosts q ≡ Some t
    → IsPrefixOf (received s.receive) t.stream.accepted
received_prefix hosts me s q t g p there =
    prefix_take s.receive.delivered (arrived s.receive) t.stream.accepted
    (in_order s.receive t.stream.accepted t.stream.ended (taken_of hosts me s q t g p there)).arrives

-- a prefix as long as the whole is the whole
whole_prefix : (xs ys : List ℕ) → IsPrefixOf xs ys → length xs ≡ length ys → xs ≡ ys
whole_prefix xs ys p same =
    let all = ap length p.1 in
    let none : p.0 ≡ [] = empty p.0 (omega (arith, all, same, length-append xs p.0)) in
    sym (append-nil xs) ∙ (ap (λ (l : List ℕ). xs ++ l) (sym none) ∙ p.1)
  where
    empty : (rest : List ℕ) → length rest ≡ 0 → rest ≡ []
    empty [] e = refl
    empty (r ∷ rest) e = absurd (omega arith)

-- reads had all that the peer's sends accept, and its sending was ended
abbrev pub HasAll : Hosts → Stream → Type 0
HasAll hosts s = (q : EndpointId) × (s.peer ≡ Some q) × HasStream hosts q (λ t. (received s.receive ≡ t.accepted) × (t.ended ≡ true))

-- so it is where a FIN was taken right behind what reads had
pub has_all : (hosts : Hosts) (me : EndpointId) (s : Stream) → GoodStream hosts me s → Ended s → HasAll hosts s
has_all hosts me s g fin =
    let h = g.taken (suc (length (received s.receive))) Fin fin in
    let last = body_fin h.2.0.stream.accepted h.2.0.stream.ended (length (received s.receive)) h.2.2 in
    (h.0, h.1, (h.2.0, h.2.1, (whole_prefix (received s.receive) h.2.0.stream.accepted (received_prefix hosts me s h.0 h.2.0 g h.1 h.2.1) last.1, last.0)))
