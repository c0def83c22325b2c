-- What calls do at a host, put together from its parts.
use Rattle.std.proofs.Common.{◌≡◌, ◌≤◌, ℕ, zero, suc, Bool, true, false, ◌&&◌, List, [], ◌∷◌, ◌++◌, Option, None, Some}
use Rattle.std.proofs.Common.{length, drop, nat_eq, refl, sym, ap, subst, ◌∙◌, arith, true≢false}
use Rattle.std.specs.Prelude.{slice_get, nat_le}
use Rattle.std.specs.List.{All}
use Rattle.std.specs.Option.{option_map_or}
use Rattle.indexmap.specs.IndexMap.{insert_entry}
use Rattle.std.proofs.lemmas.Option.{none-some, same_Some}
use Rattle.case_forms.specs.declared.version.Version.{Version}
use Rattle.case_forms.specs.declared.calls.Call.TheVariants as calls
use Rattle.case_forms.specs.declared.calls.Answer.TheVariants as answers
use Rattle.case_forms.specs.declared.calls.State.TheVariants as states
use Rattle.streams.specs.Lists.{modify}
use Rattle.streams.specs.Received.{starts, waiting}
use Rattle.window_rules.specs.declared.control.Profile.{Profile}
use Rattle.spec_tcp.specs.declared.endpoint.Endpoint.{Endpoint}
use Rattle.spec_tcp.specs.declared.endpoint.Listener.{Listener}
use Rattle.spec_tcp.specs.declared.endpoint.Socket.{Socket}
use Rattle.spec_tcp.specs.declared.endpoint.SocketTarget.{SocketTarget}
use Rattle.spec_tcp.specs.declared.endpoint.SocketTarget.TheVariants.{EndpointAt}
use Rattle.spec_tcp.specs.HostTcp.{HostTcp, queue_of, with_socket}
use Rattle.spec_tcp.specs.Endpoints.{new_endpoint}
use Rattle.spec_tcp.specs.Bounds.{HasRoom}
use Rattle.spec_tcp.specs.Calls.{call_allows, target_allows, is_bad_socket, endpoint_allows}
use Rattle.spec_tcp.specs.Calls.Accept.{accepted_from}
use Rattle.spec_tcp.specs.Forgetting.{forget_body}
use Rattle.endpoint_state.specs.Changes.{changed}
use Rattle.endpoint_state.specs.Waiting.{AreWaiting}
use Rattle.endpoint_state.proofs.BodyLemmas.{body_is, forgot_push}

-- no child stands in the queue
pub accepted_none : (b : HostTcp) (l n : ℕ) (q : List ℕ) → slice_get q 0 ≡ None → accepted_from b l n q ≡ b
accepted_none b l n [] none = refl
accepted_none b l n (child ∷ q) none = absurd (none-some child (sym none))

modify_alike : {X : Type 0} (f g : X → X) (xs : List X) (i : ℕ) → ((x : X) → slice_get xs i ≡ Some x → f x ≡ g x) → modify xs i f ≡ modify xs i g
modify_alike f g [] i alike = refl
modify_alike {X} f g (x ∷ xs) zero alike = ap (λ (y : X). y ∷ xs) (alike x refl)
modify_alike {X} f g (x ∷ xs) (suc i) alike = ap (λ (ys : List X). x ∷ ys) (modify_alike f g xs i alike)

abbrev without_first : Listener → Listener
without_first x = record x { queue = drop 1 x.queue }

queue_at : (b : HostTcp) (l : ℕ) (x : Listener) → slice_get b.listeners l ≡ Some x → queue_of b l ≡ x.queue
queue_at b l x at = ap (λ (o : Option Listener). option_map_or (λ y. y.queue) o []) at

-- the first child is accepted
pub accepted_first : (b : HostTcp) (l n child : ℕ) (es : List Endpoint) (xs : List Listener) (ss : List (ℕ × Socket)) → slice_get (queue_of b l) 0 ≡ Some child
    → es ≡ changed b.endpoints child (λ e. record e { listener = None }) → xs ≡ modify b.listeners l without_first
    → ss ≡ insert_entry nat_eq b.sockets n (record { target = EndpointAt child; live = true })
    → (let a : HostTcp = record { endpoints = es; listeners = xs; sockets = ss } in a) ≡ forget_body (accepted_from b l n (queue_of b l))
accepted_first b l n child es xs ss first e x s = by (queue_of b l) refl first
  where
    by : (q : List ℕ) → queue_of b l ≡ q → slice_get q 0 ≡ Some child
        → (let a : HostTcp = record { endpoints = es; listeners = xs; sockets = ss } in a)
        ≡ forget_body (accepted_from b l n q)
    by [] is first = absurd (none-some child first)
    by (c ∷ q) is first =
        let same : c ≡ child = same_Some c child first in
        let listeners : modify b.listeners l without_first ≡ modify b.listeners l (λ x. record x { queue = q }) =
        modify_alike without_first (λ x. record x { queue = q }) b.listeners l
        (λ x at. ap (λ (ns : List ℕ). let y : Listener = record x { queue = drop 1 ns } in y)
        (sym (queue_at b l x at) ∙ is)) in
        subst (λ (k : ℕ). (let a : HostTcp = record { endpoints = es; listeners = xs; sockets = ss } in a)
        ≡ forget_body (accepted_from b l n (k ∷ q))) (sym same)
        (body_is es _ xs _ ss _ e (x ∙ listeners) s)

-- an endpoint that is opened has nothing to discard
pub opened : (p : Profile) (b : HostTcp) (n lport rport : ℕ) → All HasRoom b.endpoints
    → with_socket (record b { endpoints = b.endpoints ++ new_endpoint lport rport None states.SynSent p ∷ [] }) n (EndpointAt (length b.endpoints))
    ≡ forget_body (with_socket (record b {
      endpoints = b.endpoints ++ new_endpoint lport rport None states.SynSent p ∷ [];
    }) n
    (EndpointAt (length b.endpoints)))
opened p b n lport rport room =
    body_is _ _ b.listeners b.listeners _ _ (forgot_push b.endpoints (new_endpoint lport rport None states.SynSent p) room refl) refl refl

starts_within : (xs ys : List ℕ) → starts xs ys ≡ true → length xs ≤ length ys
starts_within [] ys is = omega arith
starts_within (x ∷ xs) [] is = absurd cc
starts_within (x ∷ xs) (y ∷ ys) is = by (nat_eq x y) is (λ is. starts_within xs ys is)
  where
    by : (b : Bool) → (b && starts xs ys) ≡ true → (starts xs ys ≡ true → length xs ≤ length ys) → length (x ∷ xs) ≤ length (y ∷ ys)
    by true is rest = let h = rest is in omega arith
    by false is rest = absurd (true≢false (sym is))

both : (a b : Bool) → (a && b) ≡ true → b ≡ true
both true b is = is
both false b is = absurd (true≢false (sym is))

-- bytes that a `recv` may give wait
pub allowed_wait : (v : Version) (b : HostTcp) (n most : ℕ) (bytes : List ℕ) → call_allows v b (calls.Recv n most) (answers.Bytes bytes) ≡ true
    → AreWaiting b n bytes
allowed_wait v b n most bytes allowed i e named at =
    let one : target_allows v b (calls.Recv n most) (answers.Bytes bytes) (EndpointAt i) ≡ true =
    sym (ap (λ (o : Option SocketTarget).
    option_map_or (target_allows v b (calls.Recv n most) (answers.Bytes bytes)) o
    (is_bad_socket (answers.Bytes bytes))) named) ∙ allowed in
    let two : endpoint_allows v e (calls.Recv n most) (answers.Bytes bytes) ≡ true =
    sym (ap (λ (o : Option Endpoint).
    option_map_or (λ x. endpoint_allows v x (calls.Recv n most) (answers.Bytes bytes)) o false) at) ∙ one in
    starts_within bytes (waiting e.stream.receive) (both (nat_le 1 (length bytes) && nat_le (length bytes) most) (starts bytes (waiting e.stream.receive)) two)
