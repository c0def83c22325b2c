-- Changing one endpoint in its place, where of the others there is nothing to discard.
use Rattle.std.proofs.Common.{◌≡◌, ℕ, zero, suc, ◌<◌, ◌≤◌, true, true≢false, List, [], ◌∷◌, length, get_or, map, Option, Some, refl, ap, sym, subst, ◌∙◌, arith}
use Rattle.std.proofs.lemmas.Option.{slice_get_past, slice_get_read}
use Rattle.std.specs.Prelude.{is_some, slice_get, slice_set}
use Rattle.std.specs.List.{All}
use Rattle.streams.specs.Lists.{modify}
use Rattle.spec_tcp.specs.declared.endpoint.Endpoint.{Endpoint}
use Rattle.spec_tcp.specs.Bounds.{IsForgotten, HasRoom}
use Rattle.spec_tcp.specs.Forgetting.{forget_endpoint}
use Rattle.endpoint_state.specs.Changes.{changed}
use Rattle.endpoint_state.proofs.PlaceLemmas.{modified_at, modified_past}

pub forget_same : (e : Endpoint) → IsForgotten e → forget_endpoint e ≡ e
forget_same e h = simp (h.accepted, h.received, h.made) refl

pub later : (e : Endpoint) (es : List Endpoint) → All HasRoom (e ∷ es) → All HasRoom es
later e es room = λ k d within. room (suc k) d (omega arith)

pub first : (e : Endpoint) (es : List Endpoint) → All HasRoom (e ∷ es) → HasRoom e
first e es room = room 0 e (omega arith)

pub all_same : (es : List Endpoint) → All HasRoom es → map forget_endpoint es ≡ es
all_same [] room = refl
all_same (e ∷ es) room = let here = forget_same e (first e es room).forgets in let rest = all_same es (later e es room) in cc

pub modify_forgets : (es : List Endpoint) (i : ℕ) (f : Endpoint → Endpoint) → All HasRoom es
    → map forget_endpoint (modify es i f) ≡ modify es i (λ e. forget_endpoint (f e))
modify_forgets [] i f room = refl
modify_forgets (e ∷ es) zero f room = ap (λ (xs : List Endpoint). forget_endpoint (f e) ∷ xs) (all_same es (later e es room))
modify_forgets (e ∷ es) (suc i) f room = let here = forget_same e (first e es room).forgets in let rest = modify_forgets es i f (later e es room) in cc

-- the endpoint read at a place, changed and written back
forgot_at : (es : List Endpoint) (i : ℕ) (x y : Endpoint) (f : Endpoint → Endpoint) → All HasRoom es → i < length es
    → x ≡ get_or es i x → y ≡ forget_endpoint (f x) → slice_set es i y ≡ changed es i f
forgot_at es i x y f room within read is = modified_at es i x y (λ e. forget_endpoint (f e)) within read is ∙ sym (modify_forgets es i f room)

-- the same, where these endpoints are shown as those
pub changed_at : (es now : List Endpoint) (i : ℕ) (x y : Endpoint) (f : Endpoint → Endpoint) → es ≡ now
    → All HasRoom now → i < length es → x ≡ get_or es i x → y ≡ forget_endpoint (f x)
    → slice_set es i y ≡ changed now i f
changed_at es now i x y f is room within read new =
    subst (λ (now : List Endpoint). All HasRoom now → slice_set es i y ≡ changed now i f) is
    (λ room. forgot_at es i x y f room within read new) room

-- there is none at the place
pub changed_past : (es now : List Endpoint) (i : ℕ) (f : Endpoint → Endpoint) → es ≡ now → All HasRoom now → length es ≤ i → now ≡ changed now i f
changed_past es now i f is room past =
    sym (ap (map forget_endpoint) (modified_past now i f (subst (λ (es : List Endpoint). length es ≤ i) is past))
    ∙ all_same now room)

-- the endpoint read at a place is the one that stands there
pub found_at : (es now : List Endpoint) (i : ℕ) (x : Endpoint) → es ≡ now → i < length es → x ≡ get_or es i x → slice_get now i ≡ Some x
found_at es now i x is within read = subst (λ (now : List Endpoint). slice_get now i ≡ Some x) is (slice_get_read es (length es) i x refl within read)

pub nobody_past : (es now : List Endpoint) (i : ℕ) → es ≡ now → length es ≤ i → is_some (slice_get now i) ≡ true → ⊥
nobody_past es now i is past there =
    true≢false (sym there ∙ ap (λ (o : Option Endpoint). is_some o)
    (slice_get_past now i (subst (λ (es : List Endpoint). length es ≤ i) is past)))
