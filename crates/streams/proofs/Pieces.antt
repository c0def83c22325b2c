-- What a made segment carries stands at its place in what its maker sends.
use Rattle.std.proofs.Common.{◌≡◌, ℕ, zero, suc, ◌+◌, ◌-◌, ◌<◌, ◌≤◌, Bool, true, false, List, [], ◌∷◌, ◌++◌, length, take, drop, Some, refl, sym, subst, arith}
use Rattle.std.specs.Prelude.{if◌then◌else◌, slice_get}
use Rattle.std.proofs.Math.Nat.{zero-add, suc-add}
use Rattle.std.proofs.lemmas.Option.{none-some}
use Rattle.streams.specs.declared.cell.Cell.{Cell}
use Rattle.streams.specs.declared.cell.Cell.TheVariants.{Syn}
use Rattle.streams.specs.Cells.{body}
use Rattle.streams.specs.Sent.{cells, piece}
use Rattle.streams.proofs.Fronts.{body_ends, body_grows}

-- the beginning of the bytes, and the FIN where it is all of them
body_take : (acc : List ℕ) (ended : Bool) (len : ℕ) (f : Bool) → (f ≡ true → (ended ≡ true) × (len ≡ length acc))
    → (p : ℕ) (c : Cell) → slice_get (body (take len acc) f) p ≡ Some c → slice_get (body acc ended) p ≡ Some c
body_take [] ended zero false h p c e = absurd (none-some c e)
body_take [] ended (suc len) false h p c e = absurd (none-some c e)
body_take [] ended zero true h p c e = subst (λ b. slice_get (body [] b) p ≡ Some c) (sym (h refl).0) e
body_take [] ended (suc len) true h p c e = absurd (let x = (h refl).1 in omega arith)
body_take (v ∷ acc) ended zero false h p c e = absurd (none-some c e)
body_take (v ∷ acc) ended zero true h p c e = absurd (let x = (h refl).1 in omega arith)
body_take (v ∷ acc) ended (suc len) f h zero c e = e
body_take (v ∷ acc) ended (suc len) f h (suc p) c e = body_take acc ended len f (λ x. let y = h x in (y.0, let z = y.1 in omega arith)) p c e

-- bytes from the midst, and the FIN where they are the last
body_slice : (acc : List ℕ) (ended : Bool) (q len : ℕ) (f : Bool) → q + len ≤ length acc
    → (f ≡ true → (ended ≡ true) × (q + len ≡ length acc)) → (p : ℕ) (c : Cell)
    → slice_get (body (take len (drop q acc)) f) p ≡ Some c → slice_get (body acc ended) (q + p) ≡ Some c
body_slice acc ended zero len f le h p c e = rw zero-add (body_take acc ended len f (λ x. let y = h x in (y.0, let z = y.1 in omega arith)) p c e)
body_slice [] ended (suc q) len f le h p c e = absurd (omega arith)
body_slice (v ∷ acc) ended (suc q) len f le h p c e =
    rw suc-add (body_slice acc ended q len f (omega arith)
    (λ x. let y = h x in (y.0, let z = y.1 in omega arith)) p c e)

-- a segment with these bytes and flags at its position: a SYN goes alone, bytes lie within those accepted, a FIN stands behind all of them
pub carried_in : (acc : List ℕ) (ended : Bool) (pos len : ℕ) (s f : Bool)
    → (s ≡ true → pos ≡ 0) → (s ≡ true → len ≡ 0) → (s ≡ true → f ≡ false)
    → (0 < len → pos + len ≤ 1 + length acc) → (0 < len → 0 < pos) → (f ≡ true → pos + len ≡ 1 + length acc) → (f ≡ true → ended ≡ true)
    → (p : ℕ) (c : Cell)
    → slice_get (if s then Syn ∷ body (piece acc pos len) f else body (piece acc pos len) f) p ≡ Some c
    → slice_get (cells acc ended) (pos + p) ≡ Some c
carried_in acc ended pos len true f s0 s1 s2 l0 l1 f0 f1 p c e = syn pos len f p (s0 refl) (s1 refl) (s2 refl) e
  where
    syn : (pos len : ℕ) (f : Bool) (p : ℕ) → pos ≡ 0 → len ≡ 0 → f ≡ false
        → slice_get (Syn ∷ body (take len (drop (pos - 1) acc)) f) p ≡ Some c
        → slice_get (Syn ∷ body acc ended) (pos + p) ≡ Some c
    syn pos zero false zero a b d e = rw a e
    syn pos zero false (suc p) a b d e = absurd (none-some c e)
    syn pos (suc len) f p a b d e = absurd (omega arith)
    syn pos zero true p a b d e = absurd (cc)
carried_in acc ended pos zero false false s0 s1 s2 l0 l1 f0 f1 p c e = absurd (none-some c e)
carried_in acc ended zero zero false true s0 s1 s2 l0 l1 f0 f1 p c e = absurd (let x = f0 refl in omega arith)
carried_in acc ended zero (suc len) false f s0 s1 s2 l0 l1 f0 f1 p c e = absurd (let x = l1 (omega arith) in omega arith)
carried_in acc ended (suc q) zero false true s0 s1 s2 l0 l1 f0 f1 p c e =
    let at = f0 refl in
    let less : suc q - 1 ≡ q = omega arith in
    rw suc-add (body_slice acc ended q zero true (omega arith) (λ x. (f1 refl, omega arith)) p c
    (subst (λ k. slice_get (body (take zero (drop k acc)) true) p ≡ Some c) less e))
carried_in acc ended (suc q) (suc len) false f s0 s1 s2 l0 l1 f0 f1 p c e =
    let fits = l0 (omega arith) in
    let less : suc q - 1 ≡ q = omega arith in
    rw suc-add (body_slice acc ended q (suc len) f (omega arith) (λ x. (f1 x, let y = f0 x in omega arith)) p c
    (subst (λ k. slice_get (body (take (suc len) (drop k acc)) f) p ≡ Some c) less e))

-- the same without the SYN
pub piece_in : (acc : List ℕ) (ended : Bool) (pos len : ℕ) (f : Bool)
    → (0 < len → (0 < pos) × (pos + len ≤ 1 + length acc)) → (f ≡ true → (pos + len ≡ 1 + length acc) × (ended ≡ true))
    → (p : ℕ) (c : Cell) → slice_get (body (piece acc pos len) f) p ≡ Some c → slice_get (cells acc ended) (pos + p) ≡ Some c
piece_in acc ended pos len f bytes fin p c e =
    carried_in acc ended pos len false f (λ no. absurd (cc)) (λ no. absurd (cc)) (λ no. absurd (cc))
    (λ some. (bytes some).1) (λ some. (bytes some).0) (λ yes. (fin yes).0) (λ yes. (fin yes).1) p c e

-- what is sent stays where it is when more is accepted, and when the end is given
pub cells_grow : (acc bytes : List ℕ) (p : ℕ) (c : Cell) → slice_get (cells acc false) p ≡ Some c → slice_get (cells (acc ++ bytes) false) p ≡ Some c
cells_grow acc bytes zero c e = e
cells_grow acc bytes (suc p) c e = body_grows acc bytes false p c e

pub cells_end : (acc : List ℕ) (ended : Bool) (p : ℕ) (c : Cell) → slice_get (cells acc ended) p ≡ Some c → slice_get (cells acc true) p ≡ Some c
cells_end acc ended zero c e = e
cells_end acc ended (suc p) c e = body_ends acc ended p c e
