-- What was taken stands in order: the SYN first, bytes behind it, nothing behind a FIN; so it is, whoever the peer is.
use Rattle.std.proofs.Common.{◌≡◌, ℕ, zero, suc, ◌+◌, ◌-◌, ◌<◌, ◌≤◌, ◌⊎◌, Bool, true, false, List, [], ◌∷◌, length}
use Rattle.std.proofs.Common.{take, drop, max, Option, Some, None, refl, ap, sym, subst, ◌∙◌, inl, inr, arith}
use Rattle.std.specs.Prelude.{◌&&◌, if◌then◌else◌, not, nat_le, slice_get}
use Rattle.std.proofs.lemmas.Bool.{leb-true}
use Rattle.std.proofs.lemmas.List.{length-take}
use Rattle.std.proofs.lemmas.Option.{none-some, same_Some}
use Rattle.streams.specs.declared.cell.Cell.{Cell}
use Rattle.streams.specs.declared.cell.Cell.TheVariants.{Syn, Byte, Fin}
use Rattle.streams.specs.Cells.{Taken, body, bytes_of, front, is_fin, leading, put, put_all}
use Rattle.streams.specs.Received.{Receiving, arrived, body_kept, has_end, received, waiting}
use Rattle.streams.proofs.Fronts.{all_put_all}
use Rattle.streams.proofs.Places.{get_take}
use Rattle.spec_tcp_laws.proofs.Rules.{true_false}

-- behind the SYN no other stands
abbrev pub NoSyn : List (Option Cell) → Type 0
NoSyn xs = Taken (λ p c. c ≡ Syn → ⊥) xs

-- a FIN is the last
abbrev pub FinLast : List (Option Cell) → Type 0
FinLast xs = (p : ℕ) → slice_get xs p ≡ Some (Some Fin) → suc p ≡ length xs

-- the SYN was taken, and these behind it
pub record Begun (taken : List (Option Cell)) : Type 0 where
  pub rest : List (Option Cell)
  pub is : taken ≡ Some Syn ∷ rest
  pub behind : NoSyn rest
  pub last : FinLast rest

-- nothing was taken, or all in order
abbrev pub InOrder : List (Option Cell) → Type 0
InOrder taken = (taken ≡ []) ⊎ Begun taken

-- 1. what comes in order

none_behind : (xs : List (Option Cell)) → FinLast (Some Fin ∷ xs) → xs ≡ []
none_behind [] last = refl
none_behind (x ∷ xs) last = absurd (let one = last 0 refl in omega arith)

abbrev no_syn_behind : (x : Option Cell) (xs : List (Option Cell)) → NoSyn (x ∷ xs) → NoSyn xs
no_syn_behind x xs none = λ p c e. none (suc p) c e

fin_last_behind : (x : Option Cell) (xs : List (Option Cell)) → FinLast (x ∷ xs) → FinLast xs
fin_last_behind x xs last = λ p e. let h = last (suc p) e in omega arith

-- what waits are the bytes in front that were not delivered
leading_front : (xs : List (Option Cell)) (d : ℕ) → NoSyn xs → FinLast xs → d ≤ length (bytes_of (front xs))
    → leading (drop d xs) ≡ drop d (bytes_of (front xs))
leading_front [] zero none last h = refl
leading_front [] (suc d) none last h = absurd (omega arith)
leading_front (None ∷ xs) zero none last h = refl
leading_front (None ∷ xs) (suc d) none last h = absurd (omega arith)
leading_front (Some Syn ∷ xs) d none last h = absurd (none 0 Syn refl refl)
leading_front (Some (Byte v) ∷ xs) zero none last h =
    ap (λ (bytes : List ℕ). v ∷ bytes)
    (leading_front xs zero (no_syn_behind (Some (Byte v)) xs none) (fin_last_behind (Some (Byte v)) xs last)
    (omega arith))
leading_front (Some (Byte v) ∷ xs) (suc d) none last h =
    leading_front xs d (no_syn_behind (Some (Byte v)) xs none) (fin_last_behind (Some (Byte v)) xs last) (omega arith)
leading_front (Some Fin ∷ xs) zero none last h = sym (ap (λ (ys : List (Option Cell)). bytes_of (front ys)) (none_behind xs last))
leading_front (Some Fin ∷ xs) (suc d) none last h =
    absurd (let empty = ap (λ (ys : List (Option Cell)). length (bytes_of (front ys))) (none_behind xs last) in
    omega arith)

-- a byte that came in order stands at its position
byte_at : (xs : List (Option Cell)) → NoSyn xs → FinLast xs → (i value : ℕ)
    → slice_get (bytes_of (front xs)) i ≡ Some value → slice_get xs i ≡ Some (Some (Byte value))
byte_at [] none last i value e = absurd (none-some value e)
byte_at (None ∷ xs) none last i value e = absurd (none-some value e)
byte_at (Some Syn ∷ xs) none last i value e = absurd (none 0 Syn refl refl)
byte_at (Some (Byte v) ∷ xs) none last zero value e = ap (λ (b : ℕ). Some (Some (Byte b))) (same_Some v value e)
byte_at (Some (Byte v) ∷ xs) none last (suc i) value e = byte_at xs (no_syn_behind (Some (Byte v)) xs none) (fin_last_behind (Some (Byte v)) xs last) i value e
byte_at (Some Fin ∷ xs) none last i value e =
    absurd (none-some value (subst (λ (ys : List (Option Cell)). slice_get (bytes_of (front ys)) i ≡ Some value)
    (none_behind xs last) e))

-- a FIN is behind all bytes that came in order
fin_behind : (xs : List (Option Cell)) → NoSyn xs → FinLast xs → (p : ℕ) → slice_get xs p ≡ Some (Some Fin) → length (bytes_of (front xs)) ≤ p
fin_behind [] none last p e = absurd (none-some _ e)
fin_behind (None ∷ xs) none last p e = omega arith
fin_behind (Some Syn ∷ xs) none last p e = absurd (none 0 Syn refl refl)
fin_behind (Some (Byte v) ∷ xs) none last zero e = absurd cc
fin_behind (Some (Byte v) ∷ xs) none last (suc p) e = let h =
    fin_behind xs (no_syn_behind (Some (Byte v)) xs none) (fin_last_behind (Some (Byte v)) xs last) p e in omega arith
fin_behind (Some Fin ∷ xs) none last p e = let empty = ap (λ (ys : List (Option Cell)). length (bytes_of (front ys))) (none_behind xs last) in omega arith

-- and right behind them where it came in order
fin_next : (xs : List (Option Cell)) → NoSyn xs → FinLast xs → (p : ℕ) → slice_get xs p ≡ Some (Some Fin)
    → p < length (front xs) → p ≤ length (bytes_of (front xs))
fin_next [] none last p e h = absurd (omega arith)
fin_next (None ∷ xs) none last p e h = absurd (omega arith)
fin_next (Some Syn ∷ xs) none last p e h = absurd (none 0 Syn refl refl)
fin_next (Some (Byte v) ∷ xs) none last zero e h = omega arith
fin_next (Some (Byte v) ∷ xs) none last (suc p) e h = let k =
    fin_next xs (no_syn_behind (Some (Byte v)) xs none) (fin_last_behind (Some (Byte v)) xs last) p e (omega arith) in
    omega arith
fin_next (Some Fin ∷ xs) none last p e h = let one = last 0 refl in let here = last p e in omega arith

-- the SYN is in front
pub next_begun : (taken : List (Option Cell)) → Begun taken → 0 < length (front taken)
next_begun taken b = subst (λ (ys : List (Option Cell)). 0 < length (front ys)) (sym b.is) (omega arith)

-- so of all that was taken
pub waiting_is : (r : Receiving) → InOrder r.taken → r.delivered ≤ length (arrived r) → waiting r ≡ drop r.delivered (arrived r)
waiting_is r (inl none) h =
    subst (λ (ys : List (Option Cell)). leading (drop (suc r.delivered) ys) ≡ drop r.delivered (bytes_of (front ys)))
    (sym none) (go r.delivered)
  where
    go : (d : ℕ) → leading (drop (suc d) []) ≡ drop d []
    go zero = refl
    go (suc d) = refl
waiting_is r (inr b) h =
    subst (λ (ys : List (Option Cell)). r.delivered ≤ length (bytes_of (front ys))
    → leading (drop (suc r.delivered) ys) ≡ drop r.delivered (bytes_of (front ys))) (sym b.is)
    (leading_front b.rest r.delivered b.behind b.last) h

pub received_at : (r : Receiving) → InOrder r.taken → (i value : ℕ) → slice_get (received r) i ≡ Some value
    → slice_get r.taken (suc i) ≡ Some (Some (Byte value))
received_at r (inl none) i value e =
    absurd (none-some value (subst (λ (ys : List (Option Cell)). slice_get (bytes_of (front ys)) i ≡ Some value) none
    (get_take r.delivered (arrived r) i value e)))
received_at r (inr b) i value e =
    subst (λ (ys : List (Option Cell)). slice_get (bytes_of (front ys)) i ≡ Some value
    → slice_get ys (suc i) ≡ Some (Some (Byte value))) (sym b.is)
    (byte_at b.rest b.behind b.last i value) (get_take r.delivered (arrived r) i value e)

-- where something was taken, the SYN was
begun_where : (taken : List (Option Cell)) → InOrder taken → (p : ℕ) (x : Option Cell) → slice_get taken p ≡ Some x → Begun taken
begun_where taken (inl none) p x at = absurd (none-some x (subst (λ (l : List (Option Cell)). slice_get l p ≡ Some x) none at))
begun_where taken (inr b) p x at = b

-- a FIN at a position ends what comes in order at or before it
pub fin_bounds : (taken : List (Option Cell)) → InOrder taken → (p : ℕ) → slice_get taken (suc p) ≡ Some (Some Fin) → length (bytes_of (front taken)) ≤ p
fin_bounds taken order p e =
    let b = begun_where taken order (suc p) (Some Fin) e in
    subst (λ (ys : List (Option Cell)). slice_get ys (suc p) ≡ Some (Some Fin) → length (bytes_of (front ys)) ≤ p)
    (sym b.is) (fin_behind b.rest b.behind b.last p) e

fin_of : (o : Option (Option Cell)) → is_fin o ≡ true → o ≡ Some (Some Fin)
fin_of None e = absurd cc
fin_of (Some None) e = absurd cc
fin_of (Some (Some Syn)) e = absurd cc
fin_of (Some (Some (Byte v))) e = absurd cc
fin_of (Some (Some Fin)) e = refl

-- where the end was reached, a FIN stands behind the bytes that came
pub ended_at : (taken : List (Option Cell)) → InOrder taken → is_fin (slice_get taken (length (front taken) - 1)) ≡ true
    → slice_get taken (suc (length (bytes_of (front taken)))) ≡ Some (Some Fin)
ended_at taken order e =
    subst (λ (ys : List (Option Cell)). is_fin (slice_get ys (length (front ys) - 1)) ≡ true
    → slice_get ys (suc (length (bytes_of (front ys)))) ≡ Some (Some Fin)) (sym b.is)
    (go (length (front b.rest)) refl) e
  where
    b : Begun taken
    b = begun_where taken order (length (front taken) - 1) (Some Fin) (fin_of (slice_get taken (length (front taken) - 1)) e)

    go : (n : ℕ) → length (front b.rest) ≡ n
        → is_fin (slice_get (Some Syn ∷ b.rest) (suc (length (front b.rest)) - 1)) ≡ true
        → slice_get b.rest (length (bytes_of (front b.rest))) ≡ Some (Some Fin)
    go zero is e =
        absurd (let first : suc (length (front b.rest)) - 1 ≡ 0 = omega arith in
        let syn = subst (λ k. is_fin (slice_get (Some Syn ∷ b.rest) k) ≡ true) first e in cc)
    go (suc n) is e =
        let last : suc (length (front b.rest)) - 1 ≡ suc n = omega arith in
        let fin : slice_get b.rest n ≡ Some (Some Fin) = fin_of (slice_get b.rest n) (subst (λ k. is_fin (slice_get (Some Syn ∷ b.rest) k) ≡ true) last e) in
        let low = fin_behind b.rest b.behind b.last n fin in
        let high = fin_next b.rest b.behind b.last n fin (omega arith) in
        let place : n ≡ length (bytes_of (front b.rest)) = omega arith in
        subst (λ k. slice_get b.rest k ≡ Some (Some Fin)) place fin

-- 2. what is kept

-- what was taken stays
pub stays_put : (taken : List (Option Cell)) (i : ℕ) (c : Cell) → Taken (λ p d. slice_get (put taken i c) p ≡ Some (Some d)) taken
stays_put [] i c p d e = absurd (none-some _ e)
stays_put (None ∷ taken) zero c zero d e = absurd (none-some d (same_Some _ _ e))
stays_put (None ∷ taken) zero c (suc p) d e = e
stays_put (Some x ∷ taken) zero c p d e = e
stays_put (x ∷ taken) (suc i) c zero d e = e
stays_put (x ∷ taken) (suc i) c (suc p) d e = stays_put taken i c p d e

pub stays_put_all : (taken : List (Option Cell)) (i : ℕ) (cs : List Cell) → Taken (λ p d. slice_get (put_all taken i cs) p ≡ Some (Some d)) taken
stays_put_all taken i [] p d e = e
stays_put_all taken i (c ∷ cs) p d e = stays_put_all (put taken i c) (suc i) cs p d (stays_put taken i c p d e)

length_put : (taken : List (Option Cell)) (i : ℕ) (c : Cell) → length (put taken i c) ≡ max (length taken) (suc i)
length_put [] zero c = omega arith
length_put [] (suc i) c = let h = length_put [] i c in omega arith
length_put (None ∷ taken) zero c = omega arith
length_put (Some x ∷ taken) zero c = omega arith
length_put (None ∷ taken) (suc i) c = let h = length_put taken i c in omega arith
length_put (Some x ∷ taken) (suc i) c = let h = length_put taken i c in omega arith

length_put_all : (taken : List (Option Cell)) (i : ℕ) (c : Cell) (cs : List Cell) → length (put_all taken i (c ∷ cs)) ≡ max (length taken) (i + suc (length cs))
length_put_all taken i c [] = let h = length_put taken i c in omega arith
length_put_all taken i c (d ∷ cs) = let h = length_put taken i c in let more = length_put_all (put taken i c) (suc i) d cs in omega arith

put_behind : (xs : List (Option Cell)) (i : ℕ) (cs : List Cell) → put_all (Some Syn ∷ xs) (suc i) cs ≡ Some Syn ∷ put_all xs i cs
put_behind xs i [] = refl
put_behind xs i (c ∷ cs) = put_behind (put xs i c) (suc i) cs

-- bytes and a FIN behind them: no SYN, and the FIN at their end alone
pub body_no_syn : (bytes : List ℕ) (fin : Bool) (k : ℕ) (c : Cell) → slice_get (body bytes fin) k ≡ Some c → c ≡ Syn → ⊥
body_no_syn [] true zero c e is = let fin : Fin ≡ Syn = same_Some Fin c e ∙ is in cc
body_no_syn [] true (suc k) c e is = none-some c e
body_no_syn [] false k c e is = none-some c e
body_no_syn (v ∷ bytes) fin zero c e is = let byte : Byte v ≡ Syn = same_Some (Byte v) c e ∙ is in cc
body_no_syn (v ∷ bytes) fin (suc k) c e is = body_no_syn bytes fin k c e is

pub body_fin : (bytes : List ℕ) (fin : Bool) (k : ℕ) → slice_get (body bytes fin) k ≡ Some Fin → (fin ≡ true) × (k ≡ length bytes)
body_fin [] true zero e = (refl, refl)
body_fin [] true (suc k) e = absurd (none-some Fin e)
body_fin [] false k e = absurd (none-some Fin e)
body_fin (v ∷ bytes) fin zero e = absurd (let byte : Byte v ≡ Fin = same_Some (Byte v) Fin e in cc)
body_fin (v ∷ bytes) fin (suc k) e = let h = body_fin bytes fin k e in (h.0, ap (λ n. suc n) h.1)

length_body : (bytes : List ℕ) → length (body bytes false) ≡ length bytes
length_body [] = refl
length_body (v ∷ bytes) = ap (λ n. suc n) (length_body bytes)

length_body_fin : (bytes : List ℕ) → length (body bytes true) ≡ suc (length bytes)
length_body_fin [] = refl
length_body_fin (v ∷ bytes) = ap (λ n. suc n) (length_body_fin bytes)

-- below the end the length stays
length_within : (xs : List (Option Cell)) (i : ℕ) (cs : List Cell) → (0 < length cs → i + length cs ≤ length xs) → length (put_all xs i cs) ≡ length xs
length_within xs i [] h = refl
length_within xs i (c ∷ cs) h = let k = length_put_all xs i c cs in let w = h (omega arith) in omega arith

-- at it, and beyond, it is that of what comes
length_beyond : (xs : List (Option Cell)) (i : ℕ) (cs : List Cell) → 0 < length cs → length xs ≤ i + length cs → length (put_all xs i cs) ≡ i + length cs
length_beyond xs i [] some h = absurd (omega arith)
length_beyond xs i (c ∷ cs) some h = let k = length_put_all xs i c cs in omega arith

-- no FIN was taken where the last isn't one
no_fin : (xs : List (Option Cell)) → FinLast xs → is_fin (slice_get (Some Syn ∷ xs) (suc (length xs) - 1)) ≡ false
    → (p : ℕ) → slice_get xs p ≡ Some (Some Fin) → ⊥
no_fin xs last other p e =
    let end = last p e in
    let place : suc (length xs) - 1 ≡ suc p = omega arith in
    let fin : is_fin (slice_get (Some Syn ∷ xs) (suc p)) ≡ false = subst (λ k. is_fin (slice_get (Some Syn ∷ xs) k) ≡ false) place other in
    let yes : is_fin (slice_get (Some Syn ∷ xs) (suc p)) ≡ true = ap is_fin e in
    true_false yes fin

-- a FIN stays the last: nothing is taken behind it, and none is taken below what was
fin_kept : (xs : List (Option Cell)) (i : ℕ) (bytes : List ℕ) (fin end behind : Bool) → FinLast xs
    → has_end (Some Syn ∷ xs) ≡ end → nat_le (suc (length xs)) (suc i + length bytes) ≡ behind
    → FinLast (put_all xs i (body (if end then take (suc (length xs) - 1 - suc i) bytes else bytes) (fin && not end && behind)))
fin_kept xs i bytes fin true behind last is le = by fin
  where
    part : List ℕ
    part = take (suc (length xs) - 1 - suc i) bytes

    here : FinLast (put_all xs i (body part false))
    here p e =
        let long = length_within xs i (body part false) (λ some. omega (arith, length-take (suc (length xs) - 1 - suc i) bytes, length_body part)) in
        let old = all_put_all (λ q c. c ≡ Fin → slice_get xs q ≡ Some (Some Fin)) xs i (body part false) (λ q c f g. f ∙ ap (λ (x : Cell). Some (Some x)) g)
        (λ k c f g. absurd (let none = body_fin part false k (f ∙ ap (λ (x : Cell). Some x) g) in let it = none.0 in cc)) p Fin e refl in
        last p old ∙ sym long

    by : (f : Bool) → FinLast (put_all xs i (body part (f && false && behind)))
    by true = here
    by false = here
fin_kept xs i bytes fin false behind last is le = by fin behind le
  where
    plain : FinLast (put_all xs i (body bytes false))
    plain p e = absurd (all_put_all (λ q c. c ≡ Fin → ⊥) xs i (body bytes false) (λ q c f g. no_fin xs last is q (f ∙ ap (λ (x : Cell). Some (Some x)) g))
        (λ k c f g. let none = body_fin bytes false k (f ∙ ap (λ (x : Cell). Some x) g) in let it = none.0 in cc) p Fin e refl)

    by : (f b : Bool) → nat_le (suc (length xs)) (suc i + length bytes) ≡ b → FinLast (put_all xs i (body bytes (f && true && b)))
    by false b le = plain
    by true false le = plain
    by true true le = λ p e.
        let reach = leb-true (suc (length xs)) (suc i + length bytes) le in
        let long = length_beyond xs i (body bytes true) (omega (arith, length_body_fin bytes)) (omega (arith, length_body_fin bytes)) in
        let at : p ≡ i + length bytes =
        all_put_all (λ q c. c ≡ Fin → q ≡ i + length bytes) xs i (body bytes true)
        (λ q c f g. absurd (no_fin xs last is q (f ∙ ap (λ (x : Cell). Some (Some x)) g)))
        (λ k c f g. let place = (body_fin bytes true k (f ∙ ap (λ (x : Cell). Some x) g)).1 in ap (λ n. i + n) place) p Fin e refl in
        omega (arith, length_body_fin bytes, long)

-- what is kept behind the SYN leaves all in order
pub begun_kept : (taken : List (Option Cell)) (position : ℕ) (bytes : List ℕ) (fin : Bool) → Begun taken → 0 < position
    → Begun (put_all taken position (body_kept taken position bytes fin))
begun_kept taken zero bytes fin b some = absurd (omega arith)
begun_kept taken (suc i) bytes fin b some = subst (λ (ys : List (Option Cell)). Begun (put_all ys (suc i) (body_kept ys (suc i) bytes fin))) (sym b.is) record {
  rest = put_all b.rest i (body_kept (Some Syn ∷ b.rest) (suc i) bytes fin);
  is = put_behind b.rest i (body_kept (Some Syn ∷ b.rest) (suc i) bytes fin);
  behind = all_put_all (λ p c. c ≡ Syn → ⊥) b.rest i (body_kept (Some Syn ∷ b.rest) (suc i) bytes fin) b.behind (λ k c e. body_no_syn _ _ k c e);
  last = fin_kept b.rest i bytes fin (has_end (Some Syn ∷ b.rest)) (nat_le (suc (length b.rest)) (suc i + length bytes)) b.last refl refl;
}

-- the SYN alone
pub begun_met : Begun (Some Syn ∷ [])
begun_met = record { rest = []; is = refl; behind = λ p c e. absurd (none-some _ e); last = λ p e. absurd (none-some _ e) }
