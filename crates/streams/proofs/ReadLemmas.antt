-- What reads are given, where what was taken is what the peer sends.
use Rattle.std.proofs.Common.{◌≡◌, ℕ, zero, suc, ◌+◌, ◌-◌, ◌≤◌, ◌<◌, Bool, true, false, List, [], ◌∷◌, ◌++◌, length}
use Rattle.std.proofs.Common.{length-append, length-drop, take, drop, Option, None, Some, refl, sym, ap, ◌∙◌, arith}
use Rattle.std.specs.Prelude.{◌==◌, ◌&&◌, slice_get}
use Rattle.std.proofs.lemmas.Bool.Decides.{nat_tests}
use Rattle.streams.specs.declared.cell.Cell.{Cell}
use Rattle.streams.specs.declared.cell.Cell.TheVariants.{Syn, Byte, Fin}
use Rattle.streams.specs.Lists.{IsPrefixOf}
use Rattle.streams.specs.Cells.{body, bytes_of, front, has_fin, is_fin, leading}
use Rattle.streams.specs.Received.{Receiving, arrived, is_ended, received, starts, told, waiting}
use Rattle.streams.specs.Sent.{cells}
use Rattle.streams.specs.InOrder.{InOrder, IsOf}
use Rattle.std.proofs.lemmas.List.{take-append-drop}
use Rattle.streams.proofs.Fronts.{bytes_of-append, bytes_of-body, fin_body, front_prefix}

nothing_front : (xs : List (Option Cell)) (rest : List Cell) → front xs ++ rest ≡ [] → front xs ≡ []
nothing_front [] rest e = refl
nothing_front (None ∷ xs) rest e = refl
nothing_front (Some x ∷ xs) rest e = absurd (cc)

-- behind the SYN, what waits are the bytes in front that were not delivered
leading_front : (xs : List (Option Cell)) (rest : List Cell) (accepted : List ℕ) (ended : Bool) (delivered : ℕ)
    → front xs ++ rest ≡ body accepted ended → delivered ≤ length (bytes_of (front xs))
    → leading (drop delivered xs) ≡ drop delivered (bytes_of (front xs))
leading_front [] rest accepted ended zero e h = refl
leading_front [] rest accepted ended (suc d) e h = absurd (omega arith)
leading_front (None ∷ xs) rest accepted ended zero e h = refl
leading_front (None ∷ xs) rest accepted ended (suc d) e h = absurd (omega arith)
leading_front (Some Syn ∷ xs) rest [] true d e h = absurd (cc)
leading_front (Some Syn ∷ xs) rest [] false d e h = absurd (cc)
leading_front (Some Syn ∷ xs) rest (b ∷ accepted) ended d e h = absurd (cc)
leading_front (Some (Byte v) ∷ xs) rest [] true d e h = absurd (cc)
leading_front (Some (Byte v) ∷ xs) rest [] false d e h = absurd (cc)
leading_front (Some (Byte v) ∷ xs) rest (b ∷ accepted) ended zero e h =
    let tail : front xs ++ rest ≡ body accepted ended = cc in
    ap (λ (bytes : List ℕ). v ∷ bytes) (leading_front xs rest accepted ended zero tail (omega arith))
leading_front (Some (Byte v) ∷ xs) rest (b ∷ accepted) ended (suc d) e h =
    let tail : front xs ++ rest ≡ body accepted ended = cc in
    leading_front xs rest accepted ended d tail (omega arith)
leading_front (Some Fin ∷ xs) rest [] true zero e h =
    let tail : front xs ++ rest ≡ [] = cc in
    sym (ap bytes_of (nothing_front xs rest tail))
leading_front (Some Fin ∷ xs) rest [] true (suc d) e h =
    let tail : front xs ++ rest ≡ [] = cc in
    let none = ap (λ (cs : List Cell). length (bytes_of cs)) (nothing_front xs rest tail) in
    absurd (omega arith)
leading_front (Some Fin ∷ xs) rest [] false d e h = absurd (cc)
leading_front (Some Fin ∷ xs) rest (b ∷ accepted) ended d e h = absurd (cc)

-- what waits is what came in order and was not delivered
waiting_behind : (taken : List (Option Cell)) (rest : List Cell) (accepted : List ℕ) (ended : Bool) (delivered : ℕ)
    → 0 < length (front taken) → front taken ++ rest ≡ cells accepted ended
    → delivered ≤ length (bytes_of (front taken))
    → leading (drop (suc delivered) taken) ≡ drop delivered (bytes_of (front taken))
waiting_behind [] rest accepted ended d some e h = absurd (omega arith)
waiting_behind (None ∷ taken) rest accepted ended d some e h = absurd (omega arith)
waiting_behind (Some Syn ∷ taken) rest accepted ended d some e h =
    let tail : front taken ++ rest ≡ body accepted ended = cc in
    leading_front taken rest accepted ended d tail h
waiting_behind (Some (Byte v) ∷ taken) rest accepted ended d some e h = absurd (cc)
waiting_behind (Some Fin ∷ taken) rest accepted ended d some e h = absurd (cc)

pub waiting_arrived : (r : Receiving) (rest : List Cell) (accepted : List ℕ) (ended : Bool) → 0 < length (front r.taken)
    → front r.taken ++ rest ≡ cells accepted ended → r.delivered ≤ length (arrived r)
    → waiting r ≡ drop r.delivered (arrived r)
waiting_arrived r rest accepted ended some e h = waiting_behind r.taken rest accepted ended r.delivered some e h

take_then : {X : Type 0} (m n : ℕ) (xs : List X) → take (m + n) xs ≡ take m xs ++ take n (drop m xs)
take_then zero n xs = let same : 0 + n ≡ n = omega arith in rw same refl
take_then (suc m) zero [] = let same : suc m + 0 ≡ suc m = omega arith in rw same refl
take_then (suc m) (suc n) [] = let same : suc m + suc n ≡ suc (m + suc n) = omega arith in rw same refl
take_then {X} (suc m) n (x ∷ xs) = let same : suc m + n ≡ suc (m + n) = omega arith in rw same (ap (λ (ys : List X). x ∷ ys) (take_then m n xs))

-- bytes that wait and are delivered are received behind those before them
pub received_told : (r : Receiving) (count : ℕ) → waiting r ≡ drop r.delivered (arrived r) → received (told r count) ≡ received r ++ take count (waiting r)
received_told r count e = take_then r.delivered count (arrived r) ∙ ap (λ (bytes : List ℕ). received r ++ take count bytes) (sym e)

-- no more is delivered than arrived
pub told_within : (r : Receiving) (count : ℕ) → waiting r ≡ drop r.delivered (arrived r)
    → r.delivered ≤ length (arrived r) → count ≤ length (waiting r) → (told r count).delivered ≤ length (arrived r)
told_within r count e h k =
    let long = length-drop r.delivered (arrived r) in
    let same = ap (λ (bytes : List ℕ). length bytes) e in
    omega arith

fin_at : (xs : List (Option Cell)) (i : ℕ) → i + 1 ≡ length (front xs) → is_fin (slice_get xs i) ≡ true → has_fin (front xs) ≡ true
fin_at [] i h f = absurd (omega arith)
fin_at (None ∷ xs) i h f = absurd (omega arith)
fin_at (Some Syn ∷ xs) zero h f = absurd (cc)
fin_at (Some Syn ∷ xs) (suc i) h f = fin_at xs i (omega arith) f
fin_at (Some (Byte v) ∷ xs) zero h f = absurd (cc)
fin_at (Some (Byte v) ∷ xs) (suc i) h f = fin_at xs i (omega arith) f
fin_at (Some Fin ∷ xs) i h f = refl

pub front_none : (xs : List (Option Cell)) → length (front xs) ≡ 0 → is_fin (slice_get xs 0) ≡ false
front_none [] h = refl
front_none (None ∷ xs) h = refl
front_none (Some x ∷ xs) h = absurd (omega arith)

ended_from : (xs : List (Option Cell)) (n : ℕ) → n ≡ length (front xs) → is_fin (slice_get xs (n - 1)) ≡ true → has_fin (front xs) ≡ true
ended_from xs zero h f = let none = front_none xs (sym h) in absurd (cc)
ended_from xs (suc n) h f =
    let same : suc n - 1 ≡ n = omega arith in
    fin_at xs n (omega arith) (sym (ap (λ k. is_fin (slice_get xs k)) same) ∙ f)

-- where the last cell in front is a FIN, one is among them
pub ended_has_fin : (r : Receiving) → is_ended r ≡ true → has_fin (front r.taken) ≡ true
ended_has_fin r f = ended_from r.taken (length (front r.taken)) refl f

-- bytes that the others begin with are a prefix of them
pub starts_prefix : (xs ys : List ℕ) → starts xs ys ≡ true → IsPrefixOf xs ys
starts_prefix [] ys e = (ys, refl)
starts_prefix (x ∷ xs) [] e = absurd (cc)
starts_prefix (x ∷ xs) (y ∷ ys) e = both (starts_prefix xs ys) (x == y) (starts xs ys) refl refl e
  where
    both : (starts xs ys ≡ true → IsPrefixOf xs ys) → (a b : Bool) → (x == y) ≡ a → starts xs ys ≡ b → (a && b) ≡ true → IsPrefixOf (x ∷ xs) (y ∷ ys)
    both more true true f g h =
        let same : x ≡ y = grind (arith, nat_tests) in
        let rest = more g in
        (rest.0, let all = rest.1 in cc)
    both more true false f g h = absurd (cc)
    both more false b f g h = absurd (cc)

pub starts_take : (xs ys : List ℕ) → starts xs ys ≡ true → take (length xs) ys ≡ xs
starts_take xs ys e = let rest = starts_prefix xs ys e in ap (take (length xs)) (sym rest.1) ∙ take_first xs rest.0
  where
    take_first : (bytes more : List ℕ) → take (length bytes) (bytes ++ more) ≡ bytes
    take_first [] more = refl
    take_first (b ∷ bytes) more = ap (λ (zs : List ℕ). b ∷ zs) (take_first bytes more)

pub starts_long : (xs ys : List ℕ) → starts xs ys ≡ true → length xs ≤ length ys
starts_long xs ys e =
    let rest = starts_prefix xs ys e in
    let both = length-append xs rest.0 in
    let whole = ap (λ (zs : List ℕ). length zs) rest.1 in
    omega arith

pub prefix_starts : (xs ys : List ℕ) → IsPrefixOf xs ys → starts xs ys ≡ true
prefix_starts [] ys p = refl
prefix_starts (x ∷ xs) [] p = absurd (let e = p.1 in cc)
prefix_starts (x ∷ xs) (y ∷ ys) p =
    let e = p.1 in
    let head : x ≡ y = cc in
    let tail : xs ++ p.0 ≡ ys = cc in
    let same : (x == y) ≡ true = grind (arith, nat_tests) in
    rw same (prefix_starts xs ys (p.0, tail))

-- a FIN in front stands behind all that the peer accepted
all_came : (front rest : List Cell) (accepted : List ℕ) (ended : Bool) → has_fin front ≡ true
    → front ++ rest ≡ cells accepted ended → (bytes_of front ≡ accepted) × (ended ≡ true)
all_came [] rest accepted ended f e = absurd (cc)
all_came (Syn ∷ front) rest accepted ended f e = fin_body front rest accepted ended f (cc)
all_came (Byte v ∷ front) rest accepted ended f e = absurd (cc)
all_came (Fin ∷ front) rest accepted ended f e = absurd (cc)

pub in_order : (r : Receiving) (accepted : List ℕ) (ended : Bool) → IsOf r accepted ended → InOrder r accepted ended
in_order r accepted ended of =
    let begin = front_prefix r.taken (cells accepted ended) of in
    record {
      arrives = (bytes_of begin.0, sym (bytes_of-append (front r.taken) begin.0) ∙ (ap bytes_of begin.1 ∙ bytes_of-body accepted ended));
      waits =
          λ some within. ap (λ (bytes : List ℕ). received r ++ bytes)
          (waiting_arrived r begin.0 accepted ended (omega arith) begin.1 within)
          ∙ take-append-drop r.delivered (arrived r);
      ends = λ told. all_came (front r.taken) begin.0 accepted ended (ended_has_fin r told) begin.1;
    }
