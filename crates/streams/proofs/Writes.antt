-- Writing cells by position, and how far they reach without a gap.
use Rattle.std.proofs.Common.{ℕ, ◌+◌, ◌<◌, ◌≤◌, List, [], ◌∷◌, ◌++◌, length, Option, None, Some, Bool, true, false, ◌≡◌, refl, ap, arith, zero, suc}
use Rattle.streams.specs.declared.cell.Cell.{Cell}
use Rattle.streams.specs.declared.cell.Cell.TheVariants.{Syn, Byte, Fin}
use Rattle.streams.specs.Cells.{body, cells_of, front, leading, put, put_all}

-- behind the last
pub put-end : (xs : List (Option Cell)) (p : ℕ) (c : Cell) → length xs ≡ p → put xs p c ≡ xs ++ Some c ∷ []
put-end [] zero c h = refl
put-end [] (suc p) c h = absurd (omega arith)
put-end (x ∷ xs) zero c h = absurd (omega arith)
put-end (x ∷ xs) (suc p) c h = ap (λ (ys : List (Option Cell)). x ∷ ys) (put-end xs p c (omega arith))

-- the run in front
pub length_front : (xs : List (Option Cell)) → length (front xs) ≤ length xs
length_front [] = omega arith
length_front (None ∷ xs) = omega arith
length_front (Some x ∷ xs) = let more = length_front xs in omega arith

pub length_put : (xs : List (Option Cell)) (p : ℕ) (c : Cell) (n : ℕ) → length xs ≤ n → p < n → length (put xs p c) ≤ n
length_put [] zero c n h k = omega arith
length_put [] (suc p) c zero h k = absurd (omega arith)
length_put [] (suc p) c (suc n) h k = let more = length_put [] p c n (omega arith) (omega arith) in omega arith
length_put (None ∷ xs) zero c n h k = h
length_put (Some x ∷ xs) zero c n h k = h
length_put (x ∷ xs) (suc p) c zero h k = absurd (omega arith)
length_put (x ∷ xs) (suc p) c (suc n) h k = let more = length_put xs p c n (omega arith) (omega arith) in omega arith

pub length_put_all : (xs : List (Option Cell)) (p : ℕ) (cs : List Cell) (n : ℕ) → length xs ≤ n → p + length cs ≤ n → length (put_all xs p cs) ≤ n
length_put_all xs p [] n h k = h
length_put_all xs p (c ∷ cs) n h k = length_put_all (put xs p c) (suc p) cs n (length_put xs p c n h (omega arith)) (omega arith)

-- a FIN behind the bytes, or none
pub put_all_body_true : (xs : List (Option Cell)) (p : ℕ) (bytes : List ℕ)
    → put_all xs p (body bytes true) ≡ put (put_all xs p (cells_of bytes)) (p + length bytes) Fin
put_all_body_true xs p [] = let same : p + 0 ≡ p = omega arith in rw same refl
put_all_body_true xs p (b ∷ bytes) =
    let same : p + suc (length bytes) ≡ suc p + length bytes = omega arith in
    rw same (put_all_body_true (put xs p (Byte b)) (suc p) bytes)

pub put_all_body_false : (xs : List (Option Cell)) (p : ℕ) (bytes : List ℕ) → put_all xs p (body bytes false) ≡ put_all xs p (cells_of bytes)
put_all_body_false xs p [] = refl
put_all_body_false xs p (b ∷ bytes) = put_all_body_false (put xs p (Byte b)) (suc p) bytes

pub length_body : (bytes : List ℕ) (fin : Bool) → length (body bytes fin) ≤ length bytes + 1
length_body [] true = omega arith
length_body [] false = omega arith
length_body (b ∷ bytes) fin = let more = length_body bytes fin in omega arith

pub leading_front : (xs : List (Option Cell)) → length (leading xs) ≤ length (front xs)
leading_front [] = omega arith
leading_front (None ∷ xs) = omega arith
leading_front (Some Syn ∷ xs) = omega arith
leading_front (Some (Byte v) ∷ xs) = let more = leading_front xs in omega arith
leading_front (Some Fin ∷ xs) = omega arith
