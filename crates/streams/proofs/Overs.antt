-- Bytes that are written over others, and their marks.
use Rattle.std.proofs.Common.{◌≡◌, ℕ, zero, suc, ◌+◌, ◌≤◌, Bool, true, false, ◌||◌, List, [], ◌∷◌, ◌++◌, length, take, drop, replicate, Option, None, Some}
use Rattle.std.proofs.Common.{refl, sym, ap, ◌∙◌, arith, length-append}
use Rattle.std.specs.Prelude.{◌==◌, if◌then◌else◌}
use borrow.Rule.Slice.PartMut.{put_mid}
use Rattle.std.proofs.lemmas.List.{length-replicate, drop-drop, length-drop, length-take-le}
use Rattle.streams.specs.declared.cell.Cell.{Cell}
use Rattle.streams.specs.declared.cell.Cell.TheVariants.{Byte}
use Rattle.streams.specs.Cells.{cells_of, put, put_all}
use Rattle.std.specs.List.{list_any}
use Rattle.streams.specs.Lists.{over}
use Rattle.streams.specs.Views.{marked_bytes}

-- a piece is written where none was taken
put_all_later : (x : Option Cell) (xs : List (Option Cell)) (p : ℕ) (cs : List Cell) → put_all (x ∷ xs) (suc p) cs ≡ x ∷ put_all xs p cs
put_all_later x xs p [] = refl
put_all_later x xs p (c ∷ cs) = put_all_later x (put xs p c) (suc p) cs

none_first : (a b : Bool) → (a || b) ≡ false → (a ≡ false) × (b ≡ false)
none_first true b h = absurd (cc)
none_first false b h = (refl, h)

piece_here : (ms vs bytes : List ℕ) → length ms ≡ length vs → length bytes ≤ length ms → list_any (λ m. m == 1) (take (length bytes) ms) ≡ false
    → marked_bytes (replicate (length bytes) 1 ++ drop (length bytes) ms) (bytes ++ drop (length bytes) vs) ≡ put_all (marked_bytes ms vs) 0 (cells_of bytes)
piece_here ms vs [] h l n = refl
piece_here [] vs (b ∷ bytes) h l n = absurd (omega arith)
piece_here (m ∷ ms) [] (b ∷ bytes) h l n = absurd (omega arith)
piece_here (m ∷ ms) (v ∷ vs) (b ∷ bytes) h l n =
    let both = none_first (m == 1) (list_any (λ m. m == 1) (take (length bytes) ms)) n in
    let more = piece_here ms vs bytes (omega arith) (omega arith) both.1 in
    rw both.0 (ap (λ (ys : List (Option Cell)). Some (Byte b) ∷ ys) more ∙ sym (put_all_later (Some (Byte b)) (marked_bytes ms vs) 0 (cells_of bytes)))

pub piece_put : (at : ℕ) (ms vs bytes : List ℕ) → length ms ≡ length vs → at + length bytes ≤ length ms
    → list_any (λ m. m == 1) (take (length bytes) (drop at ms)) ≡ false
    → marked_bytes (over at ms (replicate (length bytes) 1)) (over at vs bytes) ≡ put_all (marked_bytes ms vs) at (cells_of bytes)
piece_put zero ms vs bytes h l n =
    let long = length-replicate {A = ℕ} (length bytes) 1 in
    let none : 0 + length {A = ℕ} (replicate (length bytes) 1) ≡ length bytes = omega arith in
    let same : 0 + length bytes ≡ length bytes = omega arith in
    rw (none, same) (piece_here ms vs bytes h (omega arith) n)
piece_put (suc at) [] vs bytes h l n = absurd (omega arith)
piece_put (suc at) (m ∷ ms) [] bytes h l n = absurd (omega arith)
piece_put (suc at) (m ∷ ms) (v ∷ vs) bytes h l n =
    let one : suc at + length {A = ℕ} (replicate (length bytes) 1) ≡ suc (at + length {A = ℕ} (replicate (length bytes) 1)) = omega arith in
    let same : suc at + length bytes ≡ suc (at + length bytes) = omega arith in
    rw (one, same) (ap (λ (ys : List (Option Cell)). (if m == 1 then Some (Byte v) else None) ∷ ys) (piece_put at ms vs bytes (omega arith) (omega arith) n)
    ∙ sym (put_all_later (if m == 1 then Some (Byte v) else None) (marked_bytes ms vs) at (cells_of bytes)))

-- the bytes in front of what is written, and those behind
pub drop_over : (r p : ℕ) (xs ys : List ℕ) → r ≤ length xs → drop r (over (r + p) xs ys) ≡ over p (drop r xs) ys
drop_over zero p xs ys h = let same : 0 + p ≡ p = omega arith in rw same refl
drop_over (suc r) p [] ys h = absurd (omega arith)
drop_over (suc r) p (x ∷ xs) ys h =
    let one : suc r + p ≡ suc (r + p) = omega arith in
    let two : suc (r + p) + length ys ≡ suc (r + p + length ys) = omega arith in
    rw (one, two) (drop_over r p xs ys (omega arith))

pub take_over : (r p : ℕ) (xs ys : List ℕ) → r ≤ length xs → take r (over (r + p) xs ys) ≡ take r xs
take_over zero p xs ys h = refl
take_over (suc r) p [] ys h = absurd (omega arith)
take_over (suc r) p (x ∷ xs) ys h =
    let one : suc r + p ≡ suc (r + p) = omega arith in
    let two : suc (r + p) + length ys ≡ suc (r + p + length ys) = omega arith in
    rw (one, two) (ap (λ (zs : List ℕ). x ∷ zs) (take_over r p xs ys (omega arith)))

pub length_over : (p : ℕ) (xs ys : List ℕ) → p + length ys ≤ length xs → length (over p xs ys) ≡ length xs
length_over p xs ys h =
    let front = length-take-le p xs (omega arith) in
    let back = length-drop (p + length ys) xs in
    let all = length-append (take p xs) (ys ++ drop (p + length ys) xs) in
    let more = length-append ys (drop (p + length ys) xs) in
    omega arith

-- a part that was written, as a list
pub part_over : (a k gone : ℕ) (xs ys zs : List ℕ) → gone ≤ length xs → ys ≡ zs → k ≡ length zs
    → drop gone (put_mid (gone + a) k xs ys) ≡ over a (drop gone xs) zs
part_over a k gone xs ys zs h e l =
    ap (λ (ws : List ℕ). drop gone (put_mid (gone + a) k xs ws)) e
    ∙ (ap (λ (n : ℕ). drop gone (put_mid (gone + a) n xs zs)) l
    ∙ (ap (λ (ws : List ℕ). drop gone (take (gone + a) xs ++ (zs ++ ws))) (drop-drop (length zs) (gone + a) xs) ∙ drop_over gone a xs zs h))

pub part_long : (a k : ℕ) (xs ys : List ℕ) → length ys ≡ k → a + k ≤ length xs → length (put_mid a k xs ys) ≡ length xs
part_long a k xs ys e h =
    let front = length-take-le a xs (omega arith) in
    let behind = length-drop a xs in
    let back = length-drop k (drop a xs) in
    let more = length-append ys (drop k (drop a xs)) in
    let all = length-append (take a xs) (ys ++ drop k (drop a xs)) in
    omega arith
