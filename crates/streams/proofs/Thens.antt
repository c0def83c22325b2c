-- Bytes that were taken, and what stands behind them.
use Rattle.std.proofs.Common.{◌≡◌, ℕ, zero, suc, ◌+◌, ◌-◌, ◌<◌, Bool, true, false, List, [], ◌∷◌, ◌++◌, length, take}
use Rattle.std.proofs.Common.{drop, get_or, min, Option, Some, refl, sym, ap, ◌∙◌, arith, append_assoc}
use Rattle.std.specs.Prelude.{nat_eq, slice_get}
use Rattle.std.specs.Cmp.Lexicographic.{pointwise}
use Rattle.std.proofs.lemmas.Bool.{le-leb}
use Rattle.std.proofs.lemmas.List.{append-nil}
use Rattle.std.proofs.lemmas.Option.{slice_get_read}
use Rattle.streams.specs.declared.cell.Cell.{Cell}
use Rattle.streams.specs.declared.cell.Cell.TheVariants.{Byte, Fin}
use Rattle.streams.specs.Cells.{body, front, is_fin, leading, put, put_all}
use Rattle.streams.specs.Received.{body_kept, has_end, starts}
use Rattle.streams.specs.Views.{bytes_then, fin_alone}
use Rattle.streams.proofs.Keeping.{same_order}
use Rattle.streams.proofs.ReadLemmas.{front_none}
use Rattle.streams.proofs.Writes.{length_front, put-end}

pub length_then : (b : List ℕ) (xs : List (Option Cell)) → length (bytes_then b xs) ≡ length b + length xs
length_then [] xs = omega arith
length_then (v ∷ b) xs = let more = length_then b xs in omega arith

pub front_then : (b : List ℕ) (xs : List (Option Cell)) → length (front (bytes_then b xs)) ≡ length b + length (front xs)
front_then [] xs = omega arith
front_then (v ∷ b) xs = let more = front_then b xs in omega arith

pub leading_then : (b : List ℕ) (xs : List (Option Cell)) → leading (bytes_then b xs) ≡ b ++ leading xs
leading_then [] xs = refl
leading_then (v ∷ b) xs = ap (λ (ys : List ℕ). v ∷ ys) (leading_then b xs)

pub then_then : (b c : List ℕ) (xs : List (Option Cell)) → bytes_then (b ++ c) xs ≡ bytes_then b (bytes_then c xs)
then_then [] c xs = refl
then_then (v ∷ b) c xs = ap (λ (ys : List (Option Cell)). Some (Byte v) ∷ ys) (then_then b c xs)

-- place by place
get_then : (b : List ℕ) (xs : List (Option Cell)) (i : ℕ) → slice_get (bytes_then b xs) (length b + i) ≡ slice_get xs i
get_then [] xs i = let same : 0 + i ≡ i = omega arith in rw same refl
get_then (v ∷ b) xs i = let same : suc (length b) + i ≡ suc (length b + i) = omega arith in rw same (get_then b xs i)

byte_no_fin : (b : List ℕ) (xs : List (Option Cell)) (i : ℕ) → i < length b → is_fin (slice_get (bytes_then b xs) i) ≡ false
byte_no_fin [] xs i h = absurd (omega arith)
byte_no_fin (v ∷ b) xs zero h = refl
byte_no_fin (v ∷ b) xs (suc i) h = byte_no_fin b xs i (omega arith)

-- whether the last place in front of the first gap has a FIN
pub ended_bytes : (b : List ℕ) (xs : List (Option Cell)) → length (front xs) ≡ 0
    → is_fin (slice_get (bytes_then b xs) (length (front (bytes_then b xs)) - 1)) ≡ false
ended_bytes [] xs none = let here : length (front xs) - 1 ≡ 0 = omega arith in rw here (front_none xs none)
ended_bytes (v ∷ b) xs none = let all = front_then (v ∷ b) xs in byte_no_fin (v ∷ b) xs (length (front (bytes_then (v ∷ b) xs)) - 1) (omega arith)

pub ended_rest : (b : List ℕ) (ready : ℕ) (xs : List (Option Cell)) (x : Option Cell) → ready ≡ length (front xs) → 0 < ready → x ≡ get_or xs (ready - 1) x
    → is_fin (slice_get (bytes_then b xs) (length (front (bytes_then b xs)) - 1)) ≡ is_fin (Some x)
ended_rest b ready xs x e h r =
    let all = front_then b xs in
    let most = length_front xs in
    let here : length (front (bytes_then b xs)) - 1 ≡ length b + (ready - 1) = omega arith in
    rw (here, get_then b xs (ready - 1)) (ap is_fin (slice_get_read xs (length xs) (ready - 1) x refl (omega arith) r))

-- what is kept, behind the bytes
put_then : (b : List ℕ) (xs : List (Option Cell)) (p : ℕ) (c : Cell) → put (bytes_then b xs) (length b + p) c ≡ bytes_then b (put xs p c)
put_then [] xs p c = let same : 0 + p ≡ p = omega arith in rw same refl
put_then (v ∷ b) xs p c = let same : suc (length b) + p ≡ suc (length b + p) = omega arith in
    rw same (ap (λ (ys : List (Option Cell)). Some (Byte v) ∷ ys) (put_then b xs p c))

put_all_then : (b : List ℕ) (xs : List (Option Cell)) (p : ℕ) (cs : List Cell) → put_all (bytes_then b xs) (length b + p) cs ≡ bytes_then b (put_all xs p cs)
put_all_then b xs p [] = refl
put_all_then b xs p (c ∷ cs) = let same : suc (length b + p) ≡ length b + suc p = omega arith in
    rw (put_then b xs p c, same) (put_all_then b (put xs p c) (suc p) cs)

has_end_then : (b : List ℕ) (xs : List (Option Cell)) → has_end (bytes_then b xs) ≡ has_end xs
has_end_then [] xs = refl
has_end_then (v ∷ b) [] = let all = length_then (v ∷ b) [] in byte_no_fin (v ∷ b) [] (length (bytes_then (v ∷ b) []) - 1) (omega arith)
has_end_then (v ∷ b) (x ∷ xs) =
    let all = length_then (v ∷ b) (x ∷ xs) in
    let here : length (bytes_then (v ∷ b) (x ∷ xs)) - 1 ≡ length (v ∷ b) + length xs = omega arith in
    let last : suc (length xs) - 1 ≡ length xs = omega arith in
    rw (here, last) (ap is_fin (get_then (v ∷ b) (x ∷ xs) (length xs)))

pub body_kept_then : (b : List ℕ) (xs : List (Option Cell)) (at : ℕ) (bytes : List ℕ) (fin : Bool)
    → body_kept (bytes_then b xs) (length b + at) bytes fin ≡ body_kept xs at bytes fin
body_kept_then b xs at bytes fin =
    let long = length_then b xs in
    let before : length b + length xs - 1 - (length b + at) ≡ length xs - 1 - at = omega arith in
    let behind : length b + at + length bytes ≡ length b + (at + length bytes) = omega arith in
    rw (has_end_then b xs, long, before, behind, same_order (length b) (length xs) (at + length bytes)) refl

pub kept_then : (b : List ℕ) (xs : List (Option Cell)) (at : ℕ) (bytes : List ℕ) (fin : Bool)
    → put_all (bytes_then b xs) (length b + at) (body_kept (bytes_then b xs) (length b + at) bytes fin)
    ≡ bytes_then b (put_all xs at (body_kept xs at bytes fin))
kept_then b xs at bytes fin =
    ap (λ (cs : List Cell). put_all (bytes_then b xs) (length b + at) cs) (body_kept_then b xs at bytes fin)
    ∙ put_all_then b xs at (body_kept xs at bytes fin)

-- what is kept right behind the last cell
put_all_end : (xs : List (Option Cell)) (bytes : List ℕ) (fin : Bool) → put_all xs (length xs) (body bytes fin) ≡ xs ++ bytes_then bytes (fin_alone fin)
put_all_end xs [] true = put-end xs (length xs) Fin refl
put_all_end xs [] false = sym (append-nil xs)
put_all_end xs (v ∷ bytes) fin =
    let more : put xs (length xs) (Byte v) ≡ xs ++ Some (Byte v) ∷ [] = put-end xs (length xs) (Byte v) refl in
    let long : suc (length xs) ≡ length (xs ++ Some (Byte v) ∷ []) = longer xs in
    ap (λ (ys : List (Option Cell)). put_all ys (suc (length xs)) (body bytes fin)) more
    ∙ (ap (λ n. put_all (xs ++ Some (Byte v) ∷ []) n (body bytes fin)) long
    ∙ (put_all_end (xs ++ Some (Byte v) ∷ []) bytes fin ∙ append_assoc xs (Some (Byte v) ∷ []) (bytes_then bytes (fin_alone fin))))
  where
    longer : (ys : List (Option Cell)) → suc (length ys) ≡ length (ys ++ Some (Byte v) ∷ [])
    longer [] = refl
    longer (y ∷ ys) = ap (λ n. suc n) (longer ys)

all_kept : (bytes : List ℕ) (fin : Bool) → body_kept [] 0 bytes fin ≡ body bytes fin
all_kept bytes true = let all = le-leb 0 (0 + length bytes) (omega arith) in rw all refl
all_kept bytes false = refl

pub kept_end : (b : List ℕ) (bytes : List ℕ) (fin : Bool)
    → put_all (bytes_then b []) (length b + 0) (body_kept (bytes_then b []) (length b + 0) bytes fin)
    ≡ bytes_then (b ++ bytes) (fin_alone fin)
kept_end b bytes fin =
    kept_then b [] 0 bytes fin
    ∙ (ap (λ (cs : List Cell). bytes_then b (put_all [] 0 cs)) (all_kept bytes fin)
    ∙ (ap (bytes_then b) (put_all_end [] bytes fin) ∙ sym (then_then b bytes (fin_alone fin))))

-- what is dropped in front, of the bytes first
pub drop_then : (b : List ℕ) (xs : List (Option Cell)) (count n : ℕ) → n ≡ min count (length b)
    → drop count (bytes_then b xs) ≡ bytes_then (drop n b) (drop (count - n) xs)
drop_then [] xs count n h = let none : n ≡ 0 = omega arith in let all : count - 0 ≡ count = omega arith in rw (none, all) refl
drop_then (v ∷ b) xs zero n h = let none : n ≡ 0 = omega arith in rw none refl
drop_then (v ∷ b) xs (suc count) zero h = absurd (omega arith)
drop_then (v ∷ b) xs (suc count) (suc n) h = let less : suc count - suc n ≡ count - n = omega arith in rw less (drop_then b xs count n (omega arith))

-- whether bytes begin with others
pub begins_is : (bytes all : List ℕ) → pointwise nat_eq bytes (take (length bytes) all) ≡ starts bytes all
begins_is [] all = refl
begins_is (x ∷ bytes) [] = refl
begins_is (x ∷ bytes) (y ∷ all) = rw (begins_is bytes all) refl
