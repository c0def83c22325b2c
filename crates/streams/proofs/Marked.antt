-- Bytes of which some are marked as taken.
use Rattle.std.proofs.Common.{◌≡◌, ◌≢◌, ℕ, zero, suc, ◌+◌, ◌-◌, ◌<◌, ◌≤◌, Bool, true, false, ◌&&◌, ◌||◌, List, [], ◌∷◌, ◌++◌, length, take, drop}
use Rattle.std.proofs.Common.{replicate, set, get_or, Option, None, Some, refl, sym, ap, ◌∙◌, arith, length-append}
use Rattle.std.specs.Prelude.{◌==◌, if◌then◌else◌, nat_le, not, slice_get}
use Rattle.std.proofs.lemmas.Bool.Decides.{nat_tests}
use Rattle.std.proofs.lemmas.List.{append-nil}
use Rattle.streams.specs.declared.cell.Cell.{Cell}
use Rattle.streams.specs.declared.cell.Cell.TheVariants.{Byte, Fin}
use Rattle.streams.specs.Cells.{body, cells_of, is_fin, put, put_all}
use Rattle.streams.specs.Received.{body_kept, has_end}
use Rattle.streams.specs.Views.{bytes_then, fin_alone, marked_bytes, leading_received}
use Rattle.streams.proofs.Writes.{length_put, length_put_all, put_all_body_false, put_all_body_true}

pub length_marked : (ms vs : List ℕ) → length ms ≡ length vs → length (marked_bytes ms vs) ≡ length ms
length_marked [] vs h = refl
length_marked (m ∷ ms) [] h = absurd (omega arith)
length_marked (m ∷ ms) (v ∷ vs) h = let more = length_marked ms vs (omega arith) in omega arith

-- places join, of which none was taken
pub marked_grow : (k : ℕ) (ms vs : List ℕ) → length ms ≡ length vs
    → marked_bytes (ms ++ replicate k 0) (vs ++ replicate k 0) ≡ marked_bytes ms vs ++ replicate k None
marked_grow zero [] [] h = refl
marked_grow (suc k) [] [] h = ap (λ (ys : List (Option Cell)). None ∷ ys) (marked_grow k [] [] h)
marked_grow k [] (v ∷ vs) h = absurd (omega arith)
marked_grow k (m ∷ ms) [] h = absurd (omega arith)
marked_grow k (m ∷ ms) (v ∷ vs) h = ap (λ (ys : List (Option Cell)). (if m == 1 then Some (Byte v) else None) ∷ ys) (marked_grow k ms vs (omega arith))

-- a byte is written where none was taken, and one that was stays
pub put_marked : (ms vs : List ℕ) (p b d : ℕ) → length ms ≡ length vs → p < length ms → get_or ms p d ≢ 1
    → put (marked_bytes ms vs) p (Byte b) ≡ marked_bytes (set ms p 1) (set vs p b)
put_marked [] vs p b d h l n = absurd (omega arith)
put_marked (x ∷ ms) [] p b d h l n = absurd (omega arith)
put_marked (x ∷ ms) (v ∷ vs) zero b d h l n = let other : x ≢ 1 = n in let here : (x == 1) ≡ false = grind (arith, nat_tests) in rw here refl
put_marked (x ∷ ms) (v ∷ vs) (suc p) b d h l n =
    ap (λ (ys : List (Option Cell)). (if x == 1 then Some (Byte v) else None) ∷ ys) (put_marked ms vs p b d (omega arith) (omega arith) n)

pub put_taken : (ms vs : List ℕ) (p d : ℕ) (c : Cell) → length ms ≡ length vs → p < length ms → get_or ms p d ≡ 1
    → put (marked_bytes ms vs) p c ≡ marked_bytes ms vs
put_taken [] vs p d c h l e = absurd (omega arith)
put_taken (x ∷ ms) [] p d c h l e = absurd (omega arith)
put_taken (x ∷ ms) (v ∷ vs) zero d c h l e = let same : x ≡ 1 = e in let here : (x == 1) ≡ true = rw same (grind (arith, nat_tests)) in rw here refl
put_taken (x ∷ ms) (v ∷ vs) (suc p) d c h l e =
    ap (λ (ys : List (Option Cell)). (if x == 1 then Some (Byte v) else None) ∷ ys) (put_taken ms vs p d c (omega arith) (omega arith) e)

-- room for places that have none changes nothing in front of it
put_replicated : (k p : ℕ) (c : Cell) → p < k → put (replicate k None) p c ≡ put [] p c ++ replicate (k - length (put [] p c)) None
put_replicated zero p c h = absurd (omega arith)
put_replicated (suc k) zero c h = let less : suc k - 1 ≡ k = omega arith in rw less refl
put_replicated (suc k) (suc p) c h =
    let less : suc k - suc (length (put [] p c)) ≡ k - length (put [] p c) = omega arith in
    rw less (ap (λ (ys : List (Option Cell)). None ∷ ys) (put_replicated k p c (omega arith)))

put_grown : (xs : List (Option Cell)) (k p : ℕ) (c : Cell) → p < length xs + k
    → put (xs ++ replicate k None) p c ≡ put xs p c ++ replicate (length xs + k - length (put xs p c)) None
put_grown [] k p c h = let same : 0 + k ≡ k = omega arith in rw same (put_replicated k p c (omega arith))
put_grown (None ∷ xs) k zero c h = let less : suc (length xs) + k - suc (length xs) ≡ k = omega arith in rw less refl
put_grown (Some x ∷ xs) k zero c h = let less : suc (length xs) + k - suc (length xs) ≡ k = omega arith in rw less refl
put_grown (x ∷ xs) k (suc p) c h =
    let less : suc (length xs) + k - suc (length (put xs p c)) ≡ length xs + k - length (put xs p c) = omega arith in
    rw less (ap (λ (ys : List (Option Cell)). x ∷ ys) (put_grown xs k p c (omega arith)))

put_long : (xs : List (Option Cell)) (p : ℕ) (c : Cell) → (length xs ≤ length (put xs p c)) × (p < length (put xs p c))
put_long [] zero c = (omega arith, omega arith)
put_long [] (suc p) c = let more = put_long [] p c in (omega arith, let far = more.1 in omega arith)
put_long (None ∷ xs) zero c = (omega arith, omega arith)
put_long (Some x ∷ xs) zero c = (omega arith, omega arith)
put_long (x ∷ xs) (suc p) c = let more = put_long xs p c in (let all = more.0 in omega arith, let far = more.1 in omega arith)

put_all_long : (xs : List (Option Cell)) (p : ℕ) (cs : List Cell) → length xs ≤ length (put_all xs p cs)
put_all_long xs p [] = omega arith
put_all_long xs p (c ∷ cs) = let one = (put_long xs p c).0 in let more = put_all_long (put xs p c) (suc p) cs in omega arith

put_all_far : (xs : List (Option Cell)) (p : ℕ) (cs : List Cell) → 0 < length cs → p + length cs ≤ length (put_all xs p cs)
put_all_far xs p [] h = absurd (omega arith)
put_all_far xs p (c ∷ []) h = let one = (put_long xs p c).1 in omega arith
put_all_far xs p (c ∷ d ∷ cs) h = let more = put_all_far (put xs p c) (suc p) (d ∷ cs) (omega arith) in omega arith

put_all_grown : (cs : List Cell) (xs : List (Option Cell)) (k p : ℕ) → p + length cs ≤ length xs + k
    → put_all (xs ++ replicate k None) p cs ≡ put_all xs p cs ++ replicate (length xs + k - length (put_all xs p cs)) None
put_all_grown [] xs k p h = let same : length xs + k - length xs ≡ k = omega arith in rw same refl
put_all_grown (c ∷ cs) xs k p h =
    let one = put_grown xs k p c (omega arith) in
    let long = (put_long xs p c).0 in
    let most = length_put xs p c (length xs + k) (omega arith) (omega arith) in
    let more = put_all_grown cs (put xs p c) (length xs + k - length (put xs p c)) (suc p) (omega arith) in
    let same : length (put xs p c) + (length xs + k - length (put xs p c)) - length (put_all (put xs p c) (suc p) cs)
    ≡ length xs + k - length (put_all (put xs p c) (suc p) cs) = omega arith in
    ap (λ (ys : List (Option Cell)). put_all ys (suc p) cs) one
    ∙ (more ∙ ap (λ (n : ℕ). put_all (put xs p c) (suc p) cs ++ replicate n None) same)

length_cells : (bytes : List ℕ) → length (cells_of bytes) ≡ length bytes
length_cells [] = refl
length_cells (b ∷ bytes) = ap (λ n. suc n) (length_cells bytes)

pub kept_open : (xs : List (Option Cell)) (at : ℕ) (bytes : List ℕ) → 0 < length bytes
    → put_all (xs ++ replicate (at + length bytes - length xs) None) at (cells_of bytes) ≡ put_all xs at (cells_of bytes)
kept_open xs at bytes h =
    let cells = length_cells bytes in
    let all = put_all_long xs at (cells_of bytes) in
    let far = put_all_far xs at (cells_of bytes) (omega arith) in
    let none : length xs + (at + length bytes - length xs) - length (put_all xs at (cells_of bytes)) ≡ 0 = omega arith in
    put_all_grown (cells_of bytes) xs (at + length bytes - length xs) at (omega arith)
    ∙ (ap (λ (n : ℕ). put_all xs at (cells_of bytes) ++ replicate n None) none ∙ append-nil (put_all xs at (cells_of bytes)))

put_beyond : (ys : List (Option Cell)) (q : ℕ) (c : Cell) → length ys ≤ q → put ys q c ≡ (ys ++ replicate (q - length ys) None) ++ Some c ∷ []
put_beyond [] zero c h = refl
put_beyond [] (suc q) c h =
    let same : suc q - 0 ≡ suc q = omega arith in
    let more = put_beyond [] q c (omega arith) in
    let less : q - 0 ≡ q = omega arith in
    rw same (ap (λ (zs : List (Option Cell)). None ∷ zs) (rw less at more))
put_beyond (y ∷ ys) zero c h = absurd (omega arith)
put_beyond (y ∷ ys) (suc q) c h =
    let same : suc q - suc (length ys) ≡ q - length ys = omega arith in
    rw same (ap (λ (zs : List (Option Cell)). y ∷ zs) (put_beyond ys q c (omega arith)))

pub kept_closed : (xs : List (Option Cell)) (at : ℕ) (bytes : List ℕ) → length xs ≤ at + length bytes
    → put_all (xs ++ replicate (at + length bytes - length xs) None) at (cells_of bytes) ++ Some Fin ∷ [] ≡ put_all xs at (body bytes true)
kept_closed xs at bytes h =
    let cells = length_cells bytes in
    let most = length_put_all xs at (cells_of bytes) (at + length bytes) h (omega arith) in
    let same : length xs + (at + length bytes - length xs) - length (put_all xs at (cells_of bytes))
    ≡ at + length bytes - length (put_all xs at (cells_of bytes)) = omega arith in
    ap (λ (ys : List (Option Cell)). ys ++ Some Fin ∷ []) (put_all_grown (cells_of bytes) xs (at + length bytes - length xs) at (omega arith)
    ∙ ap (λ (n : ℕ). put_all xs at (cells_of bytes) ++ replicate n None) same)
    ∙ (sym (put_beyond (put_all xs at (cells_of bytes)) (at + length bytes) Fin most) ∙ sym (put_all_body_true xs at bytes))

-- what stands behind stays there
put_before : (xs t : List (Option Cell)) (p : ℕ) (c : Cell) → p < length xs → put (xs ++ t) p c ≡ put xs p c ++ t
put_before [] t p c h = absurd (omega arith)
put_before (None ∷ xs) t zero c h = refl
put_before (Some x ∷ xs) t zero c h = refl
put_before (x ∷ xs) t (suc p) c h = ap (λ (ys : List (Option Cell)). x ∷ ys) (put_before xs t p c (omega arith))

pub put_all_before : (xs t : List (Option Cell)) (p : ℕ) (cs : List Cell) → p + length cs ≤ length xs → put_all (xs ++ t) p cs ≡ put_all xs p cs ++ t
put_all_before xs t p [] h = refl
put_all_before xs t p (c ∷ cs) h =
    let long = (put_long xs p c).0 in
    ap (λ (ys : List (Option Cell)). put_all ys (suc p) cs) (put_before xs t p c (omega arith)) ∙ put_all_before (put xs p c) t (suc p) cs (omega arith)

-- whether the last is a FIN
choice_no_fin : (b : Bool) (v : ℕ) → is_fin (Some (if b then Some (Byte v) else None)) ≡ false
choice_no_fin true v = refl
choice_no_fin false v = refl

pub marked_no_fin : (ms vs : List ℕ) (i : ℕ) → is_fin (slice_get (marked_bytes ms vs) i) ≡ false
marked_no_fin [] vs i = refl
marked_no_fin (m ∷ ms) [] i = refl
marked_no_fin (m ∷ ms) (v ∷ vs) zero = choice_no_fin (m == 1) v
marked_no_fin (m ∷ ms) (v ∷ vs) (suc i) = marked_no_fin ms vs i

get_last : (xs : List (Option Cell)) (x : Option Cell) → slice_get (xs ++ x ∷ []) (length xs) ≡ Some x
get_last [] x = refl
get_last (y ∷ xs) x = get_last xs x

pub has_end_marked : (ms vs : List ℕ) (f : Bool) → has_end (marked_bytes ms vs ++ fin_alone f) ≡ f
has_end_marked ms vs false = rw (append-nil (marked_bytes ms vs)) (marked_no_fin ms vs (length (marked_bytes ms vs) - 1))
has_end_marked ms vs true =
    let long = length-append (marked_bytes ms vs) (Some Fin ∷ []) in
    let here : length (marked_bytes ms vs ++ Some Fin ∷ []) - 1 ≡ length (marked_bytes ms vs) = omega arith in
    rw here (ap is_fin (get_last (marked_bytes ms vs) (Some Fin)))

-- what is kept behind the bytes in front
pub kept_marked : (ms vs : List ℕ) (f : Bool) (at : ℕ) (bytes : List ℕ) (fin : Bool) (part : List ℕ) (end : Bool) → length ms ≡ length vs
    → part ≡ (if f then take (length ms - at) bytes else bytes) → end ≡ (fin && not f && nat_le (length ms) (at + length part))
    → body_kept (marked_bytes ms vs ++ fin_alone f) at bytes fin ≡ body part end
kept_marked ms vs false at bytes fin part end h p e =
    let long = length_marked ms vs h in
    let all : length (marked_bytes ms vs ++ []) ≡ length ms = ap (λ (ys : List (Option Cell)). length ys) (append-nil (marked_bytes ms vs)) ∙ long in
    rw (has_end_marked ms vs false, all, e, p) refl
kept_marked ms vs true at bytes true part end h p e =
    let long = length_marked ms vs h in
    let more = length-append (marked_bytes ms vs) (Some Fin ∷ []) in
    let all : length (marked_bytes ms vs ++ Some Fin ∷ []) - 1 ≡ length ms = omega arith in
    rw (has_end_marked ms vs true, all, e, p) refl
kept_marked ms vs true at bytes false part end h p e =
    let long = length_marked ms vs h in
    let more = length-append (marked_bytes ms vs) (Some Fin ∷ []) in
    let all : length (marked_bytes ms vs ++ Some Fin ∷ []) - 1 ≡ length ms = omega arith in
    rw (has_end_marked ms vs true, all, e, p) refl

-- what was written, and the FIN behind it
pub written : (xs ys : List (Option Cell)) (f : Bool) (at : ℕ) (part : List ℕ) (end : Bool)
    → (f ≡ true → (at + length part ≤ length xs) × (end ≡ false)) → (end ≡ true → length xs ≤ at + length part) → (end ≡ false → 0 < length part)
    → ys ≡ put_all (xs ++ replicate (at + length part - length xs) None) at (cells_of part)
    → ys ++ fin_alone (f || end) ≡ put_all (xs ++ fin_alone f) at (body part end)
written xs ys false at part true a b n e = rw (append-nil xs, e) (kept_closed xs at part (b refl))
written xs ys false at part false a b n e =
    rw (append-nil xs, append-nil ys, put_all_body_false xs at part) (e ∙ kept_open xs at part (n refl))
written xs ys true at part true a b n e = absurd (let no = (a refl).1 in cc)
written xs ys true at part false a b n e =
    let cells = length_cells part in
    let within = (a refl).0 in
    rw put_all_body_false (sym (put_all_before xs (Some Fin ∷ []) at (cells_of part) (omega arith)
    ∙ ap (λ (zs : List (Option Cell)). zs ++ Some Fin ∷ []) (sym (e ∙ kept_open xs at part (n refl)))))

-- bytes in front of the first gap
pub marked_front : (n : ℕ) (ms vs : List ℕ) → length ms ≡ length vs → n ≤ leading_received ms
    → marked_bytes ms vs ≡ bytes_then (take n vs) (marked_bytes (drop n ms) (drop n vs))
marked_front zero ms vs h l = refl
marked_front (suc n) [] vs h l = absurd (omega arith)
marked_front (suc n) (m ∷ ms) [] h l = absurd (omega arith)
marked_front (suc n) (m ∷ ms) (v ∷ vs) h l = by (λ k. marked_front n ms vs (omega arith) k) (m == 1) refl
  where
    by : (n ≤ leading_received ms → marked_bytes ms vs ≡ bytes_then (take n vs) (marked_bytes (drop n ms) (drop n vs))) → (b : Bool) → (m == 1) ≡ b
        → marked_bytes (m ∷ ms) (v ∷ vs) ≡ bytes_then (v ∷ take n vs) (marked_bytes (drop n ms) (drop n vs))
    by more true e = let some = rw e at l in rw e (ap (λ (ys : List (Option Cell)). Some (Byte v) ∷ ys) (more (omega arith)))
    by more false e = absurd (let none = rw e at l in omega arith)

pub then_behind : (b : List ℕ) (xs t : List (Option Cell)) → bytes_then b xs ++ t ≡ bytes_then b (xs ++ t)
then_behind [] xs t = refl
then_behind (v ∷ b) xs t = ap (λ (ys : List (Option Cell)). Some (Byte v) ∷ ys) (then_behind b xs t)
