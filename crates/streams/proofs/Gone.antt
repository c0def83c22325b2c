-- A receive buffer against what it shows: the cells that were discarded stand in front of those that it keeps.
use Rattle.std.proofs.Common.{ℕ, ◌+◌, ◌-◌, ◌<◌, ◌≤◌, List, [], ◌∷◌, ◌++◌, length, drop, replicate, Option, None, Some}
use Rattle.std.proofs.Common.{Bool, false, ◌≡◌, refl, sym, ap, ◌∙◌, arith, append_assoc, zero, suc}
use Rattle.std.proofs.lemmas.List.{replicate-append-replicate}
use Rattle.streams.specs.declared.cell.Cell.{Cell}
use Rattle.streams.specs.declared.cell.Cell.TheVariants.{Syn, Byte, Fin}
use Rattle.std.specs.List.{slice_get}
use Rattle.streams.specs.Received.{is_ended}
use Rattle.streams.specs.Cells.{body, front, is_fin, leading, put, put_all}
use Rattle.streams.specs.Forgetting.{fade}
use Rattle.streams.specs.Views.{gone_cells}
use Rattle.streams.proofs.ReadLemmas.{front_none}
use Rattle.streams.proofs.Writes.{length_body, length_put_all}

-- what was discarded stands in front
pub replicated : (n : ℕ) (xs : List (Option Cell)) → length (front (replicate n (Some (Byte 0)) ++ xs)) ≡ n + length (front xs)
replicated zero xs = omega arith
replicated (suc n) xs = let more = replicated n xs in omega arith

pub front_gone : (n : ℕ) (xs : List (Option Cell)) → length (front (gone_cells n ++ xs)) ≡ n + length (front xs)
front_gone zero xs = omega arith
front_gone (suc n) xs = let more = replicated n xs in omega arith

put_behind : (n : ℕ) (x : Option Cell) (xs : List (Option Cell)) (p : ℕ) (c : Cell) → put (replicate n x ++ xs) (n + p) c ≡ replicate n x ++ put xs p c
put_behind zero x xs p c = let same : 0 + p ≡ p = omega arith in rw same refl
put_behind (suc n) x xs p c = let same : suc n + p ≡ suc (n + p) = omega arith in rw same (ap (λ (ys : List (Option Cell)). x ∷ ys) (put_behind n x xs p c))

pub put_gone : (n : ℕ) (xs : List (Option Cell)) (p : ℕ) (c : Cell) → put (gone_cells n ++ xs) (n + p) c ≡ gone_cells n ++ put xs p c
put_gone zero xs p c = let same : 0 + p ≡ p = omega arith in rw same refl
put_gone (suc n) xs p c = let same : suc n + p ≡ suc (n + p) = omega arith in
    rw same (ap (λ (ys : List (Option Cell)). Some Syn ∷ ys) (put_behind n (Some (Byte 0)) xs p c))

pub put_all_gone : (n : ℕ) (xs : List (Option Cell)) (p : ℕ) (cs : List Cell) → put_all (gone_cells n ++ xs) (n + p) cs ≡ gone_cells n ++ put_all xs p cs
put_all_gone n xs p [] = refl
put_all_gone n xs p (c ∷ cs) =
    let same : suc (n + p) ≡ n + suc p = omega arith in
    rw (put_gone n xs p c, same) (put_all_gone n (put xs p c) (suc p) cs)

-- delivered bytes fade
fade_leading : (n : ℕ) (xs : List (Option Cell)) → n ≤ length (leading xs) → fade n xs ≡ replicate n (Some (Byte 0)) ++ drop n xs
fade_leading zero xs h = refl
fade_leading (suc n) [] h = absurd (omega arith)
fade_leading (suc n) (None ∷ xs) h = absurd (omega arith)
fade_leading (suc n) (Some Syn ∷ xs) h = absurd (omega arith)
fade_leading (suc n) (Some (Byte v) ∷ xs) h = ap (λ (ys : List (Option Cell)). Some (Byte 0) ∷ ys) (fade_leading n xs (omega arith))
fade_leading (suc n) (Some Fin ∷ xs) h = absurd (omega arith)

fade_behind : (d n : ℕ) (xs : List (Option Cell)) → fade (d + n) (replicate d (Some (Byte 0)) ++ xs) ≡ replicate d (Some (Byte 0)) ++ fade n xs
fade_behind zero n xs = let same : 0 + n ≡ n = omega arith in rw same refl
fade_behind (suc d) n xs = let same : suc d + n ≡ suc (d + n) = omega arith in
    rw same (ap (λ (ys : List (Option Cell)). Some (Byte 0) ∷ ys) (fade_behind d n xs))

pub fade_gone : (d n : ℕ) (xs : List (Option Cell)) → n ≤ length (leading xs)
    → fade (suc (d + n)) (gone_cells (suc d) ++ xs) ≡ gone_cells (suc (d + n)) ++ drop n xs
fade_gone d n xs h = ap (λ (ys : List (Option Cell)). Some Syn ∷ ys)
    (fade_behind d n xs ∙ (ap (λ (ys : List (Option Cell)). replicate d (Some (Byte 0)) ++ ys) (fade_leading n xs h)
    ∙ (sym (append_assoc (replicate d (Some (Byte 0))) (replicate n (Some (Byte 0))) (drop n xs))
    ∙ ap (λ (ys : List (Option Cell)). ys ++ drop n xs) (replicate-append-replicate d n (Some (Byte 0))))))

drop_behind : (d : ℕ) (x : Option Cell) (xs : List (Option Cell)) → drop d (replicate d x ++ xs) ≡ xs
drop_behind zero x xs = refl
drop_behind (suc d) x xs = drop_behind d x xs

pub drop_gone : (d : ℕ) (xs : List (Option Cell)) → drop (suc d) (gone_cells (suc d) ++ xs) ≡ xs
drop_gone d xs = drop_behind d (Some (Byte 0)) xs

-- what waits lies in front of what is kept
pub waiting_gone : (gone : ℕ) (xs : List (Option Cell)) → (gone ≡ 0 → length xs ≡ 0) → leading (drop (suc (gone - 1)) (gone_cells gone ++ xs)) ≡ leading xs
waiting_gone zero [] empty = refl
waiting_gone zero (x ∷ xs) empty = let no = empty refl in absurd (omega arith)
waiting_gone (suc d) xs empty =
    let same : suc d - 1 ≡ d = omega arith in
    rw same (ap leading (drop_gone d xs))

pub deliver_view : (gone n : ℕ) (xs : List (Option Cell)) → (gone ≡ 0 → length xs ≡ 0) → n ≤ length (leading xs)
    → gone_cells (gone + n) ++ drop n xs ≡ fade (suc ((gone - 1) + n)) (gone_cells gone ++ xs)
deliver_view zero zero [] empty h = refl
deliver_view zero (suc n) [] empty h = absurd (omega arith)
deliver_view zero n (x ∷ xs) empty h = let no = empty refl in absurd (omega arith)
deliver_view (suc d) n xs empty h =
    let same : suc d - 1 ≡ d = omega arith in
    let more : suc d + n ≡ suc (d + n) = omega arith in
    rw (same, more) (sym (fade_gone d n xs h))

pub deliver_count : (gone n : ℕ) (xs : List (Option Cell)) → (gone ≡ 0 → length xs ≡ 0) → n ≤ length (leading xs) → (gone + n) - 1 ≡ (gone - 1) + n
deliver_count zero n [] empty h = omega arith
deliver_count zero n (x ∷ xs) empty h = let no = empty refl in absurd (omega arith)
deliver_count (suc d) n xs empty h = omega arith

pub keep_long : (gone position bound : ℕ) (xs : List (Option Cell)) (bytes : List ℕ) (fin : Bool) → gone ≤ position
    → gone + length xs < bound → position + length bytes + 1 < bound
    → gone + length (put_all xs (position - gone) (body bytes fin)) < bound
keep_long gone position bound xs bytes fin h k l =
    let most = length_body bytes fin in
    let long = length_put_all xs (position - gone) (body bytes fin) ((bound - 1) - gone) (omega arith) (omega arith) in
    omega arith

get_behind : (n : ℕ) (xs : List (Option Cell)) (i : ℕ) → slice_get (replicate n (Some (Byte 0)) ++ xs) (n + i) ≡ slice_get xs i
get_behind zero xs i = let same : 0 + i ≡ i = omega arith in rw same refl
get_behind (suc n) xs i = let same : suc n + i ≡ suc (n + i) = omega arith in rw same (get_behind n xs i)

pub get_gone : (n : ℕ) (xs : List (Option Cell)) (i : ℕ) → slice_get (gone_cells n ++ xs) (n + i) ≡ slice_get xs i
get_gone zero xs i = let same : 0 + i ≡ i = omega arith in rw same refl
get_gone (suc n) xs i = let same : suc n + i ≡ suc (n + i) = omega arith in rw same (get_behind n xs i)

-- nothing that was discarded is a FIN
faded_fin : (n : ℕ) (xs : List (Option Cell)) (i : ℕ) → i < n → is_fin (slice_get (replicate n (Some (Byte 0)) ++ xs) i) ≡ false
faded_fin zero xs i h = absurd (omega arith)
faded_fin (suc n) xs zero h = refl
faded_fin (suc n) xs (suc i) h = faded_fin n xs i (omega arith)

pub gone_fin : (n : ℕ) (xs : List (Option Cell)) → (n ≡ 0 → length xs ≡ 0) → is_fin (slice_get (gone_cells n ++ xs) (n - 1)) ≡ false
gone_fin zero [] h = refl
gone_fin zero (x ∷ xs) h = let no = h refl in absurd (omega arith)
gone_fin (suc zero) xs h = refl
gone_fin (suc (suc n)) xs h = let same : suc (suc n) - 1 ≡ suc n = omega arith in rw same (faded_fin (suc n) xs n (omega arith))

ended_none : (gone : ℕ) (xs : List (Option Cell)) → (gone ≡ 0 → length xs ≡ 0) → length (front xs) ≡ 0
    → is_ended (record { taken = gone_cells gone ++ xs; delivered = gone - 1 }) ≡ false
ended_none gone xs empty none =
    let all = front_gone gone xs in
    let here : length (front (gone_cells gone ++ xs)) ≡ gone = omega arith in
    rw here (gone_fin gone xs empty)

pub ended_gone : (gone : ℕ) (xs : List (Option Cell)) → (gone ≡ 0 → length xs ≡ 0)
    → is_ended (record { taken = gone_cells gone ++ xs; delivered = gone - 1 })
    ≡ is_fin (slice_get xs (length (front xs) - 1))
ended_gone gone xs empty = by (length (front xs)) refl
  where
    by : (n : ℕ) → length (front xs) ≡ n
        → is_ended (record { taken = gone_cells gone ++ xs; delivered = gone - 1 })
        ≡ is_fin (slice_get xs (length (front xs) - 1))
    by zero none = let here : length (front xs) - 1 ≡ 0 = omega arith in ended_none gone xs empty none ∙ sym (rw here (front_none xs none))
    by (suc n) some =
        let all = front_gone gone xs in
        let here : length (front (gone_cells gone ++ xs)) - 1 ≡ gone + (length (front xs) - 1) = omega arith in
        rw here (ap is_fin (get_gone gone xs (length (front xs) - 1)))

-- what a buffer shows is forgotten already
pub view_faded : (gone : ℕ) (xs : List (Option Cell)) → (gone ≡ 0 → length xs ≡ 0) → fade (suc (gone - 1)) (gone_cells gone ++ xs) ≡ gone_cells gone ++ xs
view_faded gone xs empty =
    let one : gone + 0 ≡ gone = omega arith in
    let two : gone - 1 + 0 ≡ gone - 1 = omega arith in
    let all = deliver_view gone 0 xs empty (omega arith) in
    sym (rw (one, two) at all)
