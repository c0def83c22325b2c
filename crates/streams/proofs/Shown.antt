-- The list that a queue shows: bytes in front, bytes behind them of which some are marked, and a FIN.
use Rattle.std.proofs.Common.{◌≡◌, ℕ, zero, suc, ◌+◌, ◌-◌, ◌<◌, ◌≤◌, Bool, true, false, ◌&&◌, ◌||◌, List, [], ◌∷◌, ◌++◌, length, take, drop, replicate}
use Rattle.std.proofs.Common.{min, Option, None, Some, refl, sym, ap, ◌∙◌, arith, length-append}
use Rattle.std.specs.Prelude.{◌==◌, if◌then◌else◌, nat_le, nat_lt, not, slice_get}
use Rattle.std.proofs.lemmas.Bool.Decides.{nat_tests}
use Rattle.std.proofs.lemmas.List.{append-nil, drop-drop, drop-take, length-drop, length-take, length-take-le, take_all}
use Rattle.std.proofs.Math.Seq.{take-add}
use Rattle.streams.specs.declared.cell.Cell.{Cell}
use Rattle.streams.specs.declared.cell.Cell.TheVariants.{Fin}
use Rattle.streams.specs.Cells.{body, cells_of, front, is_fin, leading, put_all}
use Rattle.streams.specs.Received.{body_kept}
use Rattle.streams.specs.Views.{bytes_then, ends, fin_alone, marked_bytes, leading_received}
use Rattle.streams.proofs.Marked.{length_marked, kept_marked, written, marked_front, then_behind}
use Rattle.streams.proofs.Thens.{body_kept_then, drop_then, ended_bytes, ended_rest, front_then, kept_end, kept_then, leading_then, then_then}

-- a queue's list: bytes in front, bytes behind them of which some are marked, and a FIN
abbrev pub shown : (r : ℕ) (vs ms : List ℕ) (f : Bool) → List (Option Cell)
shown r vs ms f = bytes_then (take r vs) (marked_bytes ms (drop r vs) ++ fin_alone f)

pub behind_long : (r : ℕ) (vs ms : List ℕ) → length vs ≡ r + length ms → length ms ≡ length (drop r vs)
behind_long r vs ms h = let less = length-drop r vs in omega arith

pub in_front_long : (r : ℕ) (vs ms : List ℕ) → length vs ≡ r + length ms → length (take r vs) ≡ r
in_front_long r vs ms h = length-take-le r vs (omega arith)

leading_marked : (ms vs : List ℕ) (f : Bool) → leading_received ms ≡ 0 → leading (marked_bytes ms vs ++ fin_alone f) ≡ []
leading_marked [] vs true h = refl
leading_marked [] vs false h = refl
leading_marked (m ∷ ms) [] true h = refl
leading_marked (m ∷ ms) [] false h = refl
leading_marked (m ∷ ms) (v ∷ vs) f h = by (m == 1) refl
  where
    by : (b : Bool) → (m == 1) ≡ b → leading (marked_bytes (m ∷ ms) (v ∷ vs) ++ fin_alone f) ≡ []
    by true e = absurd (let some = rw e at h in omega arith)
    by false e = rw e refl

pub leading_shown : (r : ℕ) (vs ms : List ℕ) (f : Bool) → leading_received ms ≡ 0 → leading (shown r vs ms f) ≡ take r vs
leading_shown r vs ms f h =
    leading_then (take r vs) (marked_bytes ms (drop r vs) ++ fin_alone f)
    ∙ (ap (λ (ys : List ℕ). take r vs ++ ys) (leading_marked ms (drop r vs) f h) ∙ append-nil (take r vs))

pub leading_count : (r : ℕ) (vs ms : List ℕ) (f : Bool) (xs : List (Option Cell)) → length vs ≡ r + length ms → leading_received ms ≡ 0 → shown r vs ms f ≡ xs
    → length (leading xs) ≡ r
leading_count r vs ms f xs h z e =
    ap (λ (ys : List (Option Cell)). length (leading ys)) (sym e)
    ∙ (ap (λ (ys : List ℕ). length ys) (leading_shown r vs ms f z) ∙ in_front_long r vs ms h)

-- a gap is in front
front_gap : (ms vs : List ℕ) (f : Bool) → length ms ≡ length vs → leading_received ms ≡ 0 → 0 < length ms
    → length (front (marked_bytes ms vs ++ fin_alone f)) ≡ 0
front_gap [] vs f h z l = absurd (omega arith)
front_gap (m ∷ ms) [] f h z l = absurd (omega arith)
front_gap (m ∷ ms) (v ∷ vs) f h z l = by (m == 1) refl
  where
    by : (b : Bool) → (m == 1) ≡ b → length (front (marked_bytes (m ∷ ms) (v ∷ vs) ++ fin_alone f)) ≡ 0
    by true e = absurd (let some = rw e at z in omega arith)
    by false e = rw e refl

front_open : (ms vs : List ℕ) → length ms ≡ length vs → leading_received ms ≡ 0 → length (front (marked_bytes ms vs ++ fin_alone false)) ≡ 0
front_open [] vs h z = refl
front_open (m ∷ ms) vs h z = front_gap (m ∷ ms) vs false h z (omega arith)

pub front_shown : (r : ℕ) (vs ms : List ℕ) (f : Bool) → length vs ≡ r + length ms → leading_received ms ≡ 0 → (f ≡ true → 0 < length ms)
    → length (front (shown r vs ms f)) ≡ r
front_shown r vs ms true h z l =
    let all = front_then (take r vs) (marked_bytes ms (drop r vs) ++ fin_alone true) in
    let none = front_gap ms (drop r vs) true (behind_long r vs ms h) z (l refl) in
    let long = in_front_long r vs ms h in
    omega arith
front_shown r vs ms false h z l =
    let all = front_then (take r vs) (marked_bytes ms (drop r vs) ++ fin_alone false) in
    let none = front_open ms (drop r vs) (behind_long r vs ms h) z in
    let long = in_front_long r vs ms h in
    omega arith

pub front_ended : (r : ℕ) (vs ms : List ℕ) (f : Bool) → length vs ≡ r + length ms → f ≡ true → length ms ≡ 0 → length (front (shown r vs ms f)) ≡ r + 1
front_ended r vs [] true h e z =
    let all = front_then (take r vs) (Some Fin ∷ []) in
    let long = in_front_long r vs [] h in
    omega arith
front_ended r vs (m ∷ ms) true h e z = absurd (omega arith)
front_ended r vs ms false h e z = absurd (cc)

pub ended_shown : (r : ℕ) (vs ms : List ℕ) (f : Bool) → length vs ≡ r + length ms → leading_received ms ≡ 0 → (f ≡ true → 0 < length ms)
    → is_fin (slice_get (shown r vs ms f) (length (front (shown r vs ms f)) - 1)) ≡ false
ended_shown r vs ms true h z l =
    ended_bytes (take r vs) (marked_bytes ms (drop r vs) ++ fin_alone true) (front_gap ms (drop r vs) true (behind_long r vs ms h) z (l refl))
ended_shown r vs ms false h z l = ended_bytes (take r vs) (marked_bytes ms (drop r vs) ++ fin_alone false) (front_open ms (drop r vs) (behind_long r vs ms h) z)

pub ended_fin : (r : ℕ) (vs ms : List ℕ) (f : Bool) → f ≡ true → length ms ≡ 0
    → is_fin (slice_get (shown r vs ms f) (length (front (shown r vs ms f)) - 1)) ≡ true
ended_fin r vs [] true e z = ended_rest (take r vs) 1 (Some Fin ∷ []) (Some Fin) refl (omega arith) refl
ended_fin r vs (m ∷ ms) true e z = absurd (omega arith)
ended_fin r vs ms false e z = absurd (cc)

pub front_is : (r : ℕ) (vs ms : List ℕ) (f : Bool) → length vs ≡ r + length ms → leading_received ms ≡ 0 → length (front (shown r vs ms f)) ≡ r + ends f ms
front_is r vs [] true h z = front_ended r vs [] true h refl refl
front_is r vs [] false h z = let all = front_shown r vs [] false h z (λ t. absurd (cc)) in omega arith
front_is r vs (m ∷ ms) true h z = let all = front_shown r vs (m ∷ ms) true h z (λ t. omega arith) in omega arith
front_is r vs (m ∷ ms) false h z = let all = front_shown r vs (m ∷ ms) false h z (λ t. absurd (cc)) in omega arith

pub fin_is : (r : ℕ) (vs ms : List ℕ) (f : Bool) (n : ℕ) → length vs ≡ r + length ms → leading_received ms ≡ 0 → n ≡ r + ends f ms
    → nat_lt r n ≡ is_fin (slice_get (shown r vs ms f) (length (front (shown r vs ms f)) - 1))
fin_is r vs [] true n h z e = let yes : nat_lt r n ≡ true = grind (arith, nat_tests) in yes ∙ sym (ended_fin r vs [] true refl refl)
fin_is r vs [] false n h z e = let no : nat_lt r n ≡ false = grind (arith, nat_tests) in no ∙ sym (ended_shown r vs [] false h z (λ t. absurd (cc)))
fin_is r vs (m ∷ ms) true n h z e = let no : nat_lt r n ≡ false = grind (arith, nat_tests) in no ∙ sym (ended_shown r vs (m ∷ ms) true h z (λ t. omega arith))
fin_is r vs (m ∷ ms) false n h z e = let no : nat_lt r n ≡ false = grind (arith, nat_tests) in no ∙ sym (ended_shown r vs (m ∷ ms) false h z (λ t. absurd (cc)))

pub drop_shown : (r n : ℕ) (vs ms : List ℕ) (f : Bool) → length vs ≡ r + length ms → n ≤ r → drop n (shown r vs ms f) ≡ shown (r - n) (drop n vs) ms f
drop_shown r n vs ms f h l =
    let long = in_front_long r vs ms h in
    let none : n - n ≡ 0 = omega arith in
    let all : n + (r - n) ≡ r = omega arith in
    let front : drop n (take r vs) ≡ take (r - n) (drop n vs) = ap (λ (k : ℕ). drop n (take k vs)) (sym all) ∙ drop-take n (r - n) vs in
    let back : drop (r - n) (drop n vs) ≡ drop r vs = drop-drop (r - n) n vs ∙ ap (λ (k : ℕ). drop k vs) all in
    drop_then (take r vs) (marked_bytes ms (drop r vs) ++ fin_alone f) n n (omega arith)
    ∙ rw (none, front, back) refl

pub take_twice : (n m : ℕ) (xs : List ℕ) → take (min n m) xs ≡ take n (take m xs)
take_twice zero m xs = let none : min 0 m ≡ 0 = omega arith in rw none refl
take_twice (suc n) zero xs = let none : min (suc n) 0 ≡ 0 = omega arith in rw none refl
take_twice (suc n) (suc m) [] = let some : min (suc n) (suc m) ≡ suc (min n m) = omega arith in rw some refl
take_twice (suc n) (suc m) (x ∷ xs) = let some : min (suc n) (suc m) ≡ suc (min n m) = omega arith in rw some (ap (λ (ys : List ℕ). x ∷ ys) (take_twice n m xs))

-- the places in front that were taken join the bytes
pub shown_shift : (r n : ℕ) (vs ms : List ℕ) (f : Bool) → length vs ≡ r + length ms → n ≤ leading_received ms → shown (r + n) vs (drop n ms) f ≡ shown r vs ms f
shown_shift r n vs ms f h l =
    let back : drop (r + n) vs ≡ drop n (drop r vs) = sym (drop-drop n r vs) in
    let front : marked_bytes ms (drop r vs) ≡ bytes_then (take n (drop r vs)) (marked_bytes (drop n ms) (drop n (drop r vs))) =
    marked_front n ms (drop r vs) (behind_long r vs ms h) l in
    ap (λ (ys : List ℕ). bytes_then (take (r + n) vs) (marked_bytes (drop n ms) ys ++ fin_alone f)) back
    ∙ (ap (λ (ys : List ℕ). bytes_then ys (marked_bytes (drop n ms) (drop n (drop r vs)) ++ fin_alone f)) (take-add r n vs)
    ∙ (then_then (take r vs) (take n (drop r vs)) (marked_bytes (drop n ms) (drop n (drop r vs)) ++ fin_alone f)
    ∙ (ap (bytes_then (take r vs)) (sym (then_behind (take n (drop r vs)) (marked_bytes (drop n ms) (drop n (drop r vs))) (fin_alone f)))
    ∙ ap (λ (ys : List (Option Cell)). bytes_then (take r vs) (ys ++ fin_alone f)) (sym front))))

pub leading_within : (ms : List ℕ) → leading_received ms ≤ length ms
leading_within [] = omega arith
leading_within (m ∷ ms) = by (leading_within ms) (m == 1) refl
  where
    by : leading_received ms ≤ length ms → (b : Bool) → (m == 1) ≡ b → leading_received (m ∷ ms) ≤ length (m ∷ ms)
    by more true e = rw e (omega arith)
    by more false e = rw e (omega arith)

pub leading_gone : (ms : List ℕ) → leading_received (drop (leading_received ms) ms) ≡ 0
leading_gone [] = refl
leading_gone (m ∷ ms) = by (leading_gone ms) (m == 1) refl
  where
    by : leading_received (drop (leading_received ms) ms) ≡ 0 → (b : Bool) → (m == 1) ≡ b → leading_received (drop (leading_received (m ∷ ms)) (m ∷ ms)) ≡ 0
    by more true e = let some : leading_received (m ∷ ms) ≡ suc (leading_received ms) = rw e refl in rw some more
    by more false e = let none : leading_received (m ∷ ms) ≡ 0 = rw e refl in ap (λ n. leading_received (drop n (m ∷ ms))) none ∙ none

pub ready_within : (r : ℕ) (vs ms : List ℕ) (f : Bool) (xs : List (Option Cell)) (at : ℕ) → length vs ≡ r + length ms → shown r vs ms f ≡ xs
    → length (front xs) ≤ at → r ≤ at
ready_within r vs ms f xs at h e l =
    let all = front_then (take r vs) (marked_bytes ms (drop r vs) ++ fin_alone f) in
    let same = ap (λ (ys : List (Option Cell)). length (front ys)) e in
    let long = in_front_long r vs ms h in
    omega arith

-- what comes in order while there is no gap
pub kept_in_order : (r : ℕ) (vs ms : List ℕ) (f : Bool) (xs : List (Option Cell)) (at : ℕ) (bytes : List ℕ) (fin : Bool)
    → length vs ≡ r + length ms → length ms ≡ 0 → shown r vs ms f ≡ xs → length (front xs) ≤ at → at - r ≡ 0
    → shown (r + length bytes) (vs ++ bytes) ms fin ≡ put_all xs at (body_kept xs at bytes fin)
kept_in_order r vs (m ∷ ms) f xs at bytes fin h z e l o = absurd (omega arith)
kept_in_order r vs [] true xs at bytes fin h z e l o =
    let far = front_ended r vs [] true h refl refl in
    let same = ap (λ (ys : List (Option Cell)). length (front ys)) e in
    absurd (omega arith)
kept_in_order r vs [] false xs at bytes fin h z e l o =
    let least = ready_within r vs [] false xs at h e l in
    let there : length vs + 0 ≡ at = omega arith in
    let both = length-append vs bytes in
    let all : take (r + length bytes) (vs ++ bytes) ≡ vs ++ bytes = take_all (r + length bytes) (vs ++ bytes) (omega arith) in
    let these : take r vs ≡ vs = take_all r vs (omega arith) in
    let list : bytes_then vs [] ≡ xs = ap (λ (ys : List ℕ). bytes_then ys []) (sym these) ∙ e in
    ap (λ (ys : List ℕ). bytes_then ys (fin_alone fin)) all
    ∙ (sym (kept_end vs bytes fin)
    ∙ (ap (λ (n : ℕ). put_all (bytes_then vs []) n (body_kept (bytes_then vs []) n bytes fin)) there
    ∙ ap (λ (ys : List (Option Cell)). put_all ys at (body_kept ys at bytes fin)) list))

no_end : (fin b : Bool) → (fin && not true && b) ≡ false
no_end true b = refl
no_end false b = refl

end_far : (fin : Bool) (a b : ℕ) → (fin && not false && nat_le a b) ≡ true → a ≤ b
end_far true a b e = grind (arith, nat_tests)
end_far false a b e = absurd (cc)

-- what is kept behind the bytes in front, as the place of a queue's list
kept_behind : (r : ℕ) (vs ms : List ℕ) (f : Bool) (xs : List (Option Cell)) (at : ℕ) (bytes : List ℕ) (fin : Bool) (part : List ℕ) (end : Bool)
    → length vs ≡ r + length ms → shown r vs ms f ≡ xs → r ≤ at
    → part ≡ (if f then take (length ms - (at - r)) bytes else bytes) → end ≡ (fin && not f && nat_le (length ms) (at - r + length part))
    → bytes_then (take r vs) (put_all (marked_bytes ms (drop r vs) ++ fin_alone f) (at - r) (body part end)) ≡ put_all xs at (body_kept xs at bytes fin)
kept_behind r vs ms f xs at bytes fin part end h e l p q =
    let rest = marked_bytes ms (drop r vs) ++ fin_alone f in
    let long = in_front_long r vs ms h in
    let there : length (take r vs) + (at - r) ≡ at = omega arith in
    ap (λ (cs : List Cell). bytes_then (take r vs) (put_all rest (at - r) cs))
    (sym (kept_marked ms (drop r vs) f (at - r) bytes fin part end (behind_long r vs ms h) p q))
    ∙ (sym (kept_then (take r vs) rest (at - r) bytes fin)
    ∙ (ap (λ (n : ℕ). put_all (bytes_then (take r vs) rest) n (body_kept (bytes_then (take r vs) rest) n bytes fin)) there
    ∙ ap (λ (ys : List (Option Cell)). put_all ys at (body_kept ys at bytes fin)) e))

-- the same without its place
pub kept_part : (r : ℕ) (vs ms : List ℕ) (f : Bool) (xs : List (Option Cell)) (at : ℕ) (bytes : List ℕ) (fin : Bool) (part : List ℕ) (end : Bool)
    → length vs ≡ r + length ms → shown r vs ms f ≡ xs → r ≤ at
    → part ≡ (if f then take (length ms - (at - r)) bytes else bytes) → end ≡ (fin && not f && nat_le (length ms) (at - r + length part))
    → body_kept xs at bytes fin ≡ body part end
kept_part r vs ms f xs at bytes fin part end h e l p q =
    let rest = marked_bytes ms (drop r vs) ++ fin_alone f in
    let long = in_front_long r vs ms h in
    let there : length (take r vs) + (at - r) ≡ at = omega arith in
    sym (ap (λ (ys : List (Option Cell)). body_kept ys at bytes fin) e)
    ∙ (sym (ap (λ (n : ℕ). body_kept (bytes_then (take r vs) rest) n bytes fin) there)
    ∙ (body_kept_then (take r vs) rest (at - r) bytes fin
    ∙ kept_marked ms (drop r vs) f (at - r) bytes fin part end (behind_long r vs ms h) p q))

pub counted_bytes : (part : List ℕ) → length (body part false) ≡ length part
counted_bytes [] = refl
counted_bytes (v ∷ part) = ap (λ n. suc n) (counted_bytes part)

pub counted_ended : (part : List ℕ) → length (body part true) ≡ length part + 1
counted_ended [] = refl
counted_ended (v ∷ part) = let more = counted_ended part in omega arith

pub kept_nothing : (r : ℕ) (vs ms : List ℕ) (f : Bool) (xs : List (Option Cell)) (at : ℕ) (bytes : List ℕ) (fin : Bool) (part : List ℕ) (end : Bool)
    → length vs ≡ r + length ms → shown r vs ms f ≡ xs → r ≤ at
    → part ≡ (if f then take (length ms - (at - r)) bytes else bytes) → end ≡ (fin && not f && nat_le (length ms) (at - r + length part))
    → length part ≡ 0 → end ≡ false → xs ≡ put_all xs at (body_kept xs at bytes fin)
kept_nothing r vs ms f xs at bytes fin [] false h e l p q z n = sym e ∙ kept_behind r vs ms f xs at bytes fin [] false h e l p q
kept_nothing r vs ms f xs at bytes fin (x ∷ part) end h e l p q z n = absurd (omega arith)
kept_nothing r vs ms f xs at bytes fin [] true h e l p q z n = absurd (cc)

pub kept_written : (r : ℕ) (vs ms : List ℕ) (f : Bool) (xs : List (Option Cell)) (at : ℕ) (bytes : List ℕ) (fin : Bool) (part : List ℕ) (end : Bool)
    (ws ns : List ℕ)
    → length vs ≡ r + length ms → shown r vs ms f ≡ xs → r ≤ at
    → part ≡ (if f then take (length ms - (at - r)) bytes else bytes) → end ≡ (fin && not f && nat_le (length ms) (at - r + length part))
    → (end ≡ false → 0 < length part) → length ws ≡ r + length ns → take r ws ≡ take r vs
    → marked_bytes ns (drop r ws) ≡ put_all (marked_bytes ms (drop r vs) ++ replicate (at - r + length part - length ms) None) (at - r) (cells_of part)
    → shown (r + leading_received ns) ws (drop (leading_received ns) ns) (f || end) ≡ put_all xs at (body_kept xs at bytes fin)
kept_written r vs ms f xs at bytes fin part end ws ns h e l p q some same ready cells =
    let long = length_marked ms (drop r vs) (behind_long r vs ms h) in
    let told : marked_bytes ns (drop r ws)
    ≡ put_all (marked_bytes ms (drop r vs) ++ replicate (at - r + length part - length (marked_bytes ms (drop r vs))) None) (at - r) (cells_of part) =
    rw long cells in
    shown_shift r (leading_received ns) ws ns (f || end) same (omega arith)
    ∙ (ap (λ (ys : List ℕ). bytes_then ys (marked_bytes ns (drop r ws) ++ fin_alone (f || end))) ready
    ∙ (ap (bytes_then (take r vs))
    (written (marked_bytes ms (drop r vs)) (marked_bytes ns (drop r ws)) f (at - r) part end (λ t. closed f refl t) (λ t. far f refl t) some told)
    ∙ kept_behind r vs ms f xs at bytes fin part end h e l p q))
  where
    closed : (g : Bool) → f ≡ g → f ≡ true → (at - r + length part ≤ length (marked_bytes ms (drop r vs))) × (end ≡ false)
    closed true g t =
        let none : end ≡ false = q ∙ (ap (λ (y : Bool). fin && not y && nat_le (length ms) (at - r + length part)) t ∙ no_end fin _) in
        let cut : part ≡ take (length ms - (at - r)) bytes = p ∙ ap (λ (y : Bool). if y then take (length ms - (at - r)) bytes else bytes) t in
        let most = ap (λ (ys : List ℕ). length ys) cut ∙ length-take (length ms - (at - r)) bytes in
        let more = some none in
        let long = length_marked ms (drop r vs) (behind_long r vs ms h) in
        (omega arith, none)
    closed false g t = absurd (cc)

    far : (g : Bool) → f ≡ g → end ≡ true → length (marked_bytes ms (drop r vs)) ≤ at - r + length part
    far true g t = absurd (let none : end ≡ false = q ∙ (ap (λ (y : Bool). fin && not y && nat_le (length ms) (at - r + length part)) g ∙ no_end fin _) in cc)
    far false g t =
        let yes = ap (λ (y : Bool). fin && not y && nat_le (length ms) (at - r + length part)) (sym g) ∙ (sym q ∙ t) in
        let long = length_marked ms (drop r vs) (behind_long r vs ms h) in
        let least = end_far fin (length ms) (at - r + length part) yes in
        omega arith
