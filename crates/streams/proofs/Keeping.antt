-- What is kept of bytes and of a FIN behind them: a part of both, and the same whether or not what was delivered is there.
use Rattle.std.proofs.Common.{◌≡◌, ℕ, zero, suc, ◌+◌, ◌-◌, ◌≤◌, Bool, true, false, not, ◌&&◌, List, [], ◌∷◌, ◌++◌}
use Rattle.std.proofs.Common.{length, take, replicate, Option, Some, refl, sym, ap, ◌∙◌, arith}
use Rattle.std.specs.Prelude.{nat_le, if◌then◌else◌}
use Rattle.std.proofs.lemmas.Bool.{le-leb, leb-false, leb-true, lt-leb}
use Rattle.std.proofs.lemmas.List.{length-append, length-replicate, length-take}
use Rattle.std.proofs.lemmas.Option.{none-some}
use Rattle.streams.specs.declared.cell.Cell.{Cell}
use Rattle.streams.specs.declared.cell.Cell.TheVariants.{Byte}
use Rattle.streams.specs.Cells.{body, is_fin, put_all}
use Rattle.streams.specs.Forgetting.{fade, forgotten}
use Rattle.streams.specs.Lists.{Within}
use Rattle.streams.specs.Received.{Receiving, body_kept, end_kept, has_end, kept, part_kept}
use Rattle.streams.specs.Views.{gone_cells}
use Rattle.streams.proofs.Fades.{fade-put_all, is_fin-fade, length-fade}
use Rattle.streams.proofs.Fronts.{body_ends}
use Rattle.streams.proofs.Writes.{length_body}
use Rattle.streams.proofs.Gone.{get_gone, gone_fin, put_all_gone}

-- a part of the bytes, without the FIN
part_within : (n : ℕ) (bytes : List ℕ) (fin : Bool) → Within (body (take n bytes) false) (body bytes fin)
part_within zero bytes fin k c e = absurd (none-some c e)
part_within (suc n) [] fin k c e = absurd (none-some c e)
part_within (suc n) (v ∷ bytes) fin zero c e = e
part_within (suc n) (v ∷ bytes) fin (suc k) c e = part_within n bytes fin k c e

-- what is kept is a part of what came
pub kept_within : (taken : List (Option Cell)) (position : ℕ) (bytes : List ℕ) (fin : Bool) → Within (body_kept taken position bytes fin) (body bytes fin)
kept_within taken position bytes fin = go (has_end taken) (nat_le (length taken) (position + length bytes))
  where
    go : (end behind : Bool) → Within (body (if end then take (length taken - 1 - position) bytes else bytes) (fin && not end && behind)) (body bytes fin)
    go true behind = by fin
      where
        by : (f : Bool) → Within (body (take (length taken - 1 - position) bytes) (f && false && behind)) (body bytes f)
        by true = part_within (length taken - 1 - position) bytes true
        by false = part_within (length taken - 1 - position) bytes false
    go false behind = by fin
      where
        by : (f : Bool) → Within (body bytes (f && true && behind)) (body bytes f)
        by true = body_ends bytes behind
        by false = λ k c e. e

-- and no longer
pub part_short : (taken : List (Option Cell)) (position : ℕ) (bytes : List ℕ) → length (part_kept taken position bytes) ≤ length bytes
part_short taken position bytes = go (has_end taken)
  where
    go : (end : Bool) → length (if end then take (length taken - 1 - position) bytes else bytes) ≤ length bytes
    go true = omega (arith, length-take (length taken - 1 - position) bytes)
    go false = omega arith

-- and of all that is kept
pub body_short : (taken : List (Option Cell)) (position : ℕ) (bytes : List ℕ) (fin : Bool)
    → length (body_kept taken position bytes fin) ≤ length bytes + 1
body_short taken position bytes fin =
    let part = part_short taken position bytes in
    let most = length_body (part_kept taken position bytes) (end_kept taken position bytes fin) in
    omega arith

-- nothing of it goes by what was forgotten
pub body_kept-fade : (n : ℕ) (taken : List (Option Cell)) (position : ℕ) (bytes : List ℕ) (fin : Bool)
    → body_kept (fade n taken) position bytes fin ≡ body_kept taken position bytes fin
body_kept-fade n taken position bytes fin = rw (length-fade n taken, is_fin-fade n taken (length taken - 1)) refl

pub same_order : (n a b : ℕ) → nat_le (n + a) (n + b) ≡ nat_le a b
same_order n a b = go (nat_le a b) refl
  where
    go : (x : Bool) → nat_le a b ≡ x → nat_le (n + a) (n + b) ≡ nat_le a b
    go true e = let at_most = leb-true a b e in le-leb (n + a) (n + b) (omega arith) ∙ sym e
    go false e = let above = leb-false a b e in lt-leb (n + a) (n + b) (omega arith) ∙ sym e

length_gone : (gone : ℕ) (xs : List (Option Cell)) → length (gone_cells gone ++ xs) ≡ gone + length xs
length_gone zero xs = omega arith
length_gone (suc n) xs = let all = length-append (replicate n (Some (Byte 0))) xs in let ones = length-replicate n (Some (Byte 0)) in omega arith

-- nor by what was discarded
last_gone : (gone : ℕ) (xs : List (Option Cell)) → (gone ≡ 0 → length xs ≡ 0) → has_end (gone_cells gone ++ xs) ≡ has_end xs
last_gone gone [] empty = rw (length_gone gone []) (let same : gone + 0 - 1 ≡ gone - 1 = omega arith in rw same (gone_fin gone [] empty))
last_gone gone (x ∷ xs) empty =
    rw (length_gone gone (x ∷ xs))
    (let same : gone + suc (length xs) - 1 ≡ gone + length xs = omega arith in
    let last : suc (length xs) - 1 ≡ length xs = omega arith in
    rw (same, last) (ap is_fin (get_gone gone (x ∷ xs) (length xs))))

pub body_kept_gone : (gone at : ℕ) (xs : List (Option Cell)) (bytes : List ℕ) (fin : Bool) → (gone ≡ 0 → length xs ≡ 0)
    → body_kept (gone_cells gone ++ xs) (gone + at) bytes fin ≡ body_kept xs at bytes fin
body_kept_gone gone at xs bytes fin empty =
    let long = length_gone gone xs in
    let before : gone + length xs - 1 - (gone + at) ≡ length xs - 1 - at = omega arith in
    let behind : gone + at + length bytes ≡ gone + (at + length bytes) = omega arith in
    rw (last_gone gone xs empty, long, before, behind, same_order gone (length xs) (at + length bytes)) refl

-- what is kept, of a buffer whose cells stand behind those that were discarded
pub kept_gone : (gone at : ℕ) (xs : List (Option Cell)) (bytes : List ℕ) (fin : Bool) → (gone ≡ 0 → length xs ≡ 0)
    → kept (record { taken = gone_cells gone ++ xs; delivered = gone - 1 }) (gone + at) bytes fin
    ≡ record { taken = gone_cells gone ++ put_all xs at (body_kept xs at bytes fin); delivered = gone - 1 }
kept_gone gone at xs bytes fin empty =
    ap (λ (ys : List (Option Cell)). let r : Receiving = record { taken = ys; delivered = gone - 1 } in r)
    (ap (λ (cs : List Cell). put_all (gone_cells gone ++ xs) (gone + at) cs) (body_kept_gone gone at xs bytes fin empty)
    ∙ put_all_gone gone xs at (body_kept xs at bytes fin))

-- keeping reads nothing that is forgotten
pub kept_forgotten : (r : Receiving) (position : ℕ) (bytes : List ℕ) (fin : Bool)
    → forgotten (kept (forgotten r) position bytes fin) ≡ forgotten (kept r position bytes fin)
kept_forgotten r position bytes fin =
    ap (λ (ys : List (Option Cell)). let q : Receiving = record { taken = ys; delivered = r.delivered } in q)
    (ap (λ (cs : List Cell). fade (suc r.delivered) (put_all (fade (suc r.delivered) r.taken) position cs))
    (body_kept-fade (suc r.delivered) r.taken position bytes fin)
    ∙ fade-put_all (suc r.delivered) r.taken position (body_kept r.taken position bytes fin))
