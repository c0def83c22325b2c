-- Runs of positions.
use Rattle.std.proofs.Common.{◌≡◌, Some, None, ℕ, ◌+◌, ◌-◌, ◌<◌, ◌≤◌, List, [], ◌∷◌, ◌++◌, length, drop, get_or}
use Rattle.std.proofs.Common.{replicate, refl, sym, ap, ◌∙◌, arith, append_assoc, zero, suc, length-append}
use Rattle.std.proofs.lemmas.List.{drop_more, drop_all, append-nil, length-replicate}
use Rattle.streams.specs.declared.transmission.Transmission.{Transmission}
use Rattle.streams.specs.declared.runs.Run.{Run}
use Rattle.std.specs.Prelude.{slice_get}
use Rattle.streams.specs.Transmissions.{made_moment, once}
use Rattle.streams.specs.Views.{expand}

pub expand-append : (rs ss : List Run) → expand (rs ++ ss) ≡ expand rs ++ expand ss
expand-append [] ss = refl
expand-append (r ∷ rs) ss = rw (expand-append rs ss) (sym (append_assoc (replicate r.count (once r.moment)) (expand rs) (expand ss)))

pub expand-push : (rs : List Run) (r : Run) → expand (rs ++ r ∷ []) ≡ expand rs ++ replicate r.count (once r.moment)
expand-push rs r = expand-append rs (r ∷ []) ∙ ap (λ (xs : List Transmission). expand rs ++ xs) (append-nil (replicate r.count (once r.moment)))

-- letting go inside a run
drop-run : (k n : ℕ) (x : Transmission) (xs : List Transmission) → k ≤ n → drop k (replicate n x ++ xs) ≡ replicate (n - k) x ++ xs
drop-run zero n x xs h = let same : n - 0 ≡ n = omega arith in rw same refl
drop-run (suc k) zero x xs h = absurd (omega arith)
drop-run (suc k) (suc n) x xs h = let same : suc n - suc k ≡ n - k = omega arith in rw same (drop-run k n x xs (omega arith))

drop-past : (k n : ℕ) (x : Transmission) (xs : List Transmission) → n ≤ k → drop k (replicate n x ++ xs) ≡ drop (k - n) xs
drop-past k zero x xs h = let same : k - 0 ≡ k = omega arith in rw same refl
drop-past zero (suc n) x xs h = absurd (omega arith)
drop-past (suc k) (suc n) x xs h = let same : suc k - suc n ≡ k - n = omega arith in rw same (drop-past k n x xs (omega arith))

pub forget_inside : (k : ℕ) (r : Run) (rs : List Run) → k < r.count → expand (record { count = r.count - k; moment = r.moment } ∷ rs) ≡ drop k (expand (r ∷ rs))
forget_inside k r rs h = sym (drop-run k r.count (once r.moment) (expand rs) (omega arith))

pub forget_run : (k : ℕ) (r : Run) (rs : List Run) → r.count ≤ k → drop (k - r.count) (expand rs) ≡ drop k (expand (r ∷ rs))
forget_run k r rs h = sym (drop-past k r.count (once r.moment) (expand rs) h)

pub pop_inside : (all rest now : List Run) (r : Run) (k : ℕ) → all ≡ r ∷ rest → k < r.count
    → now ≡ record { count = r.count - k; moment = r.moment } ∷ rest → expand now ≡ drop k (expand all)
pop_inside all rest now r k e h f = rw (e, f) (forget_inside k r rest h)

pub pop_run : (all rest : List Run) (r : Run) (k : ℕ) → all ≡ r ∷ rest → r.count ≤ k → drop (k - r.count) (expand rest) ≡ drop k (expand all)
pop_run all rest r k e h = rw e (forget_run k r rest h)

pub pop_long : (all rest : List Run) (r : Run) (k : ℕ) → all ≡ r ∷ rest → r.count ≤ k → k ≤ length (expand all) → k - r.count ≤ length (expand rest)
pop_long all rest r k e h l =
    let both = length-append (replicate r.count (once r.moment)) (expand rest) in
    let one = length-replicate r.count (once r.moment) in
    let whole : length (expand all) ≡ r.count + length (expand rest) = rw e (omega arith) in
    omega arith

here : (xs : List Run) (i : ℕ) (r : Run) → i < length xs → r ≡ get_or xs i r → drop i xs ≡ r ∷ drop (i + 1) xs
here xs i r h e = drop_more xs i r h ∙ ap (λ (x : Run). x ∷ drop (i + 1) xs) (sym e)

get_past : (p n : ℕ) (x : Transmission) (all : List Transmission) → n ≤ p → slice_get (replicate n x ++ all) p ≡ slice_get all (p - n)
get_past p zero x all h = let same : p - 0 ≡ p = omega arith in rw same refl
get_past zero (suc n) x all h = absurd (omega arith)
get_past (suc p) (suc n) x all h = let same : suc p - suc n ≡ p - n = omega arith in rw same (get_past p n x all (omega arith))

get_inside : (p n : ℕ) (x : Transmission) (all : List Transmission) → p < n → slice_get (replicate n x ++ all) p ≡ Some x
get_inside p zero x all h = absurd (omega arith)
get_inside zero (suc n) x all h = refl
get_inside (suc p) (suc n) x all h = get_inside p n x all (omega arith)

pub moment_past : (p n : ℕ) (x : Transmission) (all : List Transmission) → n ≤ p → made_moment (replicate n x ++ all) p ≡ made_moment all (p - n)
moment_past p n x all h = rw (get_past p n x all h) refl

pub moment_inside : (p n : ℕ) (x : Transmission) (all : List Transmission) → p < n → made_moment (replicate n x ++ all) p ≡ Some x.moment
moment_inside p n x all h = rw (get_inside p n x all h) refl

pub moment_on : (xs : List Run) (i skip : ℕ) (r : Run) → i < length xs → r ≡ get_or xs i r → r.count ≤ skip
    → made_moment (expand (drop (i + 1) xs)) (skip - r.count) ≡ made_moment (expand (drop i xs)) skip
moment_on xs i skip r h e l = rw (here xs i r h e) (sym (moment_past skip r.count (once r.moment) (expand (drop (i + 1) xs)) l))

pub moment_found : (xs : List Run) (i skip : ℕ) (r : Run) → i < length xs → r ≡ get_or xs i r → skip < r.count
    → made_moment (expand (drop i xs)) skip ≡ Some r.moment
moment_found xs i skip r h e l = rw (here xs i r h e) (moment_inside skip r.count (once r.moment) (expand (drop (i + 1) xs)) l)

pub moment_none : (xs : List Run) (i skip : ℕ) → length xs ≤ i → made_moment (expand (drop i xs)) skip ≡ None
moment_none xs i skip h = rw (drop_all i xs h) refl
