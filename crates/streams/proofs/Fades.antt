-- What fades, and that nothing reads it.
use Rattle.std.proofs.Common.{◌≡◌, ℕ, zero, suc, ◌≤◌, List, [], ◌∷◌, ◌++◌, length, drop, Option, None, Some, refl, sym, ap, ◌∙◌, arith}
use Rattle.std.specs.Prelude.{slice_get}
use Rattle.streams.specs.declared.cell.Cell.{Cell}
use Rattle.streams.specs.declared.cell.Cell.TheVariants.{Syn, Byte, Fin}
use Rattle.streams.specs.declared.transmission.Transmission.{Transmission}
use Rattle.streams.specs.Cells.{front, is_fin, put, put_all}
use Rattle.streams.specs.Transmissions.{mark, once}
use Rattle.streams.specs.Forgetting.{fade, faded, made_below}
use Rattle.streams.proofs.Covers.{covered-append}

pub faded-faded : (x : Option Cell) → faded (faded x) ≡ faded x
faded-faded None = refl
faded-faded (Some Syn) = refl
faded-faded (Some (Byte v)) = refl
faded-faded (Some Fin) = refl

pub length-front-fade : (n : ℕ) (xs : List (Option Cell)) → length (front (fade n xs)) ≡ length (front xs)
length-front-fade zero xs = refl
length-front-fade (suc n) [] = refl
length-front-fade (suc n) (None ∷ xs) = refl
length-front-fade (suc n) (Some Syn ∷ xs) = ap (λ k. suc k) (length-front-fade n xs)
length-front-fade (suc n) (Some (Byte v) ∷ xs) = ap (λ k. suc k) (length-front-fade n xs)
length-front-fade (suc n) (Some Fin ∷ xs) = ap (λ k. suc k) (length-front-fade n xs)

pub length-fade : (n : ℕ) (xs : List (Option Cell)) → length (fade n xs) ≡ length xs
length-fade zero xs = refl
length-fade (suc n) [] = refl
length-fade (suc n) (x ∷ xs) = ap (λ k. suc k) (length-fade n xs)

pub is_fin-fade : (n : ℕ) (xs : List (Option Cell)) (i : ℕ) → is_fin (slice_get (fade n xs) i) ≡ is_fin (slice_get xs i)
is_fin-fade zero xs i = refl
is_fin-fade (suc n) [] i = refl
is_fin-fade (suc n) (None ∷ xs) zero = refl
is_fin-fade (suc n) (Some Syn ∷ xs) zero = refl
is_fin-fade (suc n) (Some (Byte v) ∷ xs) zero = refl
is_fin-fade (suc n) (Some Fin ∷ xs) zero = refl
is_fin-fade (suc n) (x ∷ xs) (suc i) = is_fin-fade n xs i

pub drop-fade : (n : ℕ) (xs : List (Option Cell)) → drop n (fade n xs) ≡ drop n xs
drop-fade zero xs = refl
drop-fade (suc n) [] = refl
drop-fade (suc n) (x ∷ xs) = drop-fade n xs

pub fade-fade : (m n : ℕ) (xs : List (Option Cell)) → m ≤ n → fade n (fade m xs) ≡ fade n xs
fade-fade zero n xs h = refl
fade-fade (suc m) zero xs h = absurd (omega arith)
fade-fade (suc m) (suc n) [] h = refl
fade-fade (suc m) (suc n) (x ∷ xs) h = let rest = fade-fade m n xs (omega arith) in let here = faded-faded x in cc

pub fade-put : (n : ℕ) (xs : List (Option Cell)) (p : ℕ) (c : Cell) → fade n (put (fade n xs) p c) ≡ fade n (put xs p c)
fade-put zero xs p c = refl
fade-put (suc n) [] p c = refl
fade-put (suc n) (None ∷ xs) zero c = ap (λ (ys : List (Option Cell)). faded (Some c) ∷ ys) (fade-fade n n xs (omega arith))
fade-put (suc n) (Some Syn ∷ xs) zero c = fade-fade (suc n) (suc n) (Some Syn ∷ xs) (omega arith)
fade-put (suc n) (Some (Byte v) ∷ xs) zero c = fade-fade (suc n) (suc n) (Some (Byte v) ∷ xs) (omega arith)
fade-put (suc n) (Some Fin ∷ xs) zero c = fade-fade (suc n) (suc n) (Some Fin ∷ xs) (omega arith)
fade-put (suc n) (x ∷ xs) (suc p) c = let rest = fade-put n xs p c in let here = faded-faded x in cc

pub fade-put_all : (n : ℕ) (xs : List (Option Cell)) (p : ℕ) (cs : List Cell) → fade n (put_all (fade n xs) p cs) ≡ fade n (put_all xs p cs)
fade-put_all n xs p [] = fade-fade n n xs (omega arith)
fade-put_all n xs p (c ∷ cs) =
    sym (fade-put_all n (put (fade n xs) p c) (suc p) cs)
    ∙ (ap (λ (ys : List (Option Cell)). fade n (put_all ys (suc p) cs)) (fade-put n xs p c)
    ∙ fade-put_all n (put xs p c) (suc p) cs)

-- marking what was discarded as made again leaves it as it is
pub below-mark : (snd_una position count : ℕ) (all new : List Transmission)
    → made_below snd_una (mark position count (made_below snd_una all) ++ new)
    ≡ made_below snd_una (mark position count all ++ new)
below-mark zero position count all new = refl
below-mark (suc snd_una) position count [] new = refl
below-mark (suc snd_una) (suc position) count (x ∷ all) new = ap (λ (xs : List Transmission). once 0 ∷ xs) (below-mark snd_una position count all new)
below-mark (suc snd_una) zero zero (x ∷ all) new = ap (λ (xs : List Transmission). once 0 ∷ xs) (covered-append (once 0) snd_una all new)
below-mark (suc snd_una) zero (suc count) (x ∷ all) new = ap (λ (xs : List Transmission). once 0 ∷ xs) (below-mark snd_una zero count all new)
