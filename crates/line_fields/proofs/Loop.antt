-- Lines that are read one after the other: behind those that were read before, and both ways against their spelling.
use Rattle.std.proofs.Common.{◌≡◌, ℕ, List, [], ◌∷◌, ◌++◌, Result, Ok, Err, refl, ap, subst, append_assoc}
use Rattle.std.specs.List.{AllByRecursion}
use Rattle.line_fields.specs.declared.fault.FaultKind.{FaultKind}
use Rattle.line_fields.specs.declared.fault.FaultKind.TheVariants as kinds
use Rattle.line_fields.specs.declared.fault.TextFault.{TextFault}
use Rattle.line_fields.specs.Reading.{◌>>=◌, Fails}
use Rattle.line_fields.specs.Lines.{IsRaw}
use Rattle.line_fields.specs.Folding.{read_lines, AreSpelled}
use Rattle.line_fields.proofs.Readers.{bind_ok, ok_is}

-- what was read before, and what is still read
abbrev pub with_front : {A : Type 0} → List A → Result (List A) TextFault → Result (List A) TextFault
with_front front read = read >>= λ items. Ok (front ++ items)

abbrev all_of : {A : Type 0} → List A → Result (List A) TextFault
all_of items = Ok items

pub regroup : {A : Type 0} (front : List A) (item : A) (read : Result (List A) TextFault)
    → with_front front (read >>= λ items. Ok (item ∷ items)) ≡ with_front (front ++ item ∷ []) read
regroup {A = A} front item (Ok x) = ap (λ (items : List A). all_of items) (simp append_assoc)
regroup front item (Err e) = refl

pub Fails-map : {A B : Type 0} (kind : FaultKind) (e : TextFault) (x : Result A TextFault) (y : Result B TextFault)
    → (x ≡ Err e → y ≡ Err e) → Fails kind e x → Fails kind e y
Fails-map kinds.Header e x y f h = f h
Fails-map kinds.Field e x y f h = f h
Fails-map kinds.Number e x y f h = f h
Fails-map kinds.Hex e x y f h = f h
Fails-map (kinds.Segment fault) e x y f h = f h
Fails-map kinds.MomentFalls e x y f h = f h
Fails-map kinds.LineTooLong e x y f h = f h
Fails-map kinds.Cut e x y f h = f h
Fails-map kinds.TooManyLines e x y f h = f h
Fails-map kinds.OutOfMemory e x y f h = tt

-- ---- both ways

-- a line is read exactly where it is spelled so
pub record IsLineReader {S A : Type 0} (read : S → List ℕ → Result A TextFault) (R : S → A → List ℕ → Type 0) : Type 0 where
  pub takes : (state : S) (raw : List ℕ) (item : A) → read state raw ≡ Ok item → R state item raw
  pub again : (state : S) (raw : List ℕ) (item : A) → R state item raw → read state raw ≡ Ok item

pub spelled_takes : {S A : Type 0} (read : S → List ℕ → Result A TextFault) (after : S → A → S) (R : S → A → List ℕ → Type 0) → IsLineReader read R
    → (state : S) (raws : List (List ℕ)) (items : List A) → read_lines read after state raws ≡ Ok items → AreSpelled R after state items raws
unfolding read_lines
spelled_takes read after R law state [] items e = subst (λ xs. AreSpelled R after state xs []) (ok_is [] items e) tt
spelled_takes {A = A} read after R law state (raw ∷ raws) items e =
    let a = bind_ok (read state raw) (λ x. read_lines read after (after state x) raws >>= λ xs. Ok (x ∷ xs)) items e in
    let b = bind_ok (read_lines read after (after state a.0) raws) (λ xs. Ok (a.0 ∷ xs)) items a.2 in
    subst (λ (xs : List A). AreSpelled R after state xs (raw ∷ raws)) (ok_is (a.0 ∷ b.0) items b.2)
    (law.takes state raw a.0 a.1, spelled_takes read after R law (after state a.0) raws b.0 b.1)

pub spelled_again : {S A : Type 0} (read : S → List ℕ → Result A TextFault) (after : S → A → S) (R : S → A → List ℕ → Type 0) → IsLineReader read R
    → (state : S) (items : List A) (raws : List (List ℕ)) → AreSpelled R after state items raws → read_lines read after state raws ≡ Ok items
unfolding read_lines
spelled_again read after R law state [] [] h = refl
spelled_again read after R law state [] (raw ∷ raws) h = absurd h
spelled_again read after R law state (x ∷ xs) [] h = absurd h
spelled_again read after R law state (x ∷ xs) (raw ∷ raws) h =
    let first = law.again state raw x h.0 in
    let others = spelled_again read after R law (after state x) xs raws h.1 in
    rw (first, others) refl

-- what spells items are lines
pub spelled_raws : {S A : Type 0} (after : S → A → S) (R : S → A → List ℕ → Type 0) → ((state : S) (item : A) (raw : List ℕ) → R state item raw → IsRaw raw)
    → (state : S) (items : List A) (raws : List (List ℕ)) → AreSpelled R after state items raws → AllByRecursion IsRaw raws
spelled_raws after R is_raw state [] [] h = tt
spelled_raws after R is_raw state [] (raw ∷ raws) h = absurd h
spelled_raws after R is_raw state (x ∷ xs) [] h = absurd h
spelled_raws after R is_raw state (x ∷ xs) (raw ∷ raws) h = (is_raw state x raw h.0, spelled_raws after R is_raw (after state x) xs raws h.1)
