-- Readers of fields, with the spelling of what they read, and readers that are made of others.
use Rattle.std.proofs.Common.{◌≡◌, ◌≤◌, ◌<◌, ◌^◌, ◌⊎◌, ℕ, List, [], ◌∷◌, ◌++◌, Bool, true, false, cond, Result, Ok, Err}
use Rattle.std.proofs.Common.{refl, sym, ap, subst, ◌∙◌, append_assoc, arith, inl, inr}
use Rattle.std.specs.Prelude.{map}
use Rattle.std.specs.Fmt.{decimal}
use Rattle.std.specs.Str.Parse.{digits_value}
use Rattle.std.proofs.lemmas.Bool.{and_parts, leb-true}
use Rattle.std.proofs.lemmas.Slice.Eq.{bytes_eq-Decides}
use Rattle.line_fields.specs.declared.fault.TextFault.{TextFault}
use Rattle.line_fields.specs.declared.fault.FaultKind.TheVariants.{Field, Number}
use Rattle.line_fields.specs.Word.{Word, Rest}
use Rattle.line_fields.specs.Reading.{◌>>=◌, fault_at, missing, first_of, next_field, number_value, number_field, ended_by, no_more, or_end}
use Rattle.line_fields.specs.Reader.{texts, IsReaderBefore, IsReader, IsLastReader}
use Rattle.line_fields.proofs.Decimals.{number_value-in}

-- the same of the value of one field
pub record IsValue {A : Type 0} (value : Word → Result A TextFault) (V : A → List ℕ → Type 0) : Type 0 where
  pub takes : (w : Word) (a : A) → value w ≡ Ok a → V a w.text
  pub again : (w : Word) (a : A) → V a w.text → value w ≡ Ok a

pub bind_ok : {A B : Type 0} (r : Result A TextFault) (f : A → Result B TextFault) (y : B) → (r >>= f) ≡ Ok y → (x : A) × (r ≡ Ok x) × (f x ≡ Ok y)
bind_ok (Ok x) f y e = (x, refl, e)
bind_ok (Err d) f y e = absurd cc

abbrev done : {A : Type 0} → A → Result A TextFault
done x = Ok x

pub ok_is : {A : Type 0} (x y : A) → done x ≡ done y → x ≡ y
ok_is x y e = cc

abbrev failed : {A : Type 0} → TextFault → Result A TextFault
failed e = Err e

pub fails_never : {A : Type 0} (e : TextFault) (x : A) → failed e ≡ Ok x → ⊥
fails_never e x h = cc

pub first_takes : (none : TextFault) (line stop : ℕ) (ws : List Word) (x : Word × Rest)
    → first_of none line stop ws ≡ Ok x → map (λ w. w.text) ws ≡ x.0.text ∷ texts x.1
first_takes none line stop [] x e = absurd cc
first_takes none line stop (w ∷ ws) x e =
    subst (λ (y : Word × Rest). map (λ v. v.text) (w ∷ ws) ≡ y.0.text ∷ texts y.1)
    (ok_is (w, record { line = line; stop = stop; words = ws }) x e) refl

pub first_again : (none : TextFault) (line stop : ℕ) (ws : List Word) (t : List ℕ) (more : List (List ℕ)) → map (λ w. w.text) ws ≡ t ∷ more
    → (x : Word × Rest) × (first_of none line stop ws ≡ Ok x) × (x.0.text ≡ t) × (texts x.1 ≡ more)
first_again none line stop [] t more e = absurd cc
first_again none line stop (w ∷ ws) t more e = ((w, record { line = line; stop = stop; words = ws }), refl, (let h = e in cc), (let h = e in cc))

abbrev pub field_by : {A : Type 0} → (Word → Result A TextFault) → Rest → Result (A × Rest) TextFault
field_by value r = next_field r >>= λ w. value w.0 >>= λ a. Ok (a, w.1)

-- one field
pub reads_field : {A : Type 0} (value : Word → Result A TextFault) (V : A → List ℕ → Type 0) → IsValue value V
    → IsReader (field_by value) (λ a ws. (t : List ℕ) × V a t × (ws ≡ t ∷ []))
reads_field {A = A} value V law = record {
  takes = λ r x e.
      let b = bind_ok (next_field r) (λ w. value w.0 >>= λ a. Ok (a, w.1)) x e in
      let v = bind_ok (value b.0.0) (λ a. Ok (a, b.0.1)) x b.2 in
      let same = ok_is (v.0, b.0.1) x v.2 in
      let front = first_takes (missing r) r.line r.stop r.words b.0 b.1 in
      subst (λ (y : A × Rest). (ws : List (List ℕ)) × ((t : List ℕ) × V y.0 t × (ws ≡ t ∷ []))
      × (texts r ≡ ws ++ texts y.1)) same (b.0.0.text ∷ [], (b.0.0.text, law.takes b.0.0 v.0 v.1, refl), front);
  again = λ r a ws more any spelled e.
      let x = first_again (missing r) r.line r.stop r.words spelled.0 more (e ∙ ap (λ (us : List (List ℕ)). us ++ more) spelled.2) in
      let v = law.again x.0.0 a (subst (V a) (sym x.2) spelled.1) in
      (x.0.1, rw (x.1, v) refl, x.3);
}

-- one reader after the other; what may follow is the second one's
pub reads_then : {A B : Type 0} (F : List (List ℕ) → Type 0) (read : Rest → Result (A × Rest) TextFault)
    (R : A → List (List ℕ) → Type 0) (next : A → Rest → Result (B × Rest) TextFault)
    (S : A → B → List (List ℕ) → Type 0)
    → IsReader read R → ((a : A) → IsReaderBefore F (next a) (S a))
    → IsReaderBefore F (λ r. read r >>= λ x. next x.0 x.1) (λ b ws. (a : A) × (us : List (List ℕ)) × (vs : List (List ℕ)) × R a us × S a b vs × (ws ≡ us ++ vs))
reads_then F read R next S first second = record {
  takes = λ r y e.
      let b = bind_ok (read r) (λ x. next x.0 x.1) y e in
      let p = first.takes r b.0 b.1 in
      let q = (second b.0.0).takes b.0.1 y b.2 in
      (p.0 ++ q.0, (b.0.0, p.0, q.0, p.1, q.1, refl), p.2 ∙ ap (λ (ws : List (List ℕ)). p.0 ++ ws) q.2 ∙ sym (append_assoc p.0 q.0 (texts y.1)));
  again = λ r b ws more follows s e.
      let p = first.again r s.0 s.1 (s.2 ++ more) tt s.3 (e ∙ ap (λ (us : List (List ℕ)). us ++ more) s.5 ∙ append_assoc s.1 s.2 more) in
      let q = (second s.0).again p.0 b s.2 more follows s.4 p.2 in
      (q.0, rw (p.1, q.1) refl, q.2);
}

-- nothing more to read
pub reads_done : {A : Type 0} (F : List (List ℕ) → Type 0) (a : A) → IsReaderBefore F (λ r. Ok (a, r)) (λ b ws. (b ≡ a) × (ws ≡ []))
reads_done {A = A} F a = record {
  takes =
      λ r x e. subst (λ (y : A × Rest). (ws : List (List ℕ)) × ((y.0 ≡ a) × (ws ≡ [])) × (texts r ≡ ws ++ texts y.1))
      (ok_is (a, r) x e) ([], (refl, refl), refl);
  again = λ r b ws more follows s e. (r, ap (λ (x : A). Ok (x, r)) (sym s.0), e ∙ ap (λ (us : List (List ℕ)). us ++ more) s.1);
}

-- the same spelling in other words
pub reads_as : {A : Type 0} (F : List (List ℕ) → Type 0) (read : Rest → Result (A × Rest) TextFault)
    (R S : A → List (List ℕ) → Type 0) → IsReaderBefore F read R
    → ((a : A) (ws : List (List ℕ)) → R a ws → S a ws) → ((a : A) (ws : List (List ℕ)) → S a ws → R a ws) → IsReaderBefore F read S
reads_as F read R S law there back = record {
  takes = λ r x e. let p = law.takes r x e in (p.0, there x.0 p.0 p.1, p.2);
  again = λ r a ws more follows s e. law.again r a ws more follows (back a ws s) e;
}

-- what others may follow may be the last
pub reads_last : {A : Type 0} (read : Rest → Result (A × Rest) TextFault) (R : A → List (List ℕ) → Type 0) → IsReader read R → IsLastReader read R
reads_last read R law = record {
  takes = law.takes;
  again = λ r a ws more follows s e. law.again r a ws more tt s e;
}

-- ---- the end of a line

nothing : (ws : List Word) (u : Unit {0}) → ended_by ws ≡ Ok u → map (λ w. w.text) ws ≡ []
nothing [] u e = refl
nothing (w ∷ ws) u e = absurd cc

pub no_words : (ws : List Word) → map (λ w. w.text) ws ≡ [] → ws ≡ []
no_words [] e = refl
no_words (w ∷ ws) e = absurd cc

pub no_more_takes : (r : Rest) (u : Unit {0}) → no_more r ≡ Ok u → texts r ≡ []
unfolding no_more
no_more_takes r u e = nothing r.words u e

pub no_more_again : (r : Rest) → texts r ≡ [] → no_more r ≡ Ok tt
unfolding no_more
no_more_again r e = ap ended_by (no_words r.words e)

or_end_takes : {A : Type 0} (a : A) (read : Rest → Result (A × Rest) TextFault) (S : A → List (List ℕ) → Type 0) → IsLastReader read S
    → (ws : List Word) (r : Rest) (x : A × Rest) → r.words ≡ ws → or_end a read ws r ≡ Ok x
    → (us : List (List ℕ)) × (((x.0 ≡ a) × (us ≡ [])) ⊎ S x.0 us) × (texts r ≡ us ++ texts x.1)
or_end_takes {A = A} a read S law [] r x same e =
    subst (λ (y : A × Rest). (us : List (List ℕ)) × (((y.0 ≡ a) × (us ≡ [])) ⊎ S y.0 us) × (texts r ≡ us ++ texts y.1))
    (ok_is (a, r) x e) ([], inl (refl, refl), refl)
or_end_takes a read S law (w ∷ ws) r x same e = let p = law.takes r x e in (p.0, inr p.1, p.2)

or_end_some : {A : Type 0} (a : A) (read : Rest → Result (A × Rest) TextFault) (ws : List Word) (r : Rest) → (ws ≡ [] → ⊥) → or_end a read ws r ≡ read r
or_end_some a read [] r some = absurd (some refl)
or_end_some a read (w ∷ ws) r some = refl

append_none : (us vs : List (List ℕ)) → us ++ vs ≡ [] → us ≡ []
append_none [] vs e = refl
append_none (u ∷ us) vs e = absurd cc

-- a value where nothing is left, else what is read
pub reads_or_end : {A : Type 0} (a : A) (read : Rest → Result (A × Rest) TextFault) (S : A → List (List ℕ) → Type 0)
    → IsLastReader read S → ((b : A) (ws : List (List ℕ)) → S b ws → ws ≡ [] → ⊥)
    → IsLastReader (λ r. or_end a read r.words r) (λ b ws. ((b ≡ a) × (ws ≡ [])) ⊎ S b ws)
reads_or_end {A = A} a read S law some = record {
  takes = λ r x e. or_end_takes a read S law r.words r x refl e;
  again = λ r b ws more follows s e. elim s [
    | inl none ↦
        let left : texts r ≡ [] = e ∙ ap (λ (us : List (List ℕ)). us ++ more) none.1 ∙ follows in
        let words = no_words r.words left in
        (r, ap (λ (vs : List Word). or_end a read vs r) words ∙ ap (λ (x : A). Ok (x, r)) (sym none.0), left ∙ sym follows)
    | inr spelled ↦
        let q = law.again r b ws more follows spelled e in
        let filled : r.words ≡ [] → ⊥ = λ none. some b ws spelled (append_none ws more (sym e ∙ ap (λ (vs : List Word). map (λ w. w.text) vs) none)) in
        (q.0, or_end_some a read r.words r filled ∙ q.1, q.2)
  ];
}

-- ---- numbers

-- the text spells the number, which is within the limits
abbrev pub IsNumber : ℕ → ℕ → ℕ → List ℕ → Type 0
IsNumber least most n text = (text ≡ decimal n) × (least ≤ n) × (n ≤ most)

guard_number : (b c : Bool) (d f : TextFault) (x y : ℕ) → cond b (Err d) (cond c (Ok x) (Err f)) ≡ Ok y → (c ≡ true) × (x ≡ y)
guard_number true c d f x y e = absurd cc
guard_number false true d f x y e = (refl, cc)
guard_number false false d f x y e = absurd cc

pub is_number_value : (least most : ℕ) → most < 2 ^ 64 → IsValue (number_value least most) (IsNumber least most)
unfolding number_value
is_number_value least most fits = record {
  takes = λ w n e.
      let g = guard_number _ _ (fault_at Field w) (fault_at Number w) (digits_value 10 w.text) n e in
      let parts = and_parts _ _ g.0 in
      let first = and_parts _ _ parts.0 in
      subst (λ (m : ℕ). IsNumber least most m w.text) g.1 (
        (bytes_eq-Decides w.text (decimal (digits_value 10 w.text))).0 first.0,
        leb-true _ _ first.1,
        leb-true _ _ parts.1,
      );
  again = λ w n v. number_value-in least most n w (omega (arith, v.2)) v.0 v.1 v.2;
}

-- a number within its limits
abbrev pub IsNumberField : ℕ → ℕ → ℕ → List (List ℕ) → Type 0
IsNumberField least most n ws = (least ≤ n) × (n ≤ most) × (ws ≡ decimal n ∷ [])

pub reads_number : (least most : ℕ) → most < 2 ^ 64 → IsReader (number_field least most) (IsNumberField least most)
unfolding number_field
reads_number least most fits =
    reads_as _ _ _ _ (reads_field (number_value least most) (IsNumber least most) (is_number_value least most fits))
    (λ n ws s. (s.1.1, s.1.2, s.2 ∙ ap (λ (t : List ℕ). t ∷ []) s.1.0))
    (λ n ws s. (decimal n, (refl, s.0, s.1), s.2))
