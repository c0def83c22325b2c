-- A word in a choice of words, and what follows it.
use Rattle.std.proofs.Common.{◌≡◌, ℕ, List, [], ◌∷◌, ◌++◌, Bool, true, false, cond, Option, Some, None, Result, Ok, refl, sym, ap, ◌∙◌, subst}
use Rattle.std.specs.List.{AllByRecursion}
use Rattle.std.specs.Str.{bytes_eq}
use Rattle.std.proofs.lemmas.Slice.Eq.{bytes_eq-Decides}
use Rattle.line_fields.specs.declared.fault.TextFault.{TextFault}
use Rattle.line_fields.specs.declared.fault.FaultKind.TheVariants.{Field}
use Rattle.line_fields.specs.Word.{Rest}
use Rattle.line_fields.specs.Reading.{◌>>=◌, fault_at, or_fault}
use Rattle.line_fields.specs.Choice.{kind_named, kind_value, kind_field}
use Rattle.line_fields.specs.Reader.{texts, IsReaderBefore, IsReader}
use Rattle.line_fields.specs.Spelling.{Piece, plain, AreWritten}
use Rattle.line_fields.proofs.Readers.{IsValue, bind_ok, ok_is, reads_field, reads_as}
use Rattle.line_fields.proofs.Written.{first_plain}

-- each kind is found by its name: for a list of all kinds, whose names differ, by refl in each case
abbrev pub AreNamed : {K : Type 0} → (K → List ℕ) → List K → Type 0
AreNamed {K = K} name kinds = (k : K) → kind_named name kinds (name k) ≡ Some k

-- the kinds of which P holds are found by their names, and no other kind is among these
pub record AreNamedAmong {K : Type 0} (name : K → List ℕ) (kinds : List K) (P : K → Type 0) : Type 0 where
  pub named : (k : K) → P k → kind_named name kinds (name k) ≡ Some k
  pub only : AllByRecursion P kinds

abbrev Always : {K : Type 0} → K → Type 0
Always k = Unit {0}

always : {K : Type 0} (kinds : List K) → AllByRecursion Always kinds
always [] = tt
always (k ∷ kinds) = (tt, always kinds)

all_among : {K : Type 0} (name : K → List ℕ) (kinds : List K) → AreNamed name kinds → AreNamedAmong name kinds Always
all_among name kinds named = record { named = λ k p. named k; only = always kinds }

abbrev some : {K : Type 0} → K → Option K
some k = Some k

some_is : {K : Type 0} (j k : K) → some j ≡ Some k → j ≡ k
some_is j k e = cc

named_test : {K : Type 0} (name : K → List ℕ) (j k : K) (ks : List K) (text : List ℕ) (b : Bool) → bytes_eq text (name j) ≡ b
    → (kind_named name ks text ≡ Some k → text ≡ name k) → cond b (Some j) (kind_named name ks text) ≡ Some k → text ≡ name k
named_test name j k ks text true hit others e = (bytes_eq-Decides text (name j)).0 hit ∙ ap name (some_is j k e)
named_test name j k ks text false hit others e = others e

named_takes : {K : Type 0} (name : K → List ℕ) (kinds : List K) (text : List ℕ) (k : K) → kind_named name kinds text ≡ Some k → text ≡ name k
named_takes name [] text k e = absurd cc
named_takes name (j ∷ ks) text k e = named_test name j k ks text (bytes_eq text (name j)) refl (λ h. named_takes name ks text k h) e

named_is : {K : Type 0} (name : K → List ℕ) (P : K → Type 0) (j k : K) (ks : List K) (text : List ℕ) (b : Bool) → P j
    → (kind_named name ks text ≡ Some k → P k) → cond b (Some j) (kind_named name ks text) ≡ Some k → P k
named_is name P j k ks text true here others e = subst P (some_is j k e) here
named_is name P j k ks text false here others e = others e

is_among : {K : Type 0} (name : K → List ℕ) (P : K → Type 0) (kinds : List K) (text : List ℕ) (k : K) → AllByRecursion P kinds
    → kind_named name kinds text ≡ Some k → P k
is_among name P [] text k all e = absurd cc
is_among name P (j ∷ ks) text k all e =
    named_is name P j k ks text (bytes_eq text (name j)) all.0 (is_among name P ks text k all.1) e

or_fault_takes : {K : Type 0} (e : TextFault) (o : Option K) (k : K) → or_fault e o ≡ Ok k → o ≡ Some k
or_fault_takes e (Some j) k h = ap some (ok_is j k h)
or_fault_takes e None k h = absurd cc

pub is_kind_value : {K : Type 0} (name : K → List ℕ) (kinds : List K) → AreNamed name kinds → IsValue (kind_value name kinds) (λ k text. text ≡ name k)
is_kind_value name kinds named = record {
  takes = λ w k e. named_takes name kinds w.text k (or_fault_takes (fault_at Field w) (kind_named name kinds w.text) k e);
  again = λ w k v. ap (λ (t : List ℕ). or_fault (fault_at Field w) (kind_named name kinds t)) v ∙ ap (or_fault (fault_at Field w)) (named k);
}

is_value_among : {K : Type 0} (name : K → List ℕ) (kinds : List K) (P : K → Type 0) → AreNamedAmong name kinds P
    → IsValue (kind_value name kinds) (λ k text. P k × (text ≡ name k))
is_value_among name kinds P named = record {
  takes = λ w k e.
      let is = or_fault_takes (fault_at Field w) (kind_named name kinds w.text) k e in
      (is_among name P kinds w.text k named.only is, named_takes name kinds w.text k is);
  again = λ w k v.
      ap (λ (t : List ℕ). or_fault (fault_at Field w) (kind_named name kinds t)) v.1
      ∙ ap (or_fault (fault_at Field w)) (named.named k v.0);
}

-- the name of one of the kinds of which P holds
pub reads_kind_among : {K : Type 0} (name : K → List ℕ) (kinds : List K) (P : K → Type 0) → AreNamedAmong name kinds P
    → IsReader (kind_field name kinds) (λ k ws. P k × (ws ≡ name k ∷ []))
reads_kind_among name kinds P named =
    reads_as _ _ _ _ (reads_field (kind_value name kinds) (λ k text. P k × (text ≡ name k)) (is_value_among name kinds P named))
    (λ k ws s. (s.1.0, s.2 ∙ ap (λ (t : List ℕ). t ∷ []) s.1.1))
    (λ k ws s. (name k, (s.0, refl), s.1))

-- the name of a kind
pub reads_kind : {K : Type 0} (name : K → List ℕ) (kinds : List K) → AreNamed name kinds → IsReader (kind_field name kinds) (λ k ws. ws ≡ name k ∷ [])
reads_kind name kinds named =
    reads_as _ _ _ _ (reads_field (kind_value name kinds) (λ k text. text ≡ name k) (is_kind_value name kinds named))
    (λ k ws s. s.2 ∙ ap (λ (t : List ℕ). t ∷ []) s.1)
    (λ k ws s. (name k, refl, s))

-- what was read behind a word: a value that begins with the word and fits, and whose other fields these are
abbrev pub IsBehind : {K A : Type 0} → (A → K) → (A → List Piece) → (A → Type 0) → K → Rest → A → Rest → Type 0
IsBehind head tail Fits k r a rest = (us : List (List ℕ)) × Fits a × (head a ≡ k) × AreWritten (tail a) us × (texts r ≡ us ++ texts rest)

-- a value by the word that its fields begin with, one of those of which P holds: read by cases on the word, spelled by
-- cases on the value
pub reads_choice_among : {K A : Type 0} (F : List (List ℕ) → Type 0) (name : K → List ℕ) (kinds : List K) (P : K → Type 0)
    → AreNamedAmong name kinds P
    → (behind : K → Rest → Result (A × Rest) TextFault) (head : A → K) (tail : A → List Piece) (Fits : A → Type 0)
    → ((a : A) → Fits a → P (head a))
    → ((k : K) (r : Rest) (x : A × Rest) → P k → behind k r ≡ Ok x → IsBehind head tail Fits k r x.0 x.1)
    → ((a : A) (r : Rest) (us more : List (List ℕ)) → F more → Fits a → AreWritten (tail a) us → texts r ≡ us ++ more
    → (rest : Rest) × (behind (head a) r ≡ Ok (a, rest)) × (texts rest ≡ more))
    → IsReaderBefore F (λ r. kind_field name kinds r >>= λ k. behind k.0 k.1) (λ a ws. Fits a × AreWritten (plain (name (head a)) ∷ tail a) ws)
reads_choice_among F name kinds P named behind head tail Fits head_fits behind_takes behind_again = record {
  takes = λ r x e.
      let b = bind_ok (kind_field name kinds r) (λ k. behind k.0 k.1) x e in
      let p = (reads_kind_among name kinds P named).takes r b.0 b.1 in
      let q = behind_takes b.0.0 b.0.1 x p.1.0 b.2 in
      let front : texts r ≡ name b.0.0 ∷ texts b.0.1 = p.2 ∙ ap (λ (us : List (List ℕ)). us ++ texts b.0.1) p.1.1 in
      (name (head x.0) ∷ q.0, (q.1, (refl, q.3)), front ∙ ap (λ (us : List (List ℕ)). name b.0.0 ∷ us) q.4 ∙ ap (λ k. name k ∷ (q.0 ++ texts x.1)) (sym q.2));
  again = λ r a ws more follows s e.
      let w = first_plain (name (head a)) (tail a) ws s.1 in
      let p = (reads_kind_among name kinds P named).again r (head a) (name (head a) ∷ []) (w.0 ++ more) tt (head_fits a s.0, refl)
      (e ∙ ap (λ (us : List (List ℕ)). us ++ more) w.1) in
      let q = behind_again a p.0 w.0 more follows s.0 w.2 p.2 in
      (q.0, rw (p.1, q.1) refl, q.2);
}

-- the same if each kind may be named
pub reads_choice : {K A : Type 0} (F : List (List ℕ) → Type 0) (name : K → List ℕ) (kinds : List K) → AreNamed name kinds
    → (behind : K → Rest → Result (A × Rest) TextFault) (head : A → K) (tail : A → List Piece) (Fits : A → Type 0)
    → ((k : K) (r : Rest) (x : A × Rest) → behind k r ≡ Ok x → IsBehind head tail Fits k r x.0 x.1)
    → ((a : A) (r : Rest) (us more : List (List ℕ)) → F more → Fits a → AreWritten (tail a) us → texts r ≡ us ++ more
    → (rest : Rest) × (behind (head a) r ≡ Ok (a, rest)) × (texts rest ≡ more))
    → IsReaderBefore F (λ r. kind_field name kinds r >>= λ k. behind k.0 k.1) (λ a ws. Fits a × AreWritten (plain (name (head a)) ∷ tail a) ws)
reads_choice F name kinds named behind head tail Fits behind_takes behind_again =
    reads_choice_among F name kinds Always (all_among name kinds named) behind head tail Fits (λ a fits. tt)
    (λ k r x p e. behind_takes k r x e) behind_again

-- a value that was read and is known is spelled as that value
pub is_known : {K A : Type 0} (head : A → K) (tail : A → List Piece) (Fits : A → Type 0) (k : K) (r rest : Rest) (a b : A) (us : List (List ℕ))
    → a ≡ b → Fits b → head b ≡ k → AreWritten (tail b) us → texts r ≡ us ++ texts rest → IsBehind head tail Fits k r a rest
is_known head tail Fits k r rest a b us same fits first others e =
    (us, subst Fits (sym same) fits, ap head same ∙ first, subst (λ c. AreWritten (tail c) us) (sym same) others, e)
