-- The spelling of flags, both ways.
use Rattle.std.proofs.Common.{◌≡◌, ◌<◌, ℕ, List, [], ◌∷◌, ◌++◌, Bool, true, false, cond, eqb, length, Option, Some}
use Rattle.std.proofs.Common.{None, Result, Ok, refl, sym, ap, subst, ◌∙◌, arith}
use Rattle.std.specs.Prelude.{codes}
use Rattle.std.specs.Str.{bytes_eq}
use Rattle.std.proofs.lemmas.Bool.{and_parts, eqb-true, ltb-true}
use Rattle.std.proofs.lemmas.List.{append-nil}
use Rattle.std.proofs.lemmas.Slice.Eq.{bytes_eq-Decides}
use Rattle.case_forms.specs.declared.steps.Flags.{Flags}
use Rattle.line_fields.specs.declared.fault.TextFault.{TextFault}
use Rattle.line_fields.specs.declared.fault.FaultKind.TheVariants.{Field}
use Rattle.line_fields.specs.Word.{Word}
use Rattle.line_fields.specs.Reading.{fault_at, or_fault}
use Rattle.line_fields.specs.Reader.{Any, IsReader}
use Rattle.line_fields.specs.Spelling.{Piece, plain, AreWritten, IsClean}
use Rattle.line_fields.proofs.Readers.{IsValue, ok_is, fails_never, reads_field, reads_as}
use Rattle.line_fields.proofs.Written.{plains_are}
use Rattle.line_fields.proofs.Clean.{clean_by}
use Rattle.witness.specs.Flags.{letter_if, letters_of, or_dash, flags_text, no_flags, behind_letter, letters_named, flags_value, flags_field}
use Rattle.witness.proofs.Made.{IsBy}

-- ---- what is read is spelled so

abbrev taken_by : ℕ → List ℕ → ℕ → Bool → Bool × List ℕ
taken_by b bs letter same = cond same (true, bs) (false, b ∷ bs)

letter_test : (b letter : ℕ) (bs : List ℕ) (same : Bool) → eqb b letter ≡ same
    → b ∷ bs ≡ letter_if (taken_by b bs letter same).0 (letter ∷ []) ++ (taken_by b bs letter same).1
letter_test b letter bs true hit = ap (λ (a : ℕ). a ∷ bs) (eqb-true b letter hit)
letter_test b letter bs false miss = refl

letter_taken : (letter : ℕ) (text : List ℕ) → text ≡ letter_if (behind_letter letter text).0 (letter ∷ []) ++ (behind_letter letter text).1
letter_taken letter [] = refl
letter_taken letter (b ∷ bs) = letter_test b letter bs (eqb b letter) refl

none_left : (text : List ℕ) → length text ≡ 0 → text ≡ []
none_left [] e = refl
none_left (b ∷ bs) e = absurd cc

guard_some : (c : Bool) (f g : Flags) → cond c (Some f) None ≡ Some g → (c ≡ true) × (f ≡ g)
guard_some true f g e = (refl, cc)
guard_some false f g e = absurd cc

letters_are : (text : List ℕ) (f : Flags) → letters_named text ≡ Some f → (0 < length text) × (text ≡ letters_of f)
letters_are text f e =
    let a = behind_letter 65 text in
    let r = behind_letter 82 a.1 in
    let s = behind_letter 83 r.1 in
    let n = behind_letter 70 s.1 in
    let own : Flags = record { ack = a.0; rst = r.0; syn = s.0; fin = n.0 } in
    let g = guard_some _ own f e in
    let parts = and_parts _ _ g.0 in
    let last : n.1 ≡ [] = none_left n.1 (eqb-true _ _ parts.1) in
    let four : s.1 ≡ letter_if n.0 (codes "F") =
    letter_taken 70 s.1 ∙ ap (λ (t : List ℕ). letter_if n.0 (codes "F") ++ t) last
    ∙ append-nil (letter_if n.0 (codes "F")) in
    let three : r.1 ≡ letter_if s.0 (codes "S") ++ letter_if n.0 (codes "F") = letter_taken 83 r.1 ∙ ap (λ (t : List ℕ). letter_if s.0 (codes "S") ++ t) four in
    let two : a.1 ≡ letter_if r.0 (codes "R") ++ (letter_if s.0 (codes "S") ++ letter_if n.0 (codes "F")) =
    letter_taken 82 a.1 ∙ ap (λ (t : List ℕ). letter_if r.0 (codes "R") ++ t) three in
    let one : text ≡ letters_of own = letter_taken 65 text ∙ ap (λ (t : List ℕ). letter_if a.0 (codes "A") ++ t) two in
    (ltb-true _ _ parts.0, one ∙ ap letters_of g.1)

no_dash : (text : List ℕ) → 0 < length text → or_dash text ≡ text
no_dash [] some = absurd (omega arith)
no_dash (b ∷ bs) some = refl

or_fault_takes : (e : TextFault) (o : Option Flags) (f : Flags) → or_fault e o ≡ Ok f → o ≡ Some f
or_fault_takes e (Some g) f h = ap (λ (x : Flags). Some x) (ok_is g f h)
or_fault_takes e None f h = absurd (fails_never e f h)

flags_test : (w : Word) (f : Flags) (dash : Bool) → bytes_eq w.text (codes "-") ≡ dash
    → cond dash (Ok no_flags) (or_fault (fault_at Field w) (letters_named w.text)) ≡ Ok f → w.text ≡ flags_text f
flags_test w f true hit e = (bytes_eq-Decides w.text (codes "-")).0 hit ∙ ap flags_text (ok_is no_flags f e)
flags_test w f false miss e =
    let letters = letters_are w.text f (or_fault_takes (fault_at Field w) (letters_named w.text) f e) in
    sym (no_dash w.text letters.0) ∙ ap or_dash letters.1

-- ---- what is spelled so is read

-- the flags of a text, or this fault
abbrev flags_in : TextFault → List ℕ → Result Flags TextFault
flags_in e text = cond (bytes_eq text (codes "-")) (Ok no_flags) (or_fault e (letters_named text))

flags_again : (e : TextFault) (ack rst syn fin : Bool)
    → flags_in e (flags_text (record { ack = ack; rst = rst; syn = syn; fin = fin }))
    ≡ Ok (record { ack = ack; rst = rst; syn = syn; fin = fin })
flags_again e false false false false = refl
flags_again e false false false true = refl
flags_again e false false true false = refl
flags_again e false false true true = refl
flags_again e false true false false = refl
flags_again e false true false true = refl
flags_again e false true true false = refl
flags_again e false true true true = refl
flags_again e true false false false = refl
flags_again e true false false true = refl
flags_again e true false true false = refl
flags_again e true false true true = refl
flags_again e true true false false = refl
flags_again e true true false true = refl
flags_again e true true true false = refl
flags_again e true true true true = refl

is_flags_value : IsValue flags_value (λ f text. text ≡ flags_text f)
is_flags_value = record {
  takes = λ w f e. flags_test w f (bytes_eq w.text (codes "-")) refl e;
  again = λ w f v. ap (flags_in (fault_at Field w)) v ∙ flags_again (fault_at Field w) f.ack f.rst f.syn f.fin;
}

abbrev pub flags_piece : Flags → List Piece
flags_piece f = plain (flags_text f) ∷ []

-- the letters of flags
pub reads_flags : IsReader flags_field (IsBy (λ f. Unit {0}) flags_piece)
unfolding flags_field
reads_flags =
    reads_as Any flags_field _ (IsBy (λ f. Unit {0}) flags_piece)
    (reads_field flags_value (λ f text. text ≡ flags_text f) is_flags_value)
    (λ f ws s. (tt, subst (λ (us : List (List ℕ)). AreWritten (flags_piece f) us) (sym s.2) (s.1, tt)))
    (λ f ws s. (flags_text f, refl, plains_are (flags_text f ∷ []) ws s.1))

clean_flags : (ack rst syn fin : Bool) → IsClean (flags_text (record { ack = ack; rst = rst; syn = syn; fin = fin }))
clean_flags false false false false = clean_by (codes "-") refl
clean_flags false false false true = clean_by (codes "F") refl
clean_flags false false true false = clean_by (codes "S") refl
clean_flags false false true true = clean_by (codes "SF") refl
clean_flags false true false false = clean_by (codes "R") refl
clean_flags false true false true = clean_by (codes "RF") refl
clean_flags false true true false = clean_by (codes "RS") refl
clean_flags false true true true = clean_by (codes "RSF") refl
clean_flags true false false false = clean_by (codes "A") refl
clean_flags true false false true = clean_by (codes "AF") refl
clean_flags true false true false = clean_by (codes "AS") refl
clean_flags true false true true = clean_by (codes "ASF") refl
clean_flags true true false false = clean_by (codes "AR") refl
clean_flags true true false true = clean_by (codes "ARF") refl
clean_flags true true true false = clean_by (codes "ARS") refl
clean_flags true true true true = clean_by (codes "ARSF") refl

pub flags_clean : (f : Flags) → IsClean (flags_text f)
flags_clean f = clean_flags f.ack f.rst f.syn f.fin
