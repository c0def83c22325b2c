-- What the reader of a line answers is its first fault, and what the reader of lines answers is the first one among them.
use Rattle.std.proofs.Common.{◌≡◌, ◌<◌, ◌≤◌, ℕ, Bool, true, false, List, [], ◌∷◌, ◌++◌, length, Some, Result, Ok, Err}
use Rattle.std.proofs.Common.{refl, ap, sym, subst, ◌∙◌, inl, inr, arith}
use Rattle.std.specs.Prelude.{if◌then◌else◌, ◌↔◌, nat_lt, not}
use Rattle.std.specs.Str.{bytes_eq}
use Rattle.std.proofs.lemmas.Bool.Decides.{nat_tests}
use Rattle.std.proofs.lemmas.Option.{same_Some}
use Rattle.std.proofs.lemmas.Slice.Eq.{bytes_eq-Decides}
use Rattle.bstr.specs.Text.{without_terminator}
use Rattle.line_fields.specs.Forms.{Form, IsFirstFault}
use Rattle.line_fields.specs.Folding.{read_lines, AreSpelled}
use Rattle.line_fields.specs.LineFaults.{IsWholeFault, TooLong, Cut, TooMany, IsFaultOf, IsTextFaultOf, state_behind, IsFaultAmong}
use Rattle.line_fields.specs.Lines.{is_ended, whole_line, line_text, line_rest, exact_text, expect_line}
use Rattle.line_fields.specs.Reading.{◌>>=◌}
use Rattle.line_fields.specs.Word.{Rest, rest_of}
use Rattle.line_fields.specs.declared.fault.FaultKind.TheVariants as kinds
use Rattle.line_fields.specs.declared.fault.TextFault.{TextFault}
use Rattle.line_fields.proofs.FieldFaults.{failing, first_fault, first_is}
use Rattle.line_fields.proofs.Loop.{IsLineReader}

failing_map : {A B : Type 0} (m : Result A TextFault) (g : A → B) → failing (m >>= λ x. Ok (g x)) ≡ failing m
failing_map (Ok x) g = refl
failing_map (Err e) g = refl

is_err : {A : Type 0} (m : Result A TextFault) (e : TextFault) → (m ≡ Err e) ↔ (failing m ≡ Some e)
is_err (Ok x) e = (λ is. absurd cc, λ is. absurd cc)
is_err (Err f) e = (λ is. let same : f ≡ e = cc in ap (λ (x : TextFault). Some x) same, λ is. ap (λ (x : TextFault). Err x) (same_Some f e is))

not_less : (m n : ℕ) → nat_lt m n ≡ false → n ≤ m
not_less m n is = grind (arith, nat_tests)

less : (m n : ℕ) → nat_lt m n ≡ true → m < n
less m n is = grind (arith, nat_tests)

abbrev bad_rest : TextFault → Result Rest TextFault
bad_rest e = Err e

abbrev good_rest : Rest → Result Rest TextFault
good_rest r = Ok r

-- the line as a whole
pub whole_is : (number : ℕ) (raw : List ℕ) (e : TextFault) → (line_rest number raw ≡ Err e) ↔ IsWholeFault number raw e
unfolding line_rest line_text
whole_is number raw e = go (nat_lt 140000 (length (without_terminator raw))) refl (is_ended raw) refl (nat_lt 10000000 number) refl
  where
    text : List ℕ
    text = without_terminator raw

    go : (b : Bool) → nat_lt 140000 (length text) ≡ b → (c : Bool) → is_ended raw ≡ c → (d : Bool) → nat_lt 10000000 number ≡ d
        → (((if b then Err (record { kind = kinds.LineTooLong; span = whole_line number text }) else if not c
        then Err (record { kind = kinds.Cut; span = whole_line number text }) else if d
        then Err (record { kind = kinds.TooManyLines; span = whole_line number text }) else Ok text) >>= λ t.
        Ok (rest_of number t)) ≡ Err e) ↔ IsWholeFault number raw e
    go true long c ended d many = (λ is. TooLong (less 140000 (length text) long) cc, λ g. back g)
      where
        back : IsWholeFault number raw e → bad_rest (record { kind = kinds.LineTooLong; span = whole_line number text }) ≡ Err e
        back (TooLong l same) = ap (λ (x : TextFault). Err x) (sym same)
        back (Cut l open' same) = absurd (omega (arith, l, less 140000 (length text) long))
        back (TooMany l shut m same) = absurd (omega (arith, l, less 140000 (length text) long))
    go false short false ended d many = (λ is. Cut (not_less 140000 (length text) short) ended cc, λ g. back g)
      where
        back : IsWholeFault number raw e → bad_rest (record { kind = kinds.Cut; span = whole_line number text }) ≡ Err e
        back (TooLong l same) = absurd (omega (arith, l, not_less 140000 (length text) short))
        back (Cut l open' same) = ap (λ (x : TextFault). Err x) (sym same)
        back (TooMany l shut m same) = let clash : false ≡ true = sym ended ∙ shut in absurd cc
    go false short true ended true many = (λ is. TooMany (not_less 140000 (length text) short) ended (less 10000000 number many) cc, λ g. back g)
      where
        back : IsWholeFault number raw e → bad_rest (record { kind = kinds.TooManyLines; span = whole_line number text }) ≡ Err e
        back (TooLong l same) = absurd (omega (arith, l, not_less 140000 (length text) short))
        back (Cut l open' same) = let clash : true ≡ false = sym ended ∙ open' in absurd cc
        back (TooMany l shut m same) = ap (λ (x : TextFault). Err x) (sym same)
    go false short true ended false many = (λ is. absurd cc, λ g. back g)
      where
        back : IsWholeFault number raw e → good_rest (rest_of number text) ≡ Err e
        back (TooLong l same) = absurd (omega (arith, l, not_less 140000 (length text) short))
        back (Cut l open' same) = let clash : true ≡ false = sym ended ∙ open' in absurd cc
        back (TooMany l shut m same) = absurd (omega (arith, m, not_less 10000000 number many))

abbrev bad : {B : Type 0} → TextFault → Result B TextFault
bad e = Err e

-- a line is read by its fields, of which these are the first that fail by the form
pub faults_of : {A B : Type 0} (form : Form) (fields : Rest → Result A TextFault) (make : Rest → A → B) → ((r : Rest) → failing (fields r) ≡ first_fault form r)
    → (number : ℕ) (raw : List ℕ) (e : TextFault) → ((line_rest number raw >>= λ r. fields r >>= λ f. Ok (make r f)) ≡ Err e) ↔ IsFaultOf form number raw e
faults_of {A} {B} form fields make agree number raw e = go (line_rest number raw) refl
  where
    go : (o : Result Rest TextFault) → line_rest number raw ≡ o → ((o >>= λ r. fields r >>= λ f. Ok (make r f)) ≡ Err e) ↔ IsFaultOf form number raw e
    go (Err f) is = (λ same. inl ((whole_is number raw e).0 (is ∙ again same)), λ g. back g)
      where
        again : bad {B = B} f ≡ Err e → bad_rest f ≡ Err e
        again same = let one : f ≡ e = cc in ap (λ (x : TextFault). bad_rest x) one

        back : IsFaultOf form number raw e → bad {B = B} f ≡ Err e
        back (inl whole) = let same : bad_rest f ≡ Err e = sym is ∙ (whole_is number raw e).1 whole in
            let one : f ≡ e = cc in ap (λ (x : TextFault). bad {B = B} x) one
        back (inr x) = let clash : bad_rest f ≡ Ok x.0 = sym is ∙ x.1 in absurd cc
    go (Ok r) is = (
      λ same. inr (
        r,
        is,
        (first_is form r e).0
            (sym (agree r) ∙ (sym (failing_map (fields r) (make r))
            ∙ (is_err (fields r >>= λ f. Ok (make r f)) e).0 same)),
      ),
      λ g. back g,
    )
      where
        back : IsFaultOf form number raw e → (fields r >>= λ f. Ok (make r f)) ≡ Err e
        back (inl whole) = let clash : good_rest r ≡ Err e = sym is ∙ (whole_is number raw e).1 whole in absurd cc
        back (inr x) =
            let same : good_rest x.0 ≡ Ok r = sym x.1 ∙ is in
            let one : x.0 ≡ r = cc in
            (is_err (fields r >>= λ f. Ok (make r f)) e).1
            (failing_map (fields r) (make r)
            ∙ (agree r ∙ (first_is form r e).1 (subst (λ (y : Rest). IsFirstFault form y e) one x.2)))

-- ---- a line whose text has to be as wanted

abbrev good_text : List ℕ → Result (List ℕ) TextFault
good_text t = Ok t

abbrev bad_text : TextFault → Result (List ℕ) TextFault
bad_text e = Err e

abbrev rest_with : ℕ → List ℕ → Result Rest TextFault
rest_with number t = Ok (rest_of number t)

text_there : (number : ℕ) (raw : List ℕ) (e : TextFault) → line_text number raw ≡ Err e → IsWholeFault number raw e
unfolding line_rest
text_there number raw e is = (whole_is number raw e).0 (ap (λ (o : Result (List ℕ) TextFault). o >>= rest_with number) is)

text_back : (number : ℕ) (raw : List ℕ) (e : TextFault) → IsWholeFault number raw e → line_text number raw ≡ Err e
unfolding line_rest
text_back number raw e g = go (line_text number raw) refl ((whole_is number raw e).1 g)
  where
    go : (o : Result (List ℕ) TextFault) → line_text number raw ≡ o → (o >>= rest_with number) ≡ Err e → line_text number raw ≡ Err e
    go (Ok t) is same = absurd cc
    go (Err f) is same = let one : f ≡ e = cc in is ∙ ap bad_text one

-- the fault where a text is another one
abbrev pub other_text : ℕ → List ℕ → TextFault
other_text number text = record { kind = kinds.Header; span = whole_line number text }

pub text_faults : {B : Type 0} (Wanted : List ℕ → Type 0) (number : ℕ) (read : List ℕ → Result B TextFault)
    → ((text : List ℕ) (e : TextFault) → (read text ≡ Err e) ↔ ((Wanted text → ⊥) × (e ≡ other_text number text)))
    → (raw : List ℕ) (e : TextFault) → ((line_text number raw >>= read) ≡ Err e) ↔ IsTextFaultOf Wanted number raw e
text_faults {B} Wanted number read agree raw e = go (line_text number raw) refl
  where
    go : (o : Result (List ℕ) TextFault) → line_text number raw ≡ o → ((o >>= read) ≡ Err e) ↔ IsTextFaultOf Wanted number raw e
    go (Err f) is = (λ same. let one : f ≡ e = cc in inl (text_there number raw e (is ∙ ap bad_text one)), λ g. back g)
      where
        back : IsTextFaultOf Wanted number raw e → bad {B = B} f ≡ Err e
        back (inl whole) = let same : bad_text f ≡ Err e = sym is ∙ text_back number raw e whole in
            let one : f ≡ e = cc in ap (λ (x : TextFault). bad {B = B} x) one
        back (inr x) = let clash : bad_text f ≡ Ok x.0 = sym is ∙ x.1 in absurd cc
    go (Ok t) is = (λ same. let other = (agree t e).0 same in inr (t, is, other.0, other.1), λ g. back g)
      where
        back : IsTextFaultOf Wanted number raw e → read t ≡ Err e
        back (inl whole) = let clash : good_text t ≡ Err e = sym is ∙ text_back number raw e whole in absurd cc
        back (inr x) =
            let same : good_text x.0 ≡ Ok t = sym x.1 ∙ is in
            let one : x.0 ≡ t = cc in
            (agree t e).1 (subst (λ (y : List ℕ). (Wanted y → ⊥) × (e ≡ other_text number y)) one (x.2, x.3))

abbrev good : Result (Unit {0}) TextFault
good = Ok tt

-- a line that has to stand as it is
pub exact_faults : (number : ℕ) (wanted raw : List ℕ) (e : TextFault)
    → (expect_line number wanted raw ≡ Err e) ↔ IsTextFaultOf (λ text. text ≡ wanted) number raw e
unfolding expect_line
exact_faults number wanted raw e = text_faults (λ text. text ≡ wanted) number (exact_text number wanted) agree raw e
  where
    agree : (text : List ℕ) (f : TextFault) → (exact_text number wanted text ≡ Err f) ↔ ((text ≡ wanted → ⊥) × (f ≡ other_text number text))
    agree text f = go (bytes_eq text wanted) refl
      where
        go : (b : Bool) → bytes_eq text wanted ≡ b
            → ((if b then good else Err (other_text number text)) ≡ Err f)
            ↔ ((text ≡ wanted → ⊥) × (f ≡ other_text number text))
        go true is = (λ same. absurd cc, λ g. absurd (g.0 ((bytes_eq-Decides text wanted).0 is)))
        go false is = (
          λ same. (λ equal. let clash : false ≡ true = sym is ∙ (bytes_eq-Decides text wanted).1 equal in absurd cc, cc),
          λ g. ap (λ (x : TextFault). bad {B = Unit {0}} x) (sym g.1),
        )

-- ---- lines that are read one after the other

-- each line has these faults, and is read where it is spelled so
module _ {S A : Type 0} (read : S → List ℕ → Result A TextFault) (R : S → A → List ℕ → Type 0)
    (Fault : S → List ℕ → TextFault → Type 0) (after : S → A → S) (law : IsLineReader read R)
    (agree : (state : S) (raw : List ℕ) (e : TextFault) → (read state raw ≡ Err e) ↔ Fault state raw e) where
  abbrev items_of : List A → Result (List A) TextFault
  items_of items = Ok items

  fault_there : (state : S) (raws : List (List ℕ)) (e : TextFault) → read_lines read after state raws ≡ Err e → IsFaultAmong R Fault after state raws e
  unfolding read_lines
  fault_there state [] e is = absurd cc
  fault_there state (raw ∷ raws) e is = go (read state raw) refl (λ item. fault_there (after state item) raws e) is
    where
      go : (o : Result A TextFault) → read state raw ≡ o
          → ((item : A) → read_lines read after (after state item) raws ≡ Err e
          → IsFaultAmong R Fault after (after state item) raws e)
          → (o >>= λ item. read_lines read after (after state item) raws >>= λ items. Ok (item ∷ items)) ≡ Err e
          → IsFaultAmong R Fault after state (raw ∷ raws) e
      go (Err f) at more is = let same : f ≡ e = cc in
          record {
            front = [];
            items = [];
            raw = raw;
            rest = raws;
            split = refl;
            spelled = tt;
            fault = subst (λ (x : TextFault). Fault state raw x) same ((agree state raw f).0 at);
          }
      go (Ok item) at more is = next (read_lines read after (after state item) raws) refl is
        where
          next : (o : Result (List A) TextFault) → read_lines read after (after state item) raws ≡ o
              → (o >>= λ items. items_of (item ∷ items)) ≡ Err e → IsFaultAmong R Fault after state (raw ∷ raws) e
          next (Ok items) rest is = absurd cc
          next (Err f) rest is =
              let same : f ≡ e = cc in
              let g = more item (rest ∙ ap (λ (x : TextFault). bad {B = List A} x) same) in
              record {
                front = raw ∷ g.front;
                items = item ∷ g.items;
                raw = g.raw;
                rest = g.rest;
                split = ap (λ (l : List (List ℕ)). raw ∷ l) g.split;
                spelled = (law.takes state raw item at, g.spelled);
                fault = g.fault;
              }

  fault_read : (state : S) (front : List (List ℕ)) (items : List A) (raw : List ℕ) (rest : List (List ℕ))
      (e : TextFault) → AreSpelled R after state items front → read (state_behind after state items) raw ≡ Err e
      → read_lines read after state (front ++ raw ∷ rest) ≡ Err e
  unfolding read_lines
  fault_read state [] [] raw rest e spelled bad =
      ap (λ (o : Result A TextFault). o >>= λ item. read_lines read after (after state item) rest >>= λ items.
      Ok (item ∷ items)) bad
  fault_read state [] (item ∷ items) raw rest e spelled bad = absurd spelled
  fault_read state (r ∷ front) [] raw rest e spelled bad = absurd spelled
  fault_read state (r ∷ front) (item ∷ items) raw rest e spelled bad =
      ap (λ (o : Result A TextFault). o >>= λ i. read_lines read after (after state i) (front ++ raw ∷ rest) >>= λ is.
      items_of (i ∷ is)) (law.again state r item spelled.0)
      ∙ ap (λ (o : Result (List A) TextFault). o >>= λ is. items_of (item ∷ is)) (fault_read (after state item) front items raw rest e spelled.1 bad)

  pub faults_among : (state : S) (raws : List (List ℕ)) (e : TextFault) → (read_lines read after state raws ≡ Err e) ↔ IsFaultAmong R Fault after state raws e
  faults_among state raws e = (
    fault_there state raws e,
    λ g. ap (read_lines read after state) g.split
        ∙ fault_read state g.front g.items g.raw g.rest e g.spelled
        ((agree (state_behind after state g.items) g.raw e).1 g.fault),
  )
