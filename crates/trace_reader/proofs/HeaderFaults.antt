-- What the reader of a header answers is its first fault.
use Rattle.std.proofs.Common.{◌≡◌, ℕ, ◌+◌, Bool, true, false, List, [], ◌∷◌, ◌++◌, length, Option, Some, None, Result}
use Rattle.std.proofs.Common.{Ok, Err, refl, ap, sym, subst, ◌∙◌, inl, inr, ◌⊎◌, arith}
use Rattle.std.specs.Prelude.{if◌then◌else◌, ◌==◌, ◌||◌, ◌&&◌, ◌↔◌, nat_le, codes}
use Rattle.std.specs.Fmt.{decimal, digits}
use Rattle.std.specs.Str.{bytes_eq}
use Rattle.std.specs.Str.Parse.{digits_value}
use Rattle.std.proofs.lemmas.Bool.{eqb-true}
use Rattle.std.proofs.lemmas.Slice.Eq.{bytes_eq-Decides}
use Rattle.case_forms.specs.declared.version.Version.{Version}
use Rattle.case_forms.specs.declared.version.Version.TheVariants.{One, Two, Three, Four, FourHalf, Five, FiveHalf, Six, SixHalf}
use Rattle.case_forms.specs.declared.version.Initial.{Initial}
use Rattle.case_forms.specs.declared.version.Initial.TheVariants.{Rfc5681, Rfc6928}
use Rattle.case_forms.specs.declared.version.Judged.{Judged}
use Rattle.case_forms.specs.declared.version.Judged.TheVariants.{Full, Recovery, NoControl}
use Rattle.case_forms.specs.declared.version.Growth.{Growth}
use Rattle.case_forms.specs.declared.version.Growth.TheVariants.{OneSegment}
use Rattle.case_forms.specs.declared.version.Sender.{Sender}
use Rattle.case_forms.specs.declared.version.Sender.TheVariants.{Reno}
use Rattle.case_forms.specs.Versions.{named_as, says_sender, says_slack}
use Rattle.line_fields.specs.Choice.{kind_named, kind_value, kind_field}
use Rattle.line_fields.specs.Congestion.{judged_of, judged_value, judged_field}
use Rattle.line_fields.specs.Faults.{missing_line}
use Rattle.line_fields.specs.Forms.{numeric, unknown, named}
use Rattle.line_fields.specs.Hosts.{hosted}
use Rattle.line_fields.specs.LineFaults.{IsTextFaultOf, IsNextFault}
use Rattle.line_fields.specs.Lines.{line_rest}
use Rattle.line_fields.specs.Reading.{◌>>=◌, fault_at, missing, first_of, next_field, is_number, number_value, number_field, or_fault}
use Rattle.line_fields.specs.Sender.{sender_name, all_senders, growth_name, all_growths}
use Rattle.line_fields.specs.Slack.{begins_digit, slack_value, slack_field}
use Rattle.line_fields.specs.Word.{Word, Rest}
use Rattle.line_fields.specs.declared.fault.FaultKind.{FaultKind}
use Rattle.line_fields.specs.declared.fault.FaultKind.TheVariants as kinds
use Rattle.line_fields.specs.declared.fault.TextFault.{TextFault}
use Rattle.line_fields.proofs.FieldFaults.{Agrees, number_agrees, named_agrees}
use Rattle.line_fields.proofs.LineFaults.{whole_is, other_text, text_faults}
use Rattle.line_fields.proofs.LineRests.{some_word}
use Rattle.line_fields.proofs.Readers.{field_by}
use Rattle.trace_reader.specs.HeaderForms.{IsFirstText, Row, row, initial_want, slack_want, judged_want, control_rows, last_rows, judged_rows, late_rows}
use Rattle.trace_reader.specs.HeaderForms.{header_rows, AreNamed, Fits, Breaks, Other, Bad, More}
use Rattle.trace_reader.specs.HeaderForms.{IsRow, IsRowFault, AreRows, IsRowsFault, IsHeaderFault, First, Rows}
use Rattle.trace_reader.specs.declared.late_lines.LateLines.{LateLines}
use Rattle.trace_reader.specs.Headers.{initial_number, header_fault, some_left, named_rest, alone, value_line, next_value}
use Rattle.trace_reader.specs.Headers.{version_in, first_version, first_line, initial_of, initial_value, initial_field}
use Rattle.trace_reader.specs.Headers.{initial_line, half_line, hosts_line, congestion_line, slack_line, last_line}
use Rattle.trace_reader.specs.Headers.{sender_line, growth_line, both_lines, control_lines}
use Rattle.trace_reader.specs.Headers.{late, judged_lines, late_lines, header_with, header_of}
use Rattle.trace_reader.proofs.HeaderLaw.{Raws, Headed, is_first, version_taken, version_given, version_takes, version_again}
use Rattle.trace_reader.proofs.HeaderLaw.{with_first, with_skew, with_msl, with_grain, with_minrto, with_extra}
use Rattle.trace_reader.proofs.HeaderLaw.{with_host, with_half, with_growth, with_sender, slack_too}
use Rattle.trace_reader.proofs.HeaderLaw.{with_control, with_last, with_congestion, with_hosts, with_judged}

abbrev bad : {A : Type 0} → TextFault → Result A TextFault
bad e = Err e

abbrev good : {A : Type 0} → A → Result A TextFault
good a = Ok a

-- ---- a value and its kind of fault

agrees_ok : {A : Type 0} (v : Result A TextFault) (k : Option FaultKind) (w : Word) → Agrees v k w → k ≡ None → (x : A) × (v ≡ Ok x)
agrees_ok (Ok x) k w agree is = (x, refl)
agrees_ok (Err e) None w agree is = absurd agree
agrees_ok (Err e) (Some kind) w agree is = absurd cc

agrees_err : {A : Type 0} (v : Result A TextFault) (k : Option FaultKind) (w : Word) (kind : FaultKind) → Agrees v k w
    → k ≡ Some kind → v ≡ Err (fault_at kind w)
agrees_err (Ok x) None w kind agree is = absurd cc
agrees_err (Ok x) (Some other) w kind agree is = absurd agree
agrees_err (Err e) None w kind agree is = absurd agree
agrees_err (Err e) (Some other) w kind agree is = let same : other ≡ kind = cc in ap bad agree ∙ ap (λ (k : FaultKind). bad (fault_at k w)) same

ok_agrees : {A : Type 0} (x : A) (k : Option FaultKind) (w : Word) → Agrees (Ok x) k w → k ≡ None
ok_agrees x None w agree = refl
ok_agrees x (Some kind) w agree = absurd agree

err_agrees : (A : Type 0) (e : TextFault) (k : Option FaultKind) (w : Word) → Agrees (bad {A = A} e) k w
    → (kind : FaultKind) × (k ≡ Some kind) × (e ≡ fault_at kind w)
err_agrees A e None w agree = absurd agree
err_agrees A e (Some kind) w agree = (kind, refl, agree)

-- ---- a line of a name and a value

module _ {A : Type 0} (value : Word → Result A TextFault) (r : Row) (agree : (w : Word) → Agrees (value w) (r.value w) w) where
  abbrev behind_name : TextFault → Word × Rest → Result (Rest × TextFault) TextFault
  behind_name header w = if bytes_eq w.0.text r.name then some_left header w.1.words w.1 else Err header

  abbrev last : Rest × TextFault → Result A TextFault
  last line = field_by value line.0 >>= λ a. alone line.1 a.0 a.1.words

  -- the fields of a line, of which these two are the first
  abbrev fields_in : TextFault → ℕ → ℕ → Word → Word → List Word → Result A TextFault
  fields_in header line stop name u more = behind_name header (name, record { line = line; stop = stop; words = u ∷ more }) >>= last

  alone_read : (header : TextFault) (line stop : ℕ) (name u : Word) (x : A) → name.text ≡ r.name → value u ≡ Ok x → fields_in header line stop name u [] ≡ Ok x
  alone_read header line stop name u x named is =
      let test = (bytes_eq-Decides name.text r.name).1 named in
      rw (test, is) refl

  fits_read : (header : TextFault) (line stop : ℕ) (name u : Word) → name.text ≡ r.name → r.value u ≡ None
      → (x : A) × (fields_in header line stop name u [] ≡ Ok x)
  fits_read header line stop name u named fits =
      let x = agrees_ok (value u) (r.value u) u (agree u) fits in
      (x.0, alone_read header line stop name u x.0 named x.1)

  bad_read : (header : TextFault) (line stop : ℕ) (name u : Word) (more : List Word) (kind : FaultKind)
      → name.text ≡ r.name → r.value u ≡ Some kind → fields_in header line stop name u more ≡ Err (fault_at kind u)
  bad_read header line stop name u more kind named is =
      let test = (bytes_eq-Decides name.text r.name).1 named in
      let fails = agrees_err (value u) (r.value u) u kind (agree u) is in
      rw (test, fails) refl

  more_read : (header : TextFault) (line stop : ℕ) (name u w : Word) (more : List Word) → name.text ≡ r.name
      → r.value u ≡ None → fields_in header line stop name u (w ∷ more) ≡ Err header
  more_read header line stop name u w more named fits =
      let test = (bytes_eq-Decides name.text r.name).1 named in
      let x = agrees_ok (value u) (r.value u) u (agree u) fits in
      let is = x.1 in rw (test, is) refl

  -- what was read of them
  abbrev Outcome : TextFault → List Word → Result A TextFault → Type 0
  Outcome header ws (Ok x) = Fits r ws
  Outcome header ws (Err e) = Breaks r header ws e

  outcome : (header : TextFault) (line stop : ℕ) (name u : Word) (more : List Word) → Outcome header (name ∷ u ∷ more) (fields_in header line stop name u more)
  outcome header line stop name u more = named (bytes_eq name.text r.name) refl
    where
      misnamed : bytes_eq name.text r.name ≡ false → (v : Word) (rest : List Word) → AreNamed r (name ∷ u ∷ more) v rest → ⊥
      misnamed is v rest x =
          let split = x.1 in
          let same : name ≡ x.0 = cc in
          let clash : false ≡ true = sym is ∙ (bytes_eq-Decides name.text r.name).1 (ap (λ (w : Word). w.text) same ∙ x.2) in
          absurd cc

      valued : bytes_eq name.text r.name ≡ true → (v : Result A TextFault) → value u ≡ v → Agrees v (r.value u) u
          → (ws : List Word) → Outcome header (name ∷ u ∷ ws)
          ((v >>= λ x. good {A = A × Rest} (x, record { line = line; stop = stop; words = ws })) >>= λ a.
          alone header a.0 a.1.words)
      valued test (Err e) is fails ws = let kind = err_agrees A e (r.value u) u fails in
          Bad u ws kind.0 (name, refl, (bytes_eq-Decides name.text r.name).0 test) kind.1 kind.2
      valued test (Ok x) is fits [] = (u, (name, refl, (bytes_eq-Decides name.text r.name).0 test), ok_agrees x (r.value u) u fits)
      valued test (Ok x) is fits (w ∷ ws) = More u w ws (name, refl, (bytes_eq-Decides name.text r.name).0 test) (ok_agrees x (r.value u) u fits) refl

      named : (b : Bool) → bytes_eq name.text r.name ≡ b
          → Outcome header (name ∷ u ∷ more)
          ((if b then Ok (record { line = line; stop = stop; words = u ∷ more }, header) else Err header) >>= last)
      named false is = Other (misnamed is) refl
      named true is = valued is (value u) refl (agree u) more

  abbrev words_in : TextFault → TextFault → ℕ → ℕ → List Word → Result A TextFault
  words_in none header line stop ws = (first_of none line stop ws >>= behind_name header) >>= last

  lone_read : (none header : TextFault) (line stop : ℕ) (w : Word) → words_in none header line stop (w ∷ []) ≡ Err header
  lone_read none header line stop w = go (bytes_eq w.text r.name)
    where
      go : (b : Bool) → ((if b then Err header else Err header) >>= last) ≡ Err header
      go true = refl
      go false = refl

  lone_wrong : (w v : Word) (rest : List Word) → AreNamed r (w ∷ []) v rest → ⊥
  lone_wrong w v rest x = let split = x.1 in absurd cc

  all_outcomes : (none header : TextFault) (line stop : ℕ) (ws : List Word) → (ws ≡ [] → ⊥) → Outcome header ws (words_in none header line stop ws)
  all_outcomes none header line stop [] some = absurd (some refl)
  all_outcomes none header line stop (w ∷ []) some = subst (Outcome header (w ∷ [])) (sym (lone_read none header line stop w)) (Other (lone_wrong w) refl)
  all_outcomes none header line stop (w ∷ u ∷ more) some = outcome header line stop w u more

  breaks_read : (none header : TextFault) (line stop : ℕ) (ws : List Word) (e : TextFault) → (ws ≡ [] → ⊥)
      → Breaks r header ws e → words_in none header line stop ws ≡ Err e
  breaks_read none header line stop ws e some (Bad u more kind named is same) =
      ap (words_in none header line stop) named.1 ∙ bad_read header line stop named.0 u more kind named.2 is ∙ ap bad (sym same)
  breaks_read none header line stop ws e some (More u w more named fits same) =
      ap (words_in none header line stop) named.1 ∙ more_read header line stop named.0 u w more named.2 fits ∙ ap bad (sym same)
  breaks_read none header line stop [] e some (Other wrong same) = absurd (some refl)
  breaks_read none header line stop (w ∷ []) e some (Other wrong same) = lone_read none header line stop w ∙ ap bad (sym same)
  breaks_read none header line stop (w ∷ u ∷ more) e some (Other wrong same) = go (bytes_eq w.text r.name) refl
    where
      go : (b : Bool) → bytes_eq w.text r.name ≡ b
          → ((if b then Ok (record { line = line; stop = stop; words = u ∷ more }, header) else Err header) >>= last)
          ≡ Err e
      go false is = ap bad (sym same)
      go true is = absurd (wrong u more (w, refl, (bytes_eq-Decides w.text r.name).0 is))

  fits_in : (none header : TextFault) (line stop : ℕ) (ws : List Word) → Fits r ws → (x : A) × (words_in none header line stop ws ≡ Ok x)
  fits_in none header line stop ws fits =
      let x = fits_read header line stop fits.1.0 fits.0 fits.1.2 fits.2 in
      (x.0, ap (words_in none header line stop) fits.1.1 ∙ x.1)

  -- the line itself
  abbrev line_read : ℕ → List ℕ → Result A TextFault
  line_read number raw = value_line number r.name (field_by value) raw

  abbrev rest_read : ℕ → Result Rest TextFault → Result A TextFault
  rest_read number o = (o >>= λ q. next_field q >>= behind_name (header_fault number q)) >>= last

  line_is : (number : ℕ) (raw : List ℕ) → line_read number raw ≡ rest_read number (line_rest number raw)
  unfolding value_line named_rest
  line_is number raw = refl

  row_fits : (number : ℕ) (raw : List ℕ) (x : A) → line_read number raw ≡ Ok x → IsRow r number raw
  row_fits number raw x same = go (line_rest number raw) refl (sym (line_is number raw) ∙ same)
    where
      go : (o : Result Rest TextFault) → line_rest number raw ≡ o → rest_read number o ≡ Ok x → IsRow r number raw
      go (Err f) is same = absurd cc
      go (Ok q) is same = (
        q,
        is,
        subst (Outcome (header_fault number q) q.words) same
            (all_outcomes (missing q) (header_fault number q) q.line q.stop q.words (some_word number raw q is)),
      )

  row_read : (number : ℕ) (raw : List ℕ) → IsRow r number raw → (x : A) × (line_read number raw ≡ Ok x)
  row_read number raw g =
      let x = fits_in (missing g.0) (header_fault number g.0) g.0.line g.0.stop g.0.words g.2 in
      (x.0, line_is number raw ∙ ap (rest_read number) g.1 ∙ x.1)

  row_faults : (number : ℕ) (raw : List ℕ) (e : TextFault) → (line_read number raw ≡ Err e) ↔ IsRowFault r number raw e
  row_faults number raw e = (λ same. there (line_rest number raw) refl (sym (line_is number raw) ∙ same), λ g. line_is number raw ∙ back g)
    where
      there : (o : Result Rest TextFault) → line_rest number raw ≡ o → rest_read number o ≡ Err e → IsRowFault r number raw e
      there (Err f) is same = let one : f ≡ e = cc in inl ((whole_is number raw e).0 (is ∙ ap bad one))
      there (Ok q) is same =
          inr (
            q,
            is,
            subst (Outcome (header_fault number q) q.words) same
                (all_outcomes (missing q) (header_fault number q) q.line q.stop q.words (some_word number raw q is)),
          )

      back : IsRowFault r number raw e → rest_read number (line_rest number raw) ≡ Err e
      back (inl whole) = ap (rest_read number) ((whole_is number raw e).1 whole)
      back (inr x) =
          ap (rest_read number) x.1 ∙ breaks_read (missing x.0) (header_fault number x.0) x.0.line x.0.stop x.0.words e
          (some_word number raw x.0 x.1) x.2

-- ---- lines of the header

-- the first fault of lines that have to have these forms, line by line
abbrev Faulty : ℕ → List Row → Raws → TextFault → Type 0
Faulty number [] raws e = ⊥
Faulty number (r ∷ rows) [] e = e ≡ missing_line number
Faulty number (r ∷ rows) (raw ∷ raws) e = IsRowFault r number raw e ⊎ (IsRow r number raw × Faulty (number + 1) rows raws e)

faulty_rows : (number : ℕ) (rows : List Row) (raws : Raws) (e : TextFault) → Faulty number rows raws e → IsRowsFault number rows raws e
faulty_rows number [] raws e g = absurd g
faulty_rows number (r ∷ rows) [] e g =
    record {
      done = [];
      next = r;
      left = rows;
      front = [];
      rest = [];
      forms = refl;
      split = refl;
      good = tt;
      fault = subst (λ (n : ℕ). e ≡ missing_line n) (omega arith) g;
    }
faulty_rows number (r ∷ rows) (raw ∷ raws) e (inl g) =
    record {
      done = [];
      next = r;
      left = rows;
      front = [];
      rest = raw ∷ raws;
      forms = refl;
      split = refl;
      good = tt;
      fault = subst (λ (n : ℕ). IsRowFault r n raw e) (omega arith) g;
    }
faulty_rows number (r ∷ rows) (raw ∷ raws) e (inr g) =
    let x = faulty_rows (number + 1) rows raws e g.1 in
    record {
      done = r ∷ x.done;
      next = x.next;
      left = x.left;
      front = raw ∷ x.front;
      rest = x.rest;
      forms = ap (λ (rs : List Row). r ∷ rs) x.forms;
      split = ap (λ (us : Raws). raw ∷ us) x.split;
      good = (g.0, x.good);
      fault = subst (λ (n : ℕ). IsNextFault (IsRowFault x.next) n x.rest e) (omega arith) x.fault;
    }

rows_faulty : (number : ℕ) (done left : List Row) (next : Row) (front rest : Raws) (e : TextFault)
    → AreRows number done front → IsNextFault (IsRowFault next) (number + length done) rest e
    → Faulty number (done ++ next ∷ left) (front ++ rest) e
rows_faulty number [] left next [] [] e good fault = subst (λ (n : ℕ). e ≡ missing_line n) (omega arith) fault
rows_faulty number [] left next [] (raw ∷ rest) e good fault = inl (subst (λ (n : ℕ). IsRowFault next n raw e) (omega arith) fault)
rows_faulty number [] left next (raw ∷ front) rest e good fault = absurd good
rows_faulty number (r ∷ done) left next [] rest e good fault = absurd good
rows_faulty number (r ∷ done) left next (raw ∷ front) rest e good fault =
    inr (good.0, rows_faulty (number + 1) done left next front rest e good.1 (subst (λ (n : ℕ). IsNextFault (IsRowFault next) n rest e) (omega arith) fault))

-- what reads these lines has their first fault
abbrev Heads : {B : Type 0} → ℕ → List Row → (Raws → Result B TextFault) → Type 0
Heads number rows read = (raws : Raws) (e : TextFault) → (read raws ≡ Err e) ↔ Faulty number rows raws e

row_then : {A B : Type 0} (value : Word → Result A TextFault) (r : Row) → ((w : Word) → Agrees (value w) (r.value w) w)
    → (number : ℕ) (rows : List Row) (next : A × Raws → Result B TextFault)
    → ((a : A) → Heads (number + 1) rows (λ raws. next (a, raws))) → Heads number (r ∷ rows) (λ raws. next_value number r.name (field_by value) raws >>= next)
unfolding next_value
row_then {A} {B} value r agree number rows next on [] e = (λ same. cc, λ same. ap (λ (x : TextFault). bad {A = B} x) (sym same))
row_then {A} {B} value r agree number rows next on (raw ∷ raws) e = go (value_line number r.name (field_by value) raw) refl
  where
    go : (o : Result A TextFault) → value_line number r.name (field_by value) raw ≡ o
        → (((o >>= λ a. good (a, raws)) >>= next) ≡ Err e) ↔ Faulty number (r ∷ rows) (raw ∷ raws) e
    go (Err f) is = (
      λ same. let one : f ≡ e = cc in inl ((row_faults value r agree number raw e).0 (is ∙ ap (λ (x : TextFault). bad {A = A} x) one)),
      λ g. back g,
    )
      where
        back : Faulty number (r ∷ rows) (raw ∷ raws) e → bad {A = B} f ≡ Err e
        back (inl g) = let same : bad {A = A} f ≡ Err e = sym is ∙ (row_faults value r agree number raw e).1 g in
            let one : f ≡ e = cc in ap (λ (x : TextFault). bad {A = B} x) one
        back (inr g) = let x = row_read value r agree number raw g.0 in let clash : bad {A = A} f ≡ Ok x.0 = sym is ∙ x.1 in absurd cc
    go (Ok a) is = (λ same. inr (row_fits value r agree number raw a is, (on a raws e).0 same), λ g. back g)
      where
        back : Faulty number (r ∷ rows) (raw ∷ raws) e → next (a, raws) ≡ Err e
        back (inl g) = let clash : good a ≡ Err e = sym is ∙ (row_faults value r agree number raw e).1 g in absurd cc
        back (inr g) = (on a raws e).1 g.1

number_then : {B : Type 0} (name : List ℕ) (least most : ℕ) (number : ℕ) (rows : List Row) (next : ℕ × Raws → Result B TextFault)
    → ((n : ℕ) → Heads (number + 1) rows (λ raws. next (n, raws)))
    → Heads number (row name (numeric least most) ∷ rows)
    (λ raws. next_value number name (number_field least most) raws >>= next)
unfolding number_field
number_then name least most number rows next on =
    row_then (number_value least most) (row name (numeric least most)) (number_agrees least most) number rows next on

-- the RFC of the first congestion window
abbrev value_at : Word → List ℕ → Result Initial TextFault
value_at w t =
    (if length t == 0 then Err (fault_at kinds.Field w) else if is_number 5681 6928 t (digits_value 10 t)
    then Ok (digits_value 10 t) else Err (fault_at kinds.Number w)) >>= initial_of w

abbrev want_at : List ℕ → Option FaultKind
want_at t = if length t == 0 then Some kinds.Field else (if bytes_eq t (codes "5681") || bytes_eq t (codes "6928") then None else Some kinds.Number)

abbrev spells : Initial → List ℕ
spells Rfc5681 = codes "5681"
spells Rfc6928 = codes "6928"

written : (i : Initial) → decimal (initial_number i) ≡ spells i
unfolding digits
written Rfc5681 = refl
written Rfc6928 = refl

given : (w : Word) (i : Initial) → Agrees (value_at w (spells i)) (want_at (spells i)) w
unfolding digits
given w Rfc5681 = tt
given w Rfc6928 = tt

all_three : (a b c : Bool) → (a && b && c) ≡ true → a ≡ true
all_three true b c is = refl
all_three false b c is = cc

initial_at : (w : Word) (t : List ℕ) → Agrees (value_at w t) (want_at t) w
initial_at w t = go (bytes_eq t (codes "5681")) refl (bytes_eq t (codes "6928")) refl
  where
    n : ℕ
    n = digits_value 10 t

    spelled : (i : Initial) → is_number 5681 6928 t n ≡ true → (n == initial_number i) ≡ true → bytes_eq t (spells i) ≡ true
    spelled i is same =
        let text : t ≡ decimal n = (bytes_eq-Decides t (decimal n)).0 (all_three (bytes_eq t (decimal n)) (nat_le 5681 n) (nat_le n 6928) is) in
        (bytes_eq-Decides t (spells i)).1 (text ∙ ap decimal (eqb-true n (initial_number i) same) ∙ written i)

    neither : bytes_eq t (codes "5681") ≡ false → bytes_eq t (codes "6928") ≡ false → (d c : Bool) → is_number 5681 6928 t n ≡ c
        → Agrees ((if d then Err (fault_at kinds.Field w) else if c then Ok n else Err (fault_at kinds.Number w))
        >>= initial_of w) (if d then Some kinds.Field else Some kinds.Number) w
    neither x y true c is = refl
    neither x y false false is = refl
    neither x y false true is = numbers (n == 5681) refl (n == 6928) refl
      where
        numbers : (f : Bool) → (n == 5681) ≡ f → (g : Bool) → (n == 6928) ≡ g
            → Agrees (if f then Ok Rfc5681 else if g then Ok Rfc6928 else Err (fault_at kinds.Number w))
            (Some kinds.Number) w
        numbers true same g other = let clash : false ≡ true = sym x ∙ spelled Rfc5681 is same in absurd cc
        numbers false same true other = let clash : false ≡ true = sym y ∙ spelled Rfc6928 is other in absurd cc
        numbers false same false other = refl

    go : (a : Bool) → bytes_eq t (codes "5681") ≡ a → (b : Bool) → bytes_eq t (codes "6928") ≡ b → Agrees (value_at w t) (want_at t) w
    go true is b other = subst (λ (s : List ℕ). Agrees (value_at w s) (want_at s) w) (sym ((bytes_eq-Decides t (codes "5681")).0 is)) (given w Rfc5681)
    go false is true other = subst (λ (s : List ℕ). Agrees (value_at w s) (want_at s) w) (sym ((bytes_eq-Decides t (codes "6928")).0 other)) (given w Rfc6928)
    go false is false other = rw (is, other) (neither is other (length t == 0) (is_number 5681 6928 t n) refl)

initial_agrees : (w : Word) → Agrees (initial_value w) (initial_want w) w
unfolding number_value
initial_agrees w = initial_at w w.text

initial_then : {B : Type 0} (rows : List Row) (next : Initial × Raws → Result B TextFault)
    → ((i : Initial) → Heads 8 rows (λ raws. next (i, raws)))
    → Heads 7 (row (codes "initial") initial_want ∷ rows) (λ raws. initial_line raws >>= next)
unfolding initial_field
initial_then rows next on = row_then initial_value (row (codes "initial") initial_want) initial_agrees 7 rows next on

regroup : {A B C : Type 0} (m : Result A TextFault) (g : A → Result B TextFault) (f : B → Result C TextFault) → ((m >>= g) >>= f) ≡ (m >>= λ x. g x >>= f)
regroup (Ok x) g f = refl
regroup (Err e) g f = refl

-- what reads the same has the same first faults
heads_as : {B : Type 0} (number : ℕ) (rows : List Row) (read other : Raws → Result B TextFault)
    → ((raws : Raws) → read raws ≡ other raws) → Heads number rows other → Heads number rows read
heads_as number rows read other same on raws e = (λ is. (on raws e).0 (sym (same raws) ∙ is), λ g. same raws ∙ (on raws e).1 g)

-- nothing more is read
no_more_rows : {B : Type 0} (number : ℕ) (given : Raws → B) → Heads number [] (λ raws. good (given raws))
no_more_rows number given raws e = (λ same. absurd cc, λ g. absurd g)

-- what is read in two steps
grouped : {A B C : Type 0} (number : ℕ) (rows : List Row) (m : Raws → Result A TextFault) (g : A → Result B TextFault) (f : B → Result C TextFault)
    → Heads number rows (λ raws. m raws >>= λ x. g x >>= f) → Heads number rows (λ raws. (m raws >>= g) >>= f)
grouped number rows m g f on = heads_as number rows _ (λ raws. m raws >>= λ x. g x >>= f) (λ raws. regroup (m raws) g f) on

abbrev word_of : Bool → Bool → Bool → Option Judged
word_of full recovery none = if full then Some Full else if recovery then Some Recovery else if none then Some NoControl else None

-- one of these words, and in version 6 not `full`
judged_agrees : (v : Version) (w : Word) → Agrees (judged_value v w) (judged_want v w) w
judged_agrees v w = go (says_sender v) refl (bytes_eq w.text (codes "full")) (bytes_eq w.text (codes "recovery")) (bytes_eq w.text (codes "none"))
  where
    go : (says : Bool) → says_sender v ≡ says → (a b c : Bool)
        → Agrees (or_fault (fault_at kinds.Field w) (word_of a b c) >>= judged_of v w)
        (if says && a then Some kinds.Field else unknown (word_of a b c)) w
    go true is true b c = rw is refl
    go false is true b c = rw is tt
    go true is false true c = tt
    go false is false true c = tt
    go true is false false true = tt
    go false is false false true = tt
    go true is false false false = refl
    go false is false false false = refl

congestion_then : {B : Type 0} (v : Version) (rows : List Row) (next : Judged × Raws → Result B TextFault)
    → ((j : Judged) → Heads 10 rows (λ raws. next (j, raws)))
    → Heads 9 (row (codes "congestion") (judged_want v) ∷ rows) (λ raws. congestion_line v raws >>= next)
unfolding judged_field
congestion_then v rows next on = row_then (judged_value v) (row (codes "congestion") (judged_want v)) (judged_agrees v) 9 rows next on

-- how late a host may be
known : (v : Result ℕ TextFault) (k : Option FaultKind) (w : Word) → Agrees v k w → Agrees (v >>= λ n. good (Some n)) k w
known (Ok n) None w agree = tt
known (Ok n) (Some kind) w agree = absurd agree
known (Err e) None w agree = absurd agree
known (Err e) (Some kind) w agree = agree

slack_agrees : (w : Word) → Agrees (slack_value w) (slack_want w) w
slack_agrees w = go (bytes_eq w.text (codes "any")) (begins_digit w.text)
  where
    go : (a b : Bool)
        → Agrees (if a then good None else if b then (number_value 0 1000000000000000000 w >>= λ n. good (Some n)) else Err (fault_at kinds.Field w))
        (if a then None else if b then numeric 0 1000000000000000000 w else Some kinds.Field) w
    go true b = tt
    go false true =
        known (number_value 0 1000000000000000000 w) (numeric 0 1000000000000000000 w) w (number_agrees 0 1000000000000000000 w)
    go false false = refl

last_then : {B : Type 0} (v : Version) (next : Option ℕ × Raws → Result B TextFault)
    → ((o : Option ℕ) → Heads 11 (control_rows v) (λ raws. next (o, raws))) → Heads 10 (last_rows v) (λ raws. last_line v raws >>= next)
unfolding slack_field
last_then {B} v next on = go (says_slack v) refl
  where
    go : (b : Bool) → says_slack v ≡ b
        → Heads 10 (if b then row (codes "slack") slack_want ∷ control_rows v else []) (λ raws. (if b then slack_line raws else good (None, raws)) >>= next)
    go true is = row_then slack_value (row (codes "slack") slack_want) slack_agrees 10 (control_rows v) next on
    go false is =
        let none = slack_too v is in
        let rows : control_rows v ≡ [] = rw none refl in
        subst (λ (rs : List Row). Heads 11 rs (λ raws. next (None, raws))) rows (on None)

-- a line of a name and one of some words
word_then : {K B : Type 0} (name : List ℕ) (word : K → List ℕ) (kinds : List K) (number : ℕ) (rows : List Row) (next : K × Raws → Result B TextFault)
    → ((k : K) → Heads (number + 1) rows (λ raws. next (k, raws)))
    → Heads number (row name (named word kinds) ∷ rows) (λ raws. next_value number name (kind_field word kinds) raws >>= next)
word_then name word kinds number rows next on =
    row_then (kind_value word kinds) (row name (named word kinds)) (λ w. named_agrees w (kind_named word kinds w.text)) number rows next on

control_then : {B : Type 0} (v : Version) (f : (Sender × Growth) × Raws → B) → Heads 11 (control_rows v) (λ raws. control_lines v raws >>= λ k. good (f k))
unfolding both_lines
control_then {B} v f = go (says_sender v)
  where
    growth_row : List Row
    growth_row = row (codes "growth") (named growth_name all_growths) ∷ []

    end : (Sender × Growth) × Raws → Result B TextFault
    end k = good (f k)

    both : Heads 11 (row (codes "sender") (named sender_name all_senders) ∷ growth_row) (λ raws. (sender_line raws >>= with_sender) >>= end)
    both = grouped 11 (row (codes "sender") (named sender_name all_senders) ∷ growth_row) sender_line with_sender end
        (word_then (codes "sender") sender_name all_senders 11 growth_row (λ s. with_sender s >>= end)
        (λ s. grouped 12 growth_row growth_line (with_growth s) end
        (word_then (codes "growth") growth_name all_growths 12 [] (λ g. with_growth s g >>= end)
        (λ g. no_more_rows 13 (λ raws. f ((s, g), raws))))))

    go : (b : Bool)
        → Heads 11 (if b then row (codes "sender") (named sender_name all_senders) ∷ row (codes "growth") (named growth_name all_growths) ∷ [] else [])
        (λ raws. (if b then both_lines raws else good ((Reno, OneSegment), raws)) >>= λ k. good (f k))
    go true = both
    go false = no_more_rows 11 (λ raws. f ((Reno, OneSegment), raws))

half_then : {B : Type 0} (f : LateLines × Raws → B) → Heads 7 (late_rows Three) (λ raws. late_lines Three raws >>= λ x. good (f x))
half_then {B} f =
    grouped 7 (late_rows Three) initial_line with_half end
    (initial_then (row (codes "half") (numeric 0 0) ∷ []) (λ i. with_half i >>= end)
    (λ i. grouped 8 (row (codes "half") (numeric 0 0) ∷ []) half_line (with_host i) end
    (number_then (codes "half") 0 0 8 [] (λ h. with_host i h >>= end)
    (λ n. no_more_rows 9 (λ raws. f (late Three i Full None Reno OneSegment, raws))))))
  where
    end : LateLines × Raws → Result B TextFault
    end x = good (f x)

judged_then : {B : Type 0} (v : Version) (f : LateLines × Raws → B) → Heads 7 (judged_rows v) (λ raws. judged_lines v raws >>= λ x. good (f x))
judged_then {B} v f =
    grouped 7 (judged_rows v) initial_line (with_judged v) end
    (initial_then from_hosts (λ i. with_judged v i >>= end)
    (λ i. grouped 8 from_hosts hosts_line (with_hosts v i) end
    (number_then (codes "hosts") 1 2 8 from_congestion (λ h. with_hosts v i h >>= end)
    (λ n. grouped 9 from_congestion (congestion_line v) (with_congestion v i n) end
    (congestion_then v (last_rows v) (λ c. with_congestion v i n c >>= end)
    (λ j. grouped 10 (last_rows v) (last_line v) (with_last v i n j) end
    (last_then v (λ o. with_last v i n j o >>= end)
    (λ o. grouped 11 (control_rows v) (control_lines v) (with_control v i n j o) end
    (control_then v (λ k. (f (late (hosted v n) i j o k.0.0 k.0.1, k.1))))))))))))
  where
    end : LateLines × Raws → Result B TextFault
    end x = good (f x)

    from_congestion : List Row
    from_congestion = row (codes "congestion") (judged_want v) ∷ last_rows v

    from_hosts : List Row
    from_hosts = row (codes "hosts") (numeric 1 2) ∷ from_congestion

late_then : {B : Type 0} (v : Version) (f : LateLines × Raws → B) → Heads 7 (late_rows v) (λ raws. late_lines v raws >>= λ x. good (f x))
late_then One f = no_more_rows 7 (λ raws. f (late One Rfc5681 Full None Reno OneSegment, raws))
late_then Two f = grouped 7 (late_rows Two) initial_line (λ i. Ok (late Two i.0 Full None Reno OneSegment, i.1)) (λ x. good (f x))
    (initial_then [] (λ i. good (f (late Two i.0 Full None Reno OneSegment, i.1)))
    (λ i. no_more_rows 8 (λ raws. f (late Two i Full None Reno OneSegment, raws))))
late_then Three f = half_then f
late_then Four f = judged_then Four f
late_then FourHalf f = judged_then FourHalf f
late_then Five f = judged_then Five f
late_then FiveHalf f = judged_then FiveHalf f
late_then Six f = judged_then Six f
late_then SixHalf f = judged_then SixHalf f

abbrev from_extra : Version → List Row
from_extra v = row (codes "extra") (numeric 0 65535) ∷ late_rows v

abbrev from_minrto : Version → List Row
from_minrto v = row (codes "minrto") (numeric 0 60000000) ∷ from_extra v

abbrev from_grain : Version → List Row
from_grain v = row (codes "grain") (numeric 0 60000000) ∷ from_minrto v

abbrev from_msl : Version → List Row
from_msl v = row (codes "msl") (numeric 1 3600000000) ∷ from_grain v

others_then : (v : Version) → Heads 2 (header_rows v) (λ raws. with_first (v, raws))
others_then v = number_then (codes "skew") 0 1000000000 2 (from_msl v) (with_skew v)
    (λ s. number_then (codes "msl") 1 3600000000 3 (from_grain v) (with_msl v s)
    (λ m. number_then (codes "grain") 0 60000000 4 (from_minrto v) (with_grain v s m)
    (λ g. number_then (codes "minrto") 0 60000000 5 (from_extra v) (with_minrto v s m g)
    (λ i. number_then (codes "extra") 0 65535 6 (late_rows v) (with_extra v s m g i)
    (λ x. late_then v (λ l. (header_with s m g i x l.0, l.1)))))))

-- ---- the first line

version_err : (text : List ℕ) (e : TextFault) → version_in text ≡ Err e → e ≡ other_text 1 text
version_err text e = go (is_first text One) (is_first text Two) (is_first text Three) (is_first text Four) (is_first text Five) (is_first text Six)
  where
    go : (a b c d f g : Bool)
        → (if a then good One else if b then Ok Two else if c then Ok Three else if d then Ok Four else if f then Ok Five else if g then Ok Six
        else Err (other_text 1 text)) ≡ Err e
        → e ≡ other_text 1 text
    go true b c d f g same = absurd cc
    go false true c d f g same = absurd cc
    go false false true d f g same = absurd cc
    go false false false true f g same = absurd cc
    go false false false false true g same = absurd cc
    go false false false false false true same = absurd cc
    go false false false false false false same = cc

version_agrees : (text : List ℕ) (e : TextFault) → (version_in text ≡ Err e) ↔ ((IsFirstText text → ⊥) × (e ≡ other_text 1 text))
version_agrees text e = (λ same. (wrong same, version_err text e same), λ g. back (version_in text) refl g)
  where
    wrong : version_in text ≡ Err e → IsFirstText text → ⊥
    wrong same x = let clash : bad e ≡ Ok (named_as x.0) = sym same ∙ ap version_in x.1 ∙ version_given x.0 in absurd cc

    back : (o : Result Version TextFault) → version_in text ≡ o → ((IsFirstText text → ⊥) × (e ≡ other_text 1 text)) → version_in text ≡ Err e
    back (Ok v) is g = absurd (g.0 (v, version_taken text v is))
    back (Err f) is g = is ∙ ap (λ (x : TextFault). bad {A = Version} x) (version_err text f is ∙ sym g.1)

first_faults : (raw : List ℕ) (e : TextFault) → (first_version raw ≡ Err e) ↔ IsTextFaultOf IsFirstText 1 raw e
unfolding first_version
first_faults raw e = text_faults IsFirstText 1 version_in version_agrees raw e

-- ---- the header

-- both of version 4 have the same lines, as have both of version 5 and of version 6
rows_named : (v : Version) → header_rows v ≡ header_rows (named_as v)
rows_named One = refl
rows_named Two = refl
rows_named Three = refl
rows_named Four = refl
rows_named FourHalf = refl
rows_named Five = refl
rows_named FiveHalf = refl
rows_named Six = refl
rows_named SixHalf = refl

pub header_faults : (raws : List (List ℕ)) (e : TextFault) → (header_of raws ≡ Err e) ↔ IsHeaderFault raws e
unfolding header_of first_line
header_faults [] e = (λ same. First cc, λ g. back g)
  where
    back : IsHeaderFault [] e → bad {A = Headed} (missing_line 1) ≡ Err e
    back (First fault) = ap (λ (x : TextFault). bad {A = Headed} x) (sym fault)
    back (Rows v first others split line fault) = absurd cc
header_faults (raw ∷ raws) e = go (first_version raw) refl
  where
    go : (o : Result Version TextFault) → first_version raw ≡ o → (((o >>= λ v. good (v, raws)) >>= with_first) ≡ Err e) ↔ IsHeaderFault (raw ∷ raws) e
    go (Err f) is = (λ same. let one : f ≡ e = cc in First ((first_faults raw e).0 (is ∙ ap (λ (x : TextFault). bad {A = Version} x) one)), λ g. back g)
      where
        back : IsHeaderFault (raw ∷ raws) e → bad {A = Headed} f ≡ Err e
        back (First fault) = let same : bad {A = Version} f ≡ Err e = sym is ∙ (first_faults raw e).1 fault in
            let one : f ≡ e = cc in ap (λ (x : TextFault). bad {A = Headed} x) one
        back (Rows v first others split line fault) =
            let one : first ≡ raw = cc in
            let clash : bad {A = Version} f ≡ Ok (named_as v) = sym is ∙ ap first_version (sym one) ∙ version_again v first line in absurd cc
    go (Ok v) is = (λ same. Rows v raw raws refl (version_takes raw v is) (faulty_rows 2 (header_rows v) raws e ((others_then v raws e).0 same)), λ g. back g)
      where
        back : IsHeaderFault (raw ∷ raws) e → with_first (v, raws) ≡ Err e
        back (First fault) = let clash : good v ≡ Err e = sym is ∙ (first_faults raw e).1 fault in absurd cc
        back (Rows u first others split line g) =
            let one : first ≡ raw = cc in
            let rest : others ≡ raws = cc in
            let same : good (named_as u) ≡ Ok v = sym (version_again u first line) ∙ ap first_version one ∙ is in
            let read_as : named_as u ≡ v = cc in
            let faulty = rows_faulty 2 g.done g.left g.next g.front g.rest e g.good g.fault in
            let formed = subst (λ (rs : List Row). Faulty 2 rs (g.front ++ g.rest) e) (sym g.forms ∙ rows_named u ∙ ap header_rows read_as) faulty in
            let all : Faulty 2 (header_rows v) raws e = subst (λ (us : Raws). Faulty 2 (header_rows v) us e) (sym g.split ∙ rest) formed in
            (others_then v raws e).1 all
