-- What the reader of a step answers is the first fault by its form.
use Rattle.std.proofs.Common.{◌≡◌, ℕ, Bool, true, false, List, [], ◌∷◌, Option, None, Some, Result, Ok, Err, refl, ◌∙◌}
use Rattle.std.specs.Prelude.{if◌then◌else◌, ◌==◌, ◌↔◌, codes}
use Rattle.std.specs.Str.{bytes_eq}
use Rattle.seqno.specs.declared.word.Word as numbers
use Rattle.case_forms.specs.Versions.{scales}
use Rattle.case_forms.specs.declared.calls.Host.{Host}
use Rattle.case_forms.specs.declared.named_line.Extras.{Extras}
use Rattle.case_forms.specs.declared.named_line.Extras.TheVariants.{Bare, One, Two}
use Rattle.case_forms.specs.declared.named_line.NamedLine.{NamedLine}
use Rattle.case_forms.specs.declared.steps.Flags.{Flags}
use Rattle.case_forms.specs.declared.steps.Label.{Label}
use Rattle.case_forms.specs.declared.steps.Label.TheVariants.{L, D, M, T, K, R, F}
use Rattle.case_forms.specs.declared.steps.Step.{Step}
use Rattle.case_forms.specs.declared.timer.RecoveryChange.{RecoveryChange}
use Rattle.case_forms.specs.declared.version.Version.{Version}
use Rattle.line_fields.specs.AnswerFields.{answer_field}
use Rattle.line_fields.specs.AnswerForms.{answer_last}
use Rattle.line_fields.specs.Choice.{kind_field}
use Rattle.line_fields.specs.Forms.{Form, End, Maybe, Then, numeric, unknown, then_form, choice}
use Rattle.line_fields.specs.Hosts.{host_field}
use Rattle.line_fields.specs.Reading.{◌>>=◌, fault_at, number_field, no_more, or_end, or_fault}
use Rattle.line_fields.specs.Word.{Word, Rest}
use Rattle.line_fields.specs.declared.fault.FaultKind.TheVariants as kinds
use Rattle.line_fields.specs.declared.fault.TextFault.{TextFault}
use Rattle.line_fields.proofs.AnswerFaults.{answer_then}
use Rattle.line_fields.proofs.FieldFaults.{failing, first_fault, Onward, Agrees, assoc, value_then, number_then, host_then, choice_then, end_then}
use Rattle.line_fields.proofs.LineFaults.{faults_of}
use Rattle.witness.specs.Flags.{no_flags, letters_named, flags_value, flags_field}
use Rattle.witness.specs.LabelFields.{line_label, effect_label, segment_label, taking_label, recovery_label, label_behind, label_field}
use Rattle.witness.specs.Labels.{label_name, label_words_of}
use Rattle.witness.specs.Parts.{endpoint_field, entry_field, bit_field, first_field, second_field, extras_field}
use Rattle.witness.specs.Parts.{given_shift, given_start, shift_field, start_field, Start}
use Rattle.witness.specs.StepForms.{lettered, word32, bit, host, endpoint, shift_form, start_form, label_form, step_form, IsStepFault}
use Rattle.witness.specs.Steps.{step_fields, step_of}
use Rattle.witness.specs.declared.labels.LabelWord.{LabelWord}
use Rattle.witness.specs.declared.labels.LabelWord.TheVariants as words

-- flags
flags_agree : (w : Word) → Agrees (flags_value w) (lettered w) w
flags_agree w = go (bytes_eq w.text (codes "-")) (letters_named w.text)
  where
    go : (b : Bool) (o : Option Flags) → Agrees (if b then Ok no_flags else or_fault (fault_at kinds.Field w) o) (if b then None else unknown o) w
    go true o = tt
    go false (Some f) = tt
    go false None = refl

flags_then : {Y : Type 0} (form : Form) (f : Flags × Rest → Result Y TextFault) → Onward form f → (r : Rest)
    → failing (flags_field r >>= f) ≡ first_fault (Then lettered (λ w. form)) r
unfolding flags_field
flags_then form f on r = value_then flags_value lettered (λ w. form) f flags_agree (λ w x rest is. on x rest) r

-- parts that may be missing
maybe_then : {A Y : Type 0} (a : A) (read : Rest → Result (A × Rest) TextFault) (form : Form)
    (f : A × Rest → Result Y TextFault) → ((rest : Rest) → failing (f (a, rest)) ≡ first_fault End rest)
    → ((rest : Rest) → failing (read rest >>= f) ≡ first_fault form rest) → (line stop : ℕ) (ws : List Word)
    → let r : Rest = record { line = line; stop = stop; words = ws } in failing (or_end a read ws r >>= f) ≡ first_fault (Maybe form) r
maybe_then a read form f on there line stop [] = on (record { line = line; stop = stop; words = [] })
maybe_then a read form f on there line stop (w ∷ ws) = there (record { line = line; stop = stop; words = w ∷ ws })

bit_then : {Y : Type 0} (form : Form) (f : Bool × Rest → Result Y TextFault) → Onward form f → (r : Rest)
    → failing (bit_field r >>= f) ≡ first_fault (bit form) r
unfolding bit_field
bit_then form f on r = assoc (number_field 0 1 r) (λ n. Ok (n.0 == 1, n.1)) f ∙ number_then 0 1 form (λ n. f (n.0 == 1, n.1)) (λ x rest. on (x == 1) rest) r

extras_then : {Y : Type 0} (f : Extras × Rest → Result Y TextFault) → Onward End f → (r : Rest)
    → failing (extras_field r >>= f) ≡ first_fault (Maybe (word32 (Maybe (word32 End)))) r
unfolding extras_field
extras_then {Y} f on r = maybe_then Bare first_field (word32 (Maybe (word32 End))) f (on Bare) one r.line r.stop r.words
  where
    two : (x : ℕ) (rest : Rest) → failing (second_field x rest >>= f) ≡ first_fault (word32 End) rest
    two x rest =
        assoc (number_field 0 4294967295 rest) (λ y. Ok (Two x y.0, y.1)) f
        ∙ number_then 0 4294967295 End (λ y. f (Two x y.0, y.1)) (λ y more. on (Two x y) more) rest

    one : (rest : Rest) → failing (first_field rest >>= f) ≡ first_fault (word32 (Maybe (word32 End))) rest
    one rest = assoc (number_field 0 4294967295 rest) (λ x. or_end (One x.0) (second_field x.0) x.1.words x.1) f
        ∙ number_then 0 4294967295 (Maybe (word32 End)) (λ x. or_end (One x.0) (second_field x.0) x.1.words x.1 >>= f)
        (λ x more. maybe_then (One x) (second_field x) (word32 End) f (on (One x))
        (two x) more.line more.stop more.words) rest

start_then : {Y : Type 0} (v : Version) (f : Start × Rest → Result Y TextFault) → Onward End f → (r : Rest)
    → failing (start_field v r >>= f) ≡ first_fault (start_form v) r
unfolding start_field
start_then {Y} v f on r = maybe_then (None, None) (given_start v) (word32 (shift_form v)) f (on (None, None)) given r.line r.stop r.words
  where
    shift : (iss : numbers.Word) (rest : Rest) → failing (given_shift iss rest >>= f) ≡ first_fault (then_form (numeric 0 14) End) rest
    shift iss rest =
        assoc (number_field 0 14 rest) (λ s. Ok ((Some iss, Some s.0), s.1)) f
        ∙ number_then 0 14 End (λ s. f ((Some iss, Some s.0), s.1)) (λ s more. on (Some iss, Some s) more) rest

    shifts : (b : Bool) (iss : numbers.Word) (rest : Rest)
        → failing ((if b then or_end (Some iss, None) (given_shift iss) rest.words rest
        else Ok ((Some iss, None), rest)) >>= f)
        ≡ first_fault (if b then Maybe (then_form (numeric 0 14) End) else End) rest
    shifts true iss rest =
        maybe_then (Some iss, None) (given_shift iss) (then_form (numeric 0 14) End) f (on (Some iss, None))
        (shift iss) rest.line rest.stop rest.words
    shifts false iss rest = on (Some iss, None) rest

    given : (rest : Rest) → failing (given_start v rest >>= f) ≡ first_fault (word32 (shift_form v)) rest
    given rest = assoc (number_field 0 4294967295 rest) (λ iss. shift_field v (record { 0 = iss.0 }) iss.1) f
        ∙ number_then 0 4294967295 (shift_form v) (λ iss. shift_field v (record { 0 = iss.0 }) iss.1 >>= f)
        (λ n more. shifts (scales v) (record { 0 = n }) more) rest

-- endpoints and inbox entries
endpoint_then : {Y : Type 0} (v : Version) (form : Form) (f : (Host × ℕ × ℕ) × Rest → Result Y TextFault)
    → Onward form f → (r : Rest) → failing (endpoint_field v r >>= f) ≡ first_fault (endpoint v form) r
unfolding endpoint_field
endpoint_then v form f on r =
    assoc (host_field v r) _ f ∙ host_then v (then_form (numeric 1 65535) (then_form (numeric 1 65535) form)) _
    (λ h more. assoc (number_field 1 65535 more) _ f ∙ number_then 1 65535 (then_form (numeric 1 65535) form) _
    (λ local last. assoc (number_field 1 65535 last) _ f ∙ number_then 1 65535 form _ (λ remote rest. on (h, local, remote) rest) last) more) r

entry_then : {Y : Type 0} (v : Version) (form : Form) (f : (Host × ℕ) × Rest → Result Y TextFault) → Onward form f
    → (r : Rest) → failing (entry_field v r >>= f) ≡ first_fault (host v (word32 form)) r
unfolding entry_field
entry_then v form f on r =
    assoc (host_field v r) _ f ∙ host_then v (word32 form) _
    (λ h more. assoc (number_field 0 4294967295 more) _ f
    ∙ number_then 0 4294967295 form _ (λ line rest. on (h, line) rest) more) r

-- labels
line_then : {Y : Type 0} (f : Label NamedLine × Rest → Result Y TextFault) → Onward End f → (v : Version) (r : Rest)
    → failing (line_label r >>= f) ≡ first_fault (label_form v words.Line) r
unfolding line_label
line_then f on v r =
    assoc (number_field 0 4294967295 r) _ f
    ∙ number_then 0 4294967295 (Maybe (word32 (Maybe (word32 End)))) _
    (λ n more. assoc (extras_field more) _ f
    ∙ extras_then _ (λ x rest. on (L (record { number = n; extras = x })) rest) more) r

effect_then : {Y : Type 0} (f : Label NamedLine × Rest → Result Y TextFault) → Onward End f → (v : Version) (r : Rest)
    → failing (effect_label r >>= f) ≡ first_fault (label_form v words.Effect) r
unfolding effect_label
effect_then f on v r =
    assoc (number_field 0 4294967295 r) _ f
    ∙ number_then 0 4294967295 answer_last _
    (λ n more. assoc (answer_field more) _ f ∙ answer_then _ (λ x rest. on (D n x) rest) more) r

segment_then : {Y : Type 0} (v : Version) (f : Label NamedLine × Rest → Result Y TextFault) → Onward End f → (r : Rest)
    → failing (segment_label v r >>= f) ≡ first_fault (label_form v words.Making) r
unfolding segment_label
segment_then {Y} v f on r =
    assoc (endpoint_field v r) _ f
    ∙ endpoint_then v placed _ (λ at more.
    assoc (number_field 0 1000000000000000000 more) _ f
    ∙ number_then 0 1000000000000000000 counted _
    (λ position more. assoc (number_field 0 65515 more) _ f ∙ number_then 0 65515 flagged _
    (λ len more. assoc (flags_field more) _ f
    ∙ flags_then offered _ (λ flags more.
    assoc (number_field 0 65535 more) _ f
    ∙ number_then 0 65535 (start_form v) _ (λ window more. assoc (start_field v more) _ f
    ∙ start_then v _ (λ start rest.
    on (M at.0 (record {
      lport = at.1;
      rport = at.2;
      pos = position;
      len = len;
      flags = flags;
      window = window;
      iss = start.0;
      shift = start.1;
    })) rest) more) more) more) more) more) r
  where
    offered : Form
    offered = then_form (numeric 0 65535) (start_form v)

    flagged : Form
    flagged = then_form lettered offered

    counted : Form
    counted = then_form (numeric 0 65515) flagged

    placed : Form
    placed = then_form (numeric 0 1000000000000000000) counted

taking_then : {Y : Type 0} (v : Version) (f : Label NamedLine × Rest → Result Y TextFault) → Onward End f → (r : Rest)
    → failing (taking_label v r >>= f) ≡ first_fault (label_form v words.Taking) r
unfolding taking_label
taking_then v f on r =
    assoc (entry_field v r) _ f ∙ entry_then v (word32 (bit (bit End))) _
    (λ entry more. assoc (number_field 0 4294967295 more) _ f
    ∙ number_then 0 4294967295 (bit (bit End)) _ (λ cwnd more. assoc (bit_field more) _ f ∙ bit_then (bit End) _
    (λ keep more. assoc (bit_field more) _ f
    ∙ bit_then End _ (λ sample rest.
    on (T entry.0 entry.1 (record { cwnd = cwnd; keep = keep; sample = sample })) rest) more) more) more) r

recovery_then : {Y : Type 0} (v : Version) (change : RecoveryChange) (f : Label NamedLine × Rest → Result Y TextFault)
    → Onward End f → (r : Rest)
    → failing (recovery_label v change r >>= f) ≡ first_fault (label_form v (words.Recovery change)) r
unfolding recovery_label
recovery_then v change f on r =
    assoc (endpoint_field v r) _ f
    ∙ endpoint_then v (word32 (word32 End)) _
    (λ at more. assoc (number_field 0 4294967295 more) _ f
    ∙ number_then 0 4294967295 (word32 End) _
    (λ cwnd more. assoc (number_field 0 4294967295 more) _ f ∙ number_then 0 4294967295 End _
    (λ ssthresh rest.
    on (F at.0 (record { change = change; lport = at.1; rport = at.2; cwnd = cwnd; ssthresh = ssthresh })) rest) more) more) r

label_then : {Y : Type 0} (v : Version) (f : Label NamedLine × Rest → Result Y TextFault) → Onward End f
    → (k : LabelWord) (r : Rest) → failing (label_behind v k r >>= f) ≡ first_fault (label_form v k) r
label_then v f on words.Line r = line_then f on v r
label_then v f on words.Effect r = effect_then f on v r
label_then v f on words.Making r = segment_then v f on r
label_then v f on words.Taking r = taking_then v f on r
label_then v f on words.Dropping r =
    assoc (entry_field v r) (λ entry. Ok (K entry.0.0 entry.0.1, entry.1)) f
    ∙ entry_then v End (λ entry. f (K entry.0.0 entry.0.1, entry.1)) (λ x rest. on (K x.0 x.1) rest) r
label_then v f on words.Refusing r =
    assoc (entry_field v r) (λ entry. Ok (R entry.0.0 entry.0.1, entry.1)) f
    ∙ entry_then v End (λ entry. f (R entry.0.0 entry.0.1, entry.1)) (λ x rest. on (R x.0 x.1) rest) r
label_then v f on (words.Recovery change) r = recovery_then v change f on r

-- steps
fields_then : (v : Version) (r : Rest) → failing (step_fields v r) ≡ first_fault (step_form v) r
unfolding label_field
fields_then v r =
    number_then 0 1000000000000000000 (choice label_name (label_words_of v) (label_form v)) _
    (λ moment more. assoc (kind_field label_name (label_words_of v) more) (λ word. label_behind v word.0 word.1) _
    ∙ choice_then label_name (label_words_of v) (label_form v) _
    (λ k rest. label_then v (λ label. no_more label.1 >>= λ end. Ok (moment, label.0))
    (λ label rest. end_then (moment, label) rest) k rest) more) r

pub step_faults : (v : Version) (number : ℕ) (raw : List ℕ) (e : TextFault) → (step_of v number raw ≡ Err e) ↔ IsStepFault v number raw e
unfolding step_of
step_faults v number raw e = faults_of (step_form v) (step_fields v) step (fields_then v) number raw e
  where
    step : Rest → ℕ × Label NamedLine → Step
    step r s = record { moment = s.0; label = s.1; span = record { line = number; start = 0; stop = r.stop } }
