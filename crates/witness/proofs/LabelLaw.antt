-- The spelling of a label, both ways. A number may follow some forms, so a label is the last of its line.
use Rattle.std.proofs.Common.{◌≡◌, ◌≤◌, ℕ, List, [], ◌∷◌, ◌++◌, Bool, true, false, Option, Some, None, Ok, refl, subst, arith}
use Rattle.std.specs.Prelude.{IfSome, if◌then◌else◌, codes}
use Rattle.std.specs.Fmt.{decimal}
use Rattle.std.specs.List.{AllByRecursion}
use Rattle.seqno.specs.declared.word.Word.{Word}
use Rattle.case_forms.specs.declared.calls.Host.{Host}
use Rattle.case_forms.specs.declared.calls.Answer.{Answer}
use Rattle.case_forms.specs.declared.named_line.Extras.{Extras}
use Rattle.case_forms.specs.declared.named_line.Extras.TheVariants.{Bare, One, Two}
use Rattle.case_forms.specs.declared.steps.Flags.{Flags}
use Rattle.case_forms.specs.declared.named_line.NamedLine.{NamedLine}
use Rattle.case_forms.specs.declared.steps.Label.{Label}
use Rattle.case_forms.specs.declared.steps.Label.TheVariants.{L, D, M, T, K, R, F}
use Rattle.case_forms.specs.declared.timer.RecoveryChange.{RecoveryChange}
use Rattle.case_forms.specs.declared.timer.RecoveryChange.TheVariants.{Begins, IsUndone}
use Rattle.case_forms.specs.declared.version.Version.{Version}
use Rattle.case_forms.specs.Versions.{says_sender}
use Rattle.case_forms.specs.Witnesses.{IsShift}
use Rattle.line_fields.specs.Choice.{kind_named}
use Rattle.line_fields.specs.Word.{Rest}
use Rattle.line_fields.specs.Reading.{number_field}
use Rattle.line_fields.specs.Reader.{texts, Any, Nothing, IsLastReader, IsReader}
use Rattle.line_fields.specs.Spelling.{Piece, AreWritten, IsClean}
use Rattle.line_fields.specs.Answers.{answer_pieces, IsAnswer}
use Rattle.line_fields.specs.AnswerFields.{answer_field}
use Rattle.line_fields.proofs.Choices.{AreNamedAmong, IsBehind, reads_choice_among, is_known}
use Rattle.line_fields.proofs.AnswerLaw.{reads_answer, answer_clean}
use Rattle.line_fields.proofs.HostLaw.{host_clean}
use Rattle.line_fields.proofs.Written.{IsCleanPiece}
use Rattle.line_fields.proofs.Joined.{IsClean-decimal}
use Rattle.line_fields.proofs.Clean.{clean_by}
use Rattle.witness.specs.declared.labels.LabelWord.{LabelWord}
use Rattle.witness.specs.declared.labels.LabelWord.TheVariants as words
use Rattle.witness.specs.Flags.{flags_field}
use Rattle.witness.specs.Parts.{endpoint_field, entry_field, bit_field, extras_field, Start, start_field}
use Rattle.witness.specs.Labels.{label_name, label_words_of, bit_number, extras_pieces, AreExtras, iss_pieces, IsIss}
use Rattle.witness.specs.Labels.{shift_pieces, IsStart, label_tail, label_word, label_pieces, IsChange, IsLabel, IsSpelledLabel}
use Rattle.witness.specs.LabelFields.{line_label, effect_label, segment_label, taking_label, dropping_label}
use Rattle.witness.specs.LabelFields.{refusing_label, recovery_label, label_behind, label_field}
use Rattle.witness.proofs.Made.{IsMade, reads_made, reads_part}
use Rattle.witness.proofs.FlagsLaw.{flags_piece, reads_flags, flags_clean}
use Rattle.witness.proofs.PartLaw.{IsWithin, one_piece, reads_within, bit_piece, reads_bit, FitsEndpoint, pieces_at}
use Rattle.witness.proofs.PartLaw.{reads_endpoint, FitsEntry, pieces_in, reads_entry, reads_extras, FitsStart}
use Rattle.witness.proofs.PartLaw.{start_pieces, reads_start}

-- ---- a line

abbrev make_line : ℕ × Extras → Label NamedLine
make_line y = L (record { number = y.0; extras = y.1 })

abbrev FitsLine : ℕ × Extras → Type 0
FitsLine y = IsWithin 0 4294967295 y.0 × AreExtras y.1

reads_line : IsLastReader line_label (IsMade make_line FitsLine (λ y. one_piece y.0 ++ extras_pieces y.1))
unfolding line_label
reads_line =
    reads_part Nothing (number_field 0 4294967295) (IsWithin 0 4294967295) one_piece _ make_line AreExtras extras_pieces
    (reads_within 0 4294967295 (omega arith))
    (λ line. reads_made Nothing extras_field (λ extras. make_line (line, extras)) AreExtras extras_pieces reads_extras)

-- ---- an effect

abbrev make_effect : ℕ × Answer → Label NamedLine
make_effect y = D y.0 y.1

reads_effect : IsLastReader effect_label (IsMade make_effect (λ y. IsWithin 0 4294967295 y.0 × IsAnswer y.1) (λ y. one_piece y.0 ++ answer_pieces y.1))
unfolding effect_label
reads_effect =
    reads_part Nothing (number_field 0 4294967295)
    (IsWithin 0 4294967295) one_piece _ make_effect IsAnswer answer_pieces
    (reads_within 0 4294967295 (omega arith))
    (λ thread. reads_made Nothing answer_field (λ answer. make_effect (thread, answer)) IsAnswer answer_pieces reads_answer)

-- ---- a segment that is made

abbrev At : Type 0
At = Host × ℕ × ℕ

abbrev make_segment : At × (ℕ × (ℕ × (Flags × (ℕ × Start)))) → Label NamedLine
make_segment y =
    M y.0.0 (record {
      lport = y.0.1;
      rport = y.0.2;
      pos = y.1.0;
      len = y.1.1.0;
      flags = y.1.1.1.0;
      window = y.1.1.1.1.0;
      iss = y.1.1.1.1.1.0;
      shift = y.1.1.1.1.1.1;
    })

abbrev FitsSegment : Version → At × (ℕ × (ℕ × (Flags × (ℕ × Start)))) → Type 0
FitsSegment v y =
    FitsEndpoint v y.0 × (IsWithin 0 1000000000000000000 y.1.0
    × (IsWithin 0 65515 y.1.1.0 × (Unit {0} × (IsWithin 0 65535 y.1.1.1.1.0 × FitsStart v y.1.1.1.1.1))))

abbrev window_pieces : ℕ × Start → List Piece
window_pieces y = one_piece y.0 ++ start_pieces y.1

abbrev flags_pieces : Flags × (ℕ × Start) → List Piece
flags_pieces y = flags_piece y.0 ++ window_pieces y.1

abbrev len_pieces : ℕ × (Flags × (ℕ × Start)) → List Piece
len_pieces y = one_piece y.0 ++ flags_pieces y.1

abbrev position_pieces : ℕ × (ℕ × (Flags × (ℕ × Start))) → List Piece
position_pieces y = one_piece y.0 ++ len_pieces y.1

abbrev all_pieces : At × (ℕ × (ℕ × (Flags × (ℕ × Start)))) → List Piece
all_pieces y = pieces_at y.0 ++ position_pieces y.1

reads_segment : (v : Version) → IsLastReader (segment_label v) (IsMade make_segment (FitsSegment v) all_pieces)
unfolding segment_label
reads_segment v =
    reads_part Nothing (endpoint_field v) (FitsEndpoint v) pieces_at _ make_segment _ position_pieces (reads_endpoint v)
    (λ at. reads_part Nothing (number_field 0 1000000000000000000) (IsWithin 0 1000000000000000000) one_piece _
    (λ x. make_segment (at, x)) _ len_pieces (reads_within 0 1000000000000000000 (omega arith))
    (λ position. reads_part Nothing (number_field 0 65515) (IsWithin 0 65515) one_piece _
    (λ x. make_segment (at, (position, x))) _ flags_pieces (reads_within 0 65515 (omega arith))
    (λ len. reads_part Nothing flags_field (λ f. Unit {0}) flags_piece _ (λ x. make_segment (at, (position, (len, x)))) _ window_pieces reads_flags
    (λ flags. reads_part Nothing (number_field 0 65535) (IsWithin 0 65535) one_piece _
    (λ x. make_segment (at, (position, (len, (flags, x))))) _ start_pieces (reads_within 0 65535 (omega arith))
    (λ window. reads_made Nothing (start_field v)
    (λ start. make_segment (at, (position, (len, (flags, (window, start)))))) (FitsStart v) start_pieces
    (reads_start v))))))

-- ---- an inbox entry that is taken, dropped or refused

abbrev make_taking : (Host × ℕ) × (ℕ × (Bool × Bool)) → Label NamedLine
make_taking y = T y.0.0 y.0.1 (record { cwnd = y.1.0; keep = y.1.1.0; sample = y.1.1.1 })

abbrev FitsTaking : Version → (Host × ℕ) × (ℕ × (Bool × Bool)) → Type 0
FitsTaking v y = FitsEntry v y.0 × (IsWithin 0 4294967295 y.1.0 × (Unit {0} × Unit {0}))

abbrev bits_pieces : Bool × Bool → List Piece
bits_pieces y = bit_piece y.0 ++ bit_piece y.1

abbrev cwnd_pieces : ℕ × (Bool × Bool) → List Piece
cwnd_pieces y = one_piece y.0 ++ bits_pieces y.1

reads_taking : (v : Version) → IsReader (taking_label v) (IsMade make_taking (FitsTaking v) (λ y. pieces_in y.0 ++ cwnd_pieces y.1))
unfolding taking_label
reads_taking v =
    reads_part Any (entry_field v) (FitsEntry v) pieces_in _ make_taking _ cwnd_pieces (reads_entry v)
    (λ entry. reads_part Any (number_field 0 4294967295) (IsWithin 0 4294967295) one_piece _
    (λ x. make_taking (entry, x)) _ bits_pieces (reads_within 0 4294967295 (omega arith))
    (λ cwnd. reads_part Any bit_field (λ b. Unit {0}) bit_piece _ (λ x. make_taking (entry, (cwnd, x))) _ bit_piece reads_bit
    (λ keep. reads_made Any bit_field (λ sample. make_taking (entry, (cwnd, (keep, sample)))) (λ b. Unit {0}) bit_piece reads_bit)))

abbrev make_dropping : Host × ℕ → Label NamedLine
make_dropping y = K y.0 y.1

reads_dropping : (v : Version) → IsReader (dropping_label v) (IsMade make_dropping (FitsEntry v) pieces_in)
reads_dropping v = reads_made Any (entry_field v) make_dropping (FitsEntry v) pieces_in (reads_entry v)

abbrev make_refusing : Host × ℕ → Label NamedLine
make_refusing y = R y.0 y.1

reads_refusing : (v : Version) → IsReader (refusing_label v) (IsMade make_refusing (FitsEntry v) pieces_in)
reads_refusing v = reads_made Any (entry_field v) make_refusing (FitsEntry v) pieces_in (reads_entry v)

-- ---- what becomes of a recovery

abbrev make_recovery : RecoveryChange → At × (ℕ × ℕ) → Label NamedLine
make_recovery change y =
    F y.0.0 (record { change = change; lport = y.0.1; rport = y.0.2; cwnd = y.1.0; ssthresh = y.1.1 })

abbrev FitsRecovery : Version → At × (ℕ × ℕ) → Type 0
FitsRecovery v y = FitsEndpoint v y.0 × (IsWithin 0 4294967295 y.1.0 × IsWithin 0 4294967295 y.1.1)

abbrev windows_pieces : ℕ × ℕ → List Piece
windows_pieces y = one_piece y.0 ++ one_piece y.1

reads_recovery : (v : Version) (change : RecoveryChange)
    → IsReader (recovery_label v change) (IsMade (make_recovery change) (FitsRecovery v) (λ y. pieces_at y.0 ++ windows_pieces y.1))
unfolding recovery_label
reads_recovery v change =
    reads_part Any (endpoint_field v) (FitsEndpoint v) pieces_at _ (make_recovery change) _ windows_pieces (reads_endpoint v)
    (λ at. reads_part Any (number_field 0 4294967295) (IsWithin 0 4294967295) one_piece _
    (λ x. make_recovery change (at, x)) _ one_piece (reads_within 0 4294967295 (omega arith))
    (λ cwnd. reads_made Any (number_field 0 4294967295) (λ ssthresh. make_recovery change (at, (cwnd, ssthresh)))
    (IsWithin 0 4294967295) one_piece (reads_within 0 4294967295 (omega arith))))

-- ---- a label

-- a label of this version may begin with the word
abbrev pub IsWord : Version → LabelWord → Type 0
IsWord v (words.Recovery change) = IsChange v change
IsWord v _ = Unit {0}

abbrev with_newer : Bool → List LabelWord
with_newer six =
    words.Line ∷ words.Effect ∷ words.Making ∷ words.Taking ∷ words.Dropping ∷ words.Refusing ∷ words.Recovery Begins
    ∷ (if six then words.Recovery IsUndone ∷ [] else [])

undone_named : (six : Bool) → six ≡ true → kind_named label_name (with_newer six) (codes "U") ≡ Some (words.Recovery IsUndone)
undone_named true is = refl
undone_named false is = absurd cc

label_named : (v : Version) (word : LabelWord) → IsWord v word → kind_named label_name (label_words_of v) (label_name word) ≡ Some word
label_named v words.Line is = refl
label_named v words.Effect is = refl
label_named v words.Making is = refl
label_named v words.Taking is = refl
label_named v words.Dropping is = refl
label_named v words.Refusing is = refl
label_named v (words.Recovery Begins) is = refl
label_named v (words.Recovery IsUndone) is = undone_named (says_sender v) is

pub labels_named : (v : Version) → AreNamedAmong label_name (label_words_of v) (IsWord v)
labels_named v = record {
  named = label_named v;
  only = (tt, (tt, (tt, (tt, (tt, (tt, (tt, newer (says_sender v) refl)))))));
}
  where
    newer : (six : Bool) → says_sender v ≡ six → AllByRecursion (IsWord v) (if six then words.Recovery IsUndone ∷ [] else [])
    newer true is = (is, tt)
    newer false is = tt

-- of each version
module _ (v : Version) where
  -- what was read behind the first word
  abbrev Behind : LabelWord → Rest → Label NamedLine × Rest → Type 0
  Behind k r x = IsBehind label_word label_tail (IsLabel v) k r x.0 x.1

  -- what was made of parts is known by the parts
  takes_made : {Y : Type 0} (k : LabelWord) (make : Y → Label NamedLine) (Fits : Y → Type 0) (pieces : Y → List Piece)
      (r : Rest) (x : Label NamedLine × Rest)
      → ((ws : List (List ℕ)) × IsMade make Fits pieces x.0 ws × (texts r ≡ ws ++ texts x.1))
      → ((y : Y) → Fits y → IsLabel v (make y) × (label_word (make y) ≡ k) × (pieces y ≡ label_tail (make y))) → Behind k r x
  takes_made k make Fits pieces r x p is =
      let s = p.1 in
      let own = is s.0 s.2 in
      is_known label_word label_tail (IsLabel v) k r x.1 x.0 (make s.0) p.0 s.1 own.0 own.1 (subst (λ (ps : List Piece). AreWritten ps p.0) own.2 s.3) p.2

  word_fits : (label : Label NamedLine) → IsLabel v label → IsWord v (label_word label)
  word_fits (L line) fits = tt
  word_fits (D thread answer) fits = tt
  word_fits (M host plan) fits = tt
  word_fits (T host line choice) fits = tt
  word_fits (K host line) fits = tt
  word_fits (R host line) fits = tt
  word_fits (F host recovery) fits = fits.3

  behind_takes : (k : LabelWord) (r : Rest) (x : Label NamedLine × Rest) → IsWord v k → label_behind v k r ≡ Ok x → Behind k r x
  behind_takes words.Line r x known e = takes_made words.Line make_line _ _ r x (reads_line.takes r x e) (λ y fits. ((fits.0.1, fits.1), refl, refl))
  behind_takes words.Effect r x known e = takes_made words.Effect make_effect _ _ r x (reads_effect.takes r x e) (λ y fits. ((fits.0.1, fits.1), refl, refl))
  behind_takes words.Making r x known e =
      takes_made words.Making make_segment (FitsSegment v) all_pieces r x ((reads_segment v).takes r x e)
      (λ y fits. ((fits.0, fits.1.0.1, fits.1.1.0.1, fits.1.1.1.1.0.1, fits.1.1.1.1.1), refl, refl))
  behind_takes words.Taking r x known e =
      takes_made words.Taking make_taking (FitsTaking v) _ r x ((reads_taking v).takes r x e)
      (λ y fits. ((fits.0, fits.1.0.1), refl, refl))
  behind_takes words.Dropping r x known e =
      takes_made words.Dropping make_dropping (FitsEntry v) pieces_in r x ((reads_dropping v).takes r x e)
      (λ y fits. (fits, refl, refl))
  behind_takes words.Refusing r x known e =
      takes_made words.Refusing make_refusing (FitsEntry v) pieces_in r x ((reads_refusing v).takes r x e)
      (λ y fits. (fits, refl, refl))
  behind_takes (words.Recovery change) r x known e =
      takes_made (words.Recovery change) (make_recovery change) (FitsRecovery v) _ r x ((reads_recovery v change).takes r x e)
      (λ y fits. ((fits.0, fits.1.0.1, fits.1.1.1, known), refl, refl))

  abbrev Gets : Label NamedLine → Rest → List (List ℕ) → Type 0
  Gets label r more = (rest : Rest) × (label_behind v (label_word label) r ≡ Ok (label, rest)) × (texts rest ≡ more)

  behind_again : (label : Label NamedLine) (r : Rest) (us more : List (List ℕ)) → Nothing more → IsLabel v label
      → AreWritten (label_tail label) us → texts r ≡ us ++ more → Gets label r more
  behind_again (L line) r us more last fits w e =
      reads_line.again r (L line) us more last ((line.number, line.extras), refl, ((omega arith, fits.0), fits.1), w) e
  behind_again (D thread answer) r us more last fits w e =
      reads_effect.again r (D thread answer) us more last ((thread, answer), refl, ((omega arith, fits.0), fits.1), w) e
  behind_again (M host plan) r us more last fits w e =
      (reads_segment v).again r (M host plan) us more last (
        ((host, plan.lport, plan.rport), (plan.pos, (plan.len, (plan.flags, (plan.window, (plan.iss, plan.shift)))))),
        refl,
        (fits.0, ((omega arith, fits.1), ((omega arith, fits.2), (tt, ((omega arith, fits.3), fits.4))))),
        w,
      )
      e
  behind_again (T host line choice) r us more last fits w e =
      (reads_taking v).again r (T host line choice) us more tt (
        ((host, line), (choice.cwnd, (choice.keep, choice.sample))),
        refl,
        (fits.0, ((omega arith, fits.1), (tt, tt))),
        w,
      ) e
  behind_again (K host line) r us more last fits w e = (reads_dropping v).again r (K host line) us more tt ((host, line), refl, fits, w) e
  behind_again (R host line) r us more last fits w e = (reads_refusing v).again r (R host line) us more tt ((host, line), refl, fits, w) e
  behind_again (F host recovery) r us more last fits w e =
      (reads_recovery v recovery.change).again r (F host recovery) us more tt (
        ((host, recovery.lport, recovery.rport), (recovery.cwnd, recovery.ssthresh)),
        refl,
        (fits.0, ((omega arith, fits.1), (omega arith, fits.2))),
        w,
      ) e

  -- what is read is spelled so, and what is spelled so is read
  pub reads_label : IsLastReader (label_field v) (IsSpelledLabel v)
  unfolding label_field
  reads_label =
      reads_choice_among Nothing label_name (label_words_of v) (IsWord v) (labels_named v) (label_behind v) label_word label_tail
      (IsLabel v) word_fits behind_takes behind_again

-- ---- the fields of a label are clean

extras_clean : (extras : Extras) → AreExtras extras → AllByRecursion IsCleanPiece (extras_pieces extras)
extras_clean Bare fits = tt
extras_clean (One x) fits = (IsClean-decimal x (omega arith), tt)
extras_clean (Two x y) fits = (IsClean-decimal x (let h = fits.0 in omega arith), (IsClean-decimal y (let h = fits.1 in omega arith), tt))

iss_clean : (iss : Option Word) → IsIss iss → AllByRecursion IsCleanPiece (iss_pieces iss)
iss_clean None fits = tt
iss_clean (Some iss) fits = (IsClean-decimal iss.0 (omega arith), tt)

shift_clean : (v : Version) (iss : Option Word) (shift : Option ℕ) → IfSome shift (IsShift v iss) → AllByRecursion IsCleanPiece (shift_pieces shift)
shift_clean v iss None fits = tt
shift_clean v iss (Some shift) fits = (IsClean-decimal shift (let h = fits.2 in omega (arith, h)), tt)

start_clean : (v : Version) (iss : Option Word) (shift : Option ℕ) → IsStart v iss shift → AllByRecursion IsCleanPiece (iss_pieces iss ++ shift_pieces shift)
start_clean v None shift fits = shift_clean v None shift fits.1
start_clean v (Some iss) shift fits = ((iss_clean (Some iss) fits.0).0, shift_clean v (Some iss) shift fits.1)

bit_clean : (b : Bool) → IsClean (decimal (bit_number b))
bit_clean true = IsClean-decimal 1 (omega arith)
bit_clean false = IsClean-decimal 0 (omega arith)

-- a number far below the greatest that is printed
number_clean : (n : ℕ) → n ≤ 1000000000000000000 → IsClean (decimal n)
number_clean n le = IsClean-decimal n (omega arith)

change_clean : (change : RecoveryChange) → IsClean (label_name (words.Recovery change))
change_clean Begins = clean_by (codes "F") refl
change_clean IsUndone = clean_by (codes "U") refl

pub label_clean : (v : Version) (label : Label NamedLine) → IsLabel v label → AllByRecursion IsCleanPiece (label_pieces label)
label_clean v (L line) fits = (clean_by (codes "L") refl, (number_clean line.number (let h = fits.0 in omega arith), extras_clean line.extras fits.1))
label_clean v (D thread answer) fits = (clean_by (codes "D") refl, (number_clean thread (let h = fits.0 in omega arith), answer_clean answer fits.1))
label_clean v (M host plan) fits =
    let ports = fits.0 in
    let from = ports.2 in
    let to = ports.4 in
    let short = fits.2 in
    let small = fits.3 in (
      clean_by (codes "M") refl,
      (
        host_clean host,
        (
          number_clean plan.lport (omega arith),
          (
            number_clean plan.rport (omega arith),
            (
              number_clean plan.pos fits.1,
              (
                number_clean plan.len (omega arith),
                (
                  flags_clean plan.flags,
                  (
                    number_clean plan.window (omega arith),
                    start_clean v plan.iss plan.shift fits.4,
                  ),
                ),
              ),
            ),
          ),
        ),
      ),
    )
label_clean v (T host line choice) fits = (
  clean_by (codes "T") refl,
  (
    host_clean host,
    (
      number_clean line (let h = fits.0.1 in omega arith),
      (
        number_clean choice.cwnd (let h = fits.1 in omega arith),
        (bit_clean choice.keep, (bit_clean choice.sample, tt)),
      ),
    ),
  ),
)
label_clean v (K host line) fits = (clean_by (codes "K") refl, (host_clean host, (number_clean line (let h = fits.1 in omega arith), tt)))
label_clean v (R host line) fits = (clean_by (codes "R") refl, (host_clean host, (number_clean line (let h = fits.1 in omega arith), tt)))
label_clean v (F host recovery) fits =
    let ports = fits.0 in
    let from = ports.2 in
    let to = ports.4 in
    let low = fits.1 in
    let high = fits.2 in (
      change_clean recovery.change,
      (
        host_clean host,
        (
          number_clean recovery.lport (omega arith),
          (
            number_clean recovery.rport (omega arith),
            (number_clean recovery.cwnd (omega arith), (number_clean recovery.ssthresh (omega arith), tt)),
          ),
        ),
      ),
    )
