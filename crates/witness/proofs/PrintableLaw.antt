-- A witness is printed as a text that stands for it, with its spans, exactly where it is within the limits.
use Rattle.std.proofs.Common.{◌≡◌, ◌≤◌, ◌<◌, ◌+◌, ℕ, List, [], ◌∷◌, ◌++◌, Bool, true, false, Option, Some, None, length}
use Rattle.std.proofs.Common.{take, get_or, suc, subst, refl, sym, ap, ◌∙◌, inl, arith}
use Rattle.std.specs.Prelude.{map}
use Rattle.std.specs.Fmt.{decimal}
use Rattle.std.specs.List.{AllByRecursion}
use Rattle.std.proofs.Math.Seq.{take-suc}
use Rattle.seqno.specs.declared.word.Word.{Word}
use Rattle.case_forms.specs.Limits.{HasAnswerBits, HasIssBits, IsTextAnswer}
use Rattle.case_forms.specs.Witnesses.{TellsShift}
use Rattle.case_forms.specs.declared.calls.Answer.{Answer}
use Rattle.case_forms.specs.declared.calls.Answer.TheVariants as answers
use Rattle.case_forms.specs.declared.named_line.Extras.{Extras}
use Rattle.case_forms.specs.declared.named_line.Extras.TheVariants.{Bare, One, Two}
use Rattle.case_forms.specs.declared.named_line.NamedLine.{NamedLine}
use Rattle.case_forms.specs.declared.steps.Flags.{Flags}
use Rattle.case_forms.specs.declared.steps.Label.{Label}
use Rattle.case_forms.specs.declared.steps.Label.TheVariants.{L, D, M, T, K, R, F}
use Rattle.case_forms.specs.declared.steps.Step.{Step}
use Rattle.case_forms.specs.declared.steps.Witness.{Witness}
use Rattle.case_forms.specs.declared.timer.RecoveryChange.{RecoveryChange}
use Rattle.case_forms.specs.declared.timer.RecoveryChange.TheVariants.{Begins, IsUndone}
use Rattle.case_forms.specs.declared.version.Version.{Version}
use Rattle.case_forms.specs.declared.version.Version.TheVariants as versions
use Rattle.line_fields.specs.Answers.{IsAnswer}
use Rattle.line_fields.specs.Folding.{AreSpelled}
use Rattle.line_fields.specs.Spelling.{Piece, printed_line, joined, piece_texts}
use Rattle.line_fields.proofs.Printable.{IsShortPiece, room, short_decimal, pieces_short, pieces_written, written_bytes}
use Rattle.line_fields.proofs.ShortAnswers.{host_short, answer_short, answer_room}
use Rattle.witness.specs.FirstLine.{first_text}
use Rattle.witness.specs.declared.labels.LabelWord.TheVariants as words
use Rattle.witness.specs.Flags.{flags_text}
use Rattle.witness.specs.Labels.{bit_number, extras_pieces, AreExtras, iss_pieces, IsIss, shift_pieces, IsStart, label_name, label_pieces, IsLabel}
use Rattle.witness.specs.Steps.{step_pieces, IsStepText}
use Rattle.witness.specs.WitnessText.{number_after, IsWitnessText}
use Rattle.witness.specs.Printed.{witness_text}
use Rattle.witness.specs.Printable.{HasLabelBits, IsInMemory, IsWithinLabel, IsWithinStep, IsWithinWitness, TellShifts}
use Rattle.witness.specs.Printable.{IsPrintableStep, IsPrintableWitness, step_at, steps_at, with_columns}

-- ---- the fields of a label are short

flags_by : (ack rst syn fin : Bool) → length (flags_text (record { ack = ack; rst = rst; syn = syn; fin = fin })) ≤ 20
flags_by false false false false = omega arith
flags_by false false false true = omega arith
flags_by false false true false = omega arith
flags_by false false true true = omega arith
flags_by false true false false = omega arith
flags_by false true false true = omega arith
flags_by false true true false = omega arith
flags_by false true true true = omega arith
flags_by true false false false = omega arith
flags_by true false false true = omega arith
flags_by true false true false = omega arith
flags_by true false true true = omega arith
flags_by true true false false = omega arith
flags_by true true false true = omega arith
flags_by true true true false = omega arith
flags_by true true true true = omega arith

flags_short : (f : Flags) → length (flags_text f) ≤ 20
flags_short f = flags_by f.ack f.rst f.syn f.fin

extras_short : (extras : Extras) → AreExtras extras → AllByRecursion IsShortPiece (extras_pieces extras)
extras_short Bare fits = tt
extras_short (One x) fits = (short_decimal x (omega arith), tt)
extras_short (Two x y) fits = (short_decimal x (let h = fits.0 in omega arith), (short_decimal y (let h = fits.1 in omega arith), tt))

extras_room : (extras : Extras) → room (extras_pieces extras) ≤ 42
extras_room Bare = omega arith
extras_room (One x) = omega arith
extras_room (Two x y) = omega arith

both : {X : Type 0} (P : X → Type 0) (xs ys : List X) → AllByRecursion P xs → AllByRecursion P ys → AllByRecursion P (xs ++ ys)
both P [] ys p q = q
both P (x ∷ xs) ys p q = (p.0, both P xs ys p.1 q)

room_both : (ps qs : List Piece) → room (ps ++ qs) ≡ room ps + room qs
room_both [] qs = omega arith
room_both (p ∷ ps) qs = let rest = room_both ps qs in omega (arith, rest)

iss_short : (iss : Option Word) → IsIss iss → AllByRecursion IsShortPiece (iss_pieces iss)
iss_short None fits = tt
iss_short (Some n) fits = (short_decimal n.0 (omega arith), tt)

shift_short : (v : Version) (iss : Option Word) (shift : Option ℕ) → IsStart v iss shift → AllByRecursion IsShortPiece (shift_pieces shift)
shift_short v iss None fits = tt
shift_short v iss (Some n) fits = (short_decimal n (let h = fits.1.2 in omega arith), tt)

start_short : (v : Version) (iss : Option Word) (shift : Option ℕ) → IsStart v iss shift → AllByRecursion IsShortPiece (iss_pieces iss ++ shift_pieces shift)
start_short v iss shift fits = both IsShortPiece (iss_pieces iss) (shift_pieces shift) (iss_short iss fits.0) (shift_short v iss shift fits)

iss_room : (iss : Option Word) → room (iss_pieces iss) ≤ 21
iss_room None = omega arith
iss_room (Some n) = omega arith

shift_room : (shift : Option ℕ) → room (shift_pieces shift) ≤ 21
shift_room None = omega arith
shift_room (Some n) = omega arith

start_room : (iss : Option Word) (shift : Option ℕ) → room (iss_pieces iss ++ shift_pieces shift) ≤ 42
start_room iss shift =
    let one = iss_room iss in
    let two = shift_room shift in
    let all = room_both (iss_pieces iss) (shift_pieces shift) in
    omega (arith, one, two, all)

bit_short : (b : Bool) → length (decimal (bit_number b)) ≤ 20
bit_short true = short_decimal 1 (omega arith)
bit_short false = short_decimal 0 (omega arith)

number_short : (n : ℕ) → n ≤ 1000000000000000000 → length (decimal n) ≤ 20
number_short n le = short_decimal n (omega arith)

change_short : (change : RecoveryChange) → length (label_name (words.Recovery change)) ≤ 20
change_short Begins = omega arith
change_short IsUndone = omega arith

label_short : (v : Version) (label : Label NamedLine) → IsLabel v label → AllByRecursion IsShortPiece (label_pieces label)
label_short v (L line) fits = (omega arith, (number_short line.number (let h = fits.0 in omega arith), extras_short line.extras fits.1))
label_short v (D thread answer) fits = (omega arith, (number_short thread (let h = fits.0 in omega arith), answer_short answer fits.1))
label_short v (M host plan) fits =
    let ports = fits.0 in
    let from = ports.2 in
    let to = ports.4 in
    let short = fits.2 in
    let small = fits.3 in (
      omega arith,
      (
        host_short host,
        (
          number_short plan.lport (omega arith),
          (
            number_short plan.rport (omega arith),
            (
              number_short plan.pos fits.1,
              (
                number_short plan.len (omega arith),
                (
                  flags_short plan.flags,
                  (
                    number_short plan.window (omega arith),
                    start_short v plan.iss plan.shift fits.4,
                  ),
                ),
              ),
            ),
          ),
        ),
      ),
    )
label_short v (T host line choice) fits = (
  omega arith,
  (
    host_short host,
    (
      number_short line (let h = fits.0.1 in omega arith),
      (
        number_short choice.cwnd (let h = fits.1 in omega arith),
        (bit_short choice.keep, (bit_short choice.sample, tt)),
      ),
    ),
  ),
)
label_short v (K host line) fits = (omega arith, (host_short host, (number_short line (let h = fits.1 in omega arith), tt)))
label_short v (R host line) fits = (omega arith, (host_short host, (number_short line (let h = fits.1 in omega arith), tt)))
label_short v (F host recovery) fits =
    let ports = fits.0 in
    let from = ports.2 in
    let to = ports.4 in
    let low = fits.1 in
    let high = fits.2 in (
      change_short recovery.change,
      (
        host_short host,
        (
          number_short recovery.lport (omega arith),
          (
            number_short recovery.rport (omega arith),
            (number_short recovery.cwnd (omega arith), (number_short recovery.ssthresh (omega arith), tt)),
          ),
        ),
      ),
    )

label_room : (label : Label NamedLine) → room (label_pieces label) ≤ 131155
label_room (L line) = let own = extras_room line.extras in omega arith
label_room (D thread answer) = let own = answer_room answer in omega arith
label_room (M host plan) = let own = start_room plan.iss plan.shift in omega arith
label_room (T host line choice) = omega arith
label_room (K host line) = omega arith
label_room (R host line) = omega arith
label_room (F host recovery) = omega arith

step_short : (v : Version) (s : Step) → s.moment ≤ 1000000000000000000 → IsLabel v s.label → length (joined (piece_texts (step_pieces s))) ≤ 140000
step_short v s moment label =
    let len = pieces_short (step_pieces s) (short_decimal s.moment (omega arith), label_short v s.label label) in
    let own = label_room s.label in
    omega (arith, len, own)

-- ---- the steps

step_printed : (v : Version) (number : ℕ) (s : Step) → number ≤ 10000000 → IsPrintableStep v s
    → IsStepText v number (step_at number s) (printed_line (step_pieces s))
step_printed v number s count p = record {
  texts = piece_texts (step_pieces s);
  written = (refl, pieces_written (label_pieces s.label) p.bytes);
  line = record { ends = (10 ∷ [], inl refl, refl); short = step_short v s p.moment p.label; count = count };
  moment = p.moment;
  label = p.label;
  span = refl;
}

steps_printed : (v : Version) (number : ℕ) (steps : List Step) → number + length steps ≤ 10000001 → AllByRecursion (IsPrintableStep v) steps
    → AreSpelled (IsStepText v) number_after number (steps_at number steps) (map (λ s. printed_line (step_pieces s)) steps)
steps_printed v number [] few all = tt
steps_printed v number (s ∷ steps) few all = (step_printed v number s (omega arith) all.0, steps_printed v (number + 1) steps (omega arith) all.1)

first_short : (v : Version) → length (first_text v) ≤ 140000
first_short versions.One = omega arith
first_short versions.Two = omega arith
first_short versions.Three = omega arith
first_short versions.Four = omega arith
first_short versions.FourHalf = omega arith
first_short versions.Five = omega arith
first_short versions.FiveHalf = omega arith
first_short versions.Six = omega arith
first_short versions.SixHalf = omega arith

pub is_printed : (w : Witness) → IsPrintableWitness w → IsWitnessText (with_columns w) (witness_text w)
is_printed w p = record {
  first = first_text w.version ++ 10 ∷ [];
  raws = map (λ s. printed_line (step_pieces s)) w.steps;
  begins = record { ends = (10 ∷ [], inl refl, refl); short = first_short w.version; count = omega arith };
  steps = steps_printed w.version 2 w.steps (let few = p.few in omega arith) p.steps;
  parts = refl;
}

-- ---- and nothing else is

record AreWithin (v : Version) (number : ℕ) (ss : List Step) : Type 0 where
  few : number + length ss ≤ 10000001
  steps : AllByRecursion (IsPrintableStep v) ss

within : (v : Version) (number : ℕ) (steps : List Step) (raws : List (List ℕ)) → number ≤ 10000001
    → AreSpelled (IsStepText v) number_after number (steps_at number steps) raws → AreWithin v number steps
within v number [] raws le h = record { few = omega arith; steps = tt }
within v number (s ∷ steps) [] le h = absurd h
within v number (s ∷ steps) (raw ∷ raws) le h =
    let own = h.0 in
    let count = own.line.count in
    let others = within v (number + 1) steps raws (omega arith) h.1 in
    let few = others.few in record {
      few = omega arith;
      steps = (record { moment = own.moment; label = own.label; bytes = (written_bytes (step_pieces s) own.texts own.written).1 }, others.steps);
    }

pub is_printable : (w : Witness) (text : List ℕ) → IsWitnessText (with_columns w) text → IsPrintableWitness w
is_printable w text t =
    let own = within w.version 2 w.steps t.raws (omega arith) t.steps in
    let few = own.few in
    record { few = omega arith; steps = own.steps }

-- ---- what holds of the elements so far, and of one more

pub all_more : {X : Type 0} (P : X → Type 0) (xs : List X) (i : ℕ) (d : X) → i < length xs
    → AllByRecursion P (take i xs) → P (get_or xs i d) → AllByRecursion P (take (i + 1) xs)
all_more {X = X} P xs i d lt before here =
    let one : suc i ≡ i + 1 = omega arith in
    subst (λ (ys : List X). AllByRecursion P ys) (sym (take-suc xs i d lt) ∙ ap (λ (n : ℕ). take n xs) one)
    (both P (take i xs) (get_or xs i d ∷ []) before (here, tt))

-- ---- values in memory

answer_within : (answer : Answer) → IsTextAnswer answer → HasAnswerBits answer → IsAnswer answer
answer_within (answers.Given count) text bits = bits
answer_within (answers.Bytes bytes) text bits = text
answer_within (answers.State state) text bits = tt
answer_within answers.Done text bits = tt
answer_within answers.Again text bits = tt
answer_within answers.Eof text bits = tt
answer_within answers.Closed text bits = tt
answer_within answers.NotConn text bits = tt
answer_within answers.Refused text bits = tt
answer_within answers.Reset text bits = tt
answer_within answers.Timeout text bits = tt
answer_within answers.InUse text bits = tt
answer_within answers.BadSocket text bits = tt

iss_within : (iss : Option Word) → HasIssBits iss → IsIss iss
iss_within None bits = tt
iss_within (Some iss) bits = bits

label_within : (v : Version) (label : Label NamedLine) → IsWithinLabel v label → TellsShift v label → HasLabelBits label → IsLabel v label
label_within v (L line) p shift bits = (p, bits)
label_within v (D thread answer) p shift bits = (bits.0, answer_within answer p bits.1)
label_within v (M host plan) p shift bits =
    ((p.0, p.1, bits.lport, p.2, bits.rport), p.3, p.4, bits.window, (iss_within plan.iss bits.iss, shift))
label_within v (T host line choice) p shift bits = (p, bits)
label_within v (K host line) p shift bits = p
label_within v (R host line) p shift bits = p
label_within v (F host x) p shift bits = ((p.0, p.1, bits.0, p.2, bits.1), bits.2, bits.3, p.3)

steps_print : (v : Version) (steps : List Step) → AllByRecursion (IsWithinStep v) steps → TellShifts v steps
    → AllByRecursion IsInMemory steps → AllByRecursion (IsPrintableStep v) steps
steps_print v [] p t b = tt
steps_print v (s ∷ steps) p t b =
    let own = p.0 in
    let memory = b.0 in
    (record { moment = own.moment; label = label_within v s.label own.label t.0 memory.label; bytes = memory.bytes }, steps_print v steps p.1 t.1 b.1)

pub within_prints : (w : Witness) → IsWithinWitness w → TellShifts w.version w.steps → AllByRecursion IsInMemory w.steps → IsPrintableWitness w
within_prints w p t b = record { few = p.few; steps = steps_print w.version w.steps p.steps t b }
