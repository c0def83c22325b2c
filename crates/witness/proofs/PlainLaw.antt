-- Steps as they are usually written.
use Rattle.std.proofs.Common.{◌≡◌, ℕ, List, [], true, false, None, Some, Ok, refl, ◌∙◌, sym, subst}
use Rattle.std.specs.Prelude.{codes}
use Rattle.std.proofs.lemmas.List.{append-nil}
use Rattle.case_forms.specs.declared.calls.Answer.{Answer}
use Rattle.case_forms.specs.declared.calls.Host.{Host}
use Rattle.case_forms.specs.declared.named_line.NamedLine.{NamedLine}
use Rattle.case_forms.specs.declared.steps.Label.{Label}
use Rattle.case_forms.specs.declared.steps.Label.TheVariants.{D, M}
use Rattle.case_forms.specs.declared.version.Version.{Version}
use Rattle.line_fields.specs.Word.{Rest}
use Rattle.line_fields.specs.Reading.{number_field, no_more}
use Rattle.line_fields.specs.Reader.{texts}
use Rattle.line_fields.specs.Choice.{kind_field}
use Rattle.line_fields.specs.FirstField.{IsNext, fields_of}
use Rattle.line_fields.specs.Lines.{line_rest}
use Rattle.line_fields.specs.Answers.{IsSpelledAnswer}
use Rattle.line_fields.specs.Hosts.{host_field}
use Rattle.line_fields.proofs.Readers.{no_words}
use Rattle.line_fields.proofs.AnswerLaw.{reads_answer}
use Rattle.witness.specs.declared.labels.LabelWord.{LabelWord}
use Rattle.witness.specs.Flags.{flags_field}
use Rattle.witness.specs.Labels.{label_name, label_words_of}
use Rattle.witness.specs.LabelFields.{effect_label, segment_label, label_behind, label_field}
use Rattle.witness.specs.Parts.{endpoint_field, start_field}
use Rattle.witness.specs.Plain.{IsPlaced}
use Rattle.witness.specs.Steps.{step_of}
use Rattle.witness.proofs.LabelLaw.{IsWord, labels_named}

-- the first word of a label
kind_is : (v : Version) (word : LabelWord) (before after : Rest) → IsWord v word → IsNext (label_name word) before after
    → kind_field label_name (label_words_of v) before ≡ Ok (word, after)
kind_is v word before after known is =
    let next = is.next in
    let text = is.text in
    let named = (labels_named v).named word known in
    rw (next, text, named) refl

-- no field was taken before the next one
pub after : {bytes : List ℕ} {a b last : Rest} → a ≡ b → IsNext bytes a last → IsNext bytes b last
after {bytes} {a} {b} {last} same next = subst (λ (r : Rest). IsNext bytes r last) same next

-- a step, part by part
pub step_is : (v : Version) (number moment stop : ℕ) (raw : List ℕ) (word : LabelWord) (label : Label NamedLine) (r behind_moment behind_word last : Rest)
    → IsWord v word → line_rest number raw ≡ Ok r → number_field 0 1000000000000000000 r ≡ Ok (moment, behind_moment)
    → IsNext (label_name word) behind_moment behind_word
    → label_behind v word behind_word ≡ Ok (label, last) → last.words ≡ [] → stop ≡ r.stop
    → IsPlaced (Some (record { moment = moment; label = label; span = record { line = number; start = 0; stop = stop } })) (step_of v number raw)
unfolding step_of label_field no_more
step_is v number moment stop raw word label r behind_moment behind_word last known line is next behind none ends =
    let kind = kind_is v word behind_moment behind_word known next in
    record {
      step = record { moment = moment; label = label; span = record { line = number; start = 0; stop = stop } };
      placed = refl;
      is = rw (line, is, kind, behind, none, ends) refl;
    }

-- an effect whose answer is the last of its line
pub effect_is : (thread : ℕ) (answer : Answer) (text : List ℕ) (before behind_thread : Rest)
    → number_field 0 4294967295 before ≡ Ok (thread, behind_thread) → texts behind_thread ≡ fields_of text → IsSpelledAnswer answer (fields_of text)
    → (last : Rest) × (effect_label before ≡ Ok (D thread answer, last)) × (last.words ≡ [])
unfolding effect_label
effect_is thread answer text before behind_thread is left spelled =
    let read = reads_answer.again behind_thread answer (fields_of text) [] refl spelled (left ∙ sym (append-nil (fields_of text))) in
    let gives = read.1 in
    (read.0, rw (is, gives) refl, no_words read.0.words read.2)

-- a segment with an ACK alone, and no initial send sequence number
pub segment_is : (v : Version) (host : Host) (lport rport pos len window : ℕ) (r r1 r2 r3 r4 r5 r6 last : Rest)
    → host_field v r ≡ Ok (host, r1) → number_field 1 65535 r1 ≡ Ok (lport, r2) → number_field 1 65535 r2 ≡ Ok (rport, r3)
    → number_field 0 1000000000000000000 r3 ≡ Ok (pos, r4) → number_field 0 65515 r4 ≡ Ok (len, r5)
    → IsNext (codes "A") r5 r6 → number_field 0 65535 r6 ≡ Ok (window, last) → last.words ≡ []
    → segment_label v r
    ≡ Ok (
      M host (record {
        lport = lport;
        rport = rport;
        pos = pos;
        len = len;
        flags = record { ack = true; rst = false; syn = false; fin = false };
        window = window;
        iss = None;
        shift = None;
      }),
      last,
    )
unfolding segment_label endpoint_field flags_field start_field
segment_is v host lport rport pos len window r r1 r2 r3 r4 r5 r6 last h l p at n flags w none =
    let next = flags.next in
    let text = flags.text in
    rw (h, l, p, at, n, next, text, w, none) refl
