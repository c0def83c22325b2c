-- What the reader of an answer at a line's end answers is the first fault by its form.
use Rattle.std.proofs.Common.{◌≡◌, ℕ, List, [], ◌∷◌, Result, Ok, ◌∙◌}
use Rattle.case_forms.specs.declared.calls.Answer.{Answer}
use Rattle.case_forms.specs.declared.calls.Answer.TheVariants as answers
use Rattle.line_fields.specs.AnswerFields.{given_field, answer_behind, answer_field}
use Rattle.line_fields.specs.AnswerForms.{answer_form, answer_last}
use Rattle.line_fields.specs.Answers.{answer_name, all_answer_words}
use Rattle.line_fields.specs.Choice.{kind_field}
use Rattle.line_fields.specs.Forms.{End}
use Rattle.line_fields.specs.HexFields.{hex_field}
use Rattle.line_fields.specs.Reading.{◌>>=◌, number_field, or_end}
use Rattle.line_fields.specs.States.{state_name, all_states}
use Rattle.line_fields.specs.Word.{Word, Rest}
use Rattle.line_fields.specs.declared.answers.AnswerWord.{AnswerWord}
use Rattle.line_fields.specs.declared.answers.AnswerWord.TheVariants as words
use Rattle.line_fields.specs.declared.fault.TextFault.{TextFault}
use Rattle.line_fields.proofs.FieldFaults.{failing, first_fault, Onward, assoc, number_then, hex_then, kind_then, choice_then}

given_last : {Y : Type 0} (f : Answer × Rest → Result Y TextFault) → Onward End f → (line stop : ℕ) (ws : List Word)
    → let r : Rest = record { line = line; stop = stop; words = ws } in
    failing (or_end answers.Done given_field ws r >>= f) ≡ first_fault (answer_form words.Done) r
given_last f on line stop [] = on answers.Done (record { line = line; stop = stop; words = [] })
given_last f on line stop (w ∷ ws) = let r : Rest = record { line = line; stop = stop; words = w ∷ ws } in
    assoc (number_field 0 4294967295 r) (λ count. Ok (answers.Given count.0, count.1)) f
    ∙ number_then 0 4294967295 End (λ count. f (answers.Given count.0, count.1))
    (λ x rest. on (answers.Given x) rest) r

pub answer_then : {Y : Type 0} (f : Answer × Rest → Result Y TextFault) → Onward End f → (r : Rest) → failing (answer_field r >>= f) ≡ first_fault answer_last r
unfolding answer_field
answer_then {Y} f on r =
    assoc (kind_field answer_name all_answer_words r) (λ word. answer_behind word.0 word.1) f
    ∙ choice_then answer_name all_answer_words answer_form (λ word. answer_behind word.0 word.1 >>= f) by r
  where
    by : (k : AnswerWord) (rest : Rest) → failing (answer_behind k rest >>= f) ≡ first_fault (answer_form k) rest
    by words.Done rest = given_last f on rest.line rest.stop rest.words
    by words.Data rest =
        assoc (hex_field 65535 rest) (λ bytes. Ok (answers.Bytes bytes.0, bytes.1)) f
        ∙ hex_then 65535 End (λ bytes. f (answers.Bytes bytes.0, bytes.1)) (λ x more. on (answers.Bytes x) more) rest
    by words.State rest =
        assoc (kind_field state_name all_states rest) (λ state. Ok (answers.State state.0, state.1)) f
        ∙ kind_then state_name all_states End (λ state. f (answers.State state.0, state.1))
        (λ x more. on (answers.State x) more) rest
    by words.Again rest = on answers.Again rest
    by words.Eof rest = on answers.Eof rest
    by words.Closed rest = on answers.Closed rest
    by words.NotConn rest = on answers.NotConn rest
    by words.Refused rest = on answers.Refused rest
    by words.Reset rest = on answers.Reset rest
    by words.Timeout rest = on answers.Timeout rest
    by words.InUse rest = on answers.InUse rest
    by words.BadSocket rest = on answers.BadSocket rest
