-- Reading an answer.
use Rattle.std.specs.Prelude.{Result, Ok}
use Rattle.case_forms.specs.declared.calls.Answer.{Answer}
use Rattle.case_forms.specs.declared.calls.Answer.TheVariants as answers
use Rattle.line_fields.specs.declared.fault.TextFault.{TextFault}
use Rattle.line_fields.specs.declared.answers.AnswerWord.{AnswerWord}
use Rattle.line_fields.specs.declared.answers.AnswerWord.TheVariants as words
use Rattle.line_fields.specs.Word.{Rest}
use Rattle.line_fields.specs.Reading.{◌>>=◌, number_field, or_end}
use Rattle.line_fields.specs.Choice.{kind_field}
use Rattle.line_fields.specs.HexFields.{hex_field}
use Rattle.line_fields.specs.States.{state_name, all_states}
use Rattle.line_fields.specs.Answers.{answer_name, all_answer_words}

-- a number that is returned
abbrev pub given_field : Rest → Result (Answer × Rest) TextFault
given_field r = do
  count ← number_field 0 4294967295 r
  Ok (answers.Given count.0, count.1)

-- the bytes that were received
abbrev pub data_field : Rest → Result (Answer × Rest) TextFault
data_field r = do
  bytes ← hex_field 65535 r
  Ok (answers.Bytes bytes.0, bytes.1)

-- the name of a state
abbrev pub state_field : Rest → Result (Answer × Rest) TextFault
state_field r = do
  state ← kind_field state_name all_states r
  Ok (answers.State state.0, state.1)

-- what follows the first word; a number may follow `ok`
abbrev pub answer_behind : AnswerWord → Rest → Result (Answer × Rest) TextFault
answer_behind words.Done r = or_end answers.Done given_field r.words r
answer_behind words.Data r = data_field r
answer_behind words.State r = state_field r
answer_behind words.Again r = Ok (answers.Again, r)
answer_behind words.Eof r = Ok (answers.Eof, r)
answer_behind words.Closed r = Ok (answers.Closed, r)
answer_behind words.NotConn r = Ok (answers.NotConn, r)
answer_behind words.Refused r = Ok (answers.Refused, r)
answer_behind words.Reset r = Ok (answers.Reset, r)
answer_behind words.Timeout r = Ok (answers.Timeout, r)
answer_behind words.InUse r = Ok (answers.InUse, r)
answer_behind words.BadSocket r = Ok (answers.BadSocket, r)

-- an answer
unfoldable pub answer_field : Rest → Result (Answer × Rest) TextFault
answer_field r = kind_field answer_name all_answer_words r >>= λ word. answer_behind word.0 word.1
