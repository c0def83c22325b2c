-- What follows the first word of an answer.
use Rattle.line_fields.specs.Answers.{answer_name, all_answer_words}
use Rattle.line_fields.specs.Forms.{Form, End, Maybe, numeric, digits, named, then_form, choice}
use Rattle.line_fields.specs.States.{state_name, all_states}
use Rattle.line_fields.specs.declared.answers.AnswerWord.{AnswerWord}
use Rattle.line_fields.specs.declared.answers.AnswerWord.TheVariants as words

abbrev pub answer_form : AnswerWord → Form
answer_form words.Done = Maybe (then_form (numeric 0 4294967295) End)
answer_form words.Data = then_form (digits 65535) End
answer_form words.State = then_form (named state_name all_states) End
answer_form word = End

-- an answer, with which a line ends
abbrev pub answer_last : Form
answer_last = choice answer_name all_answer_words answer_form
