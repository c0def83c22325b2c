use Rattle.line_fields.proofs.AnswerLaw.{reads_answer}
use Rattle.line_fields.proofs.answers.answer_law.Goals as goal

pub returns : goal.returns
returns c = reads_answer
