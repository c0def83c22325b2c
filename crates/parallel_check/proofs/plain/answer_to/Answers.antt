use Rattle.parallel_check.proofs.Slots.{gives_answer}
use Rattle.parallel_check.proofs.plain.answer_to.Goals as goal

pub returns : goal.returns
returns c = gives_answer c.args.text.now c.check_case.result c.check_case.ensures.exact
