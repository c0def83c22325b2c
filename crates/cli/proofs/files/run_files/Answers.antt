use Rattle.counted.specs.Counting.{left_of}
use Rattle.cli.proofs.TwoTexts.{texts_end}
use Rattle.cli.proofs.files.run_files.Goals as goal

pub returns-clause-check : goal.returns-clause-check
returns-clause-check g c = λ no_device.
    texts_end c.check_streams-answer.result.0 (left_of g.A.Read.remaining c.args.a)
    (left_of g.B.Read.remaining c.args.b) c.tell_case-status.result _ _ c.check_streams-answer.ensures.exact
    no_device (c.tell_case-status.ensures.said no_device)
