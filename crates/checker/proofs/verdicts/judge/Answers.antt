use Rattle.std.proofs.Common.{[]}
use Rattle.checker.specs.Ahead.{left_ahead}
use Rattle.checker.proofs.EndLemmas.{starts}
use Rattle.checker.proofs.verdicts.judge.Goals as goal

pub returns-clause-tells : goal.returns-clause-tells
returns-clause-tells g c =
    c.judge_in-verdict.ensures.tells c.args.header.now (left_ahead g.A.Read.remaining c.args.lines.now) (g.S.StepSource.left c.args.steps.now) []
    (starts c.args.header.now (left_ahead g.A.Read.remaining c.args.lines.now)
    (g.S.StepSource.left c.args.steps.now) c.new-window.result c.start-world.result
    c.new-window.ensures c.start-world.ensures)
