use Rattle.std.proofs.Common.{ℕ, List, Some, Ok}
use Rattle.std.specs.Borrow.{Bor}
use Rattle.checker.proofs.EndLemmas.{starts_offered, listed_verdict}
use Rattle.checker.proofs.lists.judge_lists.Goals as goal

pub returns-in-Ok : goal.returns-in-Ok
returns-in-Ok c =
    rw c.in-Ok.is at (listed_verdict c.args.header.now c.args.lines.now c.args.steps.now c.judge_in-answer.result
    (c.judge_in-answer.ensures.tells c.args.header.now (Some (Ok c.args.lines.now)) (Some (Ok c.args.steps.now)) c.args.lines.now
    (starts_offered (λ (text : Bor (List ℕ)). Some text.now) c.at_end-left.result c.args.header.now c.args.lines.now
    (Some (Ok c.args.steps.now)) c.in_ok-window.window
    c.start-world.result c.at_end-left.ensures.end c.in_ok-window.ensures c.start-world.ensures)))
