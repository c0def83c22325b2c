use Rattle.std.proofs.Common.{Bool, Option, None, ap, sym, ◌∙◌}
use Rattle.std.specs.Prelude.{if◌then◌else◌}
use Rattle.spec_duties.specs.Answering.{waiting_on}
use Rattle.spec_duties.specs.declared.answering.CallChange.TheVariants as call_change
use Rattle.spec_duties.specs.declared.answering.Waiting.{Waiting}
use Rattle.watched.proofs.waiting.answering_on.Goals as goal

pub returns-else-is_again : goal.returns-else-is_again
returns-else-is_again c = λ h.
    ap (λ (x : Option Waiting). call_change.Answers c.args.thread x) (c.waiting_on-waiting.ensures h)
    ∙ ap (λ (again : Bool). call_change.Answers c.args.thread (if again then None else waiting_on h c.args.world.now.world c.args.awaited c.args.socket))
    (sym c.if-is_again.false ∙ c.is_again.ensures)
