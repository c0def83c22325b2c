use Rattle.std.proofs.Common.{sym, ◌∙◌}
use Rattle.interval_order.proofs.LaterLemmas.{all_timed}
use Rattle.interval_order.proofs.pending_lines.PendingLines.overdue.Goals as goal

pub returns-clause-current : goal.returns-clause-current
returns-clause-current c none below = all_timed c.args.self.now c.args.moment (sym c.first_late.ensures ∙ none) below
