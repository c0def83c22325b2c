use Rattle.std.proofs.Common.{sym, subst, List, ℕ, ◌∙◌, ap}
use Rattle.segment.specs.Encoding.{as_written}
use Rattle.segment.specs.Layout.{IsSegment}
use Rattle.stack_core.proofs.Shown.{all_shown}
use Rattle.stack_core.proofs.outgoing.wire_of.Goals as goal

pub returns-clause-shows : goal.returns-clause-shows
returns-clause-shows c = λ h. all_shown h _ c.args.m.now c.args.mss
    (c.in-Ok-decode.ensures.only (as_written c.in_ok-segment.segment)
    (subst (λ (bs : List ℕ). IsSegment bs (as_written c.in_ok-segment.segment))
    (sym c.as_slice.ensures.value) c.in-Ok.ensures.again) ∙ ap as_written c.in_ok-segment.ensures)
