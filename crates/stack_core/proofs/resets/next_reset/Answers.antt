use Rattle.stack_core.specs.Resets.{made_of}
use Rattle.stack_core.proofs.ResetLemmas.{leaves, none_left}
use Rattle.stack_core.proofs.resets.next_reset.Goals as goal

pub loop-number-preserved : goal.loop-number-preserved
loop-number-preserved c =
    leaves (made_of c.args.recording.now) c.in-Some.number c.loop-number.resets.items c.pop_front.new.self.items
    c.in-Some.ensures c.pop_front.ensures.rest (c.is_waiting.ensures.no c.if-is_waiting.false) c.loop-number.invariant

pub returns-clause-none : goal.returns-clause-none
returns-clause-none c = none_left (made_of c.args.recording.now) c.loop-number.resets.items c.in_default.ensures c.loop-number.invariant
