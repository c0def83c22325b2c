use Rattle.stack_core.proofs.TendedLemmas.{all_later, none_listed}
use Rattle.stack_core.proofs.timers.find_among.Goals as goal

pub returns-in_default-clause-none : goal.returns-in_default-clause-none
returns-in_default-clause-none c =
    none_listed c.args.recording.now c.args.moment c.loop.wakes.looked c.loop.wakes.entries.keys c.loop.invariant.0
    c.in_default.ensures.first c.loop.invariant.1

pub returns-then-moment-wake-clause-none : goal.returns-then-moment-wake-clause-none
returns-then-moment-wake-clause-none c =
    all_later c.args.recording.now c.args.moment c.loop.wakes.looked c.loop.wakes.entries.keys c.in-Some.wake
    c.loop.invariant.0 c.in-Some.ensures.earliest c.if-moment-wake.true c.loop.invariant.1
