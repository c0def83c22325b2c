use Rattle.stack_core.proofs.TendedLemmas.{later_timed, left_timed}
use Rattle.stack_core.proofs.timers.look_later.Goals as goal

pub returns-in-Some-clause-timed : goal.returns-in-Some-clause-timed
returns-in-Some-clause-timed c =
    later_timed c.args.header.now c.args.body.now.endpoints c.args.wakes.now.looked c.renew.new.self.looked
    c.args.wakes.now.entries.keys c.renew.new.self.entries.keys c.args.wake c.in-Some.moment c.requires.first
    c.renew.ensures.renewed c.in-Some.ensures.some c.requires.timed

pub returns-in-None-clause-timed : goal.returns-in-None-clause-timed
returns-in-None-clause-timed c =
    left_timed c.args.header.now c.args.body.now.endpoints c.args.wakes.now.looked c.leave.new.self.looked
    c.args.wakes.now.entries.keys c.leave.new.self.entries.keys c.args.wake c.requires.first c.leave.ensures.looked
    c.leave.ensures.rest c.in-None.ensures.none c.requires.timed
