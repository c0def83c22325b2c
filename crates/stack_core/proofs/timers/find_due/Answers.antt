use Rattle.std.proofs.Common.{◌<◌, ◌≤◌, ◌^◌, length, subst, sym, arith}
use Rattle.spec_tcp.specs.HostTcp.{HostTcp}
use Rattle.stack_core.specs.DeadlineQueues.{IsGrown}
use Rattle.stack_core.specs.Tended.{IsStill, IsStillBefore, kept_ends}
use Rattle.stack_core.proofs.DeadlineQueueLemmas.{grown_covered}
use Rattle.stack_core.proofs.TendedLemmas.{never_before}
use Rattle.stack_core.proofs.timers.find_due.Goals as goal

pub list_new-requires : goal.list_new-requires
list_new-requires c =
    let few = c.few_endpoints.ensures in
    let steps = c.requires.steps in
    subst (λ (b : HostTcp). length b.endpoints < 2 ^ 32) (sym c.body.ensures) (omega arith)

pub find_among-requires-clause-all : goal.find_among-requires-clause-all
find_among-requires-clause-all c =
    subst (λ (b : HostTcp). length b.endpoints ≤ c.list_new.new.self.looked) c.body.ensures
    (c.list_new.ensures.all c.if-list_new.true)

pub find_among-requires-clause-timed : goal.find_among-requires-clause-timed
find_among-requires-clause-timed c =
    grown_covered (IsStillBefore c.args.recording.now.header) (IsStill c.args.recording.now.header)
    (never_before c.args.recording.now.header) c.args.wakes.now.looked c.list_new.new.self.looked
    c.args.wakes.now.entries.keys c.list_new.new.self.entries.keys (kept_ends c.args.recording.now)
    (subst (λ (b : HostTcp). IsGrown
    (length b.endpoints) c.args.wakes.now.looked c.args.wakes.now.entries.keys c.list_new.new.self.looked
    c.list_new.new.self.entries.keys) c.body.ensures c.list_new.ensures.grown) c.requires.timed

pub returns-clause-timed : goal.returns-clause-timed
returns-clause-timed c =
    grown_covered (IsStillBefore c.args.recording.now.header) (IsStill c.args.recording.now.header)
    (never_before c.args.recording.now.header) c.args.wakes.now.looked c.list_new.new.self.looked
    c.args.wakes.now.entries.keys c.list_new.new.self.entries.keys (kept_ends c.args.recording.now)
    (subst (λ (b : HostTcp). IsGrown
    (length b.endpoints) c.args.wakes.now.looked c.args.wakes.now.entries.keys c.list_new.new.self.looked
    c.list_new.new.self.entries.keys) c.body.ensures c.list_new.ensures.grown) c.requires.timed
