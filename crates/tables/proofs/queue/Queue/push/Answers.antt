use Rattle.std.proofs.Common.{◌∷◌, [], ap, length-append, Some, arith}
use Rattle.tables.specs.Queues.{Queue}
use Rattle.tables.proofs.QueueLemmas.{at_most, counted, pushed, trimmed_more}
use Rattle.tables.proofs.queue.Queue.push.Goals as goal

pub overflow_add-self : goal.overflow_add-self
overflow_add-self g c =
    let few = at_most c.self.inside.first c.self.inside.slots.items in
    let next = ap (λ (q : Queue g.row.V.Denot). q.next) c.self.view_is in
    omega (arith, c.self.invariant.0, next, few)

pub invariant_of-self-2 : goal.invariant_of-self-2
invariant_of-self-2 g c =
    let next = ap (λ (q : Queue g.row.V.Denot). q.next) c.self.view_is in
    let ok = c.self.inside.slots.ok in
    let longer = length-append c.self.inside.slots.items (Some c.args.item ∷ []) in
    let more = counted c.self.inside.first c.self.inside.slots.items c.args.item in
    rw c.in_ok-push_back.ensures.items (
      omega (arith, more, c.self.invariant.0),
      omega (arith, next, longer),
      trimmed_more c.self.inside.slots.items c.args.item c.self.invariant.2,
    )

pub returns-clause-ok : goal.returns-clause-ok
returns-clause-ok g c = rw c.in_ok-push_back.ensures.items (pushed c.self.inside.first c.self.inside.slots.items c.args.item c.args.self.now c.self.view_is)
