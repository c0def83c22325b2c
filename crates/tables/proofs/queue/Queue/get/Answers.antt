use Rattle.std.proofs.Common.{ap, nat_eq, sym, ◌∙◌, arith}
use Rattle.std.specs.Map.{lookup}
use Rattle.tables.specs.Queues.{Queue}
use Rattle.tables.proofs.QueueLemmas.{slot_has}
use Rattle.tables.proofs.queue.Queue.get.Goals as goal

pub returns : goal.returns
returns g c =
    c.as_ref.ensures.value
    ∙ sym (slot_has c.args.number c.self.inside.first c.in_ok-place.place c.self.inside.slots.items c.index.result.now
    c.in_ok-place.ensures.some.0 (let ok = c.self.inside.slots.ok in omega (arith, c.in_ok-place.ensures.some.1))
    c.index.ensures)
    ∙ ap (λ (q : Queue g.row.V.Denot). lookup (nat_eq c.args.number) q.entries) c.self.view_is
