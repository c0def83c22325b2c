use Rattle.std.proofs.Common.{ap, filter, nat_eq, not, length, Option, slice_set, Some, sym, ◌∙◌, arith}
use Rattle.std.proofs.lemmas.List.{length-set}
use Rattle.std.specs.Map.{lookup}
use Rattle.tables.specs.Queues.{Queue, standing}
use Rattle.tables.proofs.QueueLemmas.{fewer, none_gone, one_less, slot_has, there}
use Rattle.tables.proofs.queue.Queue.take.Goals as goal

pub returns-in_err-place-clause-entries : goal.returns-in_err-place-clause-entries
returns-in_err-place-clause-entries g c =
    sym (none_gone c.args.number c.args.self.now.entries
    (ap (λ (q : Queue g.row.V.Denot). lookup (nat_eq c.args.number) q.entries) (sym c.self.view_is)
    ∙ c.in_err-place.ensures.none))

pub returns-in_err-item-clause-item : goal.returns-in_err-item-clause-item
returns-in_err-item-clause-item g c =
    c.from_residual-in_err-item.ensures
    ∙ c.in_err-item.ensures.value
    ∙ sym (slot_has c.args.number c.self.inside.first c.in_ok-place.place c.self.inside.slots.items
    c.index_mut.result.now c.in_ok-place.ensures.some.0
    (let ok = c.self.inside.slots.ok in omega (arith, c.in_ok-place.ensures.some.1)) c.index_mut.ensures.value)
    ∙ ap (λ (q : Queue g.row.V.Denot). lookup (nat_eq c.args.number) q.entries) c.self.view_is

pub returns-in_err-item-clause-entries : goal.returns-in_err-item-clause-entries
returns-in_err-item-clause-entries g c =
    rw c.in_err-item.ensures.after (one_less c.args.number c.self.inside.first c.in_ok-place.place c.self.inside.slots.items c.in_ok-place.ensures.some.0)
    ∙ ap (λ (q : Queue g.row.V.Denot). filter (λ e. not (nat_eq c.args.number e.0)) q.entries) c.self.view_is

pub overflow_sub-self : goal.overflow_sub-self
overflow_sub-self g c =
    let ok = c.self.inside.slots.ok in
    let here =
    there c.self.inside.slots.items c.in_ok-place.place c.index_mut.result.now
    (omega (arith, c.in_ok-place.ensures.some.1)) c.index_mut.ensures.value in
    let less =
    fewer c.self.inside.first c.in_ok-place.place c.self.inside.slots.items c.in_ok-item.item
    (here ∙ ap (λ (x : Option g.row.V.Denot). Some x) (sym c.in_ok-item.ensures.value)) in
    omega (arith, less, c.self.invariant.0)

pub invariant_of-self-2 : goal.invariant_of-self-2
invariant_of-self-2 g c =
    let ok = c.self.inside.slots.ok in
    let here =
    there c.self.inside.slots.items c.in_ok-place.place c.index_mut.result.now
    (omega (arith, c.in_ok-place.ensures.some.1)) c.index_mut.ensures.value in
    let less =
    fewer c.self.inside.first c.in_ok-place.place c.self.inside.slots.items c.in_ok-item.item
    (here ∙ ap (λ (x : Option g.row.V.Denot). Some x) (sym c.in_ok-item.ensures.value)) in
    let long = length-set c.self.inside.slots.items c.in_ok-place.place c.take.new.self in
    let left =
    ap (λ (x : Option g.row.V.Denot).
    length (standing c.self.inside.first (slice_set c.self.inside.slots.items c.in_ok-place.place x)))
    (sym c.in_ok-item.ensures.after)
    ∙ ap length (c.drop_empty.ensures.standing c.self.inside.first)
    in
    (omega (arith, less, left, c.self.invariant.0), omega (arith, long), c.drop_empty.ensures.trimmed)

pub returns-clause-item : goal.returns-clause-item
returns-clause-item g c =
    c.in_ok-item.ensures.value
    ∙ sym (slot_has c.args.number c.self.inside.first c.in_ok-place.place c.self.inside.slots.items
    c.index_mut.result.now c.in_ok-place.ensures.some.0
    (let ok = c.self.inside.slots.ok in omega (arith, c.in_ok-place.ensures.some.1)) c.index_mut.ensures.value)
    ∙ ap (λ (q : Queue g.row.V.Denot). lookup (nat_eq c.args.number) q.entries) c.self.view_is

pub returns-clause-entries : goal.returns-clause-entries
returns-clause-entries g c =
    sym (c.drop_empty.ensures.standing c.self.inside.first)
    ∙ rw c.in_ok-item.ensures.after (one_less c.args.number c.self.inside.first c.in_ok-place.place c.self.inside.slots.items c.in_ok-place.ensures.some.0)
    ∙ ap (λ (q : Queue g.row.V.Denot). filter (λ e. not (nat_eq c.args.number e.0)) q.entries) c.self.view_is
