use Rattle.std.proofs.Common.{ap, subst, sym, ◌∙◌, ℕ}
use Rattle.case_forms.specs.declared.calls.Ports.{Ports}
use Rattle.stack_core.specs.ArrivalEvents.{IsArrived, IsHeld, ports_of}
use Rattle.stack_core.specs.Cores.{Core}
use Rattle.stack_core.proofs.ArriveLemmas.{any_error, arrived, settled_short}
use Rattle.stack_core.proofs.host_core.HostCore.record_arrival.Goals as goal

pub returns-in_err-resolve_arrival-clause-err : goal.returns-in_err-resolve_arrival-clause-err
returns-in_err-resolve_arrival-clause-err c =
    any_error c.from_residual-in_err-resolve_arrival.result
    (settled_short c.args.self.now c.begin_event_with_room.new.self c.come_in.new.self c.resolve_arrival.new.self c.args.tick
    c.args.flying c.line-line.result c.ports_of-ports.result c.begin_event_with_room.ensures.begun
    c.in_ok-come_in.ensures.ok c.line-line.ensures
    (c.ports_of-ports.ensures ∙ ap ports_of c.emission.ensures) c.in_err-resolve_arrival.ensures.err)

pub returns-clause-ok : goal.returns-clause-ok
returns-clause-ok c =
    subst (λ (d : Core). IsArrived c.args.self.now c.args.tick c.args.flying d) (sym c.update_after_arrival.ensures)
    (arrived c.args.self.now c.begin_event_with_room.new.self c.come_in.new.self c.resolve_arrival.new.self c.args.tick
    c.args.flying c.line-line.result c.ports_of-ports.result c.begin_event_with_room.ensures.begun
    c.in_ok-come_in.ensures.ok c.line-line.ensures
    (c.ports_of-ports.ensures ∙ ap ports_of c.emission.ensures) c.in_ok-resolve_arrival.ensures.ok)

pub resolve_arrival-requires-clause-holds : goal.resolve_arrival-requires-clause-holds
resolve_arrival-requires-clause-holds c =
    subst (λ (p : Ports). IsHeld c.come_in.new.self c.line-line.result p)
    (sym (c.ports_of-ports.ensures ∙ ap ports_of c.emission.ensures))
    (subst (λ (n : ℕ). IsHeld c.come_in.new.self n (ports_of c.args.flying.emission)) (sym c.line-line.ensures) c.in_ok-come_in.ensures.holds)
