use Rattle.std.proofs.Common.{ℕ, suc, ap, sym, subst, ◌∙◌}
use Rattle.case_forms.specs.declared.trace.Wire.{Wire}
use Rattle.spec_network.specs.Hosts.{At, Gets}
use Rattle.stack_core.specs.Cores.{Fits, with_step}
use Rattle.stack_core.proofs.ArriveLemmas.{brought_steps, came_fits, came_held, came_in, came_waits, room_kept}
use Rattle.stack_core.proofs.host_core.HostCore.come_in.Goals as goal

pub add-requires-clause-room : goal.add-requires-clause-room
add-requires-clause-room c = room_kept c.args.self.now c.bring.new.self c.args.flying c.in_ok-bring.ensures.ok c.requires.room

pub add-requires-clause-fits : goal.add-requires-clause-fits
add-requires-clause-fits c = subst (λ (n : ℕ). Fits c.bring.new.self (At c.me.result (Gets c.line.result n c.in_ok-wire.wire))) (sym c.line-copied.ensures)
    (came_fits c.args.self.now c.bring.new.self c.args.flying c.line.result c.in_ok-wire.wire c.me.result
    c.in_ok-bring.ensures.ok (ap (λ (w : Wire). w.bytes) c.in_ok-wire.ensures ∙ c.wire.ensures.bytes)
    c.requires.young c.me.ensures)

pub returns-clause-ok : goal.returns-clause-ok
returns-clause-ok c =
    came_in c.args.self.now c.bring.new.self c.add.new.self c.args.flying c.in_ok-wire.wire c.me.result c.line.result
    c.in_ok-bring.ensures.ok c.me.ensures c.line.ensures
    (c.in_ok-add.ensures.ok ∙ ap (λ (n : ℕ). with_step c.bring.new.self (At c.me.result (Gets c.line.result n c.in_ok-wire.wire))) c.line-copied.ensures)
    (ap (λ (w : Wire). w.bytes) c.in_ok-wire.ensures ∙ c.wire.ensures.bytes)

pub returns-clause-count : goal.returns-clause-count
returns-clause-count c =
    c.in_ok-add.ensures.count ∙ ap (λ (n : ℕ). suc n)
    (brought_steps c.args.self.now c.bring.new.self c.args.flying c.in_ok-bring.ensures.ok)

pub returns-clause-waits : goal.returns-clause-waits
returns-clause-waits c =
    came_waits c.args.self.now c.bring.new.self c.add.new.self c.args.flying c.in_ok-wire.wire c.me.result c.line.result
    c.in_ok-bring.ensures.ok c.me.ensures c.line.ensures
    (c.in_ok-add.ensures.ok ∙ ap (λ (n : ℕ). with_step c.bring.new.self (At c.me.result (Gets c.line.result n c.in_ok-wire.wire))) c.line-copied.ensures)

pub returns-clause-holds : goal.returns-clause-holds
returns-clause-holds c =
    came_held c.args.self.now c.bring.new.self c.add.new.self c.args.flying c.in_ok-wire.wire c.me.result c.line.result
    c.in_ok-bring.ensures.ok c.me.ensures c.line.ensures
    (c.in_ok-add.ensures.ok ∙ ap (λ (n : ℕ). with_step c.bring.new.self (At c.me.result (Gets c.line.result n c.in_ok-wire.wire))) c.line-copied.ensures)
