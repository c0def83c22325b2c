use Rattle.std.proofs.Common.{◌∙◌, refl}
use Rattle.endpoint_state.proofs.KeptHostSteps.{made_is}
use Rattle.endpoint_state.proofs.host.make.Goals as goal

pub returns-clause-ok : goal.returns-clause-ok
returns-clause-ok c =
    made_is c.args.me c.args.moment c.args.fresh c.in_ok-number.number c.args.plan.now c.in_ok-emission.emission
    c.args.host.now c.host.inside.body c.make_at.new.self c.host.inside.made.entries c.insert.new.self.entries
    c.host.inside.wire.entries c.host.inside.inbox.entries
    c.host.view_is c.in_ok-number.ensures.place c.in_ok-emission.ensures.made c.in_ok-emission.ensures.ok
    (c.in_ok-insert.ensures.ok ∙ rw (c.reserve.ensures.entries, c.from-2.ensures, c.unsent.ensures) refl)
