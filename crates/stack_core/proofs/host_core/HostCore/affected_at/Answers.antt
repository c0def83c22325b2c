use Rattle.std.proofs.Common.{ap, ◌∙◌}
use Rattle.spec_network.specs.Tables.{pick}
use Rattle.spec_tcp.specs.HostTcp.{HostTcp, place_of}
use Rattle.spec_tcp_laws.proofs.ForgetBodies.{place-forget}
use Rattle.stack_core.specs.Cores.{Core, own_body}
use Rattle.stack_core.specs.Recordings.{world_left}
use Rattle.stack_core.specs.Affected.{affected_at}
use Rattle.stack_core.proofs.host_core.HostCore.affected_at.Goals as goal

pub returns : goal.returns
returns c =
    let r = c.self.inside.recording in
    c.affected_at.ensures ∙ ap affected_at
    (c.place_of.ensures ∙ ap (λ (b : HostTcp). place_of b c.args.lport c.args.rport) c.body.ensures
    ∙ place-forget (pick (world_left r).hosts r.me).body c.args.lport c.args.rport
    ∙ ap (λ (k : Core). place_of (own_body k) c.args.lport c.args.rport) c.self.view_is)
