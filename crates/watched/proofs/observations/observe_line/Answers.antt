use Rattle.std.proofs.Common.{◌∙◌, ap, sym}
use Rattle.spec_tcp.specs.Steps.{line_step}
use Rattle.spec_duties.specs.Observations.{observe}
use Rattle.watched.proofs.observations.observe_line.Goals as goal

pub returns-in-Sent : goal.returns-in-Sent
returns-in-Sent c =
    c.observe_sending.ensures
    ∙ ap (λ line. observe c.args.world.now.header c.args.moment c.args.world.now.world (line_step line)) (sym c.in-Sent.is)
