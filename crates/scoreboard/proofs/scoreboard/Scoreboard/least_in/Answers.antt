use Rattle.std.proofs.Common.{sym, ap, ◌∙◌}
use Rattle.std.specs.FinSet.{FinSet}
use Rattle.std.specs.Ordering.{nat_cmp}
use Rattle.streams.specs.Flying.{flying_in}
use Rattle.spec_flights.specs.Delivered.{least_after, within}
use Rattle.spec_flights.specs.Scoreboard.{Scoreboard}
use Rattle.flight_parts.proofs.SetLemmas.{read_back}
use Rattle.scoreboard.proofs.scoreboard.Scoreboard.least_in.Goals as goal

pub returns : goal.returns
returns c =
    c.least_in.ensures
    ∙ (ap
    (λ (told : FinSet nat_cmp). least_after c.args.moment c.args.least (flying_in c.self.inside.known told c.args.stretch.from c.args.stretch.upto))
    (sym (read_back c.self.inside.told))
    ∙ ap (λ (b : Scoreboard). least_after c.args.moment c.args.least (within c.args.stretch b)) c.self.view_is)
