use Rattle.std.proofs.Common.{sym, ap, ◌∙◌}
use Rattle.std.specs.FinSet.{FinSet}
use Rattle.std.specs.Ordering.{nat_cmp}
use Rattle.streams.specs.Flying.{flying_in}
use Rattle.spec_flights.specs.Delivered.{within}
use Rattle.spec_flights.specs.Scoreboard.{Scoreboard}
use Rattle.spec_flights.specs.Undoing.{any_below}
use Rattle.flight_parts.proofs.SetLemmas.{read_back}
use Rattle.scoreboard.proofs.scoreboard.Scoreboard.is_any_below.Goals as goal

pub returns : goal.returns
returns c =
    c.is_any_below.ensures
    ∙ (ap
    (λ (told : FinSet nat_cmp). any_below c.args.number (flying_in c.self.inside.known told c.args.stretch.from c.args.stretch.upto))
    (sym (read_back c.self.inside.told))
    ∙ ap (λ (b : Scoreboard). any_below c.args.number (within c.args.stretch b)) c.self.view_is)
