use Rattle.std.proofs.Common.{sym, ap, ◌∙◌}
use Rattle.std.specs.FinSet.{FinSet, from_list}
use Rattle.std.specs.Ordering.{nat_cmp}
use Rattle.streams.specs.Ranges.{meets}
use Rattle.spec_flights.specs.Scoreboard.{Scoreboard}
use Rattle.flight_parts.proofs.SetLemmas.{read_back}
use Rattle.scoreboard.proofs.scoreboard.Scoreboard.tells.Goals as goal

pub returns : goal.returns
returns c =
    c.meets.ensures ∙ ap (λ (s : FinSet nat_cmp). meets s c.args.from c.args.upto) (sym (read_back c.self.inside.told))
    ∙ ap (λ (b : Scoreboard). meets (from_list b.told) c.args.from c.args.upto) c.self.view_is
