use Rattle.std.proofs.Common.{ap, sym, ◌∙◌, nat_lt}
use Rattle.std.specs.FinSet.{FinSet}
use Rattle.std.specs.List.{list_any}
use Rattle.std.specs.Ordering.{nat_cmp}
use Rattle.streams.specs.Flying.{flying_in}
use Rattle.spec_flights.specs.Late.{has_below}
use Rattle.spec_flights.specs.declared.stretch.Stretch.{Stretch}
use Rattle.flight_parts.proofs.SetLemmas.{read_back}
use Rattle.scoreboard.proofs.scoreboard.Scoreboard.has_below.Goals as goal

pub returns : goal.returns
returns c =
    c.is_any_below.ensures
    ∙ ap (λ (s : Stretch). list_any (λ x. nat_lt x.1.number c.args.number) (flying_in c.self.inside.known c.self.inside.told s.from s.upto))
    c.outstanding.ensures
    ∙ ap (λ (t : FinSet nat_cmp). list_any (λ x. nat_lt x.1.number c.args.number)
    (flying_in c.self.inside.known t c.args.v.now.snd_una c.args.v.now.snd_max)) (sym (read_back c.self.inside.told))
    ∙ ap (has_below c.args.number c.args.v.now) c.self.view_is
