use Rattle.std.proofs.Common.{◌∙◌, ap, sym, List}
use Rattle.std.specs.Prelude.{Option}
use Rattle.streams.specs.declared.outstanding.Outstanding.{Outstanding}
use Rattle.streams.specs.Pieces.{acknowledged}
use Rattle.streams.proofs.FlightLemmas.{acknowledged_is}
use Rattle.streams.proofs.flight.Flight.snd_una.Goals as goal

pub returns : goal.returns
returns c =
    sym (acknowledged_is c.self.inside.pieces.entries c.self.inside.snd_una)
    ∙ ap (λ (xs : List (Option Outstanding)). acknowledged xs) c.self.view_is
