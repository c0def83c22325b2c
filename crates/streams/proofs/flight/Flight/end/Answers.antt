use Rattle.std.proofs.Common.{◌∙◌, ap, sym, length, List, Option}
use Rattle.streams.specs.declared.outstanding.Outstanding.{Outstanding}
use Rattle.streams.proofs.PieceLemmas.{length_known}
use Rattle.streams.proofs.flight.Flight.end.Goals as goal

pub returns : goal.returns
returns c =
    sym (length_known c.self.inside.pieces.entries c.self.inside.snd_una c.self.inside.end c.self.invariant)
    ∙ ap (λ (xs : List (Option Outstanding)). length xs) c.self.view_is
