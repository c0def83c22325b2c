use Rattle.std.proofs.Common.{refl}
use Rattle.flight_parts.proofs.SetLemmas.{none_in}
use Rattle.flights.proofs.flight.Flight.new.Goals as goal

pub returns : goal.returns
returns c =
    rw (
      c.neither.ensures,
      c.none_begun.ensures,
      c.new.ensures,
      c.new-2.ensures,
      c.not_probing.ensures,
      c.needed.ensures,
      c.no_clocks.ensures,
      c.new-3.ensures,
      c.new-4.ensures,
      none_in,
    )
    refl
