use Rattle.std.proofs.Common.{sym, ap, ◌∙◌}
use Rattle.std.specs.FinSet.{FinSet, from_list}
use Rattle.std.specs.Ordering.{nat_cmp}
use Rattle.segment.specs.Reading.{sack_blocks}
use Rattle.spec_flights.specs.Flights.{Flight}
use Rattle.spec_flights.specs.Held.{is_untrue}
use Rattle.flight_parts.proofs.SetLemmas.{read_back}
use Rattle.flights.proofs.flight.Flight.is_untrue.Goals as goal

pub returns : goal.returns
returns c =
    let blocks = sack_blocks c.args.bytes.now in
    c.is_untrue.ensures
    ∙ (ap (λ (s : FinSet nat_cmp). is_untrue c.self.inside.sides.peers s c.args.next c.args.irs blocks) (sym (read_back c.self.inside.held))
    ∙ ap (λ (f : Flight). is_untrue f.sides.peers (from_list f.held) c.args.next c.args.irs blocks) c.self.view_is)
