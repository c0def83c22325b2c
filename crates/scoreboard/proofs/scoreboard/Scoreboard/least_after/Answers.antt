use Rattle.std.proofs.Common.{ap}
use Rattle.spec_flights.specs.Delivered.{within}
use Rattle.spec_flights.specs.Scoreboard.{Scoreboard, in_flight}
use Rattle.scoreboard.proofs.DeliveredLemmas.{least_parts}
use Rattle.scoreboard.proofs.scoreboard.Scoreboard.least_after.Goals as goal

pub returns : goal.returns
returns c =
    let first = ap (λ (b : Scoreboard). b.least) c.self.view_is in
    let all =
    least_parts c.args.moment c.args.self.now.least (in_flight c.args.acked.from c.args.acked.upto c.args.self.now)
    (within c.args.r.now.first c.args.self.now) (within c.args.r.now.second c.args.self.now) (within c.args.r.now.third c.args.self.now)
    (within c.args.r.now.fourth c.args.self.now) in
    cc
