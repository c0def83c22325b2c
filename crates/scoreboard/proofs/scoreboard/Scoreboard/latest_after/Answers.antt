use Rattle.std.proofs.Common.{ap}
use Rattle.spec_flights.specs.Delivered.{within}
use Rattle.spec_flights.specs.Scoreboard.{Scoreboard, in_flight}
use Rattle.scoreboard.proofs.DeliveredLemmas.{latest_parts}
use Rattle.scoreboard.proofs.scoreboard.Scoreboard.latest_after.Goals as goal

pub returns : goal.returns
returns c =
    let first = ap (λ (b : Scoreboard). b.latest) c.self.view_is in
    let all =
    latest_parts c.args.moment c.args.least c.args.self.now.latest (in_flight c.args.acked.from c.args.acked.upto c.args.self.now)
    (within c.args.r.now.first c.args.self.now) (within c.args.r.now.second c.args.self.now) (within c.args.r.now.third c.args.self.now)
    (within c.args.r.now.fourth c.args.self.now) in
    cc
