use Rattle.std.proofs.Common.{arith, inl}
use Rattle.counted.proofs.LineParts.{feed_in, no_feed_in}
use Rattle.counted.proofs.lent_lines.line_end.Goals as goal

pub returns-in-Some : goal.returns-in-Some
returns-in-Some c =
    let found = c.in-Some.ensures in
    let below = found.0.high in
    (omega (arith, below), inl (feed_in _ c.in-Some.at below found.0.before found.1))

pub returns-in-None : goal.returns-in-None
returns-in-None c = no_feed_in _ c.in-None.ensures
