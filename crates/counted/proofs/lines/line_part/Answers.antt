use Rattle.counted.proofs.LineParts.{feed_at, no_feed}
use Rattle.counted.proofs.lines.line_part.Goals as goal

pub returns-in-Some-clause-part : goal.returns-in-Some-clause-part
returns-in-Some-clause-part c = feed_at c.args.bytes.now c.min.result c.in-Some.at c.in-Some.ensures.0.high c.in-Some.ensures.0.before c.in-Some.ensures.1

pub returns-in-None-clause-part : goal.returns-in-None-clause-part
returns-in-None-clause-part c = no_feed c.args.bytes.now c.min.result c.in-None.ensures
