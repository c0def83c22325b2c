use Rattle.streams.proofs.MarkLemmas.{ranges_from}
use Rattle.streams.proofs.marks.pop_below.Goals as goal

pub returns-then-snd_una-start-clause-none : goal.returns-then-snd_una-start-clause-none
returns-then-snd_una-start-clause-none c floor end h =
    ranges_from c.args.ranges.now.entries floor c.in_ok-start.start.now c.args.snd_una end c.if-snd_una-start.true
    c.in_ok-start.ensures.all_from h
