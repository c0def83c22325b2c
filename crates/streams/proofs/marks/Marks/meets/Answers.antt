use Rattle.std.proofs.Common.{◌∙◌, ◌&&◌, nat_le, nat_lt, arith, sym}
use Rattle.std.proofs.lemmas.Bool.Decides.{nat_tests}
use Rattle.streams.specs.Marks.{in_ranges}
use Rattle.streams.proofs.MarkLemmas.{unmet, both_false, met_marked}
use Rattle.streams.proofs.marks.Marks.meets.Goals as goal

pub returns-else-max-min-clause-found : goal.returns-else-max-min-clause-found
returns-else-max-min-clause-found c is end h = met_marked c.args.self.now c.args.from c.args.upto end (sym c.meet.ensures ∙ is) c.requires h

pub returns-else-max-min-clause-none : goal.returns-else-max-min-clause-none
returns-else-max-min-clause-none c is position low high =
    let apart = c.if-max-min.false in
    both_false (in_ranges c.args.self.now.ranges.entries position) (nat_le c.args.self.now.floor position && nat_lt position c.args.self.now.reached)
    (unmet c.args.self.now.ranges.entries c.args.from c.args.upto position (sym c.meet.ensures ∙ is) low high) (grind (arith, nat_tests, low, high, apart))
