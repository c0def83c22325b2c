use Rattle.std.proofs.Common.{◌∙◌, ap}
use Rattle.std.specs.FinSet.{FinSet, union}
use Rattle.std.specs.Ordering.{nat_cmp}
use Rattle.streams.specs.Ranges.{span}
use Rattle.streams.proofs.RangeAdded.{added_alone}
use Rattle.streams.proofs.ranges.Ranges.spanning.Goals as goal

pub returns : goal.returns
returns c =
    c.in_ok-add.ensures.ok
    ∙ (ap (λ (s : FinSet nat_cmp). union s (span c.args.from c.args.upto)) c.new-ranges.ensures ∙ added_alone c.args.from c.args.upto)
