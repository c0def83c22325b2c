use Rattle.segment.proofs.Unique.{only_segment}
use Rattle.segment.proofs.Readings.{gives}
use Rattle.segment.proofs.decoder.decode.Goals as goal

pub returns-clause-only : goal.returns-clause-only
returns-clause-only c = only_segment c.args.bytes.now c.read.result c.read.ensures.found c.read.ensures.fault

pub returns-clause-exact : goal.returns-clause-exact
returns-clause-exact c = gives c.args.bytes.now c.read.result c.read.ensures.found c.read.ensures.fault
