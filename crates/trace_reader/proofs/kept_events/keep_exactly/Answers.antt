use Rattle.trace_reader.proofs.StreamLaw.{stands}
use Rattle.trace_reader.proofs.kept_events.keep_exactly.Goals as goal

pub push-requires : goal.push-requires
push-requires c = let s = stands c.args.version _ _ _ c.in_ok-line.ensures in s.plain
