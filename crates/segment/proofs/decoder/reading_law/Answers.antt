use Rattle.segment.proofs.Readings.{reads_by_layout}
use Rattle.segment.proofs.decoder.reading_law.Goals as goal

pub returns : goal.returns
returns c = reads_by_layout
