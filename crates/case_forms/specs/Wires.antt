-- Observed segments.
use Rattle.std.specs.Prelude.{ℕ, List}
use Rattle.segment.specs.declared.fields.Segment.{Segment}

-- what contracts see of one: its bytes, and the segment that they encode
pub record Seen : Type 0 where
  pub bytes : List ℕ
  pub seg : Segment
