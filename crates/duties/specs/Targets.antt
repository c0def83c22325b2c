-- Which endpoint processes a segment.
use Rattle.std.specs.Prelude.{ℕ, Option, None, Some}
use Rattle.duties.specs.declared.dropped.Target.{Target}
use Rattle.duties.specs.declared.dropped.Target.TheVariants as targets

-- its place, if a listener's child gets the next one
abbrev pub processing_place : Target → (next : ℕ) → Option ℕ
processing_place targets.Nobody next = None
processing_place (targets.Listener l) next = Some next
processing_place (targets.Endpoint i) next = Some i
