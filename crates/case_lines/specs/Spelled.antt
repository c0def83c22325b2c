-- Which bytes of an event digits spell.
use Rattle.std.specs.Prelude.{◌≡◌, Bool, true, false, ℕ, List, [], Ok}
use Rattle.hex.specs.Hex.{decode_of}
use Rattle.segment.specs.declared.fields.Segment.{Segment}
use Rattle.segment.specs.Layout.{IsSegment}
use Rattle.case_lines.specs.declared.record.KeptEvent.{KeptEvent}
use Rattle.case_lines.specs.declared.record.KeptEvent.TheVariants as kept
use Rattle.case_lines.specs.Records.{has_bytes}

-- whether an event of this kind is a segment that was seen
abbrev pub is_seen : KeptEvent → Bool
is_seen (kept.Sent host) = true
is_seen (kept.Came host) = true
is_seen event = false

-- the digits spell these bytes in hex, if an event of this kind has bytes; those of a segment encode one
pub record IsSpelled (event : KeptEvent) (digits bytes : List ℕ) : Type 0 where
  pub none : has_bytes event ≡ false → bytes ≡ []
  pub spelled : has_bytes event ≡ true → decode_of digits ≡ Ok bytes
  pub segment : is_seen event ≡ true → (s : Segment) × IsSegment bytes s
