-- Segments in hex.
use Rattle.std.specs.Prelude.{ℕ, List, Result, Ok, Err}
use Rattle.segment.specs.declared.fault.SegFault.{SegFault}
use Rattle.segment.specs.declared.fields.Segment.{Segment}
use Rattle.segment.specs.Reading.{segment_of}
use Rattle.case_forms.specs.declared.trace.Wire.{Wire}
use Rattle.line_fields.specs.declared.fault.FaultKind.TheVariants as kinds
use Rattle.line_fields.specs.declared.fault.TextFault.{TextFault}
use Rattle.line_fields.specs.Word.{Word, Rest}
use Rattle.line_fields.specs.Reading.{◌>>=◌, fault_at, next_field}
use Rattle.line_fields.specs.HexFields.{hex_value}

-- bytes and their segment, or the reason why they have none
abbrev pub with_segment : Word → List ℕ → Result Segment SegFault → Result Wire TextFault
with_segment w bytes (Ok seg) = Ok (record { bytes = bytes; seg = seg })
with_segment w bytes (Err fault) = Err (fault_at (kinds.Segment fault) w)

-- the segment that a field spells in hex: the digits are read first, then their bytes
unfoldable pub wire_value : Word → Result Wire TextFault
wire_value w = hex_value w >>= λ bytes. with_segment w bytes (segment_of bytes)

-- the next field, which is a segment
unfoldable pub wire_field : Rest → Result (Wire × Rest) TextFault
wire_field r = do
  w ← next_field r
  wire ← wire_value w.0
  Ok (wire, w.1)
