-- A segment by the field that spells its bytes.
use Rattle.std.proofs.Common.{◌≡◌}
use Rattle.segment.specs.Reading.{segment_of}
use Rattle.line_fields.specs.Word.{Rest}
use Rattle.line_fields.specs.Reading.{◌>>=◌}
use Rattle.line_fields.specs.HexFields.{hex_word}
use Rattle.line_fields.proofs.HexFieldLemmas.{bytes_then, by_bytes}
use Rattle.trace_reader.specs.Wires.{wire_field, wire_value, with_segment}

pub wire_field_is : (r : Rest) → wire_field r ≡ (hex_word r >>= bytes_then (λ w bytes. with_segment w bytes (segment_of bytes)))
unfolding wire_field wire_value
wire_field_is r = by_bytes (λ w bytes. with_segment w bytes (segment_of bytes)) r
