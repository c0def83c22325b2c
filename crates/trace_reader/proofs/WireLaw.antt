-- A segment in hex is read exactly where its digits spell bytes that stand for it.
use Rattle.std.proofs.Common.{◌≡◌, ◌≤◌, ℕ, List, [], ◌∷◌, length, Result, Ok, Err, refl, subst, arith}
use Rattle.segment.specs.declared.fault.SegFault.{SegFault}
use Rattle.segment.specs.declared.fields.Segment.{Segment}
use Rattle.segment.specs.Layout.{IsSegment}
use Rattle.segment.specs.Reading.{segment_of}
use Rattle.segment.proofs.Readings.{reads_by_layout}
use Rattle.case_forms.specs.declared.trace.Wire.{Wire}
use Rattle.line_fields.specs.Word.{Word}
use Rattle.line_fields.specs.HexFields.{hex_value}
use Rattle.line_fields.specs.Reader.{IsReader}
use Rattle.line_fields.specs.Spelling.{hex, IsWritten}
use Rattle.line_fields.proofs.Readers.{IsValue, bind_ok, ok_is, reads_field}
use Rattle.line_fields.proofs.HexLaw.{is_hex_value}
use Rattle.trace_reader.specs.Wires.{with_segment, wire_value, wire_field}

-- the text spells the bytes, which stand for the segment
abbrev pub IsWire : Wire → List ℕ → Type 0
IsWire wire text = IsWritten (hex wire.bytes) text × IsSegment wire.bytes wire.seg

abbrev wire_of : List ℕ → Segment → Wire
wire_of bytes seg = record { bytes = bytes; seg = seg }

abbrev found : Segment → Result Segment SegFault
found seg = Ok seg

with_segment_ok : (w : Word) (bytes : List ℕ) (read : Result Segment SegFault) (x : Wire)
    → with_segment w bytes read ≡ Ok x → (seg : Segment) × (read ≡ Ok seg) × (wire_of bytes seg ≡ x)
with_segment_ok w bytes (Ok seg) x e = (seg, refl, ok_is (wire_of bytes seg) x e)
with_segment_ok w bytes (Err fault) x e = absurd cc

is_wire_value : IsValue wire_value IsWire
unfolding wire_value
is_wire_value = record {
  takes = λ w x e.
      let b = bind_ok (hex_value w) (λ bytes. with_segment w bytes (segment_of bytes)) x e in
      let s = with_segment_ok w b.0 (segment_of b.0) x b.2 in
      let h = is_hex_value.takes w b.0 b.1 in
      subst (λ (y : Wire). IsWire y w.text) s.2 (h.0, (reads_by_layout.segments b.0 s.0).0 s.1);
  again = λ w x v.
      let some : 1 ≤ length x.bytes = let whole = v.1.header.whole in omega arith in
      let read = is_hex_value.again w x.bytes (v.0, some) in
      let seg = (reads_by_layout.segments x.bytes x.seg).1 v.1 in
      rw (read, seg) refl;
}

-- a segment as the fields of a line
abbrev pub IsWireField : Wire → List (List ℕ) → Type 0
IsWireField wire ws = (t : List ℕ) × IsWire wire t × (ws ≡ t ∷ [])

pub reads_wire : IsReader wire_field IsWireField
unfolding wire_field
reads_wire = reads_field wire_value IsWire is_wire_value
