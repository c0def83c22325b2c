-- What holds of a segment in transit.
use Rattle.std.specs.Prelude.{◌≡◌}
use Rattle.case_forms.specs.declared.trace.Wire.{Wire}
use Rattle.segment.specs.Layout.{IsSegment}
use Rattle.spec_tcp.specs.Bounds.{IsSmallEmission}
use Rattle.spec_tcp.specs.declared.endpoint.Emission.{Emission}

-- a segment in transit is small, and has the bytes of a segment
pub record IsFlying (m : Emission) (wire : Wire) : Type 0 where
  pub small : IsSmallEmission m
  pub bytes : wire.bytes ≡ m.bytes
  pub reads : IsSegment wire.bytes wire.seg
