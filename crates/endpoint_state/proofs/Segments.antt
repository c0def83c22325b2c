-- Segments that are made, go out or come in are small, also as an endpoint reads them.
use Rattle.std.proofs.Common.{◌≡◌, ℕ, ◌-◌, ◌<◌, ◌≤◌, ◌^◌, Bool, true, false, Option, None, Some, refl, length-take, arith}
use Rattle.std.specs.Prelude.{nat_le, not, ◌&&◌, if◌then◌else◌}
use Rattle.std.specs.Option.{option_map_or}
use Rattle.std.proofs.lemmas.Bool.Decides.{nat_tests}
use Rattle.seqno.specs.Near.{near_position}
use Rattle.case_forms.specs.Versions.{is_half}
use Rattle.case_forms.specs.declared.version.Version.{Version}
use Rattle.case_forms.specs.declared.trace.Wire.{Wire}
use Rattle.spec_tcp.specs.declared.endpoint.Emission.{Emission}
use Rattle.spec_tcp.specs.declared.endpoint.Endpoint.{Endpoint}
use Rattle.spec_tcp.specs.Bounds.{IsSmallEmission, greatest_position}
use Rattle.spec_tcp.specs.Heard.{as_read, heard, position_near, read_at, readable}
use Rattle.spec_tcp.specs.Reset.{reset_of}
use Rattle.spec_tcp.specs.Wire.{is_before_text, sent}

pub resets_small : (m : Emission) → IsSmallEmission (reset_of m)
resets_small m = record { pos = omega arith; ack = omega arith; payload = omega arith }

pub sent_small : (moment : ℕ) (wire : Wire) (m : Emission) → IsSmallEmission m → IsSmallEmission (sent moment wire m)
sent_small moment wire m small = record { pos = small.pos; ack = by (is_before_text wire m); payload = small.payload }
  where
    by : (before : Bool) → (if before then m.ack - m.raised else m.ack) < 2 ^ 63
    by true = let most = small.ack in omega arith
    by false = small.ack

pub heard_small : (moment : ℕ) (wire : Wire) → IsSmallEmission (heard moment wire)
heard_small moment wire = let few = length-take 65535 wire.seg.payload in record { pos = omega arith; ack = omega arith; payload = omega arith }

-- what is read is small, too
readable_small : (o : Option ℕ) → readable o < 2 ^ 63
readable_small None = omega arith
readable_small (Some p) = by (nat_le p greatest_position) refl
  where
    by : (b : Bool) → nat_le p greatest_position ≡ b → (if b then p else 0) < 2 ^ 63
    by true is = let few : p ≤ greatest_position = grind (arith, nat_tests, is) in omega arith
    by false is = omega arith

read_at_small : (e : Endpoint) (m : Emission) → (read_at e m).ack < 2 ^ 63
read_at_small e m = by (m.flags.ack && not m.flags.rst)
  where
    by : (acknowledges : Bool) → (if acknowledges then position_near e.stream.snd_una e.iss m.ack_seq else 0) < 2 ^ 63
    by true = readable_small (option_map_or (λ b. near_position e.stream.snd_una b m.ack_seq) e.iss None)
    by false = omega arith

pub read_small : (v : Version) (e : Endpoint) (m : Emission) → m.ack < 2 ^ 63 → (as_read v e m).ack < 2 ^ 63
read_small v e m small = by (is_half v)
  where
    by : (half : Bool) → (if half then read_at e m else m).ack < 2 ^ 63
    by true = read_at_small e m
    by false = small
