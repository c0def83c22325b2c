-- The parts of labels, read from left to right.
use Rattle.std.specs.Prelude.{ℕ, Bool, ◌==◌, if◌then◌else◌, Option, Some, None, Result, Ok}
use Rattle.seqno.specs.declared.word.Word.{Word}
use Rattle.case_forms.specs.declared.calls.Host.{Host}
use Rattle.case_forms.specs.declared.named_line.Extras.{Extras}
use Rattle.case_forms.specs.declared.named_line.Extras.TheVariants.{Bare, One, Two}
use Rattle.case_forms.specs.declared.version.Version.{Version}
use Rattle.case_forms.specs.Versions.{scales}
use Rattle.line_fields.specs.declared.fault.TextFault.{TextFault}
use Rattle.line_fields.specs.Word.{Rest}
use Rattle.line_fields.specs.Reading.{◌>>=◌, number_field, or_end}
use Rattle.line_fields.specs.Hosts.{host_field}

-- a host, its port, and the other host's
unfoldable pub endpoint_field : Version → Rest → Result ((Host × ℕ × ℕ) × Rest) TextFault
endpoint_field v r = do
  host ← host_field v r
  local ← number_field 1 65535 host.1
  remote ← number_field 1 65535 local.1
  Ok ((host.0, local.0, remote.0), remote.1)

-- a host, and the line by which a segment arrived in its inbox
unfoldable pub entry_field : Version → Rest → Result ((Host × ℕ) × Rest) TextFault
entry_field v r = do
  host ← host_field v r
  line ← number_field 0 4294967295 host.1
  Ok ((host.0, line.0), line.1)

-- yes or no, written 1 or 0
unfoldable pub bit_field : Rest → Result (Bool × Rest) TextFault
bit_field r = do
  n ← number_field 0 1 r
  Ok (n.0 == 1, n.1)

-- the second extra number, after the first
abbrev pub second_field : ℕ → Rest → Result (Extras × Rest) TextFault
second_field x r = do
  y ← number_field 0 4294967295 r
  Ok (Two x y.0, y.1)

-- the first extra number, and the second if more is left
abbrev pub first_field : Rest → Result (Extras × Rest) TextFault
first_field r = do
  x ← number_field 0 4294967295 r
  or_end (One x.0) (second_field x.0) x.1.words x.1

-- the extra numbers: none if nothing is left
unfoldable pub extras_field : Rest → Result (Extras × Rest) TextFault
extras_field r = or_end Bare first_field r.words r

-- an initial send sequence number, and the shift of the windows that the endpoint offers
abbrev pub Start : Type 0
Start = Option Word × Option ℕ

-- a shift that is given, 0 to 14
abbrev pub given_shift : Word → Rest → Result (Start × Rest) TextFault
given_shift iss r = do
  shift ← number_field 0 14 r
  Ok ((Some iss, Some shift.0), shift.1)

-- the shift after an initial send sequence number: none if nothing is left, and none if windows are not scaled
abbrev pub shift_field : Version → Word → Rest → Result (Start × Rest) TextFault
shift_field v iss r = if scales v then or_end (Some iss, None) (given_shift iss) r.words r else Ok ((Some iss, None), r)

-- an initial send sequence number that is given, and the shift
abbrev pub given_start : Version → Rest → Result (Start × Rest) TextFault
given_start v r = do
  iss ← number_field 0 4294967295 r
  shift_field v (record { 0 = iss.0 }) iss.1

-- the initial send sequence number, and the shift after it: none if nothing is left
unfoldable pub start_field : Version → Rest → Result (Start × Rest) TextFault
start_field v r = or_end (None, None) (given_start v) r.words r
