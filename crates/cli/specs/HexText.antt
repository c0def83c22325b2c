-- What a hex text encodes.
use Rattle.std.specs.Prelude.{◌≡◌, ℕ, List, Result, Ok, Err}
use Rattle.hex.specs.Hex.{decode_of}
use Rattle.hex.specs.declared.error.FromHexError.{FromHexError}
use Rattle.segment.specs.declared.fault.SegFault.{SegFault}
use Rattle.segment.specs.declared.fields.Segment.{Segment}
use Rattle.segment.specs.Reading.{segment_of}
use Rattle.cli.specs.declared.argument.ArgumentFault.{ArgumentFault}
use Rattle.cli.specs.declared.argument.ArgumentFault.TheVariants as faults

-- the segment, or the fault of the bytes
abbrev pub of_segment : Result Segment SegFault → Result Segment ArgumentFault
of_segment (Ok segment) = Ok segment
of_segment (Err fault) = Err (faults.Segment fault)

-- what the bytes encode, if the text has any
abbrev pub of_bytes : Result (List ℕ) FromHexError → Result Segment ArgumentFault
of_bytes (Ok bytes) = of_segment (segment_of bytes)
of_bytes (Err error) = Err faults.Hex

-- two digits are a byte, in upper or lower case; the segment that the bytes encode, or the first fault
abbrev pub segment_in : List ℕ → Result Segment ArgumentFault
segment_in text = of_bytes (decode_of text)

-- the result is what the text encodes, unless memory ran out
abbrev pub Gives : Result Segment ArgumentFault → List ℕ → Type 0
Gives (Ok segment) text = segment_in text ≡ Ok segment
Gives (Err faults.OutOfMemory) text = Unit {0}
Gives (Err fault) text = segment_in text ≡ Err fault
