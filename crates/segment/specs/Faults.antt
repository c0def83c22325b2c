-- The names under which faults are printed.
use Rattle.std.specs.Prelude.{ℕ, List, codes}
use Rattle.segment.specs.declared.fault.SegFault.{SegFault}
use Rattle.segment.specs.declared.fault.SegFault.TheVariants.{Short, Offset, OptionLength, TooLong, OutOfMemory}

-- each fault's name, in small letters and dashes
abbrev pub fault_name : SegFault → List ℕ
fault_name Short = codes "short"
fault_name Offset = codes "offset"
fault_name OptionLength = codes "option-length"
fault_name TooLong = codes "too-long"
fault_name OutOfMemory = codes "memory"
