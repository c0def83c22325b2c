-- The names of faults, and the fault of a missing line.
use Rattle.std.specs.Prelude.{◌≡◌, ℕ, List, ◌++◌, codes}
use Rattle.segment.specs.Faults.{fault_name}
use Rattle.line_fields.specs.declared.fault.FaultKind.{FaultKind}
use Rattle.line_fields.specs.declared.fault.FaultKind.TheVariants as kinds
use Rattle.line_fields.specs.declared.fault.TextFault.{TextFault}
use Rattle.line_fields.specs.declared.fault.SourceFault.{SourceFault}
use Rattle.line_fields.specs.declared.fault.SourceFault.TheVariants as reads

-- the name under which a fault is printed; that of a segment's fault follows a word and a space
abbrev pub kind_name : FaultKind → List ℕ
kind_name kinds.Header = codes "header"
kind_name kinds.Field = codes "field"
kind_name kinds.Number = codes "number"
kind_name kinds.Hex = codes "hex"
kind_name (kinds.Segment fault) = codes "segment " ++ fault_name fault
kind_name kinds.MomentFalls = codes "moment-falls"
kind_name kinds.LineTooLong = codes "line-too-long"
kind_name kinds.Cut = codes "cut"
kind_name kinds.TooManyLines = codes "too-many-lines"
kind_name kinds.OutOfMemory = codes "memory"

-- the fault of a required line that is missing
abbrev pub missing_line : ℕ → TextFault
missing_line number = record { kind = kinds.Header; span = record { line = number; start = 0; stop = 0 } }

-- the fault of a text in memory, if a failed read counts as if memory had run out
abbrev pub IsTextFault : SourceFault → TextFault → Type 0
IsTextFault (reads.Text e) fault = fault ≡ e
IsTextFault reads.Read fault = fault.kind ≡ kinds.OutOfMemory
