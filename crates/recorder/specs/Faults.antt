-- Why two recordings were not merged.
use Rattle.std.specs.Prelude.{ℕ, ◌⊎◌}
use Rattle.case_forms.specs.Traces.{first_event_line}
use Rattle.stack_core.specs.Recordings.{Recorded}
use Rattle.recorder.specs.declared.merged_case.MergeFault.{MergeFault}
use Rattle.recorder.specs.declared.merged_case.MergeFault.TheVariants.{Stranger, OutOfMemory}
use Rattle.recorder.specs.Naming.{AllNamed, IsStranger, line_keys, wire_of}

-- each segment that this host's recording brought is one that the other host sent
abbrev pub NamesAll : Recorded → Recorded → Type 0
NamesAll mine others =
    AllNamed (first_event_line others.header) (line_keys others.entries) (wire_of others) mine.entries

-- the first that isn't was brought where the next line has this number
abbrev pub HasStranger : Recorded → Recorded → ℕ → Type 0
HasStranger mine others n =
    IsStranger (first_event_line others.header) (line_keys others.entries) (wire_of others) mine.entries n

-- the line of the first arrival that names no segment, in host 0's recording, else in host 1's
abbrev pub IsFirstStranger : Recorded → Recorded → ℕ → Type 0
IsFirstStranger zero one n = HasStranger zero one n ⊎ (NamesAll zero one × HasStranger one zero n)

abbrev pub IfStranger : MergeFault → (ℕ → Type 0) → Type 0
IfStranger (Stranger n) P = P n
IfStranger OutOfMemory P = Unit {0}
