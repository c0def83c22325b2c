-- How much of congestion control is judged, by name.
use Rattle.std.specs.Prelude.{ℕ, Bool, true, not, if◌then◌else◌, List, [], ◌∷◌, Result, Ok, Err, codes}
use Rattle.case_forms.specs.declared.version.Judged.{Judged}
use Rattle.case_forms.specs.declared.version.Judged.TheVariants.{Full, Recovery, NoControl}
use Rattle.case_forms.specs.declared.version.Version.{Version}
use Rattle.case_forms.specs.Versions.{says_sender}
use Rattle.line_fields.specs.declared.fault.FaultKind.TheVariants.{Field}
use Rattle.line_fields.specs.declared.fault.TextFault.{TextFault}
use Rattle.line_fields.specs.Choice.{kind_value}
use Rattle.line_fields.specs.Reading.{◌>>=◌, fault_at, next_field}
use Rattle.line_fields.specs.Word.{Word, Rest}

-- the word for how much of congestion control is judged
abbrev pub judged_name : Judged → List ℕ
judged_name Full = codes "full"
judged_name Recovery = codes "recovery"
judged_name NoControl = codes "none"

-- all of these words
abbrev pub all_judged : List Judged
all_judged = Full ∷ Recovery ∷ NoControl ∷ []

-- a header of this version may say so: in version 6, `full` isn't judged
abbrev pub may_judge : Version → Judged → Bool
may_judge v Full = not (says_sender v)
may_judge v Recovery = true
may_judge v NoControl = true

abbrev pub judged_of : Version → Word → Judged → Result Judged TextFault
judged_of v w j = if may_judge v j then Ok j else Err (fault_at Field w)

-- such a word that a header of this version may have, else Field
abbrev pub judged_value : Version → Word → Result Judged TextFault
judged_value v w = kind_value judged_name all_judged w >>= judged_of v w

-- the next field, which is such a word
unfoldable pub judged_field : Version → Rest → Result (Judged × Rest) TextFault
judged_field v r = do
  w ← next_field r
  j ← judged_value v w.0
  Ok (j, w.1)
