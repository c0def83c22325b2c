-- Which text is the text of which witness.
use Rattle.std.specs.Prelude.{◌≡◌, ℕ, ◌+◌, if◌then◌else◌, List, [], ◌∷◌, ◌++◌, Result, Ok}
use Rattle.std.specs.List.{concat}
use Rattle.bstr.specs.Text.{lines_of}
use Rattle.case_forms.specs.declared.steps.Step.{Step}
use Rattle.case_forms.specs.declared.steps.Witness.{Witness}
use Rattle.case_forms.specs.declared.version.Version.{Version}
use Rattle.case_forms.specs.declared.version.Version.TheVariants.{One, Two, Three, Four, Five, Six}
use Rattle.case_forms.specs.Versions.{named_as}
use Rattle.line_fields.specs.declared.fault.TextFault.{TextFault}
use Rattle.line_fields.specs.Reading.{◌>>=◌}
use Rattle.line_fields.specs.Lines.{IsLine, expect_line, next_raw}
use Rattle.line_fields.specs.Folding.{read_lines, AreSpelled}
use Rattle.witness.specs.FirstLine.{first_text, begins_witness}
use Rattle.witness.specs.Steps.{IsStepText, step_of}

-- the number of the line after a step's line
abbrev pub number_after : ℕ → Step → ℕ
number_after number s = number + 1

-- the text is the first line, which names the version, and the lines of the steps, from line 2 on, each with its end
pub record IsWitnessText (w : Witness) (text : List ℕ) : Type 0 where
  pub first : List ℕ
  pub raws : List (List ℕ)
  pub begins : IsLine 1 (first_text w.version) first
  pub steps : AreSpelled (IsStepText w.version) number_after 2 w.steps raws
  pub parts : text ≡ first ++ concat raws

-- the witness of these lines in this version, or the first fault
abbrev pub witness_in : Version → List (List ℕ) → Result Witness TextFault
witness_in v raws = do
  first ← next_raw 1 raws
  begun ← expect_line 1 (first_text v) first.0
  steps ← read_lines (step_of v) number_after 2 first.1
  Ok (record { version = v; steps = steps })

-- the witness of a text for a trace of this version, or the text's first fault
unfoldable pub witness_for : Version → List ℕ → Result Witness TextFault
witness_for v text = witness_in v (lines_of text)

-- the version in the first of these lines, for versions 4 to 6 that of two hosts; if it names none, the text is read
-- for version 1, and its first line is the fault
abbrev pub version_named : List (List ℕ) → Version
version_named [] = One
version_named (raw ∷ raws) =
    if begins_witness Two raw then Two
    else if begins_witness Three raw then Three
    else if begins_witness Four raw then Four
    else if begins_witness Five raw then Five
    else if begins_witness Six raw then Six
    else One

-- a witness as its text alone shows it: one of version 4 to 6 counts as one of two hosts
abbrev pub seen_alone : Witness → Witness
seen_alone w = record w { version = named_as w.version }

-- the witness of a text, whatever its version, or the text's first fault
abbrev pub witness_of : List ℕ → Result Witness TextFault
witness_of text = witness_for (version_named (lines_of text)) text
