-- Which lines of a source belong to the trace that is read from it: all of them, or those before the witness of a case.
use Rattle.std.specs.Prelude.{◌≡◌, ℕ, Bool, true, false, List, [], ◌∷◌, if◌then◌else◌, Option, None, Some}
use Rattle.case_forms.specs.declared.version.Version.{Version}
use Rattle.witness.specs.FirstLine.{begins_witness}
use Rattle.case_lines.specs.FirstLine.{version_named}
use Rattle.case_lines.specs.declared.text_lines.TextEnd.{TextEnd}
use Rattle.case_lines.specs.declared.text_lines.TextEnd.TheVariants as ends

-- the lines before the first one that begins a witness of this version
abbrev pub before_witness : Version → List (List ℕ) → List (List ℕ)
before_witness v [] = []
before_witness v (raw ∷ raws) = if begins_witness v raw then [] else raw ∷ before_witness v raws

-- the lines after it, if there is one
abbrev pub behind_witness : Version → List (List ℕ) → Option (List (List ℕ))
behind_witness v [] = None
behind_witness v (raw ∷ raws) = if begins_witness v raw then Some raws else behind_witness v raws

-- the lines of the trace among these lines of the source
abbrev pub trace_rows : TextEnd → List (List ℕ) → List (List ℕ)
trace_rows ends.Source raws = raws
trace_rows ends.Case raws = before_witness (version_named raws) raws
trace_rows (ends.Witness v) raws = before_witness v raws
trace_rows ends.Met raws = []
trace_rows ends.Over raws = []

-- the lines after the first line of the case's witness, if there is one
abbrev pub witness_rows : TextEnd → List (List ℕ) → Option (List (List ℕ))
witness_rows ends.Source raws = None
witness_rows ends.Case raws = behind_witness (version_named raws) raws
witness_rows (ends.Witness v) raws = behind_witness v raws
witness_rows ends.Met raws = Some raws
witness_rows ends.Over raws = None

-- where the text of a case of this version ends after this line
abbrev pub end_with : Version → List ℕ → TextEnd
end_with v raw = if begins_witness v raw then ends.Met else ends.Witness v

-- where a text ends after this line
abbrev pub end_after : TextEnd → List ℕ → TextEnd
end_after ends.Case raw = end_with (version_named (raw ∷ [])) raw
end_after (ends.Witness v) raw = end_with v raw
end_after end raw = end

-- the line that begins the witness was read
abbrev pub has_met : TextEnd → Bool
has_met ends.Met = true
has_met end = false

-- the text of a case whose end wasn't met
abbrev pub IsOpen : TextEnd → Type 0
IsOpen ends.Case = Unit {0}
IsOpen (ends.Witness v) = Unit {0}
IsOpen end = ⊥

-- a text is read to its end
abbrev pub IsAtEnd : TextEnd → Type 0
IsAtEnd ends.Case = ⊥
IsAtEnd (ends.Witness v) = ⊥
IsAtEnd end = Unit {0}

-- the lines after the witness's first line stay the same, if they are known
abbrev pub KeepsWitness : Option (Option (List (List ℕ))) → Option (Option (List (List ℕ))) → Type 0
KeepsWitness old new = (w : Option (List (List ℕ))) → old ≡ Some w → new ≡ Some w
