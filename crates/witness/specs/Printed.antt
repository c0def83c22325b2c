-- The text that is printed for a witness.
use Rattle.std.specs.Prelude.{ℕ, List, [], ◌∷◌, ◌++◌, map}
use Rattle.std.specs.List.{concat}
use Rattle.case_forms.specs.declared.named_line.NamedLine.{NamedLine}
use Rattle.case_forms.specs.declared.steps.Label.{Label}
use Rattle.case_forms.specs.declared.steps.Step.{Step}
use Rattle.case_forms.specs.declared.steps.Witness.{Witness}
use Rattle.case_forms.specs.declared.version.Version.{Version}
use Rattle.line_fields.specs.Spelling.{printed_line}
use Rattle.witness.specs.FirstLine.{first_text}
use Rattle.witness.specs.Steps.{step_pieces}

-- the lines of steps, each ended with LF
abbrev pub steps_text : List Step → List ℕ
steps_text steps = concat (map (λ s. printed_line (step_pieces s)) steps)

-- the whole text
abbrev pub witness_text : Witness → List ℕ
witness_text w = (first_text w.version ++ 10 ∷ []) ++ steps_text w.steps

-- the content of a step
abbrev pub without_span : Step → ℕ × Label NamedLine
without_span s = (s.moment, s.label)

-- the version of a witness, and the contents of its steps, wherever they are
abbrev pub without_spans : Witness → Version × List (ℕ × Label NamedLine)
without_spans w = (w.version, map without_span w.steps)
