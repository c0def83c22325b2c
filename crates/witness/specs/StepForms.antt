-- The form of a step, its first fault, and the first fault of a witness.
use Rattle.std.specs.Prelude.{◌≡◌, ℕ, if◌then◌else◌, List, ◌∷◌, None, codes}
use Rattle.std.specs.Str.{bytes_eq}
use Rattle.bstr.specs.Text.{lines_of}
use Rattle.case_forms.specs.Versions.{scales}
use Rattle.case_forms.specs.declared.version.Version.{Version}
use Rattle.line_fields.specs.AnswerForms.{answer_last}
use Rattle.line_fields.specs.Forms.{Want, Form, End, Maybe, numeric, unknown, then_form, choice}
use Rattle.line_fields.specs.Hosts.{greatest_host}
use Rattle.line_fields.specs.LineFaults.{IsFaultOf, IsTextFaultOf, IsNextFault, IsFaultAmong}
use Rattle.line_fields.specs.Lines.{IsLine}
use Rattle.line_fields.specs.declared.fault.TextFault.{TextFault}
use Rattle.witness.specs.FirstLine.{first_text}
use Rattle.witness.specs.Flags.{letters_named}
use Rattle.witness.specs.Labels.{label_name, label_words_of}
use Rattle.witness.specs.Steps.{IsStepText}
use Rattle.witness.specs.WitnessText.{number_after}
use Rattle.witness.specs.declared.labels.LabelWord.{LabelWord}
use Rattle.witness.specs.declared.labels.LabelWord.TheVariants as words

-- the letters of flags, or a dash
abbrev pub lettered : Want
lettered w = if bytes_eq w.text (codes "-") then None else unknown (letters_named w.text)

-- a line, a thread or a count of bytes; yes or no; a host; a host with two ports
abbrev pub word32 : Form → Form
word32 form = then_form (numeric 0 4294967295) form

abbrev pub bit : Form → Form
bit form = then_form (numeric 0 1) form

abbrev pub host : Version → Form → Form
host v form = then_form (numeric 0 (greatest_host v)) form

abbrev pub endpoint : Version → Form → Form
endpoint v form = host v (then_form (numeric 1 65535) (then_form (numeric 1 65535) form))

-- the shift after an initial send sequence number
abbrev pub shift_form : Version → Form
shift_form v = if scales v then Maybe (then_form (numeric 0 14) End) else End

-- what follows the window of a segment to build
abbrev pub start_form : Version → Form
start_form v = Maybe (word32 (shift_form v))

-- what follows the first word of a label
abbrev pub label_form : Version → LabelWord → Form
label_form v words.Line = word32 (Maybe (word32 (Maybe (word32 End))))
label_form v words.Effect = word32 answer_last
label_form v words.Making =
    endpoint v (then_form (numeric 0 1000000000000000000)
    (then_form (numeric 0 65515) (then_form lettered (then_form (numeric 0 65535) (start_form v)))))
label_form v words.Taking = host v (word32 (word32 (bit (bit End))))
label_form v words.Dropping = host v (word32 End)
label_form v words.Refusing = host v (word32 End)
label_form v (words.Recovery change) = endpoint v (word32 (word32 End))

-- a step
abbrev pub step_form : Version → Form
step_form v = then_form (numeric 0 1000000000000000000) (choice label_name (label_words_of v) (label_form v))

-- the first fault of the step in the line with that number
abbrev pub IsStepFault : Version → ℕ → List ℕ → TextFault → Type 0
IsStepFault v number raw e = IsFaultOf (step_form v) number raw e

-- the first fault of steps from the line with that number on
abbrev pub IsStepsFault : Version → ℕ → List (List ℕ) → TextFault → Type 0
IsStepsFault v number raws e = IsFaultAmong (IsStepText v) (IsStepFault v) number_after number raws e

-- the first fault of a witness: that of its first line, which must name the version; or, if that is right, the fault of
-- the steps
pub data IsWitnessFault (v : Version) (text : List ℕ) (e : TextFault) : Type 0 where
  First : IsNextFault (IsTextFaultOf (λ line. line ≡ first_text v)) 1 (lines_of text) e → IsWitnessFault v text e
  Steps : (first : List ℕ) (raws : List (List ℕ)) → lines_of text ≡ first ∷ raws → IsLine 1 (first_text v) first
      → IsStepsFault v 2 raws e
      → IsWitnessFault v text e
