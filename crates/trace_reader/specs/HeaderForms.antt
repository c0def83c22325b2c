-- The forms of a header's lines, and its first fault.
use Rattle.std.specs.Prelude.{◌≡◌, ◌⊎◌, ℕ, ◌+◌, ◌||◌, ◌&&◌, if◌then◌else◌, List, [], ◌∷◌, ◌++◌, length}
use Rattle.std.specs.Prelude.{Some, None, Ok, codes}
use Rattle.std.specs.Str.{bytes_eq}
use Rattle.case_forms.specs.declared.version.Version.{Version}
use Rattle.case_forms.specs.declared.version.Version.TheVariants.{One, Two, Three, Four, FourHalf, Five, FiveHalf}
use Rattle.case_forms.specs.declared.version.Version.TheVariants.{Six, SixHalf}
use Rattle.case_forms.specs.Versions.{says_sender, says_slack}
use Rattle.line_fields.specs.Congestion.{judged_name, all_judged}
use Rattle.line_fields.specs.Forms.{Want, unless_empty, numeric, named}
use Rattle.line_fields.specs.LineFaults.{IsWholeFault, IsTextFaultOf, IsNextFault}
use Rattle.line_fields.specs.Lines.{IsLine, line_rest}
use Rattle.line_fields.specs.Reading.{fault_at}
use Rattle.line_fields.specs.Sender.{sender_name, all_senders, growth_name, all_growths}
use Rattle.line_fields.specs.Slack.{begins_digit}
use Rattle.line_fields.specs.Spelling.{joined}
use Rattle.line_fields.specs.Word.{Word, Rest}
use Rattle.line_fields.specs.declared.fault.FaultKind.{FaultKind}
use Rattle.line_fields.specs.declared.fault.FaultKind.TheVariants as kinds
use Rattle.line_fields.specs.declared.fault.TextFault.{TextFault}
use Rattle.case_lines.specs.FirstLine.{first_words}
use Rattle.trace_reader.specs.Headers.{header_fault}

-- the text of the first line, in some version
abbrev pub IsFirstText : List ℕ → Type 0
IsFirstText text = (v : Version) × (text ≡ joined (first_words v))

-- each other line is a name, and what follows it
pub record Row : Type 0 where
  pub name : List ℕ
  pub value : Want

abbrev pub row : List ℕ → Want → Row
row name value = record { name = name; value = value }

-- 5681 or 6928
abbrev pub initial_want : Want
initial_want w =
    unless_empty w (if bytes_eq w.text (codes "5681") || bytes_eq w.text (codes "6928") then None
    else Some kinds.Number)

-- `any`, or a number, which a digit begins
abbrev pub slack_want : Want
slack_want w =
    if bytes_eq w.text (codes "any") then None
    else if begins_digit w.text then numeric 0 1000000000000000000 w
    else Some kinds.Field

-- one of the three words; in version 6, not `full`
abbrev pub judged_want : Version → Want
judged_want v w =
    if says_sender v && bytes_eq w.text (codes "full") then Some kinds.Field
    else named judged_name all_judged w

-- the lines of version 6 alone
abbrev pub control_rows : Version → List Row
control_rows v =
    if says_sender v then row (codes "sender") (named sender_name all_senders)
    ∷ row (codes "growth") (named growth_name all_growths) ∷ []
    else []

-- the lines that versions 5 and 6 alone have
abbrev pub last_rows : Version → List Row
last_rows v = if says_slack v then row (codes "slack") slack_want ∷ control_rows v else []

-- the lines of versions 4 to 6 after line 6
abbrev pub judged_rows : Version → List Row
judged_rows v =
    row (codes "initial") initial_want
    ∷ row (codes "hosts") (numeric 1 2)
    ∷ row (codes "congestion") (judged_want v)
    ∷ last_rows v

-- the lines that version 1 doesn't have
abbrev pub late_rows : Version → List Row
late_rows One = []
late_rows Two = row (codes "initial") initial_want ∷ []
late_rows Three = row (codes "initial") initial_want ∷ row (codes "half") (numeric 0 0) ∷ []
late_rows Four = judged_rows Four
late_rows FourHalf = judged_rows FourHalf
late_rows Five = judged_rows Five
late_rows FiveHalf = judged_rows FiveHalf
late_rows Six = judged_rows Six
late_rows SixHalf = judged_rows SixHalf

-- the lines from line 2 on
abbrev pub header_rows : Version → List Row
header_rows v =
    row (codes "skew") (numeric 0 1000000000)
    ∷ row (codes "msl") (numeric 1 3600000000)
    ∷ row (codes "grain") (numeric 0 60000000)
    ∷ row (codes "minrto") (numeric 0 60000000)
    ∷ row (codes "extra") (numeric 0 65535)
    ∷ late_rows v

-- the fields are the name, this value, and these after it
abbrev pub AreNamed : Row → List Word → Word → List Word → Type 0
AreNamed r words value more = (name : Word) × (words ≡ name ∷ value ∷ more) × (name.text ≡ r.name)

-- the fields are the name and a value that fits
abbrev pub Fits : Row → List Word → Type 0
Fits r words = (value : Word) × AreNamed r words value [] × (r.value value ≡ None)

-- the first fault of the fields: another name, or no value after it, which is Header; or a bad value; or a field too
-- many, which is Header
pub data Breaks (r : Row) (header : TextFault) (words : List Word) (e : TextFault) : Type 0 where
  Other : ((value : Word) (more : List Word) → AreNamed r words value more → ⊥) → e ≡ header → Breaks r header words e
  Bad : (value : Word) (more : List Word) (kind : FaultKind) → AreNamed r words value more → r.value value ≡ Some kind
      → e ≡ fault_at kind value
      → Breaks r header words e
  More : (value next : Word) (more : List Word) → AreNamed r words value (next ∷ more) → r.value value ≡ None
      → e ≡ header → Breaks r header words e

-- the line with that number has this form
abbrev pub IsRow : Row → ℕ → List ℕ → Type 0
IsRow r number raw = (rest : Rest) × (line_rest number raw ≡ Ok rest) × Fits r rest.words

-- its first fault: that of the line as a whole, or else that of its fields, with Header at the whole line
abbrev pub IsRowFault : Row → ℕ → List ℕ → TextFault → Type 0
IsRowFault r number raw e =
    IsWholeFault number raw e ⊎ ((rest : Rest) × (line_rest number raw ≡ Ok rest)
    × Breaks r (header_fault number rest) rest.words e)

-- these lines have these forms, from the line with that number on
abbrev pub AreRows : ℕ → List Row → List (List ℕ) → Type 0
AreRows number [] [] = Unit {0}
AreRows number [] (raw ∷ raws) = ⊥
AreRows number (r ∷ rows) [] = ⊥
AreRows number (r ∷ rows) (raw ∷ raws) = IsRow r number raw × AreRows (number + 1) rows raws

-- the first fault of lines that must have these forms, from the line with that number on: those before have theirs, and
-- the next one is missing or has this fault
pub record IsRowsFault (number : ℕ) (rows : List Row) (raws : List (List ℕ)) (e : TextFault) : Type 0 where
  pub done : List Row
  pub next : Row
  pub left : List Row
  pub front : List (List ℕ)
  pub rest : List (List ℕ)
  pub forms : rows ≡ done ++ next ∷ left
  pub split : raws ≡ front ++ rest
  pub good : AreRows number done front
  pub fault : IsNextFault (IsRowFault next) (number + length done) rest e

-- the first fault of the header at the beginning of these lines: that of the first line; or, if that names a version,
-- the fault of the others
pub data IsHeaderFault (raws : List (List ℕ)) (e : TextFault) : Type 0 where
  First : IsNextFault (IsTextFaultOf IsFirstText) 1 raws e → IsHeaderFault raws e
  Rows : (v : Version) (first : List ℕ) (others : List (List ℕ)) → raws ≡ first ∷ others
      → IsLine 1 (joined (first_words v)) first
      → IsRowsFault 2 (header_rows v) others e → IsHeaderFault raws e
