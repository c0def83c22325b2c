-- The header's lines: six; a seventh in version 2, an eighth in version 3, a ninth in version 4, a tenth in version 5,
-- and two more in version 6.
use Rattle.std.specs.Prelude.{◌≡◌, ◌≤◌, ℕ, ◌+◌, ◌==◌, false, true, if◌then◌else◌, List, [], ◌∷◌}
use Rattle.std.specs.Prelude.{Option, None, Some, IfSome, Result, Ok, Err, codes}
use Rattle.std.specs.Fmt.{decimal}
use Rattle.std.specs.Str.{bytes_eq}
use Rattle.case_forms.specs.declared.trace.Header.{Header}
use Rattle.case_forms.specs.declared.version.Version.{Version}
use Rattle.case_forms.specs.declared.version.Version.TheVariants.{One, Two, Three, Four, FourHalf, Five, FiveHalf}
use Rattle.case_forms.specs.declared.version.Version.TheVariants.{Six, SixHalf}
use Rattle.case_forms.specs.declared.version.Initial.{Initial}
use Rattle.case_forms.specs.declared.version.Initial.TheVariants.{Rfc5681, Rfc6928}
use Rattle.case_forms.specs.declared.version.Judged.{Judged}
use Rattle.case_forms.specs.declared.version.Judged.TheVariants.{Full}
use Rattle.case_forms.specs.declared.version.Growth.{Growth}
use Rattle.case_forms.specs.declared.version.Growth.TheVariants.{OneSegment}
use Rattle.case_forms.specs.declared.version.Sender.{Sender}
use Rattle.case_forms.specs.declared.version.Sender.TheVariants.{Reno}
use Rattle.case_forms.specs.Versions.{says_congestion, says_sender, says_slack}
use Rattle.line_fields.specs.declared.fault.FaultKind.TheVariants as kinds
use Rattle.line_fields.specs.declared.fault.TextFault.{TextFault}
use Rattle.line_fields.specs.Word.{Word, Rest}
use Rattle.line_fields.specs.Reading.{◌>>=◌, fault_at, next_field, number_value, number_field}
use Rattle.line_fields.specs.Choice.{kind_field}
use Rattle.line_fields.specs.Congestion.{judged_name, judged_field, may_judge}
use Rattle.line_fields.specs.Hosts.{hosted}
use Rattle.line_fields.specs.Sender.{sender_name, all_senders, growth_name, all_growths}
use Rattle.line_fields.specs.Slack.{slack_field}
use Rattle.line_fields.specs.Lines.{IsLine, whole_line, line_text, line_rest, next_raw}
use Rattle.line_fields.specs.Spelling.{joined}
use Rattle.case_lines.specs.FirstLine.{first_words}
use Rattle.trace_reader.specs.declared.late_lines.LateLines.{LateLines}

-- the number of the RFC that gives the first congestion window
abbrev pub initial_number : Initial → ℕ
initial_number Rfc5681 = 5681
initial_number Rfc6928 = 6928

-- the fields of the line that names it
abbrev pub initial_words : Initial → List (List ℕ)
initial_words initial = codes "initial" ∷ decimal (initial_number initial) ∷ []

-- the fields of the line that says that only host 0 is recorded
abbrev pub half_words : List (List ℕ)
half_words = codes "half" ∷ decimal 0 ∷ []

-- the fields of the line that says how many hosts were recorded
abbrev pub hosts_words : ℕ → List (List ℕ)
hosts_words count = codes "hosts" ∷ decimal count ∷ []

-- the fields of the line with that word
abbrev pub congestion_words : Judged → List (List ℕ)
congestion_words congestion = codes "congestion" ∷ judged_name congestion ∷ []

-- how late a host may be: `any` for as late as it likes
abbrev pub slack_text : Option ℕ → List ℕ
slack_text None = codes "any"
slack_text (Some slack) = decimal slack

-- the fields of the line that says so, which versions 5 and 6 have
abbrev pub slack_words : Option ℕ → List (List ℕ)
slack_words slack = codes "slack" ∷ slack_text slack ∷ []

-- the fields of the lines that name the sender's congestion control, which version 6 has
abbrev pub sender_words : Sender → List (List ℕ)
sender_words sender = codes "sender" ∷ sender_name sender ∷ []

abbrev pub growth_words : Growth → List (List ℕ)
growth_words growth = codes "growth" ∷ growth_name growth ∷ []

-- what the lines after line 6 say
abbrev pub late : Version → Initial → Judged → Option ℕ → Sender → Growth → LateLines
late version initial congestion slack sender growth = record {
  version = version;
  initial = initial;
  congestion = congestion;
  slack = slack;
  sender = sender;
  growth = growth;
}

-- what the header says in these lines
abbrev pub late_of : Header → LateLines
late_of h = late h.version h.initial h.congestion h.slack h.sender h.growth

-- the fields of the lines of version 6 alone
abbrev pub control_words : LateLines → List (List (List ℕ))
control_words l = if says_sender l.version then sender_words l.sender ∷ growth_words l.growth ∷ [] else []

abbrev pub last_words : LateLines → List (List (List ℕ))
last_words l = if says_slack l.version then slack_words l.slack ∷ control_words l else []

-- the fields of the lines of versions 4 to 6 after line 6
abbrev pub judged_words : ℕ → LateLines → List (List (List ℕ))
judged_words hosts l =
    initial_words l.initial ∷ hosts_words hosts ∷ congestion_words l.congestion ∷ last_words l

-- the fields of the lines that version 1 doesn't have
abbrev pub late_words : LateLines → List (List (List ℕ))
late_words l = by l.version
  where
    by : Version → List (List (List ℕ))
    by One = []
    by Two = initial_words l.initial ∷ []
    by Three = initial_words l.initial ∷ half_words ∷ []
    by Four = judged_words 2 l
    by FourHalf = judged_words 1 l
    by Five = judged_words 2 l
    by FiveHalf = judged_words 1 l
    by Six = judged_words 2 l
    by SixHalf = judged_words 1 l

-- the fields of the header's lines
abbrev pub header_words : Header → List (List (List ℕ))
header_words h =
    first_words h.version
    ∷ (codes "skew" ∷ decimal h.skew ∷ [])
    ∷ (codes "msl" ∷ decimal h.msl ∷ [])
    ∷ (codes "grain" ∷ decimal h.grain ∷ [])
    ∷ (codes "minrto" ∷ decimal h.minrto ∷ [])
    ∷ (codes "extra" ∷ decimal h.extra ∷ [])
    ∷ late_words (late_of h)

-- the limits of the header
pub record IsHeader (h : Header) : Type 0 where
  pub skew : h.skew ≤ 1000000000
  pub msl_least : 1 ≤ h.msl
  pub msl : h.msl ≤ 3600000000
  pub grain : h.grain ≤ 60000000
  pub minrto : h.minrto ≤ 60000000
  pub extra : h.extra ≤ 65535
  -- version 1 names no other
  pub initial : h.version ≡ One → h.initial ≡ Rfc5681
  -- a header without that line judges all of congestion control
  pub congestion : says_congestion h.version ≡ false → h.congestion ≡ Full
  pub judged : may_judge h.version h.congestion ≡ true
  pub slack : IfSome h.slack (λ slack. slack ≤ 1000000000000000000)
  -- a header without that line says nothing of lateness
  pub no_slack : says_slack h.version ≡ false → h.slack ≡ None
  -- a header without these lines names RFC 5681
  pub no_sender : says_sender h.version ≡ false → h.sender ≡ Reno
  pub no_growth : says_sender h.version ≡ false → h.growth ≡ OneSegment

-- each line with its bytes, numbered consecutively
abbrev pub AreLines : ℕ → List (List (List ℕ)) → List (List ℕ) → Type 0
AreLines number [] [] = Unit {0}
AreLines number [] (raw ∷ raws) = ⊥
AreLines number (ws ∷ lines) [] = ⊥
AreLines number (ws ∷ lines) (raw ∷ raws) = IsLine number (joined ws) raw × AreLines (number + 1) lines raws

-- a line of the header with another word or another count of fields
abbrev pub header_fault : ℕ → Rest → TextFault
header_fault number r = record { kind = kinds.Header; span = record { line = number; start = 0; stop = r.stop } }

-- the fields after a name, of which there must be one, and the fault for another count of them
abbrev pub some_left : TextFault → List Word → Rest → Result (Rest × TextFault) TextFault
some_left fault [] r = Err fault
some_left fault (w ∷ ws) r = Ok (r, fault)

-- a line of the header up to this name, with which it begins
unfoldable pub named_rest : ℕ → List ℕ → List ℕ → Result (Rest × TextFault) TextFault
named_rest number name raw = do
  r ← line_rest number raw
  w ← next_field r
  if bytes_eq w.0.text name then some_left (header_fault number r) w.1.words w.1 else Err (header_fault number r)

-- a value, if no field is left
abbrev pub alone : {A : Type 0} → TextFault → A → List Word → Result A TextFault
alone fault a [] = Ok a
alone fault a (w ∷ ws) = Err fault

-- a line of the header: its name, and the value that is read after it
unfoldable pub value_line : {A : Type 0} → ℕ → List ℕ → (Rest → Result (A × Rest) TextFault) → List ℕ
    → Result A TextFault
value_line number name read raw = do
  line ← named_rest number name raw
  a ← read line.0
  alone line.1 a.0 a.1.words

-- the next line, which is that line of the header
unfoldable pub next_value : {A : Type 0} → ℕ → List ℕ → (Rest → Result (A × Rest) TextFault) → List (List ℕ)
    → Result (A × List (List ℕ)) TextFault
next_value number name read raws = do
  raw ← next_raw number raws
  a ← value_line number name read raw.0
  Ok (a, raw.1)

-- the version with this text as its first line, else Header; for versions 4 to 6, that of two hosts
abbrev pub version_in : List ℕ → Result Version TextFault
version_in text =
    if bytes_eq text (joined (first_words One)) then Ok One
    else if bytes_eq text (joined (first_words Two)) then Ok Two
    else if bytes_eq text (joined (first_words Three)) then Ok Three
    else if bytes_eq text (joined (first_words Four)) then Ok Four
    else if bytes_eq text (joined (first_words Five)) then Ok Five
    else if bytes_eq text (joined (first_words Six)) then Ok Six
    else Err (record { kind = kinds.Header; span = whole_line 1 text })

-- the version of a first line, given with its end
unfoldable pub first_version : List ℕ → Result Version TextFault
first_version raw = line_text 1 raw >>= version_in

-- the first line, which must be that of some version
unfoldable pub first_line : List (List ℕ) → Result (Version × List (List ℕ)) TextFault
first_line raws = do
  raw ← next_raw 1 raws
  version ← first_version raw.0
  Ok (version, raw.1)

-- the RFC of this number, else Number
abbrev pub initial_of : Word → ℕ → Result Initial TextFault
initial_of w n = if n == 5681 then Ok Rfc5681 else if n == 6928 then Ok Rfc6928 else Err (fault_at kinds.Number w)

-- the RFC that a field names by its number
abbrev pub initial_value : Word → Result Initial TextFault
initial_value w = number_value 5681 6928 w >>= initial_of w

-- the next field, which names such an RFC
unfoldable pub initial_field : Rest → Result (Initial × Rest) TextFault
initial_field r = do
  w ← next_field r
  i ← initial_value w.0
  Ok (i, w.1)

-- the next line, which names it
abbrev pub initial_line : List (List ℕ) → Result (Initial × List (List ℕ)) TextFault
initial_line raws = next_value 7 (codes "initial") initial_field raws

-- the next line, which says that only host 0 is recorded
abbrev pub half_line : List (List ℕ) → Result (ℕ × List (List ℕ)) TextFault
half_line raws = next_value 8 (codes "half") (number_field 0 0) raws

-- the next line, which says how many hosts were recorded: one or two
abbrev pub hosts_line : List (List ℕ) → Result (ℕ × List (List ℕ)) TextFault
hosts_line raws = next_value 8 (codes "hosts") (number_field 1 2) raws

-- the next line, which says how much of congestion control is judged
abbrev pub congestion_line : Version → List (List ℕ) → Result (Judged × List (List ℕ)) TextFault
congestion_line v raws = next_value 9 (codes "congestion") (judged_field v) raws

-- the next line, which says how late a host may be
abbrev pub slack_line : List (List ℕ) → Result (Option ℕ × List (List ℕ)) TextFault
slack_line raws = next_value 10 (codes "slack") slack_field raws

-- the next line, if the version has that line
abbrev pub last_line : Version → List (List ℕ) → Result (Option ℕ × List (List ℕ)) TextFault
last_line v raws = if says_slack v then slack_line raws else Ok (None, raws)

-- the next line, which names the sender's congestion control
abbrev pub sender_line : List (List ℕ) → Result (Sender × List (List ℕ)) TextFault
sender_line raws = next_value 11 (codes "sender") (kind_field sender_name all_senders) raws

-- the next line, which says what a sender may add in slow start
abbrev pub growth_line : List (List ℕ) → Result (Growth × List (List ℕ)) TextFault
growth_line raws = next_value 12 (codes "growth") (kind_field growth_name all_growths) raws

-- these two lines
unfoldable pub both_lines : List (List ℕ) → Result ((Sender × Growth) × List (List ℕ)) TextFault
both_lines raws = do
  sender ← sender_line raws
  growth ← growth_line sender.1
  Ok ((sender.0, growth.0), growth.1)

-- the next lines, if the version has them
abbrev pub control_lines : Version → List (List ℕ) → Result ((Sender × Growth) × List (List ℕ)) TextFault
control_lines v raws = if says_sender v then both_lines raws else Ok ((Reno, OneSegment), raws)

-- the content of the lines of version 3 after line 6
abbrev pub half_lines : List (List ℕ) → Result (LateLines × List (List ℕ)) TextFault
half_lines raws = do
  initial ← initial_line raws
  half ← half_line initial.1
  Ok (late Three initial.0 Full None Reno OneSegment, half.1)

-- and that of the lines of versions 4 to 6, which say how many hosts the version is for
abbrev pub judged_lines : Version → List (List ℕ) → Result (LateLines × List (List ℕ)) TextFault
judged_lines v raws = do
  initial ← initial_line raws
  hosts ← hosts_line initial.1
  congestion ← congestion_line v hosts.1
  slack ← last_line v congestion.1
  control ← control_lines v slack.1
  Ok (late (hosted v hosts.0) initial.0 congestion.0 slack.0 control.0.0 control.0.1, control.1)

-- the content of the lines that version 1 doesn't have; for version 1 it is always the same
abbrev pub late_lines : Version → List (List ℕ) → Result (LateLines × List (List ℕ)) TextFault
late_lines One raws = Ok (late One Rfc5681 Full None Reno OneSegment, raws)
late_lines Two raws = do
  initial ← initial_line raws
  Ok (late Two initial.0 Full None Reno OneSegment, initial.1)
late_lines Three raws = half_lines raws
late_lines Four raws = judged_lines Four raws
late_lines FourHalf raws = judged_lines FourHalf raws
late_lines Five raws = judged_lines Five raws
late_lines FiveHalf raws = judged_lines FiveHalf raws
late_lines Six raws = judged_lines Six raws
late_lines SixHalf raws = judged_lines SixHalf raws

-- the header with these numbers, and the content of the late lines
abbrev pub header_with : (skew msl grain minrto extra : ℕ) → LateLines → Header
header_with skew msl grain minrto extra late = record {
  version = late.version;
  skew = skew;
  msl = msl;
  grain = grain;
  minrto = minrto;
  extra = extra;
  initial = late.initial;
  congestion = late.congestion;
  slack = late.slack;
  sender = late.sender;
  growth = late.growth;
}

-- the header, and the lines after it
unfoldable pub header_of : List (List ℕ) → Result (Header × List (List ℕ)) TextFault
header_of raws = do
  version ← first_line raws
  skew ← next_value 2 (codes "skew") (number_field 0 1000000000) version.1
  msl ← next_value 3 (codes "msl") (number_field 1 3600000000) skew.1
  grain ← next_value 4 (codes "grain") (number_field 0 60000000) msl.1
  minrto ← next_value 5 (codes "minrto") (number_field 0 60000000) grain.1
  extra ← next_value 6 (codes "extra") (number_field 0 65535) minrto.1
  late ← late_lines version.0 extra.1
  Ok (header_with skew.0 msl.0 grain.0 minrto.0 extra.0 late.0, late.1)
