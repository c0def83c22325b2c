-- Labels, as a witness spells them.
use Rattle.std.specs.Prelude.{◌≡◌, ◌≤◌, ℕ, Bool, true, false, if◌then◌else◌, List, [], ◌∷◌, ◌++◌, Option, Some, None}
use Rattle.std.specs.Prelude.{IfSome, codes}
use Rattle.seqno.specs.declared.word.Word.{Word}
use Rattle.case_forms.specs.declared.calls.Host.{Host}
use Rattle.case_forms.specs.declared.named_line.Extras.{Extras}
use Rattle.case_forms.specs.declared.named_line.Extras.TheVariants.{Bare, One, Two}
use Rattle.case_forms.specs.declared.named_line.NamedLine.{NamedLine}
use Rattle.case_forms.specs.declared.steps.Label.{Label}
use Rattle.case_forms.specs.declared.steps.Label.TheVariants.{L, D, M, T, K, R, F}
use Rattle.case_forms.specs.declared.steps.SegmentPlan.{SegmentPlan}
use Rattle.case_forms.specs.declared.timer.RecoveryChange.{RecoveryChange}
use Rattle.case_forms.specs.declared.timer.RecoveryChange.TheVariants.{Begins, IsUndone}
use Rattle.case_forms.specs.declared.version.Version.{Version}
use Rattle.case_forms.specs.Versions.{says_sender}
use Rattle.case_forms.specs.Witnesses.{IsShift}
use Rattle.line_fields.specs.Hosts.{host_number, IsHost}
use Rattle.line_fields.specs.Spelling.{Piece, plain, number, AreWritten}
use Rattle.line_fields.specs.Answers.{answer_pieces, IsAnswer}
use Rattle.witness.specs.declared.labels.LabelWord.{LabelWord}
use Rattle.witness.specs.declared.labels.LabelWord.TheVariants as words
use Rattle.witness.specs.Flags.{flags_text}

-- the first word of a label
abbrev pub label_name : LabelWord → List ℕ
label_name words.Line = codes "L"
label_name words.Effect = codes "D"
label_name words.Making = codes "M"
label_name words.Taking = codes "T"
label_name words.Dropping = codes "K"
label_name words.Refusing = codes "R"
label_name (words.Recovery Begins) = codes "F"
label_name (words.Recovery IsUndone) = codes "U"

-- the first words that labels of this version may have: `U` from version 6 on
abbrev pub label_words_of : Version → List LabelWord
label_words_of v =
    words.Line ∷ words.Effect ∷ words.Making ∷ words.Taking ∷ words.Dropping ∷ words.Refusing ∷ words.Recovery Begins
    ∷ (if says_sender v then words.Recovery IsUndone ∷ [] else [])

-- a label of this version may say that this becomes of a recovery
abbrev pub IsChange : Version → RecoveryChange → Type 0
IsChange v Begins = Unit {0}
IsChange v IsUndone = says_sender v ≡ true

-- the number of yes or no
abbrev pub bit_number : Bool → ℕ
bit_number false = 0
bit_number true = 1

-- the fields of the extra numbers
abbrev pub extras_pieces : Extras → List Piece
extras_pieces Bare = []
extras_pieces (One x) = number x ∷ []
extras_pieces (Two x y) = number x ∷ number y ∷ []

-- the limits of the extra numbers
abbrev pub AreExtras : Extras → Type 0
AreExtras Bare = Unit {0}
AreExtras (One x) = x ≤ 4294967295
AreExtras (Two x y) = (x ≤ 4294967295) × (y ≤ 4294967295)

-- the field of an optional initial send sequence number
abbrev pub iss_pieces : Option Word → List Piece
iss_pieces None = []
iss_pieces (Some iss) = number iss.0 ∷ []

-- the limit of an initial send sequence number
abbrev pub IsIss : Option Word → Type 0
IsIss None = Unit {0}
IsIss (Some iss) = iss.0 ≤ 4294967295

-- the field of an optional shift
abbrev pub shift_pieces : Option ℕ → List Piece
shift_pieces None = []
shift_pieces (Some shift) = number shift ∷ []

-- the limits of an initial send sequence number and of the shift after it
abbrev pub IsStart : Version → Option Word → Option ℕ → Type 0
IsStart v iss shift = IsIss iss × IfSome shift (IsShift v iss)

-- the limits of a host and its ports
abbrev pub IsEndpoint : Version → Host → ℕ → ℕ → Type 0
IsEndpoint v host local remote = IsHost v host × (1 ≤ local) × (local ≤ 65535) × (1 ≤ remote) × (remote ≤ 65535)

-- the limits of a host and a line
abbrev pub IsEntry : Version → Host → ℕ → Type 0
IsEntry v host line = IsHost v host × (line ≤ 4294967295)

-- the fields of a host and its ports
abbrev pub endpoint_pieces : Host → ℕ → ℕ → List Piece
endpoint_pieces host local remote = number (host_number host) ∷ number local ∷ number remote ∷ []

-- the fields of a host and a line
abbrev pub entry_pieces : Host → ℕ → List Piece
entry_pieces host line = number (host_number host) ∷ number line ∷ []

-- the fields of the plan of a segment to build
abbrev pub segment_pieces : SegmentPlan → List Piece
segment_pieces plan =
    number plan.pos ∷ number plan.len ∷ plain (flags_text plan.flags) ∷ number plan.window
    ∷ (iss_pieces plan.iss ++ shift_pieces plan.shift)

-- the fields of a label after its first word
abbrev pub label_tail : Label NamedLine → List Piece
label_tail (L line) = number line.number ∷ extras_pieces line.extras
label_tail (D thread answer) = number thread ∷ answer_pieces answer
label_tail (M host plan) = endpoint_pieces host plan.lport plan.rport ++ segment_pieces plan
label_tail (T host line choice) =
    entry_pieces host line ++ number choice.cwnd ∷ number (bit_number choice.keep) ∷ number (bit_number choice.sample)
    ∷ []
label_tail (K host line) = entry_pieces host line
label_tail (R host line) = entry_pieces host line
label_tail (F host recovery) =
    endpoint_pieces host recovery.lport recovery.rport ++ number recovery.cwnd ∷ number recovery.ssthresh ∷ []

-- the first word of each label
abbrev pub label_word : Label NamedLine → LabelWord
label_word (L line) = words.Line
label_word (D thread answer) = words.Effect
label_word (M host plan) = words.Making
label_word (T host line choice) = words.Taking
label_word (K host line) = words.Dropping
label_word (R host line) = words.Refusing
label_word (F host recovery) = words.Recovery recovery.change

-- the fields of a label
abbrev pub label_pieces : Label NamedLine → List Piece
label_pieces label = plain (label_name (label_word label)) ∷ label_tail label

-- the limits of a label
abbrev pub IsLabel : Version → Label NamedLine → Type 0
IsLabel v (L line) = (line.number ≤ 4294967295) × AreExtras line.extras
IsLabel v (D thread answer) = (thread ≤ 4294967295) × IsAnswer answer
IsLabel v (M host plan) =
    IsEndpoint v host plan.lport plan.rport × (plan.pos ≤ 1000000000000000000) × (plan.len ≤ 65515)
    × (plan.window ≤ 65535) ×
    IsStart v plan.iss plan.shift
IsLabel v (T host line choice) = IsEntry v host line × (choice.cwnd ≤ 4294967295)
IsLabel v (K host line) = IsEntry v host line
IsLabel v (R host line) = IsEntry v host line
IsLabel v (F host recovery) =
    IsEndpoint v host recovery.lport recovery.rport × (recovery.cwnd ≤ 4294967295)
    × (recovery.ssthresh ≤ 4294967295) × IsChange v recovery.change

-- these fields spell the label
abbrev pub IsSpelledLabel : Version → Label NamedLine → List (List ℕ) → Type 0
IsSpelledLabel v label ws = IsLabel v label × AreWritten (label_pieces label) ws
