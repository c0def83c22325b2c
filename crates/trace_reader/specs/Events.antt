-- Events, as an event line spells them.
use Rattle.std.specs.Prelude.{◌≤◌, ℕ, List, [], ◌∷◌, codes}
use Rattle.segment.specs.Layout.{IsSegment}
use Rattle.case_forms.specs.declared.trace.Event.{Event}
use Rattle.case_forms.specs.declared.trace.Event.TheVariants as events
use Rattle.case_forms.specs.declared.version.Version.{Version}
use Rattle.line_fields.specs.Hosts.{host_number, IsHost}
use Rattle.line_fields.specs.Spelling.{Piece, plain, hex, number, AreWritten}
use Rattle.line_fields.specs.Timers.{timer_name, IsTimer}
use Rattle.line_fields.specs.Answers.{answer_pieces, IsAnswer}
use Rattle.trace_reader.specs.declared.events.Letter.{Letter}
use Rattle.trace_reader.specs.declared.events.Letter.TheVariants as letters
use Rattle.trace_reader.specs.Calls.{call_pieces, IsCall}

-- the letter of an event
abbrev pub letter_name : Letter → List ℕ
letter_name letters.B = codes "B"
letter_name letters.E = codes "E"
letter_name letters.O = codes "O"
letter_name letters.I = codes "I"
letter_name letters.T = codes "T"

-- all letters
abbrev pub all_letters : List Letter
all_letters = letters.B ∷ letters.E ∷ letters.O ∷ letters.I ∷ letters.T ∷ []

-- the letter of an event
abbrev pub event_letter : Event → Letter
event_letter (events.CallBegin call) = letters.B
event_letter (events.CallEnd answer) = letters.E
event_letter (events.Sent host wire) = letters.O
event_letter (events.Came host wire) = letters.I
event_letter (events.Expired host local remote timer) = letters.T

-- the fields after the letter
abbrev pub event_tail : Event → List Piece
event_tail (events.CallBegin call) = call_pieces call
event_tail (events.CallEnd answer) = answer_pieces answer
event_tail (events.Sent host wire) = number (host_number host) ∷ hex wire.bytes ∷ []
event_tail (events.Came host wire) = number (host_number host) ∷ hex wire.bytes ∷ []
event_tail (events.Expired host local remote timer) =
    number (host_number host) ∷ number local ∷ number remote ∷ plain (timer_name timer) ∷ []

-- the fields of an event
abbrev pub event_pieces : Event → List Piece
event_pieces event = plain (letter_name (event_letter event)) ∷ event_tail event

-- the limits of an event in a text of this version; the bytes of a segment encode it
abbrev pub IsEvent : Version → Event → Type 0
IsEvent v (events.CallBegin call) = IsCall v call
IsEvent v (events.CallEnd answer) = IsAnswer answer
IsEvent v (events.Sent host wire) = IsHost v host × IsSegment wire.bytes wire.seg
IsEvent v (events.Came host wire) = IsHost v host × IsSegment wire.bytes wire.seg
IsEvent v (events.Expired host local remote timer) =
    IsHost v host × (1 ≤ local) × (local ≤ 65535) × (1 ≤ remote) × (remote ≤ 65535) × IsTimer v timer

-- these fields spell the event
abbrev pub IsSpelledEvent : Version → Event → List (List ℕ) → Type 0
IsSpelledEvent v event ws = IsEvent v event × AreWritten (event_pieces event) ws
