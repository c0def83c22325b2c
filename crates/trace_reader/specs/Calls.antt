-- Calls, as an event line spells them.
use Rattle.std.specs.Prelude.{◌≤◌, ℕ, List, [], ◌∷◌, length, codes}
use Rattle.case_forms.specs.declared.calls.Call.{Call}
use Rattle.case_forms.specs.declared.calls.Call.TheVariants as calls
use Rattle.case_forms.specs.declared.version.Version.{Version}
use Rattle.line_fields.specs.Hosts.{host_number, IsHost}
use Rattle.line_fields.specs.Spelling.{Piece, plain, hex, number, AreWritten}
use Rattle.trace_reader.specs.declared.calls.CallWord.{CallWord}
use Rattle.trace_reader.specs.declared.calls.CallWord.TheVariants as words

-- the first word of a call
abbrev pub call_name : CallWord → List ℕ
call_name words.Listen = codes "listen"
call_name words.Open = codes "open"
call_name words.Await = codes "await"
call_name words.Accept = codes "accept"
call_name words.Send = codes "send"
call_name words.Recv = codes "recv"
call_name words.Shut = codes "shut"
call_name words.Close = codes "close"
call_name words.Abort = codes "abort"
call_name words.Status = codes "status"

-- all first words of calls
abbrev pub all_call_words : List CallWord
all_call_words =
    words.Listen ∷ words.Open ∷ words.Await ∷ words.Accept ∷ words.Send ∷ words.Recv
    ∷ words.Shut ∷ words.Close ∷ words.Abort ∷ words.Status ∷ []

-- the first word of a call
abbrev pub call_word : Call → CallWord
call_word (calls.Listen host port backlog) = words.Listen
call_word (calls.Connect host local remote) = words.Open
call_word (calls.Await socket) = words.Await
call_word (calls.Accept socket) = words.Accept
call_word (calls.Send socket bytes) = words.Send
call_word (calls.Recv socket max) = words.Recv
call_word (calls.Shut socket) = words.Shut
call_word (calls.Close socket) = words.Close
call_word (calls.Abort socket) = words.Abort
call_word (calls.Status socket) = words.Status

-- the fields after the first word
abbrev pub call_tail : Call → List Piece
call_tail (calls.Listen host port backlog) = number (host_number host) ∷ number port ∷ number backlog ∷ []
call_tail (calls.Connect host local remote) = number (host_number host) ∷ number local ∷ number remote ∷ []
call_tail (calls.Await socket) = number socket ∷ []
call_tail (calls.Accept socket) = number socket ∷ []
call_tail (calls.Send socket bytes) = number socket ∷ hex bytes ∷ []
call_tail (calls.Recv socket max) = number socket ∷ number max ∷ []
call_tail (calls.Shut socket) = number socket ∷ []
call_tail (calls.Close socket) = number socket ∷ []
call_tail (calls.Abort socket) = number socket ∷ []
call_tail (calls.Status socket) = number socket ∷ []

-- the fields of a call
abbrev pub call_pieces : Call → List Piece
call_pieces call = plain (call_name (call_word call)) ∷ call_tail call

-- the limits of a call in a text of this version
abbrev pub IsCall : Version → Call → Type 0
IsCall v (calls.Listen host port backlog) = IsHost v host × (1 ≤ port) × (port ≤ 65535) × (backlog ≤ 65535)
IsCall v (calls.Connect host local remote) =
    IsHost v host × (1 ≤ local) × (local ≤ 65535) × (1 ≤ remote) × (remote ≤ 65535)
IsCall v (calls.Await socket) = socket ≤ 4294967295
IsCall v (calls.Accept socket) = socket ≤ 4294967295
IsCall v (calls.Send socket bytes) = (socket ≤ 4294967295) × (1 ≤ length bytes) × (length bytes ≤ 65535)
IsCall v (calls.Recv socket max) = (socket ≤ 4294967295) × (1 ≤ max) × (max ≤ 65535)
IsCall v (calls.Shut socket) = socket ≤ 4294967295
IsCall v (calls.Close socket) = socket ≤ 4294967295
IsCall v (calls.Abort socket) = socket ≤ 4294967295
IsCall v (calls.Status socket) = socket ≤ 4294967295

-- these fields spell the call
abbrev pub IsSpelledCall : Version → Call → List (List ℕ) → Type 0
IsSpelledCall v call ws = IsCall v call × AreWritten (call_pieces call) ws
