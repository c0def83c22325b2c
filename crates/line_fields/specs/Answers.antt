-- Answers, as both texts spell them.
use Rattle.std.specs.Prelude.{◌≤◌, ℕ, List, [], ◌∷◌, length, codes}
use Rattle.case_forms.specs.declared.calls.Answer.{Answer}
use Rattle.case_forms.specs.declared.calls.Answer.TheVariants as answers
use Rattle.line_fields.specs.declared.answers.AnswerWord.{AnswerWord}
use Rattle.line_fields.specs.declared.answers.AnswerWord.TheVariants as words
use Rattle.line_fields.specs.Spelling.{Piece, plain, hex, number, AreWritten}
use Rattle.line_fields.specs.States.{state_name}

-- the first word of an answer
abbrev pub answer_name : AnswerWord → List ℕ
answer_name words.Done = codes "ok"
answer_name words.Data = codes "data"
answer_name words.Again = codes "again"
answer_name words.Eof = codes "eof"
answer_name words.Closed = codes "closed"
answer_name words.NotConn = codes "notconn"
answer_name words.Refused = codes "refused"
answer_name words.Reset = codes "reset"
answer_name words.Timeout = codes "timeout"
answer_name words.InUse = codes "inuse"
answer_name words.BadSocket = codes "badsocket"
answer_name words.State = codes "state"

-- all first words of answers
abbrev pub all_answer_words : List AnswerWord
all_answer_words =
    words.Done ∷ words.Data ∷ words.Again ∷ words.Eof ∷ words.Closed ∷ words.NotConn ∷ words.Refused ∷ words.Reset
    ∷ words.Timeout ∷ words.InUse ∷ words.BadSocket ∷ words.State ∷ []

-- the first word of an answer, and the fields after it
abbrev pub answer_word : Answer → AnswerWord
answer_word answers.Done = words.Done
answer_word (answers.Given count) = words.Done
answer_word (answers.Bytes bytes) = words.Data
answer_word answers.Again = words.Again
answer_word answers.Eof = words.Eof
answer_word answers.Closed = words.Closed
answer_word answers.NotConn = words.NotConn
answer_word answers.Refused = words.Refused
answer_word answers.Reset = words.Reset
answer_word answers.Timeout = words.Timeout
answer_word answers.InUse = words.InUse
answer_word answers.BadSocket = words.BadSocket
answer_word (answers.State state) = words.State

-- what follows the first word: a number, bytes, the name of a state, or nothing
abbrev pub answer_tail : Answer → List Piece
answer_tail (answers.Given count) = number count ∷ []
answer_tail (answers.Bytes bytes) = hex bytes ∷ []
answer_tail (answers.State state) = plain (state_name state) ∷ []
answer_tail answers.Done = []
answer_tail answers.Again = []
answer_tail answers.Eof = []
answer_tail answers.Closed = []
answer_tail answers.NotConn = []
answer_tail answers.Refused = []
answer_tail answers.Reset = []
answer_tail answers.Timeout = []
answer_tail answers.InUse = []
answer_tail answers.BadSocket = []

-- the fields of an answer
abbrev pub answer_pieces : Answer → List Piece
answer_pieces answer = plain (answer_name (answer_word answer)) ∷ answer_tail answer

-- the limits of an answer
abbrev pub IsAnswer : Answer → Type 0
IsAnswer (answers.Given count) = count ≤ 4294967295
IsAnswer (answers.Bytes bytes) = (1 ≤ length bytes) × (length bytes ≤ 65535)
IsAnswer (answers.State state) = Unit {0}
IsAnswer answers.Done = Unit {0}
IsAnswer answers.Again = Unit {0}
IsAnswer answers.Eof = Unit {0}
IsAnswer answers.Closed = Unit {0}
IsAnswer answers.NotConn = Unit {0}
IsAnswer answers.Refused = Unit {0}
IsAnswer answers.Reset = Unit {0}
IsAnswer answers.Timeout = Unit {0}
IsAnswer answers.InUse = Unit {0}
IsAnswer answers.BadSocket = Unit {0}

-- these fields spell the answer
abbrev pub IsSpelledAnswer : Answer → List (List ℕ) → Type 0
IsSpelledAnswer answer ws = IsAnswer answer × AreWritten (answer_pieces answer) ws
