-- Event lines as they are usually written.
use Rattle.std.proofs.Common.{◌≡◌, ◌≤◌, ℕ, List, [], ◌∷◌, ◌++◌, Option, None, Some, IfSome, Result, Ok, length, refl, ap, subst, ◌∙◌, arith}
use Rattle.std.proofs.lemmas.Bool.{le-ltb}
use Rattle.hex.specs.Hex.{decode_of}
use Rattle.hex.proofs.HexLemmas.{decode_of-ok}
use Rattle.segment.specs.declared.fields.Segment.{Segment}
use Rattle.segment.specs.Layout.{IsSegment}
use Rattle.segment.proofs.Readings.{reads_by_layout}
use Rattle.case_forms.specs.declared.calls.Host.{Host}
use Rattle.case_forms.specs.declared.trace.Line.{Line}
use Rattle.case_forms.specs.declared.version.Version.{Version}
use Rattle.case_lines.specs.declared.record.KeptEvent.{KeptEvent}
use Rattle.case_lines.specs.declared.record.KeptEvent.TheVariants as kept
use Rattle.case_lines.specs.declared.record.Record.{Record}
use Rattle.case_lines.specs.Records.{event_of, seen_of}
use Rattle.case_lines.specs.Records.{line_of as kept_line}
use Rattle.case_lines.specs.Spelled.{IsSpelled}
use Rattle.line_fields.specs.declared.fault.TextFault.{TextFault}
use Rattle.line_fields.specs.declared.answers.AnswerWord.{AnswerWord}
use Rattle.line_fields.specs.declared.answers.AnswerWord.TheVariants as answer_words
use Rattle.line_fields.specs.Word.{Rest}
use Rattle.line_fields.specs.Answers.{answer_name, all_answer_words}
use Rattle.line_fields.specs.AnswerFields.{answer_behind, answer_field}
use Rattle.line_fields.specs.Choice.{kind_named, kind_field}
use Rattle.line_fields.specs.FirstField.{IsNext, rising_field}
use Rattle.line_fields.specs.HexFields.{hex_field, EndsInHex}
use Rattle.line_fields.specs.Hosts.{host_field}
use Rattle.line_fields.specs.Lines.{line_rest}
use Rattle.line_fields.specs.Reading.{◌>>=◌, number_field, no_more}
use Rattle.line_fields.proofs.HexFieldLemmas.{hex_field_is}
use Rattle.trace_reader.specs.declared.calls.CallWord.{CallWord}
use Rattle.trace_reader.specs.declared.calls.CallWord.TheVariants as call_words
use Rattle.trace_reader.specs.declared.events.Letter.{Letter}
use Rattle.trace_reader.specs.declared.events.Letter.TheVariants as letters
use Rattle.trace_reader.specs.Calls.{call_name, all_call_words}
use Rattle.trace_reader.specs.CallFields.{call_behind, call_field, send_fields}
use Rattle.trace_reader.specs.Events.{letter_name, all_letters}
use Rattle.trace_reader.specs.EventFields.{event_behind, event_field, host_wire}
use Rattle.trace_reader.specs.EventLines.{line_of}
use Rattle.trace_reader.specs.declared.plain.PlainEvent.{PlainEvent}
use Rattle.trace_reader.specs.Plain.{begun, begun_behind, ended, ended_behind, IsAppended, IsRead}
use Rattle.trace_reader.proofs.WireLemmas.{wire_field_is}

-- the next field names a kind
kind_is : {K : Type 0} (name : K → List ℕ) (kinds : List K) (k : K) (text : List ℕ) (before after : Rest) → IsNext text before after
    → kind_named name kinds text ≡ Some k → kind_field name kinds before ≡ Ok (k, after)
kind_is name kinds k text before after is named =
    let next = is.next in
    let same = is.text in
    rw (next, same, named) refl

-- a call whose first word is read
call_is : (v : Version) (word : CallWord) (text : List ℕ) (before after : Rest) → IsNext text before after
    → kind_named call_name all_call_words text ≡ Some word → call_field v before ≡ call_behind v word after
unfolding call_field
call_is v word text before after is named =
    let kind = kind_is call_name all_call_words word text before after is named in rw kind refl

answer_is : (word : AnswerWord) (text : List ℕ) (before after : Rest) → IsNext text before after
    → kind_named answer_name all_answer_words text ≡ Some word → answer_field before ≡ answer_behind word after
unfolding answer_field
answer_is word text before after is named =
    let kind = kind_is answer_name all_answer_words word text before after is named in rw kind refl

-- a call without bytes
pub call_alone : (v : Version) (word : CallWord) (text digits : List ℕ) (event : KeptEvent) (r f after : Rest) → IsNext text r f
    → kind_named call_name all_call_words text ≡ Some word
    → ((bytes : List ℕ) → begun_behind v word f ≡ Ok (event_of event bytes, after)) → after.words ≡ []
    → IsRead (event_behind v letters.B r) event digits
call_alone v word text digits event r f after is named reads none = λ bytes spelled.
    record { after = after; is = ap (λ c. c >>= begun) (call_is v word text r f is named) ∙ reads bytes; last = none }

-- an answer without bytes
pub answer_alone : (v : Version) (word : AnswerWord) (text digits : List ℕ) (event : KeptEvent) (r f after : Rest) → IsNext text r f
    → kind_named answer_name all_answer_words text ≡ Some word
    → ((bytes : List ℕ) → ended_behind word f ≡ Ok (event_of event bytes, after)) → after.words ≡ []
    → IsRead (event_behind v letters.E r) event digits
answer_alone v word text digits event r f after is named reads none = λ bytes spelled.
    record { after = after; is = ap (λ c. c >>= ended) (answer_is word text r f is named) ∙ reads bytes; last = none }

-- the last field's bytes, within a limit
bytes_end : (digits bytes : List ℕ) (r : Rest) (ends : EndsInHex bytes r) → decode_of digits ≡ Ok bytes → length digits ≤ 131070
    → hex_field 65535 r ≡ Ok (bytes, ends.after)
bytes_end digits bytes r ends decodes few =
    let len = (decode_of-ok digits bytes decodes).2 in
    let within = le-ltb 65535 (length bytes) (omega (arith, len)) in
    let next = ends.next in
    hex_field_is 65535 r ∙ rw (next, within) refl

-- bytes to send
pub send_is : (v : Version) (text digits : List ℕ) (socket : ℕ) (r f g : Rest) → IsNext text r f
    → kind_named call_name all_call_words text ≡ Some call_words.Send → number_field 0 4294967295 f ≡ Ok (socket, g)
    → ((bytes : List ℕ) → decode_of digits ≡ Ok bytes → EndsInHex bytes g) → length digits ≤ 131070
    → IsRead (event_behind v letters.B r) (kept.Send socket) digits
unfolding send_fields event_of
send_is v text digits socket r f g is named number last few = λ bytes spelled.
    let decodes = spelled.spelled refl in
    let ends = last bytes decodes in
    let hex = bytes_end digits bytes g ends decodes few in
    record { after = ends.after; is = ap (λ c. c >>= begun) (call_is v call_words.Send text r f is named) ∙ rw (number, hex) refl; last = ends.last }

-- bytes that were received
pub data_is : (v : Version) (text digits : List ℕ) (r f : Rest) → IsNext text r f
    → kind_named answer_name all_answer_words text ≡ Some answer_words.Data
    → ((bytes : List ℕ) → decode_of digits ≡ Ok bytes → EndsInHex bytes f) → length digits ≤ 131070
    → IsRead (event_behind v letters.E r) kept.Bytes digits
unfolding event_of
data_is v text digits r f is named last few = λ bytes spelled.
    let decodes = spelled.spelled refl in
    let ends = last bytes decodes in
    let hex = bytes_end digits bytes f ends decodes few in
    record { after = ends.after; is = ap (λ c. c >>= ended) (answer_is answer_words.Data text r f is named) ∙ rw hex refl; last = ends.last }

-- a segment, which is the last field
wire_is : (v : Version) (host : Host) (bytes : List ℕ) (s : Segment) (r f : Rest) → host_field v r ≡ Ok (host, f) → (ends : EndsInHex bytes f)
    → IsSegment bytes s → host_wire v r ≡ Ok ((host, seen_of bytes), ends.after)
unfolding host_wire seen_of
wire_is v host bytes s r f is ends segment =
    let next = ends.next in
    let read = (reads_by_layout.segments bytes s).1 segment in
    let wire = wire_field_is f in
    rw (is, wire, next, read) refl

pub sent_is : (v : Version) (host : Host) (digits : List ℕ) (r f : Rest) → host_field v r ≡ Ok (host, f)
    → ((bytes : List ℕ) → decode_of digits ≡ Ok bytes → EndsInHex bytes f) → IsRead (event_behind v letters.O r) (kept.Sent host) digits
unfolding event_of
sent_is v host digits r f is last = λ bytes spelled.
    let ends = last bytes (spelled.spelled refl) in
    let segment = spelled.segment refl in
    let read = wire_is v host bytes segment.0 r f is ends segment.1 in
    record { after = ends.after; is = rw read refl; last = ends.last }

pub came_is : (v : Version) (host : Host) (digits : List ℕ) (r f : Rest) → host_field v r ≡ Ok (host, f)
    → ((bytes : List ℕ) → decode_of digits ≡ Ok bytes → EndsInHex bytes f) → IsRead (event_behind v letters.I r) (kept.Came host) digits
unfolding event_of
came_is v host digits r f is last = λ bytes spelled.
    let ends = last bytes (spelled.spelled refl) in
    let segment = spelled.segment refl in
    let read = wire_is v host bytes segment.0 r f is ends segment.1 in
    record { after = ends.after; is = rw read refl; last = ends.last }

-- what follows a letter is what follows it in the event
letters_named : (letter : Letter) → kind_named letter_name all_letters (letter_name letter) ≡ Some letter
letters_named letters.B = refl
letters_named letters.E = refl
letters_named letters.O = refl
letters_named letters.I = refl
letters_named letters.T = refl

pub letter_is : (v : Version) (letter : Letter) (event : KeptEvent) (digits : List ℕ) (r a f : Rest) → a ≡ r → IsNext (letter_name letter) a f
    → IsRead (event_behind v letter f) event digits → IsRead (event_field v r) event digits
unfolding event_field
letter_is v letter event digits r a f same is read = λ bytes spelled.
    let from = subst (λ (x : Rest). IsNext (letter_name letter) x f) same is in
    let kind = kind_is letter_name all_letters letter (letter_name letter) r f from (letters_named letter) in
    let whole = read bytes spelled in
    record { after = whole.after; is = ap (λ k. k >>= λ letter. event_behind v letter.0 letter.1) kind ∙ whole.is; last = whole.last }

-- the same of what may be read
pub event_is : (v : Version) (letter : Letter) (r a f : Rest) (read : Option PlainEvent) → a ≡ r → IsNext (letter_name letter) a f
    → IfSome read (λ p. IsRead (event_behind v letter f) p.event p.digits.now) → IfSome read (λ p. IsRead (event_field v r) p.event p.digits.now)
event_is v letter r a f None same is read = tt
event_is v letter r a f (Some p) same is read = letter_is v letter p.event p.digits.now r a f same is read

-- an answer is read alike in each version
pub any_version : (v : Version) (f : Rest) (read : Option PlainEvent)
    → IfSome read (λ p. (v : Version) → IsRead (event_behind v letters.E f) p.event p.digits.now)
    → IfSome read (λ p. IsRead (event_behind v letters.E f) p.event p.digits.now)
any_version v f None read = tt
any_version v f (Some p) read = read v

-- a whole line
pub line_is : (v : Version) (before number stop moment thread : ℕ) (event : KeptEvent) (digits bytes raw : List ℕ) (r f g : Rest)
    → line_rest number raw ≡ Ok r → stop ≡ r.stop → rising_field before 1000000000000000000 r ≡ Ok (moment, f)
    → number_field 0 4294967295 f ≡ Ok (thread, g) → IsRead (event_field v g) event digits → IsSpelled event digits bytes
    → line_of v (before, number) raw ≡ Ok (kept_line number (record { moment = moment; thread = thread; stop = stop; event = event }) bytes)
unfolding line_of kept_line no_more
line_is v before number stop moment thread event digits bytes raw r f g line ends rises is read spelled =
    let whole = read bytes spelled in
    let w = whole.is in
    let last = whole.last in
    rw (line, rises, is, w, last, ends) refl

-- the line of a record was appended
pub appended : (read : Result Line TextFault) (number : ℕ) (r : Record) (bytes : List ℕ) (old new : List Line)
    → read ≡ Ok (kept_line number r bytes) → new ≡ old ++ kept_line number r bytes ∷ [] → IsAppended read r.moment old new
unfolding kept_line
appended read number r bytes old new is lines = record { line = kept_line number r bytes; is = is; timed = refl; lines = lines }
