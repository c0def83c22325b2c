-- What the reader of an event line answers is the first fault by its form.
use Rattle.std.proofs.Common.{◌≡◌, ℕ, Bool, true, false, List, length, Some, None, Result, Ok, Err, refl, ◌∙◌}
use Rattle.std.specs.Prelude.{if◌then◌else◌, ◌==◌, ◌↔◌, nat_lt}
use Rattle.std.specs.Str.Parse.{digits_value}
use Rattle.hex.specs.Hex.{decode_of}
use Rattle.hex.specs.declared.error.FromHexError.{FromHexError}
use Rattle.segment.specs.Reading.{segment_of}
use Rattle.segment.specs.declared.fault.SegFault.{SegFault}
use Rattle.segment.specs.declared.fields.Segment.{Segment}
use Rattle.case_forms.specs.declared.calls.Call.{Call}
use Rattle.case_forms.specs.declared.calls.Call.TheVariants as calls
use Rattle.case_forms.specs.declared.calls.Host.{Host}
use Rattle.case_forms.specs.declared.trace.Event.{Event}
use Rattle.case_forms.specs.declared.trace.Event.TheVariants as events
use Rattle.case_forms.specs.declared.trace.Line.{Line}
use Rattle.case_forms.specs.declared.trace.Wire.{Wire}
use Rattle.case_forms.specs.declared.version.Version.{Version}
use Rattle.line_fields.specs.AnswerFields.{answer_field}
use Rattle.line_fields.specs.Choice.{kind_field}
use Rattle.line_fields.specs.Forms.{Form, End, Then, numeric, named, digits, then_form, choice}
use Rattle.line_fields.specs.HexFields.{or_bad, hex_value, hex_field}
use Rattle.line_fields.specs.Hosts.{host_field}
use Rattle.line_fields.specs.Reading.{◌>>=◌, fault_at, is_number, number_value, number_field, no_more}
use Rattle.line_fields.specs.Timers.{timer_name, timers_of}
use Rattle.line_fields.specs.Word.{Word, Rest}
use Rattle.line_fields.specs.declared.fault.FaultKind.TheVariants as kinds
use Rattle.line_fields.specs.declared.fault.TextFault.{TextFault}
use Rattle.line_fields.proofs.AnswerFaults.{answer_then}
use Rattle.line_fields.proofs.FieldFaults.{failing, first_fault, Onward, Agrees, assoc, value_then, number_then}
use Rattle.line_fields.proofs.FieldFaults.{host_then, kind_then, choice_then, hex_then, end_then}
use Rattle.line_fields.proofs.LineFaults.{faults_of}
use Rattle.trace_reader.specs.declared.calls.CallWord.{CallWord}
use Rattle.trace_reader.specs.declared.calls.CallWord.TheVariants as words
use Rattle.trace_reader.specs.declared.events.Letter.{Letter}
use Rattle.trace_reader.specs.declared.events.Letter.TheVariants as letters
use Rattle.trace_reader.specs.Calls.{call_name, all_call_words}
use Rattle.trace_reader.specs.CallFields.{listen_fields, open_fields, send_fields, recv_fields, socket_field, call_behind, call_field}
use Rattle.trace_reader.specs.Events.{letter_name, all_letters}
use Rattle.trace_reader.specs.EventFields.{host_wire, expired_fields, event_behind, event_field}
use Rattle.trace_reader.specs.EventForms.{port, word32, rising, segment_kind, wire_kind, segment_digits, call_form, event_form, line_form, IsLineFault}
use Rattle.trace_reader.specs.EventLines.{Place, moment_value, moment_field, event_fields, line_of}
use Rattle.trace_reader.specs.Wires.{with_segment, wire_value, wire_field}

-- moments
moment_agrees : (before : ℕ) (w : Word) → Agrees (moment_value before w) (rising before w) w
unfolding number_value
moment_agrees before w = go (length w.text == 0) (is_number 0 1000000000000000000 w.text (digits_value 10 w.text))
  where
    by : (d : Bool) → Agrees (if d then Err (fault_at kinds.MomentFalls w) else Ok (digits_value 10 w.text)) (if d then Some kinds.MomentFalls else None) w
    by true = refl
    by false = tt

    go : (b c : Bool)
        → Agrees ((if b then Err (fault_at kinds.Field w) else if c then Ok (digits_value 10 w.text)
        else Err (fault_at kinds.Number w)) >>= λ m. if nat_lt m before then Err (fault_at kinds.MomentFalls w)
        else Ok m)
        (if b then Some kinds.Field else (if c then (if nat_lt (digits_value 10 w.text) before then Some kinds.MomentFalls else None) else Some kinds.Number)) w
    go true c = refl
    go false true = by (nat_lt (digits_value 10 w.text) before)
    go false false = refl

moment_then : {Y : Type 0} (before : ℕ) (form : Form) (f : ℕ × Rest → Result Y TextFault) → Onward form f → (r : Rest)
    → failing (moment_field before r >>= f) ≡ first_fault (Then (rising before) (λ w. form)) r
moment_then before form f on r = value_then (moment_value before) (rising before) (λ w. form) f (moment_agrees before) (λ w x rest is. on x rest) r

-- segments
wire_agrees : (w : Word) → Agrees (wire_value w) (segment_digits w) w
unfolding hex_value wire_value
wire_agrees w = go (length w.text == 0) (decode_of w.text)
  where
    by : (bytes : List ℕ) (s : Result Segment SegFault) → Agrees (with_segment w bytes s) (segment_kind s) w
    by bytes (Ok seg) = tt
    by bytes (Err fault) = refl

    go : (b : Bool) (d : Result (List ℕ) FromHexError)
        → Agrees ((if b then Err (fault_at kinds.Field w) else or_bad (fault_at kinds.Hex w) d) >>= λ bytes.
        with_segment w bytes (segment_of bytes)) (if b then Some kinds.Field else wire_kind d) w
    go true d = refl
    go false (Ok bytes) = by bytes (segment_of bytes)
    go false (Err bad) = refl

pub wire_then : {Y : Type 0} (form : Form) (f : Wire × Rest → Result Y TextFault) → Onward form f → (r : Rest)
    → failing (wire_field r >>= f) ≡ first_fault (Then segment_digits (λ w. form)) r
unfolding wire_field
wire_then form f on r = value_then wire_value segment_digits (λ w. form) f wire_agrees (λ w x rest is. on x rest) r

-- calls
socket_then : {Y : Type 0} (call : ℕ → Call) (f : Call × Rest → Result Y TextFault) → Onward End f → (r : Rest)
    → failing (socket_field call r >>= f) ≡ first_fault (word32 End) r
socket_then call f on r =
    assoc (number_field 0 4294967295 r) (λ n. Ok (call n.0, n.1)) f
    ∙ number_then 0 4294967295 End (λ n. f (call n.0, n.1)) (λ x rest. on (call x) rest) r

call_then : {Y : Type 0} (v : Version) (f : Call × Rest → Result Y TextFault) → Onward End f → (k : CallWord) (r : Rest)
    → failing (call_behind v k r >>= f) ≡ first_fault (call_form v k) r
unfolding listen_fields open_fields send_fields recv_fields
call_then v f on words.Listen r =
    assoc (host_field v r) _ f ∙ host_then v (port (then_form (numeric 0 65535) End)) _
    (λ host more. assoc (number_field 1 65535 more) _ f ∙ number_then 1 65535 (then_form (numeric 0 65535) End) _
    (λ local last. assoc (number_field 0 65535 last) _ f ∙ number_then 0 65535 End _ (λ backlog rest. on (calls.Listen host local backlog) rest) last) more) r
call_then v f on words.Open r =
    assoc (host_field v r) _ f ∙ host_then v (port (port End)) _
    (λ host more. assoc (number_field 1 65535 more) _ f ∙ number_then 1 65535 (port End) _
    (λ local last. assoc (number_field 1 65535 last) _ f ∙ number_then 1 65535 End _ (λ remote rest. on (calls.Connect host local remote) rest) last) more) r
call_then v f on words.Send r =
    assoc (number_field 0 4294967295 r) _ f
    ∙ number_then 0 4294967295 (then_form (digits 65535) End) _
    (λ socket more. assoc (hex_field 65535 more) _ f
    ∙ hex_then 65535 End _ (λ bytes rest. on (calls.Send socket bytes) rest) more) r
call_then v f on words.Recv r =
    assoc (number_field 0 4294967295 r) _ f
    ∙ number_then 0 4294967295 (port End) _
    (λ socket more. assoc (number_field 1 65535 more) _ f
    ∙ number_then 1 65535 End _ (λ most rest. on (calls.Recv socket most) rest) more) r
call_then v f on words.Await r = socket_then calls.Await f on r
call_then v f on words.Accept r = socket_then calls.Accept f on r
call_then v f on words.Shut r = socket_then calls.Shut f on r
call_then v f on words.Close r = socket_then calls.Close f on r
call_then v f on words.Abort r = socket_then calls.Abort f on r
call_then v f on words.Status r = socket_then calls.Status f on r

-- events
wires_then : {Y : Type 0} (v : Version) (event : (Host × Wire) → Event) (f : Event × Rest → Result Y TextFault)
    → Onward End f → (r : Rest)
    → failing ((host_wire v r >>= λ seen. Ok (event seen.0, seen.1)) >>= f) ≡ first_fault (event_form v letters.O) r
unfolding host_wire
wires_then v event f on r =
    assoc (host_wire v r) (λ seen. Ok (event seen.0, seen.1)) f
    ∙ (assoc (host_field v r) (λ host. wire_field host.1 >>= λ wire. Ok ((host.0, wire.0), wire.1))
    (λ seen. f (event seen.0, seen.1))
    ∙ host_then v (then_form segment_digits End) _
    (λ host more. assoc (wire_field more) (λ wire. Ok ((host, wire.0), wire.1)) (λ seen. f (event seen.0, seen.1))
    ∙ wire_then End _ (λ wire rest. on (event (host, wire)) rest) more) r)

event_then : {Y : Type 0} (v : Version) (f : Event × Rest → Result Y TextFault) → Onward End f → (k : Letter) (r : Rest)
    → failing (event_behind v k r >>= f) ≡ first_fault (event_form v k) r
unfolding call_field expired_fields
event_then {Y} v f on letters.B r =
    assoc (call_field v r) (λ call. Ok (events.CallBegin call.0, call.1)) f
    ∙ (assoc (kind_field call_name all_call_words r) (λ word. call_behind v word.0 word.1)
    (λ call. f (events.CallBegin call.0, call.1))
    ∙ choice_then call_name all_call_words (call_form v)
    (λ word. call_behind v word.0 word.1 >>= λ call. f (events.CallBegin call.0, call.1))
    (λ k rest. call_then v (λ call. f (events.CallBegin call.0, call.1))
    (λ x more. on (events.CallBegin x) more) k rest) r)
event_then {Y} v f on letters.E r =
    assoc (answer_field r) (λ answer. Ok (events.CallEnd answer.0, answer.1)) f
    ∙ answer_then (λ answer. f (events.CallEnd answer.0, answer.1)) (λ x rest. on (events.CallEnd x) rest) r
event_then {Y} v f on letters.O r = wires_then v (λ seen. events.Sent seen.0 seen.1) f on r
event_then {Y} v f on letters.I r = wires_then v (λ seen. events.Came seen.0 seen.1) f on r
event_then {Y} v f on letters.T r =
    assoc (host_field v r) _ f ∙ host_then v (port (port (then_form (named timer_name (timers_of v)) End))) _
    (λ host more. assoc (number_field 1 65535 more) _ f
    ∙ number_then 1 65535 (port (then_form (named timer_name (timers_of v)) End)) _
    (λ local next. assoc (number_field 1 65535 next) _ f
    ∙ number_then 1 65535 (then_form (named timer_name (timers_of v)) End) _
    (λ remote last. assoc (kind_field timer_name (timers_of v) last) _ f
    ∙ kind_then timer_name (timers_of v) End _
    (λ timer rest. on (events.Expired host local remote timer) rest) last) next) more) r

-- lines
fields_then : (v : Version) (before : ℕ) (r : Rest) → failing (event_fields v before r) ≡ first_fault (line_form v before) r
unfolding event_field
fields_then v before r =
    moment_then before (word32 (choice letter_name all_letters (event_form v))) _
    (λ moment more. number_then 0 4294967295 (choice letter_name all_letters (event_form v)) _
    (λ thread more. assoc (kind_field letter_name all_letters more) (λ letter. event_behind v letter.0 letter.1) _
    ∙ choice_then letter_name all_letters (event_form v) _
    (λ k rest. event_then v (λ event. no_more event.1 >>= λ end. Ok (moment, thread, event.0))
    (λ event rest. end_then (moment, thread, event) rest) k rest) more) more) r

pub line_faults : (v : Version) (place : Place) (raw : List ℕ) (e : TextFault) → (line_of v place raw ≡ Err e) ↔ IsLineFault v place raw e
unfolding line_of
line_faults v place raw e = faults_of (line_form v place.0) (event_fields v place.0) line (fields_then v place.0) place.1 raw e
  where
    line : Rest → ℕ × ℕ × Event → Line
    line r f = record { number = place.1; moment = f.0; thread = f.1; event = f.2; span = record { line = place.1; start = 0; stop = r.stop } }
