-- Reading a call.
use Rattle.std.specs.Prelude.{ℕ, Result, Ok}
use Rattle.case_forms.specs.declared.calls.Call.{Call}
use Rattle.case_forms.specs.declared.calls.Call.TheVariants as calls
use Rattle.case_forms.specs.declared.version.Version.{Version}
use Rattle.line_fields.specs.declared.fault.TextFault.{TextFault}
use Rattle.line_fields.specs.Word.{Rest}
use Rattle.line_fields.specs.Reading.{◌>>=◌, number_field}
use Rattle.line_fields.specs.Hosts.{host_field}
use Rattle.line_fields.specs.HexFields.{hex_field}
use Rattle.line_fields.specs.Choice.{kind_field}
use Rattle.trace_reader.specs.declared.calls.CallWord.{CallWord}
use Rattle.trace_reader.specs.declared.calls.CallWord.TheVariants as words
use Rattle.trace_reader.specs.Calls.{call_name, all_call_words}

-- host, port and backlog
unfoldable pub listen_fields : Version → Rest → Result (Call × Rest) TextFault
listen_fields v r = do
  host ← host_field v r
  port ← number_field 1 65535 host.1
  backlog ← number_field 0 65535 port.1
  Ok (calls.Listen host.0 port.0 backlog.0, backlog.1)

-- host, local port and remote port
unfoldable pub open_fields : Version → Rest → Result (Call × Rest) TextFault
open_fields v r = do
  host ← host_field v r
  local ← number_field 1 65535 host.1
  remote ← number_field 1 65535 local.1
  Ok (calls.Connect host.0 local.0 remote.0, remote.1)

-- a socket number and the bytes to send
unfoldable pub send_fields : Rest → Result (Call × Rest) TextFault
send_fields r = do
  socket ← number_field 0 4294967295 r
  bytes ← hex_field 65535 socket.1
  Ok (calls.Send socket.0 bytes.0, bytes.1)

-- a socket number and the greatest count of bytes that are requested
unfoldable pub recv_fields : Rest → Result (Call × Rest) TextFault
recv_fields r = do
  socket ← number_field 0 4294967295 r
  max ← number_field 1 65535 socket.1
  Ok (calls.Recv socket.0 max.0, max.1)

-- only a socket number
abbrev pub socket_field : (ℕ → Call) → Rest → Result (Call × Rest) TextFault
socket_field call r = do
  socket ← number_field 0 4294967295 r
  Ok (call socket.0, socket.1)

-- what follows the first word
abbrev pub call_behind : Version → CallWord → Rest → Result (Call × Rest) TextFault
call_behind v words.Listen r = listen_fields v r
call_behind v words.Open r = open_fields v r
call_behind v words.Send r = send_fields r
call_behind v words.Recv r = recv_fields r
call_behind v words.Await r = socket_field calls.Await r
call_behind v words.Accept r = socket_field calls.Accept r
call_behind v words.Shut r = socket_field calls.Shut r
call_behind v words.Close r = socket_field calls.Close r
call_behind v words.Abort r = socket_field calls.Abort r
call_behind v words.Status r = socket_field calls.Status r

-- a call
unfoldable pub call_field : Version → Rest → Result (Call × Rest) TextFault
call_field v r = kind_field call_name all_call_words r >>= λ word. call_behind v word.0 word.1
