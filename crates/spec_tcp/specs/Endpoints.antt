-- New endpoints, and the derived values of an endpoint: its positions, its windows, what is in flight (RFC 9293, 3.3.1;
-- RFC 7323, 2).
pub use Rattle.spec_tcp.specs.declared.endpoint.EndpointId.{EndpointId}
pub use Rattle.spec_tcp.specs.declared.endpoint.Stream.{Stream}
pub use Rattle.spec_tcp.specs.declared.endpoint.Windows.{Windows}
pub use Rattle.spec_tcp.specs.declared.endpoint.TextTaken.{TextTaken}
pub use Rattle.spec_tcp.specs.declared.endpoint.Fault.{Fault}
pub use Rattle.spec_tcp.specs.declared.endpoint.Fault.TheVariants.{Refused, Reset, Timeout}
pub use Rattle.spec_tcp.specs.declared.endpoint.Endpoint.{Endpoint}
pub use Rattle.spec_tcp.specs.declared.endpoint.Emission.{Emission}
pub use Rattle.spec_tcp.specs.declared.endpoint.Listener.{Listener}
pub use Rattle.spec_tcp.specs.declared.endpoint.SocketTarget.{SocketTarget}
pub use Rattle.spec_tcp.specs.declared.endpoint.SocketTarget.TheVariants.{ListenerAt, EndpointAt}
pub use Rattle.spec_tcp.specs.declared.endpoint.Socket.{Socket}
use Rattle.std.specs.Prelude.{ℕ, ◌+◌, ◌-◌, nat_le, Bool, true, false, not, ◌&&◌, if◌then◌else◌, [], length, Option}
use Rattle.std.specs.Prelude.{None, is_some}
use Rattle.std.specs.Option.{option_map_or}
use Rattle.case_forms.specs.declared.calls.State.{State}
use Rattle.streams.specs.Received as received
use Rattle.window_rules.specs.Windows as windows
use Rattle.window_rules.specs.Control.{began}
use Rattle.window_rules.specs.declared.control.Profile.{Profile}
use Rattle.timer_rules.specs.Timers as timers

-- a new endpoint, with the listener that created it, and the profile of its congestion control (RFC 9293, 3.10.1)
abbrev pub new_endpoint : (lport rport : ℕ) → Option ℕ → State → Profile → Endpoint
new_endpoint lport rport listener state profile = record {
  lport = lport;
  rport = rport;
  listener = listener;
  iss = None;
  irs = None;
  shift = None;
  peer_shift = None;
  state = state;
  fault = None;
  reset_due = false;
  closed = false;
  stream = record { peer = None; accepted = []; ended = false; receive = received.empty; snd_una = 0 };
  transmissions = [];
  window = record { snd_wnd = 0; snd_wl1 = 0; snd_wl2 = 0; rcv_adv = 0 };
  text = record { moment = 0; before = 0 };
  control = began profile;
  recover = 0;
  probe_due = false;
  timers = timers.start;
  unanswered_expiries = 0;
  backoffs = 0;
  syn_lost = false;
}

-- the position after all that was sent (RFC 9293, 3.3.1: SND.NXT at its greatest)
abbrev pub snd_max : Endpoint → ℕ
snd_max e = length e.transmissions

-- the next position expected from the peer (RFC 9293, 3.3.1: RCV.NXT)
abbrev pub rcv_nxt : Endpoint → ℕ
rcv_nxt e = received.next e.stream.receive

-- the receive window: from the next position to the edge (RFC 9293, 3.3.1: RCV.WND)
abbrev pub receive_window : Endpoint → ℕ
receive_window e = e.window.rcv_adv - rcv_nxt e

-- what is outstanding: sent and not acknowledged (RFC 5681, 2: FlightSize)
abbrev pub flight : Endpoint → ℕ
flight e = snd_max e - e.stream.snd_una

-- the own SYN was acknowledged and the peer's SYN received
abbrev pub is_up : Endpoint → Bool
is_up e = nat_le 1 e.stream.snd_una && nat_le 1 (rcv_nxt e)

-- the positions that a segment occupies: its bytes, its SYN and its FIN (RFC 9293, 3.3.1: SEG.LEN)
abbrev pub flag_count : Bool → ℕ
flag_count true = 1
flag_count false = 0

abbrev pub segment_length : Emission → ℕ
segment_length m = length m.payload + flag_count m.flags.syn + flag_count m.flags.fin

-- scaling is in force: it gave a shift, and the SYN that it received carried one (RFC 7323, 2.2)
abbrev pub is_scaling : Endpoint → Bool
is_scaling e = is_some e.shift && is_some e.peer_shift

-- a window in bytes: shifted if scaling is in force, except for the window of a SYN (RFC 7323, 2.2 and 2.3)
abbrev pub window_in : (scaling syn : Bool) → Option ℕ → ℕ → ℕ
window_in scaling syn shift window =
    if scaling && not syn then option_map_or (windows.scaled_window window) shift window else window

-- the window that a segment offers to this endpoint, in bytes
abbrev pub peer_window : Endpoint → Emission → ℕ
peer_window e m = window_in (is_scaling e) m.flags.syn e.peer_shift m.window
