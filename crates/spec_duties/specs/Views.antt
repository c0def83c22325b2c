-- What duties read of an endpoint.
use Rattle.std.specs.Prelude.{nat_le, Bool, false, ◌&&◌, None, is_some}
use Rattle.case_forms.specs.declared.calls.State.TheVariants as states
use Rattle.streams.specs.Sent.{end_of}
use Rattle.window_rules.specs.Control.{control_edge}
use Rattle.timer_rules.specs.Timers as timers
use Rattle.spec_tcp.specs.Endpoints.{snd_max, rcv_nxt}
use Rattle.spec_tcp.specs.declared.endpoint.Endpoint.{Endpoint}
pub use Rattle.spec_duties.specs.declared.views.View.{View}

abbrev pub view_of : Endpoint → View
view_of e = record {
  state = e.state;
  closed = e.closed;
  resets = e.reset_due && is_some e.iss;
  listener = e.listener;
  snd_una = e.stream.snd_una;
  snd_max = snd_max e;
  snd_wnd = e.window.snd_wnd;
  end = end_of e.stream.accepted;
  ended = e.stream.ended;
  rcv_nxt = rcv_nxt e;
  rcv_adv = e.window.rcv_adv;
  congestion_edge = control_edge e.stream.snd_una e.control;
  smss = e.control.values.smss;
  dup = e.control.values.dup;
  fast = e.control.values.fast;
  timers = e.timers;
  backoffs = e.backoffs;
}

-- before `open` or a listener creates it
abbrev pub unborn : View
unborn = record {
  state = states.Listen;
  closed = false;
  resets = false;
  listener = None;
  snd_una = 0;
  snd_max = 0;
  snd_wnd = 0;
  end = 0;
  ended = false;
  rcv_nxt = 0;
  rcv_adv = 0;
  congestion_edge = 0;
  smss = 0;
  dup = 0;
  fast = false;
  timers = timers.start;
  backoffs = 0;
}

-- the own SYN was acknowledged and the peer's SYN received
abbrev pub is_up : View → Bool
is_up v = nat_le 1 v.snd_una && nat_le 1 v.rcv_nxt
