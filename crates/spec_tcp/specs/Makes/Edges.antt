-- The acknowledgment of a segment to build, and the windows in which its bytes end (RFC 9293, 3.8.6; RFC 5681, 3.1; RFC
-- 7323, 2.3).
use Rattle.std.specs.Prelude.{ℕ, ◌+◌, ◌-◌, ◌==◌, nat_le, nat_lt, Bool, not, ◌&&◌, if◌then◌else◌}
use Rattle.case_forms.specs.declared.steps.SegmentPlan.{SegmentPlan}
use Rattle.window_rules.specs.Windows.{offered_edge}
use Rattle.window_rules.specs.Control.{control_edge}
use Rattle.spec_tcp.specs.Endpoints.{Endpoint, rcv_nxt, is_scaling, window_in}
use Rattle.spec_tcp.specs.Makes.Payload.{has_new_bytes}

-- an acknowledgment before the peer's SYN was received, or none afterwards; a reset may do without (RFC 9293, 3.10.7.4)
abbrev pub is_bad_ack : Endpoint → SegmentPlan → Bool
is_bad_ack e m = if m.flags.ack then rcv_nxt e == 0 else not m.flags.rst && nat_le 1 (rcv_nxt e)

-- how far the text that was taken at this moment raised the next position expected. RFC 9293, 3.10.7.4, processes a
-- segment's acknowledgment (fifth) before its text (seventh), and segments are built on the way
abbrev pub raised_at : Endpoint → SegmentPlan → ℕ → ℕ
raised_at e m moment =
    if m.flags.ack && e.text.moment == moment && nat_lt 0 e.text.before then rcv_nxt e - e.text.before else 0

-- the window that it offers, in bytes
abbrev pub own_window : Endpoint → SegmentPlan → ℕ
own_window e m = window_in (is_scaling e) m.flags.syn e.shift m.window

-- new bytes end beyond the window that the peer offers (RFC 9293, 3.8.6)
abbrev pub is_beyond_offer : Endpoint → SegmentPlan → Bool
is_beyond_offer e m =
    has_new_bytes e m && nat_lt (offered_edge e.stream.snd_una e.window.snd_wnd e.probe_due) (m.pos + m.len)

-- new bytes end beyond the congestion window (RFC 5681, 3.1)
abbrev pub is_congesting : Endpoint → SegmentPlan → Bool
is_congesting e m = has_new_bytes e m && nat_lt (control_edge e.stream.snd_una e.control) (m.pos + m.len)
