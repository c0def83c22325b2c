-- How often data is sent again: each position once for each expiry (RFC 6298, 5.4 and 5.5; RFC 5681, 3.2), and never
-- beyond the congestion window (RFC 5681, 3.1). From version 6 on, this isn't judged as a duty.
use Rattle.std.specs.Prelude.{ℕ, ◌+◌, nat_le, nat_lt, min, max, Bool, true, false, not, ◌&&◌, if◌then◌else◌, is_some}
use Rattle.case_forms.specs.declared.timer.RecoveryChange.TheVariants.{Begins}
use Rattle.case_forms.specs.declared.steps.SegmentPlan.{SegmentPlan}
use Rattle.case_forms.specs.declared.timer.Timer.TheVariants.{Rto, Persist}
use Rattle.case_forms.specs.declared.version.Judged.{Judged}
use Rattle.case_forms.specs.declared.version.Judged.TheVariants as judged
use Rattle.spec_tcp.specs.Makes.Payload.{making_length}
use Rattle.spec_duties.specs.Views.{View}
use Rattle.spec_duties.specs.Events.{Event, Processes, Builds, Expires, Recovers}

-- an endpoint builds positions that were built before; a SYN with ACK or a reset may be repeated at any time
abbrev pub is_repeating : View → SegmentPlan → Bool
is_repeating v m =
    nat_lt m.pos v.snd_max && nat_lt 0 (making_length m) && not (m.flags.syn && m.flags.ack) && not m.flags.rst

-- the position after the last of these
abbrev pub repeated_end : View → SegmentPlan → ℕ
repeated_end v m = min (m.pos + making_length m) v.snd_max

-- outstanding data may be sent again from the beginning: a timer expires, fast recovery begins, or a segment opens a
-- window that was probed
abbrev pub begins_again : Event → (before after : View) → Bool
begins_again (Expires Rto) before after = true
begins_again (Expires Persist) before after = true
begins_again (Recovers Begins) before after = true
begins_again (Processes length rst) before after = is_some before.timers.persist_armed && nat_lt 0 after.snd_wnd
begins_again event before after = false

-- the position that a step passes in sending again
abbrev pub passed_by : Event → View → (again : ℕ) → ℕ
passed_by (Builds m) before again = if is_repeating before m then max again (repeated_end before m) else again
passed_by event before again = again

-- the position below which nothing may be sent again
abbrev pub again_after : Event → (before after : View) → (again : ℕ) → ℕ
again_after event before after again =
    if begins_again event before after then before.snd_una else passed_by event before again

-- the choice of when to retransmit is judged
abbrev pub judges_repeats : Judged → Bool
judges_repeats judged.Full = true
judges_repeats judged.Recovery = true
judges_repeats judged.NoControl = false

-- a position was sent again already
abbrev pub is_resent : Judged → Event → View → (again : ℕ) → Bool
is_resent j (Builds m) before again = judges_repeats j && is_repeating before m && nat_lt m.pos again
is_resent j event before again = false

-- the congestion window is judged
abbrev pub judges_windows : Judged → Bool
judges_windows judged.Full = true
judges_windows judged.Recovery = false
judges_windows judged.NoControl = false

-- bytes that were all sent before end beyond the congestion window
abbrev pub is_resent_beyond : Judged → Event → View → Bool
is_resent_beyond j (Builds m) before =
    judges_windows j && nat_lt 0 m.len && nat_le (m.pos + m.len) before.snd_max
    && nat_lt before.congestion_edge (m.pos + m.len)
is_resent_beyond j event before = false
