-- The duties that version 6 changes. An acknowledgment that answers is built after what it answers; what is built is
-- sent; a probe probes. And clocks may be coarse: a timer may run longer by what its clock can be wrong.
use Rattle.std.specs.Prelude.{ℕ, ◌+◌, ◌*◌, ◌^◌, ◌==◌, nat_le, nat_lt, min, max, Bool, false, not, ◌&&◌, ◌||◌}
use Rattle.std.specs.Prelude.{if◌then◌else◌, List, [], ◌∷◌, Option, None, Some, is_some, slice_index_or, take}
use Rattle.std.specs.Option.{option_map, option_map_or, option_or}
use Rattle.case_forms.specs.States.{is_closed, is_time_wait}
use Rattle.case_forms.specs.declared.calls.State.{State}
use Rattle.case_forms.specs.declared.steps.SegmentPlan.{SegmentPlan}
use Rattle.timer_rules.specs.Timeouts.{longest_rto}
use Rattle.spec_tcp.specs.Makes.Payload.{making_length}
use Rattle.spec_duties.specs.Acknowledge.{acknowledge_due, answered_lately, asks_ack}
use Rattle.spec_duties.specs.Credits.{kept_alive_after}
use Rattle.spec_duties.specs.Deadlines.{is_late}
use Rattle.spec_duties.specs.Events.{Event, Builds, Drops, Sends, holds, acknowledges_more}
use Rattle.spec_duties.specs.Expire.{has_expiry_due}
use Rattle.spec_duties.specs.Owed.{Lates, Owed, lates_of}
use Rattle.spec_duties.specs.Probe.{Probing, is_probing_segment}
use Rattle.spec_duties.specs.Retransmit.{is_probe_timeout, is_timeout}
use Rattle.spec_duties.specs.Sampling.{Sampling, timed_after}
use Rattle.spec_duties.specs.Views.{View}
pub use Rattle.spec_duties.specs.declared.strict.StrictOwed.{StrictOwed}
pub use Rattle.spec_duties.specs.declared.strict.Unsent.{Unsent}

-- before any step touches an endpoint
abbrev pub nothing_strict : StrictOwed
nothing_strict = record {
  acknowledge = None;
  retransmit = None;
  probe = None;
  restarted = 0;
  timed = 0;
  widest = 0;
  answered = None ∷ None ∷ None ∷ None ∷ None ∷ None ∷ None ∷ None ∷ None ∷ None ∷ [];
  kept_alive = None;
}

-- ---- acknowledge: a segment with ACK or a reset that is built takes over what is owed (RFC 9293, 3.8.6.3)
abbrev pub builds_answer : Event → Bool
builds_answer (Builds m) = m.flags.ack || m.flags.rst
builds_answer event = false

-- the time in which stacks may limit themselves to ten answers, in microseconds (RFC 5961, 7)
abbrev pub rate_period : ℕ
rate_period = 5000000

-- the endpoint sent ten segments with ACK in that time; `answered`: when it sent the last ten
abbrev pub answered_often : (moment : ℕ) → (answered : List (Option ℕ)) → Bool
answered_often moment answered =
    option_map_or (λ m. nat_le moment (m + rate_period)) (slice_index_or answered 9 None) false

abbrev pub answered_after : Event → (moment : ℕ) → List (Option ℕ) → List (Option ℕ)
answered_after (Sends s) moment answered = if s.flags.ack then Some moment ∷ take 9 answered else answered
answered_after event moment answered = answered

-- the duty arises, if the rate of answers isn't reached
abbrev pub asks_strictly : Event → State → (moment : ℕ) → (acknowledged : Option ℕ) → (answered : List (Option ℕ))
    → Bool
asks_strictly (Drops asks unlimited) state moment acknowledged answered =
    asks && (unlimited || not (answered_lately moment acknowledged || answered_often moment answered))
asks_strictly event state moment acknowledged answered = asks_ack event state moment acknowledged

-- since when it is owed by the endpoint; if it is owed already, the earlier moment stays
abbrev pub unbuilt_answer_after : Event → (before : View) → (moment : ℕ) → (acknowledged : Option ℕ)
    → (answered : List (Option ℕ)) → (since : Option ℕ) → Option ℕ
unbuilt_answer_after event before moment acknowledged answered since =
    if builds_answer event then None
    else if asks_strictly event before.state moment acknowledged answered then option_or since (Some moment)
    else since

-- since when it is owed by a segment that is built now
abbrev pub taken_over : Event → (since : Option ℕ) → Option ℕ
taken_over event since = if builds_answer event then since else None

-- since when the acknowledgment is owed that a segment brings which is sent
abbrev pub brought_by : Option Unsent → Option ℕ
brought_by sent = option_map_or (λ u. u.acknowledge) sent None

-- its line shows the acknowledgment number from before the text that it was to acknowledge
abbrev pub is_sent_before_text : Event → Bool
is_sent_before_text (Sends s) = s.before_text
is_sent_before_text event = false

-- the earlier of two moments
abbrev pub earlier_of : (a b : Option ℕ) → Option ℕ
earlier_of None b = b
earlier_of (Some moment) b = Some (option_map_or (min moment) b moment)

-- then the endpoint owes again what that segment took over
abbrev pub given_back : Event → (brought since : Option ℕ) → Option ℕ
given_back event brought since = if is_sent_before_text event then earlier_of brought since else since

-- a reset that is built in TIME-WAIT need not be sent: a SYN may reopen the connection (RFC 9293, 3.10.7.4)
abbrev pub is_spared : Event → (before : View) → Bool
is_spared (Builds m) before = m.flags.rst && is_time_wait before.state
is_spared event before = false

-- ---- expire: the timer's time begins anew when the oldest unacknowledged position is built again, as some stacks
-- restart it at a fast retransmission

-- a FIN without bytes that was sent before; it may be repeated at any time (RFC 9293, 3.10.4)
abbrev pub is_fin_alone : SegmentPlan → View → Bool
is_fin_alone m v = m.flags.fin && m.len == 0 && nat_lt m.pos v.snd_max

abbrev pub rebuilds_oldest : Event → View → Bool
rebuilds_oldest (Builds m) v =
    nat_lt v.snd_una v.snd_max && nat_le m.pos v.snd_una && nat_lt v.snd_una (m.pos + making_length m)
    && not (is_fin_alone m v)
rebuilds_oldest event v = false

-- the offered window opens
abbrev pub opens : (before after : View) → Bool
opens before after = before.snd_wnd == 0 && nat_lt 0 after.snd_wnd

abbrev pub restarted_after : Event → (before after : View) → (moment restarted : ℕ) → ℕ
restarted_after event before after moment restarted =
    if rebuilds_oldest event before || opens before after then moment else restarted

-- by how much a timeout is too long at most if a clock ticks every `grain` microseconds: a round trip is measured up to
-- a tick too long, so SRTT and RTTVAR are up to a tick more, and SRTT + 4 RTTVAR up to five (RFC 6298, 2)
abbrev pub clock_error : (grain : ℕ) → ℕ
clock_error grain = 5 * grain

-- it is doubled as often as the timeout was; from 26 times on, each error but 0 reaches the upper limit of timeouts
abbrev pub doubled_error : (grain backoffs : ℕ) → ℕ
doubled_error grain backoffs = clock_error grain * 2 ^ min backoffs 26

-- how long the timer may run: before the first sample more than a second is permitted (RFC 6298, 2.1)
abbrev pub longest_coarse_run : (grain : ℕ) → View → ℕ
longest_coarse_run grain v =
    if is_some v.timers.srtt then min (v.timers.rto + doubled_error grain v.backoffs) longest_rto
    else 3 * v.timers.rto

abbrev pub coarse_expiry_due : (grain : ℕ) → View → (restarted : ℕ) → Option ℕ
coarse_expiry_due grain v restarted =
    if has_expiry_due v
    then option_map (λ since. max since restarted + longest_coarse_run grain v) v.timers.rto_armed
    else None

-- ---- probe: the time between probes may be longer by the same error, doubled with it

abbrev pub next_coarse_probe_due : (grain rto : ℕ) → Probing → Option ℕ
next_coarse_probe_due grain rto p =
    if nat_lt (rto * p.factor) longest_rto then Some (p.since + (rto + clock_error grain) * p.factor) else None

abbrev pub coarse_probing_due : (grain : ℕ) → View → Option Probing → Option ℕ
coarse_probing_due grain v probing = option_map_or (next_coarse_probe_due grain v.timers.rto) probing None

-- ---- retransmit: an empty segment at the next position to be sent is no probe

-- the segment that is owed is sent; into a closed window, a probe will do
abbrev pub sends_oldest_or_probe : Event → View → Bool
sends_oldest_or_probe (Sends s) v = holds s v.snd_una || v.snd_wnd == 0 && is_probing_segment s v
sends_oldest_or_probe event v = false

abbrev pub strict_retransmit_after : Event → (before after : View) → (moment : ℕ) → (since : Option ℕ) → Option ℕ
strict_retransmit_after event before after moment since =
    if is_timeout event then option_or since (Some moment)
    else if sends_oldest_or_probe event before || acknowledges_more before after then None
    else since

-- after an expiry of the persist timer, a probe is sent, unless the window opens
abbrev pub sends_probe : Event → View → Bool
sends_probe (Sends s) v = is_probing_segment s v
sends_probe event v = false

abbrev pub strict_probe_after : Event → (before after : View) → (moment : ℕ) → (since : Option ℕ) → Option ℕ
strict_probe_after event before after moment since =
    if is_probe_timeout event then option_or since (Some moment)
    else if sends_probe event before || acknowledges_more before after || opens before after then None
    else since

-- ---- all of them

-- it is a keep-alive
abbrev pub sends_keep_alive : Option Unsent → Bool
sends_keep_alive sent = option_map_or (λ u. u.keeps_alive) sent false

-- what is owed after a step at an endpoint; `acknowledged`: when it last sent a segment with ACK; `sent`: the segment
-- that it sends
abbrev pub strict_after : Sampling → Event → (before after : View) → (moment : ℕ) → (acknowledged : Option ℕ)
    → (sent : Option Unsent) → StrictOwed → StrictOwed
strict_after s event before after moment acknowledged sent o = record {
  acknowledge =
      given_back event (brought_by sent)
      (unbuilt_answer_after event before moment acknowledged o.answered o.acknowledge);
  retransmit = strict_retransmit_after event before after moment o.retransmit;
  probe = strict_probe_after event before after moment o.probe;
  restarted = restarted_after event before after moment o.restarted;
  timed = timed_after s event before after o.timed;
  widest = max o.widest after.snd_wnd;
  answered = answered_after event moment o.answered;
  kept_alive = kept_alive_after (sends_keep_alive sent) moment o.kept_alive;
}

-- which of it is late; a CLOSED endpoint owes no more than a reset
abbrev pub strict_lates : (grain slack moment : ℕ) → View → (listener_closed : Option ℕ) → Owed → StrictOwed → Lates
strict_lates grain slack moment v listener_closed o s =
    if is_closed v.state then lates_of slack moment v listener_closed o
    else record (lates_of slack moment v listener_closed o) {
      acknowledge = is_late slack moment (acknowledge_due s.acknowledge);
      expire = is_late slack moment (coarse_expiry_due grain v s.restarted);
      retransmit = is_late slack moment s.retransmit || is_late slack moment s.probe;
      probe = is_late slack moment (coarse_probing_due grain v o.probing);
    }

-- an acknowledgment is late, too, if the segment that brings it is sent too late
abbrev pub with_brought : (late : Bool) → Lates → Lates
with_brought late l = record l { acknowledge = late || l.acknowledge }
