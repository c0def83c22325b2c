-- How many acknowledgments are sent: at most one for each segment that came, except to announce more window (RFC 5681,
-- 4.2).
use Rattle.std.specs.Prelude.{ℕ, suc, ◌-◌, ◌==◌, min, Bool, true, false, not, ◌&&◌, if◌then◌else◌}
use Rattle.case_forms.specs.declared.calls.State.{State}
use Rattle.case_forms.specs.declared.calls.State.TheVariants as states
use Rattle.case_forms.specs.declared.steps.SegmentPlan.{SegmentPlan}
use Rattle.spec_tcp.specs.Bounds.{most_steps}
use Rattle.spec_duties.specs.Views.{View}
use Rattle.spec_duties.specs.Events.{Event, Processes, Drops}

-- one more, up to the greatest number of steps of a case
abbrev pub one_more : ℕ → ℕ
one_more n = min (suc n) most_steps

-- a listener's child doesn't exist yet
abbrev pub is_listen : State → Bool
is_listen states.Listen = true
is_listen _ = false

-- a segment acknowledges and does nothing else: it is empty, has ACK alone, is at the next position to be sent, and
-- announces no more window than before
abbrev pub is_mere_ack : SegmentPlan → (before after : View) → Bool
is_mere_ack m before after =
    m.flags.ack && not m.flags.syn && not m.flags.fin && not m.flags.rst && m.len == 0 && m.pos == before.snd_max
    && after.rcv_adv == before.rcv_adv

-- a segment came to the endpoint
abbrev pub is_arrival : Event → View → Bool
is_arrival (Processes length rst) before = not (is_listen before.state)
is_arrival (Drops asks unlimited) before = true
is_arrival event before = false

-- the segments that came, less the mere acknowledgments that were sent; `counts`: one is sent now
abbrev pub answers_after : Event → (before : View) → (counts : Bool) → (answers : ℕ) → ℕ
answers_after event before counts answers =
    if counts then answers - 1 else if is_arrival event before then one_more answers else answers

-- more acknowledgments than segments
abbrev pub is_excess : (counts : Bool) → (answers : ℕ) → Bool
is_excess counts answers = counts && answers == 0
