-- A line with the extra numbers of a step, as the model uses it.
use Rattle.std.specs.Prelude.{ℕ, Option, None, Some}
use Rattle.std.specs.Option.{option_map}
use Rattle.case_forms.specs.declared.named_line.Extras.{Extras}
use Rattle.case_forms.specs.declared.named_line.Extras.TheVariants.{Bare, One, Two}
use Rattle.case_forms.specs.declared.taken_line.Expired.{Expired}
use Rattle.case_forms.specs.declared.taken_line.Expired.TheVariants as expired
use Rattle.case_forms.specs.declared.taken_line.TakenLine.{TakenLine}
use Rattle.case_forms.specs.declared.taken_line.TakenLine.TheVariants as taken
use Rattle.case_forms.specs.declared.timer.Timer.{Timer}
use Rattle.case_forms.specs.declared.timer.Timer.TheVariants.{Rto, Persist, Msl2, Giveup, Pto}
use Rattle.case_forms.specs.declared.trace.Event.{Event}
use Rattle.case_forms.specs.declared.trace.Event.TheVariants.{CallBegin, CallEnd, Sent, Came, Expired as TimerExpired}
use Rattle.case_forms.specs.declared.trace.Line.{Line}

-- a retransmission timer's line has the congestion window and the slow start threshold, another's nothing
abbrev pub expired_by : Timer → Extras → Option Expired
expired_by Rto (Two cwnd ssthresh) = Some (expired.Rto (record { cwnd = cwnd; ssthresh = ssthresh }))
expired_by Persist Bare = Some expired.Persist
expired_by Msl2 Bare = Some expired.Msl2
expired_by Giveup Bare = Some expired.Giveup
expired_by Pto Bare = Some expired.Pto
expired_by timer extras = None

-- the timer that expired
abbrev pub timer_of : Expired → Timer
timer_of (expired.Rto growth) = Rto
timer_of expired.Persist = Persist
timer_of expired.Msl2 = Msl2
timer_of expired.Giveup = Giveup
timer_of expired.Pto = Pto

-- a segment's line has the number that it was built under, or the line that it copies; a call's has none, nor has the
-- line of a segment from a host that is not recorded
abbrev pub event_taken : (line thread : ℕ) → Event → Extras → Option TakenLine
event_taken line thread (CallBegin call) Bare = Some (taken.CallBegin line thread call)
event_taken line thread (CallEnd answer) Bare = Some (taken.CallEnd line thread answer)
event_taken line thread (Sent host wire) (One made) = Some (taken.Sent line host made wire)
event_taken line thread (Came host wire) (One copied) = Some (taken.Came line host copied wire)
event_taken line thread (Came host wire) Bare = Some (taken.Heard line host wire)
event_taken line thread (TimerExpired host lport rport timer) extras =
    option_map (λ e. taken.Expired line host (record { lport = lport; rport = rport }) e) (expired_by timer extras)
event_taken line thread event extras = None

-- none if a line of its kind needs another count of numbers
abbrev pub taken_of : Extras → Line → Option TakenLine
taken_of extras line = event_taken line.number line.thread line.event extras
