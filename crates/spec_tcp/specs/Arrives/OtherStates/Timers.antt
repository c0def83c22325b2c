-- The timers after a segment is processed (RFC 6298, 2, 3 and 5; RFC 9293, 3.6.1).
use Rattle.std.specs.Prelude.{ℕ, ◌-◌, ◌==◌, Bool, ◌&&◌, if◌then◌else◌, unwrap_or}
use Rattle.case_forms.specs.States.{is_time_wait}
use Rattle.case_forms.specs.declared.calls.State.{State}
use Rattle.case_forms.specs.declared.calls.State.TheVariants as states
use Rattle.case_forms.specs.declared.steps.TakeChoice.{TakeChoice}
use Rattle.case_forms.specs.declared.timer.Timer.TheVariants.{Msl2, Rto}
use Rattle.case_forms.specs.declared.trace.Header.{Header}
use Rattle.streams.specs.Transmissions.{made_moment}
use Rattle.timer_rules.specs.Timers.{all_stopped, armed, raised_for_lost_syn, sampled, stopped}
use Rattle.timer_rules.specs.declared.timers.Timers.{Timers}
use Rattle.spec_tcp.specs.Endpoints.{Endpoint, Emission, snd_max}
use Rattle.spec_tcp.specs.Arrives.OtherStates.Ack.{is_new_ack, acknowledges_syn, snd_una_after_segment}
use Rattle.spec_tcp.specs.Arrives.OtherStates.Window.{takes_window, persist_after_window}
use Rattle.spec_tcp.specs.Arrives.OtherStates.Text.{state_after_segment}

-- how long ago a position was first built
abbrev pub since_made : Endpoint → ℕ → ℕ → ℕ
since_made e pos moment = moment - unwrap_or (made_moment e.transmissions pos) moment

-- the timeout after a new acknowledgment up to this position, with a sample if one is measured, and longer if the SYN
-- was lost (RFC 6298, 2, 3 and 5.7)
abbrev pub timeout_after_ack : Header → Endpoint → Bool → ℕ → Bool → ℕ → Timers
timeout_after_ack h e sample ack syn moment =
    let measured : Timers = (if sample then sampled e.timers (since_made e (ack - 1) moment) h else e.timers) in
    if syn && e.syn_lost then raised_for_lost_syn measured else measured

-- the retransmission timer stops if all is acknowledged, and restarts at a new acknowledgment (RFC 6298, 5.2 and 5.3)
abbrev pub rto_after_ack : Timers → (all_acked new : Bool) → ℕ → Timers
rto_after_ack t all_acked new moment = if all_acked then stopped t Rto else if new then armed t Rto moment else t

-- the wait in TIME-WAIT begins on entering it; CLOSED turns all timers off (RFC 9293, 3.6.1)
abbrev pub state_timers : Timers → State → State → ℕ → Timers
state_timers t old states.Closed moment = all_stopped t
state_timers t old states.TimeWait moment = if is_time_wait old then t else armed t Msl2 moment
state_timers t old new moment = t

abbrev pub timers_after_segment : Header → Endpoint → TakeChoice → Emission → ℕ → Timers
timers_after_segment h e how m moment =
    let measured : Timers = timeout_after_ack h e (how.sample && is_new_ack e m) m.ack (acknowledges_syn e m) moment in
    let running : Timers = rto_after_ack measured (snd_una_after_segment e m == snd_max e) (is_new_ack e m) moment in
    let persisting : Timers = (if takes_window e m then persist_after_window running m.window moment else running) in
    state_timers persisting e.state (state_after_segment e how m) moment
