-- Tests of the states of an endpoint (RFC 9293, 3.3.2).
use Rattle.std.specs.Prelude.{Bool, true, false}
use Rattle.case_forms.specs.declared.calls.State.{State}
use Rattle.case_forms.specs.declared.calls.State.TheVariants as states

abbrev pub is_closed : State → Bool
is_closed states.Closed = true
is_closed _ = false

abbrev pub is_syn_sent : State → Bool
is_syn_sent states.SynSent = true
is_syn_sent _ = false

abbrev pub is_syn_received : State → Bool
is_syn_received states.SynReceived = true
is_syn_received _ = false

abbrev pub is_fin_wait_2 : State → Bool
is_fin_wait_2 states.FinWait2 = true
is_fin_wait_2 _ = false

abbrev pub is_time_wait : State → Bool
is_time_wait states.TimeWait = true
is_time_wait _ = false
