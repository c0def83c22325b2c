-- Eighth, the FIN bit (RFC 9293, 3.10.7.4).
use Rattle.std.specs.Prelude.{ℕ, ◌+◌, nat_le, Bool, true, ◌&&◌, length}
use Rattle.case_forms.specs.declared.calls.State.{State}
use Rattle.case_forms.specs.declared.calls.State.TheVariants as states
use Rattle.case_forms.specs.declared.steps.TakeChoice.{TakeChoice}
use Rattle.spec_tcp.specs.Endpoints.{Endpoint, Emission, rcv_nxt, flag_count}

-- the position of a segment's first byte, and the one after its last, where its FIN is
abbrev pub first_byte : Emission → ℕ
first_byte m = m.pos + flag_count m.flags.syn

abbrev pub fin_place : Emission → ℕ
fin_place m = first_byte m + length m.payload

-- a FIN is kept up to the edge
abbrev pub keeps_fin : Endpoint → TakeChoice → Emission → Bool
keeps_fin e how m = how.keep && m.flags.fin && nat_le (rcv_nxt e) (fin_place m) && nat_le (fin_place m) e.window.rcv_adv

-- the state once everything up to the peer's FIN was received (RFC 9293, 3.10.7.4, eighth)
abbrev pub finished : State → Bool → State
finished states.Established true = states.CloseWait
finished states.FinWait1 true = states.Closing
finished states.FinWait2 true = states.TimeWait
finished state passed = state
