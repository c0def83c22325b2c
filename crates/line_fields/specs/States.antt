-- The states of an endpoint (RFC 9293, 3.3.2), by name.
use Rattle.std.specs.Prelude.{ℕ, List, [], ◌∷◌, codes}
use Rattle.case_forms.specs.declared.calls.State.{State}
use Rattle.case_forms.specs.declared.calls.State.TheVariants as states

-- the name of a state
abbrev pub state_name : State → List ℕ
state_name states.Closed = codes "CLOSED"
state_name states.Listen = codes "LISTEN"
state_name states.SynSent = codes "SYN-SENT"
state_name states.SynReceived = codes "SYN-RECEIVED"
state_name states.Established = codes "ESTABLISHED"
state_name states.FinWait1 = codes "FIN-WAIT-1"
state_name states.FinWait2 = codes "FIN-WAIT-2"
state_name states.CloseWait = codes "CLOSE-WAIT"
state_name states.Closing = codes "CLOSING"
state_name states.LastAck = codes "LAST-ACK"
state_name states.TimeWait = codes "TIME-WAIT"

-- all states
abbrev pub all_states : List State
all_states =
    states.Closed ∷ states.Listen ∷ states.SynSent ∷ states.SynReceived ∷ states.Established ∷ states.FinWait1
    ∷ states.FinWait2
    ∷ states.CloseWait ∷ states.Closing ∷ states.LastAck ∷ states.TimeWait ∷ []
