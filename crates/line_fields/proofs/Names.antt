-- The names of states and of timers differ, and are clean.
use Rattle.std.proofs.Common.{◌≡◌, Bool, true, false, Some, List, [], ◌∷◌, refl}
use Rattle.std.specs.Prelude.{if◌then◌else◌, codes}
use Rattle.std.specs.List.{AllByRecursion}
use Rattle.case_forms.specs.declared.calls.State.{State}
use Rattle.case_forms.specs.declared.calls.State.TheVariants as states
use Rattle.case_forms.specs.declared.timer.Timer.{Timer}
use Rattle.case_forms.specs.declared.timer.Timer.TheVariants as timers
use Rattle.case_forms.specs.declared.version.Version.{Version}
use Rattle.case_forms.specs.Versions.{says_sender}
use Rattle.line_fields.specs.Choice.{kind_named}
use Rattle.line_fields.specs.Spelling.{IsClean}
use Rattle.line_fields.specs.States.{state_name, all_states}
use Rattle.line_fields.specs.Timers.{timer_name, timers_of, IsTimer}
use Rattle.line_fields.proofs.Choices.{AreNamed, AreNamedAmong}
use Rattle.line_fields.proofs.Clean.{clean_by}

pub states_named : AreNamed state_name all_states
states_named states.Closed = refl
states_named states.Listen = refl
states_named states.SynSent = refl
states_named states.SynReceived = refl
states_named states.Established = refl
states_named states.FinWait1 = refl
states_named states.FinWait2 = refl
states_named states.CloseWait = refl
states_named states.Closing = refl
states_named states.LastAck = refl
states_named states.TimeWait = refl

pub state_clean : (s : State) → IsClean (state_name s)
state_clean states.Closed = clean_by (codes "CLOSED") refl
state_clean states.Listen = clean_by (codes "LISTEN") refl
state_clean states.SynSent = clean_by (codes "SYN-SENT") refl
state_clean states.SynReceived = clean_by (codes "SYN-RECEIVED") refl
state_clean states.Established = clean_by (codes "ESTABLISHED") refl
state_clean states.FinWait1 = clean_by (codes "FIN-WAIT-1") refl
state_clean states.FinWait2 = clean_by (codes "FIN-WAIT-2") refl
state_clean states.CloseWait = clean_by (codes "CLOSE-WAIT") refl
state_clean states.Closing = clean_by (codes "CLOSING") refl
state_clean states.LastAck = clean_by (codes "LAST-ACK") refl
state_clean states.TimeWait = clean_by (codes "TIME-WAIT") refl

abbrev with_newer : Bool → List Timer
with_newer six = timers.Rto ∷ timers.Persist ∷ timers.Msl2 ∷ timers.Giveup ∷ (if six then timers.Pto ∷ [] else [])

pto_named : (six : Bool) → six ≡ true → kind_named timer_name (with_newer six) (timer_name timers.Pto) ≡ Some timers.Pto
pto_named true is = refl
pto_named false is = absurd cc

timer_named : (v : Version) (t : Timer) → IsTimer v t → kind_named timer_name (timers_of v) (timer_name t) ≡ Some t
timer_named v timers.Rto is = refl
timer_named v timers.Persist is = refl
timer_named v timers.Msl2 is = refl
timer_named v timers.Giveup is = refl
timer_named v timers.Pto is = pto_named (says_sender v) is

pub timers_named : (v : Version) → AreNamedAmong timer_name (timers_of v) (IsTimer v)
timers_named v = record { named = timer_named v; only = (tt, (tt, (tt, (tt, newer (says_sender v) refl)))) }
  where
    newer : (six : Bool) → says_sender v ≡ six → AllByRecursion (IsTimer v) (if six then timers.Pto ∷ [] else [])
    newer true is = (is, tt)
    newer false is = tt

pub timer_clean : (t : Timer) → IsClean (timer_name t)
timer_clean timers.Rto = clean_by (codes "rto") refl
timer_clean timers.Persist = clean_by (codes "persist") refl
timer_clean timers.Msl2 = clean_by (codes "2msl") refl
timer_clean timers.Giveup = clean_by (codes "giveup") refl
timer_clean timers.Pto = clean_by (codes "pto") refl
