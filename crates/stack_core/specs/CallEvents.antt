-- What the events of a call add.
use Rattle.std.specs.Prelude.{◌≡◌, ◌⊎◌, ℕ, false}
use Rattle.case_forms.specs.declared.calls.Answer.{Answer}
use Rattle.case_forms.specs.declared.calls.Call.{Call}
use Rattle.spec_network.specs.Hosts.{Begin, Called, Effect, Finish, turn_of}
use Rattle.spec_network.specs.HostRules.{Permitted}
use Rattle.spec_tcp.specs.Forgetting.{forget_body}
use Rattle.spec_tcp.specs.Machine.{tcp}
use Rattle.stack_core.specs.declared.answered.Answered.{Answered}
use Rattle.stack_core.specs.declared.tick.Tick.{Tick}
use Rattle.stack_core.specs.Answers.{Waits, is_again}
use Rattle.stack_core.specs.Cores.{Core, line_to_come, event_begun, own_body, with_step, world}

-- a call began: its line
abbrev pub begun : Core → Tick → ℕ → Call → Core
begun c tick thread call = with_step (event_begun c tick) (Begin (line_to_come c) thread call)

-- a thread's call may have this effect, at any moment
abbrev pub MayAnswer : Core → ℕ → Answer → Type 0
MayAnswer c thread answer = (moment : ℕ) → Permitted (tcp c.recorded.header) moment (world c) (Effect thread answer)

-- a call had its effect
abbrev pub effected : Core → Tick → ℕ → Answer → Core
effected c tick thread answer = with_step (event_begun c tick) (Effect thread answer)

-- and ended with that answer: its line
abbrev pub answered : Core → Tick → ℕ → Answer → Core
answered c tick thread answer = with_step (effected c tick thread answer) (Finish (line_to_come c) thread answer)

-- an event ended a call, with this answer
abbrev pub IsAttempted : Core → Tick → ℕ → Answered → Core → Type 0
IsAttempted c tick thread a d = (a.thread ≡ thread) × (d ≡ answered c tick thread a.answer)

-- what may be left if memory ran out: the tick has passed, and perhaps an effect, which isn't `again`
abbrev pub IsAttemptShort : Core → Tick → ℕ → Core → Type 0
IsAttemptShort c tick thread d =
    (d ≡ event_begun c tick) ⊎ ((answer : Answer) × (is_again answer ≡ false) × (d ≡ effected c tick thread answer))

-- no call of the thread is open without effect, or it waits
abbrev pub NoAnswer : Core → ℕ → Type 0
NoAnswer c thread =
    (call : Call) → turn_of thread (world c).threads ≡ Called call
    → Waits c.recorded.header.version c.ring (own_body c) call

-- the same, for what is kept
abbrev pub KeptNoAnswer : Core → ℕ → Type 0
KeptNoAnswer c thread =
    (call : Call) → turn_of thread (world c).threads ≡ Called call
    → Waits c.recorded.header.version c.ring (forget_body (own_body c)) call
