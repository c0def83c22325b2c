-- Two cores with one header, and what events make of them.
use Rattle.std.specs.declared.alloc.AllocError.{AllocError}
use Rattle.std.specs.Prelude.{◌≡◌, ◌<◌, ℕ, Bool, List, [], ◌∷◌, ◌++◌, Contains}
use Rattle.std.specs.Prelude.{Option, None, Some, Result, Ok, Err}
use Rattle.case_forms.specs.declared.calls.Call.{Call}
use Rattle.case_forms.specs.declared.calls.Host.{Host}
use Rattle.case_forms.specs.declared.calls.Host.TheVariants.{Zero, One}
use Rattle.case_forms.specs.declared.trace.Header.{Header}
use Rattle.spec_network.specs.Hosts.{Idle, turn_of}
use Rattle.spec_network.specs.Tables.{Both, lane, other, pick, with_host}
use Rattle.spec_tcp.specs.Machine.{aim, tcp_shape}
use Rattle.spec_merge.specs.Books.{Aims, Flying}
use Rattle.spec_merge.specs.Recordings.{TcpEntry}
use Rattle.stack_core.specs.declared.answered.Answered.{Answered}
use Rattle.stack_core.specs.declared.tick.Tick.{Tick}
use Rattle.stack_core.specs.ArrivalEvents.{IsArrival, IsArrivedShort}
use Rattle.stack_core.specs.CallEvents.{IsAttempted, IsAttemptShort, NoAnswer, begun}
use Rattle.stack_core.specs.Cores.{Core, IsAfter, IsCallWithin, IsRecorded, new_core, event_begun, world}
use Rattle.stack_core.specs.Flown.{IsAbove}
use Rattle.stack_core.specs.PumpEvents.{IsPumped, IsPumpedShort, NothingToPump}
use Rattle.stack_core.specs.TimerEvents.{IsTimed}

-- a call of a core that is an event, and its result; the error is that memory ran out
pub data CoreCall : Type 0 where
  Begin : (thread : ℕ) (call : Call) (answer : Result (Unit {0}) AllocError) → CoreCall
  Attempt : (thread : ℕ) (answer : Result (Option Answered) AllocError) → CoreCall
  Arrive : (flying : Flying tcp_shape) (answer : Result Bool AllocError) → CoreCall
  Pump : (answer : Result (Option (Flying tcp_shape)) AllocError) → CoreCall
  Timers : (answer : Result Bool AllocError) → CoreCall

-- a thread of this host, which is in no call, may begin this one
abbrev pub MayBegin : Core → ℕ → Call → Type 0
MayBegin c thread call =
    (turn_of thread (world c).threads ≡ Idle) × (lane thread ≡ c.recorded.me) ×
    Aims c.recorded.me (aim call) × IsCallWithin call

-- a core may be called like this at this tick; what arrives was sent by the other core, in an event below this one
abbrev pub MayCall : Core → List (Flying tcp_shape) → Tick → CoreCall → Type 0
MayCall c theirs tick (Begin thread call answer) = MayBegin c thread call
MayCall c theirs tick (Attempt thread answer) = lane thread ≡ c.recorded.me
MayCall c theirs tick (Arrive f answer) = Contains theirs f × IsAbove f tick
MayCall c theirs tick (Pump answer) = Unit {0}
MayCall c theirs tick (Timers answer) = Unit {0}

-- what the call makes of the core, with that answer
abbrev pub Leaves : Core → Tick → CoreCall → Core → Type 0
Leaves c tick (Begin thread call (Ok done)) d = d ≡ begun c tick thread call
Leaves c tick (Begin thread call (Err memory)) d = d ≡ event_begun c tick
Leaves c tick (Attempt thread (Ok (Some a))) d = IsAttempted c tick thread a d
Leaves c tick (Attempt thread (Ok None)) d = (d ≡ c) × NoAnswer c thread
Leaves c tick (Attempt thread (Err memory)) d = IsAttemptShort c tick thread d
Leaves c tick (Arrive f (Ok let_in)) d = IsArrival c tick f let_in d
Leaves c tick (Arrive f (Err memory)) d = IsArrivedShort c tick f d
Leaves c tick (Pump (Ok (Some f))) d = IsPumped c tick f d
Leaves c tick (Pump (Ok None)) d = (d ≡ c) × NothingToPump c
Leaves c tick (Pump (Err memory)) d = IsPumpedShort c tick d
Leaves c tick (Timers (Ok found)) d = IsTimed c tick found d
Leaves c tick (Timers (Err memory)) d = d ≡ event_begun c tick

-- the segment that was sent in the call
abbrev pub flown_in : CoreCall → List (Flying tcp_shape)
flown_in (Pump (Ok (Some f))) = f ∷ []
flown_in call = []

-- one side: a core, and the segments it sent
pub record Side : Type 0 where
  pub core : Core
  pub flown : List (Flying tcp_shape)

-- a core that did nothing yet
abbrev pub new_side : Header → Host → ℕ → Side
new_side h me ring = record { core = new_core h me ring; flown = [] }

-- the core was called at this tick, as it may be, after the other sent these segments; it is then this one, with a run
-- of its host recorded
pub record IsCalled (old : Side) (theirs : List (Flying tcp_shape)) (tick : Tick) (call : CoreCall)
    (new : Side) : Type 0 where
  pub after : IsAfter old.core.last tick
  pub few : old.core.events < 10000000
  pub may : MayCall old.core theirs tick call
  pub leaves : Leaves old.core tick call new.core
  pub kept : IsRecorded new.core
  pub flown : new.flown ≡ old.flown ++ flown_in call

-- an event: a call of one host's core at a tick
pub record Event : Type 0 where
  pub host : Host
  pub tick : Tick
  pub call : CoreCall

-- these events lead from two sides to these. What one sent arrives at the other if an `Arrive` there has it: any number
-- of times, in any order, or never
abbrev pub Lead : List Event → Both Side → Both Side → Type 0
Lead [] old new = new ≡ old
Lead (e ∷ es) old new =
    (side : Side) × IsCalled (pick old e.host) (pick old (other e.host)).flown e.tick e.call side ×
    Lead es (with_host old e.host side) new

-- a core world: the cores of host 0 and of host 1, with one header, after these events
pub record IsCoreWorld (h : Header) (events : List Event) (cores : Both Side) : Type 0 where
  pub zero_ring : ℕ
  pub one_ring : ℕ
  pub lead : Lead events (record { zero = new_side h Zero zero_ring; one = new_side h One one_ring }) cores

-- what a host's core recorded
abbrev pub entries_of : Host → Both Side → List TcpEntry
entries_of host cores = (pick cores host).core.recorded.entries
