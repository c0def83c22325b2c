-- What callers see of a core, and what holds of one.
use Rattle.std.specs.Prelude.{◌≡◌, ◌≤◌, ◌<◌, ◌+◌, ◌*◌, ℕ, suc, true, false, [], length, Some}
use Rattle.case_forms.specs.Traces.{first_event_line}
use Rattle.case_forms.specs.declared.calls.Host.{Host}
use Rattle.case_forms.specs.declared.calls.Host.TheVariants.{Zero, One}
use Rattle.case_forms.specs.declared.calls.Answer.{Answer}
use Rattle.case_forms.specs.declared.calls.Call.{Call}
use Rattle.case_forms.specs.declared.calls.Call.TheVariants as calls
use Rattle.case_forms.specs.declared.trace.Header.{Header}
use Rattle.spec_network.specs.HostRules.{Permitted}
use Rattle.spec_network.specs.Tables.{lane, other, pick}
use Rattle.spec_network.specs.Hosts.{HostStep, Does, Drops, Expires, Gets, Hears, Makes, Sends, Takes, Answers, At}
use Rattle.spec_network.specs.Hosts.{Begin}
use Rattle.spec_network.specs.Hosts.{Called, Effect, Finish, Idle, Answered, Step, Turn, World, turn_of}
use Rattle.spec_merge.specs.Books.{Aims, Do, FitsItem, Item, Key, step_line}
use Rattle.spec_merge.specs.Keys.{EachEntry, If}
use Rattle.spec_merge.specs.Recordings.{IsKept, next_line}
use Rattle.spec_tcp.specs.HostTcp.{HostTcp, given}
use Rattle.spec_tcp.specs.Machine.{aim, gives, tcp, tcp_shape}
use Rattle.stack_core.specs.declared.tick.Tick.{Tick}
use Rattle.stack_core.specs.Entries.{entry_at, steps_in}
use Rattle.stack_core.specs.Recordings.{Recorded, with_entry, world_left}
use Rattle.stack_core.specs.Told.{AllTold}

pub record Core : Type 0 where
  pub recorded : Recorded
  -- how many accepted bytes may wait for their acknowledgment
  pub ring : ℕ
  -- the tick of the last event, and how many events there were
  pub last : Tick
  pub events : ℕ

-- the whole world of its host alone
abbrev pub world : Core → World tcp_shape
world c = world_left c.recorded

-- its host's state
abbrev pub own_body : Core → HostTcp
own_body c = (pick (world c).hosts c.recorded.me).body

-- the number of the line to come
abbrev pub line_to_come : Core → ℕ
line_to_come c = next_line c.recorded.header (first_event_line c.recorded.header) c.recorded.entries

-- what it recorded is a run of its own host, under keys that don't decrease, so it may be merged with what the other
-- host recorded
abbrev pub IsRecorded : Core → Type 0
IsRecorded c = IsKept c.recorded.header c.recorded.me (first_event_line c.recorded.header) c.recorded.entries

-- a step is permitted at the last tick
abbrev pub MayDo : Core → Step tcp_shape → Type 0
MayDo c step = Permitted (tcp c.recorded.header) c.last.moment (world c) step

-- a core that recorded nothing yet
abbrev pub new_core : Header → Host → ℕ → Core
new_core header me ring =
    record {
      recorded = record { header = header; me = me; entries = [] };
      ring = ring;
      last =
          record { moment = 0; counter = 0 };
      events = 0;
    }

-- an event began, with this tick
abbrev pub event_begun : Core → Tick → Core
event_begun c tick = record c { last = tick; events = suc c.events }

-- an item was added, at the last tick
abbrev pub with_item : Core → Item tcp_shape → Core
with_item c item = record c { recorded = with_entry c.recorded (entry_at c.recorded.me c.last item) }

abbrev pub with_step : Core → Step tcp_shape → Core
with_step c step = with_item c (Do step)

-- the tick is above the last one
pub record IsAfter (last tick : Tick) : Type 0 where
  pub moment : last.moment ≤ tick.moment
  pub counter : last.counter < tick.counter

-- the step is permitted, and this host's own
abbrev pub Fits : Core → Step tcp_shape → Type 0
Fits c step = FitsItem (tcp c.recorded.header) c.recorded.me c.last.moment (world c) (Do step)

-- the line of the step, if it takes one, is the one to come
abbrev pub IsNextLine : Core → Step tcp_shape → Type 0
IsNextLine c step = If (step_line (tcp c.recorded.header) step) (Unit {0}) (λ line. line ≡ line_to_come c)

-- how many lines a host's step takes, and a step
abbrev pub host_step_lines : HostStep tcp_shape → ℕ
host_step_lines (Does x) = 0
host_step_lines (Expires line x) = 1
host_step_lines (Makes plan) = 0
host_step_lines (Sends line number wire) = 1
host_step_lines (Gets line copied wire) = 1
host_step_lines (Hears line wire) = 1
host_step_lines (Takes line choice) = 0
host_step_lines (Drops line) = 0
host_step_lines (Answers line) = 0

abbrev pub lines_taken : Step tcp_shape → ℕ
lines_taken (Begin line t call) = 1
lines_taken (Finish line t answer) = 1
lines_taken (Effect t answer) = 0
lines_taken (At host d) = host_step_lines d

-- host 0 gives even socket numbers from 2, host 1 odd ones from 3
abbrev pub first_socket : Host → ℕ
first_socket Zero = 2
first_socket One = 3

abbrev pub next_socket : Host → HostTcp → ℕ
next_socket me b = first_socket me + 2 * length b.sockets

-- a call's numbers are within limits: a send has bytes, and a read asks for at least one
abbrev pub IsCallWithin : Call → Type 0
IsCallWithin (calls.Send n bytes) = 1 ≤ length bytes
IsCallWithin (calls.Recv n most) = 1 ≤ most
IsCallWithin call = Unit {0}

-- a socket number that the answer gives is the next one
abbrev pub GivesNext : Host → HostTcp → Turn tcp_shape → Answer → Type 0
GivesNext me b Idle answer = Unit {0}
GivesNext me b (Called call) answer = (n : ℕ) → gives call answer ≡ Some n → n ≡ next_socket me b
GivesNext me b (Answered given) answer = Unit {0}

-- what a core requires of a step besides that it is permitted: the call that begins is within limits, and a number that
-- is given is the next
abbrev pub IsOrderly : Host → World tcp_shape → Step tcp_shape → Type 0
IsOrderly me w (Begin line t call) = IsCallWithin call
IsOrderly me w (Finish line t answer) = Unit {0}
IsOrderly me w (Effect t answer) = GivesNext me (pick w.hosts me).body (turn_of t w.threads) answer
IsOrderly me w (At host host_step) = Unit {0}

-- the host gave socket numbers of its own below the next one, the other host none; and calls that are open are its own,
-- within limits
pub record IsOwn (me : Host) (w : World tcp_shape) : Type 0 where
  pub own : (n : ℕ) → given (pick w.hosts me).body n ≡ true → lane n ≡ me
  pub below : (n : ℕ) → given (pick w.hosts me).body n ≡ true → n < next_socket me (pick w.hosts me).body
  pub none : (n : ℕ) → given (pick w.hosts (other me)).body n ≡ false
  pub aims : (t : ℕ) (call : Call) → turn_of t w.threads ≡ Called call → Aims me (aim call)
  pub within : (t : ℕ) (call : Call) → turn_of t w.threads ≡ Called call → IsCallWithin call

-- the key is this host's, and not above the last tick
pub record IsBelow (me : Host) (last : Tick) (key : Key) : Type 0 where
  pub host : key.host ≡ me
  pub moment : key.moment ≤ last.moment
  pub counter : key.counter ≤ last.counter

-- a core, with the number of its next line
pub record IsCore (r : Recorded) (line : ℕ) (last : Tick) (events : ℕ) : Type 0 where
  pub numbered : line ≡ next_line r.header (first_event_line r.header) r.entries
  pub few_lines : line ≤ 16 + steps_in r.entries
  pub few_steps : steps_in r.entries ≤ 4 * events
  pub few_sockets : length (pick (world_left r).hosts r.me).body.sockets ≤ steps_in r.entries
  pub keys : EachEntry (tcp r.header) (λ x. IsBelow r.me last x.key) r.entries
  pub own : IsOwn r.me (world_left r)
  pub told : AllTold r.header.version r.entries
