-- What the two hosts don't know of TCP, as a kernel provides it; and hosts, threads, worlds and steps above it.
use Rattle.std.specs.Prelude.{ℕ, nat_eq, Bool, List, Option, unwrap_or}
use Rattle.std.specs.Map.{lookup}
use Rattle.case_forms.specs.declared.calls.Host.{Host}
use Rattle.verdict.specs.declared.rule.Rule.{Rule}
use Rattle.spec_network.specs.Tables.{Both, Made}

-- the target of a call: a host, or the host that returned a socket number
pub data Aim : Type 0 where
  ThatHost : (host : Host) → Aim
  ThatSocket : (socket : ℕ) → Aim

-- the types: the state and the acts of a host (`Body`, `Act`); the contents of steps beside the numbers that they name:
-- of a step that looks nothing up, of a timer that expires, of a segment to build, and of the choice when a segment is
-- processed (`Plain` to `How`); the content of a timer's line; segments as built and as on the wire; calls and answers
pub record Shape : Type 1 where
  pub Body : Type 0
  pub Act : Type 0
  pub Plain : Type 0
  pub Expiring : Type 0
  pub Making : Type 0
  pub How : Type 0
  pub Expiry : Type 0
  pub Emission : Type 0
  pub Wire : Type 0
  pub Call : Type 0
  pub Answer : Type 0

-- the functions on them; a function with a host and a moment as arguments concerns a step of that host at that moment
pub record Kernel : Type 1 where
  pub shape : Shape
  -- the body of a host at the start
  pub empty : shape.Body
  -- the rules of an act, lowest-numbered first, the body of the host after it, and the segment that it builds
  pub act_rules : Host → ℕ → shape.Body → shape.Act → List (Rule × Bool)
  pub act_after : Host → ℕ → shape.Body → shape.Act → shape.Body
  pub act_makes : Host → ℕ → shape.Body → shape.Act → Option shape.Emission
  -- the acts of steps, with the segment that was looked up
  pub does : shape.Plain → shape.Act
  pub expires : shape.Expiring → shape.Act
  pub making : shape.Making → shape.Act
  pub takes : shape.How → shape.Emission → shape.Act
  pub answers : shape.Emission → shape.Act
  pub calls : shape.Call → shape.Answer → shape.Act
  -- the content of a line for a timer that expires
  pub expiry : shape.Expiring → shape.Expiry
  -- the rules of sending a segment, the segment on the wire then, and the rules of one that arrives
  pub out_rules : shape.Wire → shape.Emission → List (Rule × Bool)
  pub sent : ℕ → shape.Wire → shape.Emission → shape.Emission
  pub in_rules : ℕ → shape.Wire → shape.Emission → List (Rule × Bool)
  -- whether only one host is recorded, and the inbox entry for a segment heard from the other
  pub half : Bool
  pub heard : ℕ → shape.Wire → shape.Emission
  -- the target of a call; the answers it may have if no host returned its socket number
  pub aim : shape.Call → Aim
  pub stray : shape.Call → shape.Answer → Bool
  -- the socket number in an answer, and whether a host returned one
  pub gives : shape.Call → shape.Answer → Option ℕ
  pub given : shape.Body → ℕ → Bool
  pub differs : shape.Answer → shape.Answer → Bool

-- one host: its body, the segments that it built by their numbers, those that it sent by their lines, and its inbox by
-- the lines of arrival, with None for a segment that no longer waits
pub record HostState (s : Shape) : Type 0 where
  pub body : s.Body
  pub made : List (ℕ × Made s.Emission)
  pub wire : List (ℕ × s.Emission)
  pub inbox : List (ℕ × Option s.Emission)

-- the state of a thread: in no call, in one that had no effect yet, or in one whose effect had that answer
pub data Turn (s : Shape) : Type 0 where
  Idle : Turn s
  Called : (call : s.Call) → Turn s
  Answered : (answer : s.Answer) → Turn s

-- two hosts, the state of each thread that called, and how many segments were built
pub record World (s : Shape) : Type 0 where
  pub hosts : Both (HostState s)
  pub threads : List (ℕ × Turn s)
  pub count : ℕ

-- a step of one host: one that looks nothing up; a timer's line; building a segment; the line of sending one,
-- built under that number; the line of one that arrives, a copy of the other host's line; the line of one heard from a
-- host that isn't recorded; and processing, dropping or answering what arrived with that line
pub data HostStep (s : Shape) : Type 0 where
  Does : (plain : s.Plain) → HostStep s
  Expires : (line : ℕ) (expiring : s.Expiring) → HostStep s
  Makes : (making : s.Making) → HostStep s
  Sends : (line number : ℕ) (wire : s.Wire) → HostStep s
  Gets : (line copied : ℕ) (wire : s.Wire) → HostStep s
  Hears : (line : ℕ) (wire : s.Wire) → HostStep s
  Takes : (line : ℕ) (how : s.How) → HostStep s
  Drops : (line : ℕ) → HostStep s
  Answers : (line : ℕ) → HostStep s

-- a step: the line that begins a call, the line that ends one, the call's effect, and a step of one host
pub data Step (s : Shape) : Type 0 where
  Begin : (line thread : ℕ) (call : s.Call) → Step s
  Finish : (line thread : ℕ) (answer : s.Answer) → Step s
  Effect : (thread : ℕ) (answer : s.Answer) → Step s
  At : (host : Host) (host_step : HostStep s) → Step s

-- a step at its moment
pub record Stamped (s : Shape) : Type 0 where
  pub moment : ℕ
  pub step : Step s

-- the state of that thread: in no call, if it never called
abbrev pub turn_of : {s : Shape} → ℕ → List (ℕ × Turn s) → Turn s
turn_of t threads = unwrap_or (lookup (nat_eq t) threads) Idle
