-- What the sums and counts of the code need. Counts that grow by one in a step are at most the steps done, positions
-- stay below a limit, and nothing is kept that may be discarded.
use Rattle.std.specs.Prelude.{◌≡◌, ◌≤◌, ◌<◌, ℕ, ◌+◌, ◌*◌, ◌^◌, true, false, length}
use Rattle.std.specs.List.{All}
use Rattle.case_forms.specs.States.{is_closed, is_syn_sent}
use Rattle.streams.specs.Forgetting.{below, forgotten, made_below}
use Rattle.streams.specs.Received as received
use Rattle.window_rules.specs.Counts.{HasCounts, IsCounted}
use Rattle.spec_tcp.specs.Endpoints.{Endpoint, Emission, rcv_nxt}
use Rattle.spec_tcp.specs.HostTcp.{HostTcp}

-- the greatest position that a step may contain
abbrev pub greatest_position : ℕ
greatest_position = 10 ^ 18

-- a segment's positions are small, and its payload fits into one
pub record IsSmallEmission (m : Emission) : Type 0 where
  pub pos : m.pos ≤ greatest_position
  pub ack : m.ack < 2 ^ 63
  pub payload : length m.payload ≤ 65535

-- the endpoint keeps nothing that may be discarded
pub record IsForgotten (e : Endpoint) : Type 0 where
  pub accepted : below e.stream.snd_una e.stream.accepted ≡ e.stream.accepted
  pub received : forgotten e.stream.receive ≡ e.stream.receive
  pub made : made_below e.stream.snd_una e.transmissions ≡ e.transmissions

-- an endpoint after this many steps
pub record IsKept (steps : ℕ) (e : Endpoint) : Type 0 where
  pub snd_una : e.stream.snd_una < 2 ^ 63
  pub counts : IsCounted steps e.stream.snd_una e.control
  pub unanswered_expiries : e.unanswered_expiries ≤ steps
  pub backoffs : e.backoffs ≤ steps
  pub accepted : length e.stream.accepted ≤ 2 ^ 32 * steps
  pub forgets : IsForgotten e
  -- the peer's SYN was received, except in SYN-SENT, and perhaps before it was closed
  pub met : is_syn_sent e.state ≡ false → is_closed e.state ≡ false → 1 ≤ rcv_nxt e
  pub unmet : is_syn_sent e.state ≡ true → e.stream.receive ≡ received.empty

-- a host after this many steps
pub record IsKeptBody (steps : ℕ) (b : HostTcp) : Type 0 where
  pub kept : All (IsKept steps) b.endpoints
  pub endpoints : length b.endpoints ≤ steps
  pub listeners : length b.listeners ≤ steps

-- the counts of an endpoint have room for what a step adds, and nothing is kept that may be discarded
pub record HasRoom (e : Endpoint) : Type 0 where
  pub snd_una : e.stream.snd_una < 2 ^ 63
  pub counts : HasCounts e.control
  pub unanswered_expiries : e.unanswered_expiries + 1 < 2 ^ 32
  pub backoffs : e.backoffs + 1 < 2 ^ 32
  pub accepted : length e.stream.accepted < 2 ^ 62
  pub forgets : IsForgotten e
  pub met : is_syn_sent e.state ≡ false → is_closed e.state ≡ false → 1 ≤ rcv_nxt e
  pub unmet : is_syn_sent e.state ≡ true → e.stream.receive ≡ received.empty

-- the greatest number of steps of a case
abbrev pub most_steps : ℕ
most_steps = 40000000
