-- What the arrival of a segment adds.
use Rattle.std.specs.Prelude.{◌≡◌, ◌⊎◌, ◌+◌, ℕ, Bool, true, false, nat_lt, Some}
use Rattle.case_forms.specs.declared.calls.Ports.{Ports}
use Rattle.case_forms.specs.declared.steps.TakeChoice.{TakeChoice}
use Rattle.case_forms.specs.declared.timer.Recovery.{Recovery}
use Rattle.case_forms.specs.declared.timer.RecoveryChange.TheVariants.{Begins}
use Rattle.case_forms.specs.declared.trace.Wire.{Wire}
use Rattle.spec_network.specs.Tables.{pick, waiting}
use Rattle.spec_network.specs.Hosts.{Answers, At, Does, Drops, Gets, Takes}
use Rattle.spec_tcp.specs.declared.endpoint.Emission.{Emission}
use Rattle.spec_tcp.specs.Machine.{tcp_shape}
use Rattle.spec_merge.specs.Books.{Bring, Flying}
use Rattle.stack_core.specs.declared.tick.Tick.{Tick}
use Rattle.stack_core.specs.Cores.{Core, MayDo, line_to_come, event_begun, with_item, with_step, world}

-- it is brought
abbrev pub brought : Core → Tick → Flying tcp_shape → Core
brought c tick f = with_item (event_begun c tick) (Bring f)

-- it arrives: its line
abbrev pub came : Core → Tick → Flying tcp_shape → Wire → Core
came c tick f wire = with_step (brought c tick f) (At c.recorded.me (Gets (line_to_come c) f.line wire))

-- in an event that began: it is brought, and arrives
abbrev pub IsCameIn : Core → Flying tcp_shape → Core → Type 0
IsCameIn c f d =
    (wire : Wire) × (wire.bytes ≡ f.emission.bytes) ×
    (d ≡ with_step (with_item c (Bring f)) (At c.recorded.me (Gets (line_to_come c) f.line wire)))

-- what waits under a line may be dropped: it exists
abbrev pub MayDrop : Core → ℕ → Type 0
MayDrop c n = MayDo c (At c.recorded.me (Drops n))

-- the ports of the endpoint that a segment is for
abbrev pub ports_of : Emission → Ports
ports_of m = record { lport = m.rport; rport = m.lport }

-- what waits under a line is for the endpoint of these ports
abbrev pub IsHeld : Core → ℕ → Ports → Type 0
IsHeld c n ports =
    (m : Emission) × (waiting n (pick (world c).hosts c.recorded.me).inbox ≡ Some m) × (ports ≡ ports_of m)

-- it may be taken, with its bytes
abbrev pub MayTake : Core → ℕ → Type 0
MayTake c n = MayDo c (At c.recorded.me (Takes n (record { cwnd = 0; keep = true; sample = false })))

-- it may be taken with these values and its bytes
abbrev pub IsChoice : Core → ℕ → TakeChoice → Type 0
IsChoice c n choice = (choice.keep ≡ true) × MayTake c n × MayDo c (At c.recorded.me (Takes n choice))

-- it may be answered by a reset
abbrev pub MayReset : Core → ℕ → Type 0
MayReset c n = MayDo c (At c.recorded.me (Answers n))

-- fast recovery begins at the endpoint of these ports with these values
abbrev pub beginning : Ports → (cwnd ssthresh : ℕ) → Recovery
beginning ports cwnd ssthresh =
    record { change = Begins; lport = ports.lport; rport = ports.rport; cwnd = cwnd; ssthresh = ssthresh }

-- it may
abbrev pub MayRecover : Core → Ports → Type 0
MayRecover c ports =
    (cwnd : ℕ) × (ssthresh : ℕ) × MayDo c (At c.recorded.me (Does (beginning ports cwnd ssthresh)))

-- it may begin there with these values
abbrev pub IsRecoveryAt : Core → Ports → Recovery → Type 0
IsRecoveryAt c ports x =
    (x.lport ≡ ports.lport) × (x.rport ≡ ports.rport) × (x.change ≡ Begins) × MayDo c (At c.recorded.me (Does x))

-- it may not begin with these values
abbrev pub IsRefusedRecovery : Core → Ports → (cwnd ssthresh : ℕ) → Type 0
IsRefusedRecovery c ports cwnd ssthresh = MayDo c (At c.recorded.me (Does (beginning ports cwnd ssthresh))) → ⊥

-- it began, exactly if it may
abbrev pub IsRecovered : Core → Ports → Core → Type 0
IsRecovered c ports d =
    ((x : Recovery) × (x.lport ≡ ports.lport) × (x.rport ≡ ports.rport) × (x.change ≡ Begins) ×
    (d ≡ with_step c (At c.recorded.me (Does x)))) ⊎ ((d ≡ c) × (MayRecover c ports → ⊥))

-- what waits was taken with its bytes, and fast recovery began if it may; else it was answered by a reset; else it was
-- dropped
pub data IsSettled (c : Core) (n : ℕ) (ports : Ports) (d : Core) : Type 0 where
  Taken : (choice : TakeChoice) (keep : choice.keep ≡ true) (may : MayTake c n)
      (recovered : IsRecovered (with_step c (At c.recorded.me (Takes n choice))) ports d) → IsSettled c n ports d
  Reset : (not_taken : MayTake c n → ⊥) (may : MayReset c n) (row : d ≡ with_step c (At c.recorded.me (Answers n)))
      → IsSettled c n ports d
  Dropped : (not_taken : MayTake c n → ⊥) (no_reset : MayReset c n
      → ⊥) (row : d ≡ with_step c (At c.recorded.me (Drops n))) → IsSettled c n ports d

-- what may be left if memory ran out: nothing, or that it was taken with its bytes, if fast recovery was to begin then
abbrev pub IsSettledShort : Core → ℕ → Ports → Core → Type 0
IsSettledShort c n ports d =
    (d ≡ c) ⊎ ((choice : TakeChoice) × (choice.keep ≡ true) × MayTake c n ×
    MayRecover (with_step c (At c.recorded.me (Takes n choice))) ports ×
    (d ≡ with_step c (At c.recorded.me (Takes n choice))))

-- an event let a segment arrive
pub record IsArrived (c : Core) (tick : Tick) (f : Flying tcp_shape) (d : Core) : Type 0 where
  pub wire : Wire
  pub bytes : wire.bytes ≡ f.emission.bytes
  pub settled : IsSettled (came c tick f wire) (line_to_come c) (ports_of f.emission) d

-- the segment is this host's own, or older than the maximum segment lifetime
abbrev pub IsNotLetIn : Core → Tick → Flying tcp_shape → Type 0
IsNotLetIn c tick f =
    (f.key.host ≡ c.recorded.me) ⊎ (nat_lt (f.emission.moment + c.recorded.header.msl) tick.moment ≡ true)

-- what may be left if memory ran out: the tick has passed; it was brought; it arrived; it was taken with its bytes too,
-- if fast recovery was to begin
pub data IsArrivedShort (c : Core) (tick : Tick) (f : Flying tcp_shape) (d : Core) : Type 0 where
  Ticked : (row : d ≡ event_begun c tick) → IsArrivedShort c tick f d
  Brought : (row : d ≡ brought c tick f) → IsArrivedShort c tick f d
  Came : (wire : Wire) (bytes : wire.bytes ≡ f.emission.bytes) (row : d ≡ came c tick f wire)
      → IsArrivedShort c tick f d
  Took : (wire : Wire) (bytes : wire.bytes ≡ f.emission.bytes) (choice : TakeChoice) (keep : choice.keep ≡ true)
      (may : MayTake (came c tick f wire) (line_to_come c))
      (due : MayRecover (with_step (came c tick f wire) (At c.recorded.me (Takes (line_to_come c) choice)))
      (ports_of f.emission))
      (row : d ≡ with_step (came c tick f wire) (At c.recorded.me (Takes (line_to_come c) choice)))
      → IsArrivedShort c tick f d

abbrev pub IsArrival : Core → Tick → Flying tcp_shape → Bool → Core → Type 0
IsArrival c tick f true d = IsArrived c tick f d
IsArrival c tick f false d = (d ≡ c) × IsNotLetIn c tick f
