-- What the expiry of a timer adds.
use Rattle.std.specs.Prelude.{◌≡◌, ◌≤◌, ℕ, Bool, true, false, Some}
use Rattle.case_forms.specs.declared.calls.Host.{Host}
use Rattle.case_forms.specs.declared.calls.Ports.{Ports}
use Rattle.case_forms.specs.declared.taken_line.Expired.{Expired}
use Rattle.case_forms.specs.declared.taken_line.Expired.TheVariants as expireds
use Rattle.case_forms.specs.declared.timer.Timer.{Timer}
use Rattle.case_forms.specs.declared.timer.Timer.TheVariants.{Giveup, Msl2, Persist, Pto, Rto}
use Rattle.case_forms.specs.States.{is_fin_wait_2}
use Rattle.case_forms.specs.TakenLines.{timer_of}
use Rattle.spec_network.specs.Hosts.{At, Expires, Step}
use Rattle.spec_network.specs.HostRules.{Permitted}
use Rattle.spec_network.specs.Tables.{pick}
use Rattle.spec_tcp.specs.HostTcp.{endpoint_of}
use Rattle.spec_tcp.specs.declared.endpoint.Endpoint.{Endpoint}
use Rattle.spec_tcp.specs.Forgetting.{forget_body}
use Rattle.spec_tcp.specs.Machine.{Expiring, tcp, tcp_shape}
use Rattle.stack_core.specs.declared.tick.Tick.{Tick}
use Rattle.stack_core.specs.Cores.{Core, line_to_come, event_begun, with_step}
use Rattle.stack_core.specs.Recordings.{Recorded, world_left}

-- a timer that an endpoint has to keep; giving up and probing for a loss (RFC 8985, 7) are its choice
abbrev pub is_kept : Timer → Bool
is_kept Rto = true
is_kept Persist = true
is_kept Msl2 = true
is_kept Giveup = false
is_kept Pto = false

-- the line of a timer that expires
abbrev pub expiry_step : Host → ℕ → Ports → Expired → Step tcp_shape
expiry_step me line ports expired =
    At me (Expires line (record { lport = ports.lport; rport = ports.rport; expired = expired }))

-- that timer may expire there at this moment, with any line
abbrev pub IsDueAt : Recorded → ℕ → Ports → Expired → Type 0
IsDueAt r moment ports e = (n : ℕ) → Permitted (tcp r.header) moment (world_left r) (expiry_step r.me n ports e)

-- it may not, with line 0
abbrev pub IsNotDueAt : Recorded → ℕ → Ports → Expired → Type 0
IsNotDueAt r moment ports e = Permitted (tcp r.header) moment (world_left r) (expiry_step r.me 0 ports e) → ⊥

abbrev pub expired : Core → Tick → Ports → Expired → Core
expired c tick ports e = with_step (event_begun c tick) (expiry_step c.recorded.me (line_to_come c) ports e)

-- twelve timers of an endpoint expired since it took a segment, and it is not in FIN-WAIT-2
pub record HasTried (r : Recorded) (ports : Ports) : Type 0 where
  pub endpoint : Endpoint
  pub found : endpoint_of (forget_body (pick (world_left r).hosts r.me).body) ports.lport ports.rport ≡ Some endpoint
  pub unanswered_expiries : 12 ≤ endpoint.unanswered_expiries
  pub state : is_fin_wait_2 endpoint.state ≡ false

-- if an endpoint gives up, it has tried this often; it doesn't probe for a loss
abbrev pub IfChosen : Recorded → Ports → Expired → Type 0
IfChosen r ports expireds.Giveup = HasTried r ports
IfChosen r ports expireds.Pto = ⊥
IfChosen r ports e = Unit {0}

-- no line of a retransmission timer, a persist timer or a wait in TIME-WAIT is permitted at this moment
abbrev pub NoneDueAt : Recorded → ℕ → Type 0
NoneDueAt r moment =
    (x : Expiring) → is_kept (timer_of x.expired) ≡ true
    → Permitted (tcp r.header) moment (world_left r) (At r.me (Expires 0 x)) → ⊥

abbrev pub NoneDue : Core → ℕ → Type 0
NoneDue c moment = NoneDueAt c.recorded moment

-- none of the three is at the endpoint of these ports, with the least values
pub record IsRefused (r : Recorded) (moment : ℕ) (ports : Ports) : Type 0 where
  pub rto : IsNotDueAt r moment ports (expireds.Rto (record { cwnd = 0; ssthresh = 0 }))
  pub persist : IsNotDueAt r moment ports expireds.Persist
  pub msl2 : IsNotDueAt r moment ports expireds.Msl2

-- an event found a timer that expired, or none due
abbrev pub IsTimed : Core → Tick → Bool → Core → Type 0
IsTimed c tick true d = (ports : Ports) × (e : Expired) × (d ≡ expired c tick ports e) × IfChosen c.recorded ports e
IsTimed c tick false d = (d ≡ c) × NoneDue c tick.moment
