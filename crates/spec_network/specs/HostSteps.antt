-- The world after a step of two hosts, and runs.
use Rattle.std.specs.Prelude.{ℕ, suc, nat_eq, Bool, true, false, if◌then◌else◌, List, [], ◌∷◌, Option, None, Some}
use Rattle.std.specs.Map.{lookup}
use Rattle.indexmap.specs.IndexMap.{insert_entry}
use Rattle.case_forms.specs.declared.calls.Host.{Host}
use Rattle.spec_network.specs.Tables.{Both, pick, other, with_host, on, Made, unsent, gone_out, waiting, settled}
use Rattle.spec_network.specs.Hosts.{Kernel, HostState, Turn, Idle, Called, Answered, World, HostStep, Does, Expires}
use Rattle.spec_network.specs.Hosts.{Makes}
use Rattle.spec_network.specs.Hosts.{Sends, Gets, Hears, Takes, Drops, Answers, Step, Begin, Finish, Effect, At}
use Rattle.spec_network.specs.Hosts.{Stamped, turn_of}
use Rattle.spec_network.specs.HostRules.{aim_of, Permitted}

-- the built segments after an act; the segment it builds gets the new number
abbrev pub act_made : (k : Kernel) → Host → ℕ → ℕ → HostState k.shape → k.shape.Act → List (ℕ × Made k.shape.Emission)
act_made k me moment fresh h act =
    on (k.act_makes me moment h.body act) h.made (λ e. insert_entry nat_eq h.made fresh (unsent e))

-- the built segments, once the segment of that number was sent
abbrev pub made_gone_out : {E : Type 0} → ℕ → List (ℕ × Made E) → List (ℕ × Made E)
made_gone_out number made = on (lookup (nat_eq number) made) made (λ m. insert_entry nat_eq made number (gone_out m))

-- the wire, once the segment of that number was sent with this line
abbrev pub wire_after : {E W : Type 0} → (ℕ → W → E → E) → List (ℕ × Made E) → (line number : ℕ) → W → ℕ → List (ℕ × E)
    → List (ℕ × E)
wire_after sent made line number wire moment out =
    on (lookup (nat_eq number) made) out (λ m. insert_entry nat_eq out line (sent moment wire m.emission))

-- the inbox, once a copy of that line of the other host arrived with this line
abbrev pub inbox_after : {E : Type 0} → List (ℕ × E) → (line copied : ℕ) → List (ℕ × Option E) → List (ℕ × Option E)
inbox_after far line copied inbox = on (lookup (nat_eq copied) far) inbox (λ e. insert_entry nat_eq inbox line (Some e))

-- the inbox, once the segment waiting under this line is processed, dropped or answered
abbrev pub inbox_settled : {E : Type 0} → ℕ → List (ℕ × Option E) → List (ℕ × Option E)
inbox_settled line inbox = on (waiting line inbox) inbox (λ e. settled line inbox)

-- a host after its step: a sent line marks its segment and puts it on the wire, a line that arrives joins the inbox,
-- and a processed segment no longer waits there
abbrev pub host_step_after : (k : Kernel) → Host → ℕ → ℕ → List (ℕ × k.shape.Emission) → HostState k.shape
    → HostStep k.shape
    → HostState k.shape
host_step_after k me moment fresh far h (Does x) = record h { body = k.act_after me moment h.body (k.does x) }
host_step_after k me moment fresh far h (Expires line x) =
    record h { body = k.act_after me moment h.body (k.expires x) }
host_step_after k me moment fresh far h (Makes x) =
    record h { body = k.act_after me moment h.body (k.making x); made = act_made k me moment fresh h (k.making x) }
host_step_after k me moment fresh far h (Sends line number wire) =
    record h { made = made_gone_out number h.made; wire = wire_after k.sent h.made line number wire moment h.wire }
host_step_after k me moment fresh far h (Gets line copied wire) =
    record h { inbox = inbox_after far line copied h.inbox }
host_step_after k me moment fresh far h (Hears line wire) =
    record h { inbox = insert_entry nat_eq h.inbox line (Some (k.heard moment wire)) }
host_step_after k me moment fresh far h (Takes line how) =
    record h {
      body = on (waiting line h.inbox) h.body (λ e. k.act_after me moment h.body (k.takes how e));
      inbox =
          inbox_settled line h.inbox;
    }
host_step_after k me moment fresh far h (Drops line) = record h { inbox = inbox_settled line h.inbox }
host_step_after k me moment fresh far h (Answers line) = record h {
  body = on (waiting line h.inbox) h.body (λ e. k.act_after me moment h.body (k.answers e));
  made = on (waiting line h.inbox) h.made (λ e. act_made k me moment fresh h (k.answers e));
  inbox = inbox_settled line h.inbox;
}

-- whether it uses a number for a built segment
abbrev pub makes : (k : Kernel) → HostStep k.shape → Bool
makes k (Makes x) = true
makes k (Answers line) = true
makes k d = false

-- both hosts after a call's act at the host that the call applies to
abbrev pub call_after : (k : Kernel) → ℕ → Both (HostState k.shape) → k.shape.Act → Option Host
    → Both (HostState k.shape)
call_after k moment hosts act None = hosts
call_after k moment hosts act (Some host) =
    with_host hosts host (record (pick hosts host) { body = k.act_after host moment (pick hosts host).body act })

-- the world with that thread's turn
abbrev pub with_turn : (k : Kernel) → World k.shape → ℕ → Turn k.shape → World k.shape
with_turn k w t u = record w { threads = insert_entry nat_eq w.threads t u }

-- the world after an effect of the thread at this turn
abbrev pub effect_after : (k : Kernel) → ℕ → World k.shape → ℕ → k.shape.Answer → Turn k.shape → World k.shape
effect_after k moment w t answer Idle = w
effect_after k moment w t answer (Called call) = record {
  hosts = call_after k moment w.hosts (k.calls call answer) (aim_of k w.hosts (k.aim call));
  threads = insert_entry nat_eq w.threads t (Answered answer);
  count = w.count;
}
effect_after k moment w t answer (Answered given) = w

-- the world after a step
abbrev pub after : (k : Kernel) → ℕ → World k.shape → Step k.shape → World k.shape
after k moment w (Begin line t call) = with_turn k w t (Called call)
after k moment w (Finish line t answer) = with_turn k w t Idle
after k moment w (Effect t answer) = effect_after k moment w t answer (turn_of t w.threads)
after k moment w (At host d) = record w {
  hosts =
      with_host w.hosts host (host_step_after k host moment (suc w.count) (pick w.hosts (other host)).wire
      (pick w.hosts host) d);
  count = if makes k d then suc w.count else w.count;
}

-- a host at the start
abbrev pub empty_host : (k : Kernel) → HostState k.shape
empty_host k = record { body = k.empty; made = []; wire = []; inbox = [] }

-- the world at the start
abbrev pub start : (k : Kernel) → World k.shape
start k = record { hosts = record { zero = empty_host k; one = empty_host k }; threads = []; count = 0 }

-- the world after these steps
abbrev pub after_all : (k : Kernel) → World k.shape → List (Stamped k.shape) → World k.shape
after_all k w [] = w
after_all k w (x ∷ xs) = after_all k (after k x.moment w x.step) xs

-- a run: each step is permitted in the world that the steps before it left
abbrev pub Lawful : (k : Kernel) → World k.shape → List (Stamped k.shape) → Type 0
Lawful k w [] = Unit {0}
Lawful k w (x ∷ xs) = Permitted k x.moment w x.step × Lawful k (after k x.moment w x.step) xs
