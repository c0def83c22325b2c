-- Forgetting is free: discarding what may be discarded changes no rule, and nothing that is kept; over one step, and
-- over whole runs.
use Rattle.std.specs.Prelude.{◌≡◌, ◌↔◌, ℕ, suc, List, [], ◌∷◌, Option, None, Some}
use Rattle.std.specs.Option.{option_map_or}
use Rattle.case_forms.specs.declared.calls.Host.{Host}
use Rattle.case_forms.specs.declared.trace.Header.{Header}
use Rattle.case_forms.specs.declared.trace.Line as lines
use Rattle.case_forms.specs.declared.steps.Step as witness
use Rattle.verdict.specs.declared.rule.Rule.{Rule}
use Rattle.spec_network.specs.Tables.{pick}
use Rattle.spec_network.specs.Hosts.{HostState, World, HostStep, Does, Expires, Makes, Sends, Gets, Hears, Takes, Drops}
use Rattle.spec_network.specs.Hosts.{Answers, Step, Begin, Finish, Effect, At, Stamped}
use Rattle.spec_network.specs.HostRules.{step_rules, Permitted}
use Rattle.spec_network.specs.HostSteps.{after, after_all, start, Lawful}
use Rattle.spec_tcp.specs.Machine.{tcp, tcp_shape}
use Rattle.spec_tcp.specs.Steps.{rule_broken, world_after, broken_from, first_broken_step}
use Rattle.spec_tcp.specs.Forgetting.{forget}

-- the host's step builds a segment of an endpoint's stream
abbrev pub IfMaking : HostStep tcp_shape → Type 0 → Type 0
IfMaking (Does x) holds = Unit {0}
IfMaking (Expires line x) holds = Unit {0}
IfMaking (Makes x) holds = holds
IfMaking (Sends line number wire) holds = Unit {0}
IfMaking (Gets line copied wire) holds = Unit {0}
IfMaking (Hears line wire) holds = Unit {0}
IfMaking (Takes line how) holds = Unit {0}
IfMaking (Drops line) holds = Unit {0}
IfMaking (Answers line) holds = Unit {0}

-- the step is permitted, if it builds a segment of an endpoint's stream: its bytes are copied, and if it is permitted
-- none of them was discarded
abbrev pub MakesPermitted : Header → ℕ → World tcp_shape → Step tcp_shape → Type 0
MakesPermitted h moment w (Begin line t call) = Unit {0}
MakesPermitted h moment w (Finish line t answer) = Unit {0}
MakesPermitted h moment w (Effect t answer) = Unit {0}
MakesPermitted h moment w (At host host_step) = IfMaking host_step (Permitted (tcp h) moment w (At host host_step))

-- the tables of a host are exactly those of another
pub record SameTables (a b : HostState tcp_shape) : Type 0 where
  pub made : a.made ≡ b.made
  pub wire : a.wire ≡ b.wire
  pub inbox : a.inbox ≡ b.inbox

-- all except the hosts' bodies is exactly the same in both worlds
pub record SameBesides (v w : World tcp_shape) : Type 0 where
  pub tables : (host : Host) → SameTables (pick v.hosts host) (pick w.hosts host)
  pub threads : v.threads ≡ w.threads
  pub count : v.count ≡ w.count

-- in every world a step breaks the same rules before and after forgetting, and leaves the same kept state
pub record ForgettingIsFree : Type 0 where
  pub twice : (w : World tcp_shape) → forget (forget w) ≡ forget w
  pub rules : (h : Header) (moment : ℕ) (w : World tcp_shape) (step : Step tcp_shape) →
      step_rules (tcp h) moment (forget w) step ≡ step_rules (tcp h) moment w step
  pub next : (h : Header) (moment : ℕ) (w : World tcp_shape) (step : Step tcp_shape) → MakesPermitted h moment w step →
      forget (after (tcp h) moment (forget w) step) ≡ forget (after (tcp h) moment w step)
  pub besides : (h : Header) (moment : ℕ) (w : World tcp_shape) (step : Step tcp_shape)
      → MakesPermitted h moment w step →
      SameBesides (after (tcp h) moment (forget w) step) (after (tcp h) moment w step)

-- the world after these steps, each followed by forgetting
abbrev pub kept_run : Header → World tcp_shape → List (Stamped tcp_shape) → World tcp_shape
kept_run h w [] = w
kept_run h w (x ∷ xs) = kept_run h (forget (after (tcp h) x.moment w x.step)) xs

-- a run that forgets: each step is permitted in the kept world
abbrev pub KeptLawful : Header → World tcp_shape → List (Stamped tcp_shape) → Type 0
KeptLawful h w [] = Unit {0}
KeptLawful h w (x ∷ xs) =
    Permitted (tcp h) x.moment w x.step × KeptLawful h (forget (after (tcp h) x.moment w x.step)) xs

-- the place and the rule of the first step of a witness that breaks a rule, each step followed by forgetting
abbrev pub kept_broken_from : Header → List lines.Line → World tcp_shape → ℕ → List witness.Step → Option (ℕ × Rule)
kept_broken_from h all w place [] = None
kept_broken_from h all w place (s ∷ steps) =
    option_map_or (λ rule. Some (place, rule)) (rule_broken h all w s)
    (kept_broken_from h all (forget (world_after h all w s)) (suc place) steps)

-- a run that forgets is permitted if and only if the whole one is, ends in what is kept of its end, and breaks the same
-- rule first; the first step of a witness is in line 2
pub record RunsForget : Type 0 where
  pub starts : (h : Header) → forget (start (tcp h)) ≡ start (tcp h)
  pub lawful : (h : Header) (w : World tcp_shape) (steps : List (Stamped tcp_shape)) → KeptLawful h (forget w) steps
      ↔ Lawful (tcp h) w steps
  pub ends : (h : Header) (w : World tcp_shape) (steps : List (Stamped tcp_shape)) → Lawful (tcp h) w steps →
      kept_run h (forget w) steps ≡ forget (after_all (tcp h) w steps)
  pub breaks : (h : Header) (all : List lines.Line) (w : World tcp_shape) (place : ℕ) (steps : List witness.Step) →
      kept_broken_from h all (forget w) place steps ≡ broken_from h all w place steps
  pub first : (h : Header) (all : List lines.Line) (steps : List witness.Step)
      → kept_broken_from h all (start (tcp h)) 2 steps ≡ first_broken_step h all steps
