-- The rules of a step of two hosts, lowest-numbered first.
use Rattle.std.specs.Prelude.{◌≡◌, ℕ, nat_eq, Bool, true, false, not, if◌then◌else◌, List, [], ◌∷◌, ◌++◌, Option, None}
use Rattle.std.specs.Prelude.{Some}
use Rattle.std.specs.Map.{lookup}
use Rattle.case_forms.specs.declared.calls.Host.{Host}
use Rattle.case_forms.specs.declared.calls.Host.TheVariants.{Zero, One}
use Rattle.verdict.specs.declared.rule.Rule.{Rule}
use Rattle.verdict.specs.declared.rule.Rule.TheVariants as rules
use Rattle.verdict.specs.Rules.{first_broken}
use Rattle.spec_network.specs.Tables.{Both, Made, pick, other, on, waiting}
use Rattle.spec_network.specs.Hosts.{Aim, ThatHost, ThatSocket, Shape, Kernel, HostState, Turn, Idle, Called, Answered}
use Rattle.spec_network.specs.Hosts.{World, HostStep, Does, Expires, Makes, Sends, Gets, Hears, Takes, Drops, Answers}
use Rattle.spec_network.specs.Hosts.{Step}
use Rattle.spec_network.specs.Hosts.{Begin, Finish, Effect, At, turn_of}

-- one rule alone
abbrev pub just : Rule → Bool → List (Rule × Bool)
just rule broken = (rule, broken) ∷ []

-- the rules of sending a segment built under that number: it matches the built one, and was not sent before
abbrev pub made_rules : {E W : Type 0} → (W → E → List (Rule × Bool)) → W → Made E → List (Rule × Bool)
made_rules out_rules wire m = out_rules wire m.emission ++ just rules.NotMade m.sent

abbrev pub sending_rules : {E W : Type 0} → (W → E → List (Rule × Bool)) → List (ℕ × Made E) → ℕ → W
    → List (Rule × Bool)
sending_rules out_rules made number wire =
    on (lookup (nat_eq number) made) (just rules.NotMade true) (made_rules out_rules wire)

-- the rules of a segment that arrives, as a copy of that line of the other host, whose wire is `far`
abbrev pub arrival_rules : {E W : Type 0} → (W → E → List (Rule × Bool)) → List (ℕ × E) → ℕ → W → List (Rule × Bool)
arrival_rules in_rules far copied wire = on (lookup (nat_eq copied) far) (just rules.NoEmission true) (in_rules wire)

-- the rules of a step of this host; `far` is the wire of the other host
abbrev pub host_step_rules : (k : Kernel) → Host → ℕ → List (ℕ × k.shape.Emission) → HostState k.shape
    → HostStep k.shape
    → List (Rule × Bool)
host_step_rules k me moment far h (Does x) = k.act_rules me moment h.body (k.does x)
host_step_rules k me moment far h (Expires line x) = k.act_rules me moment h.body (k.expires x)
host_step_rules k me moment far h (Makes x) = k.act_rules me moment h.body (k.making x)
host_step_rules k me moment far h (Sends line number wire) = sending_rules k.out_rules h.made number wire
host_step_rules k me moment far h (Gets line copied wire) = arrival_rules (k.in_rules moment) far copied wire
host_step_rules k me moment far h (Hears line wire) = just rules.NoEmission (not k.half)
host_step_rules k me moment far h (Takes line how) =
    on (waiting line h.inbox) (just rules.Inbox true) (λ e. k.act_rules me moment h.body (k.takes how e))
host_step_rules k me moment far h (Drops line) = on (waiting line h.inbox) (just rules.Inbox true) (λ e. [])
host_step_rules k me moment far h (Answers line) =
    on (waiting line h.inbox) (just rules.Inbox true) (λ e. k.act_rules me moment h.body (k.answers e))

-- the host that a call applies to: for a socket number, the host that returned it
abbrev pub aim_of : (k : Kernel) → Both (HostState k.shape) → Aim → Option Host
aim_of k hosts (ThatHost host) = Some host
aim_of k hosts (ThatSocket n) =
    if k.given hosts.zero.body n then Some Zero else if k.given hosts.one.body n then Some One else None

-- a new socket number was returned by neither host before
abbrev pub fresh_rules : (k : Kernel) → Both (HostState k.shape) → Option ℕ → List (Rule × Bool)
fresh_rules k hosts None = []
fresh_rules k hosts (Some n) = (rules.Socket, k.given hosts.zero.body n) ∷ just rules.Socket (k.given hosts.one.body n)

-- the rules of a call's effect, at the host that the call applies to
abbrev pub call_rules : (k : Kernel) → ℕ → Both (HostState k.shape) → k.shape.Call → k.shape.Answer → Option Host
    → List (Rule × Bool)
call_rules k moment hosts call answer None =
    fresh_rules k hosts (k.gives call answer) ++ just rules.CallAnswer (not (k.stray call answer))
call_rules k moment hosts call answer (Some host) =
    fresh_rules k hosts (k.gives call answer) ++ k.act_rules host moment (pick hosts host).body (k.calls call answer)

-- the thread is in no call
abbrev pub is_idle : {s : Shape} → Turn s → Bool
is_idle Idle = true
is_idle (Called call) = false
is_idle (Answered answer) = false

-- the thread's call had its effect
abbrev pub is_answered : {s : Shape} → Turn s → Bool
is_answered Idle = false
is_answered (Called call) = false
is_answered (Answered answer) = true

-- the open call had no effect yet, or one with another answer
abbrev pub answer_differs : {s : Shape} → (s.Answer → s.Answer → Bool) → Turn s → s.Answer → Bool
answer_differs differs Idle answer = false
answer_differs differs (Called call) answer = true
answer_differs differs (Answered given) answer = differs given answer

-- the beginning of a call: the thread is in no other
abbrev pub begin_rules : {s : Shape} → Turn s → List (Rule × Bool)
begin_rules u = (rules.ThreadBusy, not (is_idle u)) ∷ []

-- the end of a call: it is open, and had its effect with this answer
abbrev pub end_rules : {s : Shape} → (s.Answer → s.Answer → Bool) → Turn s → s.Answer → List (Rule × Bool)
end_rules differs u answer = (rules.NoCall, is_idle u) ∷ (rules.AnswerDiffers, answer_differs differs u answer) ∷ []

-- the rules of an effect before those of the call itself: a call is open, and had no effect yet
abbrev pub pending_rules : {s : Shape} → Turn s → List (Rule × Bool)
pending_rules u = (rules.NoCall, is_idle u) ∷ (rules.DoneTwice, is_answered u) ∷ []

-- the rules of the open call
abbrev pub open_rules : (k : Kernel) → ℕ → Both (HostState k.shape) → Turn k.shape → k.shape.Answer → List (Rule × Bool)
open_rules k moment hosts Idle answer = []
open_rules k moment hosts (Called call) answer = call_rules k moment hosts call answer (aim_of k hosts (k.aim call))
open_rules k moment hosts (Answered given) answer = []

-- the effect of a call: it is open, had none yet, and may have this answer
abbrev pub effect_rules : (k : Kernel) → ℕ → Both (HostState k.shape) → Turn k.shape → k.shape.Answer
    → List (Rule × Bool)
effect_rules k moment hosts u answer = pending_rules u ++ open_rules k moment hosts u answer

-- the rules of a step
abbrev pub step_rules : (k : Kernel) → ℕ → World k.shape → Step k.shape → List (Rule × Bool)
step_rules k moment w (Begin line t call) = begin_rules (turn_of t w.threads)
step_rules k moment w (Finish line t answer) = end_rules k.differs (turn_of t w.threads) answer
step_rules k moment w (Effect t answer) = effect_rules k moment w.hosts (turn_of t w.threads) answer
step_rules k moment w (At host d) = host_step_rules k host moment (pick w.hosts (other host)).wire (pick w.hosts host) d

-- no rule is broken
abbrev pub Permitted : (k : Kernel) → ℕ → World k.shape → Step k.shape → Type 0
Permitted k moment w step = first_broken (step_rules k moment w step) ≡ None
