-- A case in its parts, and what is noted of a step in them.
use Rattle.std.specs.Prelude.{◌≡◌, ℕ, ◌⊎◌, nat_lt, Bool, false, not, ◌&&◌, if◌then◌else◌, Option, None, Some, is_some}
use Rattle.std.specs.Prelude.{Result, Ok, Err}
use Rattle.std.specs.Option.{option_map_or}
use Rattle.case_forms.specs.Versions.{says_sender}
use Rattle.case_forms.specs.declared.trace.Header.{Header}
use Rattle.verdict.specs.Rules.{rule_number}
use Rattle.verdict.specs.declared.rule.Rule.{Rule}
use Rattle.spec_network.specs.Hosts.{Step, World}
use Rattle.spec_tcp.specs.Machine.{tcp_shape}
use Rattle.spec_duties.specs.Observations.{observe, unseen}
use Rattle.endpoint_state.specs.Worlds.{Progress}
use Rattle.endpoint_state.specs.declared.fault.StepFault.{StepFault}
use Rattle.endpoint_state.specs.declared.fault.StepFault.TheVariants.{Broken, OutOfMemory}
use Rattle.spec_duties.specs.Watching.{Duties}
use Rattle.spec_flights.specs.Flights.{Flights}
use Rattle.spec_cases.specs.Cases.{Known, Watched}

-- what is known of a case by its world, by what is kept of data in flight, and by what its hosts owe
abbrev pub known_of : Progress → Flights → Duties → Known
known_of p fs d = record { model = p.world; flights = fs; duties = d }

-- the case itself
abbrev pub case_of : Progress → Flights → Duties → Watched
case_of p fs d = record { header = p.header; world = known_of p fs d; steps = p.steps }

-- of two rules that a step breaks, the one with the lower number
abbrev pub lesser : Rule → Rule → Rule
lesser refused rule = if nat_lt (rule_number rule) (rule_number refused) then rule else refused

-- the same if the model may break none, and what is kept of data in flight may refuse it by none
abbrev pub least_broken : (refusal : Option Rule) → Option Rule → Option Rule
least_broken None broken = broken
least_broken (Some refused) None = Some refused
least_broken (Some refused) (Some rule) = Some (lesser refused rule)

-- what is answered of a step of the model that is refused so
abbrev pub refused_fault : {A : Type 0} → Rule → Result A StepFault → StepFault
refused_fault refused (Ok x) = Broken refused
refused_fault refused (Err (Broken rule)) = Broken (lesser refused rule)
refused_fault refused (Err OutOfMemory) = OutOfMemory

abbrev pub with_refusal : {A : Type 0} → (refusal : Option Rule) → Result A StepFault → Result A StepFault
with_refusal None done = done
with_refusal (Some refused) done = Err (refused_fault refused done)

-- nothing is kept or judged beside the model: no duty, since the header says `any`, nor data in flight, which versions
-- 1 to 5 don't watch
abbrev pub is_bare : Header → Bool
is_bare h = not (is_some h.slack) && not (says_sender h.version)

-- nothing is kept or judged of a step, if there is one: of no step, or this one shows nothing in versions 1 to 5
abbrev pub IsPlain : Header → Option (Step tcp_shape) → Type 0
IsPlain h asked = (says_sender h.version ≡ false)
    × ((h.slack ≡ None)
    ⊎ ((moment : ℕ) (w : World tcp_shape) → option_map_or (observe h moment w) asked unseen ≡ unseen))
