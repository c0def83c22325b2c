-- What the effect of a call shows.
use Rattle.std.proofs.Common.{◌≡◌, ℕ, Option, None, Some, refl}
use Rattle.std.specs.Option.{option_map_or}
use Rattle.case_forms.specs.declared.calls.Answer.{Answer}
use Rattle.case_forms.specs.declared.calls.Host.{Host}
use Rattle.case_forms.specs.declared.trace.Header.{Header}
use Rattle.spec_network.specs.Hosts.{World, Turn, Idle, Called, Answered}
use Rattle.spec_network.specs.Tables.{on}
use Rattle.spec_tcp.specs.Machine.{tcp_shape}
use Rattle.endpoint_state.specs.Turns.{pending_call}
use Rattle.spec_duties.specs.Observations.{observe_effect, observe_open, unseen}

pub effect_is : (h : Header) (w : World tcp_shape) (thread : ℕ) (answer : Answer) (u : Turn tcp_shape)
    → observe_effect h w thread answer u ≡ option_map_or (observe_open h w thread answer) (pending_call u) unseen
effect_is h w thread answer Idle = refl
effect_is h w thread answer (Called call) = refl
effect_is h w thread answer (Answered given) = refl

-- nothing, whoever the call applies to
pub observe_no : (o : Option Host) → on o unseen (λ (host : Host). unseen) ≡ unseen
observe_no None = refl
observe_no (Some host) = refl
