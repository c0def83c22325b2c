-- A segment arrives: who receives it, which rules apply, and the host afterwards (RFC 9293, 3.10.7).
pub mod OtherStates
pub mod SynSent
pub mod Listen
use Rattle.std.specs.Prelude.{ℕ, Bool, true, ◌&&◌, if◌then◌else◌, List, [], ◌∷◌, ◌++◌, slice_get}
use Rattle.std.specs.Option.{option_map_or}
use Rattle.case_forms.specs.States.{is_closed, is_syn_received, is_syn_sent}
use Rattle.case_forms.specs.declared.calls.Host.{Host}
use Rattle.case_forms.specs.declared.steps.TakeChoice.{TakeChoice}
use Rattle.case_forms.specs.declared.trace.Header.{Header}
use Rattle.verdict.specs.declared.rule.Rule.{Rule}
use Rattle.verdict.specs.declared.rule.Rule.TheVariants as rules
use Rattle.streams.specs.Lists.{modify}
use Rattle.spec_tcp.specs.Endpoints.{Endpoint, Emission, Listener}
use Rattle.spec_tcp.specs.HostTcp.{HostTcp, place_of, listener_on}
use Rattle.spec_tcp.specs.Heard.{as_read}
use Rattle.spec_tcp.specs.Arrives.OtherStates.Reset.{was_reset}
use Rattle.spec_tcp.specs.Arrives.OtherStates.Ack.{acknowledges_syn}
use Rattle.spec_tcp.specs.Arrives.OtherStates.{connected_rules, taken}
use Rattle.spec_tcp.specs.Arrives.SynSent.{syn_sent_rules, on_syn}
use Rattle.spec_tcp.specs.Arrives.Listen.{listener_rules, child}
use Rattle.spec_tcp.specs.Signals.{profile_of}

-- the receiver: the endpoint at the segment's ports, if that is not CLOSED, else the listener on its destination port
pub data Taker : Type 0 where
  Nobody : Taker
  AtListener : (place : ℕ) → Taker
  AtEndpoint : (place : ℕ) (endpoint : Endpoint) → Taker

abbrev pub listener_taker : HostTcp → Emission → Taker
listener_taker b m = option_map_or (λ l. AtListener l) (listener_on b m.rport) Nobody

abbrev pub endpoint_taker : HostTcp → Emission → ℕ → Taker
endpoint_taker b m i =
    option_map_or (λ e. if is_closed e.state then listener_taker b m else AtEndpoint i e)
    (slice_get b.endpoints i) (listener_taker b m)

abbrev pub taker : HostTcp → Emission → Taker
taker b m = option_map_or (endpoint_taker b m) (place_of b m.rport m.lport) (listener_taker b m)

-- the rules of processing at the endpoint of this place
abbrev pub endpoint_rules : Header → Host → HostTcp → TakeChoice → Emission → (moment : ℕ) → ℕ → Endpoint
    → List (Rule × Bool)
endpoint_rules h me b how m moment i e =
    if is_syn_sent e.state then syn_sent_rules e how m moment
    else connected_rules h b (record { host = me; number = i }) e how m moment

-- the rules of processing; an endpoint reads the segment first
abbrev pub taker_rules : Header → Host → HostTcp → TakeChoice → Emission → (moment : ℕ) → Taker
    → List (Rule × Bool)
taker_rules h me b how m moment Nobody = (rules.NoEndpoint, true) ∷ []
taker_rules h me b how m moment (AtListener l) = listener_rules how m
taker_rules h me b how m moment (AtEndpoint i e) = endpoint_rules h me b how (as_read h.version e m) moment i e

abbrev pub endpoint_taken : Header → Endpoint → TakeChoice → Emission → ℕ → Endpoint
endpoint_taken h e how m moment =
    if m.flags.rst then was_reset e how moment
    else if is_syn_sent e.state then on_syn h e how m moment else taken h e how m moment

-- a child whose SYN is acknowledged joins its listener's queue
abbrev pub joined : HostTcp → ℕ → Endpoint → Emission → List Listener
joined b i e m =
    if is_syn_received e.state && acknowledges_syn e m
    then option_map_or (λ l. modify b.listeners l (λ x. record x { queue = x.queue ++ i ∷ [] })) e.listener b.listeners
    else b.listeners

-- the host, once the endpoint of this place processed the segment
abbrev pub endpoint_after : Header → HostTcp → TakeChoice → Emission → ℕ → ℕ → Endpoint → HostTcp
endpoint_after h b how m moment i e =
    record b { endpoints = modify b.endpoints i (λ x. endpoint_taken h x how m moment); listeners = joined b i e m }

-- the host after processing
abbrev pub after_taking : Header → HostTcp → TakeChoice → Emission → ℕ → Taker → HostTcp
after_taking h b how m moment Nobody = b
after_taking h b how m moment (AtListener l) =
    record b { endpoints = b.endpoints ++ child (profile_of h) l how m moment ∷ [] }
after_taking h b how m moment (AtEndpoint i e) = endpoint_after h b how (as_read h.version e m) moment i e
