-- What a yes with a slack says in version 6 of round trips: each flight of data is measured, unless it was
-- retransmitted (RFC 6298, 3).
use Rattle.std.specs.Prelude.{◌≡◌, ◌⊎◌, ◌-◌, ◌<◌, ℕ, suc, true, false, Some}
use Rattle.case_forms.specs.declared.steps.Label.TheVariants as labels
use Rattle.case_forms.specs.declared.steps.SegmentPlan.{SegmentPlan}
use Rattle.case_forms.specs.declared.steps.TakeChoice.{TakeChoice}
use Rattle.case_forms.specs.declared.steps.Witness.{Witness}
use Rattle.case_forms.specs.declared.trace.Trace.{Trace}
use Rattle.spec_network.specs.HostRules.{Permitted}
use Rattle.spec_network.specs.Hosts.{At, Takes}
use Rattle.spec_network.specs.Tables.{pick, waiting}
use Rattle.spec_tcp.specs.Arrives.{AtEndpoint, taker}
use Rattle.spec_tcp.specs.Heard.{as_read}
use Rattle.spec_tcp.specs.Machine.{tcp}
use Rattle.spec_tcp.specs.Makes.Payload.{making_length}
use Rattle.spec_tcp.specs.declared.endpoint.Emission.{Emission}
use Rattle.spec_tcp.specs.declared.endpoint.Endpoint.{Endpoint}
use Rattle.spec_tcp.specs.declared.endpoint.EndpointId.{EndpointId}
use Rattle.spec_duties.specs.declared.events.Event.{Event}
use Rattle.spec_duties.specs.declared.events.Event.TheVariants.{Builds}
use Rattle.kept_duties.specs.Happens.{Happens, seen_before, world_before}
use Rattle.kept_duties.specs.Places.{IsStep}

-- the `T` step at this place measures a round trip at the endpoint
pub record MeasuresAt (t : Trace) (w : Witness) (place : ℕ) (me : EndpointId) : Type 0 where
  pub moment : ℕ
  pub line : ℕ
  pub how : TakeChoice
  pub event : Event
  pub step : IsStep w place moment (labels.T me.host line how)
  pub happens : Happens t w place moment me event
  pub measures : how.sample ≡ true

-- the `M` step at this place builds positions of the endpoint again
pub record RebuildsAt (t : Trace) (w : Witness) (place : ℕ) (me : EndpointId) : Type 0 where
  pub moment : ℕ
  pub plan : SegmentPlan
  pub happens : Happens t w place moment me (Builds plan)
  pub some : 0 < making_length plan
  pub again : plan.pos < (seen_before t w place me).snd_max

-- the `T` step at this place processes a segment without RST at the endpoint, and measures nothing, though the same
-- step with a sample would break no rule
pub record SkipsAt (t : Trace) (w : Witness) (place moment : ℕ) (me : EndpointId) (e : Endpoint) (m : Emission) : Type 0
  where
    pub line : ℕ
    pub how : TakeChoice
    pub step : IsStep w place moment (labels.T me.host line how)
    pub skips : how.sample ≡ false
    pub waits : waiting line (pick (world_before t w place).hosts me.host).inbox ≡ Some m
    pub comes : taker (pick (world_before t w place).hosts me.host).body m ≡ AtEndpoint me.number e
    pub plain : m.flags.rst ≡ false
    pub could : Permitted (tcp t.header) moment (world_before t w place)
        (At me.host (Takes line (record how { sample = true })))

-- an earlier step of the endpoint measured a round trip, or built positions again, and this position had been built
-- before it, or by it
pub record IsTimed (t : Trace) (w : Witness) (place : ℕ) (me : EndpointId) (position : ℕ) : Type 0 where
  pub earlier : ℕ
  pub before : earlier < place
  pub does : MeasuresAt t w earlier me ⊎ RebuildsAt t w earlier me
  pub built : position < (seen_before t w (suc earlier) me).snd_max

-- so the last position that a segment acknowledges had been built before the last measurement, or before data went
-- again, if nothing is measured. The endpoint reads the segment by the numbers that it knows
abbrev pub SamplesAreTaken : Trace → Witness → Type 0
SamplesAreTaken t w =
    (place moment : ℕ) (me : EndpointId) (e : Endpoint) (m : Emission) → SkipsAt t w place moment me e m
    → IsTimed t w place me ((as_read t.header.version e m).ack - 1)
