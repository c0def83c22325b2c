-- What a yes with a slack says of resets: by when one is sent after `abort`, or after a listener was closed whose child
-- isn't accepted yet (RFC 9293, 3.10.5). Moments and slacks are in microseconds.
use Rattle.std.specs.Prelude.{◌≡◌, ◌⊎◌, ◌+◌, ◌<◌, ◌==◌, ℕ, suc, Bool, true, false, ◌&&◌, Some}
use Rattle.std.specs.Option.{option_map_or}
use Rattle.case_forms.specs.declared.calls.Host.{Host}
use Rattle.case_forms.specs.declared.steps.Witness.{Witness}
use Rattle.case_forms.specs.declared.trace.Trace.{Trace}
use Rattle.spec_network.specs.Hosts.{Stamped}
use Rattle.spec_tcp.specs.Machine.{tcp_shape}
use Rattle.spec_tcp.specs.declared.endpoint.EndpointId.{EndpointId}
use Rattle.spec_duties.specs.Observations.{observe}
use Rattle.spec_duties.specs.declared.events.Event.{Event}
use Rattle.spec_duties.specs.declared.events.Event.TheVariants.{Calls, Sends}
use Rattle.spec_duties.specs.declared.observations.Queueing.TheVariants.{Closes}
use Rattle.spec_duties.specs.declared.views.View.{View}
use Rattle.kept_duties.specs.Happens.{Happens, act_at, seen_before, world_before}
use Rattle.kept_duties.specs.Segments.{EndsBy}
use Rattle.kept_duties.specs.Soon.{HappensBy}

-- a segment with RST is sent
abbrev pub SendsReset : Event → (before after : View) → Type 0
SendsReset (Sends s) before after = s.flags.rst ≡ true
SendsReset event before after = ⊥

-- after `abort` of a connection that then has to be reset, a segment with RST is sent within the slack, or the witness
-- ends
abbrev pub AbortsAreReset : Trace → Witness → (slack : ℕ) → Type 0
AbortsAreReset t w slack =
    (place moment : ℕ) (me : EndpointId) → Happens t w place moment me (Calls true)
    → (seen_before t w (suc place) me).resets ≡ true
    → HappensBy t w place (moment + slack) me SendsReset ⊎ EndsBy w (moment + slack)

-- the step at this place closes a listener, as `observe` shows it of the model
pub record ClosesListener (t : Trace) (w : Witness) (place moment : ℕ) (host : Host) (listener : ℕ) : Type 0 where
  pub act : Stamped tcp_shape
  pub is : act_at t w place ≡ Some act
  pub time : act.moment ≡ moment
  pub closes : (observe t.header act.moment (world_before t w place) act.step).queueing ≡ Closes host listener

-- a child of this listener that isn't accepted yet has to be reset
abbrev pub awaits_reset : (listener : ℕ) → View → Bool
awaits_reset listener v = v.resets && option_map_or (λ l. l == listener) v.listener false

-- a later step that does nothing at the endpoint ends this
pub record EndsQuietly (t : Trace) (w : Witness) (place : ℕ) (me : EndpointId) (Is : View → Bool) : Type 0 where
  pub later : ℕ
  pub behind : place < later
  pub before : Is (seen_before t w later me) ≡ true
  pub after : Is (seen_before t w (suc later) me) ≡ false
  pub quiet : (moment : ℕ) (event : Event) → Happens t w later moment me event → ⊥

-- once a listener is closed for the last time, each child that then has to be reset sends a segment with RST within the
-- slack; unless a step that does nothing at the child ends this, or the witness ends
abbrev pub ChildrenAreReset : Trace → Witness → (slack : ℕ) → Type 0
ChildrenAreReset t w slack =
    (place moment listener : ℕ) (me : EndpointId) → ClosesListener t w place moment me.host listener
    → ((later now : ℕ) → place < later → ClosesListener t w later now me.host listener → ⊥)
    → awaits_reset listener (seen_before t w (suc place) me) ≡ true
    → HappensBy t w place (moment + slack) me SendsReset ⊎ EndsQuietly t w place me (awaits_reset listener)
    ⊎ EndsBy w (moment + slack)
