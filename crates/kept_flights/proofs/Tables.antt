-- What is true of each segment in the tables of two recorded hosts, by how it came there.
use Rattle.std.proofs.Common.{◌≡◌, ℕ, suc, false, Option, Some, None, refl, nat_eq}
use Rattle.std.specs.Map.{lookup}
use Rattle.indexmap.specs.IndexMap.{insert_entry}
use Rattle.case_forms.specs.Versions.{is_half}
use Rattle.case_forms.specs.declared.calls.Call.{Call}
use Rattle.case_forms.specs.declared.calls.Host.{Host}
use Rattle.case_forms.specs.declared.steps.SegmentPlan.{SegmentPlan}
use Rattle.case_forms.specs.declared.trace.Header.{Header}
use Rattle.case_forms.specs.declared.trace.Wire.{Wire}
use Rattle.spec_network.specs.HostRules.{Permitted, aim_of}
use Rattle.spec_network.specs.Hosts.{HostState, Turn, Idle, Called, Answered, World, HostStep, Does, Expires, Makes, Sends}
use Rattle.spec_network.specs.Hosts.{Gets, Hears, Takes, Drops, Answers, Step, Begin, Finish, Effect, At, turn_of}
use Rattle.spec_network.specs.HostSteps.{after, call_after, effect_after, host_step_after}
use Rattle.spec_network.specs.Tables.{Made, gone_out, on, other, pick, settled, unsent, waiting}
use Rattle.spec_tcp.specs.Machine.{Calls, act_makes, tcp, tcp_shape}
use Rattle.spec_tcp.specs.Machine as acts
use Rattle.spec_tcp.specs.Reset.{reset_of}
use Rattle.spec_tcp.specs.Wire.{sent}
use Rattle.spec_tcp.specs.declared.endpoint.Emission.{Emission}
use Rattle.spec_tcp_laws.proofs.Moves.{with_cases}
use Rattle.spec_tcp_laws.proofs.Steps.{heard_nothing}
use Rattle.spec_tcp_laws.proofs.Tables.{AllIn, all_insert, inbox_join, inbox_settled}

-- each segment that a host built, and each that was sent, has a property
pub record Filled (M W : Emission → Type 0) (k : HostState tcp_shape) : Type 0 where
  pub made : AllIn (λ (x : Made Emission). M x.emission) k.made
  pub wire : AllIn W k.wire
  pub inbox : (n : ℕ) (m : Emission) → waiting n k.inbox ≡ Some m → W m

-- what a step adds has it, too
pub record Adds (h : Header) (moment : ℕ) (w : World tcp_shape) (step : Step tcp_shape) (M : Host → Emission → Type 0) (W : Emission → Type 0)
    : Type 0 where
  pub makes : (host : Host) (m : SegmentPlan) (x : Emission) → step ≡ At host (Makes m)
      → act_makes host moment (pick w.hosts host).body (acts.Makes m) ≡ Some x → M host x
  pub resets : (host : Host) (x : Emission) → M host (reset_of x)
  pub sends : (host : Host) (line number : ℕ) (wire : Wire) (x : Made Emission) → step ≡ At host (Sends line number wire)
      → lookup (nat_eq number) (pick w.hosts host).made ≡ Some x → M host x.emission → W (sent moment wire x.emission)

module _ (h : Header) (whole : is_half h.version ≡ false) (moment : ℕ) (w : World tcp_shape) (M : Host → Emission → Type 0) (W : Emission → Type 0) where
  abbrev AllFilled : Type 0
  AllFilled = (x : Host) → Filled (M x) W (pick w.hosts x)

  module _ (host : Host) (old : AllFilled) where
    abbrev k : HostState tcp_shape
    k = pick w.hosts host

    made_after : (fresh : ℕ) (o : Option Emission) → ((x : Emission) → o ≡ Some x → M host x)
        → AllIn (λ (x : Made Emission). M host x.emission) (on o k.made (λ x. insert_entry nat_eq k.made fresh (unsent x)))
    made_after fresh None new = (old host).made
    made_after fresh (Some x) new = all_insert (λ (y : Made Emission). M host y.emission) k.made fresh (unsent x) (new x refl) (old host).made

    inbox_after : (line : ℕ) (o : Option Emission) → (n : ℕ) (m : Emission) → waiting n (on o k.inbox (λ e. settled line k.inbox)) ≡ Some m → W m
    inbox_after line None = (old host).inbox
    inbox_after line (Some x) = inbox_settled W k.inbox line (old host).inbox

    gone : (number : ℕ) (o : Option (Made Emission)) → lookup (nat_eq number) k.made ≡ o
        → AllIn (λ (x : Made Emission). M host x.emission) (on o k.made (λ m. insert_entry nat_eq k.made number (gone_out m)))
    gone number None is = (old host).made
    gone number (Some x) is =
        all_insert (λ (y : Made Emission). M host y.emission) k.made number (gone_out x) ((old host).made number x is) (old host).made

    on_wire : (line number : ℕ) (wire : Wire) (o : Option (Made Emission)) → lookup (nat_eq number) k.made ≡ o
        → ((x : Made Emission) → o ≡ Some x → M host x.emission → W (sent moment wire x.emission))
        → AllIn W (on o k.wire (λ m. insert_entry nat_eq k.wire line (sent moment wire m.emission)))
    on_wire line number wire None is new = (old host).wire
    on_wire line number wire (Some x) is new =
        all_insert W k.wire line (sent moment wire x.emission) (new x refl ((old host).made number x is)) (old host).wire

    arrived : (line copied : ℕ) (o : Option Emission) → lookup (nat_eq copied) (pick w.hosts (other host)).wire ≡ o
        → (n : ℕ) (m : Emission) → waiting n (on o k.inbox (λ e. insert_entry nat_eq k.inbox line (Some e))) ≡ Some m → W m
    arrived line copied None is = (old host).inbox
    arrived line copied (Some x) is = inbox_join W k.inbox line x ((old (other host)).wire copied x is) (old host).inbox

    filled_host : (d : HostStep tcp_shape) → Permitted (tcp h) moment w (At host d) → Adds h moment w (At host d) M W
        → Filled (M host) W (host_step_after (tcp h) host moment (suc w.count) (pick w.hosts (other host)).wire k d)
    filled_host (Does x) may adds = record { made = (old host).made; wire = (old host).wire; inbox = (old host).inbox }
    filled_host (Expires line x) may adds = record { made = (old host).made; wire = (old host).wire; inbox = (old host).inbox }
    filled_host (Makes m) may adds = record {
      made = made_after (suc w.count) (act_makes host moment k.body (acts.Makes m)) (λ x is. adds.makes host m x refl is);
      wire = (old host).wire;
      inbox = (old host).inbox;
    }
    filled_host (Sends line number wire) may adds = record {
      made = gone number (lookup (nat_eq number) k.made) refl;
      wire = on_wire line number wire (lookup (nat_eq number) k.made) refl (λ x is. adds.sends host line number wire x refl is);
      inbox = (old host).inbox;
    }
    filled_host (Gets line copied wire) may adds = record {
      made = (old host).made;
      wire = (old host).wire;
      inbox = arrived line copied (lookup (nat_eq copied) (pick w.hosts (other host)).wire) refl;
    }
    filled_host (Hears line wire) may adds = absurd (heard_nothing h whole may)
    filled_host (Takes line how) may adds =
        record { made = (old host).made; wire = (old host).wire; inbox = inbox_after line (waiting line k.inbox) }
    filled_host (Drops line) may adds =
        record { made = (old host).made; wire = (old host).wire; inbox = inbox_after line (waiting line k.inbox) }
    filled_host (Answers line) may adds = record {
      made = answered (waiting line k.inbox);
      wire = (old host).wire;
      inbox = inbox_after line (waiting line k.inbox);
    }
      where
        answered : (o : Option Emission)
            → AllIn (λ (x : Made Emission). M host x.emission) (on o k.made (λ e. insert_entry nat_eq k.made (suc w.count) (unsent (reset_of e))))
        answered None = (old host).made
        answered (Some x) =
            all_insert (λ (y : Made Emission). M host y.emission) k.made (suc w.count) (unsent (reset_of x)) (adds.resets host x) (old host).made

  pub filled_step : (step : Step tcp_shape) → Permitted (tcp h) moment w step → AllFilled → Adds h moment w step M W
      → (x : Host) → Filled (M x) W (pick (after (tcp h) moment w step).hosts x)
  filled_step (Begin line t call) may old adds = old
  filled_step (Finish line t answer) may old adds = old
  filled_step (Effect t answer) may old adds = go (turn_of t w.threads)
    where
      by : (call : Call) (o : Option Host) → (x : Host) → Filled (M x) W (pick (call_after (tcp h) moment w.hosts (Calls call answer) o) x)
      by call None = old
      by call (Some host) =
          with_cases w.hosts host (record (pick w.hosts host) { body = (tcp h).act_after host moment (pick w.hosts host).body (Calls call answer) })
          (λ x y. Filled (M x) W y) (record { made = (old host).made; wire = (old host).wire; inbox = (old host).inbox }) (old (other host))

      go : (u : Turn tcp_shape) → (x : Host) → Filled (M x) W (pick (effect_after (tcp h) moment w t answer u).hosts x)
      go Idle = old
      go (Called call) = by call (aim_of (tcp h) w.hosts (acts.aim call))
      go (Answered y) = old
  filled_step (At host d) may old adds =
      with_cases w.hosts host (host_step_after (tcp h) host moment (suc w.count) (pick w.hosts (other host)).wire (pick w.hosts host) d)
      (λ x y. Filled (M x) W y) (filled_host host old d may adds) (old (other host))
