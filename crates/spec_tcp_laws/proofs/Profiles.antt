-- By which RFC the congestion control of an endpoint goes, over a whole run.
use Rattle.std.proofs.Common.{◌≡◌, ℕ, List, [], ◌∷◌, Option, Some, None, refl, sym, subst, ◌∙◌}
use Rattle.std.proofs.lemmas.Option.{same_Some}
use Rattle.case_forms.specs.declared.trace.Header.{Header}
use Rattle.spec_network.specs.Hosts.{World, Step, Stamped}
use Rattle.spec_network.specs.HostRules.{Permitted}
use Rattle.spec_network.specs.HostSteps.{after, after_all, start, Lawful}
use Rattle.spec_tcp.specs.declared.endpoint.Endpoint.{Endpoint}
use Rattle.spec_tcp.specs.Signals.{profile_of}
use Rattle.spec_tcp.specs.Machine.{tcp, tcp_shape}
use Rattle.spec_tcp_laws.specs.Consequences.{find}
use Rattle.spec_tcp_laws.specs.Bounds.{ProfilesAreNamed}
use Rattle.spec_tcp_laws.proofs.Runs.{nowhere}
use Rattle.spec_tcp_laws.proofs.Windows.{follow}

pub named_start : (h : Header) → ProfilesAreNamed h (start (tcp h))
named_start h me e at = absurd (nowhere h me.host me.number e at)

-- an endpoint keeps its profile, and a new one begins with the header's
pub named_step : (h : Header) (s : ℕ) (w : World tcp_shape) (step : Step tcp_shape) → ProfilesAreNamed h w → Permitted (tcp h) s w step
    → ProfilesAreNamed h (after (tcp h) s w step)
named_step h s w step named may me f at = by (find w.hosts me) refl
  where
    by : (o : Option Endpoint) → find w.hosts me ≡ o → f.control.profile ≡ profile_of h
    by None none = ((follow h s w step may).begins me f none at).2
    by (Some e) there =
        let x = (follow h s w step may).profile me e there in
        let one : x.0 ≡ f = same_Some x.0 f (sym x.1 ∙ at) in
        subst (λ (g : Endpoint). g.control.profile ≡ profile_of h) one (x.2 ∙ named me e there)

named_run : (h : Header) (w : World tcp_shape) (steps : List (Stamped tcp_shape)) → ProfilesAreNamed h w → Lawful (tcp h) w steps
    → ProfilesAreNamed h (after_all (tcp h) w steps)
named_run h w [] named may = named
named_run h w (x ∷ xs) named may = named_run h (after (tcp h) x.moment w x.step) xs (named_step h x.moment w x.step named may.0) may.1

pub named : (h : Header) (steps : List (Stamped tcp_shape)) → Lawful (tcp h) (start (tcp h)) steps
    → ProfilesAreNamed h (after_all (tcp h) (start (tcp h)) steps)
named h steps may = named_run h (start (tcp h)) steps (named_start h) may
