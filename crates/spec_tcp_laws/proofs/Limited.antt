-- No congestion window and no threshold is above the greatest, over a whole run.
use Rattle.std.proofs.Common.{◌≡◌, ℕ, ◌≤◌, Option, None, Some, refl, sym, subst, ap, ◌∙◌, arith}
use Rattle.std.proofs.lemmas.Option.{same_Some}
use Rattle.case_forms.specs.declared.trace.Header.{Header}
use Rattle.window_rules.specs.Control.{greatest}
use Rattle.window_rules.specs.ControlLaws.{IsLimited}
use Rattle.window_rules.specs.Windows.{greatest_window}
use Rattle.window_rules.specs.declared.control.At.{At}
use Rattle.window_rules.specs.declared.control.Control.{Control}
use Rattle.window_rules.specs.declared.control.Signal.{Signal}
use Rattle.window_rules.proofs.ControlLemmas.{threshold_greatest, window_greatest}
use Rattle.spec_network.specs.Hosts.{Step, World}
use Rattle.spec_network.specs.HostRules.{Permitted}
use Rattle.spec_network.specs.HostSteps.{after, start}
use Rattle.spec_tcp.specs.Heard.{as_read}
use Rattle.spec_tcp.specs.Machine.{tcp, tcp_shape}
use Rattle.spec_tcp.specs.Signals.{at_moment, recovery_signal, signal_of, timeout_signal}
use Rattle.spec_tcp.specs.declared.endpoint.Endpoint.{Endpoint}
use Rattle.spec_tcp_laws.specs.Consequences.{find}
use Rattle.spec_tcp_laws.specs.Judging.{ValuesAreLimited}
use Rattle.spec_tcp_laws.proofs.Runs.{nowhere}
use Rattle.spec_tcp_laws.proofs.Windows.{WindowsMove, both_step, expired, follow, recovered, stayed, taken}

pub limited_start : (h : Header) → ValuesAreLimited (start (tcp h))
limited_start h me e at = absurd (nowhere h me.host me.number e at)

-- what is at most the greatest value that a signal allows
window_fits : (c : Control) (s : Signal) (at : At) (cwnd : ℕ) → IsLimited c → cwnd ≤ (greatest c s at).0 → cwnd ≤ greatest_window
window_fits c s at cwnd limited le = ((window_greatest c s at limited cwnd).1 le).1

threshold_fits : (c : Control) (s : Signal) (at : At) (ssthresh : ℕ) → IsLimited c → ssthresh ≤ (greatest c s at).1 → ssthresh ≤ greatest_window
threshold_fits c s at ssthresh limited le = ((threshold_greatest c s at limited ssthresh).1 le).1

-- each kind of step leaves values that are limited
pub limited_step : (h : Header) (s : ℕ) (w : World tcp_shape) (step : Step tcp_shape) → ValuesAreLimited w → Permitted (tcp h) s w step
    → ValuesAreLimited (after (tcp h) s w step)
limited_step h s w step limited may me f at = by (find w.hosts me) refl
  where
    -- the endpoint that a law leaves is the one that is there
    one : (g : Endpoint) → find (after (tcp h) s w step).hosts me ≡ Some g → g ≡ f
    one g there = same_Some g f (sym there ∙ at)

    go : (e : Endpoint) → find w.hosts me ≡ Some e → (g : Endpoint) → g ≡ f → WindowsMove w step me e g → IsLimited f.control
    go e there g same (stayed stays) = subst (λ (c : Control). IsLimited c) (sym stays ∙ ap (λ (x : Endpoint). x.control) same) (limited me e there)
    go e there g same (taken m takes p) =
        let x = (follow h s w step may).takes me e m there takes in
        let kept : x.0.control.values.ssthresh ≤ greatest_window = subst (λ n. n ≤ greatest_window) (sym x.2.1) (limited me e there).ssthresh in
        subst (λ (y : Endpoint). IsLimited y.control) (one x.0 x.1)
        (record {
          cwnd =
              window_fits e.control (signal_of e (as_read h.version e m)) (at_moment e s) x.0.control.values.cwnd (limited me e there) x.2.0;
          ssthresh = kept;
        })
    go e there g same (expired times p) =
        let x = (follow h s w step may).times_out me e there times in
        subst (λ (y : Endpoint). IsLimited y.control) (one x.0 x.1)
        (record {
          cwnd = window_fits e.control (timeout_signal e) (at_moment e s) x.0.control.values.cwnd (limited me e there) x.2.0;
          ssthresh = threshold_fits e.control (timeout_signal e) (at_moment e s) x.0.control.values.ssthresh (limited me e there) x.2.1;
        })
    go e there g same (recovered recovers p) =
        let x = (follow h s w step may).recovers me e there recovers in
        let signal : Signal = recovery_signal e x.0.control.values.ssthresh in
        subst (λ (y : Endpoint). IsLimited y.control) (one x.0 x.1)
        (record {
          cwnd = window_fits e.control signal (at_moment e s) x.0.control.values.cwnd (limited me e there) x.2.1;
          ssthresh = threshold_fits e.control signal (at_moment e s) x.0.control.values.ssthresh (limited me e there) x.2.0;
        })

    by : (o : Option Endpoint) → find w.hosts me ≡ o → IsLimited f.control
    by None none =
        let x = (follow h s w step may).begins me f none at in
        record { cwnd = subst (λ n. n ≤ greatest_window) (sym x.0) (omega arith); ssthresh = subst (λ n. n ≤ greatest_window) (sym x.1) (omega arith) }
    by (Some e) there = let x = ((both_step h s w step may).all me.host).onward me.number e there in go e there x.0 (one x.0 x.1) x.2
