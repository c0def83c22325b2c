-- Every rule but the level's own is the same at every level of congestion control.
use Rattle.std.specs.Prelude.{◌≡◌, ◌≤◌, ◌⊎◌, ℕ, Bool, true, false, if◌then◌else◌, List, [], ◌∷◌}
use Rattle.std.specs.Prelude.{None, Some}
use Rattle.case_forms.specs.Versions.{says_sender}
use Rattle.case_forms.specs.declared.calls.Host.{Host}
use Rattle.case_forms.specs.declared.steps.TakeChoice.{TakeChoice}
use Rattle.case_forms.specs.declared.trace.Header.{Header}
use Rattle.case_forms.specs.declared.version.Judged.{Judged}
use Rattle.case_forms.specs.declared.version.Version.{Version}
use Rattle.case_forms.specs.declared.timer.RecoveryChange.TheVariants.{Begins}
use Rattle.verdict.specs.declared.rule.Rule.{Rule}
use Rattle.verdict.specs.declared.rule.Rule.TheVariants as rules
use Rattle.verdict.specs.Rules.{first_broken}
use Rattle.window_rules.specs.Control.{counts_duplicates}
use Rattle.spec_network.specs.Hosts.{Step, World}
use Rattle.spec_network.specs.HostRules.{step_rules}
use Rattle.spec_tcp.specs.Arrives.{AtListener, taker}
use Rattle.spec_tcp.specs.Endpoints.{snd_max}
use Rattle.spec_tcp.specs.HostTcp.{HostTcp}
use Rattle.spec_tcp.specs.Machine.{Takes, act_rules, tcp, tcp_shape}
use Rattle.spec_tcp.specs.Recovery.{recovery_rules}
use Rattle.spec_tcp.specs.Signals.{profile_of}
use Rattle.spec_tcp.specs.declared.endpoint.Emission.{Emission}
use Rattle.spec_tcp.specs.declared.endpoint.Endpoint.{Endpoint}
use Rattle.spec_tcp_laws.specs.Ascending.{rule_number}
use Rattle.spec_tcp_laws.specs.Judging.{body_by, header_by, world_judged}

-- the level's own rules: data beyond cwnd, the growth of cwnd and ssthresh, when fast recovery begins, and how often
-- data is sent again; the model has the first three
abbrev pub is_of_level : Rule → Bool
is_of_level rules.Congestion = true
is_of_level rules.Growth = true
is_of_level rules.Recovery = true
is_of_level rules.Resent = true
is_of_level rules.ResentBeyond = true
is_of_level rule = false

-- all other rules
abbrev pub other_rules : List (Rule × Bool) → List (Rule × Bool)
other_rules [] = []
other_rules (rule ∷ rules) = if is_of_level rule.0 then other_rules rules else rule ∷ other_rules rules

-- at another level, a step breaks the same of the other rules; at a listener, it breaks the same of all
pub record JudgedAlike (h : Header) (j : Judged) : Type 0 where
  pub others : (moment : ℕ) (w : World tcp_shape) (step : Step tcp_shape)
      → other_rules (step_rules (tcp (header_by j h)) moment (world_judged j h w) step)
      ≡ other_rules (step_rules (tcp h) moment w step)
  pub listeners : (host : Host) (moment : ℕ) (b : HostTcp) (how : TakeChoice) (m : Emission) (place : ℕ)
      → taker b m ≡ AtListener place
      → act_rules (header_by j h) host moment (body_by (profile_of (header_by j h)) b) (Takes how m)
      ≡ act_rules h host moment b (Takes how m)

-- so if one of the other rules refuses a step, it refuses it at every level, unless one of the level's own with a
-- lower number does
pub record RefusedAlike (h : Header) (j : Judged) : Type 0 where
  pub refused : (moment : ℕ) (w : World tcp_shape) (step : Step tcp_shape) (rule : Rule)
      → first_broken (step_rules (tcp h) moment w step) ≡ Some rule → is_of_level rule ≡ false
      → (first : Rule)
      × (first_broken (step_rules (tcp (header_by j h)) moment (world_judged j h w) step) ≡ Some first)
      × ((first ≡ rule) ⊎ ((is_of_level first ≡ true) × (rule_number first ≤ rule_number rule)))

-- at each level, fast recovery begins only if something is outstanding; in versions 1 to 5, where duplicates count,
-- from the third one on and not within fast recovery (RFC 5681, 3.2, step 2)
pub record BeginsRecovery (v : Version) (e : Endpoint) : Type 0 where
  pub outstanding : e.stream.snd_una ≡ snd_max e → ⊥
  pub duplicates : says_sender v ≡ false → counts_duplicates e.control.profile ≡ true
      → (3 ≤ e.control.values.dup) × (e.control.values.fast ≡ false)

abbrev pub RecoveryIsDue : Type 0
RecoveryIsDue = (v : Version) (e : Endpoint) (cwnd ssthresh moment : ℕ)
    → first_broken (recovery_rules v e Begins cwnd ssthresh moment) ≡ None → BeginsRecovery v e
