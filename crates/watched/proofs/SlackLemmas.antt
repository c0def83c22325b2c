-- Neither the model nor what a step shows depends on the slack.
use Rattle.std.proofs.Common.{◌≡◌, ℕ, suc, Bool, true, List, [], ◌∷◌, ◌++◌, Option, None, Some, refl, ap}
use Rattle.std.specs.Option.{option_map_or}
use Rattle.case_forms.specs.declared.calls.Answer.{Answer}
use Rattle.case_forms.specs.declared.calls.Call.{Call}
use Rattle.case_forms.specs.declared.calls.Host.{Host}
use Rattle.case_forms.specs.declared.steps.TakeChoice.{TakeChoice}
use Rattle.case_forms.specs.declared.taken_line.Expired.{Expired}
use Rattle.case_forms.specs.declared.taken_line.Expired.TheVariants.{Giveup, Msl2, Persist, Pto, Rto}
use Rattle.case_forms.specs.declared.trace.Header.{Header}
use Rattle.verdict.specs.declared.rule.Rule.{Rule}
use Rattle.verdict.specs.declared.rule.Rule.TheVariants as rules
use Rattle.verdict.specs.Rules.{first_broken}
use Rattle.spec_network.specs.HostRules.{aim_of, call_rules, host_step_rules, fresh_rules, open_rules, pending_rules, step_rules}
use Rattle.spec_network.specs.HostSteps.{after, call_after, host_step_after, effect_after, inbox_settled}
use Rattle.spec_network.specs.Hosts as network
use Rattle.spec_network.specs.Hosts.{Aim, Answered, Called, HostStep, HostState, Idle, Step, ThatHost, ThatSocket, Turn, World, turn_of}
use Rattle.spec_network.specs.Tables.{Both, on, other, pick, waiting, with_host}
use Rattle.spec_tcp.specs.Arrives.{AtEndpoint, AtListener, Nobody, Taker, after_taking, taker, taker_rules}
use Rattle.spec_tcp.specs.HostTcp.{HostTcp, endpoint_of}
use Rattle.spec_tcp.specs.Machine.{act_after, act_rules, aim, gives, tcp, tcp_shape}
use Rattle.spec_tcp.specs.Machine as acts
use Rattle.spec_tcp.specs.Timeouts.{expiry_rules}
use Rattle.spec_tcp.specs.declared.endpoint.Emission.{Emission}
use Rattle.spec_tcp.specs.declared.endpoint.Endpoint.{Endpoint}
use Rattle.spec_duties.specs.Dropped.{answering_breaks, bare, taking_breaks}
use Rattle.spec_duties.specs.Observations.{observe_host_step, observe_effect, observe_pending, observe}
use Rattle.spec_cases.specs.Slack.{with_slack}
use Rattle.watched.specs.Slack.{SlackIsNotRead}
use Rattle.watched.proofs.WaitLemmas.{opening_same, same_self}

-- for each slack
module _ (slack : Option ℕ) (h : Header) where
  abbrev g : Header
  g = with_slack slack h

  -- ---- rules

  expiry_same : (moment : ℕ) (e : Endpoint) (x : Expired) → expiry_rules g moment e x ≡ expiry_rules h moment e x
  expiry_same moment e (Rto growth) = refl
  expiry_same moment e Persist = refl
  expiry_same moment e Msl2 = refl
  expiry_same moment e Giveup = refl
  expiry_same moment e Pto = refl

  taker_same : (me : Host) (b : HostTcp) (how : TakeChoice) (m : Emission) (moment : ℕ) (t : Taker)
      → taker_rules g me b how m moment t ≡ taker_rules h me b how m moment t
  taker_same me b how m moment Nobody = refl
  taker_same me b how m moment (AtListener l) = refl
  taker_same me b how m moment (AtEndpoint i e) = refl

  host_step_same : (me : Host) (moment : ℕ) (far : List (ℕ × Emission)) (s : HostState tcp_shape) (d : HostStep tcp_shape)
      → host_step_rules (tcp g) me moment far s d ≡ host_step_rules (tcp h) me moment far s d
  host_step_same me moment far s (network.Does x) = refl
  host_step_same me moment far s (network.Expires line x) = by (endpoint_of s.body x.lport x.rport)
    where
      by : (o : Option Endpoint)
          → option_map_or (λ e. expiry_rules g moment e x.expired) o ((rules.NoEndpoint, true) ∷ [])
          ≡ option_map_or (λ e. expiry_rules h moment e x.expired) o ((rules.NoEndpoint, true) ∷ [])
      by None = refl
      by (Some e) = expiry_same moment e x.expired
  host_step_same me moment far s (network.Makes x) = refl
  host_step_same me moment far s (network.Sends line number wire) = refl
  host_step_same me moment far s (network.Gets line copied wire) = refl
  host_step_same me moment far s (network.Hears line wire) = refl
  host_step_same me moment far s (network.Takes line how) = by (waiting line s.inbox)
    where
      by : (o : Option Emission)
          → on o ((rules.Inbox, true) ∷ []) (λ m. act_rules g me moment s.body (acts.Takes how m))
          ≡ on o ((rules.Inbox, true) ∷ []) (λ m. act_rules h me moment s.body (acts.Takes how m))
      by None = refl
      by (Some m) = taker_same me s.body how m moment (taker s.body m)
  host_step_same me moment far s (network.Drops line) = refl
  host_step_same me moment far s (network.Answers line) = refl

  aim_same : (hosts : Both (HostState tcp_shape)) (a : Aim) → aim_of (tcp g) hosts a ≡ aim_of (tcp h) hosts a
  aim_same hosts (ThatHost host) = refl
  aim_same hosts (ThatSocket n) = refl

  fresh_same : (hosts : Both (HostState tcp_shape)) (o : Option ℕ) → fresh_rules (tcp g) hosts o ≡ fresh_rules (tcp h) hosts o
  fresh_same hosts None = refl
  fresh_same hosts (Some n) = refl

  call_same : (moment : ℕ) (hosts : Both (HostState tcp_shape)) (call : Call) (answer : Answer) (o : Option Host)
      → call_rules (tcp g) moment hosts call answer o ≡ call_rules (tcp h) moment hosts call answer o
  call_same moment hosts call answer None = rw (fresh_same hosts (gives call answer)) refl
  call_same moment hosts call answer (Some host) = rw (fresh_same hosts (gives call answer)) refl

  open_same : (moment : ℕ) (hosts : Both (HostState tcp_shape)) (u : Turn tcp_shape) (answer : Answer)
      → open_rules (tcp g) moment hosts u answer ≡ open_rules (tcp h) moment hosts u answer
  open_same moment hosts Idle answer = refl
  open_same moment hosts (Called call) answer =
      rw (aim_same hosts (aim call)) (call_same moment hosts call answer (aim_of (tcp h) hosts (aim call)))
  open_same moment hosts (Answered given) answer = refl

  pub rules_same : (moment : ℕ) (w : World tcp_shape) (step : Step tcp_shape) → step_rules (tcp g) moment w step ≡ step_rules (tcp h) moment w step
  rules_same moment w (network.Begin line t call) = refl
  rules_same moment w (network.Finish line t answer) = refl
  rules_same moment w (network.Effect t answer) =
      ap (λ (xs : List (Rule × Bool)). pending_rules (turn_of t w.threads) ++ xs) (open_same moment w.hosts (turn_of t w.threads) answer)
  rules_same moment w (network.At host d) = host_step_same host moment (pick w.hosts (other host)).wire (pick w.hosts host) d

  -- ---- the world after a step

  taken_same : (b : HostTcp) (how : TakeChoice) (m : Emission) (moment : ℕ) (t : Taker)
      → after_taking g b how m moment t ≡ after_taking h b how m moment t
  taken_same b how m moment Nobody = refl
  taken_same b how m moment (AtListener l) = refl
  taken_same b how m moment (AtEndpoint i e) = refl

  done_same : (me : Host) (moment fresh : ℕ) (far : List (ℕ × Emission)) (s : HostState tcp_shape) (d : HostStep tcp_shape)
      → host_step_after (tcp g) me moment fresh far s d ≡ host_step_after (tcp h) me moment fresh far s d
  done_same me moment fresh far s (network.Does x) = refl
  done_same me moment fresh far s (network.Expires line x) = refl
  done_same me moment fresh far s (network.Makes x) = refl
  done_same me moment fresh far s (network.Sends line number wire) = refl
  done_same me moment fresh far s (network.Gets line copied wire) = refl
  done_same me moment fresh far s (network.Hears line wire) = refl
  done_same me moment fresh far s (network.Takes line how) =
      ap (λ (b : HostTcp). record s { body = b; inbox = inbox_settled line s.inbox }) (by (waiting line s.inbox))
    where
      by : (o : Option Emission)
          → on o s.body (λ m. act_after g me moment s.body (acts.Takes how m)) ≡ on o s.body (λ m. act_after h me moment s.body (acts.Takes how m))
      by None = refl
      by (Some m) = taken_same s.body how m moment (taker s.body m)
  done_same me moment fresh far s (network.Drops line) = refl
  done_same me moment fresh far s (network.Answers line) = refl

  called_same : (moment : ℕ) (hosts : Both (HostState tcp_shape)) (call : Call) (answer : Answer) (o : Option Host)
      → call_after (tcp g) moment hosts (acts.Calls call answer) o ≡ call_after (tcp h) moment hosts (acts.Calls call answer) o
  called_same moment hosts call answer None = refl
  called_same moment hosts call answer (Some host) = refl

  effect_same : (moment : ℕ) (w : World tcp_shape) (t : ℕ) (answer : Answer) (u : Turn tcp_shape)
      → effect_after (tcp g) moment w t answer u ≡ effect_after (tcp h) moment w t answer u
  effect_same moment w t answer Idle = refl
  effect_same moment w t answer (Called call) =
      rw (aim_same w.hosts (aim call), called_same moment w.hosts call answer (aim_of (tcp h) w.hosts (aim call))) refl
  effect_same moment w t answer (Answered given) = refl

  pub after_same : (moment : ℕ) (w : World tcp_shape) (step : Step tcp_shape) → after (tcp g) moment w step ≡ after (tcp h) moment w step
  after_same moment w (network.Begin line t call) = refl
  after_same moment w (network.Finish line t answer) = refl
  after_same moment w (network.Effect t answer) = effect_same moment w t answer (turn_of t w.threads)
  after_same moment w (network.At host d) =
      ap (λ (s : HostState tcp_shape). record (after (tcp h) moment w (network.At host d)) { hosts = with_host w.hosts host s })
      (done_same host moment (suc w.count) (pick w.hosts (other host)).wire (pick w.hosts host) d)

  -- ---- what a step shows

  shown_same : (moment : ℕ) (w : World tcp_shape) (fresh : ℕ) (host : Host) (s : HostState tcp_shape) (d : HostStep tcp_shape)
      → observe_host_step g moment w fresh host s d ≡ observe_host_step h moment w fresh host s d
  shown_same moment w fresh host s (network.Does x) = refl
  shown_same moment w fresh host s (network.Expires line x) = refl
  shown_same moment w fresh host s (network.Makes m) = refl
  shown_same moment w fresh host s (network.Sends line number wire) = refl
  shown_same moment w fresh host s (network.Gets line copied wire) = refl
  shown_same moment w fresh host s (network.Hears line wire) = refl
  shown_same moment w fresh host s (network.Takes line how) = refl
  shown_same moment w fresh host s (network.Drops line) =
      let taking : taking_breaks g moment w host line ≡ taking_breaks h moment w host line
      = ap first_broken (rules_same moment w (network.At host (network.Takes line bare))) in
      let answering : answering_breaks g w host line ≡ answering_breaks h w host line
      = ap first_broken (rules_same 0 w (network.At host (network.Answers line))) in
      rw (taking, answering) refl
  shown_same moment w fresh host s (network.Answers line) = refl

  pending_shown : (w : World tcp_shape) (answer : Answer) (call : Call) → observe_pending g w answer call ≡ observe_pending h w answer call
  pending_shown w answer call = rw (aim_same w.hosts (aim call)) refl

  called_shown : (w : World tcp_shape) (thread : ℕ) (answer : Answer) (u : Turn tcp_shape)
      → observe_effect g w thread answer u ≡ observe_effect h w thread answer u
  called_shown w thread answer Idle = refl
  called_shown w thread answer (Called call) =
      opening_same w w (same_self w) g h (aim_same w.hosts) thread answer call refl (pending_shown w answer call)
  called_shown w thread answer (Answered given) = refl

  pub observed_same : (moment : ℕ) (w : World tcp_shape) (step : Step tcp_shape) → observe g moment w step ≡ observe h moment w step
  observed_same moment w (network.Begin line t call) = refl
  observed_same moment w (network.Finish line t answer) = refl
  observed_same moment w (network.Effect t answer) = called_shown w t answer (turn_of t w.threads)
  observed_same moment w (network.At host d) = shown_same moment w (suc w.count) host (pick w.hosts host) d

pub slack_is_not_read : (slack : Option ℕ) (h : Header) → SlackIsNotRead slack h
slack_is_not_read slack h = record { rules = rules_same slack h; next = after_same slack h; shows = observed_same slack h }
