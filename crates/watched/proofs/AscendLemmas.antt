-- The rules of a step stand in the order of their numbers.
use Rattle.std.proofs.Common.{◌≡◌, ℕ, ◌≤◌, Bool, true, false, List, [], ◌∷◌, ◌++◌, Option, Some, None, refl, nat_eq, arith}
use Rattle.std.specs.Prelude.{if◌then◌else◌, not, nat_le, ◌&&◌}
use Rattle.std.specs.Option.{option_map_or}
use Rattle.std.specs.Map.{lookup}
use Rattle.case_forms.specs.declared.trace.Header.{Header}
use Rattle.case_forms.specs.declared.calls.Host.{Host}
use Rattle.case_forms.specs.declared.calls.Call.{Call}
use Rattle.case_forms.specs.declared.calls.Answer.{Answer}
use Rattle.verdict.specs.declared.rule.Rule.{Rule}
use Rattle.verdict.specs.declared.rule.Rule.TheVariants as rules
use Rattle.spec_network.specs.Tables.{Both, pick, other, on, waiting}
use Rattle.spec_network.specs.Hosts.{World, Step, HostState, Turn, Idle, Called, Answered, HostStep, Does, Expires, Makes, Sends, Gets}
use Rattle.spec_network.specs.Hosts.{Hears, Takes, Drops, Answers, Begin, Finish, Effect, At, turn_of}
use Rattle.spec_network.specs.HostRules.{step_rules, host_step_rules, call_rules, effect_rules, fresh_rules, aim_of, just}
use Rattle.spec_tcp.specs.declared.endpoint.Emission.{Emission}
use Rattle.spec_tcp.specs.HostTcp.{HostTcp, endpoint_of}
use Rattle.case_forms.specs.States.{is_syn_sent}
use Rattle.case_forms.specs.declared.steps.TakeChoice.{TakeChoice}
use Rattle.spec_tcp.specs.Arrives.{Taker, Nobody, AtListener, AtEndpoint, taker, taker_rules}
use Rattle.spec_tcp.specs.Arrives.OtherStates.{connected_rules}
use Rattle.spec_tcp.specs.Arrives.SynSent.{syn_sent_rules}
use Rattle.spec_tcp.specs.Heard.{as_read}
use Rattle.spec_tcp.specs.Calls.{is_bad_socket}
use Rattle.spec_tcp.specs.Makes.{making_rules}
use Rattle.spec_tcp.specs.Timeouts.{expiry_rules}
use Rattle.spec_tcp.specs.Recovery.{recovery_rules}
use Rattle.spec_tcp.specs.Machine.{tcp, tcp_shape, aim, gives, act_rules, Calls}
use Rattle.spec_tcp_laws.specs.Ascending.{rule_number, ascend}
use Rattle.spec_tcp_laws.proofs.Rules.{both_true, at_most_to}
use Rattle.std.proofs.lemmas.Bool.Decides.{nat_tests}
use Rattle.spec_duties.specs.declared.answering.CallChange.{CallChange}
use Rattle.spec_duties.specs.Watching.{answer_rules, built_by, counts_now, duty_rules, sent_by, touched_rules, untrue_rules}
use Rattle.spec_cases.specs.Cases.{Known, shown, untrue_at, watch_rules}
use Rattle.spec_duties.specs.declared.observations.Sampling.{Sampling}
use Rattle.spec_duties.specs.declared.observations.Observation.{Observation}
use Rattle.spec_duties.specs.declared.observations.TouchedEndpoint.{TouchedEndpoint}
use Rattle.spec_duties.specs.declared.observations.Untruth.{Untruth}
use Rattle.spec_duties.specs.declared.observations.Untruth.TheVariants as untruth
use Rattle.spec_duties.specs.declared.strict.Unsent.{Unsent}

lower : (low high : ℕ) (ys : List (Rule × Bool)) → low ≤ high → ascend high ys ≡ true → ascend low ys ≡ true
lower low high [] le up = refl
lower low high ((r, b) ∷ ys) le up =
    let parts = both_true (nat_le high (rule_number r)) (ascend (rule_number r) ys) up in
    let at : high ≤ rule_number r = at_most_to high (rule_number r) parts.0 in
    let here : nat_le low (rule_number r) ≡ true = grind (arith, nat_tests, le, at) in
    rw (here, parts.1) refl

-- the numbers of these rules are at most 39
abbrev pub tops : List (Rule × Bool) → Bool
tops [] = true
tops (rule ∷ rules) = nat_le (rule_number rule.0) 39 && tops rules

-- rules that ascend up to 39, and then rules from 40 on
pub ascend_both : (low : ℕ) (xs ys : List (Rule × Bool)) → low ≤ 40 → ascend low xs ≡ true → tops xs ≡ true → ascend 40 ys ≡ true → ascend low (xs ++ ys) ≡ true
ascend_both low [] ys le up top rest = lower low 40 ys le rest
ascend_both low ((r, b) ∷ xs) ys le up top rest =
    let parts = both_true (nat_le low (rule_number r)) (ascend (rule_number r) xs) up in
    let small = both_true (nat_le (rule_number r) 39) (tops xs) top in
    let at : rule_number r ≤ 39 = at_most_to (rule_number r) 39 small.0 in
    rw (parts.0, ascend_both (rule_number r) xs ys (omega (arith, at)) parts.1 small.1 rest) refl

-- rules of a thing that may be there
tops_or : {X : Type 0} (f : X → List (Rule × Bool)) (none : List (Rule × Bool)) (o : Option X) → tops none ≡ true → ((x : X) → tops (f x) ≡ true)
    → tops (option_map_or f o none) ≡ true
tops_or f none None a b = a
tops_or f none (Some x) a b = b x

tops_on : {X : Type 0} (f : X → List (Rule × Bool)) (none : List (Rule × Bool)) (o : Option X) → tops none ≡ true → ((x : X) → tops (f x) ≡ true)
    → tops (on o none f) ≡ true
tops_on f none None a b = a
tops_on f none (Some x) a b = b x

tops_taker : (h : Header) (host : Host) (b : HostTcp) (how : TakeChoice) (m : Emission) (moment : ℕ) (t : Taker)
    → tops (taker_rules h host b how m moment t) ≡ true
tops_taker h host b how m moment Nobody = refl
tops_taker h host b how m moment (AtListener l) = refl
tops_taker h host b how m moment (AtEndpoint i e) = go (as_read h.version e m) (is_syn_sent e.state)
  where
    go : (m : Emission) (s : Bool)
        → tops (if s then syn_sent_rules e how m moment else connected_rules h b (record { host = host; number = i }) e how m moment) ≡ true
    go m true = refl
    go m false = refl

tops_call : (h : Header) (moment : ℕ) (both : Both (HostState tcp_shape)) (call : Call) (answer : Answer) (o : Option Host)
    → tops (call_rules (tcp h) moment both call answer o) ≡ true
tops_call h moment both call answer o = fin o
  where
    rest : Option Host → List (Rule × Bool)
    rest None = just rules.CallAnswer (not (is_bad_socket answer))
    rest (Some host) = act_rules h host moment (pick both host).body (Calls call answer)

    go : (o : Option Host) (n : Option ℕ) → tops (fresh_rules (tcp h) both n ++ rest o) ≡ true
    go None None = refl
    go None (Some n) = refl
    go (Some host) None = refl
    go (Some host) (Some n) = refl

    fin : (o : Option Host) → tops (call_rules (tcp h) moment both call answer o) ≡ true
    fin None = go None (gives call answer)
    fin (Some host) = go (Some host) (gives call answer)

tops_host_step : (h : Header) (host : Host) (moment : ℕ) (far : List (ℕ × Emission)) (k : HostState tcp_shape) (d : HostStep tcp_shape)
    → tops (host_step_rules (tcp h) host moment far k d) ≡ true
tops_host_step h host moment far k (Does x) =
    tops_or (λ e. recovery_rules h.version e x.change x.cwnd x.ssthresh moment)
    ((rules.NoEndpoint, true) ∷ []) (endpoint_of k.body x.lport x.rport) refl (λ e. refl)
tops_host_step h host moment far k (Expires line x) =
    tops_or (λ e. expiry_rules h moment e x.expired) ((rules.NoEndpoint, true) ∷ []) (endpoint_of k.body x.lport x.rport) refl (λ e. refl)
tops_host_step h host moment far k (Makes m) =
    tops_or (λ e. making_rules h.version e m) ((rules.NoEndpoint, true) ∷ []) (endpoint_of k.body m.lport m.rport) refl (λ e. refl)
tops_host_step h host moment far k (Sends line number wire) = tops_on _ ((rules.NotMade, true) ∷ []) (lookup (nat_eq number) k.made) refl (λ m. refl)
tops_host_step h host moment far k (Gets line copied wire) = tops_on _ ((rules.NoEmission, true) ∷ []) (lookup (nat_eq copied) far) refl (λ m. refl)
tops_host_step h host moment far k (Hears line wire) = refl
tops_host_step h host moment far k (Takes line how) =
    tops_on _ ((rules.Inbox, true) ∷ []) (waiting line k.inbox) refl (λ m. tops_taker h host k.body how m moment (taker k.body m))
tops_host_step h host moment far k (Drops line) = tops_on _ ((rules.Inbox, true) ∷ []) (waiting line k.inbox) refl (λ m. refl)
tops_host_step h host moment far k (Answers line) = tops_on _ ((rules.Inbox, true) ∷ []) (waiting line k.inbox) refl (λ m. refl)

pub rules_top : (h : Header) (moment : ℕ) (w : World tcp_shape) (step : Step tcp_shape) → tops (step_rules (tcp h) moment w step) ≡ true
rules_top h moment w (Begin line t call) = refl
rules_top h moment w (Finish line t answer) = refl
rules_top h moment w (Effect t answer) = go (turn_of t w.threads)
  where
    go : (u : Turn tcp_shape) → tops (effect_rules (tcp h) moment w.hosts u answer) ≡ true
    go Idle = refl
    go (Called call) = tops_call h moment w.hosts call answer (aim_of (tcp h) w.hosts (aim call))
    go (Answered given) = refl
rules_top h moment w (At host d) = tops_host_step h host moment (pick w.hosts (other host)).wire (pick w.hosts host) d

-- the rules of duties ascend from 40 on
pub watch_ascend : (h : Header) (moment : ℕ) (k : Known) (step : Step tcp_shape) → ascend 40 (watch_rules h moment k step) ≡ true
watch_ascend h moment k step = by h.slack (shown h moment k step)
  where
    untrue : Option Untruth
    untrue = untrue_at h moment k step

    -- what a segment shows breaks one of 53 to 55
    alone : (u : Option Untruth) → ascend 40 (untrue_rules u) ≡ true
    alone None = refl
    alone (Some untruth.Blocks) = refl
    alone (Some untruth.Echo) = refl
    alone (Some untruth.Clock) = refl

    touched : (slack : ℕ) (counts : Bool) (u : Option Untruth) (sent : Option Unsent) (s : Sampling) (change : CallChange)
        (o : Option TouchedEndpoint)
        → ascend 43 (on o (answer_rules slack moment k.duties u change) (touched_rules h slack moment k.duties counts u sent s)) ≡ true
    touched slack counts None sent s change None = refl
    touched slack counts None sent s change (Some t) = refl
    touched slack counts (Some untruth.Blocks) sent s change None = refl
    touched slack counts (Some untruth.Blocks) sent s change (Some t) = refl
    touched slack counts (Some untruth.Echo) sent s change None = refl
    touched slack counts (Some untruth.Echo) sent s change (Some t) = refl
    touched slack counts (Some untruth.Clock) sent s change None = refl
    touched slack counts (Some untruth.Clock) sent s change (Some t) = refl

    by : (o : Option ℕ) (s : Observation)
        → ascend 40 (on o (untrue_rules untrue) (λ slack. duty_rules h slack moment k.duties untrue s)) ≡ true
    by None s = alone untrue
    by (Some slack) s = touched slack (counts_now (built_by k.duties s.built_change)) untrue (sent_by k.duties s.built_change) s.sampling s.call_change
        s.touched
