-- The rules of a step stand in the order of their numbers.
use Rattle.std.proofs.Common.{◌≡◌, ℕ, ◌≤◌, Bool, true, false, List, [], ◌∷◌, ◌++◌, Option, Some, None, refl, subst, nat_eq, arith}
use Rattle.std.specs.Prelude.{if◌then◌else◌, not, nat_le}
use Rattle.std.specs.List.{AllByRecursion}
use Rattle.std.specs.Option.{option_map_or}
use Rattle.std.specs.Map.{lookup}
use Rattle.std.proofs.lemmas.List.Elements.{All-from_recursion}
use Rattle.std.proofs.lemmas.Option.{same_Some}
use Rattle.case_forms.specs.declared.trace.Header.{Header}
use Rattle.case_forms.specs.declared.calls.Host.{Host}
use Rattle.case_forms.specs.declared.calls.Call.{Call}
use Rattle.case_forms.specs.declared.calls.Answer.{Answer}
use Rattle.verdict.specs.declared.rule.Rule.{Rule}
use Rattle.verdict.specs.declared.rule.Rule.TheVariants as rules
use Rattle.verdict.specs.Rules.{first_broken}
use Rattle.spec_network.specs.Tables.{Both, pick, other, on, waiting}
use Rattle.spec_network.specs.Hosts.{HostState, Turn, Idle, Called, Answered, HostStep, Does, Expires, Makes, Sends, Gets}
use Rattle.spec_network.specs.Hosts.{Hears, Takes, Drops, Answers, Begin, Finish, Effect, At, turn_of}
use Rattle.spec_network.specs.HostRules.{host_step_rules, call_rules, effect_rules, fresh_rules, aim_of, just}
use Rattle.spec_tcp.specs.declared.endpoint.Emission.{Emission}
use Rattle.spec_tcp.specs.HostTcp.{HostTcp, endpoint_of}
use Rattle.case_forms.specs.States.{is_syn_sent}
use Rattle.case_forms.specs.declared.steps.TakeChoice.{TakeChoice}
use Rattle.spec_tcp.specs.Arrives.{Taker, Nobody, AtListener, AtEndpoint, taker, taker_rules}
use Rattle.spec_tcp.specs.Arrives.OtherStates.{connected_rules}
use Rattle.spec_tcp.specs.Arrives.SynSent.{syn_sent_rules}
use Rattle.spec_tcp.specs.Heard.{as_read}
use Rattle.spec_tcp.specs.Calls.{is_bad_socket}
use Rattle.spec_tcp.specs.Makes.{making_rules}
use Rattle.spec_tcp.specs.Timeouts.{expiry_rules}
use Rattle.spec_tcp.specs.Recovery.{recovery_rules}
use Rattle.spec_tcp.specs.Machine.{tcp, tcp_shape, aim, gives, act_rules, Calls}
use Rattle.spec_tcp_laws.specs.Ascending.{rule_number, ascend, IsLeastBroken, RulesAscend}
use Rattle.spec_tcp_laws.proofs.Rules.{both_true, at_most_to}

-- rules of a thing that may be there
ascend_or : {X : Type 0} (f : X → List (Rule × Bool)) (none : List (Rule × Bool)) (o : Option X) → ascend 6 none ≡ true → ((x : X) → ascend 6 (f x) ≡ true)
    → ascend 6 (option_map_or f o none) ≡ true
ascend_or f none None a b = a
ascend_or f none (Some x) a b = b x

ascend_on : {X : Type 0} (f : X → List (Rule × Bool)) (none : List (Rule × Bool)) (o : Option X) → ascend 6 none ≡ true → ((x : X) → ascend 6 (f x) ≡ true)
    → ascend 6 (on o none f) ≡ true
ascend_on f none None a b = a
ascend_on f none (Some x) a b = b x

ascend_taker : (h : Header) (host : Host) (b : HostTcp) (how : TakeChoice) (m : Emission) (moment : ℕ) (t : Taker)
    → ascend 6 (taker_rules h host b how m moment t) ≡ true
ascend_taker h host b how m moment Nobody = refl
ascend_taker h host b how m moment (AtListener l) = refl
ascend_taker h host b how m moment (AtEndpoint i e) = go (as_read h.version e m) (is_syn_sent e.state)
  where
    go : (m : Emission) (s : Bool)
        → ascend 6 (if s then syn_sent_rules e how m moment else connected_rules h b (record { host = host; number = i }) e how m moment) ≡ true
    go m true = refl
    go m false = refl

ascend_call : (h : Header) (moment : ℕ) (both : Both (HostState tcp_shape)) (call : Call) (answer : Answer) (o : Option Host)
    → ascend 9 (call_rules (tcp h) moment both call answer o) ≡ true
ascend_call h moment both call answer o = fin o
  where
    rest : Option Host → List (Rule × Bool)
    rest None = just rules.CallAnswer (not (is_bad_socket answer))
    rest (Some host) = act_rules h host moment (pick both host).body (Calls call answer)

    go : (o : Option Host) (n : Option ℕ) → ascend 9 (fresh_rules (tcp h) both n ++ rest o) ≡ true
    go None None = refl
    go None (Some n) = refl
    go (Some host) None = refl
    go (Some host) (Some n) = refl

    fin : (o : Option Host) → ascend 9 (call_rules (tcp h) moment both call answer o) ≡ true
    fin None = go None (gives call answer)
    fin (Some host) = go (Some host) (gives call answer)

ascend_host_step : (h : Header) (host : Host) (moment : ℕ) (far : List (ℕ × Emission)) (k : HostState tcp_shape) (d : HostStep tcp_shape)
    → ascend 6 (host_step_rules (tcp h) host moment far k d) ≡ true
ascend_host_step h host moment far k (Does x) =
    ascend_or (λ e. recovery_rules h.version e x.change x.cwnd x.ssthresh moment)
    ((rules.NoEndpoint, true) ∷ []) (endpoint_of k.body x.lport x.rport) refl (λ e. refl)
ascend_host_step h host moment far k (Expires line x) =
    ascend_or (λ e. expiry_rules h moment e x.expired) ((rules.NoEndpoint, true) ∷ []) (endpoint_of k.body x.lport x.rport) refl (λ e. refl)
ascend_host_step h host moment far k (Makes m) =
    ascend_or (λ e. making_rules h.version e m) ((rules.NoEndpoint, true) ∷ []) (endpoint_of k.body m.lport m.rport) refl (λ e. refl)
ascend_host_step h host moment far k (Sends line number wire) = ascend_on _ ((rules.NotMade, true) ∷ []) (lookup (nat_eq number) k.made) refl (λ m. refl)
ascend_host_step h host moment far k (Gets line copied wire) = ascend_on _ ((rules.NoEmission, true) ∷ []) (lookup (nat_eq copied) far) refl (λ m. refl)
ascend_host_step h host moment far k (Hears line wire) = refl
ascend_host_step h host moment far k (Takes line how) =
    ascend_on _ ((rules.Inbox, true) ∷ []) (waiting line k.inbox) refl (λ m. ascend_taker h host k.body how m moment (taker k.body m))
ascend_host_step h host moment far k (Drops line) = ascend_on _ ((rules.Inbox, true) ∷ []) (waiting line k.inbox) refl (λ m. refl)
ascend_host_step h host moment far k (Answers line) = ascend_on _ ((rules.Inbox, true) ∷ []) (waiting line k.inbox) refl (λ m. refl)

pub rules_ascend : RulesAscend
rules_ascend h moment w (Begin line t call) = refl
rules_ascend h moment w (Finish line t answer) = refl
rules_ascend h moment w (Effect t answer) = go (turn_of t w.threads)
  where
    go : (u : Turn tcp_shape) → ascend 6 (effect_rules (tcp h) moment w.hosts u answer) ≡ true
    go Idle = refl
    go (Called call) = ascend_call h moment w.hosts call answer (aim_of (tcp h) w.hosts (aim call))
    go (Answered given) = refl
rules_ascend h moment w (At host d) = ascend_host_step h host moment (pick w.hosts (other host)).wire (pick w.hosts host) d

-- in a list that ascends, no number is below the first
above : (low : ℕ) (rules : List (Rule × Bool)) → ascend low rules ≡ true → AllByRecursion (λ r. low ≤ rule_number r.0) rules
above low [] up = tt
above low ((r, b) ∷ rules) up = (at_most_to low (rule_number r) parts.0, go rules (above (rule_number r) rules parts.1))
  where
    parts : (nat_le low (rule_number r) ≡ true) × (ascend (rule_number r) rules ≡ true)
    parts = both_true (nat_le low (rule_number r)) (ascend (rule_number r) rules) up

    go : (xs : List (Rule × Bool)) → AllByRecursion (λ x. rule_number r ≤ rule_number x.0) xs → AllByRecursion (λ x. low ≤ rule_number x.0) xs
    go [] all = tt
    go (x ∷ xs) all = (let here : low ≤ rule_number x.0 = omega (arith, all.0, at_most_to low (rule_number r) parts.0) in here, go xs all.1)

least_each : (low : ℕ) (rules : List (Rule × Bool)) (rule : Rule) → ascend low rules ≡ true
    → first_broken rules ≡ Some rule → AllByRecursion (λ r. r.1 ≡ true → rule_number rule ≤ rule_number r.0) rules
least_each low [] rule up is = tt
least_each low ((r, true) ∷ rules) rule up is =
    subst (λ (x : Rule). AllByRecursion (λ y. y.1 ≡ true → rule_number x ≤ rule_number y.0) ((r, true) ∷ rules)) (same_Some r rule is)
    ((λ e. arith_refl (rule_number r)), go rules (above (rule_number r) rules (both_true (nat_le low (rule_number r)) (ascend (rule_number r) rules) up).1))
  where
    arith_refl : (n : ℕ) → n ≤ n
    arith_refl n = omega arith

    go : (xs : List (Rule × Bool)) → AllByRecursion (λ x. rule_number r ≤ rule_number x.0) xs
        → AllByRecursion (λ x. x.1 ≡ true → rule_number r ≤ rule_number x.0) xs
    go [] all = tt
    go (x ∷ xs) all = ((λ e. all.0), go xs all.1)
least_each low ((r, false) ∷ rules) rule up is =
    ((λ e. absurd cc), least_each (rule_number r) rules rule (both_true (nat_le low (rule_number r)) (ascend (rule_number r) rules) up).1 is)

-- in a list that ascends, the first that is broken is the least
pub first_is_least : (low : ℕ) (rules : List (Rule × Bool)) (rule : Rule) → ascend low rules ≡ true → first_broken rules ≡ Some rule → IsLeastBroken rules rule
first_is_least low rules rule up is =
    All-from_recursion (λ (r : Rule × Bool). r.1 ≡ true → rule_number rule ≤ rule_number r.0) rules (least_each low rules rule up is)
