-- The rules of a call's effect, and the effect, put together from what code asks.
use Rattle.std.proofs.Common.{◌≡◌, ℕ, suc, ◌+◌, Bool, true, false, ◌||◌, not, if◌then◌else◌, [], ◌∷◌, ◌++◌, Option}
use Rattle.std.proofs.Common.{None, Some, refl, sym, ap, ◌∙◌, subst, nat_eq}
use Rattle.indexmap.specs.IndexMap.{insert_entry}
use Rattle.case_forms.specs.declared.trace.Header.{Header}
use Rattle.case_forms.specs.declared.calls.Host.{Host}
use Rattle.case_forms.specs.declared.calls.Call.{Call}
use Rattle.case_forms.specs.declared.calls.Answer.{Answer}
use Rattle.verdict.specs.declared.rule.Rule.{Rule}
use Rattle.verdict.specs.declared.rule.Rule.TheVariants as rules
use Rattle.verdict.specs.Rules.{first_broken}
use Rattle.verdict.proofs.RuleLemmas.{none_both}
use Rattle.spec_network.specs.Tables.{pick}
use Rattle.spec_network.specs.Hosts.{World, Turn, Idle, Called, Answered, Effect, turn_of}
use Rattle.spec_network.specs.HostRules.{Permitted, aim_of, call_rules, fresh_rules, open_rules, effect_rules, step_rules}
use Rattle.spec_network.specs.HostSteps.{effect_after, call_after}
use Rattle.spec_tcp.specs.HostTcp.{given}
use Rattle.spec_tcp.specs.Calls.{call_allows, is_bad_socket}
use Rattle.spec_tcp.specs.Machine.{tcp, tcp_shape, gives}
use Rattle.spec_tcp.specs.Machine as acts
use Rattle.spec_tcp.specs.Forgetting.{forget}
use Rattle.endpoint_state.specs.Worlds.{Progress, after}
use Rattle.endpoint_state.specs.Calls.{meant, gives_again, allowed_at}
use Rattle.endpoint_state.specs.Sides.{AreReady, forget_hosts}
use Rattle.endpoint_state.proofs.Progresses.{Hosts_, Threads_, shown, plus_one}

-- the least rule that is broken, by two questions
pub call_refused : (h : Header) (moment : ℕ) (hosts : Hosts_) (call : Call) (answer : Answer) (host : Option Host)
    → first_broken (call_rules (tcp h) moment hosts call answer host)
    ≡ (if gives_again hosts (gives call answer) then Some rules.Socket else if allowed_at h.version hosts call answer host
    then None else Some rules.CallAnswer)
call_refused h moment hosts call answer None = by (gives call answer) (is_bad_socket answer)
  where
    numbers : (a b c : Bool)
        → first_broken ((rules.Socket, a) ∷ (rules.Socket, b) ∷ (rules.CallAnswer, not c) ∷ [])
        ≡ (if a || b then Some rules.Socket else if c then None else Some rules.CallAnswer)
    numbers true b c = refl
    numbers false true c = refl
    numbers false false true = refl
    numbers false false false = refl

    alone : (c : Bool) → first_broken ((rules.CallAnswer, not c) ∷ []) ≡ (if c then None else Some rules.CallAnswer)
    alone true = refl
    alone false = refl

    by : (o : Option ℕ) (c : Bool)
        → first_broken (fresh_rules (tcp h) hosts o ++ (rules.CallAnswer, not c) ∷ [])
        ≡ (if gives_again hosts o then Some rules.Socket else if c then None else Some rules.CallAnswer)
    by None c = alone c
    by (Some n) c = numbers (given hosts.zero.body n) (given hosts.one.body n) c
call_refused h moment hosts call answer (Some host) = by (gives call answer) (call_allows h.version (pick hosts host).body call answer)
  where
    numbers : (a b c : Bool)
        → first_broken ((rules.Socket, a) ∷ (rules.Socket, b) ∷ (rules.CallAnswer, not c) ∷ [])
        ≡ (if a || b then Some rules.Socket else if c then None else Some rules.CallAnswer)
    numbers true b c = refl
    numbers false true c = refl
    numbers false false true = refl
    numbers false false false = refl

    alone : (c : Bool) → first_broken ((rules.CallAnswer, not c) ∷ []) ≡ (if c then None else Some rules.CallAnswer)
    alone true = refl
    alone false = refl

    by : (o : Option ℕ) (c : Bool)
        → first_broken (fresh_rules (tcp h) hosts o ++ (rules.CallAnswer, not c) ∷ [])
        ≡ (if gives_again hosts o then Some rules.Socket else if c then None else Some rules.CallAnswer)
    by None c = alone c
    by (Some n) c = numbers (given hosts.zero.body n) (given hosts.one.body n) c

-- a call without a broken rule is allowed by the host that it means
pub call_is_allowed : (h : Header) (moment : ℕ) (hosts : Hosts_) (call : Call) (answer : Answer) (host : Host)
    → first_broken (call_rules (tcp h) moment hosts call answer (Some host)) ≡ None → call_allows h.version (pick hosts host).body call answer ≡ true
call_is_allowed h moment hosts call answer host none =
    by (call_allows h.version (pick hosts host).body call answer)
    ((none_both (fresh_rules (tcp h) hosts (gives call answer)) _ none).1)
  where
    by : (b : Bool) → first_broken ((rules.CallAnswer, not b) ∷ []) ≡ None → b ≡ true
    by true e = refl
    by false e = absurd cc

-- a permitted effect is that of an open call which has no broken rule
pub open_is_permitted : (h : Header) (w : World tcp_shape) (t : ℕ) (call : Call) (answer : Answer)
    → turn_of t w.threads ≡ Called call → Permitted (tcp h) 0 w (Effect t answer) → first_broken (open_rules (tcp h) 0 w.hosts (Called call) answer) ≡ None
open_is_permitted h w t call answer is permitted = subst (λ (u : Turn tcp_shape). first_broken (effect_rules (tcp h) 0 w.hosts u answer) ≡ None) is permitted

-- the effect of an open call is permitted if it has no broken rule
pub called_is_permitted : (h : Header) (w : World tcp_shape) (t : ℕ) (call : Call) (answer : Answer)
    → turn_of t w.threads ≡ Called call → first_broken (call_rules (tcp h) 0 w.hosts call answer (aim_of (tcp h) w.hosts (acts.aim call))) ≡ None
    → Permitted (tcp h) 0 w (Effect t answer)
called_is_permitted h w t call answer is none = subst (λ (u : Turn tcp_shape). first_broken (effect_rules (tcp h) 0 w.hosts u answer) ≡ None) (sym is) none

-- the case after an effect
pub had_effect : (p : Progress) (h : Header) (hosts hosts2 : Hosts_) (threads threads2 : Threads_) (count steps t : ℕ)
    (call : Call) (answer : Answer) (host : Option Host) → AreReady hosts
    → shown h hosts threads count steps ≡ p → turn_of t threads ≡ Called call → meant (shown h hosts threads count steps) call ≡ host
    → hosts2 ≡ forget_hosts (call_after (tcp h) 0 hosts (acts.Calls call answer) host) → threads2 ≡ insert_entry nat_eq threads t (Answered answer)
    → shown h hosts2 threads2 count (steps + 1) ≡ after p 0 (Effect t answer)
had_effect p h hosts hosts2 threads threads2 count steps t call answer host are is opened to_host same turns =
    subst (λ (p : Progress). shown h hosts2 threads2 count (steps + 1) ≡ after p 0 (Effect t answer)) is
    (rw (same, turns, plus_one steps)
    (subst (λ (u : Turn tcp_shape).
    shown h (forget_hosts (call_after (tcp h) 0 hosts (acts.Calls call answer) host))
    (insert_entry nat_eq threads t (Answered answer)) count (suc steps)
    ≡ record {
      header = h;
      world =
          (let w : World tcp_shape = effect_after (tcp h) 0
          (record { hosts = hosts; threads = threads; count = count }) t answer u in
          record { hosts = forget_hosts w.hosts; threads = w.threads; count = w.count });
      steps = suc steps;
    })
    (sym opened)
    (rw to_host refl)))

-- no rule of a call and no effect of one reads the moment
pub effect_at_any_moment : (h : Header) (moment : ℕ) (w : World tcp_shape) (t : ℕ) (answer : Answer)
    → first_broken (step_rules (tcp h) moment w (Effect t answer))
    ≡ first_broken (step_rules (tcp h) 0 w (Effect t answer))
effect_at_any_moment h moment w t answer = by (turn_of t w.threads)
  where
    by : (u : Turn tcp_shape) → first_broken (effect_rules (tcp h) moment w.hosts u answer) ≡ first_broken (effect_rules (tcp h) 0 w.hosts u answer)
    by Idle = refl
    by (Called call) =
        call_refused h moment w.hosts call answer (aim_of (tcp h) w.hosts (acts.aim call))
        ∙ sym (call_refused h 0 w.hosts call answer (aim_of (tcp h) w.hosts (acts.aim call)))
    by (Answered given) = refl

pub after_at_any_moment : (p : Progress) (moment t : ℕ) (answer : Answer) → after p moment (Effect t answer) ≡ after p 0 (Effect t answer)
after_at_any_moment p moment t answer = ap (λ (w : World tcp_shape). record p { world = forget w; steps = suc p.steps }) (by (turn_of t p.world.threads))
  where
    at : (call : Call) (host : Option Host)
        → call_after (tcp p.header) moment p.world.hosts (acts.Calls call answer) host
        ≡ call_after (tcp p.header) 0 p.world.hosts (acts.Calls call answer) host
    at call None = refl
    at call (Some host) = refl

    by : (u : Turn tcp_shape) → effect_after (tcp p.header) moment p.world t answer u ≡ effect_after (tcp p.header) 0 p.world t answer u
    by Idle = refl
    by (Called call) = rw (at call (aim_of (tcp p.header) p.world.hosts (acts.aim call))) refl
    by (Answered given) = refl

-- a thread without an open call, or one whose call had its effect, is refused for this
pub refused_open : (idle answered : Bool) (rule : Rule) (rest : Option Rule)
    → Some rule ≡ (if idle then Some rules.NoCall else if answered then Some rules.DoneTwice else None)
    → Some rule ≡ (if idle then Some rules.NoCall else if answered then Some rules.DoneTwice else rest)
refused_open true answered rule rest e = e
refused_open false true rule rest e = e
refused_open false false rule rest e = absurd cc
