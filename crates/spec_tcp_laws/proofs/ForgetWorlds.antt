-- Steps of a world, of which something was discarded.
use Rattle.std.proofs.Common.{◌≡◌, ℕ, suc, true, nat_eq, List, Option, None, Some, refl, ap}
use Rattle.indexmap.specs.IndexMap.{insert_entry}
use Rattle.case_forms.specs.declared.calls.Host.{Host}
use Rattle.case_forms.specs.declared.calls.Host.TheVariants.{Zero, One}
use Rattle.case_forms.specs.declared.calls.Call.{Call}
use Rattle.case_forms.specs.declared.calls.Answer.{Answer}
use Rattle.case_forms.specs.declared.trace.Header.{Header}
use Rattle.verdict.specs.declared.rule.Rule.TheVariants as rules
use Rattle.verdict.specs.Rules.{first_broken}
use Rattle.spec_network.specs.Tables.{Both, pick, on, Made, waiting, settled}
use Rattle.spec_network.specs.Hosts.{Aim, ThatHost, ThatSocket, HostState, Turn, Idle, Called, Answered, World, HostStep}
use Rattle.spec_network.specs.Hosts.{Does, Expires, Makes, Sends, Gets, Hears, Takes, Drops, Answers, Step, Begin}
use Rattle.spec_network.specs.Hosts.{Finish, Effect, At, turn_of}
use Rattle.spec_network.specs.HostRules.{just, host_step_rules, aim_of, fresh_rules, call_rules, effect_rules, step_rules, Permitted}
use Rattle.spec_network.specs.HostSteps.{act_made, host_step_after, call_after, effect_after, after, made_gone_out, wire_after, inbox_after, inbox_settled}
use Rattle.spec_tcp.specs.declared.endpoint.Emission.{Emission}
use Rattle.spec_tcp.specs.Machine.{Act, aim, gives, tcp, tcp_shape}
use Rattle.spec_tcp.specs.Machine as acts
use Rattle.spec_tcp.specs.Heard.{heard}
use Rattle.spec_tcp.specs.Wire as wires
use Rattle.spec_tcp.specs.Forgetting.{forget_body, forget_host, forget}
use Rattle.spec_tcp_laws.specs.ForgettingLaws.{IfMaking, MakesPermitted, SameTables, SameBesides}
use Rattle.spec_tcp_laws.proofs.ForgetBodies.{body-forget}
use Rattle.spec_tcp_laws.proofs.ForgetActs.{act_rules-forget, act-forgets, makes-forget}

pub world-forget : (w : World tcp_shape) → forget (forget w) ≡ forget w
world-forget w = rw (body-forget w.hosts.zero.body, body-forget w.hosts.one.body) refl

-- the same for each value is the same for one that may be there
on-same : {A B : Type 0} (o : Option A) (none : B) (f g : A → B) → ((x : A) → f x ≡ g x) → on o none f ≡ on o none g
on-same None none f g same = refl
on-same (Some x) none f g same = same x

host_step_rules-forget : (h : Header) (me : Host) (moment : ℕ) (far : List (ℕ × Emission)) (s : HostState tcp_shape) (d : HostStep tcp_shape)
    → host_step_rules (tcp h) me moment far (forget_host s) d ≡ host_step_rules (tcp h) me moment far s d
host_step_rules-forget h me moment far s (Does x) = act_rules-forget h me moment s.body (acts.Recovers x)
host_step_rules-forget h me moment far s (Expires line x) = act_rules-forget h me moment s.body (acts.Expires x)
host_step_rules-forget h me moment far s (Makes x) = act_rules-forget h me moment s.body (acts.Makes x)
host_step_rules-forget h me moment far s (Sends line number wire) = refl
host_step_rules-forget h me moment far s (Gets line copied wire) = refl
host_step_rules-forget h me moment far s (Hears line wire) = refl
host_step_rules-forget h me moment far s (Takes line how) =
    on-same (waiting line s.inbox) (just rules.Inbox true)
    (λ e. acts.act_rules h me moment (forget_body s.body) (acts.Takes how e))
    (λ e. acts.act_rules h me moment s.body (acts.Takes how e))
    (λ e. act_rules-forget h me moment s.body (acts.Takes how e))
host_step_rules-forget h me moment far s (Drops line) = refl
host_step_rules-forget h me moment far s (Answers line) =
    on-same (waiting line s.inbox) (just rules.Inbox true)
    (λ e. acts.act_rules h me moment (forget_body s.body) (acts.Resets e))
    (λ e. acts.act_rules h me moment s.body (acts.Resets e))
    (λ e. act_rules-forget h me moment s.body (acts.Resets e))

-- both hosts, of which something was discarded
abbrev forget_hosts : Both (HostState tcp_shape) → Both (HostState tcp_shape)
forget_hosts hosts = record { zero = forget_host hosts.zero; one = forget_host hosts.one }

aim-forget : (h : Header) (hosts : Both (HostState tcp_shape)) (a : Aim) → aim_of (tcp h) (forget_hosts hosts) a ≡ aim_of (tcp h) hosts a
aim-forget h hosts (ThatHost host) = refl
aim-forget h hosts (ThatSocket n) = refl

fresh-forget : (h : Header) (hosts : Both (HostState tcp_shape)) (o : Option ℕ) → fresh_rules (tcp h) (forget_hosts hosts) o ≡ fresh_rules (tcp h) hosts o
fresh-forget h hosts None = refl
fresh-forget h hosts (Some n) = refl

call_rules-forget : (h : Header) (moment : ℕ) (hosts : Both (HostState tcp_shape)) (call : Call) (answer : Answer) (o : Option Host)
    → call_rules (tcp h) moment (forget_hosts hosts) call answer o ≡ call_rules (tcp h) moment hosts call answer o
call_rules-forget h moment hosts call answer None = rw (fresh-forget h hosts (gives call answer)) refl
call_rules-forget h moment hosts call answer (Some Zero) =
    rw (
      fresh-forget h hosts (gives call answer),
      act_rules-forget h Zero moment hosts.zero.body (acts.Calls call answer),
    ) refl
call_rules-forget h moment hosts call answer (Some One) =
    rw (fresh-forget h hosts (gives call answer), act_rules-forget h One moment hosts.one.body (acts.Calls call answer))
    refl

effect_rules-forget : (h : Header) (moment : ℕ) (hosts : Both (HostState tcp_shape)) (u : Turn tcp_shape) (answer : Answer)
    → effect_rules (tcp h) moment (forget_hosts hosts) u answer ≡ effect_rules (tcp h) moment hosts u answer
effect_rules-forget h moment hosts Idle answer = refl
effect_rules-forget h moment hosts (Called call) answer =
    rw (aim-forget h hosts (aim call), call_rules-forget h moment hosts call answer (aim_of (tcp h) hosts (aim call))) refl
effect_rules-forget h moment hosts (Answered given) answer = refl

pub step_rules-forget : (h : Header) (moment : ℕ) (w : World tcp_shape) (step : Step tcp_shape)
    → step_rules (tcp h) moment (forget w) step ≡ step_rules (tcp h) moment w step
step_rules-forget h moment w (Begin line t call) = refl
step_rules-forget h moment w (Finish line t answer) = refl
step_rules-forget h moment w (Effect t answer) = effect_rules-forget h moment w.hosts (turn_of t w.threads) answer
step_rules-forget h moment w (At Zero d) = host_step_rules-forget h Zero moment w.hosts.one.wire w.hosts.zero d
step_rules-forget h moment w (At One d) = host_step_rules-forget h One moment w.hosts.zero.wire w.hosts.one d

host-forget : (s : HostState tcp_shape) → forget_host (forget_host s) ≡ forget_host s
host-forget s = rw (body-forget s.body) refl

-- where the host's step changes no endpoint
tables-forgets : (s : HostState tcp_shape) (made : List (ℕ × Made Emission)) (wire : List (ℕ × Emission)) (inbox : List (ℕ × Option Emission))
    → forget_host (record (forget_host s) { made = made; wire = wire; inbox = inbox }) ≡ forget_host (record s { made = made; wire = wire; inbox = inbox })
tables-forgets s made wire inbox = rw (body-forget s.body) refl

host_step-forgets : (h : Header) (me : Host) (moment fresh : ℕ) (far : List (ℕ × Emission)) (s : HostState tcp_shape) (d : HostStep tcp_shape)
    → IfMaking d (first_broken (host_step_rules (tcp h) me moment far s d) ≡ None)
    → forget_host (host_step_after (tcp h) me moment fresh far (forget_host s) d) ≡ forget_host (host_step_after (tcp h) me moment fresh far s d)
host_step-forgets h me moment fresh far s (Does x) ok = rw (act-forgets h me moment s.body (acts.Recovers x)) refl
host_step-forgets h me moment fresh far s (Expires line x) ok = rw (act-forgets h me moment s.body (acts.Expires x)) refl
host_step-forgets h me moment fresh far s (Makes x) ok = rw (act-forgets h me moment s.body (acts.Makes x), makes-forget h me moment s.body x ok) refl
host_step-forgets h me moment fresh far s (Sends line number wire) ok =
    tables-forgets s (made_gone_out number s.made) (wire_after wires.sent s.made line number wire moment s.wire) s.inbox
host_step-forgets h me moment fresh far s (Gets line copied wire) ok = tables-forgets s s.made s.wire (inbox_after far line copied s.inbox)
host_step-forgets h me moment fresh far s (Hears line wire) ok = tables-forgets s s.made s.wire (insert_entry nat_eq s.inbox line (Some (heard moment wire)))
host_step-forgets h me moment fresh far s (Takes line how) ok = by (waiting line s.inbox)
  where
    after : HostState tcp_shape → Option Emission → HostState tcp_shape
    after s o = record s { body = on o s.body (λ e. acts.act_after h me moment s.body (acts.Takes how e)); inbox = on o s.inbox (λ e. settled line s.inbox) }

    by : (o : Option Emission) → forget_host (after (forget_host s) o) ≡ forget_host (after s o)
    by None = host-forget s
    by (Some e) = rw (act-forgets h me moment s.body (acts.Takes how e)) refl
host_step-forgets h me moment fresh far s (Drops line) ok = tables-forgets s s.made s.wire (inbox_settled line s.inbox)
host_step-forgets h me moment fresh far s (Answers line) ok = by (waiting line s.inbox)
  where
    after : HostState tcp_shape → Option Emission → HostState tcp_shape
    after s o = record s {
      body = on o s.body (λ e. s.body);
      made = on o s.made (λ e. act_made (tcp h) me moment fresh s (acts.Resets e));
      inbox = on o s.inbox (λ e. settled line s.inbox);
    }

    by : (o : Option Emission) → forget_host (after (forget_host s) o) ≡ forget_host (after s o)
    by None = host-forget s
    by (Some e) = tables-forgets s (act_made (tcp h) me moment fresh s (acts.Resets e)) s.wire (settled line s.inbox)

call-forgets : (h : Header) (moment : ℕ) (hosts : Both (HostState tcp_shape)) (act : Act) (o : Option Host)
    → forget_hosts (call_after (tcp h) moment (forget_hosts hosts) act o)
    ≡ forget_hosts (call_after (tcp h) moment hosts act o)
call-forgets h moment hosts act None = rw (body-forget hosts.zero.body, body-forget hosts.one.body) refl
call-forgets h moment hosts act (Some Zero) = rw (act-forgets h Zero moment hosts.zero.body act, body-forget hosts.one.body) refl
call-forgets h moment hosts act (Some One) = rw (act-forgets h One moment hosts.one.body act, body-forget hosts.zero.body) refl

effect-forgets : (h : Header) (moment : ℕ) (w : World tcp_shape) (t : ℕ) (answer : Answer) (u : Turn tcp_shape)
    → forget (effect_after (tcp h) moment (forget w) t answer u) ≡ forget (effect_after (tcp h) moment w t answer u)
effect-forgets h moment w t answer Idle = world-forget w
effect-forgets h moment w t answer (Called call) =
    rw (aim-forget h w.hosts (aim call), call-forgets h moment w.hosts (acts.Calls call answer) (aim_of (tcp h) w.hosts (aim call))) refl
effect-forgets h moment w t answer (Answered given) = world-forget w

turn-forgets : (w : World tcp_shape) (threads : List (ℕ × Turn tcp_shape))
    → forget (record (forget w) { threads = threads }) ≡ forget (record w { threads = threads })
turn-forgets w threads = rw (body-forget w.hosts.zero.body, body-forget w.hosts.one.body) refl

pub after-forgets : (h : Header) (moment : ℕ) (w : World tcp_shape) (step : Step tcp_shape)
    → MakesPermitted h moment w step
    → forget (after (tcp h) moment (forget w) step) ≡ forget (after (tcp h) moment w step)
after-forgets h moment w (Begin line t call) ok = turn-forgets w (insert_entry nat_eq w.threads t (Called call))
after-forgets h moment w (Finish line t answer) ok = turn-forgets w (insert_entry nat_eq w.threads t Idle)
after-forgets h moment w (Effect t answer) ok = effect-forgets h moment w t answer (turn_of t w.threads)
after-forgets h moment w (At Zero d) ok = rw (host_step-forgets h Zero moment (suc w.count) w.hosts.one.wire w.hosts.zero d ok, host-forget w.hosts.one) refl
after-forgets h moment w (At One d) ok = rw (host_step-forgets h One moment (suc w.count) w.hosts.zero.wire w.hosts.one d ok, host-forget w.hosts.zero) refl

-- forgetting leaves the tables as they stand
tables-same : (v w : World tcp_shape) → forget v ≡ forget w → (host : Host) → SameTables (pick v.hosts host) (pick w.hosts host)
tables-same v w same Zero =
    record {
      made = ap (λ (x : World tcp_shape). x.hosts.zero.made) same;
      wire = ap (λ (x : World tcp_shape). x.hosts.zero.wire) same;
      inbox = ap (λ (x : World tcp_shape). x.hosts.zero.inbox) same;
    }
tables-same v w same One =
    record {
      made = ap (λ (x : World tcp_shape). x.hosts.one.made) same;
      wire = ap (λ (x : World tcp_shape). x.hosts.one.wire) same;
      inbox = ap (λ (x : World tcp_shape). x.hosts.one.inbox) same;
    }

pub besides-same : (v w : World tcp_shape) → forget v ≡ forget w → SameBesides v w
besides-same v w same =
    record {
      tables = tables-same v w same;
      threads = ap (λ (x : World tcp_shape). x.threads) same;
      count = ap (λ (x : World tcp_shape). x.count) same;
    }

-- a permitted step that makes a segment is permitted
if_making : (d : HostStep tcp_shape) (P : Type 0) → P → IfMaking d P
if_making (Does x) P p = tt
if_making (Expires line x) P p = tt
if_making (Makes x) P p = p
if_making (Sends line number wire) P p = tt
if_making (Gets line copied wire) P p = tt
if_making (Hears line wire) P p = tt
if_making (Takes line how) P p = tt
if_making (Drops line) P p = tt
if_making (Answers line) P p = tt

pub makes_permitted : (h : Header) (moment : ℕ) (w : World tcp_shape) (step : Step tcp_shape) → Permitted (tcp h) moment w step → MakesPermitted h moment w step
makes_permitted h moment w (Begin line t call) ok = tt
makes_permitted h moment w (Finish line t answer) ok = tt
makes_permitted h moment w (Effect t answer) ok = tt
makes_permitted h moment w (At host d) ok = if_making d (Permitted (tcp h) moment w (At host d)) ok
