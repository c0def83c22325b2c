-- Steps of a world where less of congestion control is judged: what is permitted is permitted, and the same follows.
use Rattle.std.proofs.Common.{◌≡◌, ℕ, suc, ◌≤◌, Bool, true, List, ◌++◌, Option, None, Some, refl, sym, ap, subst, ◌∙◌}
use Rattle.case_forms.specs.declared.calls.Answer.{Answer}
use Rattle.case_forms.specs.declared.calls.Call.{Call}
use Rattle.case_forms.specs.declared.calls.Host.{Host}
use Rattle.case_forms.specs.declared.calls.Host.TheVariants.{One, Zero}
use Rattle.case_forms.specs.declared.trace.Header.{Header}
use Rattle.case_forms.specs.declared.version.Judged.{Judged}
use Rattle.verdict.specs.Rules.{first_broken}
use Rattle.verdict.specs.declared.rule.Rule.{Rule}
use Rattle.verdict.specs.declared.rule.Rule.TheVariants as rules
use Rattle.verdict.proofs.RuleLemmas.{first_broken-append_none, none_both}
use Rattle.window_rules.specs.Judging.{JudgesAtMost}
use Rattle.window_rules.specs.declared.control.Profile.{Profile}
use Rattle.spec_network.specs.HostRules.{Permitted, aim_of, call_rules, host_step_rules, fresh_rules, just, open_rules, pending_rules}
use Rattle.spec_network.specs.HostSteps.{after, call_after, host_step_after, effect_after, inbox_settled}
use Rattle.spec_network.specs.Hosts.{Aim, Answered, Answers, At, Begin, Called, HostStep, Does, Drops, Effect, Expires, Finish, Gets, Hears, HostState, Idle}
use Rattle.spec_network.specs.Hosts.{Makes}
use Rattle.spec_network.specs.Hosts.{Sends, Step, Takes, ThatHost, ThatSocket, Turn, World, turn_of}
use Rattle.spec_network.specs.Tables.{Both, on, pick, waiting}
use Rattle.spec_tcp.specs.HostTcp.{HostTcp}
use Rattle.spec_tcp.specs.Machine.{Act, aim, gives, tcp, tcp_shape}
use Rattle.spec_tcp.specs.Machine as acts
use Rattle.spec_tcp.specs.Signals.{profile_of}
use Rattle.spec_tcp.specs.declared.endpoint.Emission.{Emission}
use Rattle.spec_tcp_laws.specs.Judging.{IsJudged, body_by, extent, header_by, host_by, world_judged}
use Rattle.spec_tcp_laws.proofs.JudgedActs.{MayJudgeAll, act_kept, act_passes, makes_same}
use Rattle.spec_tcp_laws.proofs.JudgedRules.{judges_at_most}
use Rattle.spec_tcp_laws.proofs.Later.{name}

-- a list of rules that passes wherever another does, of a thing that is looked up
on_pass : {A : Type 0} (o : Option A) (none : List (Rule × Bool)) (f g : A → List (Rule × Bool))
    → ((x : A) → first_broken (f x) ≡ None → first_broken (g x) ≡ None)
    → first_broken (on o none f) ≡ None → first_broken (on o none g) ≡ None
on_pass None none f g passes passed = passed
on_pass (Some x) none f g passes passed = passes x passed

both_pass : (xs ys zs : List (Rule × Bool)) → (first_broken ys ≡ None → first_broken zs ≡ None) → first_broken (xs ++ ys) ≡ None
    → first_broken (xs ++ zs) ≡ None
both_pass xs ys zs passes passed = let parts = none_both xs ys passed in first_broken-append_none xs zs parts.0 ∙ passes parts.1

-- both hosts, where the congestion control of each endpoint goes by this profile
abbrev pub hosts_by : Profile → Both (HostState tcp_shape) → Both (HostState tcp_shape)
hosts_by p hosts = record { zero = host_by p hosts.zero; one = host_by p hosts.one }

host_step_passes : (p : Profile) (j : Judged) (h : Header) (me : Host) (moment : ℕ) (far : List (ℕ × Emission)) (s : HostState tcp_shape)
    (d : HostStep tcp_shape)
    → MayJudgeAll p s.body
    → first_broken (host_step_rules (tcp h) me moment far s d) ≡ None
    → first_broken (host_step_rules (tcp (header_by j h)) me moment far (host_by p s) d) ≡ None
host_step_passes p j h me moment far s (Does x) may passed = act_passes p j h me moment s.body (acts.Recovers x) may passed
host_step_passes p j h me moment far s (Expires line x) may passed = act_passes p j h me moment s.body (acts.Expires x) may passed
host_step_passes p j h me moment far s (Makes x) may passed = act_passes p j h me moment s.body (acts.Makes x) may passed
host_step_passes p j h me moment far s (Sends line number wire) may passed = passed
host_step_passes p j h me moment far s (Gets line copied wire) may passed = passed
host_step_passes p j h me moment far s (Hears line wire) may passed = passed
host_step_passes p j h me moment far s (Takes line how) may passed =
    on_pass (waiting line s.inbox) (just rules.Inbox true) (λ e. acts.act_rules h me moment s.body (acts.Takes how e))
    (λ e. acts.act_rules (header_by j h) me moment (body_by p s.body) (acts.Takes how e))
    (λ e. act_passes p j h me moment s.body (acts.Takes how e) may) passed
host_step_passes p j h me moment far s (Drops line) may passed = passed
host_step_passes p j h me moment far s (Answers line) may passed =
    on_pass (waiting line s.inbox) (just rules.Inbox true) (λ e. acts.act_rules h me moment s.body (acts.Resets e))
    (λ e. acts.act_rules (header_by j h) me moment (body_by p s.body) (acts.Resets e))
    (λ e. act_passes p j h me moment s.body (acts.Resets e) may) passed

pub aim_same : (p : Profile) (j : Judged) (h : Header) (hosts : Both (HostState tcp_shape)) (a : Aim)
    → aim_of (tcp (header_by j h)) (hosts_by p hosts) a ≡ aim_of (tcp h) hosts a
aim_same p j h hosts (ThatHost host) = refl
aim_same p j h hosts (ThatSocket n) = refl

pub fresh_same : (p : Profile) (j : Judged) (h : Header) (hosts : Both (HostState tcp_shape)) (o : Option ℕ)
    → fresh_rules (tcp (header_by j h)) (hosts_by p hosts) o ≡ fresh_rules (tcp h) hosts o
fresh_same p j h hosts None = refl
fresh_same p j h hosts (Some n) = refl

call_passes : (p : Profile) (j : Judged) (h : Header) (moment : ℕ) (hosts : Both (HostState tcp_shape)) (call : Call) (answer : Answer) (o : Option Host)
    → ((host : Host) → MayJudgeAll p (pick hosts host).body) → first_broken (call_rules (tcp h) moment hosts call answer o) ≡ None
    → first_broken (call_rules (tcp (header_by j h)) moment (hosts_by p hosts) call answer o) ≡ None
call_passes p j h moment hosts call answer None may passed = rw (fresh_same p j h hosts (gives call answer)) passed
call_passes p j h moment hosts call answer (Some Zero) may passed =
    rw (fresh_same p j h hosts (gives call answer))
    (both_pass (fresh_rules (tcp h) hosts (gives call answer)) (acts.act_rules h Zero moment hosts.zero.body (acts.Calls call answer))
    (acts.act_rules (header_by j h) Zero moment (body_by p hosts.zero.body) (acts.Calls call answer))
    (act_passes p j h Zero moment hosts.zero.body (acts.Calls call answer) (may Zero)) passed)
call_passes p j h moment hosts call answer (Some One) may passed =
    rw (fresh_same p j h hosts (gives call answer))
    (both_pass (fresh_rules (tcp h) hosts (gives call answer)) (acts.act_rules h One moment hosts.one.body (acts.Calls call answer))
    (acts.act_rules (header_by j h) One moment (body_by p hosts.one.body) (acts.Calls call answer))
    (act_passes p j h One moment hosts.one.body (acts.Calls call answer) (may One)) passed)

open_passes : (p : Profile) (j : Judged) (h : Header) (moment : ℕ) (hosts : Both (HostState tcp_shape)) (u : Turn tcp_shape) (answer : Answer)
    → ((host : Host) → MayJudgeAll p (pick hosts host).body)
    → first_broken (open_rules (tcp h) moment hosts u answer) ≡ None → first_broken (open_rules (tcp (header_by j h)) moment (hosts_by p hosts) u answer) ≡ None
open_passes p j h moment hosts Idle answer may passed = refl
open_passes p j h moment hosts (Called call) answer may passed =
    rw (aim_same p j h hosts (aim call)) (call_passes p j h moment hosts call answer (aim_of (tcp h) hosts (aim call)) may passed)
open_passes p j h moment hosts (Answered given) answer may passed = refl

-- each endpoint of a judged world is judged less by a word that judges less
pub may_judge : (j : Judged) (h : Header) (w : World tcp_shape) → extent j ≤ extent h.congestion → IsJudged h w → (host : Host)
    → MayJudgeAll (profile_of (header_by j h)) (pick w.hosts host).body
may_judge j h w le is host i e at = record {
  less =
      subst (λ (q : Profile). JudgesAtMost (profile_of (header_by j h)) q) (sym (is.profiles (name host i) e at))
      (judges_at_most h.version h.initial j h.congestion le);
  limited = is.values (name host i) e at;
}

pub step_passes : (j : Judged) (h : Header) (moment : ℕ) (w : World tcp_shape) (step : Step tcp_shape) → extent j ≤ extent h.congestion → IsJudged h w
    → Permitted (tcp h) moment w step
    → Permitted (tcp (header_by j h)) moment (world_judged j h w) step
step_passes j h moment w (Begin line t call) le is passed = passed
step_passes j h moment w (Finish line t answer) le is passed = passed
step_passes j h moment w (Effect t answer) le is passed =
    both_pass (pending_rules (turn_of t w.threads)) (open_rules (tcp h) moment w.hosts (turn_of t w.threads) answer)
    (open_rules (tcp (header_by j h)) moment (world_judged j h w).hosts (turn_of t w.threads) answer)
    (open_passes (profile_of (header_by j h)) j h moment w.hosts (turn_of t w.threads) answer (may_judge j h w le is)) passed
step_passes j h moment w (At Zero d) le is passed =
    host_step_passes (profile_of (header_by j h)) j h Zero moment w.hosts.one.wire w.hosts.zero d (may_judge j h w le is Zero) passed
step_passes j h moment w (At One d) le is passed =
    host_step_passes (profile_of (header_by j h)) j h One moment w.hosts.zero.wire w.hosts.one d (may_judge j h w le is One) passed

-- what follows
host_step_kept : (j : Judged) (h : Header) (me : Host) (moment fresh : ℕ) (far : List (ℕ × Emission)) (s : HostState tcp_shape) (d : HostStep tcp_shape)
    → host_step_after (tcp (header_by j h)) me moment fresh far (host_by (profile_of (header_by j h)) s) d
    ≡ host_by (profile_of (header_by j h)) (host_step_after (tcp h) me moment fresh far s d)
host_step_kept j h me moment fresh far s (Does x) = rw (act_kept j h me moment s.body (acts.Recovers x)) refl
host_step_kept j h me moment fresh far s (Expires line x) = rw (act_kept j h me moment s.body (acts.Expires x)) refl
host_step_kept j h me moment fresh far s (Makes x) =
    rw (act_kept j h me moment s.body (acts.Makes x), makes_same (profile_of (header_by j h)) me moment s.body (acts.Makes x)) refl
host_step_kept j h me moment fresh far s (Sends line number wire) = refl
host_step_kept j h me moment fresh far s (Gets line copied wire) = refl
host_step_kept j h me moment fresh far s (Hears line wire) = refl
host_step_kept j h me moment fresh far s (Takes line how) =
    ap (λ (b : HostTcp). record s { body = b; inbox = inbox_settled line s.inbox }) (by (waiting line s.inbox))
  where
    by : (o : Option Emission)
        → on o (body_by (profile_of (header_by j h)) s.body)
        (λ e. acts.act_after (header_by j h) me moment (body_by (profile_of (header_by j h)) s.body) (acts.Takes how e))
        ≡ body_by (profile_of (header_by j h)) (on o s.body (λ e. acts.act_after h me moment s.body (acts.Takes how e)))
    by None = refl
    by (Some e) = act_kept j h me moment s.body (acts.Takes how e)
host_step_kept j h me moment fresh far s (Drops line) = refl
host_step_kept j h me moment fresh far s (Answers line) =
    ap (λ (b : HostTcp). record (host_step_after (tcp h) me moment fresh far s (Answers line)) { body = b }) (by (waiting line s.inbox))
  where
    by : (o : Option Emission)
        → on o (body_by (profile_of (header_by j h)) s.body) (λ e. body_by (profile_of (header_by j h)) s.body)
        ≡ body_by (profile_of (header_by j h)) (on o s.body (λ e. s.body))
    by None = refl
    by (Some e) = refl

call_kept : (j : Judged) (h : Header) (moment : ℕ) (hosts : Both (HostState tcp_shape)) (act : Act) (o : Option Host)
    → call_after (tcp (header_by j h)) moment (hosts_by (profile_of (header_by j h)) hosts) act o
    ≡ hosts_by (profile_of (header_by j h)) (call_after (tcp h) moment hosts act o)
call_kept j h moment hosts act None = refl
call_kept j h moment hosts act (Some Zero) = rw (act_kept j h Zero moment hosts.zero.body act) refl
call_kept j h moment hosts act (Some One) = rw (act_kept j h One moment hosts.one.body act) refl

effect_kept : (j : Judged) (h : Header) (moment : ℕ) (w : World tcp_shape) (t : ℕ) (answer : Answer) (u : Turn tcp_shape)
    → effect_after (tcp (header_by j h)) moment (world_judged j h w) t answer u ≡ world_judged j h (effect_after (tcp h) moment w t answer u)
effect_kept j h moment w t answer Idle = refl
effect_kept j h moment w t answer (Called call) =
    rw (aim_same (profile_of (header_by j h)) j h w.hosts (aim call), call_kept j h moment w.hosts (acts.Calls call answer) (aim_of (tcp h) w.hosts (aim call)))
    refl
effect_kept j h moment w t answer (Answered given) = refl

pub after_kept : (j : Judged) (h : Header) (moment : ℕ) (w : World tcp_shape) (step : Step tcp_shape)
    → after (tcp (header_by j h)) moment (world_judged j h w) step ≡ world_judged j h (after (tcp h) moment w step)
after_kept j h moment w (Begin line t call) = refl
after_kept j h moment w (Finish line t answer) = refl
after_kept j h moment w (Effect t answer) = effect_kept j h moment w t answer (turn_of t w.threads)
after_kept j h moment w (At Zero d) = rw (host_step_kept j h Zero moment (suc w.count) w.hosts.one.wire w.hosts.zero d) refl
after_kept j h moment w (At One d) = rw (host_step_kept j h One moment (suc w.count) w.hosts.zero.wire w.hosts.one d) refl
