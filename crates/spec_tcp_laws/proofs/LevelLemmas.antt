-- Every rule but the level's own is the same at every level.
use Rattle.std.proofs.Common.{◌≡◌, ℕ, ◌≤◌, Bool, true, false, List, [], ◌∷◌, ◌++◌, Option, None, Some, refl, ap, sym, ◌∙◌, inl, inr, ◌⊎◌, arith}
use Rattle.std.specs.Prelude.{if◌then◌else◌, not, nat_le, nat_lt, ◌&&◌, ◌||◌, ◌==◌}
use Rattle.std.specs.Option.{option_map, option_map_or}
use Rattle.std.proofs.lemmas.Bool.Decides.{nat_tests}
use Rattle.std.proofs.lemmas.Option.{same_Some}
use Rattle.case_forms.specs.States.{is_syn_sent}
use Rattle.case_forms.specs.Versions.{says_sender}
use Rattle.case_forms.specs.declared.timer.RecoveryChange.TheVariants.{Begins, IsUndone}
use Rattle.case_forms.specs.declared.calls.Answer.{Answer}
use Rattle.case_forms.specs.declared.calls.Call.{Call}
use Rattle.case_forms.specs.declared.calls.Host.{Host}
use Rattle.case_forms.specs.declared.calls.Host.TheVariants.{One, Zero}
use Rattle.case_forms.specs.declared.steps.SegmentPlan.{SegmentPlan}
use Rattle.case_forms.specs.declared.steps.TakeChoice.{TakeChoice}
use Rattle.case_forms.specs.declared.taken_line.Expired.{Expired}
use Rattle.case_forms.specs.declared.taken_line.Expired.TheVariants.{Giveup, Msl2, Persist, Pto, Rto}
use Rattle.case_forms.specs.declared.trace.Header.{Header}
use Rattle.case_forms.specs.declared.version.Judged.{Judged}
use Rattle.case_forms.specs.declared.timer.RecoveryChange.{RecoveryChange}
use Rattle.case_forms.specs.declared.version.Version.{Version}
use Rattle.verdict.specs.Rules.{first_broken}
use Rattle.verdict.specs.declared.rule.Rule.{Rule}
use Rattle.verdict.specs.declared.rule.Rule.TheVariants as rules
use Rattle.verdict.proofs.RuleLemmas.{none_all}
use Rattle.window_rules.specs.Control.{counts_duplicates, greatest, may_recover}
use Rattle.window_rules.specs.declared.control.Profile.{Profile}
use Rattle.window_rules.specs.declared.control.Signal.{Signal}
use Rattle.spec_network.specs.HostRules.{aim_of, call_rules, host_step_rules, just, open_rules, pending_rules, step_rules}
use Rattle.spec_network.specs.Hosts.{Answered, Answers, At, Begin, Called, HostStep, Does, Drops, Effect, Expires, Finish, Gets, Hears, HostState, Idle, Makes}
use Rattle.spec_network.specs.Hosts.{Sends, Step, Takes, Turn, World, turn_of}
use Rattle.spec_network.specs.Tables.{Both, on, waiting}
use Rattle.spec_tcp.specs.Arrives.{AtEndpoint, AtListener, Nobody, Taker, taker, taker_rules}
use Rattle.spec_tcp.specs.Arrives.OtherStates.{connected_rules}
use Rattle.spec_tcp.specs.Arrives.SynSent.{syn_sent_rules}
use Rattle.spec_tcp.specs.Endpoints.{snd_max}
use Rattle.spec_tcp.specs.Heard.{as_read}
use Rattle.spec_tcp.specs.HostTcp.{HostTcp, endpoint_of}
use Rattle.spec_tcp.specs.Machine.{Act, aim, act_rules, gives, rules_at, tcp, tcp_shape}
use Rattle.spec_tcp.specs.Machine as acts
use Rattle.spec_tcp.specs.Makes.{making_rules}
use Rattle.spec_tcp.specs.Recovery.{is_bad_recovery, recovery_rules}
use Rattle.spec_tcp.specs.Signals.{at_moment, profile_of, recovery_signal}
use Rattle.spec_tcp.specs.Timeouts.{expiry_rules}
use Rattle.spec_tcp.specs.declared.endpoint.Emission.{Emission}
use Rattle.spec_tcp.specs.declared.endpoint.Endpoint.{Endpoint}
use Rattle.spec_tcp.specs.declared.endpoint.EndpointId.{EndpointId}
use Rattle.spec_tcp_laws.specs.Ascending.{ascend, rule_number}
use Rattle.spec_tcp_laws.specs.Judging.{body_by, endpoint_by, header_by, host_by, world_by, world_judged}
use Rattle.spec_tcp_laws.specs.Levels.{JudgedAlike, RecoveryIsDue, RefusedAlike, is_of_level, other_rules}
use Rattle.spec_tcp_laws.proofs.Ascending.{rules_ascend}
use Rattle.spec_tcp_laws.proofs.JudgedActs.{nothing_same, taker_by, taker_is}
use Rattle.spec_tcp_laws.proofs.JudgedBodies.{call_allows_by, endpoint_of_by}
use Rattle.spec_tcp_laws.proofs.JudgedWorlds.{aim_same, fresh_same, hosts_by}
use Rattle.spec_tcp_laws.proofs.Rules.{at_most_to, both_true, neither, not_false}

-- the same of the other rules
abbrev Alike : (xs ys : List (Rule × Bool)) → Type 0
Alike xs ys = other_rules xs ≡ other_rules ys

-- ---- the rules of each kind of step

making_alike : (v : Version) (p : Profile) (e : Endpoint) (m : SegmentPlan) → Alike (making_rules v (endpoint_by p e) m) (making_rules v e m)
making_alike v p e m = refl

expiry_alike : (p : Profile) (j : Judged) (h : Header) (moment : ℕ) (e : Endpoint) (x : Expired)
    → Alike (expiry_rules (header_by j h) moment (endpoint_by p e) x) (expiry_rules h moment e x)
expiry_alike p j h moment e (Rto growth) = refl
expiry_alike p j h moment e Persist = refl
expiry_alike p j h moment e Msl2 = refl
expiry_alike p j h moment e Giveup = refl
expiry_alike p j h moment e Pto = refl

recovery_alike : (v : Version) (p : Profile) (e : Endpoint) (change : RecoveryChange) (cwnd ssthresh moment : ℕ)
    → Alike (recovery_rules v (endpoint_by p e) change cwnd ssthresh moment) (recovery_rules v e change cwnd ssthresh moment)
recovery_alike v p e Begins cwnd ssthresh moment = refl
recovery_alike v p e IsUndone cwnd ssthresh moment = refl

taker_alike : (p : Profile) (j : Judged) (h : Header) (me : Host) (b : HostTcp) (how : TakeChoice) (m : Emission) (moment : ℕ) (t : Taker)
    → Alike (taker_rules (header_by j h) me (body_by p b) how m moment (taker_by p t)) (taker_rules h me b how m moment t)
taker_alike p j h me b how m moment Nobody = refl
taker_alike p j h me b how m moment (AtListener l) = refl
taker_alike p j h me b how m moment (AtEndpoint i e) = by (as_read h.version e m) (is_syn_sent e.state)
  where
    name : EndpointId
    name = record { host = me; number = i }

    by : (m : Emission) (sent : Bool)
        → Alike
        (if sent then syn_sent_rules (endpoint_by p e) how m moment else connected_rules (header_by j h) (body_by p b) name (endpoint_by p e) how m moment)
        (if sent then syn_sent_rules e how m moment else connected_rules h b name e how m moment)
    by m true = refl
    by m false = refl

-- at the endpoint of some ports
rules_alike : (p : Profile) (b : HostTcp) (lport rport : ℕ) (f g : Endpoint → List (Rule × Bool)) → ((e : Endpoint) → Alike (g (endpoint_by p e)) (f e))
    → Alike (rules_at (body_by p b) lport rport g) (rules_at b lport rport f)
rules_alike p b lport rport f g same = rw (endpoint_of_by p b lport rport) (by (endpoint_of b lport rport))
  where
    by : (o : Option Endpoint)
        → Alike (option_map_or g (option_map (endpoint_by p) o) ((rules.NoEndpoint, true) ∷ [])) (option_map_or f o ((rules.NoEndpoint, true) ∷ []))
    by None = refl
    by (Some e) = same e

act_alike : (p : Profile) (j : Judged) (h : Header) (me : Host) (moment : ℕ) (b : HostTcp) (act : Act)
    → Alike (act_rules (header_by j h) me moment (body_by p b) act) (act_rules h me moment b act)
act_alike p j h me moment b (acts.Calls call answer) = rw (call_allows_by h.version p b call answer) refl
act_alike p j h me moment b (acts.Makes m) = rules_alike p b m.lport m.rport (λ e. making_rules h.version e m) (λ e. making_rules h.version e m)
    (λ e. making_alike h.version p e m)
act_alike p j h me moment b (acts.Takes how m) = rw (taker_is p b m) (taker_alike p j h me b how m moment (taker b m))
act_alike p j h me moment b (acts.Resets m) = rw (taker_is p b m, nothing_same p m (taker b m)) refl
act_alike p j h me moment b (acts.Expires x) =
    rules_alike p b x.lport x.rport (λ e. expiry_rules h moment e x.expired) (λ e. expiry_rules (header_by j h) moment e x.expired)
    (λ e. expiry_alike p j h moment e x.expired)
act_alike p j h me moment b (acts.Recovers x) =
    rules_alike p b x.lport x.rport (λ e. recovery_rules h.version e x.change x.cwnd x.ssthresh moment)
    (λ e. recovery_rules h.version e x.change x.cwnd x.ssthresh moment)
    (λ e. recovery_alike h.version p e x.change x.cwnd x.ssthresh moment)

-- of a thing that is looked up
on_alike : {A : Type 0} (o : Option A) (none : List (Rule × Bool)) (f g : A → List (Rule × Bool)) → ((x : A) → Alike (g x) (f x))
    → Alike (on o none g) (on o none f)
on_alike None none f g same = refl
on_alike (Some x) none f g same = same x

host_step_alike : (p : Profile) (j : Judged) (h : Header) (me : Host) (moment : ℕ) (far : List (ℕ × Emission)) (s : HostState tcp_shape)
    (d : HostStep tcp_shape)
    → Alike (host_step_rules (tcp (header_by j h)) me moment far (host_by p s) d) (host_step_rules (tcp h) me moment far s d)
host_step_alike p j h me moment far s (Does x) = act_alike p j h me moment s.body (acts.Recovers x)
host_step_alike p j h me moment far s (Expires line x) = act_alike p j h me moment s.body (acts.Expires x)
host_step_alike p j h me moment far s (Makes x) = act_alike p j h me moment s.body (acts.Makes x)
host_step_alike p j h me moment far s (Sends line number wire) = refl
host_step_alike p j h me moment far s (Gets line copied wire) = refl
host_step_alike p j h me moment far s (Hears line wire) = refl
host_step_alike p j h me moment far s (Takes line how) =
    on_alike (waiting line s.inbox) (just rules.Inbox true) (λ e. act_rules h me moment s.body (acts.Takes how e))
    (λ e. act_rules (header_by j h) me moment (body_by p s.body) (acts.Takes how e)) (λ e. act_alike p j h me moment s.body (acts.Takes how e))
host_step_alike p j h me moment far s (Drops line) = refl
host_step_alike p j h me moment far s (Answers line) =
    on_alike (waiting line s.inbox) (just rules.Inbox true) (λ e. act_rules h me moment s.body (acts.Resets e))
    (λ e. act_rules (header_by j h) me moment (body_by p s.body) (acts.Resets e)) (λ e. act_alike p j h me moment s.body (acts.Resets e))

-- a call breaks the same of all rules
call_same : (p : Profile) (j : Judged) (h : Header) (moment : ℕ) (hosts : Both (HostState tcp_shape)) (call : Call) (answer : Answer) (o : Option Host)
    → call_rules (tcp (header_by j h)) moment (hosts_by p hosts) call answer o ≡ call_rules (tcp h) moment hosts call answer o
call_same p j h moment hosts call answer None = rw (fresh_same p j h hosts (gives call answer)) refl
call_same p j h moment hosts call answer (Some Zero) =
    rw (fresh_same p j h hosts (gives call answer), call_allows_by h.version p hosts.zero.body call answer) refl
call_same p j h moment hosts call answer (Some One) =
    rw (fresh_same p j h hosts (gives call answer), call_allows_by h.version p hosts.one.body call answer) refl

open_same : (p : Profile) (j : Judged) (h : Header) (moment : ℕ) (hosts : Both (HostState tcp_shape)) (u : Turn tcp_shape) (answer : Answer)
    → open_rules (tcp (header_by j h)) moment (hosts_by p hosts) u answer ≡ open_rules (tcp h) moment hosts u answer
open_same p j h moment hosts Idle answer = refl
open_same p j h moment hosts (Called call) answer =
    rw (aim_same p j h hosts (aim call)) (call_same p j h moment hosts call answer (aim_of (tcp h) hosts (aim call)))
open_same p j h moment hosts (Answered given) answer = refl

pub step_alike : (p : Profile) (j : Judged) (h : Header) (moment : ℕ) (w : World tcp_shape) (step : Step tcp_shape)
    → other_rules (step_rules (tcp (header_by j h)) moment (world_by p w) step) ≡ other_rules (step_rules (tcp h) moment w step)
step_alike p j h moment w (Begin line t call) = refl
step_alike p j h moment w (Finish line t answer) = refl
step_alike p j h moment w (Effect t answer) =
    ap (λ (xs : List (Rule × Bool)). other_rules (pending_rules (turn_of t w.threads) ++ xs)) (open_same p j h moment w.hosts (turn_of t w.threads) answer)
step_alike p j h moment w (At Zero d) = host_step_alike p j h Zero moment w.hosts.one.wire w.hosts.zero d
step_alike p j h moment w (At One d) = host_step_alike p j h One moment w.hosts.zero.wire w.hosts.one d

listener_alike : (p : Profile) (j : Judged) (h : Header) (me : Host) (moment : ℕ) (b : HostTcp) (how : TakeChoice) (m : Emission) (place : ℕ) (t : Taker)
    → t ≡ AtListener place → taker_rules (header_by j h) me (body_by p b) how m moment (taker_by p t) ≡ taker_rules h me b how m moment t
listener_alike p j h me moment b how m place Nobody is = refl
listener_alike p j h me moment b how m place (AtListener l) is = refl
listener_alike p j h me moment b how m place (AtEndpoint i e) is = absurd cc

pub judged_alike : (h : Header) (j : Judged) → JudgedAlike h j
judged_alike h j = record {
  others = step_alike (profile_of (header_by j h)) j h;
  listeners = λ host moment b how m place is.
      rw (taker_is (profile_of (header_by j h)) b m) (listener_alike (profile_of (header_by j h)) j h host moment b how m place (taker b m) is);
}

-- ---- which rule refuses a step

-- the first broken rule, if it is none of the level's own, is the first of the others
first_kept : (xs : List (Rule × Bool)) (rule : Rule) → first_broken xs ≡ Some rule → is_of_level rule ≡ false → first_broken (other_rules xs) ≡ Some rule
first_kept [] rule is other = absurd cc
first_kept ((r, true) ∷ xs) rule is other = let same : r ≡ rule = same_Some r rule is in rw (ap is_of_level same ∙ other) is
first_kept ((r, false) ∷ xs) rule is other = by (is_of_level r) (first_kept xs rule is other)
  where
    by : (own : Bool) → first_broken (other_rules xs) ≡ Some rule
        → first_broken (if own then other_rules xs else (r, false) ∷ other_rules xs) ≡ Some rule
    by true rest = rest
    by false rest = rest

-- the first of the others has no lower number than the list
first_above : (low : ℕ) (xs : List (Rule × Bool)) (rule : Rule) → ascend low xs ≡ true → first_broken (other_rules xs) ≡ Some rule → low ≤ rule_number rule
first_above low [] rule up is = absurd cc
first_above low ((r, b) ∷ xs) rule up is =
    let parts = both_true (nat_le low (rule_number r)) (ascend (rule_number r) xs) up in
    by (at_most_to low (rule_number r) parts.0) (first_above (rule_number r) xs rule parts.1) (is_of_level r) b is
  where
    by : low ≤ rule_number r → (first_broken (other_rules xs) ≡ Some rule → rule_number r ≤ rule_number rule) → (own b : Bool)
        → first_broken (if own then other_rules xs else (r, b) ∷ other_rules xs) ≡ Some rule → low ≤ rule_number rule
    by at further true b is = let next = further is in omega (arith, at, next)
    by at further false true is = let same : r ≡ rule = same_Some r rule is in rw (sym same) at
    by at further false false is = let next = further is in omega (arith, at, next)

-- a list in which one of the others is broken has a first broken rule: that one, or one of the level's own
abbrev Refuses : List (Rule × Bool) → Rule → Type 0
Refuses xs rule =
    (first : Rule) × (first_broken xs ≡ Some first)
    × ((first ≡ rule) ⊎ ((is_of_level first ≡ true) × (rule_number first ≤ rule_number rule)))

refuses : (low : ℕ) (xs : List (Rule × Bool)) (rule : Rule) → ascend low xs ≡ true → first_broken (other_rules xs) ≡ Some rule → Refuses xs rule
refuses low [] rule up is = absurd cc
refuses low ((r, b) ∷ xs) rule up is =
    let rest_up = (both_true (nat_le low (rule_number r)) (ascend (rule_number r) xs) up).1 in
    by rest_up (refuses (rule_number r) xs rule rest_up) (is_of_level r) refl b is
  where
    by : ascend (rule_number r) xs ≡ true → (first_broken (other_rules xs) ≡ Some rule → Refuses xs rule) → (own : Bool) → is_of_level r ≡ own → (b : Bool)
        → first_broken (if own then other_rules xs else (r, b) ∷ other_rules xs) ≡ Some rule
        → Refuses ((r, b) ∷ xs) rule
    by up further true own true is = (r, refl, inr (own, first_above (rule_number r) xs rule up is))
    by up further true own false is = further is
    by up further false own true is = (r, refl, inl (same_Some r rule is))
    by up further false own false is = further is

pub refused_alike : (h : Header) (j : Judged) → RefusedAlike h j
refused_alike h j = record {
  refused = λ moment w step rule is other.
      refuses 6 (step_rules (tcp (header_by j h)) moment (world_judged j h w) step) rule (rules_ascend (header_by j h) moment (world_judged j h w) step)
      (ap first_broken (step_alike (profile_of (header_by j h)) j h moment w step) ∙ first_kept (step_rules (tcp h) moment w step) rule is other);
}

-- ---- fast recovery

differ : (a b : ℕ) → (a == b) ≡ false → a ≡ b → ⊥
differ a b unequal is = grind (arith, nat_tests)

duplicate : (counts : Bool) (dup : ℕ) (fast : Bool) → counts ≡ true → (not counts || nat_le 3 dup && not fast) ≡ true → (3 ≤ dup) × (fast ≡ false)
duplicate true dup true is may = absurd (grind (arith, nat_tests))
duplicate true dup false is may = (grind (arith, nat_tests), refl)
duplicate false dup fast is may = absurd cc

pub recovery_is_due : RecoveryIsDue
recovery_is_due v e cwnd ssthresh moment passed =
    let t = none_all (recovery_rules v e Begins cwnd ssthresh moment) passed in
    let window =
    neither (not (says_sender v || may_recover e.control) || e.stream.snd_una == snd_max e || nat_lt ((greatest e.control now (at_moment e moment)).1) ssthresh)
    (nat_lt ((greatest e.control now (at_moment e moment)).0) cwnd) t.1.1.0 in
    let threshold =
    neither (not (says_sender v || may_recover e.control) || e.stream.snd_una == snd_max e)
    (nat_lt ((greatest e.control now (at_moment e moment)).1) ssthresh) window.0 in
    let begins = neither (not (says_sender v || may_recover e.control)) (e.stream.snd_una == snd_max e) threshold.0 in
    record {
      outstanding = differ e.stream.snd_una (snd_max e) begins.1;
      duplicates = λ old counts.
          duplicate (counts_duplicates e.control.profile) e.control.values.dup e.control.values.fast counts
          (sym (ap (λ (b : Bool). b || may_recover e.control) old) ∙ not_false (says_sender v || may_recover e.control) begins.0);
    }
  where
    now : Signal
    now = recovery_signal e ssthresh
