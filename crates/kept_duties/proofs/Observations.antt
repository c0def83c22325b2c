-- What a step shows of inboxes and of segments that were built, and what it makes of the model's tables.
use Rattle.std.proofs.Common.{◌≡◌, ℕ, suc, ◌⊎◌, inl, inr, Bool, true, false, List, Option, Some, None, refl, ap, sym, subst, ◌∙◌, cond, nat_eq, arith}
use Rattle.std.specs.Prelude.{◌&&◌, if◌then◌else◌, is_some, not}
use Rattle.std.specs.Map.{lookup}
use Rattle.std.proofs.lemmas.Bool.Decides.{nat_tests}
use Rattle.std.proofs.lemmas.Option.{none-some, same_Some, some_pair_parts}
use Rattle.indexmap.specs.IndexMap.{insert_entry}
use Rattle.case_forms.specs.declared.calls.Answer.{Answer}
use Rattle.case_forms.specs.declared.calls.Answer.TheVariants as answers
use Rattle.case_forms.specs.declared.calls.Call.{Call}
use Rattle.case_forms.specs.declared.calls.Call.TheVariants as calls
use Rattle.case_forms.specs.declared.calls.Host.{Host}
use Rattle.case_forms.specs.declared.calls.Host.TheVariants.{Zero, One}
use Rattle.case_forms.specs.declared.trace.Header.{Header}
use Rattle.case_forms.specs.declared.trace.Wire.{Wire}
use Rattle.verdict.specs.declared.rule.Rule.TheVariants as rules
use Rattle.verdict.proofs.RuleLemmas.{none_all, none_both}
use Rattle.spec_network.specs.HostRules.{Permitted, aim_of, just}
use Rattle.spec_network.specs.HostSteps.{act_made, after, call_after, host_step_after, effect_after, inbox_settled, made_gone_out}
use Rattle.spec_network.specs.Hosts.{World, HostState, HostStep, Does, Expires, Makes, Sends, Gets, Hears, Takes, Drops, Answers, Step, Begin, Finish, Effect}
use Rattle.spec_network.specs.Hosts.{At}
use Rattle.spec_network.specs.Hosts.{Turn, Idle, Called, Answered, turn_of}
use Rattle.spec_network.specs.Tables.{Made, gone_out, on, other, pick, settled, unsent, waiting}
use Rattle.spec_network.proofs.Entries.{lookup_insert}
use Rattle.spec_tcp.specs.HostTcp.{HostTcp, has_ended, socket_target}
use Rattle.spec_tcp.specs.Machine as acts
use Rattle.spec_tcp.specs.Machine.{Act, Calls, act_after, act_makes, tcp, tcp_shape, aim}
use Rattle.spec_tcp.specs.declared.endpoint.Emission.{Emission}
use Rattle.spec_tcp.specs.declared.endpoint.SocketTarget.{SocketTarget}
use Rattle.spec_tcp.specs.declared.endpoint.SocketTarget.TheVariants.{ListenerAt, EndpointAt}
use Rattle.spec_duties.specs.Arrivals.{acked_sent, stamps_read}
use Rattle.spec_duties.specs.Observations.{unseen, observe, observe_call, observe_effect, observe_accept, observe_close, observe_other, is_done}
use Rattle.spec_duties.specs.Observations.{at_sender, syn_sent}
use Rattle.spec_duties.specs.declared.observations.InboxChange.{InboxChange}
use Rattle.spec_duties.specs.declared.observations.InboxChange.TheVariants as inbox_change
use Rattle.spec_duties.specs.declared.observations.BuiltChange.{BuiltChange}
use Rattle.spec_duties.specs.declared.observations.BuiltChange.TheVariants as built_change
use Rattle.spec_duties.specs.declared.observations.Queueing.TheVariants as queueing
use Rattle.spec_duties.specs.declared.observations.Observation.{Observation}
use Rattle.spec_tcp_laws.proofs.Moves.{with_cases}
use Rattle.spec_tcp_laws.proofs.Rules.{on_cases, on_passes}

-- what a step does with a segment by its line, and with a built one by its number
abbrev pub enters : Step tcp_shape → Option (Host × ℕ)
enters (At host (Gets line copied wire)) = Some (host, line)
enters (At host (Hears line wire)) = Some (host, line)
enters step = None

abbrev pub leaves : Step tcp_shape → Option (Host × ℕ)
leaves (At host (Takes line how)) = Some (host, line)
leaves (At host (Drops line)) = Some (host, line)
leaves (At host (Answers line)) = Some (host, line)
leaves step = None

abbrev pub builds : Step tcp_shape → Option Host
builds (At host (Makes m)) = Some host
builds (At host (Answers line)) = Some host
builds step = None

abbrev pub sends : Step tcp_shape → Option (Host × ℕ)
sends (At host (Sends line number wire)) = Some (host, number)
sends step = None

-- a call shows nothing of them
pub record Quiet (s : Observation) : Type 0 where
  pub inbox_change : s.inbox_change ≡ inbox_change.Nothing
  pub built_change : s.built_change ≡ built_change.Nothing

quiet_on : {A : Type 0} (o : Option A) (f : A → Observation) → ((x : A) → Quiet (f x)) → Quiet (on o unseen f)
quiet_on None f each = record { inbox_change = refl; built_change = refl }
quiet_on (Some x) f each = each x

quiet_close : (host : Host) (b : HostTcp) (aborts : Bool) (answer : Answer) (target : SocketTarget) → Quiet (observe_close host b aborts answer target)
quiet_close host b aborts answer (ListenerAt l) = by (is_done answer && not (has_ended b l))
  where
    by : (d : Bool) → Quiet (if d then record unseen { queueing = queueing.Closes host l } else unseen)
    by true = record { inbox_change = refl; built_change = refl }
    by false = record { inbox_change = refl; built_change = refl }
quiet_close host b aborts answer (EndpointAt i) = record { inbox_change = refl; built_change = refl }

quiet_other : (host : Host) (b : HostTcp) (target : SocketTarget) → Quiet (observe_other host b target)
quiet_other host b (ListenerAt l) = record { inbox_change = refl; built_change = refl }
quiet_other host b (EndpointAt i) = record { inbox_change = refl; built_change = refl }

quiet_accept : (host : Host) (b : HostTcp) (answer : Answer) (target : SocketTarget) → Quiet (observe_accept host b answer target)
quiet_accept host b (answers.Given n) (ListenerAt l) = record { inbox_change = refl; built_change = refl }
quiet_accept host b answer target = record { inbox_change = refl; built_change = refl }

quiet_call : (host : Host) (b : HostTcp) (call : Call) (answer : Answer) → Quiet (observe_call host b call answer)
quiet_call host b (calls.Connect x lport rport) (answers.Given n) = record { inbox_change = refl; built_change = refl }
quiet_call host b (calls.Connect x lport rport) answer = record { inbox_change = refl; built_change = refl }
quiet_call host b (calls.Accept n) answer = quiet_on (socket_target b n) (observe_accept host b answer) (quiet_accept host b answer)
quiet_call host b (calls.Send n bytes) answer = quiet_on (socket_target b n) (observe_other host b) (quiet_other host b)
quiet_call host b (calls.Shut n) answer = quiet_on (socket_target b n) (observe_close host b false answer) (quiet_close host b false answer)
quiet_call host b (calls.Close n) answer = quiet_on (socket_target b n) (observe_close host b false answer) (quiet_close host b false answer)
quiet_call host b (calls.Abort n) answer =
    quiet_on (socket_target b n) (observe_close host b (is_done answer) answer) (quiet_close host b (is_done answer) answer)
quiet_call host b call answer = record { inbox_change = refl; built_change = refl }

quiet_effect : (h : Header) (w : World tcp_shape) (thread : ℕ) (answer : Answer) (u : Turn tcp_shape) → Quiet (observe_effect h w thread answer u)
quiet_effect h w thread answer Idle = record { inbox_change = refl; built_change = refl }
quiet_effect h w thread answer (Called call) =
    let quiet =
    quiet_on (aim_of (tcp h) w.hosts (aim call)) (λ host. observe_call host (pick w.hosts host).body call answer)
    (λ host. quiet_call host (pick w.hosts host).body call answer) in
    record { inbox_change = quiet.inbox_change; built_change = quiet.built_change }
quiet_effect h w thread answer (Answered given) = record { inbox_change = refl; built_change = refl }

-- ---- from what a step shows to the step

abbrev pub InboxChangeOf : InboxChange → Step tcp_shape → Type 0
InboxChangeOf inbox_change.Nothing step = Unit {0}
InboxChangeOf (inbox_change.Enters line) step = (host : Host) × (enters step ≡ Some (host, line))
InboxChangeOf (inbox_change.Leaves line) step = (host : Host) × (leaves step ≡ Some (host, line))

pub inbox_change_of : (h : Header) (moment : ℕ) (w : World tcp_shape) (step : Step tcp_shape) → InboxChangeOf (observe h moment w step).inbox_change step
inbox_change_of h moment w (Begin line thread call) = tt
inbox_change_of h moment w (Finish line thread answer) = tt
inbox_change_of h moment w (Effect thread answer) =
    subst (λ m. InboxChangeOf m (Effect thread answer)) (sym (quiet_effect h w thread answer (turn_of thread w.threads)).inbox_change) tt
inbox_change_of h moment w (At host (Does x)) = tt
inbox_change_of h moment w (At host (Expires line x)) = tt
inbox_change_of h moment w (At host (Makes m)) = tt
inbox_change_of h moment w (At host (Sends line number wire)) =
    on_cases (λ (s : Observation). InboxChangeOf s.inbox_change (At host (Sends line number wire)))
    (lookup (nat_eq number) (pick w.hosts host).made) unseen _ tt (λ m is. tt)
inbox_change_of h moment w (At host (Gets line copied wire)) = (host, refl)
inbox_change_of h moment w (At host (Hears line wire)) = (host, refl)
inbox_change_of h moment w (At host (Takes line how)) =
    on_cases (λ (s : Observation). InboxChangeOf s.inbox_change (At host (Takes line how))) (waiting line (pick w.hosts host).inbox) unseen _ tt
    (λ m is. (host, refl))
inbox_change_of h moment w (At host (Drops line)) =
    on_cases (λ (s : Observation). InboxChangeOf s.inbox_change (At host (Drops line))) (waiting line (pick w.hosts host).inbox) unseen _ tt
    (λ m is. (host, refl))
inbox_change_of h moment w (At host (Answers line)) = (host, refl)

abbrev pub BuiltChangeOf : (count : ℕ) → BuiltChange → Step tcp_shape → Type 0
BuiltChangeOf count built_change.Nothing step = Unit {0}
BuiltChangeOf count (built_change.Builds number) step = (number ≡ suc count) × (host : Host) × (builds step ≡ Some host)
BuiltChangeOf count (built_change.Sends number) step = (host : Host) × (sends step ≡ Some (host, number))

pub built_change_of : (h : Header) (moment : ℕ) (w : World tcp_shape) (step : Step tcp_shape)
    → BuiltChangeOf w.count (observe h moment w step).built_change step
built_change_of h moment w (Begin line thread call) = tt
built_change_of h moment w (Finish line thread answer) = tt
built_change_of h moment w (Effect thread answer) =
    subst (λ p. BuiltChangeOf w.count p (Effect thread answer)) (sym (quiet_effect h w thread answer (turn_of thread w.threads)).built_change) tt
built_change_of h moment w (At host (Does x)) = tt
built_change_of h moment w (At host (Expires line x)) = tt
built_change_of h moment w (At host (Makes m)) = (refl, host, refl)
built_change_of h moment w (At host (Sends line number wire)) =
    on_cases (λ (s : Observation). BuiltChangeOf w.count s.built_change (At host (Sends line number wire)))
    (lookup (nat_eq number) (pick w.hosts host).made) unseen _ tt
    (λ m is. (host, refl))
built_change_of h moment w (At host (Gets line copied wire)) = tt
built_change_of h moment w (At host (Hears line wire)) = tt
built_change_of h moment w (At host (Takes line how)) =
    on_cases (λ (s : Observation). BuiltChangeOf w.count s.built_change (At host (Takes line how))) (waiting line (pick w.hosts host).inbox) unseen _ tt
    (λ m is. tt)
built_change_of h moment w (At host (Drops line)) =
    on_cases (λ (s : Observation). BuiltChangeOf w.count s.built_change (At host (Drops line))) (waiting line (pick w.hosts host).inbox) unseen _ tt
    (λ m is. tt)
built_change_of h moment w (At host (Answers line)) = (refl, host, refl)

-- ---- from the step to what it shows

pair_right : (a b : Host) (m n : ℕ) → ◌≡◌ {A = Option (Host × ℕ)} (Some (a, m)) (Some (b, n)) → m ≡ n
pair_right a b m n e = (some_pair_parts a b m n e).1

pub inbox_change_enters : (h : Header) (moment : ℕ) (w : World tcp_shape) (step : Step tcp_shape) (host : Host) (line : ℕ)
    → enters step ≡ Some (host, line) → (observe h moment w step).inbox_change ≡ inbox_change.Enters line
inbox_change_enters h moment w (At g (Gets k copied wire)) host line e = ap inbox_change.Enters (pair_right g host k line e)
inbox_change_enters h moment w (At g (Hears k wire)) host line e = ap inbox_change.Enters (pair_right g host k line e)
inbox_change_enters h moment w step host line e = absurd (none-some (host, line) e)

waits_there : {P : Emission → Type 0} (w : World tcp_shape) (g : Host) (k : ℕ) (host : Host) (line : ℕ)
    → ◌≡◌ {A = Option (Host × ℕ)} (Some (g, k)) (Some (host, line))
    → (m : Emission) × (waiting k (pick w.hosts g).inbox ≡ Some m) × P m
    → (m : Emission) × (waiting line (pick w.hosts host).inbox ≡ Some m)
waits_there w g k host line e p =
    let same = some_pair_parts g host k line e in (
      p.0,
      subst (λ (x : Host). waiting line (pick w.hosts x).inbox ≡ Some p.0) same.0
          (subst (λ (q : ℕ). waiting q (pick w.hosts g).inbox ≡ Some p.0) same.1 p.1),
    )

-- what leaves an inbox waited there
pub leaves_waits : (h : Header) (moment : ℕ) (w : World tcp_shape) (step : Step tcp_shape) (host : Host) (line : ℕ)
    → Permitted (tcp h) moment w step → leaves step ≡ Some (host, line) → (m : Emission) × (waiting line (pick w.hosts host).inbox ≡ Some m)
leaves_waits h moment w (At g (Takes k how)) host line may e = waits_there w g k host line e (on_passes (waiting k (pick w.hosts g).inbox) rules.Inbox _ may)
leaves_waits h moment w (At g (Drops k)) host line may e = waits_there w g k host line e (on_passes (waiting k (pick w.hosts g).inbox) rules.Inbox _ may)
leaves_waits h moment w (At g (Answers k)) host line may e = waits_there w g k host line e (on_passes (waiting k (pick w.hosts g).inbox) rules.Inbox _ may)
leaves_waits h moment w step host line may e = absurd (none-some (host, line) e)

pub built_change_builds : (h : Header) (moment : ℕ) (w : World tcp_shape) (step : Step tcp_shape) (host : Host)
    → builds step ≡ Some host → (observe h moment w step).built_change ≡ built_change.Builds (suc w.count)
built_change_builds h moment w (At g (Makes m)) host e = refl
built_change_builds h moment w (At g (Answers k)) host e = refl
built_change_builds h moment w step host e = absurd (none-some host e)

-- a segment that is sent was built, and not sent before
pub record Unsent (w : World tcp_shape) (host : Host) (number : ℕ) : Type 0 where
  pub made : Made Emission
  pub there : lookup (nat_eq number) (pick w.hosts host).made ≡ Some made
  pub unsent : made.sent ≡ false

pub built_change_sends : (h : Header) (moment : ℕ) (w : World tcp_shape) (step : Step tcp_shape) (host : Host) (number : ℕ)
    → Permitted (tcp h) moment w step → sends step ≡ Some (host, number)
    → ((observe h moment w step).built_change ≡ built_change.Sends number) × Unsent w host number
built_change_sends h moment w (At g (Sends line n wire)) host number may e =
    let p = on_passes (lookup (nat_eq n) (pick w.hosts g).made) rules.NotMade _ may in
    let both = none_both ((tcp h).out_rules wire p.0.emission) (just rules.NotMade p.0.sent) p.2 in
    let same = some_pair_parts g host n number e in (
      ap (λ o. (on o unseen (λ (m : Made Emission). record unseen {
        touched = at_sender g (pick w.hosts g).body wire m.emission;
        built_change = built_change.Sends n;
        syn_change = syn_sent h.version m.emission wire.bytes;
        stamps = stamps_read h.version wire.bytes;
        acked = acked_sent h.version wire m.emission;
      })).built_change) p.1 ∙ ap built_change.Sends same.1,
      subst (λ (x : Host). Unsent w x number) same.0
          (subst (λ (x : ℕ). Unsent w g x) same.1 (record { made = p.0; there = p.1; unsent = (none_all (just rules.NotMade p.0.sent) both.1).0 })),
    )
built_change_sends h moment w step host number may e = absurd (none-some (host, number) e)

-- ---- the model's tables

waiting_insert : {E : Type 0} (q n : ℕ) (v : Option E) (es : List (ℕ × Option E))
    → waiting q (insert_entry nat_eq es n v) ≡ cond (nat_eq q n) v (waiting q es)
waiting_insert {E} q n v es = ap (λ (o : Option (Option E)). on o None (λ e. e)) (lookup_insert q n v es) ∙ go (nat_eq q n)
  where
    go : (b : Bool) → on (cond b (Some v) (lookup (nat_eq q) es)) None (λ e. e) ≡ cond b v (waiting q es)
    go true = refl
    go false = refl

-- the effect of a call changes only a host's body
effect_same : {X : Type 0} (f : HostState tcp_shape → X) → ((k : HostState tcp_shape) (b : HostTcp) → f (record k { body = b }) ≡ f k)
    → (h : Header) (moment : ℕ) (w : World tcp_shape) (thread : ℕ) (answer : Answer) (host : Host)
    → f (pick (after (tcp h) moment w (Effect thread answer)).hosts host) ≡ f (pick w.hosts host)
effect_same f same h moment w thread answer host = by (turn_of thread w.threads)
  where
    called : (call : Call) (o : Option Host)
        → f (pick (call_after (tcp h) moment w.hosts ((tcp h).calls call answer) o) host) ≡ f (pick w.hosts host)
    called call None = refl
    called call (Some g) =
        with_cases w.hosts g (record (pick w.hosts g) { body = act_after h g moment (pick w.hosts g).body (Calls call answer) })
        (λ x k. f k ≡ f (pick w.hosts x)) (same (pick w.hosts g) _) refl host

    by : (u : Turn tcp_shape) → f (pick (effect_after (tcp h) moment w thread answer u).hosts host) ≡ f (pick w.hosts host)
    by Idle = refl
    by (Called call) = called call (aim_of (tcp h) w.hosts (aim call))
    by (Answered given) = refl

-- under the number that is written, and under another
pub waiting_here : {E : Type 0} (n : ℕ) (v : Option E) (es : List (ℕ × Option E)) → waiting n (insert_entry nat_eq es n v) ≡ v
waiting_here n v es =
    let self : nat_eq n n ≡ true = grind (arith, nat_tests) in
    waiting_insert n n v es ∙ ap (λ b. cond b v (waiting n es)) self

pub waiting_elsewhere : {E : Type 0} (q n : ℕ) (v : Option E) (es : List (ℕ × Option E)) → nat_eq q n ≡ false
    → waiting q (insert_entry nat_eq es n v) ≡ waiting q es
waiting_elsewhere q n v es other = waiting_insert q n v es ∙ ap (λ b. cond b v (waiting q es)) other

-- what waits in an inbox after a step entered it then, or waited before
abbrev Waits : World tcp_shape → Step tcp_shape → Host → (line : ℕ) → Type 0
Waits w step host line = (enters step ≡ Some (host, line)) ⊎ ((m : Emission) × (waiting line (pick w.hosts host).inbox ≡ Some m))

waits_entered : (w : World tcp_shape) (step : Step tcp_shape) (host : Host) (line q : ℕ) (inbox : List (ℕ × Option Emission)) (x m : Emission)
    → enters step ≡ Some (host, line)
    → (waiting q inbox ≡ Some m → Waits w step host q) → waiting q (insert_entry nat_eq inbox line (Some x)) ≡ Some m → Waits w step host q
waits_entered w step host line q inbox x m enters' old is = by (nat_eq q line) refl (sym (waiting_insert q line (Some x) inbox) ∙ is)
  where
    by : (b : Bool) → nat_eq q line ≡ b → cond b (Some x) (waiting q inbox) ≡ Some m → Waits w step host q
    by true same at = let e : line ≡ q = grind (arith, nat_tests, same) in inl (subst (λ (n : ℕ). enters step ≡ Some (host, n)) e enters')
    by false differs at = old at

waits_settled : (w : World tcp_shape) (step : Step tcp_shape) (host : Host) (line q : ℕ) (inbox : List (ℕ × Option Emission)) (m : Emission)
    → (waiting q inbox ≡ Some m → Waits w step host q) → waiting q (inbox_settled line inbox) ≡ Some m → Waits w step host q
waits_settled w step host line q inbox m old is = go (waiting line inbox) is
  where
    by : (b : Bool) → cond b None (waiting q inbox) ≡ Some m → Waits w step host q
    by true at = absurd (none-some m at)
    by false at = old at

    go : (o : Option Emission) → waiting q (on o inbox (λ e. settled line inbox)) ≡ Some m → Waits w step host q
    go None at = old at
    go (Some x) at = by (nat_eq q line) (sym (waiting_insert q line None inbox) ∙ at)

pub inbox_from : (h : Header) (moment : ℕ) (w : World tcp_shape) (step : Step tcp_shape) (host : Host) (q : ℕ) (m : Emission)
    → waiting q (pick (after (tcp h) moment w step).hosts host).inbox ≡ Some m → Waits w step host q
inbox_from h moment w (Begin line thread call) host q m is = inr (m, is)
inbox_from h moment w (Finish line thread answer) host q m is = inr (m, is)
inbox_from h moment w (Effect thread answer) host q m is = inr (m, sym (effect_same (λ k. waiting q k.inbox) (λ k b. refl) h moment w thread answer host) ∙ is)
inbox_from h moment w (At g d) host q m is =
    with_cases w.hosts g (host_step_after (tcp h) g moment (suc w.count) (pick w.hosts (other g)).wire (pick w.hosts g) d)
    (λ x k. waiting q k.inbox ≡ Some m → Waits w (At g d) x q) (host_step d) (λ at. inr (m, at)) host is
  where
    s : HostState tcp_shape
    s = pick w.hosts g

    host_step : (d : HostStep tcp_shape) → waiting q (host_step_after (tcp h) g moment (suc w.count) (pick w.hosts (other g)).wire s d).inbox ≡ Some m
        → Waits w (At g d) g q
    host_step (Does x) at = inr (m, at)
    host_step (Expires line x) at = inr (m, at)
    host_step (Makes x) at = inr (m, at)
    host_step (Sends line number wire) at = inr (m, at)
    host_step (Gets line copied wire) at =
        on_cases (λ inbox. waiting q inbox ≡ Some m → Waits w (At g (Gets line copied wire)) g q) (lookup (nat_eq copied) (pick w.hosts (other g)).wire)
        s.inbox (λ e. insert_entry nat_eq s.inbox line (Some e)) (λ at. inr (m, at))
        (λ e there. waits_entered w (At g (Gets line copied wire)) g line q s.inbox e m refl (λ at. inr (m, at))) at
    host_step (Hears line wire) at = waits_entered w (At g (Hears line wire)) g line q s.inbox _ m refl (λ at. inr (m, at)) at
    host_step (Takes line how) at = waits_settled w (At g (Takes line how)) g line q s.inbox m (λ at. inr (m, at)) at
    host_step (Drops line) at = waits_settled w (At g (Drops line)) g line q s.inbox m (λ at. inr (m, at)) at
    host_step (Answers line) at = waits_settled w (At g (Answers line)) g line q s.inbox m (λ at. inr (m, at)) at

-- the segment that a step builds
abbrev pub made_by : (moment : ℕ) → World tcp_shape → Step tcp_shape → Option Emission
made_by moment w (At g (Makes m)) = act_makes g moment (pick w.hosts g).body (acts.Makes m)
made_by moment w (At g (Answers line)) =
    on (waiting line (pick w.hosts g).inbox) None (λ e. act_makes g moment (pick w.hosts g).body (acts.Resets e))
made_by moment w step = None

-- a built segment after a step: it was built then, or it was there before; and it isn't sent if it wasn't before, and
-- isn't sent then
pub record IsNew (moment : ℕ) (w : World tcp_shape) (step : Step tcp_shape) (host : Host) (n : ℕ) (m : Made Emission) : Type 0 where
  pub built : builds step ≡ Some host
  pub number : n ≡ suc w.count
  pub content : made_by moment w step ≡ Some m.emission

pub record WasMade (w : World tcp_shape) (step : Step tcp_shape) (host : Host) (n : ℕ) (m : Made Emission) : Type 0 where
  pub before : Made Emission
  pub there : lookup (nat_eq n) (pick w.hosts host).made ≡ Some before
  pub same : m.emission ≡ before.emission
  pub unsent : m.sent ≡ false → (before.sent ≡ false) × (sends step ≡ Some (host, n) → ⊥)

abbrev pub IsMade : (moment : ℕ) → World tcp_shape → Step tcp_shape → Host → (n : ℕ) → Made Emission → Type 0
IsMade moment w step host n m = IsNew moment w step host n m ⊎ WasMade w step host n m

made_new : (h : Header) (moment : ℕ) (w : World tcp_shape) (step : Step tcp_shape) (g : Host) (act : Act) (n : ℕ) (m : Made Emission)
    → builds step ≡ Some g → made_by moment w step ≡ act_makes g moment (pick w.hosts g).body act
    → (lookup (nat_eq n) (pick w.hosts g).made ≡ Some m → IsMade moment w step g n m)
    → lookup (nat_eq n) (act_made (tcp h) g moment (suc w.count) (pick w.hosts g) act) ≡ Some m → IsMade moment w step g n m
made_new h moment w step g act n m built makes old is =
    on_cases (λ es. lookup (nat_eq n) es ≡ Some m → IsMade moment w step g n m) ((tcp h).act_makes g moment (pick w.hosts g).body act) (pick w.hosts g).made
    (λ e. insert_entry nat_eq (pick w.hosts g).made (suc w.count) (unsent e)) old
    (λ e there at. by e there (nat_eq n (suc w.count)) refl (sym (lookup_insert n (suc w.count) (unsent e) (pick w.hosts g).made) ∙ at)) is
  where
    by : (e : Emission) → act_makes g moment (pick w.hosts g).body act ≡ Some e → (b : Bool) → nat_eq n (suc w.count) ≡ b
        → cond b (Some (unsent e)) (lookup (nat_eq n) (pick w.hosts g).made) ≡ Some m → IsMade moment w step g n m
    by e there true same at = inl (record {
      built = built;
      number = grind (arith, nat_tests, same);
      content = makes ∙ there ∙ ap (λ (y : Made Emission). Some y.emission) (same_Some (unsent e) m at);
    })
    by e there false differs at = old at

made_sent : (moment : ℕ) (w : World tcp_shape) (g : Host) (line number : ℕ) (wire : Wire) (n : ℕ) (m : Made Emission)
    → lookup (nat_eq n) (made_gone_out number (pick w.hosts g).made) ≡ Some m → IsMade moment w (At g (Sends line number wire)) g n m
made_sent moment w g line number wire n m is = go (lookup (nat_eq number) made) refl is
  where
    made : List (ℕ × Made Emission)
    made = (pick w.hosts g).made

    by : (x : Made Emission) → lookup (nat_eq number) made ≡ Some x → (b : Bool) → nat_eq n number ≡ b
        → cond b (Some (gone_out x)) (lookup (nat_eq n) made) ≡ Some m → IsMade moment w (At g (Sends line number wire)) g n m
    by x there true same at =
        let e : n ≡ number = grind (arith, nat_tests, same) in
        let out : gone_out x ≡ m = same_Some (gone_out x) m at in
        inr (record {
          before = x;
          there = subst (λ (k : ℕ). lookup (nat_eq k) made ≡ Some x) (sym e) there;
          same = ap (λ (y : Made Emission). y.emission) (sym out);
          unsent = λ no. absurd (let t : true ≡ false = ap (λ (y : Made Emission). y.sent) out ∙ no in cc t);
        })
    by x there false differs at = inr (record {
      before = m;
      there = at;
      same = refl;
      unsent = λ no. (no, λ e. absurd (let k : number ≡ n = pair_right g g number n e in grind (arith, nat_tests, k, differs)));
    })

    go : (o : Option (Made Emission)) → lookup (nat_eq number) made ≡ o
        → lookup (nat_eq n) (on o made (λ x. insert_entry nat_eq made number (gone_out x))) ≡ Some m → IsMade moment w (At g (Sends line number wire)) g n m
    go None there at = inr (record {
      before = m;
      there = at;
      same = refl;
      unsent = λ no. (no, λ e. none-some m (sym there ∙ (subst (λ (k : ℕ). lookup (nat_eq k) made ≡ Some m) (sym (pair_right g g number n e)) at)));
    })
    go (Some x) there at = by x there (nat_eq n number) refl (sym (lookup_insert n number (gone_out x) made) ∙ at)

made_still : (moment : ℕ) (w : World tcp_shape) (step : Step tcp_shape) (host : Host) (n : ℕ) (m : Made Emission) → (sends step ≡ Some (host, n) → ⊥)
    → lookup (nat_eq n) (pick w.hosts host).made ≡ Some m → IsMade moment w step host n m
made_still moment w step host n m not is = inr (record { before = m; there = is; same = refl; unsent = λ no. (no, not) })

pub made_from : (h : Header) (moment : ℕ) (w : World tcp_shape) (step : Step tcp_shape) (host : Host) (n : ℕ) (m : Made Emission)
    → lookup (nat_eq n) (pick (after (tcp h) moment w step).hosts host).made ≡ Some m → IsMade moment w step host n m
made_from h moment w (Begin line thread call) host n m is = made_still moment w (Begin line thread call) host n m (λ e. none-some _ e) is
made_from h moment w (Finish line thread answer) host n m is = made_still moment w (Finish line thread answer) host n m (λ e. none-some _ e) is
made_from h moment w (Effect thread answer) host n m is =
    made_still moment w (Effect thread answer) host n m (λ e. none-some _ e)
    (sym (effect_same (λ k. lookup (nat_eq n) k.made) (λ k b. refl) h moment w thread answer host) ∙ is)
made_from h moment w (At g d) host n m is =
    with_cases w.hosts g (host_step_after (tcp h) g moment (suc w.count) (pick w.hosts (other g)).wire (pick w.hosts g) d)
    (λ x k. lookup (nat_eq n) k.made ≡ Some m → IsMade moment w (At g d) x n m) (host_step d) (elsewhere d) host is
  where
    elsewhere : (d : HostStep tcp_shape) → lookup (nat_eq n) (pick w.hosts (other g)).made ≡ Some m → IsMade moment w (At g d) (other g) n m
    elsewhere d at = made_still moment w (At g d) (other g) n m (λ e. apart g (sends_here d e)) at
      where
        apart : (x : Host) → x ≡ other x → ⊥
        apart Zero e = cc
        apart One e = cc

        sends_here : (d : HostStep tcp_shape) → sends (At g d) ≡ Some (other g, n) → g ≡ other g
        sends_here (Sends line number wire) e = (some_pair_parts g (other g) number n e).0
        sends_here d e = absurd (none-some (other g, n) e)

    still : (d : HostStep tcp_shape) → (sends (At g d) ≡ Some (g, n) → ⊥) → lookup (nat_eq n) (pick w.hosts g).made ≡ Some m → IsMade moment w (At g d) g n m
    still d not at = made_still moment w (At g d) g n m not at

    host_step : (d : HostStep tcp_shape)
        → lookup (nat_eq n) (host_step_after (tcp h) g moment (suc w.count) (pick w.hosts (other g)).wire (pick w.hosts g) d).made ≡ Some m
        → IsMade moment w (At g d) g n m
    host_step (Does x) at = still (Does x) (λ e. none-some _ e) at
    host_step (Expires line x) at = still (Expires line x) (λ e. none-some _ e) at
    host_step (Makes x) at = made_new h moment w (At g (Makes x)) g ((tcp h).making x) n m refl refl (still (Makes x) (λ e. none-some _ e)) at
    host_step (Sends line number wire) at = made_sent moment w g line number wire n m at
    host_step (Gets line copied wire) at = still (Gets line copied wire) (λ e. none-some _ e) at
    host_step (Hears line wire) at = still (Hears line wire) (λ e. none-some _ e) at
    host_step (Takes line how) at = still (Takes line how) (λ e. none-some _ e) at
    host_step (Drops line) at = still (Drops line) (λ e. none-some _ e) at
    host_step (Answers line) at =
        on_cases (λ es. lookup (nat_eq n) es ≡ Some m → IsMade moment w (At g (Answers line)) g n m) (waiting line (pick w.hosts g).inbox) (pick w.hosts g).made
        (λ e. act_made (tcp h) g moment (suc w.count) (pick w.hosts g) ((tcp h).answers e)) (still (Answers line) (λ e. none-some _ e))
        (λ e there. made_new h moment w (At g (Answers line)) g ((tcp h).answers e) n m refl
        (ap (λ o. on o None (λ e. act_makes g moment (pick w.hosts g).body (acts.Resets e))) there) (still (Answers line) (λ e. none-some _ e))) at

-- how many segments were built
pub count_after : (h : Header) (moment : ℕ) (w : World tcp_shape) (step : Step tcp_shape)
    → (after (tcp h) moment w step).count ≡ (if is_some (builds step) then suc w.count else w.count)
count_after h moment w (Begin line thread call) = refl
count_after h moment w (Finish line thread answer) = refl
count_after h moment w (Effect thread answer) = by (turn_of thread w.threads)
  where
    by : (u : Turn tcp_shape) → (effect_after (tcp h) moment w thread answer u).count ≡ w.count
    by Idle = refl
    by (Called call) = refl
    by (Answered given) = refl
count_after h moment w (At g (Does x)) = refl
count_after h moment w (At g (Expires line x)) = refl
count_after h moment w (At g (Makes x)) = refl
count_after h moment w (At g (Sends line number wire)) = refl
count_after h moment w (At g (Gets line copied wire)) = refl
count_after h moment w (At g (Hears line wire)) = refl
count_after h moment w (At g (Takes line how)) = refl
count_after h moment w (At g (Drops line)) = refl
count_after h moment w (At g (Answers line)) = refl
