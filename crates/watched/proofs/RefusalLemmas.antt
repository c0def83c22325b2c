-- What a refusal by data in flight changes of the rules of a step.
use Rattle.std.proofs.Common.{◌≡◌, ℕ, ◌+◌, ◌≤◌, Bool, true, false, List, [], ◌∷◌, Option, None, Some, refl, sym, subst, arith}
use Rattle.std.proofs.Common.{map}
use Rattle.std.specs.Prelude.{nat_eq, nat_le, nat_lt, not, ◌&&◌, ◌||◌, if◌then◌else◌, slice_get}
use Rattle.std.specs.Option.{option_map, option_map_or}
use Rattle.std.proofs.lemmas.Bool.Decides.{nat_tests}
use Rattle.case_forms.specs.declared.timer.RecoveryChange.{RecoveryChange}
use Rattle.case_forms.specs.declared.timer.RecoveryChange.TheVariants.{Begins, IsUndone}
use Rattle.case_forms.specs.declared.calls.Host.{Host}
use Rattle.case_forms.specs.declared.steps.SegmentPlan.{SegmentPlan}
use Rattle.case_forms.specs.TakenLines.{timer_of}
use Rattle.case_forms.specs.declared.taken_line.Expired.{Expired}
use Rattle.case_forms.specs.declared.taken_line.Expired.TheVariants as expireds
use Rattle.case_forms.specs.declared.timer.Recovery.{Recovery}
use Rattle.case_forms.specs.declared.trace.Header.{Header}
use Rattle.verdict.specs.Rules.{first_broken, rule_number}
use Rattle.verdict.specs.declared.rule.Rule.{Rule}
use Rattle.verdict.specs.declared.rule.Rule.TheVariants as rules
use Rattle.std.proofs.lemmas.Option.{none-some, same_Some}
use Rattle.spec_network.specs.HostRules.{step_rules}
use Rattle.spec_network.specs.Hosts.{HostStep, Step, Does, Expires, Makes, Sends, Gets, Hears, Takes, Drops, Answers, Begin, Finish, Effect, At}
use Rattle.spec_network.specs.Tables.{on, pick}
use Rattle.spec_tcp.specs.HostTcp.{HostTcp, endpoint_at, place_of}
use Rattle.spec_tcp.specs.Machine.{tcp, tcp_shape}
use Rattle.spec_tcp.specs.Makes.{making_rules}
use Rattle.spec_tcp.specs.Recovery.{recovery_rules}
use Rattle.spec_tcp.specs.Timeouts.{expiry_rules}
use Rattle.spec_tcp.specs.declared.endpoint.Endpoint.{Endpoint}
use Rattle.spec_tcp_laws.specs.Ascending.{ascend}
use Rattle.spec_tcp_laws.proofs.Ascending.{rules_ascend}
use Rattle.spec_tcp_laws.proofs.Rules.{both_true, at_most_to}
use Rattle.spec_duties.specs.declared.events.Event.TheVariants as events
use Rattle.spec_duties.specs.declared.events.Event.{Event}
use Rattle.spec_duties.specs.Observations.{at_place}
use Rattle.spec_duties.specs.Resent.{judges_repeats}
use Rattle.spec_duties.specs.declared.observations.TouchedEndpoint.{TouchedEndpoint}
use Rattle.spec_duties.specs.Views.{view_of}
use Rattle.spec_duties.specs.declared.views.View.{View}
use Rattle.spec_flights.specs.Marks.{goes_again}
use Rattle.spec_flights.specs.Flights.{Flight, broken_at, flight_at, judges, may_be_probed, may_begin, may_go_again}
use Rattle.spec_flights.specs.Probing.{is_early_probe}
use Rattle.spec_cases.specs.Cases as cases
use Rattle.spec_cases.specs.Cases.{Known, case_rules, model_rules, refused_at, refused_by, watch_rules, with_broken}
use Rattle.watched.specs.Watched.{least_broken}
use Rattle.watched.proofs.AscendLemmas.{ascend_both, rules_top, tops, watch_ascend}

-- some rule of a list has this number
abbrev is_among : Rule → List (Rule × Bool) → Bool
is_among rule [] = false
is_among rule (r ∷ rs) = nat_eq (rule_number rule) (rule_number r.0) || is_among rule rs

abbrev pub IsAmong : Option Rule → List (Rule × Bool) → Type 0
IsAmong None rs = Unit {0}
IsAmong (Some rule) rs = is_among rule rs ≡ true

equal : (m n : ℕ) → nat_eq m n ≡ true → m ≡ n
equal m n is = grind (arith, nat_tests)

above : (low m n : ℕ) → low ≤ m → m ≤ n → low ≤ n
above low m n p q = omega arith

apart : (m n : ℕ) → nat_eq n m ≡ false → m ≤ n → nat_lt m n ≡ true
apart m n differ le = grind (arith, nat_tests)

not_less : (m n : ℕ) → n ≤ m → nat_lt m n ≡ false
not_less m n le = grind (arith, nat_tests)

-- a step that is refused breaks a rule
among_broken : (rule : Rule) (rs : List (Rule × Bool)) → is_among rule rs ≡ true → first_broken (map (with_broken rule) rs) ≡ None → ⊥
among_broken rule [] is none = absurd cc
among_broken rule ((r, b) ∷ rs) is none = by (nat_eq (rule_number rule) (rule_number r)) b (among_broken rule rs) is none
  where
    by : (same broken : Bool) → (is_among rule rs ≡ true → first_broken (map (with_broken rule) rs) ≡ None → ⊥) → (same || is_among rule rs) ≡ true
        → first_broken ((if same then (rule, true) else (r, broken)) ∷ map (with_broken rule) rs) ≡ None → ⊥
    by true broken rest is none = none-some rule (sym none)
    by false true rest is none = none-some r (sym none)
    by false false rest is none = rest is none

pub not_refused : (o : Option Rule) (rs : List (Rule × Bool)) → IsAmong o rs → first_broken (cases.with_refusal o rs) ≡ None → o ≡ None
not_refused None rs among none = refl
not_refused (Some rule) rs among none = absurd (among_broken rule rs among none)

-- rules that ascend from a number on have none below it
among_above : (rule : Rule) (low : ℕ) (rs : List (Rule × Bool)) → ascend low rs ≡ true → is_among rule rs ≡ true → low ≤ rule_number rule
among_above rule low [] up is = absurd cc
among_above rule low ((r, b) ∷ rs) up is =
    let parts = both_true (nat_le low (rule_number r)) (ascend (rule_number r) rs) up in
    by (nat_eq (rule_number rule) (rule_number r)) refl (at_most_to low (rule_number r) parts.0) (among_above rule (rule_number r) rs parts.1) is
  where
    by : (same : Bool) → nat_eq (rule_number rule) (rule_number r) ≡ same → low ≤ rule_number r
        → (is_among rule rs ≡ true → rule_number r ≤ rule_number rule)
        → (same || is_among rule rs) ≡ true → low ≤ rule_number rule
    by true same at rest is = subst (λ (n : ℕ). low ≤ n) (sym (equal (rule_number rule) (rule_number r) same)) at
    by false same at rest is = above low (rule_number r) (rule_number rule) at (rest is)

broken_above : (rule : Rule) (low : ℕ) (rs : List (Rule × Bool)) → ascend low rs ≡ true → first_broken rs ≡ Some rule → low ≤ rule_number rule
broken_above rule low [] up is = absurd (none-some rule is)
broken_above rule low ((r, true) ∷ rs) up is =
    subst (λ (x : Rule). low ≤ rule_number x) (same_Some r rule is)
    (at_most_to low (rule_number r) (both_true (nat_le low (rule_number r)) (ascend (rule_number r) rs) up).0)
broken_above rule low ((r, false) ∷ rs) up is =
    let parts = both_true (nat_le low (rule_number r)) (ascend (rule_number r) rs) up in
    above low (rule_number r) (rule_number rule) (at_most_to low (rule_number r) parts.0) (broken_above rule (rule_number r) rs parts.1 is)

-- what is broken behind it doesn't come first
first_behind : (rule : Rule) (low : ℕ) (rs : List (Rule × Bool)) → ascend low rs ≡ true → rule_number rule ≤ low
    → Some rule ≡ least_broken (Some rule) (first_broken rs)
first_behind rule low rs up le = by (first_broken rs) refl
  where
    by : (o : Option Rule) → first_broken rs ≡ o → Some rule ≡ least_broken (Some rule) o
    by None is = refl
    by (Some r) is =
        let at : rule_number rule ≤ rule_number r = above (rule_number rule) low (rule_number r) le (broken_above r low rs up is) in
        rw (not_less (rule_number r) (rule_number rule) at) refl

first_refused : (rule : Rule) (low : ℕ) (rs : List (Rule × Bool)) → ascend low rs ≡ true → is_among rule rs ≡ true
    → first_broken (map (with_broken rule) rs) ≡ least_broken (Some rule) (first_broken rs)
first_refused rule low [] up is = absurd cc
first_refused rule low ((r, b) ∷ rs) up is =
    let rest = (both_true (nat_le low (rule_number r)) (ascend (rule_number r) rs) up).1 in
    by (nat_eq (rule_number rule) (rule_number r)) b refl rest (first_refused rule (rule_number r) rs rest) is
  where
    by : (same broken : Bool) → nat_eq (rule_number rule) (rule_number r) ≡ same → ascend (rule_number r) rs ≡ true
        → (is_among rule rs ≡ true → first_broken (map (with_broken rule) rs) ≡ least_broken (Some rule) (first_broken rs))
        → (same || is_among rule rs) ≡ true
        → first_broken ((if same then (rule, true) else (r, broken)) ∷ map (with_broken rule) rs)
        ≡ least_broken (Some rule) (first_broken ((r, broken) ∷ rs))
    by true true same up rest is =
        let at : rule_number rule ≡ rule_number r = equal (rule_number rule) (rule_number r) same in
        rw (not_less (rule_number r) (rule_number rule) (omega (arith, at))) refl
    by true false same up rest is =
        let at : rule_number rule ≡ rule_number r = equal (rule_number rule) (rule_number r) same in
        first_behind rule (rule_number r) rs up (omega (arith, at))
    by false true same up rest is =
        rw (apart (rule_number r) (rule_number rule) same (among_above rule (rule_number r) rs up is)) refl
    by false false same up rest is = rest is

pub refused_first : (o : Option Rule) (low : ℕ) (rs : List (Rule × Bool)) → ascend low rs ≡ true → IsAmong o rs
    → first_broken (cases.with_refusal o rs) ≡ least_broken o (first_broken rs)
refused_first None low rs up among = refl
refused_first (Some rule) low rs up among = first_refused rule low rs up among

-- the rules still ascend
ascend_with : (rule : Rule) (low : ℕ) (rs : List (Rule × Bool)) → ascend low rs ≡ true → ascend low (map (with_broken rule) rs) ≡ true
ascend_with rule low [] up = refl
ascend_with rule low ((r, b) ∷ rs) up =
    let parts = both_true (nat_le low (rule_number r)) (ascend (rule_number r) rs) up in
    by (nat_eq (rule_number rule) (rule_number r)) refl parts.0 (ascend_with rule (rule_number r) rs parts.1)
  where
    by : (same : Bool) → nat_eq (rule_number rule) (rule_number r) ≡ same → nat_le low (rule_number r) ≡ true
        → ascend (rule_number r) (map (with_broken rule) rs) ≡ true
        → ascend low ((if same then (rule, true) else (r, b)) ∷ map (with_broken rule) rs) ≡ true
    by true same at up =
        subst (λ (n : ℕ). (nat_le low n && ascend n (map (with_broken rule) rs)) ≡ true) (sym (equal (rule_number rule) (rule_number r) same))
        (rw (at, up) refl)
    by false same at up = rw (at, up) refl

pub ascend_refused : (o : Option Rule) (low : ℕ) (rs : List (Rule × Bool)) → ascend low rs ≡ true → ascend low (cases.with_refusal o rs) ≡ true
ascend_refused None low rs up = up
ascend_refused (Some rule) low rs up = ascend_with rule low rs up

tops_with : (rule : Rule) (rs : List (Rule × Bool)) → tops rs ≡ true → tops (map (with_broken rule) rs) ≡ true
tops_with rule [] top = refl
tops_with rule ((r, b) ∷ rs) top =
    let parts = both_true (nat_le (rule_number r) 39) (tops rs) top in
    by (nat_eq (rule_number rule) (rule_number r)) refl parts.0 (tops_with rule rs parts.1)
  where
    by : (same : Bool) → nat_eq (rule_number rule) (rule_number r) ≡ same → nat_le (rule_number r) 39 ≡ true
        → tops (map (with_broken rule) rs) ≡ true
        → tops ((if same then (rule, true) else (r, b)) ∷ map (with_broken rule) rs) ≡ true
    by true same at top =
        subst (λ (n : ℕ). (nat_le n 39 && tops (map (with_broken rule) rs)) ≡ true) (sym (equal (rule_number rule) (rule_number r) same))
        (rw (at, top) refl)
    by false same at top = rw (at, top) refl

pub tops_refused : (o : Option Rule) (rs : List (Rule × Bool)) → tops rs ≡ true → tops (cases.with_refusal o rs) ≡ true
tops_refused None rs top = top
tops_refused (Some rule) rs top = tops_with rule rs top

-- ---- the rule by which a step is refused is one of the model's

-- at an endpoint that there may be
module _ (h : Header) (clock : ℕ) (k : Known) (host : Host) (b : HostTcp) (event : Event) (g : Endpoint → List (Rule × Bool)) where
  abbrev refusal_at : Option TouchedEndpoint → Option Rule
  refusal_at o = if judges h then on o None (λ t. broken_at (judges_repeats h.congestion) clock t.event t.before (flight_at k.flights t.host t.place)) else None

  among_there : ((e : Endpoint) (v : View) (f : Flight) → IsAmong (broken_at (judges_repeats h.congestion) clock event v f) (g e)) → (place : Option ℕ)
      → IsAmong (refusal_at (option_map_or (at_place host b event) place None)) (option_map_or g (endpoint_at b place) ((rules.NoEndpoint, true) ∷ []))
  among_there each place = judged (judges h) place
    where
      at : (i : ℕ) (o : Option Endpoint)
          → IsAmong
          (on (option_map (λ e. let t : TouchedEndpoint = record { host = host; place = i; event = event; before = view_of e } in t) o) None
          (λ t. broken_at (judges_repeats h.congestion) clock t.event t.before (flight_at k.flights t.host t.place)))
          (option_map_or g o ((rules.NoEndpoint, true) ∷ []))
      at i None = tt
      at i (Some e) = each e (view_of e) (flight_at k.flights host i)

      judged : (j : Bool) (place : Option ℕ)
          → IsAmong
          (if j then on (option_map_or (at_place host b event) place None) None
          (λ t. broken_at (judges_repeats h.congestion) clock t.event t.before (flight_at k.flights t.host t.place)) else None)
          (option_map_or g (endpoint_at b place) ((rules.NoEndpoint, true) ∷ []))
      judged false place = tt
      judged true None = tt
      judged true (Some i) = at i (slice_get b.endpoints i)

making_among : (h : Header) (clock : ℕ) (m : SegmentPlan) (e : Endpoint) (v : View) (f : Flight)
    → IsAmong (broken_at (judges_repeats h.congestion) clock (events.Builds m) v f) (making_rules h.version e m)
making_among h clock m e v f = by (judges_repeats h.congestion && goes_again v m && not (may_go_again clock v m f))
  where
    by : (b : Bool) → IsAmong (if b then Some rules.OldData else None) (making_rules h.version e m)
    by true = refl
    by false = tt

recovering_among : (h : Header) (clock moment : ℕ) (x : Recovery) (e : Endpoint) (v : View) (f : Flight)
    → IsAmong (broken_at (judges_repeats h.congestion) clock (events.Recovers x.change) v f)
    (recovery_rules h.version e x.change x.cwnd x.ssthresh moment)
recovering_among h clock moment x e v f = at x.change
  where
    by : (b : Bool) → IsAmong (if b then Some rules.Recovery else None) (recovery_rules h.version e x.change x.cwnd x.ssthresh moment)
    by true = refl
    by false = tt

    at : (change : RecoveryChange)
        → IsAmong (broken_at (judges_repeats h.congestion) clock (events.Recovers change) v f)
        (recovery_rules h.version e x.change x.cwnd x.ssthresh moment)
    at Begins = by (judges_repeats h.congestion && not (may_begin clock v f))
    at IsUndone = by (not f.undoing.is_spurious)

expiring_among : (h : Header) (clock moment : ℕ) (x : Expired) (e : Endpoint) (v : View) (f : Flight)
    → IsAmong (broken_at (judges_repeats h.congestion) clock (events.Expires (timer_of x)) v f) (expiry_rules h moment e x)
expiring_among h clock moment (expireds.Rto growth) e v f = tt
expiring_among h clock moment expireds.Persist e v f = tt
expiring_among h clock moment expireds.Msl2 e v f = tt
expiring_among h clock moment expireds.Giveup e v f = tt
expiring_among h clock moment expireds.Pto e v f = by (may_be_probed v f) (is_early_probe clock v f.probing.quiet)
  where
    by : (may early : Bool)
        → IsAmong (if not may then Some rules.TimerOff else if early then Some rules.TimerEarly else None) (expiry_rules h moment e expireds.Pto)
    by false early = refl
    by true true = refl
    by true false = tt

pub refused_among : (h : Header) (moment : ℕ) (k : Known) (step : Step tcp_shape)
    → IsAmong (refused_by h moment k step) (step_rules (tcp h) moment k.model step)
refused_among h moment k (Begin line t call) = tt
refused_among h moment k (Finish line t answer) = tt
refused_among h moment k (Effect t answer) = tt
refused_among h moment k (At host d) = at d
  where
    clock : ℕ
    clock = moment + h.grain

    b : HostTcp
    b = (pick k.model.hosts host).body

    at : (d : HostStep tcp_shape) → IsAmong (refused_at h moment k host d) (step_rules (tcp h) moment k.model (At host d))
    at (Makes m) =
        among_there h clock k host b (events.Builds m) (λ e. making_rules h.version e m) (making_among h clock m) (place_of b m.lport m.rport)
    at (Does x) =
        among_there h clock k host b (events.Recovers x.change) (λ e. recovery_rules h.version e x.change x.cwnd x.ssthresh moment)
        (recovering_among h clock moment x) (place_of b x.lport x.rport)
    at (Expires line x) =
        among_there h clock k host b (events.Expires (timer_of x.expired)) (λ e. expiry_rules h moment e x.expired)
        (expiring_among h clock moment x.expired) (place_of b x.lport x.rport)
    at (Sends line number wire) = tt
    at (Gets line copied wire) = tt
    at (Hears line wire) = tt
    at (Takes line how) = tt
    at (Drops line) = tt
    at (Answers line) = tt

-- ---- the rules of a case

pub model_ascends : (h : Header) (moment : ℕ) (k : Known) (step : Step tcp_shape) → ascend 6 (model_rules h moment k step) ≡ true
model_ascends h moment k step =
    ascend_refused (refused_by h moment k step) 6 (step_rules (tcp h) moment k.model step) (rules_ascend h moment k.model step)

pub model_top : (h : Header) (moment : ℕ) (k : Known) (step : Step tcp_shape) → tops (model_rules h moment k step) ≡ true
model_top h moment k step = tops_refused (refused_by h moment k step) (step_rules (tcp h) moment k.model step) (rules_top h moment k.model step)

pub all_ascend : (h : Header) (moment : ℕ) (k : Known) (step : Step tcp_shape) → ascend 6 (case_rules h moment k step) ≡ true
all_ascend h moment k step =
    ascend_both 6 (model_rules h moment k step) (watch_rules h moment k step) (omega arith) (model_ascends h moment k step)
    (model_top h moment k step) (watch_ascend h moment k step)
