-- The slack: without one nothing is owed, and with a greater one more is accepted.
use Rattle.std.proofs.Common.{◌≡◌, ℕ, suc, ◌≤◌, Bool, true, false, List, [], ◌∷◌, ◌++◌, Option, None, Some, refl, ap, sym, subst, ◌∙◌, arith}
use Rattle.std.specs.Prelude.{not, ◌&&◌, ◌||◌, if◌then◌else◌, is_some}
use Rattle.std.specs.Option.{option_map, option_map_or}
use Rattle.case_forms.specs.States.{is_closed}
use Rattle.case_forms.specs.Versions.{says_sender}
use Rattle.case_forms.specs.declared.calls.Host.{Host}
use Rattle.case_forms.specs.declared.calls.Host.TheVariants.{Zero, One}
use Rattle.case_forms.specs.declared.trace.Header.{Header}
use Rattle.verdict.specs.Rules.{first_broken}
use Rattle.verdict.proofs.RuleLemmas.{none_all}
use Rattle.std.specs.List.{AllByRecursion}
use Rattle.duties.proofs.CreditRuns.{left_earned, left_exchanged, left_some, left_wider, order_earned, order_spent, some_left}
use Rattle.verdict.specs.declared.rule.Rule.{Rule}
use Rattle.verdict.specs.declared.rule.Rule.TheVariants as rules
use Rattle.spec_network.specs.Hosts as network
use Rattle.spec_network.specs.Hosts.{HostStep, Stamped, Step, World}
use Rattle.spec_network.specs.Tables.{Both, on, pick, waiting, with_host}
use Rattle.spec_tcp.specs.Machine.{tcp_shape}
use Rattle.spec_tcp.specs.declared.endpoint.Endpoint.{Endpoint}
use Rattle.spec_duties.specs.Acknowledge.{acknowledge_due}
use Rattle.spec_duties.specs.Answering.{Waits, answer_due, answer_since, answered_since, any_call, is_answer_late, is_unanswered_late, owed_at_end}
use Rattle.spec_duties.specs.declared.answering.CallChange.{CallChange}
use Rattle.spec_duties.specs.declared.answering.OpenCall.{OpenCall}
use Rattle.spec_flights.specs.Flights.{judges}
use Rattle.spec_cases.specs.Cases.{Known, Dutiful, judged_rules, known_after, late_at_end, noted_by, refused_at, refused_by, shown, untrue_at, untrue_by}
use Rattle.spec_duties.specs.Credits.{credit_of, earliest_credit, has_credit, spent}
use Rattle.spec_duties.specs.Deadlines.{is_late}
use Rattle.spec_duties.specs.Excess.{is_excess}
use Rattle.spec_duties.specs.End as end
use Rattle.spec_duties.specs.End.{any_unsent, either, end_rules, first_waiting, is_brought_late, is_send_late, lates_at, lates_from, lates_of_all}
use Rattle.spec_duties.specs.Expire.{expiry_due}
use Rattle.spec_duties.specs.Owed.{lates_of, lates_of_open, none_late}
use Rattle.spec_duties.specs.Probe.{probing_due}
use Rattle.spec_duties.specs.Reset.{reset_since}
use Rattle.spec_cases.specs.Slack.{AtMost, HasMoreCredits, LessLateIsMoreAccepted, NothingIsJudged, SlackIsHardlyNoted, AreInOrder, credits_left, with_slack}
use Rattle.spec_duties.specs.Sampling.{is_sample_due}
use Rattle.spec_duties.specs.Start.{start_due}
use Rattle.spec_duties.specs.Strict.{brought_by, coarse_expiry_due, coarse_probing_due, strict_lates, with_brought}
use Rattle.spec_duties.specs.Views.{view_of}
use Rattle.spec_duties.specs.Watching.{Duties, built_by, counts_now, credits_after, credits_earned}
use Rattle.spec_duties.specs.Watching.{credits_spent, duty_rules, judged_lates, lacks_credit}
use Rattle.spec_duties.specs.Watching.{answer_rules, leaves_late, listener_closed, owed_by, sends_in_excess, sent_by, sent_late}
use Rattle.spec_duties.specs.Watching.{strict_by, touched_rules, untrue_rules}
use Rattle.spec_duties.specs.declared.answering.OpenCall.TheVariants as open_call
use Rattle.spec_duties.specs.declared.owed.Lates.{Lates}
use Rattle.spec_duties.specs.declared.owed.Owed.{Owed}
use Rattle.spec_duties.specs.declared.observations.InboxChange.{InboxChange}
use Rattle.spec_duties.specs.declared.observations.InboxChange.TheVariants as inbox_change
use Rattle.spec_duties.specs.declared.observations.Observation.{Observation}
use Rattle.spec_duties.specs.declared.observations.Sampling.{Sampling}
use Rattle.spec_duties.specs.declared.observations.TouchedEndpoint.{TouchedEndpoint}
use Rattle.spec_duties.specs.declared.observations.Untruth.{Untruth}
use Rattle.spec_duties.specs.declared.strict.StrictOwed.{StrictOwed}
use Rattle.spec_duties.specs.declared.strict.Unsent.{Unsent}
use Rattle.spec_duties.specs.declared.tables.Built.{Built}
use Rattle.spec_duties.specs.declared.views.View.{View}

-- ---- without a slack

pub nothing_judged : (h : Header) (moment : ℕ) (d : Duties) (untrue : Option Untruth) (s : Observation) → h.slack ≡ None
    → judged_rules h moment d untrue s ≡ untrue_rules untrue
nothing_judged h moment d untrue s any = ap (λ o. on o (untrue_rules untrue) (λ slack. duty_rules h slack moment d untrue s)) any

-- nor does what is kept of data in flight refuse anything where it isn't judged: in versions 1 to 5
pub not_judging : (h : Header) → says_sender h.version ≡ false → judges h ≡ false
not_judging h old = old

pub refused_unjudged : (h : Header) (moment : ℕ) (k : Known) (step : Step tcp_shape) → judges h ≡ false → refused_by h moment k step ≡ None
refused_unjudged h moment k (network.Begin line t call) none = refl
refused_unjudged h moment k (network.Finish line t answer) none = refl
refused_unjudged h moment k (network.Effect t answer) none = refl
refused_unjudged h moment k (network.At host d) none = at d
  where
    at : (d : HostStep tcp_shape) → refused_at h moment k host d ≡ None
    at (network.Makes m) = rw (none) refl
    at (network.Does x) = rw (none) refl
    at (network.Expires line x) = rw (none) refl
    at (network.Sends line number wire) = refl
    at (network.Gets line copied wire) = refl
    at (network.Hears line wire) = refl
    at (network.Takes line how) = refl
    at (network.Drops line) = refl
    at (network.Answers line) = refl

-- nor is it asked there whether what a segment shows is true
pub unasked : (h : Header) (moment : ℕ) (k : Known) (step : Step tcp_shape) → says_sender h.version ≡ false → untrue_at h moment k step ≡ None
unasked h moment k (network.Begin line t call) old = refl
unasked h moment k (network.Finish line t answer) old = refl
unasked h moment k (network.Effect t answer) old = refl
unasked h moment k (network.At host d) old = at d
  where
    none : (blocks stamps : Option Untruth) (untrue : Bool)
        → (if says_sender h.version && untrue then blocks else if says_sender h.version then stamps else None) ≡ None
    none blocks stamps untrue =
        ap (λ (b : Bool). if b && untrue then blocks else if b then stamps else None) old

    at : (d : HostStep tcp_shape) → untrue_by h moment k host d ≡ None
    at (network.Makes m) = refl
    at (network.Does x) = refl
    at (network.Expires line x) = refl
    at (network.Sends line number wire) = none _ _ _
    at (network.Gets line copied wire) = refl
    at (network.Hears line wire) = refl
    at (network.Takes line how) = refl
    at (network.Drops line) = refl
    at (network.Answers line) = refl

pub dutiful_any : (h : Header) (k : Known) (xs : List (Stamped tcp_shape)) → h.slack ≡ None → judges h ≡ false → Dutiful h k xs
dutiful_any h k [] any unjudged = tt
dutiful_any h k (x ∷ xs) any unjudged = (
  record {
    duties =
        ap first_broken (nothing_judged h x.moment k.duties (untrue_at h x.moment k x.step) (shown h x.moment k x.step) any)
        ∙ ap (λ (u : Option Untruth). first_broken (untrue_rules u)) (unasked h x.moment k x.step unjudged);
    flights = refused_unjudged h x.moment k x.step unjudged;
  },
  dutiful_any h (known_after h x.moment k x.step) xs any unjudged,
)

pub late_any : (h : Header) (moment : ℕ) (k : Known) → h.slack ≡ None → late_at_end h moment k ≡ None
late_any h moment k any = ap (λ o. on o None (λ slack. end.late_at_end h slack moment k.duties k.model)) any

pub nothing_is_judged : NothingIsJudged
nothing_is_judged = record { rules = nothing_judged; runs = dutiful_any; end = late_any }

-- ---- with a greater one

abbrev pub AreFewer : List (Rule × Bool) → List (Rule × Bool) → Type 0
AreFewer [] [] = Unit {0}
AreFewer [] (y ∷ ys) = ⊥
AreFewer (x ∷ xs) [] = ⊥
AreFewer (x ∷ xs) (y ∷ ys) = (x.1 ≡ false → y.1 ≡ false) × AreFewer xs ys

pub fewer_none : (xs ys : List (Rule × Bool)) → AreFewer xs ys → first_broken xs ≡ None → first_broken ys ≡ None
fewer_none [] [] f e = refl
fewer_none [] (y ∷ ys) f e = absurd f
fewer_none (x ∷ xs) [] f e = absurd f
fewer_none ((q, true) ∷ xs) ((r, b) ∷ ys) f e = absurd cc
fewer_none ((q, false) ∷ xs) ((r, b) ∷ ys) f e = rw (f.0 refl) (fewer_none xs ys f.1 e)

-- what a segment shows doesn't depend on it
pub fewer_shown : (untrue : Option Untruth) (xs ys : List (Rule × Bool)) → AreFewer xs ys
    → AreFewer (untrue_rules untrue ++ xs) (untrue_rules untrue ++ ys)
fewer_shown None xs ys f = f
fewer_shown (Some untruth) xs ys f = (λ e. e, f)

late_less : (slack more moment : ℕ) (due : Option ℕ) → slack ≤ more → is_late slack moment due ≡ false → is_late more moment due ≡ false
late_less slack more moment None le e = refl
late_less slack more moment (Some deadline) le e = grind arith

-- what is late in the second is late in the first
record LatesLess (a b : Lates) : Type 0 where
  acknowledge : a.acknowledge ≡ false → b.acknowledge ≡ false
  expire : a.expire ≡ false → b.expire ≡ false
  retransmit : a.retransmit ≡ false → b.retransmit ≡ false
  probe : a.probe ≡ false → b.probe ≡ false
  start : a.start ≡ false → b.start ≡ false
  reset : a.reset ≡ false → b.reset ≡ false

or_less : (a b c d : Bool) → (a ≡ false → c ≡ false) → (b ≡ false → d ≡ false) → a || b ≡ false → c || d ≡ false
or_less true b c d f g e = absurd cc
or_less false true c d f g e = absurd cc
or_less false false c d f g e = rw (f refl, g refl) refl

open_less : (slack more moment : ℕ) (v : View) (o : Owed) (a b : Bool) → slack ≤ more → (a ≡ false → b ≡ false)
    → LatesLess (lates_of_open slack moment v o a) (lates_of_open more moment v o b)
open_less slack more moment v o a b le reset = record {
  acknowledge = late_less slack more moment (acknowledge_due o.acknowledge) le;
  expire = late_less slack more moment (expiry_due v o.opened) le;
  retransmit =
      or_less (is_late slack moment o.retransmit) (is_late slack moment o.probe)
      (is_late more moment o.retransmit) (is_late more moment o.probe)
      (late_less slack more moment o.retransmit le) (late_less slack more moment o.probe le);
  probe = late_less slack more moment (probing_due v o.probing) le;
  start = late_less slack more moment (start_due o.start) le;
  reset = reset;
}

none_less : (a b : Bool) → (a ≡ false → b ≡ false) → LatesLess (none_late a) (none_late b)
none_less a b reset = record {
  acknowledge = λ e. e;
  expire = λ e. e;
  retransmit = λ e. e;
  probe = λ e. e;
  start = λ e. e;
  reset = reset;
}

lates_less : (slack more moment : ℕ) (v : View) (listener : Option ℕ) (o : Owed) → slack ≤ more
    → LatesLess (lates_of slack moment v listener o) (lates_of more moment v listener o)
lates_less slack more moment v listener o le = by (is_closed v.state)
  where
    reset : is_late slack moment (reset_since v listener o.reset) ≡ false → is_late more moment (reset_since v listener o.reset) ≡ false
    reset = late_less slack more moment (reset_since v listener o.reset) le

    by : (c : Bool)
        → LatesLess
        (if c then none_late (is_late slack moment (reset_since v listener o.reset))
        else lates_of_open slack moment v o (is_late slack moment (reset_since v listener o.reset)))
        (if c then none_late (is_late more moment (reset_since v listener o.reset))
        else lates_of_open more moment v o (is_late more moment (reset_since v listener o.reset)))
    by true = none_less _ _ reset
    by false = open_less slack more moment v o _ _ le reset

-- the stricter duties
strict_less : (grain slack more moment : ℕ) (v : View) (listener : Option ℕ) (o : Owed) (s : StrictOwed) → slack ≤ more
    → LatesLess (strict_lates grain slack moment v listener o s) (strict_lates grain more moment v listener o s)
strict_less grain slack more moment v listener o s le = by (is_closed v.state)
  where
    plain : LatesLess (lates_of slack moment v listener o) (lates_of more moment v listener o)
    plain = lates_less slack more moment v listener o le

    by : (c : Bool)
        → LatesLess
        (if c then lates_of slack moment v listener o
        else record (lates_of slack moment v listener o) {
          acknowledge = is_late slack moment (acknowledge_due s.acknowledge);
          expire = is_late slack moment (coarse_expiry_due grain v s.restarted);
          retransmit = is_late slack moment s.retransmit || is_late slack moment s.probe;
          probe = is_late slack moment (coarse_probing_due grain v o.probing);
        })
        (if c then lates_of more moment v listener o
        else record (lates_of more moment v listener o) {
          acknowledge = is_late more moment (acknowledge_due s.acknowledge);
          expire = is_late more moment (coarse_expiry_due grain v s.restarted);
          retransmit = is_late more moment s.retransmit || is_late more moment s.probe;
          probe = is_late more moment (coarse_probing_due grain v o.probing);
        })
    by true = plain
    by false = record {
      acknowledge = late_less slack more moment (acknowledge_due s.acknowledge) le;
      expire = late_less slack more moment (coarse_expiry_due grain v s.restarted) le;
      retransmit =
          or_less (is_late slack moment s.retransmit) (is_late slack moment s.probe)
          (is_late more moment s.retransmit) (is_late more moment s.probe)
          (late_less slack more moment s.retransmit le) (late_less slack more moment s.probe le);
      probe = late_less slack more moment (coarse_probing_due grain v o.probing) le;
      start = plain.start;
      reset = plain.reset;
    }

brought_less : (a b : Bool) (l m : Lates) → (a ≡ false → b ≡ false) → LatesLess l m → LatesLess (with_brought a l) (with_brought b m)
brought_less a b l m f less =
    record {
      acknowledge = or_less a l.acknowledge b m.acknowledge f less.acknowledge;
      expire = less.expire;
      retransmit = less.retransmit;
      probe = less.probe;
      start = less.start;
      reset = less.reset;
    }

judged_less : (h : Header) (slack more moment : ℕ) (d : Duties) (brought : Option ℕ) (host : Host) (place : ℕ) (v : View) → slack ≤ more
    → LatesLess (judged_lates (with_slack (Some slack) h) slack moment d brought host place v)
    (judged_lates (with_slack (Some more) h) more moment d brought host place v)
judged_less h slack more moment d brought host place v le = by (says_sender h.version)
  where
    strict : ℕ → Lates
    strict n = strict_lates h.grain n moment v (listener_closed d host v) (owed_by d host place) (strict_by d host place)

    by : (c : Bool)
        → LatesLess
        (if c then with_brought (is_late slack moment (acknowledge_due brought)) (strict slack)
        else lates_of slack moment v (listener_closed d host v) (owed_by d host place))
        (if c then with_brought (is_late more moment (acknowledge_due brought)) (strict more)
        else lates_of more moment v (listener_closed d host v) (owed_by d host place))
    by true =
        brought_less (is_late slack moment (acknowledge_due brought)) (is_late more moment (acknowledge_due brought)) (strict slack) (strict more)
        (late_less slack more moment (acknowledge_due brought) le)
        (strict_less h.grain slack more moment v (listener_closed d host v) (owed_by d host place) (strict_by d host place) le)
    by false = lates_less slack more moment v (listener_closed d host v) (owed_by d host place) le

-- the rules of an endpoint
leaves_less : (slack more moment : ℕ) (d : Duties) (it : InboxChange) → slack ≤ more → leaves_late slack moment d it ≡ false
    → leaves_late more moment d it ≡ false
leaves_less slack more moment d inbox_change.Nothing le e = refl
leaves_less slack more moment d (inbox_change.Enters line) le e = refl
leaves_less slack more moment d (inbox_change.Leaves line) le e = late_less slack more moment (waiting line d.inbox) le e

sent_less : (slack more moment : ℕ) (b : Option Built) → slack ≤ more → sent_late slack moment b ≡ false → sent_late more moment b ≡ false
sent_less slack more moment None le e = refl
sent_less slack more moment (Some b) le e = late_less slack more moment (Some b.since) le e

-- the same, but for credits
abbrev pub with_credits : Both (List ℕ) → Duties → Duties
with_credits c d = record d { credits = c }

-- of each endpoint at least as many credits are left
abbrev pub AreMore : (few many : Both (List ℕ)) → Type 0
AreMore few many = (host : Host) (place moment : ℕ) → credits_left place moment (pick few host) ≤ credits_left place moment (pick many host)

earlier : (slack more built : ℕ) → slack ≤ more → earliest_credit more built ≤ earliest_credit slack built
earlier slack more built le = omega (arith, le)

has_more : (slack more place built : ℕ) (few many : List ℕ) → slack ≤ more
    → ((moment : ℕ) → credits_left place moment few ≤ credits_left place moment many)
    → has_credit place (earliest_credit slack built) few ≡ true → has_credit place (earliest_credit more built) many ≡ true
has_more slack more place built few many le left some =
    let here = left_some place (earliest_credit slack built) few some in
    let there = left (earliest_credit slack built) in
    let wide = left_wider place (earliest_credit more built) (earliest_credit slack built) many (earlier slack more built le) in
    some_left place (earliest_credit more built) many (omega (arith, here, there, wide))

lacks_less : (slack more : ℕ) (d : Duties) (c : Both (List ℕ)) (host : Host) (place : ℕ) (u : Unsent) → slack ≤ more → AreMore d.credits c
    → lacks_credit slack d host place u ≡ false → lacks_credit more (with_credits c d) host place u ≡ false
lacks_less slack more d c host place u le left = by u.costs (has_credit place (earliest_credit slack u.since) (pick d.credits host)) refl
  where
    by : (costs some : Bool) → has_credit place (earliest_credit slack u.since) (pick d.credits host) ≡ some → costs && not some ≡ false
        → costs && not (has_credit place (earliest_credit more u.since) (pick c host)) ≡ false
    by false some is e = refl
    by true false is e = absurd cc
    by true true is e = rw (has_more slack more place u.since (pick d.credits host) (pick c host) le (left host place) is) refl

excess_less : (h : Header) (slack more : ℕ) (d : Duties) (c : Both (List ℕ)) (sent : Option Unsent) (t : TouchedEndpoint) → slack ≤ more
    → AreMore d.credits c → sends_in_excess (with_slack (Some slack) h) slack d sent t ≡ false
    → sends_in_excess (with_slack (Some more) h) more (with_credits c d) sent t ≡ false
excess_less h slack more d c sent t le left = by (says_sender h.version) sent
  where
    by : (six : Bool) (sent : Option Unsent) → six && option_map_or (lacks_credit slack d t.host t.place) sent false ≡ false
        → six && option_map_or (lacks_credit more (with_credits c d) t.host t.place) sent false ≡ false
    by false sent e = refl
    by true None e = refl
    by true (Some u) e = lacks_less slack more d c t.host t.place u le left e

touched_less : (h : Header) (slack more moment : ℕ) (d : Duties) (c : Both (List ℕ)) (counts : Bool) (untrue : Option Untruth) (sent : Option Unsent)
    (s : Sampling) (o : Option TouchedEndpoint) (change : CallChange)
    → slack ≤ more
    → AreMore d.credits c
    → AreFewer (on o (answer_rules slack moment d untrue change) (touched_rules (with_slack (Some slack) h) slack moment d counts untrue sent s))
    (on o (answer_rules more moment (with_credits c d) untrue change)
    (touched_rules (with_slack (Some more) h) more moment (with_credits c d) counts untrue sent s))
touched_less h slack more moment d c counts untrue sent s None change le left =
    fewer_shown untrue ((rules.AnswerLate, is_answer_late slack moment d.waits change) ∷ [])
    ((rules.AnswerLate, is_answer_late more moment d.waits change) ∷ [])
    (late_less slack more moment (answer_due (answer_since d.waits change)) le, tt)
touched_less h slack more moment d c counts untrue sent s (Some t) change le left =
    let l = judged_less h slack more moment d (brought_by sent) t.host t.place t.before le in
    let excess =
    or_less (is_excess counts (owed_by d t.host t.place).answers) (sends_in_excess (with_slack (Some slack) h) slack d sent t)
    (is_excess counts (owed_by d t.host t.place).answers) (sends_in_excess (with_slack (Some more) h) more (with_credits c d) sent t)
    (λ e. e) (excess_less h slack more d c sent t le left) in
    let due = is_sample_due s (strict_by d t.host t.place).timed in
    let rest = fewer_shown untrue ((rules.SampleDue, due) ∷ []) ((rules.SampleDue, due) ∷ []) (λ e. e, tt) in
    (l.acknowledge, (l.expire, (l.retransmit, (l.probe, (l.start, (l.reset, (λ e. e, (λ e. e, (excess, rest)))))))))

-- what a segment shows is true at a step that isn't refused
abbrev NoneBroken : List (Rule × Bool) → Type 0
NoneBroken = AllByRecursion (λ r. r.1 ≡ false)

none_shown : (untrue : Option Untruth) (rest : List (Rule × Bool)) → NoneBroken (untrue_rules untrue ++ rest) → untrue ≡ None
none_shown None rest all = refl
none_shown (Some untruth) rest all = let is : true ≡ false = all.0 in absurd cc

shown_true : (h : Header) (slack moment : ℕ) (d : Duties) (untrue : Option Untruth) (s : Observation)
    → first_broken (duty_rules h slack moment d untrue s) ≡ None → untrue ≡ None
shown_true h slack moment d untrue s none = by s.touched (none_all (duty_rules h slack moment d untrue s) none).1.1.1.1
  where
    by : (o : Option TouchedEndpoint)
        → NoneBroken (on o (answer_rules slack moment d untrue s.call_change)
        (touched_rules h slack moment d (counts_now (built_by d s.built_change)) untrue (sent_by d s.built_change) s.sampling))
        → untrue ≡ None
    by None all = none_shown untrue _ all
    by (Some t) all = none_shown untrue _ all.1.1.1.1.1.1.1.1.1

-- whether or not there is a slack
pub truly_shown : (h : Header) (moment : ℕ) (d : Duties) (untrue : Option Untruth) (s : Observation)
    → first_broken (judged_rules h moment d untrue s) ≡ None → untrue ≡ None
truly_shown h moment d untrue s = by h.slack
  where
    alone : (untrue : Option Untruth) → first_broken (untrue_rules untrue) ≡ None → untrue ≡ None
    alone None e = refl
    alone (Some untruth) e = absurd cc

    by : (slack : Option ℕ)
        → first_broken (on slack (untrue_rules untrue) (λ slack. duty_rules h slack moment d untrue s)) ≡ None → untrue ≡ None
    by None e = alone untrue e
    by (Some slack) e = shown_true h slack moment d untrue s e

step_less : (less more : Option ℕ) → AtMost less more → (h : Header) (moment : ℕ) (d : Duties) (c : Both (List ℕ)) (untrue : Option Untruth)
    (s : Observation)
    → AreMore d.credits c
    → first_broken (judged_rules (with_slack less h) moment d untrue s) ≡ None
    → first_broken (judged_rules (with_slack more h) moment (with_credits c d) untrue s) ≡ None
step_less None None at h moment d c untrue s left e = e
step_less (Some slack) None at h moment d c untrue s left e =
    ap (λ (u : Option Untruth). first_broken (untrue_rules u)) (shown_true (with_slack (Some slack) h) slack moment d untrue s e)
step_less None (Some more) at h moment d c untrue s left e = absurd at
step_less (Some slack) (Some more) at h moment d c untrue s left e =
    fewer_none (duty_rules (with_slack (Some slack) h) slack moment d untrue s)
    (duty_rules (with_slack (Some more) h) more moment (with_credits c d) untrue s) (
      λ e. e,
      (
        λ e. e,
        (
          leaves_less slack more moment d s.inbox_change at,
          (
            sent_less slack more moment (built_by d s.built_change) at,
            touched_less h slack more moment d c
                (counts_now (built_by d s.built_change)) untrue (sent_by d s.built_change) s.sampling s.touched s.call_change at left,
          ),
        ),
      ),
    ) e

-- the end
waiting_less : (slack more moment : ℕ) (inbox : List (ℕ × Option ℕ)) → slack ≤ more
    → is_some (first_waiting slack moment inbox) ≡ false → is_some (first_waiting more moment inbox) ≡ false
waiting_less slack more moment [] le e = refl
waiting_less slack more moment (x ∷ inbox) le e =
    by (is_late slack moment x.1) refl (waiting_less slack more moment inbox le) e
  where
    by : (b : Bool) → is_late slack moment x.1 ≡ b
        → (is_some (first_waiting slack moment inbox) ≡ false → is_some (first_waiting more moment inbox) ≡ false)
        → is_some (if b then Some x.0 else first_waiting slack moment inbox) ≡ false
        → is_some (if is_late more moment x.1 then Some x.0 else first_waiting more moment inbox) ≡ false
    by true is rest e = absurd cc
    by false is rest e = rw (late_less slack more moment x.1 le is) (rest e)

either_less : (a b c d : Lates) → LatesLess a c → LatesLess b d → LatesLess (either a b) (either c d)
either_less a b c d f g = record {
  acknowledge = or_less a.acknowledge b.acknowledge c.acknowledge d.acknowledge f.acknowledge g.acknowledge;
  expire = or_less a.expire b.expire c.expire d.expire f.expire g.expire;
  retransmit = or_less a.retransmit b.retransmit c.retransmit d.retransmit f.retransmit g.retransmit;
  probe = or_less a.probe b.probe c.probe d.probe f.probe g.probe;
  start = or_less a.start b.start c.start d.start f.start g.start;
  reset = or_less a.reset b.reset c.reset d.reset f.reset g.reset;
}

-- a segment that is not sent
send_less : (slack more moment : ℕ) → slack ≤ more → (u : Unsent) → is_send_late slack moment u ≡ false → is_send_late more moment u ≡ false
send_less slack more moment le u = by u.spared
  where
    by : (spared : Bool) → not spared && is_late slack moment (Some u.since) ≡ false → not spared && is_late more moment (Some u.since) ≡ false
    by true e = refl
    by false e = late_less slack more moment (Some u.since) le e

unsent_less : (f g : Unsent → Bool) → ((u : Unsent) → f u ≡ false → g u ≡ false) → (entries : List (ℕ × Option Unsent))
    → any_unsent f entries ≡ false → any_unsent g entries ≡ false
unsent_less f g less [] e = refl
unsent_less f g less (x ∷ entries) e =
    or_less (option_map_or f x.1 false) (any_unsent f entries) (option_map_or g x.1 false) (any_unsent g entries) (by x.1)
    (unsent_less f g less entries) e
  where
    by : (o : Option Unsent) → option_map_or f o false ≡ false → option_map_or g o false ≡ false
    by None e = refl
    by (Some u) e = less u e

-- a call whose answer its program didn't get
call_less : (h : Header) (slack more moment : ℕ) (w : World tcp_shape) (a : Waits) → slack ≤ more → (entries : List (ℕ × Option OpenCall))
    → any_call (is_unanswered_late (with_slack (Some slack) h) slack moment w a) entries ≡ false
    → any_call (is_unanswered_late (with_slack (Some more) h) more moment w a) entries ≡ false
call_less h slack more moment w a le [] e = refl
call_less h slack more moment w a le (x ∷ entries) e =
    or_less _ (any_call (is_unanswered_late (with_slack (Some slack) h) slack moment w a) entries) _
    (any_call (is_unanswered_late (with_slack (Some more) h) more moment w a) entries) (by x.1)
    (call_less h slack more moment w a le entries) e
  where
    by : (o : Option OpenCall) → option_map_or (is_unanswered_late (with_slack (Some slack) h) slack moment w a) o false ≡ false
        → option_map_or (is_unanswered_late (with_slack (Some more) h) more moment w a) o false ≡ false
    by None e = refl
    by (Some (open_call.Waits since socket awaited)) e =
        late_less slack more moment (answer_due (owed_at_end h w a (open_call.Waits since socket awaited))) le e
    by (Some (open_call.Answered since host target)) e =
        late_less slack more moment (answer_due (answered_since a (open_call.Answered since host target))) le e

from_less : (h : Header) (slack more moment : ℕ) (d : Duties) (host : Host) (place : ℕ) (a b : Lates) (es : List Endpoint) → slack ≤ more → LatesLess a b
    → LatesLess (lates_from (with_slack (Some slack) h) slack moment d host place a es) (lates_from (with_slack (Some more) h) more moment d host place b es)
from_less h slack more moment d host place a b [] le f = f
from_less h slack more moment d host place a b (e ∷ es) le f =
    from_less h slack more moment d host (suc place) _ _ es le
    (either_less a (lates_at (with_slack (Some slack) h) slack moment d host place e) b (lates_at (with_slack (Some more) h) more moment d host place e) f
    (judged_less h slack more moment d None host place (view_of e) le))

all_less : (h : Header) (slack more moment : ℕ) (d : Duties) (w : World tcp_shape) → slack ≤ more
    → LatesLess (lates_of_all (with_slack (Some slack) h) slack moment d w) (lates_of_all (with_slack (Some more) h) more moment d w)
all_less h slack more moment d w le =
    from_less h slack more moment d One 0 _ _ w.hosts.one.body.endpoints le
    (from_less h slack more moment d Zero 0 _ _ w.hosts.zero.body.endpoints le (none_less false false (λ e. e)))

mapped_none : {X Y : Type 0} (f : X → Y) (o : Option X) → option_map f o ≡ None → o ≡ None
mapped_none f None e = refl
mapped_none f (Some x) e = absurd (let n : Some (f x) ≡ None = e in cc n)

end_less : (less more : Option ℕ) → AtMost less more → (h : Header) (moment : ℕ) (k : Known)
    → late_at_end (with_slack less h) moment k ≡ None → late_at_end (with_slack more h) moment k ≡ None
end_less less None at h moment k e = refl
end_less None (Some more) at h moment k e = absurd at
end_less (Some slack) (Some more) at h moment k e =
    let brought =
    unsent_less (is_brought_late slack moment) (is_brought_late more moment)
    (λ u. late_less slack more moment (acknowledge_due u.acknowledge) at) k.duties.unsent in
    let l = brought_less _ _ _ _ brought (all_less h slack more moment k.duties k.model at) in
    let sent = unsent_less (is_send_late slack moment) (is_send_late more moment) (send_less slack more moment at) k.duties.unsent in
    let none : first_broken (end_rules (with_slack (Some more) h) more moment k.duties k.model) ≡ None =
    fewer_none (end_rules (with_slack (Some slack) h) slack moment k.duties k.model)
    (end_rules (with_slack (Some more) h) more moment k.duties k.model) (
      waiting_less slack more moment k.duties.inbox at,
      (
        sent,
        (
          l.acknowledge,
          (
            l.expire,
            (l.retransmit, (l.probe, (l.start, (l.reset, (call_less h slack more moment k.model k.duties.waits at k.duties.waits.threads, tt))))),
          ),
        ),
      ),
    )
    (mapped_none _ (first_broken (end_rules (with_slack (Some slack) h) slack moment k.duties k.model)) e) in
    ap (option_map (λ rule. (end.line_of (first_waiting more moment k.duties.inbox) rule, rule))) none

-- the whole of it
pub less_late : (less more : Option ℕ) → AtMost less more → LessLateIsMoreAccepted less more
less_late less more at = record {
  steps =
      λ h moment few many untrue s has e.
      ap (λ (d : Duties). first_broken (judged_rules (with_slack more h) moment d untrue s)) has.same
      ∙ step_less less more at h moment few many.credits untrue s has.left e;
  end =
      λ h moment w fs few many has e.
      ap (λ (d : Duties). late_at_end (with_slack more h) moment (record { model = w; flights = fs; duties = d })) has.same
      ∙ end_less less more at h moment (record { model = w; flights = fs; duties = few }) e;
}

-- ---- what is kept

-- no acknowledgment lacked a credit
none_lacks : (h : Header) (slack moment : ℕ) (d : Duties) (untrue : Option Untruth) (s : Observation) (t : TouchedEndpoint) → s.touched ≡ Some t
    → first_broken (duty_rules h slack moment d untrue s) ≡ None → sends_in_excess h slack d (sent_by d s.built_change) t ≡ false
none_lacks h slack moment d untrue s t shows none =
    let rules = (none_all (duty_rules h slack moment d untrue s) none).1.1.1.1 in
    let here =
    subst (λ (o : Option TouchedEndpoint). NoneBroken (on o (answer_rules slack moment d untrue s.call_change)
    (touched_rules h slack moment d (counts_now (built_by d s.built_change)) untrue (sent_by d s.built_change) s.sampling))) shows rules in
    second (is_excess (counts_now (built_by d s.built_change)) (owed_by d t.host t.place).answers) _ here.1.1.1.1.1.1.1.1.0
  where
    second : (a b : Bool) → a || b ≡ false → b ≡ false
    second true b e = absurd cc
    second false b e = e

-- the credits of the endpoint that a step touches
spent_more : (six : Bool) (less more : ℕ) (d : Duties) (c : Both (List ℕ)) (sent : Option Unsent) (t : TouchedEndpoint) → less ≤ more → AreMore d.credits c
    → AreInOrder (pick c t.host) → option_map_or (lacks_credit less d t.host t.place) sent false ≡ false
    → (place moment : ℕ)
    → credits_left place moment (credits_spent less t.place sent (pick d.credits t.host))
    ≤ credits_left place moment (credits_spent more t.place sent (pick c t.host))
spent_more six less more d c None t le left order lacks = left t.host
spent_more six less more d c (Some u) t le left order lacks =
    by u.costs (has_credit t.place (earliest_credit less u.since) (pick d.credits t.host)) refl lacks
  where
    by : (costs some : Bool) → has_credit t.place (earliest_credit less u.since) (pick d.credits t.host) ≡ some → costs && not some ≡ false
        → (place moment : ℕ)
        → credits_left place moment (if costs then spent t.place (earliest_credit less u.since) (pick d.credits t.host) else pick d.credits t.host)
        ≤ credits_left place moment (if costs then spent t.place (earliest_credit more u.since) (pick c t.host) else pick c t.host)
    by false some is lacks = left t.host
    by true false is lacks = absurd cc
    by true true is lacks =
        left_exchanged t.place (earliest_credit more u.since) (earliest_credit less u.since) (pick d.credits t.host) (pick c t.host)
        (earlier less more u.since le) order is (left t.host)

spent_order : (more place : ℕ) (sent : Option Unsent) (xs : List ℕ) → AreInOrder xs → AreInOrder (credits_spent more place sent xs)
spent_order more place None xs order = order
spent_order more place (Some u) xs order = by u.costs
  where
    by : (costs : Bool) → AreInOrder (if costs then spent place (earliest_credit more u.since) xs else xs)
    by true = order_spent place (earliest_credit more u.since) xs order
    by false = order

earned_more : (earns : Bool) (now place : ℕ) (few many : List ℕ) → ((p m : ℕ) → credits_left p m few ≤ credits_left p m many)
    → (p m : ℕ) → credits_left p m (credits_earned earns now place few) ≤ credits_left p m (credits_earned earns now place many)
earned_more true now place few many left p m =
    let a = left_earned p m (credit_of place now) few in
    let b = left_earned p m (credit_of place now) many in
    let le = left p m in
    omega (arith, a, b, le)
earned_more false now place few many left p m = left p m

earned_order : (earns : Bool) (now place : ℕ) (xs : List ℕ) → AreInOrder xs → AreInOrder (credits_earned earns now place xs)
earned_order true now place xs order = order_earned (credit_of place now) xs order
earned_order false now place xs order = order

-- those of a host, if those of one are written
written_more : (few many : Both (List ℕ)) (host : Host) (xs ys : List ℕ) → AreMore few many
    → ((p m : ℕ) → credits_left p m xs ≤ credits_left p m ys) → AreMore (with_host few host xs) (with_host many host ys)
written_more few many Zero xs ys left here Zero = here
written_more few many Zero xs ys left here One = left One
written_more few many One xs ys left here Zero = left Zero
written_more few many One xs ys left here One = here

written_order : (many : Both (List ℕ)) (host : Host) (ys : List ℕ) → ((at : Host) → AreInOrder (pick many at)) → AreInOrder ys
    → (at : Host) → AreInOrder (pick (with_host many host ys) at)
written_order many Zero ys order here Zero = here
written_order many Zero ys order here One = order One
written_order many One ys order here Zero = order Zero
written_order many One ys order here One = here

-- those after a step
module _ (h : Header) (less more moment : ℕ) (s : Observation) (d : Duties) (c : Both (List ℕ)) (le : less ≤ more) (left : AreMore d.credits c)
    (order : (host : Host) → AreInOrder (pick c host)) where
  abbrev credits_by : Bool → Option TouchedEndpoint → ℕ → Duties → Both (List ℕ)
  credits_by six o slack d = if six then on o d.credits (credits_after slack moment d (sent_by d s.built_change) s.earns) else d.credits

  after_more : (six : Bool) (o : Option TouchedEndpoint)
      → ((t : TouchedEndpoint) → o ≡ Some t → six && option_map_or (lacks_credit less d t.host t.place) (sent_by d s.built_change) false ≡ false)
      → AreMore (credits_by six o less d) (credits_by six o more (with_credits c d))
  after_more false o lacks = left
  after_more true None lacks = left
  after_more true (Some t) lacks =
      written_more d.credits c t.host _ _ left
      (earned_more s.earns moment t.place _ _
      (spent_more true less more d c (sent_by d s.built_change) t le left (order t.host) (lacks t refl)))

  after_order : (six : Bool) (o : Option TouchedEndpoint) → (host : Host) → AreInOrder (pick (credits_by six o more (with_credits c d)) host)
  after_order false o = order
  after_order true None = order
  after_order true (Some t) =
      written_order c t.host _ order
      (earned_order s.earns moment t.place _ (spent_order more t.place (sent_by d s.built_change) (pick c t.host) (order t.host)))

  hardly_noted : (w : World tcp_shape) (untrue : Option Untruth) → first_broken (judged_rules (with_slack (Some less) h) moment d untrue s) ≡ None
      → HasMoreCredits (noted_by (with_slack (Some less) h) moment w s d) (noted_by (with_slack (Some more) h) moment w s (with_credits c d))
  hardly_noted w untrue none = record {
    same = refl;
    left = after_more (says_sender h.version) s.touched (λ t shows. none_lacks (with_slack (Some less) h) less moment d untrue s t shows none);
    order = after_order (says_sender h.version) s.touched;
  }

pub slack_is_hardly_noted : SlackIsHardlyNoted
slack_is_hardly_noted h less more moment w untrue s few many le has none =
    subst (λ (d : Duties). HasMoreCredits (noted_by (with_slack (Some less) h) moment w s few) (noted_by (with_slack (Some more) h) moment w s d))
    (sym has.same) (hardly_noted h less more moment s few many.credits le has.left has.order w untrue none)
