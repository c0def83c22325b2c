-- Acknowledgments and retransmissions are sent in time.
use Rattle.std.proofs.Common.{◌≡◌, ℕ, suc, ◌+◌, ◌<◌, ◌≤◌, ◌⊎◌, inl, inr, Bool, true, false, length, Option, Some, None, refl, ap, sym, subst, ◌∙◌, arith}
use Rattle.std.proofs.lemmas.Bool.Decides.{nat_tests}
use Rattle.std.specs.Prelude.{◌==◌, ◌&&◌, ◌||◌, if◌then◌else◌, nat_le, nat_lt, not}
use Rattle.std.specs.Option.{option_map, option_or}
use Rattle.std.proofs.lemmas.Option.{none-some, same_Some}
use Rattle.case_forms.specs.Versions.{says_sender}
use Rattle.case_forms.specs.States.{is_closed}
use Rattle.case_forms.specs.declared.calls.State.{State}
use Rattle.case_forms.specs.declared.calls.State.TheVariants as states
use Rattle.case_forms.specs.declared.steps.Witness.{Witness}
use Rattle.case_forms.specs.declared.timer.Timer.TheVariants.{Persist, Rto}
use Rattle.case_forms.specs.declared.trace.Trace.{Trace}
use Rattle.verdict.specs.Rules.{first_broken}
use Rattle.interval_order.specs.Orders.{last_moment}
use Rattle.interval_order.specs.Placed.{Placed}
use Rattle.spec_network.specs.Hosts.{World}
use Rattle.spec_tcp.specs.Machine.{tcp_shape}
use Rattle.spec_tcp.specs.declared.endpoint.EndpointId.{EndpointId}
use Rattle.spec_tcp_laws.proofs.Rules.{at_most_to, both_true, neither, true_false, zero_from}
use Rattle.spec_duties.specs.Acknowledge.{acknowledge_due, asks_ack, is_answer, longest_delay, receives}
use Rattle.spec_duties.specs.Deadlines.{is_late}
use Rattle.spec_duties.specs.End.{end_rules}
use Rattle.spec_duties.specs.Events.{acknowledges_more, holds, is_sending}
use Rattle.spec_duties.specs.Owed.{lates_of, lates_of_open, none_late, once_closed, owed_after, owed_open}
use Rattle.spec_duties.specs.Reset.{reset_since}
use Rattle.spec_duties.specs.Retransmit.{is_probe_timeout, is_timeout, sends_oldest}
use Rattle.spec_duties.specs.Start.{is_free_to_send, is_idle_with_work, longest_wait, start_due, work_end}
use Rattle.spec_duties.specs.Views.{is_up}
use Rattle.spec_duties.specs.Watching.{owed_by}
use Rattle.spec_duties.specs.declared.events.Event.{Event}
use Rattle.spec_duties.specs.declared.events.Event.TheVariants.{Expires, Processes, Sends}
use Rattle.spec_duties.specs.declared.owed.Lates.{Lates}
use Rattle.spec_duties.specs.declared.owed.Owed.{Owed}
use Rattle.spec_duties.specs.declared.views.View.{View}
use Rattle.kept_duties.specs.Happens.{Happens, act_at, known_before, seen_before}
use Rattle.checker.specs.Seen.{moves}
use Rattle.kept_duties.specs.Soon.{AcknowledgesMore, Answers, ExpiriesAreFollowed, IsDoneBy, IsIdle, IsNotIdle, ProbesAreSent, ReceiptsAreAnswered}
use Rattle.kept_duties.specs.Soon.{SendsAnything, SendsOldest, WorkIsBegun, is_ended}
use Rattle.kept_duties.proofs.Judged.{IsSame, plain_same, start_same}
use Rattle.kept_duties.proofs.Inbox.{not_late}
use Rattle.kept_duties.proofs.Repeats.{happens_to, owes_of}
use Rattle.kept_duties.proofs.Runs.{Run, world_is}
use Rattle.kept_duties.proofs.Since.{Duty, IsAsShown, becomes, from_step, not_after, wait_of}
use Rattle.kept_duties.proofs.Touched.{Owes, seen}

-- all that is owed after a step, unless the endpoint is CLOSED then
pub open_or_closed : (P : Owed → Type 0) (event : Event) (before after : View) (moment : ℕ) (listener : Option ℕ) (counts : Bool) (o : Owed)
    → (is_closed after.state ≡ true → P (once_closed (owed_open event before after moment listener counts o)))
    → P (owed_open event before after moment listener counts o) → P (owed_after event before after moment listener counts o)
open_or_closed P event before after moment listener counts o closed open' = by (is_closed after.state) refl
  where
    by : (c : Bool) → is_closed after.state ≡ c
        → P (if c then once_closed (owed_open event before after moment listener counts o) else owed_open event before after moment listener counts o)
    by true is = closed is
    by false is = open'

-- ---- what duties test is what the laws say

pub either_true : (a b : Bool) → (a || b) ≡ true → (a ≡ true) ⊎ (b ≡ true)
either_true true b is = inl refl
either_true false b is = inr is

pub or_true : (a b : Bool) → b ≡ true → (a || b) ≡ true
or_true true b is = refl
or_true false b is = is

pub answers_from : (event : Event) (before after : View) → is_answer event ≡ true → Answers event before after
answers_from (Sends s) before after is = is
answers_from event before after is = absurd cc

pub receives_in : (state : State) → is_ended state ≡ false → receives state ≡ true
receives_in states.Listen is = refl
receives_in states.SynSent is = refl
receives_in states.SynReceived is = refl
receives_in states.Established is = refl
receives_in states.FinWait1 is = refl
receives_in states.FinWait2 is = refl
receives_in state is = absurd cc

pub more_from : (before after : View) → acknowledges_more before after ≡ true → AcknowledgesMore before after
more_from before after is = grind (arith, nat_tests, is)

pub sends_oldest_from : (event : Event) (before after : View) → (sends_oldest event before || acknowledges_more before after) ≡ true
    → SendsOldest event before after
sends_oldest_from (Sends s) before after is =
    by (either_true (holds s before.snd_una || before.snd_wnd == 0) (acknowledges_more before after) is)
  where
    one : (holds s before.snd_una ≡ true) ⊎ ((before.snd_wnd == 0) ≡ true) → SendsOldest (Sends s) before after
    one (inl held) =
        let both = both_true (nat_le s.pos before.snd_una) (nat_lt before.snd_una (s.pos + s.length)) held in
        let low : s.pos ≤ before.snd_una = at_most_to s.pos before.snd_una both.0 in
        let high : before.snd_una < s.pos + s.length = grind (arith, nat_tests, both.1) in
        inl (low, high)
    one (inr shut) = inr (inl (zero_from before.snd_wnd shut))

    by : ((holds s before.snd_una || before.snd_wnd == 0) ≡ true) ⊎ (acknowledges_more before after ≡ true) → SendsOldest (Sends s) before after
    by (inl sends) = one (either_true (holds s before.snd_una) (before.snd_wnd == 0) sends)
    by (inr more) = inr (inr (more_from before after more))
sends_oldest_from event before after is = more_from before after is

sends_anything_from : (event : Event) (before after : View) → (is_sending event || acknowledges_more before after) ≡ true
    → SendsAnything event before after
sends_anything_from (Sends s) before after is = tt
sends_anything_from event before after is = more_from before after is

idle_is : (v : View) → IsIdle v → is_idle_with_work v ≡ true
idle_is v idle =
    λ i. not (idle.open_yet i) && all_acknowledged i && waits idle.waits i && begins idle.may_begin i && window idle.window i
  where
    all_acknowledged : (v.snd_una == v.snd_max) ≡ true
    all_acknowledged = let same = idle.acknowledged in grind (arith, nat_tests, same)

    more : (b : Bool) → v.snd_max < v.end → nat_lt v.snd_max (if b then v.end + 1 else v.end) ≡ true
    more true less = grind (arith, nat_tests, less)
    more false less = grind (arith, nat_tests, less)

    waits : (v.snd_max < v.end) ⊎ ((v.ended ≡ true) × (v.snd_max ≤ v.end)) → nat_lt v.snd_max (work_end v) ≡ true
    waits (inl less) = more v.ended less
    waits (inr fin) =
        let low : v.snd_max ≤ v.end = fin.1 in
        let next : nat_lt v.snd_max (v.end + 1) ≡ true = grind (arith, nat_tests, low) in
        ap (λ (b : Bool). nat_lt v.snd_max (if b then v.end + 1 else v.end)) fin.0 ∙ next

    begins : (v.snd_max ≡ 0) ⊎ ((1 ≤ v.snd_una) × (1 ≤ v.rcv_nxt)) → (is_up v || v.snd_max == 0) ≡ true
    begins (inl zero') = or_true (is_up v) (v.snd_max == 0) (grind (arith, nat_tests, zero'))
    begins (inr up) =
        let own : nat_le 1 v.snd_una ≡ true = grind (arith, nat_tests, up.0) in
        let peer : nat_le 1 v.rcv_nxt ≡ true = grind (arith, nat_tests, up.1) in
        (λ i. (own i && peer i) || v.snd_max == 0)

    window : (0 < v.snd_wnd) ⊎ (v.snd_max ≡ 0) ⊎ (v.snd_max ≡ v.end) → is_free_to_send v ≡ true
    window (inl some) =
        let is : nat_lt 0 v.snd_wnd ≡ true = grind (arith, nat_tests, some) in
        (λ i. is i || v.snd_max == 0 || v.snd_max == v.end)
    window (inr (inl zero')) =
        let is : (v.snd_max == 0) ≡ true = grind (arith, nat_tests, zero') in
        ap (λ (b : Bool). b || v.snd_max == v.end) (or_true (nat_lt 0 v.snd_wnd) (v.snd_max == 0) is)
    window (inr (inr last)) = or_true (nat_lt 0 v.snd_wnd || v.snd_max == 0) (v.snd_max == v.end) (grind (arith, nat_tests, last))

-- ---- acknowledge

acknowledge_onward : (event : Event) (before after : View) (moment : ℕ) (listener : Option ℕ) (counts : Bool) (o : Owed) (since : ℕ) → o.acknowledge
    ≡ Some since
    → Answers event before after ⊎ (is_closed after.state ≡ true) ⊎ ((owed_after event before after moment listener counts o).acknowledge ≡ Some since)
acknowledge_onward event before after moment listener counts o since is =
    open_or_closed (λ n. Answers event before after ⊎ (is_closed after.state ≡ true) ⊎ (n.acknowledge ≡ Some since)) event before after moment listener counts o
    (λ closed. inr (inl closed)) (by (is_answer event) refl)
  where
    asks : (b : Bool) → (if b then option_or o.acknowledge (Some moment) else o.acknowledge) ≡ Some since
    asks true = ap (λ (q : Option ℕ). option_or q (Some moment)) is
    asks false = is

    by : (b : Bool) → is_answer event ≡ b
        → Answers event before after ⊎ (is_closed after.state ≡ true)
        ⊎ ((if b then None else if asks_ack event before.state moment o.acknowledged then option_or o.acknowledge (Some moment) else o.acknowledge)
        ≡ Some since)
    by true answers = inl (answers_from event before after answers)
    by false answers = inr (inr (asks (asks_ack event before.state moment o.acknowledged)))

pub or_now : (o : Option ℕ) (moment since : ℕ) → option_or o (Some moment) ≡ Some since → (since ≡ moment) ⊎ (o ≡ Some since)
or_now None moment since is = inl (sym (same_Some moment since is))
or_now (Some q) moment since is = inr is

acknowledge_back : (event : Event) (before after : View) (moment : ℕ) (listener : Option ℕ) (counts : Bool) (o : Owed) (since : ℕ)
    → (owed_after event before after moment listener counts o).acknowledge ≡ Some since → (since ≡ moment) ⊎ (o.acknowledge ≡ Some since)
acknowledge_back event before after moment listener counts o since =
    open_or_closed (λ n. n.acknowledge ≡ Some since → (since ≡ moment) ⊎ (o.acknowledge ≡ Some since)) event before after moment listener counts o
    (λ closed none. absurd (none-some since none)) (by (is_answer event) (asks_ack event before.state moment o.acknowledged))
  where
    by : (a b : Bool) → (if a then None else if b then option_or o.acknowledge (Some moment) else o.acknowledge) ≡ Some since
        → (since ≡ moment) ⊎ (o.acknowledge ≡ Some since)
    by true b is = absurd (none-some since is)
    by false true is = or_now o.acknowledge moment since is
    by false false is = inr is

-- what is late of an endpoint that isn't CLOSED
pub late_open : (P : Lates → Type 0) (slack moment : ℕ) (v : View) (listener : Option ℕ) (o : Owed) → is_closed v.state ≡ false
    → P (lates_of slack moment v listener o) → P (lates_of_open slack moment v o (is_late slack moment (reset_since v listener o.reset)))
late_open P slack moment v listener o open' =
    subst (λ (c : Bool). P (if c then none_late (is_late slack moment (reset_since v listener o.reset))
    else lates_of_open slack moment v o (is_late slack moment (reset_since v listener o.reset)))) open'

pub acknowledge_duty : Duty (λ o. o.acknowledge) longest_delay Answers (λ l. l.acknowledge)
acknowledge_duty = record {
  nothing = refl;
  onward = acknowledge_onward;
  back = acknowledge_back;
  rules = λ l all. all.0;
  either = λ a b. refl;
  fine = λ slack moment v listener o since none open' is.
      not_late slack (since + longest_delay) moment (acknowledge_due o.acknowledge) (ap (option_map (λ m. m + longest_delay)) is)
      (late_open (λ l. l.acknowledge ≡ false) slack moment v listener o open' none);
}

-- what is received is to be acknowledged
acknowledge_begins : (length : ℕ) (before after : View) (moment : ℕ) (listener : Option ℕ) (counts : Bool) (o : Owed) → 0 < length → receives before.state
    ≡ true
    → (is_closed after.state ≡ true) ⊎ ((since : ℕ) × ((owed_after (Processes length false) before after moment listener counts o).acknowledge ≡ Some since))
acknowledge_begins length before after moment listener counts o some receives' =
    open_or_closed (λ n. (is_closed after.state ≡ true) ⊎ ((since : ℕ) × (n.acknowledge ≡ Some since)))
    (Processes length false) before after moment listener counts o
    (λ closed. inl closed) (inr (kept o.acknowledge))
  where
    asks : (receives before.state && nat_lt 0 length && not false) ≡ true
    asks =
        let more : nat_lt 0 length ≡ true = grind (arith, nat_tests, some) in
        ap (λ (b : Bool). b && nat_lt 0 length && not false) receives' ∙ ap (λ (b : Bool). true && b && not false) more

    kept : (q : Option ℕ) → (since : ℕ) × ((if receives before.state && nat_lt 0 length && not false then option_or q (Some moment) else q) ≡ Some since)
    kept None = (moment, ap (λ (b : Bool). if b then Some moment else None) asks)
    kept (Some m) = (m, ap (λ (b : Bool). if b then Some m else Some m) asks)

pub since_now : (q : Option ℕ) (moment : ℕ) → (since : ℕ) × (option_or q (Some moment) ≡ Some since)
since_now None moment = (moment, refl)
since_now (Some m) moment = (m, refl)

-- ---- retransmit

retransmit_onward : (event : Event) (before after : View) (moment : ℕ) (listener : Option ℕ) (counts : Bool) (o : Owed) (since : ℕ) → o.retransmit ≡ Some since
    → SendsOldest event before after ⊎ (is_closed after.state ≡ true) ⊎ ((owed_after event before after moment listener counts o).retransmit ≡ Some since)
retransmit_onward event before after moment listener counts o since is =
    open_or_closed (λ n. SendsOldest event before after ⊎ (is_closed after.state ≡ true)
    ⊎ (n.retransmit ≡ Some since)) event before after moment listener counts o
    (λ closed. inr (inl closed)) (by (is_timeout event) (sends_oldest event before || acknowledges_more before after) refl)
  where
    by : (a b : Bool) → (sends_oldest event before || acknowledges_more before after) ≡ b
        → SendsOldest event before after ⊎ (is_closed after.state ≡ true)
        ⊎ ((if a then option_or o.retransmit (Some moment) else if b then None else o.retransmit) ≡ Some since)
    by true b sends = inr (inr (ap (λ (q : Option ℕ). option_or q (Some moment)) is))
    by false true sends = inl (sends_oldest_from event before after sends)
    by false false sends = inr (inr is)

retransmit_back : (event : Event) (before after : View) (moment : ℕ) (listener : Option ℕ) (counts : Bool) (o : Owed) (since : ℕ)
    → (owed_after event before after moment listener counts o).retransmit ≡ Some since → (since ≡ moment) ⊎ (o.retransmit ≡ Some since)
retransmit_back event before after moment listener counts o since =
    open_or_closed (λ n. n.retransmit ≡ Some since → (since ≡ moment) ⊎ (o.retransmit ≡ Some since)) event before after moment listener counts o
    (λ closed none. absurd (none-some since none)) (by (is_timeout event) (sends_oldest event before || acknowledges_more before after))
  where
    by : (a b : Bool) → (if a then option_or o.retransmit (Some moment) else if b then None else o.retransmit) ≡ Some since
        → (since ≡ moment) ⊎ (o.retransmit ≡ Some since)
    by true b is = or_now o.retransmit moment since is
    by false true is = absurd (none-some since is)
    by false false is = inr is

retransmit_duty : Duty (λ o. o.retransmit) 0 SendsOldest (λ l. l.retransmit)
retransmit_duty = record {
  nothing = refl;
  onward = retransmit_onward;
  back = retransmit_back;
  rules = λ l all. all.1.1.0;
  either = λ a b. refl;
  fine = λ slack moment v listener o since none open' is.
      let both = neither (is_late slack moment o.retransmit) (is_late slack moment o.probe)
      (late_open (λ l. l.retransmit ≡ false) slack moment v listener o open' none) in
      let le = not_late slack since moment o.retransmit is both.0 in
      omega (arith, le);
}

retransmit_begins : (before after : View) (moment : ℕ) (listener : Option ℕ) (counts : Bool) (o : Owed)
    → (is_closed after.state ≡ true) ⊎ ((since : ℕ) × ((owed_after (Expires Rto) before after moment listener counts o).retransmit ≡ Some since))
retransmit_begins before after moment listener counts o =
    open_or_closed (λ n. (is_closed after.state ≡ true) ⊎ ((since : ℕ) × (n.retransmit ≡ Some since))) (Expires Rto) before after moment listener counts o
    (λ closed. inl closed) (inr (since_now o.retransmit moment))

-- ---- probe

probe_onward : (event : Event) (before after : View) (moment : ℕ) (listener : Option ℕ) (counts : Bool) (o : Owed) (since : ℕ) → o.probe ≡ Some since
    → SendsAnything event before after ⊎ (is_closed after.state ≡ true) ⊎ ((owed_after event before after moment listener counts o).probe ≡ Some since)
probe_onward event before after moment listener counts o since is =
    open_or_closed (λ n. SendsAnything event before after ⊎ (is_closed after.state ≡ true) ⊎ (n.probe ≡ Some since)) event before after moment listener counts o
    (λ closed. inr (inl closed)) (by (is_probe_timeout event) (is_sending event || acknowledges_more before after) refl)
  where
    by : (a b : Bool) → (is_sending event || acknowledges_more before after) ≡ b
        → SendsAnything event before after ⊎ (is_closed after.state ≡ true)
        ⊎ ((if a then option_or o.probe (Some moment) else if b then None else o.probe) ≡ Some since)
    by true b sends = inr (inr (ap (λ (q : Option ℕ). option_or q (Some moment)) is))
    by false true sends = inl (sends_anything_from event before after sends)
    by false false sends = inr (inr is)

probe_back : (event : Event) (before after : View) (moment : ℕ) (listener : Option ℕ) (counts : Bool) (o : Owed) (since : ℕ)
    → (owed_after event before after moment listener counts o).probe ≡ Some since → (since ≡ moment) ⊎ (o.probe ≡ Some since)
probe_back event before after moment listener counts o since =
    open_or_closed (λ n. n.probe ≡ Some since → (since ≡ moment) ⊎ (o.probe ≡ Some since)) event before after moment listener counts o
    (λ closed none. absurd (none-some since none)) (by (is_probe_timeout event) (is_sending event || acknowledges_more before after))
  where
    by : (a b : Bool) → (if a then option_or o.probe (Some moment) else if b then None else o.probe) ≡ Some since
        → (since ≡ moment) ⊎ (o.probe ≡ Some since)
    by true b is = or_now o.probe moment since is
    by false true is = absurd (none-some since is)
    by false false is = inr is

probe_duty : Duty (λ o. o.probe) 0 SendsAnything (λ l. l.retransmit)
probe_duty = record {
  nothing = refl;
  onward = probe_onward;
  back = probe_back;
  rules = λ l all. all.1.1.0;
  either = λ a b. refl;
  fine = λ slack moment v listener o since none open' is.
      let both = neither (is_late slack moment o.retransmit) (is_late slack moment o.probe)
      (late_open (λ l. l.retransmit ≡ false) slack moment v listener o open' none) in
      let le = not_late slack since moment o.probe is both.1 in
      omega (arith, le);
}

probe_begins : (before after : View) (moment : ℕ) (listener : Option ℕ) (counts : Bool) (o : Owed)
    → (is_closed after.state ≡ true) ⊎ ((since : ℕ) × ((owed_after (Expires Persist) before after moment listener counts o).probe ≡ Some since))
probe_begins before after moment listener counts o =
    open_or_closed (λ n. (is_closed after.state ≡ true) ⊎ ((since : ℕ) × (n.probe ≡ Some since))) (Expires Persist) before after moment listener counts o
    (λ closed. inl closed) (inr (since_now o.probe moment))

-- ---- start

start_onward : (event : Event) (before after : View) (moment : ℕ) (listener : Option ℕ) (counts : Bool) (o : Owed) (since : ℕ) → o.start ≡ Some since
    → IsNotIdle event before after ⊎ (is_closed after.state ≡ true) ⊎ ((owed_after event before after moment listener counts o).start ≡ Some since)
start_onward event before after moment listener counts o since is =
    open_or_closed (λ n. IsNotIdle event before after ⊎ (is_closed after.state ≡ true) ⊎ (n.start ≡ Some since)) event before after moment listener counts o
    (λ closed. inr (inl closed)) (by (is_idle_with_work after) refl)
  where
    by : (b : Bool) → is_idle_with_work after ≡ b
        → IsNotIdle event before after ⊎ (is_closed after.state ≡ true) ⊎ ((if b then option_or o.start (Some moment) else None) ≡ Some since)
    by true idle = inr (inr (ap (λ (q : Option ℕ). option_or q (Some moment)) is))
    by false busy = inl (λ idle. true_false (idle_is after idle) busy)

start_back : (event : Event) (before after : View) (moment : ℕ) (listener : Option ℕ) (counts : Bool) (o : Owed) (since : ℕ)
    → (owed_after event before after moment listener counts o).start ≡ Some since → (since ≡ moment) ⊎ (o.start ≡ Some since)
start_back event before after moment listener counts o since =
    open_or_closed (λ n. n.start ≡ Some since → (since ≡ moment) ⊎ (o.start ≡ Some since)) event before after moment listener counts o
    (λ closed none. absurd (none-some since none)) (by (is_idle_with_work after))
  where
    by : (b : Bool) → (if b then option_or o.start (Some moment) else None) ≡ Some since → (since ≡ moment) ⊎ (o.start ≡ Some since)
    by true is = or_now o.start moment since is
    by false is = absurd (none-some since is)

start_duty : Duty (λ o. o.start) longest_wait IsNotIdle (λ l. l.start)
start_duty = record {
  nothing = refl;
  onward = start_onward;
  back = start_back;
  rules = λ l all. all.1.1.1.1.0;
  either = λ a b. refl;
  fine = λ slack moment v listener o since none open' is.
      not_late slack (since + longest_wait) moment (start_due o.start) (ap (option_map (λ m. m + longest_wait)) is)
      (late_open (λ l. l.start ≡ false) slack moment v listener o open' none);
}

start_begins : (event : Event) (before after : View) (moment : ℕ) (listener : Option ℕ) (counts : Bool) (o : Owed) → is_idle_with_work after ≡ true
    → (is_closed after.state ≡ true) ⊎ ((since : ℕ) × ((owed_after event before after moment listener counts o).start ≡ Some since))
start_begins event before after moment listener counts o idle =
    open_or_closed (λ n. (is_closed after.state ≡ true) ⊎ ((since : ℕ) × (n.start ≡ Some since))) event before after moment listener counts o
    (λ closed. inl closed)
    (inr (subst (λ (b : Bool). (since : ℕ) × ((if b then option_or o.start (Some moment) else None) ≡ Some since)) (sym idle) (since_now o.start moment)))

-- ---- from the step at which a duty arises

module _ (t : Trace) (w : Witness) (slack : ℕ) (r : Run t.header slack (length w.steps) (act_at t w) (known_before t w))
    (placed : Placed t.header t.lines (moves w.steps))
    (late : first_broken (end_rules t.header slack (last_moment (moves w.steps)) (known_before t w (length w.steps)).duties
    (known_before t w (length w.steps)).model) ≡ None) where
  pub arises : (me : EndpointId) (get : Owed → Option ℕ) (extra : ℕ) (Kind : Event → (before after : View) → Type 0) (sel : Lates → Bool)
      (duty : Duty get extra Kind sel) → IsSame sel t.header slack → IsAsShown t.header get
      → (place moment : ℕ) (event : Event) → Happens t w place moment me event
      → ((before after : View) (now : ℕ) (listener : Option ℕ) (counts : Bool) (o : Owed) → before ≡ seen_before t w place me
      → after ≡ seen_before t w (suc place) me → now ≡ moment → o ≡ owed_by (known_before t w place).duties me.host me.number
      → (is_closed after.state ≡ true) ⊎ ((since : ℕ) × (get (owed_after event before after now listener counts o) ≡ Some since)))
      → IsDoneBy t w place (moment + extra + slack) me Kind
  arises me get extra Kind sel duty same reads place moment event a begins =
      subst (λ (m : ℕ). IsDoneBy t w place (m + extra + slack) me Kind) a.time
      (by (begins (seen (known_before t w place).model me) (seen (known_before t w (suc place)).model me) a.act.moment owes.listener owes.counts
      (owed_by (known_before t w place).duties me.host me.number) (ap (λ (v : World tcp_shape). seen v me) (world_is t w place))
      (ap (λ (v : World tcp_shape). seen v me) (world_is t w (suc place))) a.time refl))
    where
      owes : Owes t.header slack (known_before t w place) (known_before t w (suc place)) a.act me event
      owes = owes_of t w slack r place a.act me event a.is (happens_to t w place moment me event a)

      -- the endpoint is CLOSED by the step itself
      at_once : is_closed (seen (known_before t w (suc place)).model me).state ≡ true → IsDoneBy t w place (a.act.moment + extra + slack) me Kind
      at_once closed =
          inr (inl (becomes t w slack r placed me (λ v. is_closed v.state) place (a.act.moment + extra + slack) place a.act (omega arith)
          (λ less. absurd (omega (arith, less))) a.is closed (λ event shows. omega arith)))

      since_then : (since : ℕ) → get (owed_by (known_before t w (suc place)).duties me.host me.number) ≡ Some since
          → (c : Bool) → is_closed (seen (known_before t w (suc place)).model me).state ≡ c → IsDoneBy t w place (a.act.moment + extra + slack) me Kind
      since_then since now true closed = at_once closed
      since_then since now false open' =
          let old = not_after t w slack r placed me get extra Kind sel duty reads place a.act a.is since now in
          from_step t w slack r placed me (λ o. get o ≡ Some since) Kind (λ v. is_closed v.state) sel place (a.act.moment + extra + slack)
          (wait_of duty slack since (a.act.moment + extra + slack) (omega (arith, old))) same
          (λ is like plain rest owes. reads is like plain rest ∙ owes) late moment event a open' now

      by : (is_closed (seen (known_before t w (suc place)).model me).state ≡ true)
          ⊎ ((since : ℕ) × (get (owed_after event (seen (known_before t w place).model me)
          (seen (known_before t w (suc place)).model me) a.act.moment owes.listener owes.counts
          (owed_by (known_before t w place).duties me.host me.number)) ≡ Some since))
          → IsDoneBy t w place (a.act.moment + extra + slack) me Kind
      by (inl closed) = at_once closed
      by (inr p) = since_then p.0 (reads _ _ owes.after owes.rest ∙ p.1) (is_closed (seen (known_before t w (suc place)).model me).state) refl

  -- what is received is answered
  pub receipts_answered : says_sender t.header.version ≡ false → ReceiptsAreAnswered t w slack
  receipts_answered plain place moment length me a some receives' =
      arises me (λ o. o.acknowledge) longest_delay Answers (λ l. l.acknowledge) acknowledge_duty
      (plain_same (λ l. l.acknowledge) t.header slack plain)
      (λ is like same rest. ap (λ (o : Owed). o.acknowledge) (same plain)) place moment (Processes length false) a
      (λ before after moment listener counts o is now at old. acknowledge_begins length before after moment listener counts o some
      (ap (λ (v : View). receives v.state) is ∙ receives_in (seen_before t w place me).state receives'))

  -- an expiry is followed by a retransmission
  pub expiries_followed : says_sender t.header.version ≡ false → ExpiriesAreFollowed t w slack
  expiries_followed plain place moment me a =
      subst (λ (m : ℕ). IsDoneBy t w place m me SendsOldest) (let e : moment + 0 + slack ≡ moment + slack = omega arith in e)
      (arises me (λ o. o.retransmit) 0 SendsOldest (λ l. l.retransmit) retransmit_duty (plain_same (λ l. l.retransmit) t.header slack plain)
      (λ is like plain rest. ap (λ (o : Owed). o.retransmit) rest) place moment (Expires Rto) a
      (λ before after moment listener counts o is now at old. retransmit_begins before after moment listener counts o))

  -- and one of the persist timer by any segment
  pub probes_sent : says_sender t.header.version ≡ false → ProbesAreSent t w slack
  probes_sent plain place moment me a =
      subst (λ (m : ℕ). IsDoneBy t w place m me SendsAnything) (let e : moment + 0 + slack ≡ moment + slack = omega arith in e)
      (arises me (λ o. o.probe) 0 SendsAnything (λ l. l.retransmit) probe_duty (plain_same (λ l. l.retransmit) t.header slack plain)
      (λ is like plain rest. ap (λ (o : Owed). o.probe) rest) place moment (Expires Persist) a
      (λ before after moment listener counts o is now at old. probe_begins before after moment listener counts o))

  -- work is begun
  pub work_begun : WorkIsBegun t w slack
  work_begun place moment me event a idle =
      arises me (λ o. o.start) longest_wait IsNotIdle (λ l. l.start) start_duty (start_same t.header slack)
      (λ is like plain rest. ap (λ (o : Owed). o.start) rest) place moment event a
      (λ before after moment listener counts o is now at old. start_begins event before after moment listener counts o
      (ap is_idle_with_work now ∙ idle_is (seen_before t w (suc place) me) idle))
