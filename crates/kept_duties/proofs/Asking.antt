-- A dropped segment that asks for an acknowledgment gets one in time.
use Rattle.std.proofs.Common.{◌≡◌, ℕ, suc, ◌<◌, ◌≤◌, ◌⊎◌, inl, inr, Bool, true, false, length, Option, Some, None, refl, ap, sym, subst, ◌∙◌, arith}
use Rattle.std.proofs.lemmas.Bool.Decides.{nat_tests}
use Rattle.std.proofs.lemmas.Option.{none-some, same_Some}
use Rattle.std.specs.Prelude.{◌&&◌, ◌||◌, if◌then◌else◌, is_some, nat_lt, not}
use Rattle.seqno.specs.Numbers.{number_of}
use Rattle.std.specs.Option.{option_map_or, option_or}
use Rattle.case_forms.specs.Versions.{says_sender}
use Rattle.case_forms.specs.States.{is_closed, is_syn_sent}
use Rattle.case_forms.specs.declared.steps.Step.{Step as WitnessStep}
use Rattle.case_forms.specs.declared.steps.Witness.{Witness}
use Rattle.case_forms.specs.declared.trace.Trace.{Trace}
use Rattle.verdict.specs.Rules.{first_broken}
use Rattle.verdict.specs.declared.rule.Rule.{Rule}
use Rattle.interval_order.specs.Orders.{last_moment}
use Rattle.interval_order.specs.Placed.{Placed}
use Rattle.spec_network.specs.Hosts.{At, Stamped}
use Rattle.spec_network.specs.Hosts as network
use Rattle.spec_network.specs.Tables.{on}
use Rattle.spec_tcp.specs.Arrives.{Taker, taker}
use Rattle.spec_tcp.specs.Machine.{tcp_shape}
use Rattle.spec_tcp.specs.declared.endpoint.Emission.{Emission}
use Rattle.spec_tcp.specs.declared.endpoint.Endpoint.{Endpoint}
use Rattle.spec_tcp.specs.declared.endpoint.EndpointId.{EndpointId}
use Rattle.spec_tcp.specs.Endpoints.{rcv_nxt}
use Rattle.spec_tcp.specs.Same.{same_word}
use Rattle.spec_tcp_laws.proofs.Rules.{is_not, map_or_true}
use Rattle.spec_tcp_laws.proofs.Takes.{taker_there}
use Rattle.spec_duties.specs.Acknowledge.{acknowledged_after, answered_lately, longest_delay}
use Rattle.spec_cases.specs.Cases.{Known}
use Rattle.spec_duties.specs.Dropped.{answering_breaks, asks, has_content, is_ack_range, is_next, is_number, is_unacceptable, reads_old_numbers, taking_breaks}
use Rattle.spec_duties.specs.End.{end_rules}
use Rattle.spec_duties.specs.Owed.{owed_after}
use Rattle.spec_duties.specs.Observations.{at_drop, observe_dropping, observe, unseen}
use Rattle.spec_duties.specs.Watching.{owed_by}
use Rattle.spec_duties.specs.declared.events.Event.{Event}
use Rattle.spec_duties.specs.declared.events.Event.TheVariants.{Drops, Sends}
use Rattle.spec_duties.specs.declared.events.Sending.{Sending}
use Rattle.spec_duties.specs.declared.owed.Owed.{Owed}
use Rattle.spec_duties.specs.declared.views.View.{View}
use Rattle.checker.specs.Seen.{act_of, moves}
use Rattle.kept_duties.specs.Asking.{AcknowledgesUnsent, Asks, CouldBeProcessed, DropsAreAnswered, DropsAt, IsChallenged, IsUnacceptable, SentNoneLately}
use Rattle.kept_duties.specs.Drops.{IsNext, host_before}
use Rattle.kept_duties.specs.Happens.{Happens, act_at, known_before, world_before}
use Rattle.kept_duties.specs.Soon.{Answers}
use Rattle.kept_duties.proofs.Judged.{plain_same}
use Rattle.kept_duties.proofs.Events.{place_touched}
use Rattle.kept_duties.proofs.Repeats.{happens_from, owes_of}
use Rattle.kept_duties.proofs.Runs.{Run, run_keeps}
use Rattle.kept_duties.proofs.Segments.{within}
use Rattle.kept_duties.proofs.Since.{nothing_first}
use Rattle.kept_duties.proofs.Soon.{acknowledge_duty, arises, open_or_closed, or_true, since_now}
use Rattle.kept_duties.proofs.Touched.{Touches, seen, touched, touches_or_not}

-- ---- what asks

-- the test that duties make, of its parts
abbrev pub asks_by : (old_numbers syn_sent rst ack next : Bool) → Option Rule → Bool
asks_by old_numbers syn_sent rst ack next breaks =
    not syn_sent
    && (if rst then not (is_some breaks) && (rst && not syn_sent && not next)
    else is_unacceptable breaks || is_ack_range breaks && ack || not (is_some breaks) || old_numbers && is_number breaks)

not_next : (e : Endpoint) (m : Emission) → (IsNext e m → ⊥) → is_next e m ≡ false
not_next e m other =
    is_not (is_next e m) (λ is.
    let f = map_or_true e.irs (λ irs. same_word m.seq (number_of irs (rcv_nxt e))) is in
    other (f.0, f.1, f.2))

pub asks_is : (old_numbers : Bool) (breaks : Option Rule) (e : Endpoint) (m : Emission) → is_syn_sent e.state ≡ false → Asks breaks e m
    → asks old_numbers m breaks e ≡ true
asks_is old breaks e m sent (IsUnacceptable rst is) = λ i. asks_by old (sent i) (rst i) m.flags.ack (is_next e m) (is i)
asks_is old breaks e m sent (AcknowledgesUnsent rst ack is) = λ i. asks_by old (sent i) (rst i) (ack i) (is_next e m) (is i)
asks_is old breaks e m sent (CouldBeProcessed rst is) = λ i. asks_by old (sent i) (rst i) m.flags.ack (is_next e m) (is i)
asks_is old breaks e m sent (IsChallenged rst other is) = λ i. asks_by old (sent i) (rst i) m.flags.ack (not_next e m other i) (is i)

-- the duty arises
asks_begins : (unlimited : Bool) (before after : View) (moment : ℕ) (listener : Option ℕ) (counts : Bool) (o : Owed)
    → (unlimited ≡ true) ⊎ (answered_lately moment o.acknowledged ≡ false)
    → (is_closed after.state ≡ true)
    ⊎ ((since : ℕ) × ((owed_after (Drops true unlimited) before after moment listener counts o).acknowledge ≡ Some since))
asks_begins unlimited before after moment listener counts o due =
    open_or_closed (λ n. (is_closed after.state ≡ true) ⊎ ((since : ℕ) × (n.acknowledge ≡ Some since)))
    (Drops true unlimited) before after moment listener counts o
    (λ closed. inl closed) (inr (kept (due_now unlimited (answered_lately moment o.acknowledged) due)))
  where
    due_now : (a b : Bool) → (a ≡ true) ⊎ (b ≡ false) → (true && (a || not b)) ≡ true
    due_now true b d = refl
    due_now false true (inl d) = absurd cc
    due_now false true (inr d) = absurd cc
    due_now false false d = refl

    kept : (true && (unlimited || not (answered_lately moment o.acknowledged))) ≡ true
        → (since : ℕ) × ((if true && (unlimited || not (answered_lately moment o.acknowledged)) then option_or o.acknowledge (Some moment)
        else o.acknowledge) ≡ Some since)
    kept due =
        subst (λ (b : Bool). (since : ℕ) × ((if b then option_or o.acknowledge (Some moment) else o.acknowledge) ≡ Some since)) (sym due)
        (since_now o.acknowledge moment)

-- ---- when a segment with ACK was sent last

acknowledged_is : (event : Event) (before after : View) (moment : ℕ) (listener : Option ℕ) (counts : Bool) (o : Owed)
    → (owed_after event before after moment listener counts o).acknowledged ≡ acknowledged_after event moment o.acknowledged
acknowledged_is event before after moment listener counts o =
    open_or_closed (λ n. n.acknowledged ≡ acknowledged_after event moment o.acknowledged) event before after moment listener counts o (λ closed. refl) refl

-- a segment with ACK was sent before this place
record SentAck (t : Trace) (w : Witness) (me : EndpointId) (to since : ℕ) : Type 0 where
  earlier : ℕ
  low : earlier < to
  sending : Sending
  happens : Happens t w earlier since me (Sends sending)
  ack : sending.flags.ack ≡ true

module _ (t : Trace) (w : Witness) (slack : ℕ) (r : Run t.header slack (length w.steps) (act_at t w) (known_before t w)) where
  module _ (me : EndpointId) where
    abbrev sent_later : (j since : ℕ) → SentAck t w me j since → SentAck t w me (suc j) since
    sent_later j since s =
        record { earlier = s.earlier; low = (let low = s.low in omega arith); sending = s.sending; happens = s.happens; ack = s.ack }

    abbrev Tells : ℕ → Known → Type 0
    Tells j k = (since : ℕ) → (owed_by k.duties me.host me.number).acknowledged ≡ Some since → SentAck t w me j since

    sent_at : (to : ℕ) → to ≤ length w.steps → Tells to (known_before t w to)
    sent_at to high =
        run_keeps t.header slack (length w.steps) (act_at t w) (known_before t w) r Tells (λ j k all since is. sent_later j since (all since is))
        0 to (omega arith) high
        (λ since is. absurd (none-some since (sym (ap (λ (k : Known). (owed_by k.duties me.host me.number).acknowledged) r.start
        ∙ ap (λ (o : Owed). o.acknowledged) (nothing_first t.header me.host me.number)) ∙ is)))
        (λ j x low less is goes all since now. next j x is all since now
        (touches_or_not t.header slack (known_before t w j) (known_before t w (suc j)) x me goes))
      where
        by_event : (j : ℕ) (x : Stamped tcp_shape) (event : Event) → Happens t w j x.moment me event → Tells j (known_before t w j) → (since : ℕ)
            → acknowledged_after event x.moment (owed_by (known_before t w j).duties me.host me.number).acknowledged ≡ Some since
            → SentAck t w me (suc j) since
        by_event j x (Sends s) happens all since now = test s.flags.ack refl now
          where
            test : (b : Bool) → s.flags.ack ≡ b
                → (if b then Some x.moment else (owed_by (known_before t w j).duties me.host me.number).acknowledged) ≡ Some since
                → SentAck t w me (suc j) since
            test true ack now = record {
              earlier = j;
              low = omega arith;
              sending = s;
              happens = subst (λ (m : ℕ). Happens t w j m me (Sends s)) (same_Some x.moment since now) happens;
              ack = ack;
            }
            test false ack now = sent_later j since (all since now)
        by_event j x event happens all since now = sent_later j since (all since now)

        next : (j : ℕ) (x : Stamped tcp_shape) → act_at t w j ≡ Some x → Tells j (known_before t w j) → (since : ℕ)
            → (owed_by (known_before t w (suc j)).duties me.host me.number).acknowledged ≡ Some since
            → Touches t.header (known_before t w j) x me
            ⊎ ((owed_by (known_before t w (suc j)).duties me.host me.number ≡ owed_by (known_before t w j).duties me.host me.number)
            × ((event : Event) → (observe t.header x.moment (known_before t w j).model x.step).touched ≡ Some (touched (known_before t w j).model me event)
            → ⊥))
            → SentAck t w me (suc j) since
        next j x is all since now (inr same) = sent_later j since (all since (sym (ap (λ (o : Owed). o.acknowledged) same.0) ∙ now))
        next j x is all since now (inl at) =
            let owes = owes_of t w slack r j x me at.event is at.shows in
            by_event j x at.event (happens_from t w j x me at.event is at.shows) all since
            (sym (ap (λ (o : Owed). o.acknowledged) owes.rest
            ∙ acknowledged_is at.event (seen (known_before t w j).model me) (seen (known_before t w (suc j)).model me) x.moment owes.listener owes.counts
            (owed_by (known_before t w j).duties me.host me.number)) ∙ now)

    -- none was sent lately
    pub not_lately : (place moment : ℕ) → place ≤ length w.steps → SentNoneLately t w place moment me
        → answered_lately moment (owed_by (known_before t w place).duties me.host me.number).acknowledged ≡ false
    not_lately place moment high none = by (owed_by (known_before t w place).duties me.host me.number).acknowledged (sent_at place high)
      where
        by : (o : Option ℕ) → ((since : ℕ) → o ≡ Some since → SentAck t w me place since) → answered_lately moment o ≡ false
        by None all = refl
        by (Some since) all =
            let s = all since refl in
            let late = none s.earlier since s.sending s.low s.happens s.ack in
            grind (arith, nat_tests, late)

  -- ---- the `K` step

  drop_happens : (place moment line : ℕ) (me : EndpointId) (m : Emission) (e : Endpoint) → DropsAt t w place moment line me m e
      → Happens t w place moment me (Drops (asks (reads_old_numbers t.header.version) m
      (taking_breaks t.header moment (world_before t w place) me.host line) e) (has_content m))
  drop_happens place moment line me m e at = record {
    act = record { moment = moment; step = At me.host (network.Drops line) };
    is = ap (λ (o : Option WitnessStep). option_map_or (act_of t.header t.lines) o None) at.step.here;
    time = refl;
    touches =
        let v = world_before t w place in
        let b = host_before t w place me.host in
        let taking = taking_breaks t.header moment v me.host line in
        ap (λ (o : Option Emission). (on o unseen (λ m. observe_dropping t.header.version me.host b line taking (answering_breaks t.header v me.host line) m
        (taker b m))).touched) at.waits
        ∙ ap (λ (k : Taker). at_drop t.header.version me.host b m taking k) at.comes
        ∙ place_touched v me.host (Drops (asks (reads_old_numbers t.header.version) m taking e) (has_content m)) me.number e
        (taker_there b m me.number e at.comes);
  }

  pub drops_answered : says_sender t.header.version ≡ false → (placed : Placed t.header t.lines (moves w.steps))
      → first_broken (end_rules t.header slack (last_moment (moves w.steps)) (known_before t w (length w.steps)).duties
      (known_before t w (length w.steps)).model) ≡ None
      → DropsAreAnswered t w slack
  drops_answered plain placed late place moment line me m e at sent asking due =
      arises t w slack r placed late me (λ o. o.acknowledge) longest_delay Answers (λ l. l.acknowledge) acknowledge_duty
      (plain_same (λ l. l.acknowledge) t.header slack plain) (λ is like same rest. ap (λ (o : Owed). o.acknowledge) (same plain)) place moment
      (Drops true (has_content m)) happens
      (λ before after now listener counts o is next same old. asks_begins (has_content m) before after now listener counts o (limits now o same old due))
    where
      happens : Happens t w place moment me (Drops true (has_content m))
      happens =
          subst (λ (b : Bool). Happens t w place moment me (Drops b (has_content m)))
          (asks_is (reads_old_numbers t.header.version) (taking_breaks t.header moment (world_before t w place) me.host line) e m sent asking)
          (drop_happens place moment line me m e at)

      limits : (now : ℕ) (o : Owed) → now ≡ moment → o ≡ owed_by (known_before t w place).duties me.host me.number
          → (0 < length m.payload) ⊎ (m.flags.fin ≡ true) ⊎ SentNoneLately t w place moment me
          → (has_content m ≡ true) ⊎ (answered_lately now o.acknowledged ≡ false)
      limits now o same old (inl some) =
          let more : nat_lt 0 (length m.payload) ≡ true = grind (arith, nat_tests, some) in
          inl (λ i. more i || m.flags.fin)
      limits now o same old (inr (inl fin)) = inl (or_true (nat_lt 0 (length m.payload)) m.flags.fin fin)
      limits now o same old (inr (inr none)) =
          inr (subst (λ (n : ℕ). answered_lately n o.acknowledged ≡ false) (sym same)
          (subst (λ (o : Owed). answered_lately moment o.acknowledged ≡ false) (sym old)
          (not_lately me place moment (let low = within t w place happens.act happens.is in omega (arith, low)) none)))
