-- In version 6, since when an acknowledgment is owed: by an endpoint, or by a segment that it built.
use Rattle.std.proofs.Common.{◌≡◌, ℕ, suc, ◌+◌, ◌<◌, ◌≤◌, ◌⊎◌, inl, inr, Bool, true, false, length, Option, Some, None, refl, ap, sym, subst, ◌∙◌}
use Rattle.std.proofs.Common.{nat_eq, arith}
use Rattle.std.specs.Prelude.{◌&&◌, ◌||◌, if◌then◌else◌, min, nat_le, nat_lt, not}
use Rattle.std.specs.Option.{option_map, option_map_or, option_or}
use Rattle.std.proofs.lemmas.Bool.Decides.{nat_tests}
use Rattle.std.proofs.lemmas.Option.{none-some, same_Some}
use Rattle.case_forms.specs.States.{is_closed}
use Rattle.case_forms.specs.Versions.{says_sender}
use Rattle.case_forms.specs.declared.steps.Witness.{Witness}
use Rattle.case_forms.specs.declared.trace.Trace.{Trace}
use Rattle.spec_network.specs.Hosts.{Stamped}
use Rattle.spec_network.specs.Tables.{on, waiting}
use Rattle.spec_tcp.specs.Machine.{tcp_shape}
use Rattle.spec_tcp.specs.declared.endpoint.EndpointId.{EndpointId}
use Rattle.spec_tcp_laws.proofs.Rules.{neither}
use Rattle.spec_cases.specs.Cases.{Known, first_known}
use Rattle.spec_duties.specs.Acknowledge.{acknowledge_due, longest_delay, receives}
use Rattle.spec_duties.specs.Deadlines.{is_late}
use Rattle.spec_duties.specs.Observations.{observe}
use Rattle.spec_duties.specs.Owed.{lates_of}
use Rattle.spec_duties.specs.Strict.{asks_strictly, brought_by, builds_answer, coarse_expiry_due, coarse_probing_due, earlier_of}
use Rattle.spec_duties.specs.Strict.{is_sent_before_text, strict_after, strict_lates, taken_over, unbuilt_answer_after, with_brought}
use Rattle.spec_duties.specs.Watching.{Duties, owed_by, sent_by, strict_by, unsent_after}
use Rattle.spec_duties.specs.declared.events.Event.{Event}
use Rattle.spec_duties.specs.declared.events.Event.TheVariants.{Processes}
use Rattle.spec_duties.specs.declared.observations.BuiltChange.{BuiltChange}
use Rattle.spec_duties.specs.declared.observations.BuiltChange.TheVariants as built_change
use Rattle.spec_duties.specs.declared.observations.Sampling.{Sampling}
use Rattle.spec_duties.specs.declared.observations.TouchedEndpoint.{TouchedEndpoint}
use Rattle.spec_duties.specs.declared.owed.Owed.{Owed}
use Rattle.spec_duties.specs.declared.strict.StrictOwed.{StrictOwed}
use Rattle.spec_duties.specs.declared.strict.Unsent.{Unsent}
use Rattle.spec_duties.specs.declared.views.View.{View}
use Rattle.kept_duties.specs.Happens.{act_at, known_before}
use Rattle.kept_duties.proofs.Inbox.{not_late}
use Rattle.kept_duties.proofs.Made.{go_on, kept_of, touched_by, view_by}
use Rattle.kept_duties.proofs.Observations.{waiting_elsewhere, waiting_here}
use Rattle.kept_duties.proofs.Runs.{Goes, Run, run_keeps}
use Rattle.kept_duties.proofs.Since.{Began, began_before, began_now}
use Rattle.kept_duties.proofs.StrictSince.{strict_first}
use Rattle.kept_duties.proofs.Stricter.{strict_kept, strict_touched}
use Rattle.kept_duties.proofs.Touched.{Touches, seen, touched, touches_or_not}

-- ---- what a step makes of it

-- of two moments, one that is there is kept or an earlier one
pub earlier_low : (a b : Option ℕ) (since : ℕ) → b ≡ Some since → (s : ℕ) × (earlier_of a b ≡ Some s) × (s ≤ since)
earlier_low None b since is = (since, is, omega arith)
earlier_low (Some m) b since is = (min m since, ap (λ (q : Option ℕ). Some (option_map_or (min m) q m)) is, omega arith)

pub earlier_first : (since : ℕ) (b : Option ℕ) → (s : ℕ) × (earlier_of (Some since) b ≡ Some s) × (s ≤ since)
earlier_first since None = (since, refl, omega arith)
earlier_first since (Some m) = (min since m, refl, omega arith)

-- and it is one of them
min_one : (m n s : ℕ) → min m n ≡ s → (m ≡ s) ⊎ (n ≡ s)
min_one m n s is = by (nat_le m n) refl
  where
    by : (b : Bool) → nat_le m n ≡ b → (m ≡ s) ⊎ (n ≡ s)
    by true le = let low : m ≤ n = grind (arith, nat_tests, le) in inl (omega (arith, low, is))
    by false le = let high : n < m = grind (arith, nat_tests, le) in inr (omega (arith, high, is))

earlier_one : (a b : Option ℕ) (s : ℕ) → earlier_of a b ≡ Some s → (a ≡ Some s) ⊎ (b ≡ Some s)
earlier_one None b s is = inr is
earlier_one (Some m) None s is = inl is
earlier_one (Some m) (Some n) s is = by (min_one m n s (same_Some (min m n) s is))
  where
    by : (m ≡ s) ⊎ (n ≡ s) → (Some m ≡ Some s) ⊎ (Some n ≡ Some s)
    by (inl e) = inl (ap (λ (k : ℕ). Some k) e)
    by (inr e) = inr (ap (λ (k : ℕ). Some k) e)

-- what an endpoint owes stays, but for an earlier moment, unless it builds an answer
pub ack_stays : (s : Sampling) (event : Event) (before after : View) (moment : ℕ) (acknowledged : Option ℕ) (sent : Option Unsent) (o : StrictOwed)
    (since : ℕ) → builds_answer event ≡ false → o.acknowledge ≡ Some since
    → (q : ℕ) × ((strict_after s event before after moment acknowledged sent o).acknowledge ≡ Some q) × (q ≤ since)
ack_stays s event before after moment acknowledged sent o since none is = back (is_sent_before_text event)
  where
    still : (a b : Bool) → a ≡ false → (if a then None else if b then option_or o.acknowledge (Some moment) else o.acknowledge) ≡ Some since
    still true b none = absurd cc
    still false true none = ap (λ (q : Option ℕ). option_or q (Some moment)) is
    still false false none = is

    here : unbuilt_answer_after event before moment acknowledged o.answered o.acknowledge ≡ Some since
    here = still (builds_answer event) (asks_strictly event before.state moment acknowledged o.answered) none

    back : (b : Bool) → (q : ℕ) × ((if b then earlier_of (brought_by sent) (unbuilt_answer_after event before moment acknowledged o.answered o.acknowledge)
        else unbuilt_answer_after event before moment acknowledged o.answered o.acknowledge) ≡ Some q) × (q ≤ since)
    back true = earlier_low (brought_by sent) (unbuilt_answer_after event before moment acknowledged o.answered o.acknowledge) since here
    back false = (since, here, omega arith)

-- a segment whose line has the number from before the text gives it back
pub ack_returns : (s : Sampling) (event : Event) (before after : View) (moment : ℕ) (acknowledged : Option ℕ) (sent : Option Unsent) (o : StrictOwed)
    (since : ℕ) → is_sent_before_text event ≡ true → brought_by sent ≡ Some since
    → (q : ℕ) × ((strict_after s event before after moment acknowledged sent o).acknowledge ≡ Some q) × (q ≤ since)
ack_returns s event before after moment acknowledged sent o since early is =
    let rest = unbuilt_answer_after event before moment acknowledged o.answered o.acknowledge in
    let first = earlier_first since rest in (
      first.0,
      ap (λ (b : Bool). if b then earlier_of (brought_by sent) rest else rest) early ∙ ap (λ (q : Option ℕ). earlier_of q rest) is ∙ first.1,
      first.2,
    )

-- what is owed after a step arose then, or was owed before, or was brought
ack_from : (s : Sampling) (event : Event) (before after : View) (moment : ℕ) (acknowledged : Option ℕ) (sent : Option Unsent) (o : StrictOwed) (since : ℕ)
    → (strict_after s event before after moment acknowledged sent o).acknowledge ≡ Some since
    → (since ≡ moment) ⊎ (o.acknowledge ≡ Some since) ⊎ (brought_by sent ≡ Some since)
ack_from s event before after moment acknowledged sent o since = back (is_sent_before_text event)
  where
    rest : Option ℕ
    rest = unbuilt_answer_after event before moment acknowledged o.answered o.acknowledge

    now_or : (o : Option ℕ) → option_or o (Some moment) ≡ Some since → (since ≡ moment) ⊎ (o ≡ Some since)
    now_or None is = inl (sym (same_Some moment since is))
    now_or (Some q) is = inr is

    unbuilt : (a b : Bool) → (if a then None else if b then option_or o.acknowledge (Some moment) else o.acknowledge) ≡ Some since
        → (since ≡ moment) ⊎ (o.acknowledge ≡ Some since)
    unbuilt true b is = absurd (none-some since is)
    unbuilt false true is = now_or o.acknowledge is
    unbuilt false false is = inr is

    old : unbuilt_answer_after event before moment acknowledged o.answered o.acknowledge ≡ Some since
        → (since ≡ moment) ⊎ (o.acknowledge ≡ Some since) ⊎ (brought_by sent ≡ Some since)
    old is = join (unbuilt (builds_answer event) (asks_strictly event before.state moment acknowledged o.answered) is)
      where
        join : (since ≡ moment) ⊎ (o.acknowledge ≡ Some since) → (since ≡ moment) ⊎ (o.acknowledge ≡ Some since) ⊎ (brought_by sent ≡ Some since)
        join (inl now) = inl now
        join (inr was) = inr (inl was)

    back : (b : Bool) → (if b then earlier_of (brought_by sent) (unbuilt_answer_after event before moment acknowledged o.answered o.acknowledge)
        else unbuilt_answer_after event before moment acknowledged o.answered o.acknowledge) ≡ Some since
        → (since ≡ moment) ⊎ (o.acknowledge ≡ Some since) ⊎ (brought_by sent ≡ Some since)
    back false is = old is
    back true is = by (earlier_one (brought_by sent) (unbuilt_answer_after event before moment acknowledged o.answered o.acknowledge) since is)
      where
        by : (brought_by sent ≡ Some since) ⊎ (unbuilt_answer_after event before moment acknowledged o.answered o.acknowledge ≡ Some since)
            → (since ≡ moment) ⊎ (o.acknowledge ≡ Some since) ⊎ (brought_by sent ≡ Some since)
        by (inl brought) = inr (inr brought)
        by (inr here) = old here

-- what is received is to be acknowledged
pub ack_begins : (s : Sampling) (event : Event) (length : ℕ) → event ≡ Processes length false → (before after : View) (moment : ℕ)
    (acknowledged : Option ℕ) (sent : Option Unsent) (o : StrictOwed) → 0 < length → receives before.state ≡ true
    → (since : ℕ) × ((strict_after s event before after moment acknowledged sent o).acknowledge ≡ Some since)
ack_begins s event length is before after moment acknowledged sent o some open' =
    subst (λ (e : Event). (since : ℕ) × ((strict_after s e before after moment acknowledged sent o).acknowledge ≡ Some since)) (sym is)
    (subst (λ (b : Bool). (since : ℕ) × ((if b then option_or o.acknowledge (Some moment) else o.acknowledge) ≡ Some since)) (sym asks) (now o.acknowledge))
  where
    asks : (receives before.state && nat_lt 0 length && not false) ≡ true
    asks = let more : nat_lt 0 length ≡ true = grind (arith, nat_tests, some) in (λ i. open' i && more i && true)

    now : (q : Option ℕ) → (since : ℕ) × (option_or q (Some moment) ≡ Some since)
    now None = (moment, refl)
    now (Some m) = (m, refl)

-- ---- what isn't late

pub due_soon : (slack moment : ℕ) (q : Option ℕ) (since : ℕ) → is_late slack moment (acknowledge_due q) ≡ false → q ≡ Some since
    → moment ≤ since + longest_delay + slack
due_soon slack moment q since none is =
    not_late slack (since + longest_delay) moment (acknowledge_due q) (ap (option_map (λ m. m + longest_delay)) is) none

pub ack_fine : (grain slack moment : ℕ) (late : Bool) (v : View) (listener : Option ℕ) (o : Owed) (s : StrictOwed) (since : ℕ)
    → (with_brought late (strict_lates grain slack moment v listener o s)).acknowledge ≡ false → is_closed v.state ≡ false → s.acknowledge ≡ Some since
    → moment ≤ since + longest_delay + slack
ack_fine grain slack moment late v listener o s since none open' is =
    due_soon slack moment s.acknowledge since
    (sym (ap (λ (c : Bool). (if c then lates_of slack moment v listener o
    else record (lates_of slack moment v listener o) {
      acknowledge = is_late slack moment (acknowledge_due s.acknowledge);
      expire = is_late slack moment (coarse_expiry_due grain v s.restarted);
      retransmit = is_late slack moment s.retransmit || is_late slack moment s.probe;
      probe = is_late slack moment (coarse_probing_due grain v o.probing);
    }).acknowledge) open') ∙ (neither late ((strict_lates grain slack moment v listener o s).acknowledge) none).1) is

pub brought_fine : (grain slack moment : ℕ) (brought : Option ℕ) (v : View) (listener : Option ℕ) (o : Owed) (s : StrictOwed) (since : ℕ)
    → (with_brought (is_late slack moment (acknowledge_due brought)) (strict_lates grain slack moment v listener o s)).acknowledge ≡ false
    → brought ≡ Some since → moment ≤ since + longest_delay + slack
brought_fine grain slack moment brought v listener o s since none is =
    due_soon slack moment brought since
    (neither (is_late slack moment (acknowledge_due brought)) ((strict_lates grain slack moment v listener o s).acknowledge) none).0 is

-- ---- it is owed since an earlier step

-- a segment that is sent waited
brought_waits : (d : Duties) (p : BuiltChange) (since : ℕ) → brought_by (sent_by d p) ≡ Some since
    → (q : ℕ) × (u : Unsent) × (waiting q d.unsent ≡ Some u) × (u.acknowledge ≡ Some since)
brought_waits d built_change.Nothing since is = absurd (none-some since is)
brought_waits d (built_change.Builds q) since is = absurd (none-some since is)
brought_waits d (built_change.Sends q) since is = by (waiting q d.unsent) refl is
  where
    by : (o : Option Unsent) → waiting q d.unsent ≡ o → brought_by o ≡ Some since
        → (q : ℕ) × (u : Unsent) × (waiting q d.unsent ≡ Some u) × (u.acknowledge ≡ Some since)
    by None there is = absurd (none-some since is)
    by (Some u) there is = (q, u, there, is)

-- what a segment takes over its endpoint owed
taken_from : (d : Duties) (o : Option TouchedEndpoint) (since : ℕ)
    → on o None (λ t. taken_over t.event (strict_by d t.host t.place).acknowledge) ≡ Some since
    → (me : EndpointId) × ((strict_by d me.host me.number).acknowledge ≡ Some since)
taken_from d None since is = absurd (none-some since is)
taken_from d (Some t) since is = by (builds_answer t.event) is
  where
    by : (b : Bool) → (if b then (strict_by d t.host t.place).acknowledge else None) ≡ Some since
        → (me : EndpointId) × ((strict_by d me.host me.number).acknowledge ≡ Some since)
    by true is = (record { host = t.host; number = t.place }, is)
    by false is = absurd (none-some since is)

module _ (t : Trace) (w : Witness) (slack : ℕ) (r : Run t.header slack (length w.steps) (act_at t w) (known_before t w))
    (six : says_sender t.header.version ≡ true) where
  record AllBegan (j : ℕ) (k : Known) : Type 0 where
    owed : (me : EndpointId) (since : ℕ) → (strict_by k.duties me.host me.number).acknowledge ≡ Some since → Began t w j since
    brought : (q : ℕ) (u : Unsent) (since : ℕ) → waiting q k.duties.unsent ≡ Some u → u.acknowledge ≡ Some since → Began t w j since

  all_began : (to : ℕ) → to ≤ length w.steps → AllBegan to (known_before t w to)
  all_began to high =
      run_keeps t.header slack (length w.steps) (act_at t w) (known_before t w) r AllBegan
      (λ j k all. record {
        owed = λ me since is. began_before t w j since (all.owed me since is);
        brought = λ q u since there is. began_before t w j since (all.brought q u since there is);
      })
      0 to (omega arith) high (subst (AllBegan 0) (sym r.start) first) (λ j x low less is goes all. next j x is goes all)
    where
      first : AllBegan 0 (first_known t.header)
      first = record {
        owed = λ me since is. absurd (none-some since (sym (ap (λ (o : StrictOwed). o.acknowledge) (strict_first t.header me.host me.number)) ∙ is));
        brought = λ q u since there is. absurd (none-some u there);
      }

      next : (j : ℕ) (x : Stamped tcp_shape) → act_at t w j ≡ Some x → Goes t.header slack (known_before t w j) (known_before t w (suc j)) x
          → AllBegan j (known_before t w j) → AllBegan (suc j) (known_before t w (suc j))
      next j x is goes all = record { owed = owed; brought = brought }
        where
          k : Known
          k = known_before t w j

          owed : (me : EndpointId) (since : ℕ) → (strict_by (known_before t w (suc j)).duties me.host me.number).acknowledge ≡ Some since
              → Began t w (suc j) since
          owed me since now = at (touches_or_not t.header slack (known_before t w j) (known_before t w (suc j)) x me goes)
            where
              which : (since ≡ x.moment) ⊎ ((strict_by (known_before t w j).duties me.host me.number).acknowledge ≡ Some since)
                  ⊎ (brought_by (sent_by (known_before t w j).duties (observe t.header x.moment (known_before t w j).model x.step).built_change) ≡ Some since)
                  → Began t w (suc j) since
              which (inl here) = began_now t w j x is since here
              which (inr (inl was)) = began_before t w j since (all.owed me since was)
              which (inr (inr brings)) =
                  let b = brought_waits (known_before t w j).duties (observe t.header x.moment (known_before t w j).model x.step).built_change since brings in
                  began_before t w j since (all.brought b.0 b.1 since b.2 b.3)

              at : Touches t.header (known_before t w j) x me
                  ⊎ ((owed_by (known_before t w (suc j)).duties me.host me.number ≡ owed_by (known_before t w j).duties me.host me.number)
                  × ((event : Event) → (observe t.header x.moment (known_before t w j).model x.step).touched
                  ≡ Some (touched (known_before t w j).model me event) → ⊥))
                  → Began t w (suc j) since
              at (inr same) =
                  began_before t w j since (all.owed me since (sym (ap (λ (o : StrictOwed). o.acknowledge)
                  (strict_kept t.header slack (known_before t w j) (known_before t w (suc j)) x me goes six same.1)) ∙ now))
              at (inl touch) =
                  which (ack_from (observe t.header x.moment (known_before t w j).model x.step).sampling (goes.sees.judge touch.event)
                  (seen (known_before t w j).model me) (seen (known_before t w (suc j)).model me) x.moment
                  (owed_by (known_before t w j).duties me.host me.number).acknowledged
                  (sent_by (known_before t w j).duties (observe t.header x.moment (known_before t w j).model x.step).built_change)
                  (strict_by (known_before t w j).duties me.host me.number) since
                  (sym (ap (λ (o : StrictOwed). o.acknowledge)
                  (strict_touched t.header slack (known_before t w j) (known_before t w (suc j)) x me goes six touch.event touch.shows)) ∙ now))

          brought : (q : ℕ) (u : Unsent) (since : ℕ) → waiting q (known_before t w (suc j)).duties.unsent ≡ Some u → u.acknowledge ≡ Some since
              → Began t w (suc j) since
          brought q u since there has = at (observe t.header x.moment (known_before t w j).model x.step).built_change refl
            where
              now : (p : BuiltChange) → (observe t.header x.moment (known_before t w j).model x.step).built_change ≡ p
                  → waiting q (unsent_after (view_by t.header slack (length w.steps) (act_at t w) (known_before t w) r six j x goes)
                  x.moment (known_before t w j).duties
                  (touched_by t.header slack (length w.steps) (act_at t w) (known_before t w) r six j x goes) p) ≡ Some u
              now p shows = sym (go_on t.header slack (length w.steps) (act_at t w) (known_before t w) r six j x goes q p shows) ∙ there

              new : Unsent
              new = kept_of t.header slack (length w.steps) (act_at t w) (known_before t w) r six j x goes

              at : (p : BuiltChange) → (observe t.header x.moment (known_before t w j).model x.step).built_change ≡ p → Began t w (suc j) since
              at built_change.Nothing shows = began_before t w j since (all.brought q u since (now built_change.Nothing shows) has)
              at (built_change.Builds n) shows = test (nat_eq q n) refl
                where
                  test : (b : Bool) → nat_eq q n ≡ b → Began t w (suc j) since
                  test true same =
                      let e : n ≡ q = grind (arith, nat_tests, same) in
                      let here : Some new ≡ Some u =
                      sym (waiting_here n (Some new) (known_before t w j).duties.unsent)
                      ∙ ap (λ (i : ℕ). waiting i (unsent_after
                      (view_by t.header slack (length w.steps) (act_at t w) (known_before t w) r six j x goes)
                      x.moment (known_before t w j).duties
                      (touched_by t.header slack (length w.steps) (act_at t w) (known_before t w) r six j x goes) (built_change.Builds n))) e
                      ∙ now (built_change.Builds n) shows in
                      let old = taken_from (known_before t w j).duties
                      (touched_by t.header slack (length w.steps) (act_at t w) (known_before t w) r six j x goes) since
                      (ap (λ (v : Unsent). v.acknowledge) (same_Some new u here) ∙ has) in
                      began_before t w j since (all.owed old.0 since old.1)
                  test false differs =
                      began_before t w j since
                      (all.brought q u since (sym (waiting_elsewhere q n (Some new) (known_before t w j).duties.unsent differs)
                      ∙ now (built_change.Builds n) shows) has)
              at (built_change.Sends n) shows = test (nat_eq q n) refl
                where
                  test : (b : Bool) → nat_eq q n ≡ b → Began t w (suc j) since
                  test true same =
                      let e : n ≡ q = grind (arith, nat_tests, same) in
                      absurd (none-some u (sym (waiting_here n None (known_before t w j).duties.unsent)
                      ∙ ap (λ (i : ℕ). waiting i (unsent_after
                      (view_by t.header slack (length w.steps) (act_at t w) (known_before t w) r six j x goes)
                      x.moment (known_before t w j).duties
                      (touched_by t.header slack (length w.steps) (act_at t w) (known_before t w) r six j x goes) (built_change.Sends n))) e
                      ∙ now (built_change.Sends n) shows))
                  test false differs =
                      began_before t w j since
                      (all.brought q u since (sym (waiting_elsewhere q n None (known_before t w j).duties.unsent differs)
                      ∙ now (built_change.Sends n) shows) has)

  pub ack_began : (to : ℕ) → to ≤ length w.steps → (me : EndpointId) (since : ℕ)
      → (strict_by (known_before t w to).duties me.host me.number).acknowledge ≡ Some since → Began t w to since
  ack_began to high me since is = (all_began to high).owed me since is
