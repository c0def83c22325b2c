-- An aborted connection is reset in time.
use Rattle.std.proofs.Common.{◌≡◌, ℕ, suc, ◌+◌, ◌≤◌, ◌⊎◌, inl, inr, Bool, true, false, List, length, Option, Some, None, refl, ap, sym}
use Rattle.std.proofs.Common.{◌∙◌, cond, nat_eq, arith}
use Rattle.std.proofs.lemmas.Bool.Decides.{nat_tests}
use Rattle.std.proofs.lemmas.Option.{none-some, same_Some}
use Rattle.std.specs.Map.{lookup}
use Rattle.std.specs.Prelude.{◌&&◌, if◌then◌else◌, unwrap_or}
use Rattle.std.specs.Option.{option_map_or, option_or}
use Rattle.indexmap.specs.IndexMap.{insert_entry}
use Rattle.case_forms.specs.States.{is_closed}
use Rattle.case_forms.specs.declared.calls.Host.{Host}
use Rattle.case_forms.specs.declared.calls.Host.TheVariants.{Zero, One}
use Rattle.case_forms.specs.declared.steps.Witness.{Witness}
use Rattle.case_forms.specs.declared.trace.Header.{Header}
use Rattle.case_forms.specs.declared.trace.Trace.{Trace}
use Rattle.verdict.specs.Rules.{first_broken}
use Rattle.interval_order.specs.Orders.{last_moment}
use Rattle.interval_order.specs.Placed.{Placed}
use Rattle.spec_network.specs.HostSteps.{after}
use Rattle.spec_network.specs.Hosts.{Stamped, World}
use Rattle.spec_network.specs.Tables.{Both, on, pick, with_host}
use Rattle.spec_network.proofs.Entries.{lookup_insert}
use Rattle.spec_tcp.specs.Machine.{tcp, tcp_shape}
use Rattle.spec_tcp.specs.declared.endpoint.EndpointId.{EndpointId}
use Rattle.spec_cases.specs.Cases.{Known, first_known}
use Rattle.spec_duties.specs.Deadlines.{is_late}
use Rattle.spec_duties.specs.End.{end_rules}
use Rattle.spec_duties.specs.Owed.{lates_of, lates_of_open, none_late, owed_after}
use Rattle.spec_duties.specs.Reset.{aborts, reset_since, sends_reset}
use Rattle.spec_duties.specs.Observations.{observe, view_in}
use Rattle.spec_duties.specs.Watching.{closed_at, counts_for, left, listener_closed, listening_after, listening_at, moved, moved_by}
use Rattle.spec_duties.specs.Watching.{owed_by, queued}
use Rattle.spec_duties.specs.declared.events.Event.{Event}
use Rattle.spec_duties.specs.declared.events.Event.TheVariants.{Calls, Sends}
use Rattle.spec_duties.specs.declared.owed.Owed.{Owed}
use Rattle.spec_duties.specs.declared.observations.Queueing.{Queueing}
use Rattle.spec_duties.specs.declared.observations.Queueing.TheVariants as queueing
use Rattle.spec_duties.specs.declared.observations.Observation.{Observation}
use Rattle.spec_duties.specs.declared.observations.TouchedEndpoint.{TouchedEndpoint}
use Rattle.spec_duties.specs.declared.tables.Listening.{Listening}
use Rattle.spec_duties.specs.declared.views.View.{View}
use Rattle.checker.specs.Seen.{moves}
use Rattle.kept_duties.specs.Happens.{act_at, known_before}
use Rattle.kept_duties.specs.Resets.{AbortsAreReset, SendsReset}
use Rattle.kept_duties.specs.Segments.{EndsBy}
use Rattle.kept_duties.specs.Soon.{HappensBy, IsDoneUnless}
use Rattle.kept_duties.proofs.Judged.{reset_same}
use Rattle.kept_duties.proofs.Inbox.{not_late}
use Rattle.kept_duties.proofs.Repeats.{happens_to, owes_of}
use Rattle.kept_duties.proofs.Runs.{Goes, Run, run_keeps, world_is}
use Rattle.kept_duties.proofs.Segments.{within}
use Rattle.kept_duties.proofs.Since.{Began, Wait, began_before, began_low, began_now, from_step, nothing_first}
use Rattle.kept_duties.proofs.Soon.{open_or_closed}
use Rattle.kept_duties.proofs.Touched.{Owes, Touches, seen, touched, touches_or_not}

-- ---- when a listener was closed

abbrev pub closed_in : List (ℕ × Listening) → (place : ℕ) → Option ℕ
closed_in table place = (listening_at table place).closed

-- an entry that keeps this, or sets it to now
inserted : (table : List (ℕ × Listening)) (l place : ℕ) (v : Listening) (moment since : ℕ)
    → (v.closed ≡ Some moment) ⊎ (v.closed ≡ closed_in table l)
    → closed_in (insert_entry nat_eq table l v) place ≡ Some since → (since ≡ moment) ⊎ (closed_in table place ≡ Some since)
inserted table l place v moment since keeps is = by (nat_eq place l) refl
    (sym (ap (λ (o : Option Listening). (unwrap_or o (record { children = 0; closed = None })).closed) (lookup_insert place l v table)) ∙ is)
  where
    at : place ≡ l → (v.closed ≡ Some moment) ⊎ (v.closed ≡ closed_in table l) → v.closed ≡ Some since
        → (since ≡ moment) ⊎ (closed_in table place ≡ Some since)
    at same (inl now) is = inl (same_Some since moment (sym is ∙ now))
    at same (inr old) is = inr (ap (closed_in table) same ∙ sym old ∙ is)

    by : (b : Bool) → nat_eq place l ≡ b
        → (unwrap_or (cond b (Some v) (lookup (nat_eq place) table)) (record { children = 0; closed = None })).closed ≡ Some since
        → (since ≡ moment) ⊎ (closed_in table place ≡ Some since)
    by true same is = at (grind (arith, nat_tests, same)) keeps is
    by false other is = inr is

moved_keeps : (before after : Option ℕ) (table : List (ℕ × Listening)) (place moment since : ℕ)
    → closed_in (moved before after table) place ≡ Some since → (since ≡ moment) ⊎ (closed_in table place ≡ Some since)
moved_keeps None None table place moment since is = inr is
moved_keeps None (Some l) table place moment since is = inserted table l place _ moment since (inr refl) is
moved_keeps (Some l) None table place moment since is = inserted table l place _ moment since (inr refl) is
moved_keeps (Some l) (Some m) table place moment since is = inr is

-- one host's table changes, or the other's
on_host : (both : Both (List (ℕ × Listening))) (g host : Host) (table : List (ℕ × Listening)) (place moment since : ℕ)
    → (closed_in table place ≡ Some since → (since ≡ moment) ⊎ (closed_in (pick both g) place ≡ Some since))
    → closed_in (pick (with_host both g table) host) place ≡ Some since → (since ≡ moment) ⊎ (closed_in (pick both host) place ≡ Some since)
on_host both Zero Zero table place moment since keeps is = keeps is
on_host both Zero One table place moment since keeps is = inr is
on_host both One Zero table place moment since keeps is = inr is
on_host both One One table place moment since keeps is = keeps is

moved_both : (after : View) (o : Option TouchedEndpoint) (both : Both (List (ℕ × Listening))) (host : Host) (place moment since : ℕ)
    → closed_in (pick (on o both (moved_by after both)) host) place ≡ Some since → (since ≡ moment) ⊎ (closed_in (pick both host) place ≡ Some since)
moved_both after None both host place moment since is = inr is
moved_both after (Some t) both host place moment since is =
    on_host both t.host host (moved (counts_for t.before) (counts_for after) (pick both t.host)) place moment since
    (moved_keeps (counts_for t.before) (counts_for after) (pick both t.host) place moment since) is

queued_keeps : (q : Queueing) (both : Both (List (ℕ × Listening))) (host : Host) (place moment since : ℕ)
    → closed_in (pick (queued moment q both) host) place ≡ Some since → (since ≡ moment) ⊎ (closed_in (pick both host) place ≡ Some since)
queued_keeps queueing.Nothing both host place moment since is = inr is
queued_keeps (queueing.Accepts g l) both host place moment since is =
    on_host both g host (left (pick both g) l) place moment since (inserted (pick both g) l place _ moment since (inr refl)) is
queued_keeps (queueing.Closes g l) both host place moment since is =
    on_host both g host (closed_at moment (pick both g) l) place moment since (inserted (pick both g) l place _ moment since (inl refl)) is

listening_keeps : (after : View) (s : Observation) (both : Both (List (ℕ × Listening))) (host : Host) (place moment since : ℕ)
    → closed_in (pick (listening_after after moment s both) host) place ≡ Some since → (since ≡ moment) ⊎ (closed_in (pick both host) place ≡ Some since)
listening_keeps after s both host place moment since is =
    by (queued_keeps s.queueing (on s.touched both (moved_by after both)) host place moment since is)
  where
    by : (since ≡ moment) ⊎ (closed_in (pick (on s.touched both (moved_by after both)) host) place ≡ Some since)
        → (since ≡ moment) ⊎ (closed_in (pick both host) place ≡ Some since)
    by (inl now) = inl now
    by (inr old) = moved_both after s.touched both host place moment since old

none_first : (h : Header) (host : Host) (place : ℕ) → closed_in (pick (first_known h).duties.listening host) place ≡ None
none_first h Zero place = refl
none_first h One place = refl

-- ---- the duty

pub reset_is : (event : Event) (before after : View) (moment : ℕ) (listener : Option ℕ) (counts : Bool) (o : Owed)
    → (owed_after event before after moment listener counts o).reset
    ≡ (if sends_reset event then None else option_or (reset_since before listener o.reset) (if aborts event after then Some moment else None))
reset_is event before after moment listener counts o =
    open_or_closed (λ n. n.reset ≡ (if sends_reset event then None
    else option_or (reset_since before listener o.reset) (if aborts event after then Some moment else None))) event before after moment listener counts o
    (λ closed. refl) refl

-- since when it is owed: the moment of an act, or that at which the listener was closed
reset_back : (event : Event) (before after : View) (moment : ℕ) (listener : Option ℕ) (counts : Bool) (o : Owed) (since : ℕ)
    → (owed_after event before after moment listener counts o).reset ≡ Some since → (since ≡ moment) ⊎ (listener ≡ Some since) ⊎ (o.reset ≡ Some since)
reset_back event before after moment listener counts o since is =
    by (sends_reset event) (aborts event after) before.resets o.reset (sym (reset_is event before after moment listener counts o) ∙ is)
  where
    listens : (l : Option ℕ) (b : Bool) → option_or l (if b then Some moment else None) ≡ Some since → (since ≡ moment) ⊎ (l ≡ Some since)
    listens None true is = inl (sym (same_Some moment since is))
    listens None false is = absurd (none-some since is)
    listens (Some m) b is = inr is

    by : (a b c : Bool) (old : Option ℕ)
        → (if a then None else option_or (option_or old (if c then listener else None)) (if b then Some moment else None)) ≡ Some since
        → (since ≡ moment) ⊎ (listener ≡ Some since) ⊎ (old ≡ Some since)
    by true b c old is = absurd (none-some since is)
    by false b c (Some m) is = inr (inr is)
    by false true false None is = inl (sym (same_Some moment since is))
    by false false false None is = absurd (none-some since is)
    by false b true None is = third (listens listener b is)
      where
        third : (since ≡ moment) ⊎ (listener ≡ Some since) → (since ≡ moment) ⊎ (listener ≡ Some since) ⊎ (None ≡ Some since)
        third (inl now) = inl now
        third (inr l) = inr (inl l)

pub sends_from : (event : Event) (before after : View) → sends_reset event ≡ true → SendsReset event before after
sends_from (Sends s) before after is = is
sends_from event before after is = absurd cc

pub late_reset : (slack moment : ℕ) (v : View) (listener : Option ℕ) (o : Owed)
    → (lates_of slack moment v listener o).reset ≡ is_late slack moment (reset_since v listener o.reset)
late_reset slack moment v listener o = by (is_closed v.state)
  where
    by : (c : Bool)
        → (if c then none_late (is_late slack moment (reset_since v listener o.reset))
        else lates_of_open slack moment v o (is_late slack moment (reset_since v listener o.reset))).reset
        ≡ is_late slack moment (reset_since v listener o.reset)
    by true = refl
    by false = refl

pub reset_wait : (since by slack : ℕ) → since + slack ≤ by → Wait (λ o. o.reset ≡ Some since) SendsReset (λ v. false) (λ l. l.reset) slack by
reset_wait since by slack low = record { onward = onward'; rules = λ l all. all.1.1.1.1.1.0; either = λ a b. refl; fine = fine }
  where
    onward' : (event : Event) (before after : View) (moment : ℕ) (listener : Option ℕ) (counts : Bool) (o : Owed) → false ≡ false → o.reset ≡ Some since
        → SendsReset event before after ⊎ (false ≡ true) ⊎ ((owed_after event before after moment listener counts o).reset ≡ Some since)
    onward' event before after moment listener counts o same is = test (sends_reset event) refl
      where
        test : (b : Bool) → sends_reset event ≡ b
            → SendsReset event before after ⊎ (false ≡ true) ⊎ ((owed_after event before after moment listener counts o).reset ≡ Some since)
        test true sends = inl (sends_from event before after sends)
        test false none =
            inr (inr (reset_is event before after moment listener counts o
            ∙ ap (λ (b : Bool). if b then None else option_or (reset_since before listener o.reset) (if aborts event after then Some moment else None)) none
            ∙ ap (λ (q : Option ℕ). option_or (reset_since before listener q) (if aborts event after then Some moment else None)) is))

    fine : (moment : ℕ) (v : View) (listener : Option ℕ) (o : Owed) → (lates_of slack moment v listener o).reset ≡ false → false ≡ false
        → o.reset ≡ Some since → moment ≤ by
    fine moment v listener o none same is =
        let le = not_late slack since moment (reset_since v listener o.reset) (ap (λ (q : Option ℕ). reset_since v listener q) is)
        (sym (late_reset slack moment v listener o) ∙ none) in
        omega (arith, le, low)

module _ (t : Trace) (w : Witness) (slack : ℕ) (r : Run t.header slack (length w.steps) (act_at t w) (known_before t w))
    (placed : Placed t.header t.lines (moves w.steps)) where
  -- ---- it began by the step

  abbrev pub ListenersBegan : ℕ → Known → Type 0
  ListenersBegan j k = (host : Host) (place since : ℕ) → closed_in (pick k.duties.listening host) place ≡ Some since → Began t w j since

  abbrev pub ResetBegan : EndpointId → ℕ → Known → Type 0
  ResetBegan me j k = (since : ℕ) → (owed_by k.duties me.host me.number).reset ≡ Some since → Began t w j since

  pub began_at : (me : EndpointId) (to : ℕ) → to ≤ length w.steps → ListenersBegan to (known_before t w to) × ResetBegan me to (known_before t w to)
  began_at me to high =
      run_keeps t.header slack (length w.steps) (act_at t w) (known_before t w) r (λ j k. ListenersBegan j k × ResetBegan me j k)
      (λ j k all. (λ host place since is. began_before t w j since (all.0 host place since is), λ since is. began_before t w j since (all.1 since is)))
      0 to (omega arith) high (
        λ host place since is. absurd (none-some since (sym (ap (λ (k : Known). closed_in (pick k.duties.listening host) place) r.start
            ∙ none_first t.header host place) ∙ is)),
        λ since is. absurd (none-some since (sym (ap (λ (k : Known). (owed_by k.duties me.host me.number).reset) r.start
            ∙ ap (λ (o : Owed). o.reset) (nothing_first t.header me.host me.number)) ∙ is)),
      )
      (λ j x low less is goes all. (
        λ host place since now. listens j x is goes all.0 host place since now,
        λ since now. next j x is all since now (touches_or_not t.header slack (known_before t w j) (known_before t w (suc j)) x me goes),
      ))
    where
      listens : (j : ℕ) (x : Stamped tcp_shape) → act_at t w j ≡ Some x → Goes t.header slack (known_before t w j) (known_before t w (suc j)) x
          → ListenersBegan j (known_before t w j) → ListenersBegan (suc j) (known_before t w (suc j))
      listens j x is goes all host place since now =
          let s = observe t.header x.moment (known_before t w j).model x.step in
          by (listening_keeps (view_in (after (tcp t.header) x.moment (known_before t w j).model x.step) s.touched) s (known_before t w j).duties.listening host
          place x.moment since (sym (ap (λ (both : Both (List (ℕ × Listening))). closed_in (pick both host) place) goes.listening) ∙ now))
        where
          by : (since ≡ x.moment) ⊎ (closed_in (pick (known_before t w j).duties.listening host) place ≡ Some since) → Began t w (suc j) since
          by (inl here) = began_now t w j x is since here
          by (inr old) = began_before t w j since (all host place since old)

      next : (j : ℕ) (x : Stamped tcp_shape) → act_at t w j ≡ Some x → ListenersBegan j (known_before t w j) × ResetBegan me j (known_before t w j)
          → (since : ℕ) → (owed_by (known_before t w (suc j)).duties me.host me.number).reset ≡ Some since
          → Touches t.header (known_before t w j) x me
          ⊎ ((owed_by (known_before t w (suc j)).duties me.host me.number ≡ owed_by (known_before t w j).duties me.host me.number)
          × ((event : Event) → (observe t.header x.moment (known_before t w j).model x.step).touched ≡ Some (touched (known_before t w j).model me event) → ⊥))
          → Began t w (suc j) since
      next j x is all since now (inr same) = began_before t w j since (all.1 since (sym (ap (λ (o : Owed). o.reset) same.0) ∙ now))
      next j x is all since now (inl at) =
          let owes = owes_of t w slack r j x me at.event is at.shows in
          by owes.listens (reset_back at.event (seen (known_before t w j).model me) (seen (known_before t w (suc j)).model me) x.moment
          owes.listener owes.counts
          (owed_by (known_before t w j).duties me.host me.number) since (sym (ap (λ (o : Owed). o.reset) owes.rest) ∙ now))
        where
          -- the listener that created the endpoint
          of : (l : Option ℕ) → option_map_or (λ l. closed_in (pick (known_before t w j).duties.listening me.host) l) l None ≡ Some since
              → Began t w (suc j) since
          of None closed = absurd (none-some since closed)
          of (Some l) closed = began_before t w j since (all.0 me.host l since closed)

          by : {listener : Option ℕ} → listener ≡ listener_closed (known_before t w j).duties me.host (seen (known_before t w j).model me)
              → (since ≡ x.moment) ⊎ (listener ≡ Some since) ⊎ ((owed_by (known_before t w j).duties me.host me.number).reset ≡ Some since)
              → Began t w (suc j) since
          by is' (inl here) = began_now t w j x is since here
          by is' (inr (inl closed)) = of (seen (known_before t w j).model me).listener (sym is' ∙ closed)
          by is' (inr (inr old)) = began_before t w j since (all.1 since old)

  -- ---- from the step on

  pub aborts_reset : first_broken (end_rules t.header slack (last_moment (moves w.steps)) (known_before t w (length w.steps)).duties
      (known_before t w (length w.steps)).model) ≡ None → AbortsAreReset t w slack
  aborts_reset late place moment me a resets = done (from_then owed.0 (ap (λ (o : Owed). o.reset) owes.rest ∙ owed.1))
    where
      before : View
      before = seen (known_before t w place).model me

      after' : View
      after' = seen (known_before t w (suc place)).model me

      o : Owed
      o = owed_by (known_before t w place).duties me.host me.number

      owes : Owes t.header slack (known_before t w place) (known_before t w (suc place)) a.act me (Calls true)
      owes = owes_of t w slack r place a.act me (Calls true) a.is (happens_to t w place moment me (Calls true) a)

      resets_now : after'.resets ≡ true
      resets_now = ap (λ (v : World tcp_shape). (seen v me).resets) (world_is t w (suc place)) ∙ resets

      since_or : (q : Option ℕ) → (since : ℕ) × (option_or q (Some a.act.moment) ≡ Some since)
      since_or None = (a.act.moment, refl)
      since_or (Some m) = (m, refl)

      owed : (since : ℕ) × ((owed_after (Calls true) before after' a.act.moment owes.listener owes.counts o).reset ≡ Some since)
      owed =
          let s = since_or (reset_since before owes.listener o.reset) in (
            s.0,
            reset_is (Calls true) before after' a.act.moment owes.listener owes.counts o
                ∙ ap (λ (b : Bool). option_or (reset_since before owes.listener o.reset) (if true && b then Some a.act.moment else None)) resets_now
                ∙ s.1,
          )

      from_then : (since : ℕ) → (owed_by (known_before t w (suc place)).duties me.host me.number).reset ≡ Some since
          → IsDoneUnless t w place (moment + slack) me SendsReset (λ v. false)
      from_then since now =
          let low = within t w place a.act a.is in
          let old = began_low t w placed place a.act a.is since ((began_at me (suc place) low).1 since now) in
          let time = a.time in
          from_step t w slack r placed me (λ o. o.reset ≡ Some since) SendsReset (λ v. false) (λ l. l.reset) place (moment + slack)
          (reset_wait since (moment + slack) slack (omega (arith, old, time))) (reset_same t.header slack)
          (λ is like plain rest owes. ap (λ (o : Owed). o.reset) rest ∙ owes) late moment (Calls true) a refl now

      done : IsDoneUnless t w place (moment + slack) me SendsReset (λ v. false) → HappensBy t w place (moment + slack) me SendsReset ⊎ EndsBy w (moment + slack)
      done (inl sends) = inl sends
      done (inr (inl none)) = absurd (let e : false ≡ true = none.after in cc e)
      done (inr (inr ends)) = inr ends
