-- A child of a listener that was closed is reset in time.
use Rattle.std.proofs.Common.{◌≡◌, ℕ, suc, ◌+◌, ◌<◌, ◌≤◌, ◌⊎◌, inl, inr, Bool, true, false, List, length, Option, Some, None, refl, ap, sym, subst, ◌∙◌}
use Rattle.std.proofs.Common.{cond, nat_eq, arith}
use Rattle.std.proofs.lemmas.Bool.Decides.{nat_tests}
use Rattle.std.proofs.lemmas.Option.{same_Some}
use Rattle.std.specs.Map.{lookup}
use Rattle.std.specs.Prelude.{◌==◌, if◌then◌else◌, unwrap_or}
use Rattle.std.specs.Option.{option_map_or, option_or}
use Rattle.indexmap.specs.IndexMap.{insert_entry}
use Rattle.case_forms.specs.declared.calls.Host.{Host}
use Rattle.case_forms.specs.declared.calls.Host.TheVariants.{Zero, One}
use Rattle.case_forms.specs.declared.steps.Witness.{Witness}
use Rattle.case_forms.specs.declared.trace.Trace.{Trace}
use Rattle.verdict.specs.Rules.{first_broken}
use Rattle.verdict.proofs.RuleLemmas.{none_all}
use Rattle.interval_order.specs.Orders.{last_moment}
use Rattle.interval_order.specs.Placed.{Placed}
use Rattle.spec_network.specs.HostSteps.{after}
use Rattle.spec_network.specs.Hosts.{Stamped, World}
use Rattle.spec_network.specs.Tables.{Both, on, pick, with_host}
use Rattle.spec_network.proofs.Entries.{lookup_insert}
use Rattle.spec_tcp.specs.Machine.{tcp, tcp_shape}
use Rattle.spec_tcp.specs.declared.endpoint.Endpoint.{Endpoint}
use Rattle.spec_tcp.specs.declared.endpoint.EndpointId.{EndpointId}
use Rattle.spec_tcp_laws.specs.Consequences.{find}
use Rattle.spec_tcp_laws.proofs.Rules.{both_true, map_or_true, number_same}
use Rattle.spec_tcp_laws.proofs.Runs.{later_step}
use Rattle.spec_cases.specs.Cases.{Known}
use Rattle.spec_duties.specs.End.{end_rules}
use Rattle.spec_duties.specs.Reset.{aborts, reset_since, sends_reset}
use Rattle.spec_duties.specs.Observations.{observe, view_in}
use Rattle.spec_duties.specs.Views.{unborn, view_of}
use Rattle.spec_duties.specs.Watching.{Duties, closed_at, counts_for, left, listener_closed, moved, moved_by, owed_by, queued}
use Rattle.spec_duties.specs.declared.events.Event.{Event}
use Rattle.spec_duties.specs.declared.owed.Owed.{Owed}
use Rattle.spec_duties.specs.declared.observations.Queueing.{Queueing}
use Rattle.spec_duties.specs.declared.observations.Queueing.TheVariants as queueing
use Rattle.spec_duties.specs.declared.observations.Observation.{Observation}
use Rattle.spec_duties.specs.declared.observations.TouchedEndpoint.{TouchedEndpoint}
use Rattle.spec_duties.specs.declared.tables.Listening.{Listening}
use Rattle.spec_duties.specs.declared.views.View.{View}
use Rattle.checker.specs.Seen.{moves}
use Rattle.kept_duties.specs.Happens.{act_at, known_before, seen_before}
use Rattle.kept_duties.specs.Resets.{ChildrenAreReset, ClosesListener, EndsQuietly, SendsReset, awaits_reset}
use Rattle.kept_duties.specs.Segments.{EndsBy}
use Rattle.kept_duties.specs.Soon.{HappensBy, IsDoneUnless}
use Rattle.kept_duties.proofs.Judged.{reset_same}
use Rattle.kept_duties.proofs.Inbox.{not_late}
use Rattle.kept_duties.proofs.Repeats.{goes_of, happens_from, happens_to, owes_of}
use Rattle.kept_duties.proofs.Resets.{began_at, closed_in, late_reset, reset_is, reset_wait, sends_from}
use Rattle.kept_duties.proofs.Runs.{Goes, Run, run_keeps, world_is}
use Rattle.kept_duties.proofs.Segments.{within}
use Rattle.kept_duties.proofs.Since.{began_low, from_step, sel_all, steady_at}
use Rattle.kept_duties.proofs.Touched.{Owes, Touches, lates_plain, seen, touched, touches_or_not}

-- ---- a listener stays closed

kept_inserted : (table : List (ℕ × Listening)) (l place : ℕ) (v : Listening) (since : ℕ) → (v.closed ≡ closed_in table l) ⊎ (place ≡ l → ⊥)
    → closed_in table place ≡ Some since → closed_in (insert_entry nat_eq table l v) place ≡ Some since
kept_inserted table l place v since keeps is =
    ap (λ (o : Option Listening). (unwrap_or o (record { children = 0; closed = None })).closed) (lookup_insert place l v table) ∙ by (nat_eq place l) refl
  where
    at : place ≡ l → (v.closed ≡ closed_in table l) ⊎ (place ≡ l → ⊥) → v.closed ≡ Some since
    at same (inl old) = old ∙ ap (closed_in table) (sym same) ∙ is
    at same (inr other) = absurd (other same)

    by : (b : Bool) → nat_eq place l ≡ b
        → (unwrap_or (cond b (Some v) (lookup (nat_eq place) table)) (record { children = 0; closed = None })).closed ≡ Some since
    by true same = at (grind (arith, nat_tests, same)) keeps
    by false other = is

kept_moved : (before after : Option ℕ) (table : List (ℕ × Listening)) (place since : ℕ) → closed_in table place ≡ Some since
    → closed_in (moved before after table) place ≡ Some since
kept_moved None None table place since is = is
kept_moved None (Some l) table place since is = kept_inserted table l place _ since (inl refl) is
kept_moved (Some l) None table place since is = kept_inserted table l place _ since (inl refl) is
kept_moved (Some l) (Some m) table place since is = is

kept_host : (both : Both (List (ℕ × Listening))) (g host : Host) (table : List (ℕ × Listening)) (place since : ℕ)
    → (closed_in (pick both g) place ≡ Some since → closed_in table place ≡ Some since)
    → closed_in (pick both host) place ≡ Some since → closed_in (pick (with_host both g table) host) place ≡ Some since
kept_host both Zero Zero table place since keeps is = keeps is
kept_host both Zero One table place since keeps is = is
kept_host both One Zero table place since keeps is = is
kept_host both One One table place since keeps is = keeps is

kept_both : (after : View) (o : Option TouchedEndpoint) (both : Both (List (ℕ × Listening))) (host : Host) (place since : ℕ)
    → closed_in (pick both host) place ≡ Some since → closed_in (pick (on o both (moved_by after both)) host) place ≡ Some since
kept_both after None both host place since is = is
kept_both after (Some t) both host place since is =
    kept_host both t.host host (moved (counts_for t.before) (counts_for after) (pick both t.host)) place since
    (kept_moved (counts_for t.before) (counts_for after) (pick both t.host) place since) is

kept_closes : (both : Both (List (ℕ × Listening))) (g host : Host) (l place moment since : ℕ) → (queueing.Closes g l ≡ queueing.Closes host place → ⊥)
    → closed_in (pick both host) place ≡ Some since
    → closed_in (pick (with_host both g (closed_at moment (pick both g) l)) host) place ≡ Some since
kept_closes both Zero Zero l place moment since other is =
    kept_inserted both.zero l place _ since (inr (λ same. other (ap (λ (n : ℕ). queueing.Closes Zero n) (sym same)))) is
kept_closes both Zero One l place moment since other is = is
kept_closes both One Zero l place moment since other is = is
kept_closes both One One l place moment since other is =
    kept_inserted both.one l place _ since (inr (λ same. other (ap (λ (n : ℕ). queueing.Closes One n) (sym same)))) is

kept_queued : (q : Queueing) (both : Both (List (ℕ × Listening))) (host : Host) (place moment since : ℕ) → (q ≡ queueing.Closes host place → ⊥)
    → closed_in (pick both host) place ≡ Some since → closed_in (pick (queued moment q both) host) place ≡ Some since
kept_queued queueing.Nothing both host place moment since other is = is
kept_queued (queueing.Accepts g l) both host place moment since other is =
    kept_host both g host (left (pick both g) l) place since (kept_inserted (pick both g) l place _ since (inl refl)) is
kept_queued (queueing.Closes g l) both host place moment since other is = kept_closes both g host l place moment since other is

-- it is closed now
closed_here : (both : Both (List (ℕ × Listening))) (host : Host) (l moment : ℕ)
    → closed_in (pick (queued moment (queueing.Closes host l) both) host) l ≡ Some moment
closed_here both host l moment = by host
  where
    entry : (table : List (ℕ × Listening)) → closed_in (closed_at moment table l) l ≡ Some moment
    entry table =
        let self : nat_eq l l ≡ true = grind (arith, nat_tests) in
        ap (λ (o : Option Listening). (unwrap_or o (record { children = 0; closed = None })).closed) (lookup_insert l l _ table)
        ∙ ap (λ (b : Bool). (unwrap_or (cond b (Some (let v : Listening = record {
          children = (unwrap_or (lookup (nat_eq l) table)
              (record { children = 0; closed = None })).children;
          closed = Some moment;
        } in v)) (lookup (nat_eq l) table))
        (record { children = 0; closed = None })).closed) self

    by : (host : Host) → closed_in (pick (queued moment (queueing.Closes host l) both) host) l ≡ Some moment
    by Zero = entry both.zero
    by One = entry both.one

-- ---- the child

-- what it means that a child has to be reset
awaits_parts : (l : ℕ) (v : View) → awaits_reset l v ≡ true → (v.resets ≡ true) × (v.listener ≡ Some l)
awaits_parts l v is =
    let both = both_true v.resets (option_map_or (λ n. n == l) v.listener false) is in
    let found = map_or_true v.listener (λ n. n == l) both.1 in
    (both.0, found.1 ∙ ap (λ (n : ℕ). Some n) (number_same found.0 l found.2))

-- since when its reset is owed
owed_since : (d : Duties) (host : Host) (l moment : ℕ) (v : View) (o : Option ℕ) → awaits_reset l v ≡ true
    → closed_in (pick d.listening host) l ≡ Some moment → ((since : ℕ) → o ≡ Some since → since ≤ moment)
    → (since : ℕ) × (reset_since v (listener_closed d host v) o ≡ Some since) × (since ≤ moment)
owed_since d host l moment v (Some since) awaits closed low = (since, refl, low since refl)
owed_since d host l moment v None awaits closed low =
    let parts = awaits_parts l v awaits in (
      moment,
      ap (λ (b : Bool). if b then listener_closed d host v else None) parts.0
          ∙ ap (λ (n : Option ℕ). option_map_or (λ l. closed_in (pick d.listening host) l) n None) parts.1
          ∙ closed,
      omega arith,
    )

module _ (t : Trace) (w : Witness) (slack : ℕ) (r : Run t.header slack (length w.steps) (act_at t w) (known_before t w))
    (placed : Placed t.header t.lines (moves w.steps))
    (late : first_broken (end_rules t.header slack (last_moment (moves w.steps)) (known_before t w (length w.steps)).duties
    (known_before t w (length w.steps)).model) ≡ None)
    (place moment l : ℕ) (me : EndpointId) (c : ClosesListener t w place moment me.host l)
    (once : (later now : ℕ) → place < later → ClosesListener t w later now me.host l → ⊥) where
  abbrev Reset : Type 0
  Reset = HappensBy t w place (moment + slack) me SendsReset ⊎ EndsQuietly t w place me (awaits_reset l) ⊎ EndsBy w (moment + slack)

  -- nothing was done at the child yet
  record Pending (k : Known) : Type 0 where
    closed : closed_in (pick k.duties.listening me.host) l ≡ Some moment
    low : (since : ℕ) → (owed_by k.duties me.host me.number).reset ≡ Some since → since ≤ moment
    awaits : awaits_reset l (seen k.model me) ≡ true
    there : (e : Endpoint) × (find k.model.hosts me ≡ Some e)

  abbrev Goes_on : Known → Type 0
  Goes_on k = Reset ⊎ Pending k

  next : (j : ℕ) (y : Stamped tcp_shape) → suc place ≤ j → j < length w.steps → act_at t w j ≡ Some y
      → Goes t.header slack (known_before t w j) (known_before t w (suc j)) y → Goes_on (known_before t w j) → Goes_on (known_before t w (suc j))
  next j y behind less at goes (inl done) = inl done
  next j y behind less at goes (inr pending) = by (touches_or_not t.header slack (known_before t w j) (known_before t w (suc j)) y me goes)
    where
      k : Known
      k = known_before t w j

      s : Observation
      s = observe t.header y.moment (known_before t w j).model y.step

      not_again : s.queueing ≡ queueing.Closes me.host l → ⊥
      not_again is = once j y.moment (omega (arith, behind)) (record {
        act = y;
        is = at;
        time = refl;
        closes = subst (λ (v : World tcp_shape). (observe t.header y.moment v y.step).queueing ≡ queueing.Closes me.host l) (world_is t w j) is;
      })

      still : ((event : Event) → s.touched ≡ Some (touched (known_before t w j).model me event) → ⊥)
          → owed_by (known_before t w (suc j)).duties me.host me.number ≡ owed_by (known_before t w j).duties me.host me.number
          → (b : Bool) → awaits_reset l (seen (known_before t w (suc j)).model me) ≡ b → Goes_on (known_before t w (suc j))
      still quiet same false ends = inl (inr (inl (record {
        later = j;
        behind = omega (arith, behind);
        before = ap (λ (v : World tcp_shape). awaits_reset l (seen v me)) (sym (world_is t w j)) ∙ pending.awaits;
        after = ap (λ (v : World tcp_shape). awaits_reset l (seen v me)) (sym (world_is t w (suc j))) ∙ ends;
        quiet = λ now event a.
            quiet event (subst (λ (z : Stamped tcp_shape). (observe t.header z.moment (known_before t w j).model z.step).touched
            ≡ Some (touched (known_before t w j).model me event)) (same_Some a.act y (sym a.is ∙ at)) (happens_to t w j now me event a));
      })))
      still quiet same true awaits =
          let v = view_in (after (tcp t.header) y.moment (known_before t w j).model y.step) s.touched in
          let both = (known_before t w j).duties.listening in
          let f = later_step t.header y.moment (known_before t w j).model y.step
          (steady_at t w slack r placed j (omega (arith, less))) goes.permitted me pending.there.0 pending.there.1 in
          inr (record {
            closed =
                ap (λ (both : Both (List (ℕ × Listening))). closed_in (pick both me.host) l) goes.listening
                ∙ kept_queued s.queueing (on s.touched both (moved_by v both)) me.host l y.moment moment not_again
                (kept_both v s.touched both me.host l moment pending.closed);
            low = λ since is. pending.low since (sym (ap (λ (o : Owed). o.reset) same) ∙ is);
            awaits = awaits;
            there = (f.0, ap (λ (v : World tcp_shape). find v.hosts me) goes.model ∙ f.1);
          })

      by : Touches t.header (known_before t w j) y me
          ⊎ ((owed_by (known_before t w (suc j)).duties me.host me.number ≡ owed_by (known_before t w j).duties me.host me.number)
          × ((event : Event) → s.touched ≡ Some (touched (known_before t w j).model me event) → ⊥))
          → Goes_on (known_before t w (suc j))
      by (inr same) = still same.1 same.0 (awaits_reset l (seen (known_before t w (suc j)).model me)) refl
      by (inl touch) = inl (test (sends_reset touch.event) refl)
        where
          before : View
          before = seen (known_before t w j).model me

          after' : View
          after' = seen (known_before t w (suc j)).model me

          o : Owed
          o = owed_by (known_before t w j).duties me.host me.number

          owes : Owes t.header slack (known_before t w j) (known_before t w (suc j)) y me touch.event
          owes = owes_of t w slack r j y me touch.event at touch.shows

          since : (since : ℕ) × (reset_since (seen (known_before t w j).model me) (listener_closed (known_before t w j).duties me.host
              (seen (known_before t w j).model me)) (owed_by (known_before t w j).duties me.host me.number).reset ≡ Some since) × (since ≤ moment)
          since = owed_since (known_before t w j).duties me.host l moment before o.reset pending.awaits pending.closed pending.low

          since_is : reset_since before owes.listener o.reset ≡ Some since.0
          since_is = ap (λ (n : Option ℕ). reset_since before n o.reset) owes.listens ∙ since.1

          soon : y.moment ≤ moment + slack
          soon =
              let le = not_late slack since.0 y.moment (reset_since before owes.listener o.reset) since_is
              (sym (late_reset slack y.moment before owes.listener o)
              ∙ lates_plain (λ l. l.reset) t.header slack (known_before t w j) (known_before t w (suc j)) y me touch.event owes
              (reset_same t.header slack) owes.lates.1.1.1.1.1.0) in
              let old = since.2 in
              omega (arith, le, old)

          later : IsDoneUnless t w j (moment + slack) me SendsReset (λ v. false) → Reset
          later (inl h) = inl (record {
            later = h.later;
            moment = h.moment;
            event = h.event;
            behind = (let after_it = h.behind in omega (arith, behind, after_it));
            happens = h.happens;
            kind = h.kind;
            soon = h.soon;
          })
          later (inr (inl none)) = absurd (let e : false ≡ true = none.after in cc e)
          later (inr (inr ends)) = inr (inr ends)

          test : (b : Bool) → sends_reset touch.event ≡ b → Reset
          test true sends = inl (record {
            later = j;
            moment = y.moment;
            event = touch.event;
            behind = omega (arith, behind);
            happens = happens_from t w j y me touch.event at touch.shows;
            kind = sends_from touch.event (seen_before t w j me) (seen_before t w (suc j) me) sends;
            soon = soon;
          })
          test false none =
              let old = since.2 in
              later (from_step t w slack r placed me (λ o. o.reset ≡ Some since.0) SendsReset (λ v. false) (λ l. l.reset) j (moment + slack)
              (reset_wait since.0 (moment + slack) slack (omega (arith, old))) (reset_same t.header slack)
              (λ is like plain rest owes. ap (λ (o : Owed). o.reset) rest ∙ owes) late y.moment touch.event
              (happens_from t w j y me touch.event at touch.shows) refl
              (ap (λ (o : Owed). o.reset) owes.rest
              ∙ reset_is touch.event before after' y.moment owes.listener owes.counts o
              ∙ ap (λ (b : Bool). if b then None
              else option_or (reset_since before owes.listener o.reset) (if aborts touch.event after' then Some y.moment else None)) none
              ∙ ap (λ (n : Option ℕ). option_or n (if aborts touch.event after' then Some y.moment else None)) since_is))

  -- after the step that closes the listener
  begins : awaits_reset l (seen_before t w (suc place) me) ≡ true → Pending (known_before t w (suc place))
  begins awaits = record {
    closed =
        ap (λ (both : Both (List (ℕ × Listening))). closed_in (pick both me.host) l) goes.listening
        ∙ ap (λ (q : Queueing). closed_in (pick (queued c.act.moment q (on s.touched both (moved_by v both))) me.host) l) closes
        ∙ closed_here (on s.touched both (moved_by v both)) me.host l c.act.moment
        ∙ ap (λ (m : ℕ). Some m) c.time;
    low = λ since is.
        subst (λ (m : ℕ). since ≤ m) c.time
        (began_low t w placed place c.act c.is since ((began_at t w slack r placed me (suc place) (within t w place c.act c.is)).1 since is));
    awaits = now;
    there = there (find (known_before t w (suc place)).model.hosts me) refl;
  }
    where
      goes : Goes t.header slack (known_before t w place) (known_before t w (suc place)) c.act
      goes = goes_of t w slack r place c.act c.is

      s : Observation
      s = observe t.header c.act.moment (known_before t w place).model c.act.step

      v : View
      v = view_in (after (tcp t.header) c.act.moment (known_before t w place).model c.act.step) s.touched

      both : Both (List (ℕ × Listening))
      both = (known_before t w place).duties.listening

      closes : s.queueing ≡ queueing.Closes me.host l
      closes =
          subst (λ (v : World tcp_shape). (observe t.header c.act.moment v c.act.step).queueing ≡ queueing.Closes me.host l) (sym (world_is t w place)) c.closes

      now : awaits_reset l (seen (known_before t w (suc place)).model me) ≡ true
      now = ap (λ (v : World tcp_shape). awaits_reset l (seen v me)) (world_is t w (suc place)) ∙ awaits

      there : (o : Option Endpoint) → find (known_before t w (suc place)).model.hosts me ≡ o
          → (e : Endpoint) × (find (known_before t w (suc place)).model.hosts me ≡ Some e)
      there (Some e) is = (e, is)
      there None is =
          let none : false ≡ true = sym (ap (λ (o : Option Endpoint). awaits_reset l (option_map_or view_of o unborn)) is) ∙ now in
          absurd (cc none)

  pub child_reset : awaits_reset l (seen_before t w (suc place) me) ≡ true → Reset
  child_reset awaits =
      at_end (run_keeps t.header slack (length w.steps) (act_at t w) (known_before t w) r (λ j k. Goes_on k) (λ j k p. p) (suc place) (length w.steps)
      (let low = within t w place c.act c.is in omega (arith, low)) (omega arith) (inr (begins awaits)) next)
    where
      at_end : Goes_on (known_before t w (length w.steps)) → Reset
      at_end (inl done) = done
      at_end (inr pending) =
          let last = last_moment (moves w.steps) in
          let k = known_before t w (length w.steps) in
          let e = pending.there in
          let o = owed_by k.duties me.host me.number in
          let none = (none_all (end_rules t.header slack last k.duties k.model) late).1.1.1.1.1.1.1.0 in
          let here = sym (reset_same t.header slack last k.duties None me.host me.number (view_of e.0))
          ∙ sel_all (λ l. l.reset) (λ a b. refl) t.header slack last k.duties k.model none me e.0 e.1 in
          let awaits : awaits_reset l (view_of e.0) ≡ true =
          sym (ap (λ (o : Option Endpoint). awaits_reset l (option_map_or view_of o unborn)) e.1) ∙ pending.awaits in
          let since = owed_since k.duties me.host l moment (view_of e.0) o.reset awaits pending.closed pending.low in
          let le = not_late slack since.0 last (reset_since (view_of e.0) (listener_closed k.duties me.host (view_of e.0)) o.reset) since.1
          (sym (late_reset slack last (view_of e.0) (listener_closed k.duties me.host (view_of e.0)) o) ∙ here) in
          let old = since.2 in
          inr (inr (omega (arith, le, old)))

pub children_reset : (t : Trace) (w : Witness) (slack : ℕ) (r : Run t.header slack (length w.steps) (act_at t w) (known_before t w))
    (placed : Placed t.header t.lines (moves w.steps))
    → first_broken (end_rules t.header slack (last_moment (moves w.steps)) (known_before t w (length w.steps)).duties
    (known_before t w (length w.steps)).model) ≡ None
    → ChildrenAreReset t w slack
children_reset t w slack r placed late place moment l me c once awaits = child_reset t w slack r placed late place moment l me c once awaits
