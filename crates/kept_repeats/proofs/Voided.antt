-- What a block reported is built again only after a timeout.
use Rattle.std.proofs.Common.{◌≡◌, ℕ, suc, ◌+◌, ◌-◌, ◌<◌, ◌≤◌, ◌⊎◌, inl, inr, min, Bool, true, false, List, Option}
use Rattle.std.proofs.Common.{None, Some, refl, ap, sym, subst, ◌∙◌, arith}
use Rattle.std.specs.Prelude.{◌&&◌, ◌||◌, if◌then◌else◌, nat_eq, nat_le, nat_lt, not, slice_get}
use Rattle.std.specs.FinSet.{contains, from_list}
use Rattle.std.specs.Option.{option_flatten, option_map_or}
use Rattle.std.specs.Ordering.{nat_cmp}
use Rattle.std.proofs.lemmas.Bool.Decides.{nat_tests}
use Rattle.segment.specs.Reading.{permits_sack}
use Rattle.case_forms.specs.States.{is_syn_sent}
use Rattle.case_forms.specs.Versions.{says_sender}
use Rattle.case_forms.specs.declared.version.Version.{Version}
use Rattle.case_forms.specs.declared.steps.TakeChoice.{TakeChoice}
use Rattle.case_forms.specs.declared.steps.SegmentPlan.{SegmentPlan}
use Rattle.case_forms.specs.declared.timer.RecoveryChange.TheVariants.{Begins, IsUndone}
use Rattle.case_forms.specs.declared.timer.Timer.TheVariants.{Rto}
use Rattle.case_forms.specs.declared.trace.Header.{Header}
use Rattle.streams.specs.Ranges.{covers, meets}
use Rattle.streams.proofs.RangeLemmas.{counted_all, one_meets}
use Rattle.spec_network.specs.Hosts.{Stamped, Takes, World}
use Rattle.spec_network.specs.Tables.{on, pick, waiting}
use Rattle.spec_tcp.specs.Arrives.{AtEndpoint, AtListener, Nobody, Taker, taker}
use Rattle.spec_tcp.specs.declared.endpoint.Emission.{Emission}
use Rattle.spec_tcp.specs.declared.endpoint.Endpoint.{Endpoint}
use Rattle.spec_duties.specs.Observations.{observe, observe_taking, syn_taken, takes_syn, unseen}
use Rattle.spec_duties.specs.Views.{unborn, view_of}
use Rattle.spec_network.specs.HostSteps.{Lawful, start}
use Rattle.spec_tcp.specs.Machine.{tcp, tcp_shape}
use Rattle.spec_tcp.specs.Makes.Payload.{making_length}
use Rattle.spec_tcp.specs.declared.endpoint.EndpointId.{EndpointId}
use Rattle.spec_tcp_laws.proofs.Rules.{both_true, not_true}
use Rattle.spec_duties.specs.Resent.{judges_repeats}
use Rattle.spec_duties.specs.declared.events.Event.{Event}
use Rattle.spec_duties.specs.declared.events.Event.TheVariants.{Expires, Processes, Recovers}
use Rattle.spec_duties.specs.declared.observations.SynChange.TheVariants as syn_change
use Rattle.spec_duties.specs.declared.views.View.{View}
use Rattle.spec_flights.specs.Delivered.{read_reports}
use Rattle.spec_flights.specs.Flights.{Flight, are_free, flight_after, free_below, is_free, is_probe, is_rescue}
use Rattle.spec_flights.specs.Flights.{marks_oldest, may_go_again}
use Rattle.spec_flights.specs.Flights.{sends_nothing_new}
use Rattle.spec_flights.specs.Probing.{is_due}
use Rattle.spec_flights.specs.Late.{has_below, resent_below}
use Rattle.spec_flights.specs.Marks.{marked_by, old_part, taken_by}
use Rattle.spec_flights.specs.Recovering.{is_repairing, recovery_after}
use Rattle.spec_flights.specs.Sides.{are_selective}
use Rattle.spec_flights.specs.declared.recovery.Recovery.{Recovery}
use Rattle.spec_cases.specs.Cases.{Dutiful, first_known}
use Rattle.kept_flights.specs.Places.{Happens, IsStep, observed, seen_before, world_before}
use Rattle.kept_flights.specs.Reasons.{HasSecondSyn, Never}
use Rattle.kept_flights.specs.Reported.{BothPermit, Holds, IsReported, StaysOut}
use Rattle.kept_flights.proofs.Done.{may_then, sides_at}
use Rattle.kept_flights.proofs.Kept.{Told, holds}
use Rattle.kept_flights.proofs.Marked.{ByBeginning, ByLoneSyn, ByOldest, ByPart, BySecondSyn, ByTimeout, IsFirst}
use Rattle.kept_flights.proofs.Marked.{IsMarked, IsReason}
use Rattle.kept_flights.proofs.Marked.{marked_from, marked_now, marked_reason, oldest_first}
use Rattle.kept_flights.proofs.Plain.{both_later}
use Rattle.kept_flights.proofs.Positions.{made_rises, una_rises}
use Rattle.kept_flights.proofs.Runs.{flight_before, one_event, place_makes, run_tells, touched}
use Rattle.kept_flights.proofs.Shows.{recovers_at}
use Rattle.kept_flights.proofs.Stays.{read_there, selective, told, was_sent}
use Rattle.kept_flights.proofs.Syns.{taken_once}
use Rattle.kept_repeats.specs.Voiding.{IsVoided, OnlyTimeoutsVoidReports}
use Rattle.kept_repeats.proofs.Placing.{never_at, never_next}

-- ---- what goes again, and was reported, is marked, and fast recovery hasn't begun

module _ (f : Flight) (p : ℕ) (is_told : Told p f.board) where
  pub record Frees : Type 0 where
    pub marked : IsMarked p f.marks
    pub slow : f.recovery.is_fast ≡ false

  told_free : (below : ℕ) → is_free below f p ≡ true → Frees
  told_free below is =
      by (contains {K = ℕ} {R = nat_cmp} (from_list f.marks) p) refl f.recovery.is_fast refl
      (subst
      (λ (b : Bool). (contains {K = ℕ} {R = nat_cmp} (from_list f.marks) p && not (f.recovery.is_fast && b)
      || option_map_or (λ x. nat_lt x.number below) (if b then None else option_flatten (slice_get f.board.known p)) false) ≡ true) is_told is)
    where
      by : (marked : Bool) → contains {K = ℕ} {R = nat_cmp} (from_list f.marks) p ≡ marked → (fast : Bool) → f.recovery.is_fast ≡ fast
          → (marked && not (fast && true) || false) ≡ true → Frees
      by true marked false slow is = record { marked = marked; slow = slow }
      by true marked true slow is = absurd cc
      by false marked fast slow is = absurd cc

  no_probe : (a b t : Bool) → t ≡ true → (a && b && not t) ≡ true → ⊥
  no_probe false b t met is = absurd cc
  no_probe true false t met is = absurd cc
  no_probe true true true met is = absurd cc
  no_probe true true false met is = absurd cc

  no_rescue : (a b c d t e g : Bool) → t ≡ true → (a && b && c && d && not t && e && g) ≡ true → ⊥
  no_rescue false b c d t e g met is = absurd cc
  no_rescue true false c d t e g met is = absurd cc
  no_rescue true true false d t e g met is = absurd cc
  no_rescue true true true false t e g met is = absurd cc
  no_rescue true true true true true e g met is = absurd cc
  no_rescue true true true true false e g met is = absurd cc

  pub told_goes : (clock : ℕ) (v : View) (m : SegmentPlan) → Holds m p → p < v.snd_max → may_go_again clock v m f ≡ true → Frees
  told_goes clock v m held sent is =
      by (are_free (free_below clock v f) f (old_part v m)) refl (is_probe v m f) refl is
    where
      low : m.pos ≤ p
      low = held.0

      high : p < m.pos + making_length m
      high = held.1

      met : meets (from_list f.board.told) (old_part v m).from (old_part v m).upto ≡ true
      met = one_meets (from_list f.board.told) m.pos (min (m.pos + making_length m) v.snd_max) p low (omega (arith, high, sent)) is_told

      by : (free : Bool) → are_free (free_below clock v f) f (old_part v m) ≡ free → (probe : Bool) → is_probe v m f ≡ probe
          → (free || probe || is_rescue clock v f (old_part v m)) ≡ true → Frees
      by true free probe other is =
          told_free (free_below clock v f)
          (counted_all (is_free (free_below clock v f) f) m.pos (min (m.pos + making_length m) v.snd_max - m.pos) free p low (omega (arith, low, high, sent)))
      by false free true probe is =
          absurd (no_probe (is_due f.probing.probe) (nat_eq (m.pos + making_length m) v.snd_max)
          (meets (from_list f.board.told) (old_part v m).from (old_part v m).upto) met probe)
      by false free false probe is =
          absurd (no_rescue (are_selective f.sides) (is_repairing v f.recovery) (not f.rescued) (sends_nothing_new v)
          (meets (from_list f.board.told) (old_part v m).from (old_part v m).upto)
          (covers (from_list f.board.told) (old_part v m).upto v.snd_max) (not (has_below (resent_below true clock f.board) v f.board)) met is)

-- ---- a step marks it only by a timeout

abbrev is_timeout : Event → Bool
is_timeout (Expires Rto) = true
is_timeout event = false

timeout_is : (event : Event) → is_timeout event ≡ true → event ≡ Expires Rto
timeout_is (Expires Rto) is = refl
timeout_is event is = absurd cc

-- fast recovery hadn't begun before, and doesn't begin now
slow_before : (event : Event) (after : View) (r : Recovery) → is_timeout event ≡ false → (recovery_after event after r).is_fast ≡ false
    → (r.is_fast ≡ false) × (event ≡ Recovers Begins → ⊥)
slow_before (Expires Rto) after r none is = absurd cc
slow_before (Recovers Begins) after r none is = absurd cc
slow_before (Recovers IsUndone) after r none is = (is, λ begins. cc)
slow_before event after r none is = (by (nat_le r.point after.snd_una) is, λ begins. cc)
  where
    by : (b : Bool) → (if b then record r { point = 0 } else r).is_fast ≡ false → r.is_fast ≡ false
    by true is = is
    by false is = is

-- ---- a `T` step drops no SYN that comes again

not_again : (b permits alone : Bool) → (if b then syn_change.Takes permits alone else syn_change.Nothing) ≡ syn_change.ComesAgain → ⊥
not_again true permits alone is = absurd cc
not_again false permits alone is = absurd cc

taken_again : (v : Version) (m : Emission) (t : Taker) → syn_taken v m t ≡ syn_change.ComesAgain → ⊥
taken_again v m Nobody is = absurd cc
taken_again v m (AtListener l) is = not_again (takes_syn v m) (permits_sack m.bytes) false is
taken_again v m (AtEndpoint i e) is = not_again (takes_syn v m && is_syn_sent e.state) (permits_sack m.bytes) (not m.flags.ack) is

taking_again : (h : Header) (xs : List (Stamped tcp_shape)) (place : ℕ) (me : EndpointId) (line : ℕ) (how : TakeChoice)
    → IsStep xs place me.host (Takes line how) → (observed h xs place).syn_change ≡ syn_change.ComesAgain → ⊥
taking_again h xs place me line how step is =
    by (waiting line (pick w.hosts me.host).inbox)
    (sym (ap (λ (o : Option (Stamped tcp_shape)). (option_map_or (λ y. observe h y.moment w y.step) o unseen).syn_change) step.1) ∙ is)
  where
    w : World tcp_shape
    w = world_before h xs place

    by : (o : Option Emission)
        → (on o unseen (λ m. observe_taking h me.host (pick w.hosts me.host).body line how m (taker (pick w.hosts me.host).body m))).syn_change
        ≡ syn_change.ComesAgain → ⊥
    by None is = absurd cc
    by (Some m) is = taken_again h.version m (taker (pick w.hosts me.host).body m) is

module _ (h : Header) (xs : List (Stamped tcp_shape)) (me : EndpointId) (six : says_sender h.version ≡ true) (lawful : Lawful (tcp h) (start (tcp h)) xs)
    (from to p : ℕ) (permit : BothPermit h xs from me) (r : IsReported h xs from me p) (out : StaysOut h xs from to me p)
    (no_syn : p ≡ 0 → Never from to (HasSecondSyn h xs me)) where
  -- it was sent, and isn't acknowledged
  sent_at : (place : ℕ) → from ≤ place → p < (seen_before h xs place me).snd_max
  sent_at place low =
      let read = read_there h xs me six lawful from p r r.event r.before r.happens in
      let sent = read.sent in
      let first : r.before.snd_max ≡ (seen_before h xs from me).snd_max =
      ap (λ (v : View). v.snd_max) (read.place.seen ∙ sym (ap (λ (o : Option Endpoint). option_map_or view_of o unborn) read.place.there)) in
      let rise = made_rises h xs lawful me from place low in
      omega (arith, sent, first, rise)

  unacked_at : (place : ℕ) → place ≤ to → (seen_before h xs place me).snd_una ≤ p
  unacked_at place high =
      let rise = una_rises h xs lawful me place to high in
      let last = out.unacknowledged in
      omega (arith, rise, last)

  -- from the report on, it is marked only after a timeout, and until then in fast recovery
  abbrev IsQuiet : (place : ℕ) → Flight → Type 0
  IsQuiet place f = IsMarked p f.marks → f.recovery.is_fast ≡ false → IsVoided h xs from place me

  module _ (place : ℕ) (low : from ≤ place) (high : place < to) (event : Event) (before : View) (here : Happens (observed h xs place) me event before) where
    abbrev f : Flight
    f = flight_before h xs place me

    abbrev after : View
    after = seen_before h xs (suc place) me

    abbrev recovery : Recovery
    recovery = recovery_after event after f.recovery

    there : (other : Event) → event ≡ other → Happens (observed h xs place) me other before
    there other is = subst (λ (e : Event). Happens (observed h xs place) me e before) is here

    both : are_selective (sides_at h xs me place) ≡ true
    both = selective h xs me six lawful place (both_later h xs me from place low permit) event before here

    no_first : recovery.is_fast ≡ false → IsFirst event before after (sides_at h xs me place) recovery → ⊥
    no_first slow (ByBeginning is) =
        let bad : true ≡ false = sym (ap (λ (e : Event). (recovery_after e after f.recovery).is_fast) is) ∙ slow in
        cc
    no_first slow (ByPart length rst is more repairs) =
        let plain = not_true (are_selective (sides_at h xs me place))
        (both_true (not (are_selective (sides_at h xs me place))) (is_repairing after recovery) repairs).0 in
        let bad : true ≡ false = sym both ∙ plain in
        cc

    marked_by_timeout : (clock : ℕ) → recovery.is_fast ≡ false → (p ≡ 0 → (observed h xs place).syn_change ≡ syn_change.ComesAgain → ⊥)
        → IsReason p (observed h xs place).syn_change event after (marks_oldest clock event before after (sides_at h xs me place) recovery f)
        → event ≡ Expires Rto
    marked_by_timeout clock slow none (ByLoneSyn permits zeroth is) =
        let earlier = permit.taken_before in
        absurd (taken_once h xs me lawful permit.taken place (omega (arith, earlier, low)) true permit.alone permits true permit.takes
        (event, before, here, is))
    marked_by_timeout clock slow none (BySecondSyn zeroth is) = absurd (none zeroth is)
    marked_by_timeout clock slow none (ByTimeout is) = is
    marked_by_timeout clock slow none (ByOldest is first) =
        absurd (no_first slow (oldest_first clock event before after (sides_at h xs me place) recovery f is))

    now_voided : from < place → event ≡ Expires Rto → IsVoided h xs from (suc place) me
    now_voided less is = record {
      expired = place;
      after = less;
      before = omega arith;
      expires = (before, there (Expires Rto) is);
      no_recovery = never_next _ place;
      no_undo = never_next _ place;
    }

    still_voided : is_timeout event ≡ false → recovery.is_fast ≡ false → holds p (taken_by event before) ≡ false → IsVoided h xs from place me
        → IsVoided h xs from (suc place) me
    still_voided none slow untaken v =
        let earlier = v.before in
        record {
          expired = v.expired;
          after = v.after;
          before = omega (arith, earlier);
          expires = v.expires;
          no_recovery = never_at _ v.expired place v.no_recovery (λ did.
              (slow_before event after f.recovery none slow).1 (one_event (observed h xs place) me event (Recovers Begins) before did.0 here did.1).0);
          no_undo = never_at _ v.expired place v.no_undo (λ did. undone did.0 did.1);
        }
      where
        undone : (view : View) → Happens (observed h xs place) me (Recovers IsUndone) view → ⊥
        undone view did =
            let same = one_event (observed h xs place) me event (Recovers IsUndone) before view here did in
            let seen : before ≡ seen_before h xs place me = same.1 ∙ recovers_at h xs place me IsUndone view did in
            let una : before.snd_una ≡ (seen_before h xs place me).snd_una = ap (λ (v : View). v.snd_una) seen in
            let max_is : before.snd_max ≡ (seen_before h xs place me).snd_max = ap (λ (v : View). v.snd_max) seen in
            let above = unacked_at place (omega (arith, high)) in
            let below = sent_at place low in
            let holding : (nat_le before.snd_una p && nat_lt p before.snd_max) ≡ true = within (omega (arith, una, above)) (omega (arith, max_is, below)) in
            let bad : true ≡ false = sym holding ∙ subst (λ (e : Event). holds p (taken_by e before) ≡ false) same.0 untaken in
            cc
          where
            within : before.snd_una ≤ p → p < before.snd_max → (nat_le before.snd_una p && nat_lt p before.snd_max) ≡ true
            within above below = grind (arith, nat_tests, above, below)

    -- after the report
    stays_quiet : (moment clock : ℕ) → from < place → IsQuiet place f
        → IsQuiet (suc place) (flight_after moment clock (observed h xs place) (touched me event before) after f)
    stays_quiet moment clock less old is slow = by (is_timeout event) refl
      where
        marks : (IsMarked p f.marks × (holds p (taken_by event before) ≡ false))
            ⊎ (holds p (marked_by (observed h xs place).syn_change event after (marks_oldest clock event before after (sides_at h xs me place) recovery f))
            ≡ true) → is_timeout event ≡ false → IsVoided h xs from (suc place) me
        marks (inl was) none = still_voided none slow was.1 (old was.0 (slow_before event after f.recovery none slow).0)
        marks (inr now) none =
            now_voided less
            (marked_by_timeout clock slow (λ zeroth again. no_syn zeroth place less high (event, before, here, again))
            (marked_reason p (observed h xs place).syn_change event after _ now))

        by : (b : Bool) → is_timeout event ≡ b → IsVoided h xs from (suc place) me
        by true timeout = now_voided less (timeout_is event timeout)
        by false none =
            marks (marked_from p (observed h xs place).syn_change event before after
            (read_reports (sides_at h xs me place) (observed h xs place).blocks) _ f.marks is) none

  -- by the report, it isn't marked
  begins_quiet : from < to → IsQuiet (suc from) (flight_before h xs (suc from) me)
  begins_quiet less =
      place_makes h xs six (IsQuiet (suc from)) me from r.event r.before r.happens (λ moment clock event before here is slow.
      let read = read_there h xs me six lawful from p r event before here in
      let timeout =
      marked_by_timeout from (omega arith) less event before here clock slow no_second
      (marked_reason p (observed h xs from).syn_change event (seen_before h xs (suc from) me) _
      (marked_now p (observed h xs from).syn_change event before (seen_before h xs (suc from) me) (sides_at h xs me from) (observed h xs from).blocks _
      (flight_before h xs from me).marks (both from (omega arith) less event before here) r.reports is)) in
      let bad : Processes read.length false ≡ Expires Rto = sym read.is ∙ timeout in
      absurd cc)
    where
      no_second : p ≡ 0 → (observed h xs from).syn_change ≡ syn_change.ComesAgain → ⊥
      no_second zeroth is = taking_again h xs from me r.line r.choice r.step is

  quiet : from < to → IsQuiet to (flight_before h xs to me)
  quiet less =
      run_tells h xs six IsQuiet me (suc from) to (omega (arith, less)) (begins_quiet less) later
      (λ place low high old moment clock event before here.
      stays_quiet place (omega (arith, low)) high event before here moment clock (omega (arith, low)) old)
    where
      later : (place : ℕ) (g : Flight) → ((event : Event) (before : View) → Happens (observed h xs place) me event before → ⊥) → IsQuiet place g
          → IsQuiet (suc place) g
      later place g none old marked slow =
          let v = old marked slow in
          let earlier = v.before in
          record {
            expired = v.expired;
            after = v.after;
            before = omega (arith, earlier);
            expires = v.expires;
            no_recovery = never_at _ v.expired place v.no_recovery (λ did. none (Recovers Begins) did.0 did.1);
            no_undo = never_at _ v.expired place v.no_undo (λ did. none (Recovers IsUndone) did.0 did.1);
          }

pub voided : (h : Header) (xs : List (Stamped tcp_shape)) → says_sender h.version ≡ true → judges_repeats h.congestion ≡ true
    → Lawful (tcp h) (start (tcp h)) xs → Dutiful h (first_known h) xs → OnlyTimeoutsVoidReports h xs
voided h xs six judged lawful may from to p me m less permit r out no_syn b held =
    let f : Flight = flight_before h xs to me in
    let sent = was_sent h xs me six lawful from to p less r m b in
    let frees =
    told_goes f p (told h xs me six lawful from to p less permit r out) (b.step.0 + h.grain) b.before m held sent
    (may_then h xs me six lawful may judged to p m b held sent) in
    quiet h xs me six lawful from to p permit r out no_syn less frees.marked frees.slow
