-- A position that was built isn't marked, nor given up, until there is a reason.
use Rattle.std.proofs.Common.{◌≡◌, ℕ, suc, ◌+◌, ◌<◌, ◌≤◌, ◌⊎◌, inl, inr, min, Bool, true, false, List, Option, Some, None, refl, ap, sym, subst}
use Rattle.std.proofs.Common.{◌∙◌, arith}
use Rattle.std.specs.Prelude.{◌&&◌, ◌||◌, if◌then◌else◌, nat_le, nat_lt, not, slice_get}
use Rattle.std.specs.FinSet.{contains, from_list}
use Rattle.std.specs.Option.{option_flatten, option_map_or}
use Rattle.std.specs.Ordering.{nat_cmp}
use Rattle.std.proofs.lemmas.Bool.Decides.{nat_tests}
use Rattle.std.proofs.lemmas.Option.{none-some, same_Some}
use Rattle.case_forms.specs.Versions.{says_sender}
use Rattle.case_forms.specs.declared.steps.SegmentPlan.{SegmentPlan}
use Rattle.case_forms.specs.declared.timer.RecoveryChange.TheVariants.{Begins, IsUndone}
use Rattle.case_forms.specs.declared.timer.Timer.TheVariants.{Persist, Rto}
use Rattle.case_forms.specs.declared.trace.Header.{Header}
use Rattle.verdict.specs.declared.rule.Rule.TheVariants as rules
use Rattle.streams.specs.declared.outstanding.Outstanding.{Outstanding}
use Rattle.spec_network.specs.Hosts.{Stamped}
use Rattle.spec_network.specs.HostSteps.{Lawful, start}
use Rattle.spec_tcp.specs.Machine.{tcp, tcp_shape}
use Rattle.spec_tcp.specs.Makes.Payload.{making_length}
use Rattle.spec_tcp.specs.declared.endpoint.EndpointId.{EndpointId}
use Rattle.spec_tcp_laws.proofs.Rules.{both_true, not_true}
use Rattle.spec_duties.specs.Resent.{judges_repeats}
use Rattle.spec_duties.specs.declared.events.Event.{Event}
use Rattle.spec_duties.specs.declared.events.Event.TheVariants.{Builds, Expires, Processes, Recovers}
use Rattle.spec_duties.specs.declared.observations.SynChange.TheVariants as syn_change
use Rattle.spec_duties.specs.declared.observations.TouchedEndpoint.{TouchedEndpoint}
use Rattle.spec_duties.specs.declared.views.View.{View}
use Rattle.spec_flights.specs.Delivered.{read_reports}
use Rattle.spec_flights.specs.Flights.{Flight, board_after, flight_after, is_free, marks_oldest}
use Rattle.spec_flights.specs.Flights.{may_go_again}
use Rattle.spec_flights.specs.Late.{settled}
use Rattle.spec_flights.specs.Marks.{goes_again, marked_by, marks_after, old_part, oldest_segment, taken_by}
use Rattle.spec_flights.specs.Recovering.{is_recovering, is_repairing, recovery_after}
use Rattle.spec_flights.specs.Scoreboard.{number_built, with_built}
use Rattle.spec_flights.specs.Sides.{are_selective, sides_after}
use Rattle.spec_flights.specs.Stretches.{no_positions}
use Rattle.spec_flights.specs.declared.reports.Reports.{Reports}
use Rattle.spec_flights.specs.declared.recovery.Recovery.{Recovery}
use Rattle.spec_flights.specs.declared.sides.Sides.{Sides}
use Rattle.spec_flights.specs.declared.stretch.Stretch.{Stretch}
use Rattle.spec_cases.specs.Cases.{Dutiful, first_known}
use Rattle.kept_flights.specs.Places.{Happens, observed, seen_before}
use Rattle.kept_flights.specs.Reasons.{AcknowledgesPart, BeginsAt, Did, HasLoneSyn, HasSecondSyn, InFirst, Never, OpensProbed}
use Rattle.kept_flights.specs.Reported.{Holds, IsBuilt}
use Rattle.kept_flights.proofs.Building.{building}
use Rattle.kept_flights.proofs.Kept.{holds}
use Rattle.kept_flights.proofs.Marked.{ByBeginning, ByLoneSyn, ByOldest, ByPart, BySecondSyn, ByTimeout, IsFirst, IsMarked, IsReason}
use Rattle.kept_flights.proofs.Marked.{marked_from, marked_reason, oldest_first}
use Rattle.kept_flights.proofs.Numbers.{GivesUpNothing, IsAbove, board_above, built_above, whole_from}
use Rattle.kept_flights.proofs.Accepted.{accepted, again}
use Rattle.kept_flights.proofs.Always.{counted, marked_below, whole}
use Rattle.kept_flights.proofs.Begun.{IsBegun, NotUndone, begun, leaves_some}
use Rattle.kept_flights.proofs.Positions.{made_rises}
use Rattle.kept_flights.proofs.Runs.{flight_before, place_makes, run_tells, touched}
use Rattle.kept_flights.proofs.Shows.{built_at}

-- ---- what goes again, and isn't marked, was built last under a low number

module _ (below : ℕ) (f : Flight) (p : ℕ) where
  -- it is in flight, and was built last under a number below this one
  pub record HasLow : Type 0 where
    pub made : Outstanding
    pub known : slice_get f.board.known p ≡ Some (Some made)
    pub low : made.number < below

  pub free_low : (IsMarked p f.marks → ⊥) → is_free below f p ≡ true → HasLow
  free_low unmarked = by (contains {K = ℕ} {R = nat_cmp} (from_list f.marks) p) refl
    where
      known : (told : Bool) (o : Option (Option Outstanding)) → slice_get f.board.known p ≡ o
          → option_map_or (λ x. nat_lt x.number below) (if told then None else option_flatten o) false ≡ true → HasLow
      known true o at is = absurd cc
      known false None at is = absurd cc
      known false (Some None) at is = absurd cc
      known false (Some (Some x)) at is = record { made = x; known = at; low = grind (arith, nat_tests, is) }

      by : (b : Bool) → contains {K = ℕ} {R = nat_cmp} (from_list f.marks) p ≡ b
          → (b && not (f.recovery.is_fast && contains {K = ℕ} {R = nat_cmp} (from_list f.board.told) p)
          || option_map_or (λ x. nat_lt x.number below)
          (if contains {K = ℕ} {R = nat_cmp} (from_list f.board.told) p then None else option_flatten (slice_get f.board.known p)) false) ≡ true
          → HasLow
      by true marked is = absurd (unmarked marked)
      by false marked is = known (contains {K = ℕ} {R = nat_cmp} (from_list f.board.told) p) (slice_get f.board.known p) refl is

may_of : (again may : Bool) → again ≡ true → (if again && not may then Some rules.OldData else None) ≡ None → may ≡ true
may_of false may is none = let no : false ≡ true = is in absurd cc
may_of true true is none = refl
may_of true false is none = absurd (none-some rules.OldData (sym none))

-- ---- the position, from one place to the other

pub record IsDone (p : ℕ) (f : Flight) : Type 0 where
  pub unmarked : IsMarked p f.marks → ⊥
  pub above : IsAbove p f.board

module _ (h : Header) (xs : List (Stamped tcp_shape)) (me : EndpointId) where
  -- both SYNs permit selective acknowledgments, as far as a step shows
  abbrev pub sides_at : (place : ℕ) → Sides
  sides_at place = sides_after (observed h xs place).syn_change (flight_before h xs place me).sides

  -- between two places, nothing marks the position, or gives it up
  pub record NoMark (first last p : ℕ) : Type 0 where
    pub no_timeout : Never first last (Did h xs me (Expires Rto))
    pub no_persist_timeout : Never first last (Did h xs me (Expires Persist))
    pub no_opening : Never first last (OpensProbed h xs me)
    pub no_recovery : Never first last (BeginsAt h xs me p)
    pub no_part : (place : ℕ) → first < place → place < last → are_selective (sides_at place) ≡ false → AcknowledgesPart h xs me p place → ⊥
    pub no_lone_syn : p ≡ 0 → Never first last (HasLoneSyn h xs me)
    pub no_second_syn : p ≡ 0 → Never first last (HasSecondSyn h xs me)

module _ (h : Header) (xs : List (Stamped tcp_shape)) (me : EndpointId) (six : says_sender h.version ≡ true)
    (lawful : Lawful (tcp h) (start (tcp h)) xs) where
  -- a step between them marks it for a reason alone
  module _ (first last p : ℕ) (none : NoMark h xs me first last p) (place : ℕ) (low : first < place) (high : place < last) (event : Event)
      (before : View) (here : Happens (observed h xs place) me event before) where
    abbrev f : Flight
    f = flight_before h xs place me

    abbrev after : View
    after = seen_before h xs (suc place) me

    abbrev sides : Sides
    sides = sides_at h xs me place

    abbrev recovery : Recovery
    recovery = recovery_after event after f.recovery

    there : (other : Event) → event ≡ other → Happens (observed h xs place) me other before
    there other is = subst (λ (e : Event). Happens (observed h xs place) me e before) is here

    in_first : holds p (oldest_segment after) ≡ true → InFirst after p
    in_first is = (grind (arith, nat_tests, is), grind (arith, nat_tests, is))

    no_first : holds p (oldest_segment after) ≡ true → IsFirst event before after sides recovery → ⊥
    no_first first (ByBeginning is) = none.no_recovery place low high (record { begins = (before, there (Recovers Begins) is); first = in_first first })
    no_first first (ByPart length rst is more repairs) =
        let some =
        leaves_some length rst after f.recovery
        (subst (λ (e : Event). is_repairing after (recovery_after e after f.recovery) ≡ true) is
        (both_true (not (are_selective sides)) (is_repairing after recovery) repairs).1) in
        let b = begun h xs me six place some.0 in
        let left = some.1 in
        let within = b.within in
        let plain = not_true (are_selective sides) (both_true (not (are_selective sides)) (is_repairing after recovery) repairs).0 in
        none.no_part place low high plain (record {
          length = length;
          rst = rst;
          before = before;
          happens = there (Processes length rst) is;
          more = more;
          recovery = b.recovery;
          no_undo = lasting b left;
          part = omega (arith, left, within);
          first = in_first first;
        })
      where
        lasting : (b : IsBegun h xs me six place f.recovery.point) → after.snd_una < f.recovery.point
            → Never b.recovery.begun place (Did h xs me (Recovers IsUndone))
        lasting b left = by b.lasts_on
          where
            by : (f.recovery.point ≡ 0) ⊎ NotUndone h xs me six b.recovery.begun place → Never b.recovery.begun place (Did h xs me (Recovers IsUndone))
            by (inl zeroth) later over under did = absurd (omega (arith, left, zeroth))
            by (inr kept) later over under did = kept later did.0 over under did.1

    no_reason : (clock : ℕ) → IsReason p (observed h xs place).syn_change event after (marks_oldest clock event before after sides recovery f) → ⊥
    no_reason clock (ByLoneSyn permits zeroth is) = none.no_lone_syn zeroth place low high (permits, (event, before, here, is))
    no_reason clock (BySecondSyn zeroth is) = none.no_second_syn zeroth place low high (event, before, here, is)
    no_reason clock (ByTimeout is) = none.no_timeout place low high (before, there (Expires Rto) is)
    no_reason clock (ByOldest is first) = no_first first (oldest_first clock event before after sides recovery f is)

    gives_up_nothing : GivesUpNothing event before after
    gives_up_nothing = record {
      timeout = λ is. none.no_timeout place low high (before, there (Expires Rto) is);
      probe = λ is. none.no_persist_timeout place low high (before, there (Expires Persist) is);
      opens = λ length rst is opens. none.no_opening place low high
          (record { length = length; rst = rst; before = before; happens = there (Processes length rst) is; opens = opens });
    }

    builds : (m : SegmentPlan) → event ≡ Builds m → f.board.given_up < number_built (observed h xs place).built_change
    builds m is =
        let b = built_at h xs place me m before (there (Builds m) is) in
        let c = counted h xs me six place in
        let number = b.number in
        let newest = c.newest in
        let given_up = c.given_up in
        omega (arith, number, newest, given_up)

    stays_done : (moment clock : ℕ) → IsDone p f → IsDone p (flight_after moment clock (observed h xs place) (touched me event before) after f)
    stays_done moment clock d = record {
      unmarked = λ is. by clock
          (marked_from p (observed h xs place).syn_change event before after (read_reports sides (observed h xs place).blocks)
          (marks_oldest clock event before after sides recovery f) f.marks is);
      above =
          board_above moment clock (is_recovering before f.recovery) (number_built (observed h xs place).built_change) p event before after
          (read_reports sides (observed h xs place).blocks) f.board gives_up_nothing builds d.above;
    }
      where
        by : (clock : ℕ)
            → (IsMarked p f.marks × (holds p (taken_by event before) ≡ false))
            ⊎ (holds p (marked_by (observed h xs place).syn_change event after (marks_oldest clock event before after sides recovery f)) ≡ true) → ⊥
        by clock (inl was) = d.unmarked was.0
        by clock (inr now) = no_reason clock (marked_reason p (observed h xs place).syn_change event after _ now)

  -- where it is built, the mark is taken, and the new number is above what is given up
  module _ (p place : ℕ) (m : SegmentPlan) (b : IsBuilt h xs place me m) (held : Holds m p) where
    abbrev g : Flight
    g = flight_before h xs place me

    abbrev next : View
    next = seen_before h xs (suc place) me

    some : 0 < making_length m
    some = let low = held.0 in let high = held.1 in omega (arith, low, high)

    pub sent_next : p < next.snd_max
    sent_next =
        let sent = (building h xs lawful six place me m b some).sent in
        let high = held.1 in
        omega (arith, sent, high)

    taken : p < b.before.snd_max → holds p (taken_by (Builds m) b.before) ≡ true
    taken sent =
        ap (λ (c : Bool). holds p (if c then no_positions else old_part b.before m)) b.no_fin_alone
        ∙ within m.pos (m.pos + making_length m) b.before.snd_max held.0 held.1 sent
      where
        within : (from end top : ℕ) → from ≤ p → p < end → p < top → (nat_le from p && nat_lt p (min end top)) ≡ true
        within from end top low high below = grind (arith, nat_tests, low, high, below)

    no_mark : (oldest : Bool) → oldest ≡ false → IsReason p (observed h xs place).syn_change (Builds m) next oldest → ⊥
    no_mark oldest none (ByLoneSyn permits zeroth is) =
        let bad : syn_change.Nothing ≡ syn_change.Takes permits true = sym (built_at h xs place me m b.before b.happens).no_syn ∙ is in absurd cc
    no_mark oldest none (BySecondSyn zeroth is) =
        let bad : syn_change.Nothing ≡ syn_change.ComesAgain = sym (built_at h xs place me m b.before b.happens).no_syn ∙ is in absurd cc
    no_mark oldest none (ByTimeout is) = absurd cc
    no_mark oldest none (ByOldest is first) = absurd cc

    now_unmarked : (r : Reports) (oldest : Bool) → oldest ≡ false
        → IsMarked p (marks_after (observed h xs place).syn_change (Builds m) b.before next r oldest g.marks) → ⊥
    now_unmarked r oldest none is = by (marked_from p (observed h xs place).syn_change (Builds m) b.before next r oldest g.marks is)
      where
        by : (IsMarked p g.marks × (holds p (taken_by (Builds m) b.before) ≡ false))
            ⊎ (holds p (marked_by (observed h xs place).syn_change (Builds m) next oldest) ≡ true) → ⊥
        by (inl was) =
            let low = marked_below h xs me six lawful p place was.0 in
            let same : b.before.snd_max ≡ (seen_before h xs place me).snd_max = ap (λ (v : View). v.snd_max) (building h xs lawful six place me m b some).is in
            let bad : true ≡ false = sym (taken (omega (arith, low, same))) ∙ was.1 in
            cc
        by (inr now) = no_mark oldest none (marked_reason p (observed h xs place).syn_change (Builds m) next oldest now)

    now_above : (moment clock : ℕ) (recovers : Bool) (r : Reports)
        → IsAbove p (board_after moment clock recovers (number_built (observed h xs place).built_change) (Builds m) b.before next r g.board)
    now_above moment clock recovers r =
        let number = (built_at h xs place me m b.before b.happens).number in
        let c = counted h xs me six place in
        let newest = c.newest in
        let given_up = c.given_up in
        let high = held.1 in
        let sent = sent_next in
        subst
        (λ (s : Stretch). IsAbove p (with_built (number_built (observed h xs place).built_change) moment s (settled recovers clock g.board)))
        (sym (ap
        (λ (c : Bool). if c then no_positions else record { from = m.pos; upto = min (m.pos + making_length m) next.snd_max }) b.no_fin_alone))
        (built_above moment clock recovers (number_built (observed h xs place).built_change) p
        (record { from = m.pos; upto = min (m.pos + making_length m) next.snd_max }) (settled recovers clock g.board) held.0 (omega (arith, high, sent))
        (whole_from (seen_before h xs place me).snd_una m.pos g.board (whole h xs me six lawful place) (building h xs lawful six place me m b some).low)
        (omega (arith, number, newest, given_up)))

    begins_done : IsDone p (flight_before h xs (suc place) me)
    begins_done =
        place_makes h xs six (λ f. IsDone p f) me place (Builds m) b.before b.happens (λ moment clock event before here.
        subst (λ (t : TouchedEndpoint). IsDone p (flight_after moment clock (observed h xs place) t next g))
        (same_Some (touched me (Builds m) b.before) (touched me event before) (sym b.happens ∙ here))
        (record {
          unmarked = λ is. now_unmarked (read_reports (sides_after (observed h xs place).syn_change g.sides) (observed h xs place).blocks) false refl is;
          above =
              now_above moment clock (is_recovering b.before g.recovery)
              (read_reports (sides_after (observed h xs place).syn_change g.sides) (observed h xs place).blocks);
        }))

  -- so it is at the end, if it was built at the beginning
  pub done : (first last p : ℕ) (m : SegmentPlan) → first < last → IsBuilt h xs first me m → Holds m p → NoMark h xs me first last p
      → IsDone p (flight_before h xs last me)
  done first last p m less b held none =
      run_tells h xs six (λ place f. IsDone p f) me (suc first) last (omega (arith, less)) (begins_done p first m b held) (λ place f quiet old. old)
      (λ place low high old moment clock event before here. stays_done first last p none place (omega (arith, low)) high event before here moment clock old)

  -- and it was sent
  pub sent_then : (first last p : ℕ) (m n : SegmentPlan) (b : IsBuilt h xs first me m) → Holds m p → first < last → (c : IsBuilt h xs last me n)
      → Holds n p → p < c.before.snd_max
  sent_then first last p m n b held less c held_again =
      let low = sent_next p first m b held in
      let rise = made_rises h xs lawful me (suc first) last (omega (arith, less)) in
      let held_low = held_again.0 in
      let held_high = held_again.1 in
      let same : c.before.snd_max ≡ (seen_before h xs last me).snd_max =
      ap (λ (v : View). v.snd_max) (building h xs lawful six last me n c (omega (arith, held_low, held_high))).is in
      omega (arith, low, rise, same)

  -- so what goes again may
  pub may_then : Dutiful h (first_known h) xs → judges_repeats h.congestion ≡ true → (last p : ℕ) (n : SegmentPlan) (c : IsBuilt h xs last me n)
      → Holds n p → p < c.before.snd_max → may_go_again (c.step.0 + h.grain) c.before n (flight_before h xs last me) ≡ true
  may_then may judged last p n c held sent =
      may_of (goes_again c.before n) (may_go_again (c.step.0 + h.grain) c.before n (flight_before h xs last me))
      (again c.before n p c.no_fin_alone held sent) (accepted h xs me six may judged last n c)
