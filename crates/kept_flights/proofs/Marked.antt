-- What a step marks, and what stays marked.
use Rattle.std.proofs.Common.{◌≡◌, ℕ, ◌<◌, ◌⊎◌, inl, inr, Bool, true, false, List, Option, Some, None, refl, ap, sym, subst, ◌∙◌, arith}
use Rattle.std.specs.Prelude.{◌||◌, if◌then◌else◌, not}
use Rattle.std.specs.Cmp.{nat_cmp_total}
use Rattle.std.specs.FinSet.{FinSet, contains, contains-difference, contains-union, difference, from_list, union}
use Rattle.std.specs.Ordering.{nat_cmp}
use Rattle.std.proofs.lemmas.Bool.Decides.{nat_tests}
use Rattle.case_forms.specs.declared.timer.RecoveryChange.TheVariants.{Begins}
use Rattle.case_forms.specs.declared.timer.Timer.TheVariants.{Rto}
use Rattle.streams.specs.Ranges.{span}
use Rattle.streams.proofs.RangeLemmas.{contains-span}
use Rattle.spec_tcp_laws.proofs.Rules.{both_true, not_true}
use Rattle.spec_duties.specs.Events.{acknowledges_more}
use Rattle.spec_duties.specs.declared.events.Event.{Event}
use Rattle.spec_duties.specs.declared.events.Event.TheVariants.{Expires, Processes, Recovers}
use Rattle.spec_duties.specs.declared.observations.SynChange.{SynChange}
use Rattle.spec_duties.specs.declared.observations.SynChange.TheVariants as syn_change
use Rattle.spec_duties.specs.declared.views.View.{View}
use Rattle.spec_duties.specs.declared.observations.Block.{Block}
use Rattle.spec_duties.specs.declared.observations.Blocks.{Blocks}
use Rattle.spec_flights.specs.Delivered.{read_reports, report_of, without_reports}
use Rattle.spec_flights.specs.Sides.{are_selective}
use Rattle.spec_flights.specs.Flights.{Flight, marks_oldest, repairs_plainly}
use Rattle.spec_flights.specs.Marks.{marked_by, marked_by_event, marks_after, oldest_segment, own_syn, taken_by}
use Rattle.spec_flights.specs.Stretches.{no_positions}
use Rattle.spec_flights.specs.declared.recovery.Recovery.{Recovery}
use Rattle.spec_flights.specs.declared.reports.Reports.{Reports}
use Rattle.spec_flights.specs.declared.sides.Sides.{Sides}
use Rattle.spec_flights.specs.declared.stretch.Stretch.{Stretch}
use Rattle.flight_parts.proofs.SetLemmas.{read_back}
use Rattle.kept_flights.specs.Reported.{is_within, reports}
use Rattle.kept_flights.proofs.Kept.{holds}

module _ (p : ℕ) where
  abbrev pub IsMarked : List ℕ → Type 0
  IsMarked marks = contains {K = ℕ} {R = nat_cmp} (from_list marks) p ≡ true

  -- ---- what stays marked was, and isn't taken; or it is marked now

  pub kept : (s t : FinSet nat_cmp) → contains (difference s t) p ≡ true → contains s p ≡ true
  kept s t is = (both_true (contains s p) (not (contains t p)) (sym (contains-difference nat_cmp_total s t p) ∙ is)).0

  kept_out : (s : FinSet nat_cmp) (t : Stretch) → contains (difference s (span t.from t.upto)) p ≡ true → holds p t ≡ false
  kept_out s t is =
      let out = (both_true (contains s p) (not (contains (span t.from t.upto) p)) (sym (contains-difference nat_cmp_total s (span t.from t.upto) p) ∙ is)).1 in
      sym (contains-span t.from t.upto p) ∙ not_true (contains (span t.from t.upto) p) out

  unreported : (s : FinSet nat_cmp) (r : Reports) → contains (without_reports s r) p ≡ true → contains s p ≡ true
  unreported s r is =
      kept s (span r.first.from r.first.upto) (kept _ (span r.second.from r.second.upto)
      (kept _ (span r.third.from r.third.upto) (kept _ (span r.fourth.from r.fourth.upto) is)))

  pub in_either : (s : FinSet nat_cmp) (t : Stretch) → contains (union s (span t.from t.upto)) p ≡ true → (contains s p ≡ true) ⊎ (holds p t ≡ true)
  in_either s t is =
      by (contains s p) refl
      (sym (contains-union nat_cmp_total s (span t.from t.upto) p ∙ ap (λ b. contains s p || b) (contains-span t.from t.upto p)) ∙ is)
    where
      by : (b : Bool) → contains s p ≡ b → (contains s p || holds p t) ≡ true → (contains s p ≡ true) ⊎ (holds p t ≡ true)
      by true here all = inl here
      by false out all = inr (sym (ap (λ b. b || holds p t) out) ∙ all)

  -- what is marked before a step, and isn't taken by it, nor reported
  abbrev left_by : (event : Event) (before : View) → Reports → (marks : List ℕ) → FinSet nat_cmp
  left_by event before r marks =
      without_reports (difference (from_list marks) (span (taken_by event before).from (taken_by event before).upto)) r

  marked_or : (change : SynChange) (event : Event) (before after : View) (r : Reports) (oldest : Bool) (marks : List ℕ)
      → IsMarked (marks_after change event before after r oldest marks)
      → (contains (left_by event before r marks) p ≡ true) ⊎ (holds p (marked_by change event after oldest) ≡ true)
  marked_or change event before after r oldest marks is =
      in_either (left_by event before r marks) marked
      (kept (union (left_by event before r marks) (span marked.from marked.upto)) (span 0 after.snd_una)
      (sym (ap (λ (t : FinSet nat_cmp). contains t p)
      (read_back (difference (union (left_by event before r marks) (span marked.from marked.upto)) (span 0 after.snd_una)))) ∙ is))
    where
      marked : Stretch
      marked = marked_by change event after oldest

  pub marked_from : (change : SynChange) (event : Event) (before after : View) (r : Reports) (oldest : Bool) (marks : List ℕ)
      → IsMarked (marks_after change event before after r oldest marks)
      → (IsMarked marks × (holds p (taken_by event before) ≡ false)) ⊎ (holds p (marked_by change event after oldest) ≡ true)
  marked_from change event before after r oldest marks is = by (marked_or change event before after r oldest marks is)
    where
      taken : Stretch
      taken = taken_by event before

      by : (contains (left_by event before r marks) p ≡ true) ⊎ (holds p (marked_by change event after oldest) ≡ true)
          → (IsMarked marks × (holds p taken ≡ false)) ⊎ (holds p (marked_by change event after oldest) ≡ true)
      by (inl here) =
          let rest = unreported (difference (from_list marks) (span taken.from taken.upto)) r here in
          inl (kept (from_list marks) (span taken.from taken.upto) rest, kept_out (from_list marks) taken rest)
      by (inr now) = inr now

  -- ---- what is reported now is marked only if it is marked now

  no_block : (b : Option Block) → holds p (report_of b) ≡ false → is_within p b ≡ false
  no_block None out = refl
  no_block (Some k) out = out

  abbrev all_of : Blocks → Reports
  all_of k = record {
    first = report_of k.first;
    second = report_of k.second;
    third = report_of k.third;
    fourth = report_of k.fourth;
  }

  not_reported : (s : FinSet nat_cmp) (k : Blocks) → contains (without_reports s (all_of k)) p ≡ true → reports k p ≡ false
  not_reported s k is =
      let fourth = no_block k.fourth (kept_out _ (report_of k.fourth) is) in
      let three = kept _ (span (report_of k.fourth).from (report_of k.fourth).upto) is in
      let third = no_block k.third (kept_out _ (report_of k.third) three) in
      let two = kept _ (span (report_of k.third).from (report_of k.third).upto) three in
      let second = no_block k.second (kept_out _ (report_of k.second) two) in
      let one = kept _ (span (report_of k.second).from (report_of k.second).upto) two in
      let first = no_block k.first (kept_out s (report_of k.first) one) in
      (λ i. first i || second i || third i || fourth i)

  pub marked_now : (change : SynChange) (event : Event) (before after : View) (sides : Sides) (k : Blocks) (oldest : Bool) (marks : List ℕ)
      → are_selective sides ≡ true → reports k p ≡ true → IsMarked (marks_after change event before after (read_reports sides k) oldest marks)
      → holds p (marked_by change event after oldest) ≡ true
  marked_now change event before after sides k oldest marks both told is =
      by (marked_or change event before after (all_of k) oldest marks
      (subst
      (λ (c : Bool). IsMarked (marks_after change event before after
      (if c then all_of k else record { first = no_positions; second = no_positions; third = no_positions; fourth = no_positions }) oldest marks))
      both is))
    where
      by : (contains (left_by event before (all_of k) marks) p ≡ true) ⊎ (holds p (marked_by change event after oldest) ≡ true)
          → holds p (marked_by change event after oldest) ≡ true
      by (inl left) = let bad : true ≡ false = sym told ∙ not_reported _ k left in absurd cc
      by (inr now) = now

  -- ---- what is marked was sent

  none_holds : holds p no_positions ≡ true → ⊥
  none_holds is = absurd (let bad : p < 0 = grind (arith, nat_tests, is) in omega (arith, bad))

  event_sent : (event : Event) (after : View) (oldest : Bool) → holds p (marked_by_event event after oldest) ≡ true → p < after.snd_max
  event_sent event after oldest = by event
    where
      first : (b : Bool) → holds p (if b then oldest_segment after else no_positions) ≡ true → p < after.snd_max
      first true is = grind (arith, nat_tests, is)
      first false is = absurd (none_holds is)

      by : (event : Event) → holds p (marked_by_event event after oldest) ≡ true → p < after.snd_max
      by (Expires Rto) is = grind (arith, nat_tests, is)
      by event is = first oldest is

  pub marked_sent : (change : SynChange) (event : Event) (after : View) (oldest : Bool) → holds p (marked_by change event after oldest) ≡ true
      → p < after.snd_max
  marked_sent (syn_change.Takes permits true) event after oldest is = grind (arith, nat_tests, is)
  marked_sent syn_change.ComesAgain event after oldest is = grind (arith, nat_tests, is)
  marked_sent change event after oldest is = event_sent event after oldest is

  -- ---- and there is a reason

  pub data IsReason (change : SynChange) (event : Event) (after : View) (oldest : Bool) : Type 0 where
    ByLoneSyn : (permits : Bool) (first : p ≡ 0) (is : change ≡ syn_change.Takes permits true) → IsReason change event after oldest
    BySecondSyn : (first : p ≡ 0) (is : change ≡ syn_change.ComesAgain) → IsReason change event after oldest
    ByTimeout : (is : event ≡ Expires Rto) → IsReason change event after oldest
    ByOldest : (is : oldest ≡ true) (first : holds p (oldest_segment after) ≡ true) → IsReason change event after oldest

  event_reason : (change : SynChange) (event : Event) (after : View) (oldest : Bool) → holds p (marked_by_event event after oldest) ≡ true
      → IsReason change event after oldest
  event_reason change event after oldest = by event
    where
      first : (event : Event) (b : Bool) → holds p (if b then oldest_segment after else no_positions) ≡ true → IsReason change event after b
      first event true is = ByOldest refl is
      first event false is = absurd (none_holds is)

      by : (event : Event) → holds p (marked_by_event event after oldest) ≡ true → IsReason change event after oldest
      by (Expires Rto) is = ByTimeout refl
      by event is = first event oldest is

  first_position : (after : View) → holds p (own_syn after) ≡ true → p ≡ 0
  first_position after is = let low : p < 1 = grind (arith, nat_tests, is) in omega (arith, low)

  pub marked_reason : (change : SynChange) (event : Event) (after : View) (oldest : Bool) → holds p (marked_by change event after oldest) ≡ true
      → IsReason change event after oldest
  marked_reason (syn_change.Takes permits true) event after oldest is = ByLoneSyn permits (first_position after is) refl
  marked_reason syn_change.ComesAgain event after oldest is = BySecondSyn (first_position after is) refl
  marked_reason change event after oldest is = event_reason change event after oldest is

-- the first segment is marked by a beginning of fast recovery, or by an acknowledgment in it
pub data IsFirst (event : Event) (before after : View) (sides : Sides) (r : Recovery) : Type 0 where
  ByBeginning : (is : event ≡ Recovers Begins) → IsFirst event before after sides r
  ByPart : (length : ℕ) (rst : Bool) (is : event ≡ Processes length rst) (more : acknowledges_more before after ≡ true)
      (repairs : repairs_plainly after sides r ≡ true) → IsFirst event before after sides r

pub oldest_first : (clock : ℕ) (event : Event) (before after : View) (sides : Sides) (r : Recovery) (f : Flight)
    → marks_oldest clock event before after sides r f ≡ true → IsFirst event before after sides r
oldest_first clock (Processes length rst) before after sides r f is =
    let both = both_true (acknowledges_more before after) (repairs_plainly after sides r) is in
    ByPart length rst refl both.0 both.1
oldest_first clock (Recovers Begins) before after sides r f is = ByBeginning refl
oldest_first clock event before after sides r f is = absurd cc
