-- What is built again without another reason is a rescue.
use Rattle.std.proofs.Common.{◌≡◌, ℕ, suc, ◌+◌, ◌-◌, ◌<◌, ◌≤◌, ◌⊎◌, inl, inr, min, Bool, true, false, List, Option}
use Rattle.std.proofs.Common.{Some, None, refl, ap, sym, subst, ◌∙◌, arith}
use Rattle.std.specs.Prelude.{◌&&◌, ◌||◌, if◌then◌else◌, nat_eq, not, slice_get}
use Rattle.std.specs.FinSet.{from_list}
use Rattle.std.proofs.Math.Nat.{eq-or-lt_of_le}
use Rattle.std.proofs.lemmas.Bool.{cases_lt}
use Rattle.std.proofs.lemmas.Bool.Decides.{nat_tests}
use Rattle.case_forms.specs.Versions.{says_sender}
use Rattle.case_forms.specs.declared.steps.SegmentPlan.{SegmentPlan}
use Rattle.case_forms.specs.declared.timer.RecoveryChange.TheVariants.{IsUndone}
use Rattle.case_forms.specs.declared.timer.Timer.TheVariants.{Pto}
use Rattle.case_forms.specs.declared.trace.Header.{Header}
use Rattle.streams.specs.Ranges.{covers, meets}
use Rattle.streams.specs.declared.outstanding.Outstanding.{Outstanding}
use Rattle.streams.proofs.RangeLemmas.{counted_all, covers_each}
use Rattle.spec_network.specs.Hosts.{Stamped}
use Rattle.spec_network.specs.HostSteps.{Lawful, start}
use Rattle.spec_tcp.specs.Machine.{tcp, tcp_shape}
use Rattle.spec_tcp.specs.Makes.Payload.{making_length}
use Rattle.spec_tcp.specs.declared.endpoint.EndpointId.{EndpointId}
use Rattle.spec_tcp_laws.proofs.Rules.{both_true}
use Rattle.spec_duties.specs.Resent.{judges_repeats}
use Rattle.spec_duties.specs.declared.events.Event.TheVariants.{Builds, Expires, Processes, Recovers}
use Rattle.spec_duties.specs.declared.views.View.{View}
use Rattle.spec_flights.specs.Flights.{Flight, are_free, free_below, is_free, is_probe, is_rescue, may_go_again}
use Rattle.spec_flights.specs.Flights.{recovers_selectively, sends_nothing_new, uses_rescue}
use Rattle.spec_flights.specs.Late.{has_below, lost_below, reordering_time, resent_below, three_are_told}
use Rattle.spec_flights.specs.Marks.{goes_again, old_part}
use Rattle.spec_flights.specs.Probing.{is_due}
use Rattle.spec_flights.specs.Recovering.{is_recovering, is_repairing}
use Rattle.spec_flights.specs.Sides.{are_selective}
use Rattle.spec_flights.specs.declared.making.Latest.{Latest}
use Rattle.spec_cases.specs.Cases.{Dutiful, first_known}
use Rattle.kept_flights.specs.Places.{Happens, observed, seen_before}
use Rattle.kept_flights.specs.Reasons.{Did, Never}
use Rattle.kept_flights.specs.Reported.{BothPermit}
use Rattle.kept_flights.proofs.Accepted.{again}
use Rattle.kept_flights.proofs.Begun.{IsBegun, NotUndone, begun}
use Rattle.kept_flights.proofs.Building.{Building, building}
use Rattle.kept_flights.proofs.Done.{HasLow, IsDone, done, free_low, may_then, sent_then, sides_at}
use Rattle.kept_flights.proofs.Kept.{Told}
use Rattle.kept_flights.proofs.Plain.{both_permit}
use Rattle.kept_flights.proofs.Runs.{flight_before, one_event}
use Rattle.kept_flights.proofs.Stays.{selective}
use Rattle.kept_repeats.specs.Rescues.{IsRepeat, IsRescue, RepeatsAreRescues}
use Rattle.kept_repeats.proofs.Heard.{lost_below_top, top}
use Rattle.kept_repeats.proofs.Latest.{IsMade, traced}
use Rattle.kept_repeats.proofs.Placing.{built_later}
use Rattle.kept_repeats.proofs.Probes.{IsTimed, timed}
use Rattle.kept_repeats.proofs.Recovers.{recovers}
use Rattle.kept_repeats.proofs.Told.{was_reported}

-- what may go again is free, or the probe, or a rescue
pub data MayGo (clock : ℕ) (v : View) (m : SegmentPlan) (f : Flight) : Type 0 where
  ByReasons : (is : are_free (free_below clock v f) f (old_part v m) ≡ true) → MayGo clock v m f
  ByProbe : (is : is_probe v m f ≡ true) → MayGo clock v m f
  ByRescue : (is : is_rescue clock v f (old_part v m) ≡ true) → MayGo clock v m f

may_go : (clock : ℕ) (v : View) (m : SegmentPlan) (f : Flight) → may_go_again clock v m f ≡ true → MayGo clock v m f
may_go clock v m f is = by (are_free (free_below clock v f) f (old_part v m)) refl (is_probe v m f) refl is
  where
    by : (free : Bool) → are_free (free_below clock v f) f (old_part v m) ≡ free → (probe : Bool) → is_probe v m f ≡ probe
        → (free || probe || is_rescue clock v f (old_part v m)) ≡ true → MayGo clock v m f
    by true free probe other is = ByReasons free
    by false free true probe is = ByProbe probe
    by false free false probe is = ByRescue is

-- the parts of a rescue
pub record Rescues (v : View) (f : Flight) (upto : ℕ) : Type 0 where
  pub both : are_selective f.sides ≡ true
  pub repairs : is_repairing v f.recovery ≡ true
  pub unused : f.rescued ≡ false
  pub nothing_new : sends_nothing_new v ≡ true
  pub covered : covers (from_list f.board.told) upto v.snd_max ≡ true

pub rescue_parts : (clock : ℕ) (v : View) (m : SegmentPlan) (f : Flight) → is_rescue clock v f (old_part v m) ≡ true
    → Rescues v f (old_part v m).upto
rescue_parts clock v m f is =
    by (are_selective f.sides) refl (is_repairing v f.recovery) refl f.rescued refl (sends_nothing_new v) refl
    (meets (from_list f.board.told) (old_part v m).from (old_part v m).upto) (covers (from_list f.board.told) (old_part v m).upto v.snd_max) refl is
  where
    rest : Bool
    rest = not (has_below (resent_below true clock f.board) v f.board)

    by : (a : Bool) → are_selective f.sides ≡ a → (b : Bool) → is_repairing v f.recovery ≡ b → (c : Bool) → f.rescued ≡ c
        → (d : Bool) → sends_nothing_new v ≡ d → (e g : Bool) → covers (from_list f.board.told) (old_part v m).upto v.snd_max ≡ g
        → (a && b && not c && d && not e && g && rest) ≡ true → Rescues v f (old_part v m).upto
    by true a true b false c true d false true g is = record { both = a; repairs = b; unused = c; nothing_new = d; covered = g }
    by false a b x c y d z e g w is = absurd cc
    by true a false x c y d z e g w is = absurd cc
    by true a true x true y d z e g w is = absurd cc
    by true a true x false y false z e g w is = absurd cc
    by true a true x false y true z true g w is = absurd cc
    by true a true x false y true z false false w is = absurd cc

module _ (h : Header) (xs : List (Stamped tcp_shape)) (six : says_sender h.version ≡ true) (judged : judges_repeats h.congestion ≡ true)
    (lawful : Lawful (tcp h) (start (tcp h)) xs) (may : Dutiful h (first_known h) xs) (first last : ℕ) (me : EndpointId) (n : SegmentPlan)
    (r : IsRepeat h xs me n first last) where
  abbrev f : Flight
  f = flight_before h xs last me

  abbrev p : ℕ
  p = r.position

  abbrev v : View
  v = r.built_again.before

  abbrev pub clock : ℕ
  clock = r.built_again.step.0 + h.grain

  is_building : Building h xs last me n v
  is_building = building h xs lawful six last me n r.built_again (let low = r.held.0 in let high = r.held.1 in omega (arith, low, high))

  sent : p < v.snd_max
  sent = sent_then h xs me six lawful first last p r.built.0 n r.built.1 r.built.2 r.order r.built_again r.held

  pub goes : MayGo clock v n f
  goes = may_go clock v n f (may_then h xs me six lawful may judged last p n r.built_again r.held sent)

  -- nothing marks it, or gives it up
  is_done : IsDone p f
  is_done = done h xs me six lawful first last p r.built.0 r.order r.built.1 r.built.2 (record {
    no_timeout = r.no_timeout;
    no_persist_timeout = r.no_persist_timeout;
    no_opening = r.no_opening;
    no_recovery = r.no_recovery;
    no_part = λ place low high plain part. r.no_part place low high (not_both place plain part.before part.length part.rst part.happens, part);
    no_lone_syn = r.no_lone_syn;
    no_second_syn = r.no_second_syn;
  })
    where
      not_both : (place : ℕ) → are_selective (sides_at h xs me place) ≡ false → (before : View) (length : ℕ) (rst : Bool)
          → Happens (observed h xs place) me (Processes length rst) before → BothPermit h xs place me → ⊥
      not_both place plain before length rst here both =
          let bad : true ≡ false = sym (selective h xs me six lawful place both (Processes length rst) before here) ∙ plain in
          cc

  -- what it was built last with isn't older than the first of the two
  not_older : (number : ℕ) (x : IsMade h xs me six last p number) → first ≤ x.built
  not_older number x = by (cases_lt x.built first)
    where
      by : (x.built < first) ⊎ (first ≤ x.built) → first ≤ x.built
      by (inl under) = absurd (x.last.not_since first under r.order r.built)
      by (inr is) = is

  una : v.snd_una ≡ (seen_before h xs last me).snd_una
  una = ap (λ (x : View). x.snd_una) is_building.is

  top_is : v.snd_max ≡ (seen_before h xs last me).snd_max
  top_is = ap (λ (x : View). x.snd_max) is_building.is

  -- if it is lost, something was delivered that was built later
  no_lost : (o : Outstanding) → slice_get f.board.known p ≡ Some (Some o) → is_recovering v f.recovery ≡ true → o.number < top f.board.latest → ⊥
  no_lost o known recovering less = by f.board.latest refl less
    where
      in_recovery : v.snd_una < f.recovery.point
      in_recovery = grind (arith, nat_tests, recovering)

      by : (l : Option Latest) → f.board.latest ≡ l → o.number < top l → ⊥
      by None is under = absurd (omega (arith, under))
      by (Some l) is under =
          let t = traced h xs me six lawful last in
          let made = t.made p o known in
          let heard = t.heard_of l is in
          let one = made.number_is in
          let two = heard.made.number_is in
          let low = not_older o.number made in
          let later = built_later h xs made.built heard.made.built (omega (arith, one, two, under)) in
          r.no_loss (record {
            recovers = recovers h xs me six last (omega (arith, in_recovery, una));
            later = record {
              position = heard.position;
              built = heard.made.built;
              later = omega (arith, low, later);
              delivered = heard.delivered_at;
              last = heard.made.last;
              delivers = heard.delivers;
              before = heard.earlier;
            };
          })

  pub no_reasons : (at : ℕ) → are_free (free_below at v f) f (old_part v n) ≡ true → ⊥
  no_reasons at free =
      by (recovers_selectively v f) refl
      (free_low (free_below at v f) f p is_done.unmarked
      (counted_all (is_free (free_below at v f) f) n.pos (min (n.pos + making_length n) v.snd_max - n.pos) free p low
      (omega (arith, low, high, sent))))
    where
      low : n.pos ≤ p
      low = r.held.0

      high : p < n.pos + making_length n
      high = r.held.1

      lost_low : lost_below true at f.board ≤ top f.board.latest
      lost_low =
          lost_below_top (true || three_are_told f.board) at (reordering_time f.board) f.board.latest f.board.lost f.board.built
          (traced h xs me six lawful last).low

      by : (c : Bool) → recovers_selectively v f ≡ c
          → HasLow (if c then resent_below true at f.board else suc f.board.given_up) f p → ⊥
      by true recovers x =
          let less = x.low in
          let above = is_done.above x.made x.known in
          let top_low = lost_low in
          no_lost x.made x.known (both_true (are_selective f.sides) (is_recovering v f.recovery) recovers).1 (omega (arith, less, above, top_low))
      by false recovers x =
          let less = x.low in
          let above = is_done.above x.made x.known in
          omega (arith, less, above)

  -- if it is the probe, that became due since
  probe_parts : (a b t : Bool) → (a && b && not t) ≡ true → (a ≡ true) × (b ≡ true)
  probe_parts true true t is = (refl, refl)
  probe_parts true false t is = absurd cc
  probe_parts false b t is = absurd cc

  pub no_probe : is_probe v n f ≡ true → ⊥
  no_probe is =
      r.no_probe (record {
        expired = t.expired;
        after = by (cases_lt first t.expired);
        before = t.earlier;
        expires = t.expires;
        is_first = t.is_first;
        ends = same_number parts.1 ∙ top_is;
      })
    where
      parts : (is_due f.probing.probe ≡ true) × (nat_eq (n.pos + making_length n) v.snd_max ≡ true)
      parts =
          probe_parts (is_due f.probing.probe) (nat_eq (n.pos + making_length n) v.snd_max)
          (meets (from_list f.board.told) (old_part v n).from (old_part v n).upto) is

      same_number : nat_eq (n.pos + making_length n) v.snd_max ≡ true → n.pos + making_length n ≡ v.snd_max
      same_number same = grind (arith, nat_tests, same)

      t : IsTimed h xs me six last
      t = timed h xs me six last parts.0

      other : t.expired ≡ first → ⊥
      other same =
          let there : Happens (observed h xs first) me (Expires Pto) t.expires.0 =
          subst (λ (k : ℕ). Happens (observed h xs k) me (Expires Pto) t.expires.0) same t.expires.1 in
          let bad = (one_event (observed h xs first) me (Expires Pto) (Builds r.built.0) t.expires.0 r.built.1.before there r.built.1.happens).0 in
          cc

      by : (first < t.expired) ⊎ (t.expired ≤ first) → first < t.expired
      by (inl less) = less
      by (inr le) = or (eq-or-lt_of_le le)
        where
          or : (t.expired ≡ first) ⊎ (t.expired < first) → first < t.expired
          or (inl same) = absurd (other same)
          or (inr under) =
              let low = r.built.2.0 in
              let high = r.built.2.1 in
              absurd (t.is_first first under r.order (r.built.0, r.built.1, omega (arith, low, high)))

  -- a rescue
  pub rescue : Rescues v f (old_part v n).upto → IsRescue h xs me n last
  rescue parts = record {
    both = both_permit h xs me six last parts.both;
    recovery = b.recovery;
    no_undo = lasting b.lasts_on;
    part = let within = b.within in omega (arith, repairs, within, una);
    nothing_new = subst (λ (x : View). sends_nothing_new x ≡ true) is_building.is parts.nothing_new;
    is_last = λ q low high. was_reported h xs me six q last (reported q low high);
  }
    where
      repairs : v.snd_una < f.recovery.point
      repairs = grind (arith, nat_tests, (both_true (is_recovering v f.recovery) f.recovery.is_fast parts.repairs).0)

      b : IsBegun h xs me six last f.recovery.point
      b = begun h xs me six last (both_true (is_recovering v f.recovery) f.recovery.is_fast parts.repairs).1

      lasting : (f.recovery.point ≡ 0) ⊎ NotUndone h xs me six b.recovery.begun last → Never b.recovery.begun last (Did h xs me (Recovers IsUndone))
      lasting (inl over) place low high did = absurd (omega (arith, over, repairs))
      lasting (inr never) place low high did = never place did.0 low high did.1

      reported : (q : ℕ) → n.pos + making_length n ≤ q → q < (seen_before h xs last me).snd_max → Told q f.board
      reported q low high =
          covers_each (from_list f.board.told) (min (n.pos + making_length n) v.snd_max) v.snd_max parts.covered q (omega (arith, low))
          (omega (arith, high, top_is))

  is_rescue_then : MayGo clock v n f → Rescues v f (old_part v n).upto
  is_rescue_then (ByReasons is) = absurd (no_reasons clock is)
  is_rescue_then (ByProbe is) = absurd (no_probe is)
  is_rescue_then (ByRescue is) = rescue_parts clock v n f is

  -- so it uses the rescue, if it is one
  pub is_used : (at : ℕ) → uses_rescue at v n f ≡ true
  is_used at =
      by (are_free (free_below at v f) f (old_part v n)) refl (is_probe v n f) refl (again v n p r.built_again.no_fin_alone r.held sent)
    where
      by : (free : Bool) → are_free (free_below at v f) f (old_part v n) ≡ free → (probe : Bool) → is_probe v n f ≡ probe → goes_again v n ≡ true
          → (goes_again v n && not (free || probe)) ≡ true
      by true free probe other old = absurd (no_reasons at free)
      by false free true probe old = absurd (no_probe probe)
      by false free false probe old = (λ i. old i && true)

  pub parts_then : Rescues v f (old_part v n).upto
  parts_then = is_rescue_then goes

pub rescues : (h : Header) (xs : List (Stamped tcp_shape)) → says_sender h.version ≡ true → judges_repeats h.congestion ≡ true
    → Lawful (tcp h) (start (tcp h)) xs → Dutiful h (first_known h) xs → RepeatsAreRescues h xs
rescues h xs six judged lawful may first last me n r =
    rescue h xs six judged lawful may first last me n r (parts_then h xs six judged lawful may first last me n r)
