-- An endpoint that is in fast recovery began it: what is kept says so only then, and until when.
use Rattle.std.proofs.Common.{◌≡◌, ℕ, suc, ◌<◌, ◌≤◌, ◌⊎◌, inl, inr, Bool, true, false, List, refl, ap, sym, subst, ◌∙◌}
use Rattle.std.proofs.Common.{le_refl, arith}
use Rattle.std.specs.Prelude.{if◌then◌else◌, nat_le, nat_lt}
use Rattle.std.proofs.Math.Nat.{eq-or-lt_of_le}
use Rattle.std.proofs.lemmas.Bool.Decides.{nat_tests}
use Rattle.case_forms.specs.Versions.{says_sender}
use Rattle.case_forms.specs.declared.timer.RecoveryChange.TheVariants.{Begins, IsUndone}
use Rattle.case_forms.specs.declared.timer.Timer.TheVariants.{Rto}
use Rattle.case_forms.specs.declared.trace.Header.{Header}
use Rattle.spec_network.specs.Hosts.{Stamped}
use Rattle.spec_tcp.specs.Machine.{tcp_shape}
use Rattle.spec_tcp.specs.declared.endpoint.EndpointId.{EndpointId}
use Rattle.spec_tcp_laws.proofs.Rules.{both_true}
use Rattle.spec_duties.specs.declared.events.Event.{Event}
use Rattle.spec_duties.specs.declared.events.Event.TheVariants.{Expires, Processes, Recovers}
use Rattle.spec_duties.specs.declared.views.View.{View}
use Rattle.spec_flights.specs.Recovering.{is_repairing, recovery_after}
use Rattle.spec_flights.specs.declared.recovery.Recovery.{Recovery}
use Rattle.kept_flights.specs.Places.{Happens, observed, seen_before}
use Rattle.kept_flights.specs.Reported.{HasBegunRecovery}
use Rattle.kept_flights.proofs.Runs.{flight_before, one_event, run_shows}

abbrev is_timeout : Event → Bool
is_timeout (Expires Rto) = true
is_timeout event = false

ends : (event : Event) (after : View) (r : Recovery) → is_timeout event ≡ true → (recovery_after event after r).is_fast ≡ false
ends (Expires Rto) after r is = refl
ends event after r is = absurd cc

abbrev is_undo : Event → Bool
is_undo (Recovers IsUndone) = true
is_undo event = false

closes : (event : Event) (after : View) (r : Recovery) → is_undo event ≡ true → (recovery_after event after r).point ≡ 0
closes (Recovers IsUndone) after r is = refl
closes event after r is = absurd cc

-- it began now, or lasts
lasts : (event : Event) (after : View) (r : Recovery) → (recovery_after event after r).is_fast ≡ true
    → (event ≡ Recovers Begins) ⊎ ((r.is_fast ≡ true) × ((recovery_after event after r).point ≤ r.point))
lasts (Expires Rto) after r is = absurd cc
lasts (Recovers Begins) after r is = inl refl
lasts (Recovers IsUndone) after r is = inr (is, omega arith)
lasts event after r is = by (nat_le r.point after.snd_una) is
  where
    by : (b : Bool) → (if b then record r { point = 0 } else r).is_fast ≡ true
        → (event ≡ Recovers Begins) ⊎ ((r.is_fast ≡ true) × ((if b then record r { point = 0 } else r).point ≤ r.point))
    by true is = inr (is, omega arith)
    by false is = inr (is, le_refl r.point)

-- an acknowledgment leaves some of it
pub leaves_some : (length : ℕ) (rst : Bool) (after : View) (r : Recovery) → is_repairing after (recovery_after (Processes length rst) after r) ≡ true
    → (r.is_fast ≡ true) × (after.snd_una < r.point)
leaves_some length rst after r = by (nat_le r.point after.snd_una)
  where
    by : (b : Bool) → is_repairing after (if b then record r { point = 0 } else r) ≡ true → (r.is_fast ≡ true) × (after.snd_una < r.point)
    by true is = let none : after.snd_una < 0 = grind (arith, nat_tests, (both_true (nat_lt after.snd_una 0) r.is_fast is).0) in absurd (omega (arith, none))
    by false is =
        let both = both_true (nat_lt after.snd_una r.point) r.is_fast is in
        (both.1, grind (arith, nat_tests, both.0))

-- ---- in a run

module _ (h : Header) (xs : List (Stamped tcp_shape)) (me : EndpointId) (six : says_sender h.version ≡ true) where
  -- it isn't undone after a place, and before another
  abbrev pub NotUndone : (begun place : ℕ) → Type 0
  NotUndone begun place =
      (later : ℕ) (view : View) → begun < later → later < place → Happens (observed h xs later) me (Recovers IsUndone) view → ⊥

  pub record IsBegun (place point : ℕ) : Type 0 where
    pub recovery : HasBegunRecovery h xs place me
    pub within : point ≤ (seen_before h xs (suc recovery.begun) me).snd_max
    pub lasts_on : (point ≡ 0) ⊎ NotUndone recovery.begun place

  -- what doesn't happen up to a place, nor at it
  not_at : (begun place : ℕ) (event : Event) → ((view : View) → Happens (observed h xs place) me event view → ⊥)
      → ((n : ℕ) (view : View) → begun < n → n < place → Happens (observed h xs n) me event view → ⊥)
      → (n : ℕ) (view : View) → begun < n → n < suc place → Happens (observed h xs n) me event view → ⊥
  not_at begun place event now before n view over under = by (eq-or-lt_of_le (let le : n ≤ place = omega (arith, under) in le))
    where
      by : (n ≡ place) ⊎ (n < place) → Happens (observed h xs n) me event view → ⊥
      by (inl same) here = now view (subst (λ (k : ℕ). Happens (observed h xs k) me event view) same here)
      by (inr less) here = before n view over less here

  begun_later : (place point more : ℕ) → more ≤ point → ((view : View) → Happens (observed h xs place) me (Expires Rto) view → ⊥)
      → (more ≡ 0) ⊎ ((view : View) → Happens (observed h xs place) me (Recovers IsUndone) view → ⊥) → IsBegun place point → IsBegun (suc place) more
  begun_later place point more fewer none lasting b =
      let r = b.recovery in
      let low = r.begun_before in
      let within = b.within in
      record {
        recovery = record {
          begun = r.begun;
          begun_before = omega (arith, low);
          before = r.before;
          begins = r.begins;
          no_timeout = not_at r.begun place (Expires Rto) none r.no_timeout;
        };
        within = omega (arith, fewer, within);
        lasts_on = by lasting b.lasts_on;
      }
    where
      by : (more ≡ 0) ⊎ ((view : View) → Happens (observed h xs place) me (Recovers IsUndone) view → ⊥)
          → (point ≡ 0) ⊎ NotUndone b.recovery.begun place → (more ≡ 0) ⊎ NotUndone b.recovery.begun (suc place)
      by (inl over) before = inl over
      by (inr now) (inl over) = inl (omega (arith, fewer, over))
      by (inr now) (inr before) = inr (not_at b.recovery.begun place (Recovers IsUndone) now before)

  begun_after : (place : ℕ) (event : Event) (before : View) (r : Recovery) → Happens (observed h xs place) me event before
      → (r.is_fast ≡ true → IsBegun place r.point) → (recovery_after event (seen_before h xs (suc place) me) r).is_fast ≡ true
      → IsBegun (suc place) (recovery_after event (seen_before h xs (suc place) me) r).point
  begun_after place event before r here old is = by (is_timeout event) refl
    where
      begins : event ≡ Recovers Begins → IsBegun (suc place) (recovery_after event (seen_before h xs (suc place) me) r).point
      begins same = record {
        recovery = record {
          begun = place;
          begun_before = omega arith;
          before = before;
          begins = subst (λ (e : Event). Happens (observed h xs place) me e before) same here;
          no_timeout = λ n view over under there. omega (arith, over, under);
        };
        within =
            subst (λ (e : Event). (recovery_after e (seen_before h xs (suc place) me) r).point ≤ (seen_before h xs (suc place) me).snd_max) (sym same)
            (le_refl (seen_before h xs (suc place) me).snd_max);
        lasts_on = inr (λ n view over under there. omega (arith, over, under));
      }

      undone : (b : Bool) → is_undo event ≡ b → ((recovery_after event (seen_before h xs (suc place) me) r).point ≡ 0)
          ⊎ ((view : View) → Happens (observed h xs place) me (Recovers IsUndone) view → ⊥)
      undone true is = inl (closes event (seen_before h xs (suc place) me) r is)
      undone false is =
          inr (λ view there.
          let same = one_event (observed h xs place) me event (Recovers IsUndone) before view here there in
          let bad : true ≡ false = sym (ap is_undo same.0) ∙ is in
          cc)

      stays : is_timeout event ≡ false
          → (event ≡ Recovers Begins) ⊎ ((r.is_fast ≡ true) × ((recovery_after event (seen_before h xs (suc place) me) r).point ≤ r.point))
          → IsBegun (suc place) (recovery_after event (seen_before h xs (suc place) me) r).point
      stays none (inl same) = begins same
      stays none (inr was) =
          begun_later place r.point (recovery_after event (seen_before h xs (suc place) me) r).point was.1
          (λ view there.
          let same = one_event (observed h xs place) me event (Expires Rto) before view here there in
          let bad : true ≡ false = sym (ap is_timeout same.0) ∙ none in
          cc) (undone (is_undo event) refl) (old was.0)

      by : (b : Bool) → is_timeout event ≡ b → IsBegun (suc place) (recovery_after event (seen_before h xs (suc place) me) r).point
      by true ends_it = absurd (let bad : true ≡ false = sym is ∙ ends event (seen_before h xs (suc place) me) r ends_it in cc)
      by false none = stays none (lasts event (seen_before h xs (suc place) me) r is)

  pub begun : (place : ℕ) → (flight_before h xs place me).recovery.is_fast ≡ true → IsBegun place (flight_before h xs place me).recovery.point
  begun place =
      run_shows h xs six (λ n f. f.recovery.is_fast ≡ true → IsBegun n f.recovery.point) me place (λ e. absurd cc)
      (λ n f none old is. begun_later n f.recovery.point f.recovery.point (le_refl f.recovery.point) (λ view here. none (Expires Rto) view here)
      (inr (λ view here. none (Recovers IsUndone) view here)) (old is))
      (λ n old moment clock event before here is. begun_after n event before (flight_before h xs n me).recovery here old is)
