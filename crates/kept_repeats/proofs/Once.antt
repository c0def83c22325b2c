-- A fast recovery has one rescue.
use Rattle.std.proofs.Common.{◌≡◌, ℕ, suc, ◌<◌, ◌⊎◌, inl, inr, Bool, true, false, List, refl, ap, sym, subst, ◌∙◌, arith}
use Rattle.std.specs.Prelude.{◌||◌, if◌then◌else◌, nat_le}
use Rattle.case_forms.specs.Versions.{says_sender}
use Rattle.case_forms.specs.declared.timer.RecoveryChange.TheVariants.{Begins, IsUndone}
use Rattle.case_forms.specs.declared.timer.Timer.TheVariants.{Rto}
use Rattle.case_forms.specs.declared.trace.Header.{Header}
use Rattle.spec_network.specs.Hosts.{Stamped}
use Rattle.spec_network.specs.HostSteps.{Lawful, start}
use Rattle.spec_tcp.specs.Machine.{tcp, tcp_shape}
use Rattle.spec_tcp.specs.declared.endpoint.EndpointId.{EndpointId}
use Rattle.spec_tcp_laws.proofs.Rules.{both_true}
use Rattle.spec_duties.specs.Resent.{judges_repeats}
use Rattle.spec_duties.specs.declared.events.Event.{Event}
use Rattle.spec_duties.specs.declared.events.Event.TheVariants.{Builds, Expires, Recovers}
use Rattle.spec_duties.specs.declared.observations.TouchedEndpoint.{TouchedEndpoint}
use Rattle.spec_duties.specs.declared.views.View.{View}
use Rattle.spec_flights.specs.Flights.{Flight, flight_after, uses_rescue}
use Rattle.spec_flights.specs.Recovering.{is_recovering}
use Rattle.spec_flights.specs.declared.recovery.Recovery.{Recovery}
use Rattle.spec_cases.specs.Cases.{Dutiful, first_known}
use Rattle.kept_flights.specs.Places.{Happens, observed, seen_before}
use Rattle.kept_flights.specs.Reasons.{Did}
use Rattle.kept_flights.proofs.Runs.{flight_before, one_event, place_makes, run_tells, touched}
use Rattle.kept_repeats.specs.Rescues.{RescuesComeOnce}
use Rattle.kept_repeats.proofs.Repeating.{is_used, parts_then}

module _ (h : Header) (xs : List (Stamped tcp_shape)) (me : EndpointId) (six : says_sender h.version ≡ true) (from : ℕ) where
  -- fast recovery began between two places
  abbrev HasBegun : (place : ℕ) → Type 0
  HasBegun place = (begun : ℕ) × (from < begun) × (begun < place) × Did h xs me (Recovers Begins) begun

  begun_later : (place : ℕ) → HasBegun place → HasBegun (suc place)
  begun_later place b = let low = b.2 in (b.0, b.1, omega (arith, low), b.3)

  -- the rescue is used, or fast recovery ended by a timeout, or began anew
  abbrev IsSpent : (place : ℕ) → Flight → Type 0
  IsSpent place f = (f.rescued ≡ true) ⊎ ((f.recovery.is_fast ≡ false) ⊎ HasBegun place)

  spent_later : (place : ℕ) (f : Flight) → IsSpent place f → IsSpent (suc place) f
  spent_later place f (inl used) = inl used
  spent_later place f (inr (inl slow)) = inr (inl slow)
  spent_later place f (inr (inr b)) = inr (inr (begun_later place b))

  slow_stays : (after : View) (r : Recovery) → r.is_fast ≡ false → (if nat_le r.point after.snd_una then record r { point = 0 } else r).is_fast ≡ false
  slow_stays after r slow = by (nat_le r.point after.snd_una)
    where
      by : (b : Bool) → (if b then record r { point = 0 } else r).is_fast ≡ false
      by true = slow
      by false = slow

  spent_after : (n moment clock : ℕ) → from < n → (event : Event) (before : View) → Happens (observed h xs n) me event before
      → IsSpent n (flight_before h xs n me)
      → IsSpent (suc n) (flight_after moment clock (observed h xs n) (touched me event before) (seen_before h xs (suc n) me) (flight_before h xs n me))
  spent_after n moment clock less (Expires Rto) before here old = inr (inl refl)
  spent_after n moment clock less (Recovers Begins) before here old = inr (inr (n, less, omega arith, (before, here)))
  spent_after n moment clock less (Recovers IsUndone) before here (inl used) = inl used
  spent_after n moment clock less (Recovers IsUndone) before here (inr (inl slow)) = inr (inl slow)
  spent_after n moment clock less (Recovers IsUndone) before here (inr (inr b)) = inr (inr (begun_later n b))
  spent_after n moment clock less (Builds m) before here (inl used) = inl (ap (λ (b : Bool). b || uses_rescue clock before m (flight_before h xs n me)) used)
  spent_after n moment clock less event before here (inl used) = inl used
  spent_after n moment clock less event before here (inr (inl slow)) =
      inr (inl (slow_stays (seen_before h xs (suc n) me) (flight_before h xs n me).recovery slow))
  spent_after n moment clock less event before here (inr (inr b)) = inr (inr (begun_later n b))

pub once : (h : Header) (xs : List (Stamped tcp_shape)) → says_sender h.version ≡ true → judges_repeats h.congestion ≡ true
    → Lawful (tcp h) (start (tcp h)) xs → Dutiful h (first_known h) xs → RescuesComeOnce h xs
once h xs six judged lawful may first again other later me m n r s less =
    by
    (run_tells h xs six (IsSpent h xs me six again) me (suc again) later (omega (arith, less)) used
    (λ place f none old. spent_later h xs me six again place f old)
    (λ place low high old moment clock event before here.
    spent_after h xs me six again place moment clock (omega (arith, low)) event before here old))
  where
    f : Flight
    f = flight_before h xs later me

    or_true : (b : Bool) → (b || true) ≡ true
    or_true true = refl
    or_true false = refl

    used : IsSpent h xs me six again (suc again) (flight_before h xs (suc again) me)
    used =
        place_makes h xs six (IsSpent h xs me six again (suc again)) me again (Builds m) r.built_again.before r.built_again.happens
        (λ moment clock event before here.
        let same = one_event (observed h xs again) me (Builds m) event r.built_again.before before r.built_again.happens here in
        subst
        (λ (t : TouchedEndpoint). IsSpent h xs me six again (suc again)
        (flight_after moment clock (observed h xs again) t (seen_before h xs (suc again) me) (flight_before h xs again me)))
        (λ i. touched me (same.0 i) (same.1 i))
        (inl ((λ i. (flight_before h xs again me).rescued || is_used h xs six judged lawful may first again me m r clock i)
        ∙ or_true (flight_before h xs again me).rescued)))

    by : IsSpent h xs me six again later f → (begun : ℕ) × (again < begun) × (begun < later) × Did h xs me (Recovers Begins) begun
    by (inl spent) =
        let unused = (parts_then h xs six judged lawful may other later me n s).unused in
        let bad : true ≡ false = sym spent ∙ unused in
        absurd cc
    by (inr (inl slow)) =
        let repairs = (parts_then h xs six judged lawful may other later me n s).repairs in
        let fast = (both_true (is_recovering s.built_again.before f.recovery) f.recovery.is_fast repairs).1 in
        let bad : true ≡ false = sym fast ∙ slow in
        absurd cc
    by (inr (inr b)) = b
