-- An endpoint that recovers from a loss noticed one: by a timeout, or as fast recovery began.
use Rattle.std.proofs.Common.{◌≡◌, ℕ, suc, ◌<◌, ◌≤◌, ◌⊎◌, inl, inr, Bool, true, false, List, refl, ap, sym, subst, ◌∙◌, le_refl, arith}
use Rattle.std.specs.Prelude.{if◌then◌else◌, nat_le}
use Rattle.case_forms.specs.Versions.{says_sender}
use Rattle.case_forms.specs.declared.timer.RecoveryChange.TheVariants.{Begins, IsUndone}
use Rattle.case_forms.specs.declared.timer.Timer.TheVariants.{Rto}
use Rattle.case_forms.specs.declared.trace.Header.{Header}
use Rattle.spec_network.specs.Hosts.{Stamped}
use Rattle.spec_tcp.specs.Machine.{tcp_shape}
use Rattle.spec_tcp.specs.declared.endpoint.EndpointId.{EndpointId}
use Rattle.spec_duties.specs.declared.events.Event.{Event}
use Rattle.spec_duties.specs.declared.events.Event.TheVariants.{Expires, Recovers}
use Rattle.spec_duties.specs.declared.views.View.{View}
use Rattle.spec_flights.specs.Recovering.{recovery_after}
use Rattle.spec_flights.specs.declared.recovery.Recovery.{Recovery}
use Rattle.kept_flights.specs.Places.{Happens, observed, seen_before}
use Rattle.kept_flights.specs.Reasons.{Did, Never}
use Rattle.kept_flights.proofs.Runs.{flight_before, one_event, run_shows}
use Rattle.kept_repeats.specs.Deliveries.{Recovering}
use Rattle.kept_repeats.proofs.Placing.{never_at, never_next}

abbrev is_undo : Event → Bool
is_undo (Recovers IsUndone) = true
is_undo event = false

-- a step begins a recovery, or leaves at most the one before, which isn't undone
data Leads (event : Event) (after : View) (r : Recovery) : Type 0 where
  ByTimeout : (is : event ≡ Expires Rto) → Leads event after r
  ByBeginning : (is : event ≡ Recovers Begins) → Leads event after r
  Ends : (is : (recovery_after event after r).point ≡ 0) → Leads event after r
  Lasts : (is : (recovery_after event after r).point ≡ r.point) (stays : is_undo event ≡ false) → Leads event after r

leads : (event : Event) (after : View) (r : Recovery) → Leads event after r
leads (Expires Rto) after r = ByTimeout refl
leads (Recovers Begins) after r = ByBeginning refl
leads (Recovers IsUndone) after r = Ends refl
leads event after r = by (nat_le r.point after.snd_una) refl
  where
    by : (b : Bool) → nat_le r.point after.snd_una ≡ b → Leads event after r
    by true is = Ends (ap (λ (c : Bool). (if c then record r { point = 0 } else r).point) is)
    by false is = Lasts (ap (λ (c : Bool). (if c then record r { point = 0 } else r).point) is) refl

module _ (h : Header) (xs : List (Stamped tcp_shape)) (me : EndpointId) (six : says_sender h.version ≡ true) where
  record Noticed (place point : ℕ) : Type 0 where
    pub begun : ℕ
    pub begun_before : begun < place
    pub begins : Did h xs me (Expires Rto) begun ⊎ Did h xs me (Recovers Begins) begun
    pub within : point ≤ (seen_before h xs (suc begun) me).snd_max
    pub no_undo : Never begun place (Did h xs me (Recovers IsUndone))

  IsNoticed : (place : ℕ) → Recovery → Type 0
  IsNoticed place r = 0 < r.point → Noticed place r.point

  module _ (place : ℕ) where
    abbrev after : View
    after = seen_before h xs (suc place) me

    noticed_later : (point : ℕ) → ((view : View) → Happens (observed h xs place) me (Recovers IsUndone) view → ⊥) → Noticed place point
        → Noticed (suc place) point
    noticed_later point none n =
        let low = n.begun_before in
        record {
          begun = n.begun;
          begun_before = omega (arith, low);
          begins = n.begins;
          within = n.within;
          no_undo = never_at _ n.begun place n.no_undo (λ did. none did.0 did.1);
        }

    noticed_now : (point : ℕ) → point ≤ after.snd_max → Did h xs me (Expires Rto) place ⊎ Did h xs me (Recovers Begins) place
        → Noticed (suc place) point
    noticed_now point within begins =
        record { begun = place; begun_before = omega arith; begins = begins; within = within; no_undo = never_next _ place }

    noticed_after : (event : Event) (before : View) (r : Recovery) → Happens (observed h xs place) me event before → IsNoticed place r
        → IsNoticed (suc place) (recovery_after event after r)
    unfolding IsNoticed
    noticed_after event before r here old some = by (leads event after r)
      where
        there : (other : Event) → event ≡ other → Happens (observed h xs place) me other before
        there other is = subst (λ (e : Event). Happens (observed h xs place) me e before) is here

        no_undo : is_undo event ≡ false → (view : View) → Happens (observed h xs place) me (Recovers IsUndone) view → ⊥
        no_undo stays view did =
            let same = one_event (observed h xs place) me event (Recovers IsUndone) before view here did in
            let bad : true ≡ false = sym (ap is_undo same.0) ∙ stays in
            cc

        by : Leads event after r → Noticed (suc place) (recovery_after event after r).point
        by (ByTimeout is) =
            noticed_now (recovery_after event after r).point
            (subst (λ (e : Event). (recovery_after e after r).point ≤ after.snd_max) (sym is) (le_refl after.snd_max))
            (inl (before, there (Expires Rto) is))
        by (ByBeginning is) =
            noticed_now (recovery_after event after r).point
            (subst (λ (e : Event). (recovery_after e after r).point ≤ after.snd_max) (sym is) (le_refl after.snd_max))
            (inr (before, there (Recovers Begins) is))
        by (Ends is) = absurd (omega (arith, some, is))
        by (Lasts is stays) =
            subst (λ (n : ℕ). Noticed (suc place) n) (sym is) (noticed_later r.point (no_undo stays) (old (omega (arith, some, is))))

  noticed : (place : ℕ) → IsNoticed place (flight_before h xs place me).recovery
  unfolding IsNoticed
  noticed place =
      run_shows h xs six (λ n f. IsNoticed n f.recovery) me place (λ some. absurd (omega (arith, some)))
      (λ n f none old some. noticed_later n f.recovery.point (λ view here. none (Recovers IsUndone) view here) (old some))
      (λ n old moment clock event before here. noticed_after n event before (flight_before h xs n me).recovery here old)

  pub recovers : (place : ℕ) → (seen_before h xs place me).snd_una < (flight_before h xs place me).recovery.point → Recovering h xs place me
  unfolding IsNoticed
  recovers place less =
      let n = noticed place (omega (arith, less)) in
      let within = n.within in
      record {
        begun = n.begun;
        begun_before = n.begun_before;
        begins = n.begins;
        no_undo = n.no_undo;
        part = omega (arith, less, within);
      }
