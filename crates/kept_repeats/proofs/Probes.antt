-- A probe for a loss is due only after the line of its timer, until the next segment with positions is built.
use Rattle.std.proofs.Common.{◌≡◌, ℕ, suc, ◌<◌, Bool, true, false, List, refl, sym, subst, ◌∙◌, arith}
use Rattle.std.specs.Prelude.{◌&&◌, if◌then◌else◌, nat_le, nat_lt, not}
use Rattle.std.proofs.lemmas.Bool.Decides.{nat_tests}
use Rattle.case_forms.specs.Versions.{says_sender}
use Rattle.case_forms.specs.declared.timer.RecoveryChange.TheVariants.{Begins}
use Rattle.case_forms.specs.declared.timer.Timer.TheVariants.{Pto, Rto}
use Rattle.case_forms.specs.declared.trace.Header.{Header}
use Rattle.spec_network.specs.Hosts.{Stamped}
use Rattle.spec_tcp.specs.Machine.{tcp_shape}
use Rattle.spec_tcp.specs.Makes.Payload.{making_length}
use Rattle.spec_tcp.specs.declared.endpoint.EndpointId.{EndpointId}
use Rattle.spec_duties.specs.declared.events.Event.{Event}
use Rattle.spec_duties.specs.declared.events.Event.TheVariants.{Builds, Expires, Recovers}
use Rattle.spec_duties.specs.declared.views.View.{View}
use Rattle.spec_flights.specs.Probing.{is_due, makes_positions, probe_after, probe_before}
use Rattle.spec_flights.specs.declared.probing.Probe.{Probe}
use Rattle.spec_flights.specs.declared.probing.Probe.TheVariants.{Due, Nothing, Out}
use Rattle.kept_flights.specs.Places.{Happens, observed, seen_before}
use Rattle.kept_flights.specs.Reasons.{Did, Never}
use Rattle.kept_flights.proofs.Runs.{flight_before, one_event, run_shows}
use Rattle.kept_repeats.specs.Rescues.{BuildsSome}
use Rattle.kept_repeats.proofs.Placing.{never_at, never_next}

-- the event builds a segment with positions
abbrev builds_some : Event → View → Bool
builds_some (Builds m) before = makes_positions before m
builds_some event before = false

-- it is due by this event, or was, and isn't built
data IsDueBy (event : Event) (before : View) (probe : Probe) : Type 0 where
  ByTimer : (is : event ≡ Expires Pto) → IsDueBy event before probe
  ByNothing : (was : is_due probe ≡ true) (idle : builds_some event before ≡ false) → IsDueBy event before probe

due_by : (event : Event) (before after : View) (probe : Probe) → is_due (probe_after event before after probe) ≡ true → IsDueBy event before probe
due_by (Expires Pto) before after probe is = ByTimer refl
due_by (Expires Rto) before after probe is = absurd cc
due_by (Recovers Begins) before after probe is = absurd cc
due_by (Builds m) before after probe is = by (is_due probe) refl (makes_positions before m) refl is
  where
    by : (due : Bool) → is_due probe ≡ due → (makes : Bool) → makes_positions before m ≡ makes
        → is_due (if due && makes then Out after.snd_max else probe) ≡ true → IsDueBy (Builds m) before probe
    by true due true makes is = absurd cc
    by true due false makes is = ByNothing due makes
    by false due makes built is = let bad : true ≡ false = sym is ∙ due in absurd cc
due_by event before after probe is = by probe is
  where
    out : (end : ℕ) (b : Bool) → is_due (if b then Nothing else Out end) ≡ true → ⊥
    out end true is = cc
    out end false is = cc

    by : (probe : Probe) → is_due (probe_before after probe) ≡ true → IsDueBy event before probe
    by Nothing is = absurd cc
    by Due is = ByNothing refl refl
    by (Out end) is = absurd (out end (nat_le end after.snd_una) is)

module _ (h : Header) (xs : List (Stamped tcp_shape)) (me : EndpointId) (six : says_sender h.version ≡ true) where
  -- the line of the timer comes before a place, and no segment with positions is built since
  pub record IsTimed (place : ℕ) : Type 0 where
    pub expired : ℕ
    pub earlier : expired < place
    pub expires : Did h xs me (Expires Pto) expired
    pub is_first : Never expired place (BuildsSome h xs me)

  timed_later : (place : ℕ) → (BuildsSome h xs me place → ⊥) → IsTimed place → IsTimed (suc place)
  timed_later place none t =
      let low = t.earlier in
      record {
        expired = t.expired;
        earlier = omega (arith, low);
        expires = t.expires;
        is_first = never_at (BuildsSome h xs me) t.expired place t.is_first none;
      }

  idle_there : (place : ℕ) (event : Event) (before : View) → Happens (observed h xs place) me event before → builds_some event before ≡ false
      → BuildsSome h xs me place → ⊥
  idle_there place event before here idle b =
      let same = one_event (observed h xs place) me event (Builds b.0) before b.1.before here b.1.happens in
      let more = b.2 in
      let some : nat_lt 0 (making_length b.0) ≡ true = test (making_length b.0) more in
      let makes : makes_positions b.1.before b.0 ≡ true = (λ i. some i && not (b.1.no_fin_alone i)) in
      let bad : true ≡ false =
      sym makes
      ∙ sym (λ i. builds_some (same.0 i) (same.1 i))
      ∙ idle in
      cc
    where
      test : (n : ℕ) → 0 < n → nat_lt 0 n ≡ true
      test n more = grind (arith, nat_tests, more)

  pub timed : (place : ℕ) → is_due (flight_before h xs place me).probing.probe ≡ true → IsTimed place
  timed place =
      run_shows h xs six (λ n f. is_due f.probing.probe ≡ true → IsTimed n) me place (λ is. absurd cc)
      (λ n f none old is. timed_later n (λ b. none (Builds b.0) b.1.before b.1.happens) (old is))
      (λ n old moment clock event before here is.
      by n event before here old (due_by event before (seen_before h xs (suc n) me) (flight_before h xs n me).probing.probe is))
    where
      by : (n : ℕ) (event : Event) (before : View) → Happens (observed h xs n) me event before
          → (is_due (flight_before h xs n me).probing.probe ≡ true → IsTimed n) → IsDueBy event before (flight_before h xs n me).probing.probe
          → IsTimed (suc n)
      by n event before here old (ByTimer is) = record {
        expired = n;
        earlier = omega arith;
        expires = (before, subst (λ (e : Event). Happens (observed h xs n) me e before) is here);
        is_first = never_next (BuildsSome h xs me) n;
      }
      by n event before here old (ByNothing was idle) = timed_later n (idle_there n event before here idle) (old was)
