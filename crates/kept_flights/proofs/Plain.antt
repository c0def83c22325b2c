-- Unless both SYNs permitted selective acknowledgments, what is kept says so, and no probe is due.
use Rattle.std.proofs.Common.{◌≡◌, ℕ, suc, ◌+◌, ◌<◌, ◌≤◌, Bool, true, false, List, Some, None, refl, ap, sym, subst, ◌∙◌}
use Rattle.std.proofs.Common.{arith}
use Rattle.std.specs.Prelude.{◌&&◌, ◌||◌, if◌then◌else◌, is_some, nat_le, not}
use Rattle.case_forms.specs.Versions.{says_sender}
use Rattle.case_forms.specs.declared.timer.RecoveryChange.TheVariants.{Begins}
use Rattle.case_forms.specs.declared.timer.Timer.TheVariants.{Pto, Rto}
use Rattle.case_forms.specs.declared.trace.Header.{Header}
use Rattle.spec_network.specs.Hosts as network
use Rattle.spec_network.specs.Hosts.{At, Stamped}
use Rattle.spec_tcp.specs.Machine.{tcp_shape}
use Rattle.spec_tcp.specs.declared.endpoint.EndpointId.{EndpointId}
use Rattle.spec_tcp_laws.proofs.Rules.{both_true}
use Rattle.spec_duties.specs.Observations.{observe}
use Rattle.spec_duties.specs.declared.events.Event.{Event}
use Rattle.spec_duties.specs.declared.events.Event.TheVariants.{Builds, Expires, Recovers}
use Rattle.spec_duties.specs.declared.observations.Observation.{Observation}
use Rattle.spec_duties.specs.declared.observations.SynChange.{SynChange}
use Rattle.spec_duties.specs.declared.observations.SynChange.TheVariants as syn_change
use Rattle.spec_duties.specs.declared.views.View.{View}
use Rattle.spec_flights.specs.Flights.{Flight, may_be_probed, probe_broken}
use Rattle.spec_flights.specs.Probing.{is_due, is_none, makes_positions, probe_after, probe_before}
use Rattle.spec_flights.specs.declared.probing.Probe.{Probe}
use Rattle.spec_flights.specs.declared.probing.Probe.TheVariants.{Due, Nothing, Out}
use Rattle.spec_flights.specs.Recovering.{is_recovering}
use Rattle.spec_flights.specs.Sides.{are_selective, sides_after}
use Rattle.spec_flights.specs.declared.sides.Sides.{Sides}
use Rattle.spec_cases.specs.Cases.{Dutiful, first_known}
use Rattle.kept_flights.specs.Places.{Happens, observed, seen_before, world_before}
use Rattle.kept_flights.specs.Reported.{BothPermit, HasSyn}
use Rattle.kept_flights.proofs.Accepted.{passes}
use Rattle.kept_flights.proofs.Runs.{dutiful_there, flight_before, run_shows, run_tells, started}
use Rattle.kept_flights.proofs.Shows.{expires_by, step_at}

abbrev is_probe_timeout : Event → Bool
is_probe_timeout (Expires Pto) = true
is_probe_timeout event = false

probe_timeout_is : (event : Event) → is_probe_timeout event ≡ true → event ≡ Expires Pto
probe_timeout_is (Expires Pto) is = refl
probe_timeout_is event is = absurd cc

undue : (event : Event) (before after : View) (probe : Probe) → is_probe_timeout event ≡ false → is_due probe ≡ false
    → is_due (probe_after event before after probe) ≡ false
undue (Expires Pto) before after probe none is = absurd cc
undue (Expires Rto) before after probe none is = refl
undue (Recovers Begins) before after probe none is = refl
undue (Builds m) before after probe none is = by (is_due probe && makes_positions before m)
  where
    by : (b : Bool) → is_due (if b then Out after.snd_max else probe) ≡ false
    by true = refl
    by false = is
undue event before after probe none is = by probe is
  where
    out : (end : ℕ) (b : Bool) → is_due (if b then Nothing else Out end) ≡ false
    out end true = refl
    out end false = refl

    by : (probe : Probe) → is_due probe ≡ false → is_due (probe_before after probe) ≡ false
    by Nothing is = refl
    by Due is = absurd cc
    by (Out end) is = out end (nat_le end after.snd_una)

first : (a b c d e : Bool) → (a && b && c && d && e) ≡ true → a ≡ true
first true b c d e is = refl
first false b c d e is = absurd cc

selective_probe : (clock : ℕ) (v : View) (f : Flight) → probe_broken clock v f ≡ None → are_selective f.sides ≡ true
selective_probe clock v f = by (may_be_probed v f) refl
  where
    by : (c : Bool) → may_be_probed v f ≡ c → probe_broken clock v f ≡ None → are_selective f.sides ≡ true
    by true may none = first (are_selective f.sides) (not (is_recovering v f.recovery)) (is_none f.probing.probe) (is_some f.probing.quiet) _ may
    by false may none = absurd cc

-- ---- in a run

module _ (h : Header) (xs : List (Stamped tcp_shape)) (me : EndpointId) where
  -- the endpoint sent such a SYN, or took one
  pub record Had (place : ℕ) (change : Bool → SynChange) : Type 0 where
    pub at : ℕ
    pub at_before : at < place
    pub alone : Bool
    pub syn : HasSyn h xs at me (change alone)

  abbrev sends : Bool → SynChange
  sends alone = syn_change.Sends true

  abbrev takes : Bool → SynChange
  takes alone = syn_change.Takes true alone

  later : (place : ℕ) (change : Bool → SynChange) → Had place change → Had (suc place) change
  later place change s = let low = s.at_before in record { at = s.at; at_before = omega (arith, low); alone = s.alone; syn = s.syn }

  pub both_later : (from to : ℕ) → from ≤ to → BothPermit h xs from me → BothPermit h xs to me
  both_later from to le b =
      let sent = b.sent_before in
      let taken = b.taken_before in
      record {
        sent = b.sent;
        sent_before = omega (arith, le, sent);
        sends = b.sends;
        taken = b.taken;
        taken_before = omega (arith, le, taken);
        alone = b.alone;
        takes = b.takes;
      }

  -- what permits them came of a SYN
  record IsPermitted (place : ℕ) (s : Sides) : Type 0 where
    pub own : s.own ≡ true → Had place sends
    pub peers : s.peers ≡ true → Had place takes

  module _ (place : ℕ) (event : Event) (before : View) (here : Happens (observed h xs place) me event before) where
    now : (change : Bool → SynChange) (alone : Bool) → (observed h xs place).syn_change ≡ change alone → Had (suc place) change
    now change alone is = record { at = place; at_before = omega arith; alone = alone; syn = (event, before, here, is) }

    permitted_after : (change : SynChange) (s : Sides) → (observed h xs place).syn_change ≡ change → IsPermitted place s
        → IsPermitted (suc place) (sides_after change s)
    permitted_after (syn_change.Sends true) s is old =
        record { own = λ e. now sends true is; peers = λ e. later place takes (old.peers e) }
    permitted_after (syn_change.Sends false) s is old =
        record { own = λ e. later place sends (old.own (sym (or_false s.own) ∙ e)); peers = λ e. later place takes (old.peers e) }
      where
        or_false : (b : Bool) → (b || false) ≡ b
        or_false true = refl
        or_false false = refl
    permitted_after (syn_change.Takes true alone) s is old =
        record { own = λ e. later place sends (old.own e); peers = λ e. now takes alone is }
    permitted_after (syn_change.Takes false alone) s is old =
        record { own = λ e. later place sends (old.own e); peers = λ e. absurd cc }
    permitted_after change s is old =
        record { own = λ e. later place sends (old.own e); peers = λ e. later place takes (old.peers e) }

  module _ (six : says_sender h.version ≡ true) where
    permitted : (place : ℕ) → IsPermitted place (flight_before h xs place me).sides
    permitted place =
        run_shows h xs six (λ n f. IsPermitted n f.sides) me place
        (record { own = λ e. absurd cc; peers = λ e. absurd cc })
        (λ n f none old. record { own = λ e. later n sends (old.own e); peers = λ e. later n takes (old.peers e) })
        (λ n old moment clock event before here.
        permitted_after n event before here (observed h xs n).syn_change (flight_before h xs n me).sides refl old)

    pub both_permit : (place : ℕ) → are_selective (flight_before h xs place me).sides ≡ true → BothPermit h xs place me
    both_permit place is =
        let both = both_true (flight_before h xs place me).sides.own (flight_before h xs place me).sides.peers is in
        let mine = (permitted place).own both.0 in
        let theirs = (permitted place).peers both.1 in
        record {
          sent = mine.at;
          sent_before = mine.at_before;
          sends = mine.syn;
          taken = theirs.at;
          taken_before = theirs.at_before;
          alone = theirs.alone;
          takes = theirs.syn;
        }

    pub plain : (place : ℕ) → (BothPermit h xs place me → ⊥) → are_selective (flight_before h xs place me).sides ≡ false
    plain place none = by (are_selective (flight_before h xs place me).sides) refl
      where
        by : (b : Bool) → are_selective (flight_before h xs place me).sides ≡ b → b ≡ false
        by false is = refl
        by true is = absurd (none (both_permit place is))

    -- ---- probes

    module _ (may : Dutiful h (first_known h) xs) where
      -- so a timer makes a probe due only where both SYNs permitted selective acknowledgments
      no_probe : (place : ℕ) (before : View) → (BothPermit h xs place me → ⊥) → Happens (observed h xs place) me (Expires Pto) before → ⊥
      no_probe place before none here =
          let s = step_at h xs place me (Expires Pto) before here in
          let there : Happens (observe h s.x.moment (world_before h xs place) s.x.step) me (Expires Pto) before =
          subst (λ (o : Observation). Happens o me (Expires Pto) before) s.shows here in
          let by = expires_by h s.x.moment (world_before h xs place) s.x.step me before there in
          let is : s.x ≡ record { moment = s.x.moment; step = At me.host (network.Expires by.0 by.1) } =
          (λ i. record { moment = s.x.moment; step = by.2 i }) in
          let passed =
          passes h xs me six place (record { moment = s.x.moment; step = At me.host (network.Expires by.0 by.1) }) (Expires Pto) before
          (dutiful_there h xs may place (record { moment = s.x.moment; step = At me.host (network.Expires by.0 by.1) })
          (s.is ∙ ap (λ (y : Stamped tcp_shape). Some y) is)).flights
          (subst (λ (y : Stamped tcp_shape). Happens (observe h y.moment (world_before h xs place) y.step) me (Expires Pto) before) is there) in
          let bad : true ≡ false =
          sym (selective_probe (s.x.moment + h.grain) before (flight_before h xs place me) passed) ∙ plain place none in
          cc

      pub none_due : (to : ℕ) → (BothPermit h xs to me → ⊥) → is_due (flight_before h xs to me).probing.probe ≡ false
      none_due to none =
          run_tells h xs six (λ n f. is_due f.probing.probe ≡ false) me 0 to (omega arith)
          (subst (λ (f : Flight). is_due f.probing.probe ≡ false) (sym (started me.host me.number)) refl) (λ n f quiet old. old)
          (λ n low high old moment clock event before here.
          undue event before (seen_before h xs (suc n) me) (flight_before h xs n me).probing.probe (by n high event before here) old)
        where
          by : (n : ℕ) → n < to → (event : Event) (before : View) → Happens (observed h xs n) me event before → is_probe_timeout event ≡ false
          by n high event before here = test (is_probe_timeout event) refl
            where
              test : (b : Bool) → is_probe_timeout event ≡ b → b ≡ false
              test false is = refl
              test true is =
                  absurd (no_probe n before (λ both. none (both_later n to (omega (arith, high)) both))
                  (subst (λ (e : Event). Happens (observed h xs n) me e before) (probe_timeout_is event is) here))
