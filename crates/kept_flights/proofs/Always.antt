-- What is true at each place of a run of what is kept of positions: numbers, what is known, and marks.
use Rattle.std.proofs.Common.{◌≡◌, ℕ, suc, ◌<◌, ◌⊎◌, inl, inr, true, false, List, [], None, sym, subst, ◌∙◌}
use Rattle.std.proofs.Common.{arith}
use Rattle.std.specs.FinSet.{contains-from_list_nat}
use Rattle.std.proofs.lemmas.Option.{none-some}
use Rattle.case_forms.specs.Versions.{says_sender}
use Rattle.case_forms.specs.declared.trace.Header.{Header}
use Rattle.spec_network.specs.Hosts.{Stamped}
use Rattle.spec_network.specs.HostSteps.{Lawful, start}
use Rattle.spec_tcp.specs.Machine.{tcp, tcp_shape}
use Rattle.spec_tcp.specs.declared.endpoint.EndpointId.{EndpointId}
use Rattle.spec_duties.specs.declared.events.Event.{Event}
use Rattle.spec_flights.specs.Delivered.{read_reports}
use Rattle.spec_flights.specs.Flights.{marks_oldest}
use Rattle.spec_flights.specs.Marks.{marked_by, taken_by}
use Rattle.spec_flights.specs.declared.stretch.Stretch.{Stretch}
use Rattle.spec_flights.specs.Recovering.{is_recovering, recovery_after}
use Rattle.spec_flights.specs.Scoreboard.{number_built}
use Rattle.spec_flights.specs.Sides.{sides_after}
use Rattle.kept_flights.specs.Places.{Happens, observed, seen_before, world_before}
use Rattle.kept_flights.proofs.Kept.{holds}
use Rattle.kept_flights.proofs.Marked.{IsMarked, marked_from, marked_sent}
use Rattle.kept_flights.proofs.Numbers.{IsCounted, IsWhole, board_counted, board_whole}
use Rattle.kept_flights.proofs.Positions.{made_rises, una_rises}
use Rattle.kept_flights.proofs.Runs.{flight_before, run_shows}
use Rattle.kept_flights.proofs.Shows.{built_at, counts_rise}

module _ (h : Header) (xs : List (Stamped tcp_shape)) (me : EndpointId) (six : says_sender h.version ≡ true) where
  pub counted : (place : ℕ) → IsCounted (world_before h xs place).count (flight_before h xs place me).board
  counted place =
      run_shows h xs six (λ n f. IsCounted (world_before h xs n).count f.board) me place
      (record { newest = omega arith; given_up = omega arith })
      (λ n f none old.
      let newest = old.newest in
      let rise = counts_rise h xs n in
      record { newest = omega (arith, newest, rise); given_up = old.given_up })
      (λ n old moment clock event before here.
      board_counted moment clock (is_recovering before (flight_before h xs n me).recovery) (number_built (observed h xs n).built_change) event before
      (seen_before h xs (suc n) me)
      (read_reports (sides_after (observed h xs n).syn_change (flight_before h xs n me).sides) (observed h xs n).blocks) (flight_before h xs n me).board
      (world_before h xs n).count (world_before h xs (suc n)).count (counts_rise h xs n)
      (λ m builds.
      let b = built_at h xs n me m before (subst (λ (e : Event). Happens (observed h xs n) me e before) builds here) in
      let number = b.number in
      let count = b.count in
      (omega (arith, number), omega (arith, number, count))) old)

  module _ (lawful : Lawful (tcp h) (start (tcp h)) xs) where
    pub whole : (place : ℕ) → IsWhole (seen_before h xs place me).snd_una (flight_before h xs place me).board
    whole place =
        run_shows h xs six (λ n f. IsWhole (seen_before h xs n me).snd_una f.board) me place (λ i low is. none-some None is)
        (λ n f none old i low is. let rise = una_rises h xs lawful me n (suc n) (omega arith) in old i (omega (arith, low, rise)) is)
        (λ n old moment clock event before here.
        board_whole moment clock (is_recovering before (flight_before h xs n me).recovery) (number_built (observed h xs n).built_change) event before
        (seen_before h xs (suc n) me)
        (read_reports (sides_after (observed h xs n).syn_change (flight_before h xs n me).sides) (observed h xs n).blocks)
        (flight_before h xs n me).board (seen_before h xs n me).snd_una (una_rises h xs lawful me n (suc n) (omega arith)) old)

    pub marked_below : (p place : ℕ) → IsMarked p (flight_before h xs place me).marks → p < (seen_before h xs place me).snd_max
    marked_below p place =
        run_shows h xs six (λ n f. IsMarked p f.marks → p < (seen_before h xs n me).snd_max) me place (λ is. absurd (nothing_marked is))
        (λ n f none old is.
        let low = old is in
        let rise = made_rises h xs lawful me n (suc n) (omega arith) in
        omega (arith, low, rise))
        (λ n old moment clock event before here is.
        by n (taken_by event before)
        (marked_by (observed h xs n).syn_change event (seen_before h xs (suc n) me)
        (marks_oldest clock event before (seen_before h xs (suc n) me) (sides_after (observed h xs n).syn_change (flight_before h xs n me).sides)
        (recovery_after event (seen_before h xs (suc n) me) (flight_before h xs n me).recovery) (flight_before h xs n me))) old
        (marked_sent p (observed h xs n).syn_change event (seen_before h xs (suc n) me) _)
        (marked_from p (observed h xs n).syn_change event before (seen_before h xs (suc n) me) _ _ (flight_before h xs n me).marks is))
      where
        nothing_marked : IsMarked p [] → ⊥
        nothing_marked is = let bad : true ≡ false = sym is ∙ contains-from_list_nat [] p in cc

        by : (n : ℕ) (taken marked : Stretch) → (IsMarked p (flight_before h xs n me).marks → p < (seen_before h xs n me).snd_max)
            → (holds p marked ≡ true → p < (seen_before h xs (suc n) me).snd_max)
            → (IsMarked p (flight_before h xs n me).marks × (holds p taken ≡ false)) ⊎ (holds p marked ≡ true)
            → p < (seen_before h xs (suc n) me).snd_max
        by n taken marked old new (inl was) =
            let low = old was.0 in
            let rise = made_rises h xs lawful me n (suc n) (omega arith) in
            omega (arith, low, rise)
        by n taken marked old new (inr is) = new is
