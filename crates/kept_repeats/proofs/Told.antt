-- What counts as reported was reported by a block.
use Rattle.std.proofs.Common.{◌≡◌, ℕ, suc, ◌⊎◌, inl, inr, Bool, true, false, List, [], length, refl, ap, sym, subst, ◌∙◌, arith}
use Rattle.std.specs.Prelude.{if◌then◌else◌}
use Rattle.std.specs.FinSet.{FinSet, contains, contains-from_list_nat, difference, from_list, items, union}
use Rattle.std.specs.Ordering.{nat_cmp}
use Rattle.std.proofs.lemmas.Bool.Decides.{nat_tests}
use Rattle.case_forms.specs.States.{is_syn_sent}
use Rattle.case_forms.specs.Versions.{says_sender}
use Rattle.case_forms.specs.declared.timer.RecoveryChange.TheVariants.{Begins, IsUndone}
use Rattle.case_forms.specs.declared.timer.Timer.TheVariants.{Persist, Rto}
use Rattle.case_forms.specs.declared.trace.Header.{Header}
use Rattle.flight_parts.proofs.SetLemmas.{read_back}
use Rattle.streams.specs.Pieces.{known_from}
use Rattle.streams.specs.Ranges.{span}
use Rattle.spec_network.specs.Hosts.{Stamped}
use Rattle.spec_tcp.specs.Machine.{tcp_shape}
use Rattle.spec_tcp.specs.declared.endpoint.EndpointId.{EndpointId}
use Rattle.spec_duties.specs.declared.events.Event.{Event}
use Rattle.spec_duties.specs.declared.events.Event.TheVariants.{Builds, Expires, Processes, Recovers}
use Rattle.spec_duties.specs.declared.observations.Blocks.{Blocks}
use Rattle.spec_duties.specs.declared.views.View.{View}
use Rattle.spec_flights.specs.Delivered.{heard, read_reports, with_reports}
use Rattle.spec_flights.specs.Flights.{board_after, board_heard}
use Rattle.spec_flights.specs.Late.{settled}
use Rattle.spec_flights.specs.Marks.{opens_probed}
use Rattle.spec_flights.specs.Recovering.{is_recovering}
use Rattle.spec_flights.specs.Scoreboard.{Scoreboard, number_built, stretch_built, with_built, with_given_up}
use Rattle.spec_flights.specs.Sides.{sides_after}
use Rattle.spec_flights.specs.declared.reports.Reports.{Reports}
use Rattle.spec_flights.specs.declared.sides.Sides.{Sides}
use Rattle.spec_flights.specs.declared.stretch.Stretch.{Stretch}
use Rattle.kept_flights.specs.Places.{Happens, observed, seen_before}
use Rattle.kept_flights.specs.Reported.{reports}
use Rattle.kept_flights.proofs.Kept.{Told, holds}
use Rattle.kept_flights.proofs.Marked.{in_either, kept}
use Rattle.kept_flights.proofs.Numbers.{built_cases}
use Rattle.kept_flights.proofs.Runs.{flight_before, run_shows}
use Rattle.kept_repeats.specs.Rescues.{WasReported}
use Rattle.kept_repeats.proofs.ReadBlocks.{IsIn, first_read, fourth_read, second_read, third_read}

module _ (q : ℕ) where
  is_in : (s : Stretch) → holds q s ≡ true → IsIn q s
  is_in s is = (grind (arith, nat_tests, is), grind (arith, nat_tests, is))

  -- what is among the reported positions was so before, or is reported now
  from_reports : (sides : Sides) (k : Blocks) (held : FinSet nat_cmp) → contains (with_reports held (read_reports sides k)) q ≡ true
      → (contains held q ≡ true) ⊎ (reports k q ≡ true)
  from_reports sides k held is = fourth (in_either q _ r.fourth is)
    where
      r : Reports
      r = read_reports sides k

      first : (contains held q ≡ true) ⊎ (holds q r.first ≡ true) → (contains held q ≡ true) ⊎ (reports k q ≡ true)
      first (inl was) = inl was
      first (inr now) = inr (first_read sides k q (is_in r.first now))

      second : (contains (union held (span r.first.from r.first.upto)) q ≡ true) ⊎ (holds q r.second ≡ true)
          → (contains held q ≡ true) ⊎ (reports k q ≡ true)
      second (inl was) = first (in_either q held r.first was)
      second (inr now) = inr (second_read sides k q (is_in r.second now))

      third : (contains (union (union held (span r.first.from r.first.upto)) (span r.second.from r.second.upto)) q ≡ true) ⊎ (holds q r.third ≡ true)
          → (contains held q ≡ true) ⊎ (reports k q ≡ true)
      third (inl was) = second (in_either q (union held (span r.first.from r.first.upto)) r.second was)
      third (inr now) = inr (third_read sides k q (is_in r.third now))

      three : FinSet nat_cmp
      three = union (union (union held (span r.first.from r.first.upto)) (span r.second.from r.second.upto)) (span r.third.from r.third.upto)

      fourth : (contains three q ≡ true) ⊎ (holds q r.fourth ≡ true) → (contains held q ≡ true) ⊎ (reports k q ≡ true)
      fourth (inl was) = third (in_either q (union (union held (span r.first.from r.first.upto)) (span r.second.from r.second.upto)) r.third was)
      fourth (inr now) = inr (fourth_read sides k q (is_in r.fourth now))

  left : (s t : FinSet nat_cmp) → contains {K = ℕ} {R = nat_cmp} (from_list (items (difference s t))) q ≡ true → contains s q ≡ true
  left s t is = kept q s t (sym (ap (λ (u : FinSet nat_cmp). contains u q) (read_back (difference s t))) ∙ is)

  -- a step reports it, or it was reported before
  abbrev OrBefore : Event → Blocks → Scoreboard → Type 0
  OrBefore event k b = Told q b ⊎ ((length : ℕ) × (event ≡ Processes length false) × (reports k q ≡ true))

  module _ (event : Event) (k : Blocks) (b : Scoreboard) where
    either_before : (c : Bool) (x y : Scoreboard) → (Told q x → OrBefore event k b) → (Told q y → OrBefore event k b)
        → Told q (if c then x else y) → OrBefore event k b
    either_before true x y one two is = one is
    either_before false x y one two is = two is

    before_heard : (moment clock : ℕ) (recovers : Bool) (length : ℕ) (rst : Bool) (before after : View) (sides : Sides) → event ≡ Processes length rst
        → Told q (board_heard moment clock recovers rst before after (read_reports sides k) b) → OrBefore event k b
    before_heard moment clock recovers length true before after sides e is = inl is
    before_heard moment clock recovers length false before after sides e is =
        either_before (is_syn_sent before.state) (record b { known = known_from after.snd_una b.known })
        (heard moment before.snd_una after.snd_una (read_reports sides k) (settled recovers clock b)) (λ told. inl told)
        (λ told. by (from_reports sides k (from_list b.told)
        (left (with_reports (from_list b.told) (read_reports sides k)) (span 0 after.snd_una) told))) is
      where
        by : (contains {K = ℕ} {R = nat_cmp} (from_list b.told) q ≡ true) ⊎ (reports k q ≡ true) → OrBefore event k b
        by (inl was) = inl was
        by (inr now) = inr (length, e, now)

    before_built : (number moment : ℕ) (s : Stretch) (c : Scoreboard) → c.told ≡ b.told → Told q (with_built number moment s c) → OrBefore event k b
    before_built number moment s c same =
        built_cases (λ (d : Scoreboard). Told q d → OrBefore event k b) number moment s c
        (λ told. inl (subst (λ (ps : List ℕ). contains {K = ℕ} {R = nat_cmp} (from_list ps) q ≡ true) same told))
        (λ fits told. inl (subst (λ (ps : List ℕ). contains {K = ℕ} {R = nat_cmp} (from_list ps) q ≡ true) same
        (left (from_list c.told) (span s.from s.upto) told)))

  told_before : (moment clock : ℕ) (recovers : Bool) (number : ℕ) (event : Event) (before after : View) (sides : Sides) (k : Blocks) (b : Scoreboard)
      → Told q (board_after moment clock recovers number event before after (read_reports sides k) b) → OrBefore event k b
  told_before moment clock recovers number event before after sides k b = by event
    where
      by : (event : Event) → Told q (board_after moment clock recovers number event before after (read_reports sides k) b) → OrBefore event k b
      by (Processes length rst) is =
          either_before (Processes length rst) k b (opens_probed before after)
          (with_given_up (board_heard moment clock recovers rst before after (read_reports sides k) b))
          (board_heard moment clock recovers rst before after (read_reports sides k) b)
          (λ told. before_heard (Processes length rst) k b moment clock recovers length rst before after sides refl told)
          (λ told. before_heard (Processes length rst) k b moment clock recovers length rst before after sides refl told) is
      by (Builds m) is = before_built (Builds m) k b number moment (stretch_built m before after) (settled recovers clock b) refl is
      by (Expires Rto) is = inl is
      by (Expires Persist) is = inl is
      by (Recovers Begins) is = inl is
      by (Recovers IsUndone) is = inl is
      by event is = inl is

module _ (h : Header) (xs : List (Stamped tcp_shape)) (me : EndpointId) (six : says_sender h.version ≡ true) (q : ℕ) where
  later : (place : ℕ) → WasReported h xs me q place → WasReported h xs me q (suc place)
  later place w = let low = w.1 in (w.0, omega (arith, low), w.2)

  pub was_reported : (place : ℕ) → Told q (flight_before h xs place me).board → WasReported h xs me q place
  was_reported place =
      run_shows h xs six (λ n f. Told q f.board → WasReported h xs me q n) me place (λ is. absurd (nothing_told is))
      (λ n f none old is. later n (old is))
      (λ n old moment clock event before here is.
      by n event before here old
      (told_before q moment clock (is_recovering before (flight_before h xs n me).recovery) (number_built (observed h xs n).built_change) event before
      (seen_before h xs (suc n) me) (sides_after (observed h xs n).syn_change (flight_before h xs n me).sides) (observed h xs n).blocks
      (flight_before h xs n me).board is))
    where
      nothing_told : contains {K = ℕ} {R = nat_cmp} (from_list []) q ≡ true → ⊥
      nothing_told is = let bad : true ≡ false = sym is ∙ contains-from_list_nat [] q in cc

      by : (n : ℕ) (event : Event) (before : View) → Happens (observed h xs n) me event before
          → (Told q (flight_before h xs n me).board → WasReported h xs me q n)
          → OrBefore q event (observed h xs n).blocks (flight_before h xs n me).board → WasReported h xs me q (suc n)
      by n event before here old (inl was) = later n (old was)
      by n event before here old (inr now) =
          (n, omega arith, (now.0, before, subst (λ (e : Event). Happens (observed h xs n) me e before) now.1 here, now.2))
