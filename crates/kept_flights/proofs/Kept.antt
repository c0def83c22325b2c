-- A position that was reported, through the steps of a run.
use Rattle.std.proofs.Common.{◌≡◌, ℕ, ◌+◌, ◌<◌, ◌≤◌, min, Bool, true, false, [], ◌∷◌, ◌++◌, length, Option, Some, None, refl, ap, ◌∙◌, arith}
use Rattle.std.specs.Prelude.{◌&&◌, ◌||◌, if◌then◌else◌, nat_le, nat_lt, not}
use Rattle.std.specs.Cmp.{nat_cmp_total}
use Rattle.std.specs.FinSet.{FinSet, contains, contains-difference, contains-union, difference, from_list, items, union}
use Rattle.std.specs.Ordering.{nat_cmp}
use Rattle.std.proofs.lemmas.Bool.Decides.{nat_tests}
use Rattle.case_forms.specs.States.{is_syn_sent}
use Rattle.case_forms.specs.declared.timer.RecoveryChange.TheVariants.{Begins, IsUndone}
use Rattle.case_forms.specs.declared.steps.SegmentPlan.{SegmentPlan}
use Rattle.case_forms.specs.declared.timer.Timer.TheVariants.{Persist, Rto}
use Rattle.streams.specs.Pieces.{acknowledged, known_from, made}
use Rattle.streams.specs.Ranges.{span}
use Rattle.streams.proofs.RangeLemmas.{contains-span}
use Rattle.spec_tcp.specs.Makes.Payload.{making_length}
use Rattle.spec_duties.specs.Strict.{is_fin_alone}
use Rattle.spec_duties.specs.declared.events.Event.{Event}
use Rattle.spec_duties.specs.declared.events.Event.TheVariants.{Builds, Expires, Processes, Recovers}
use Rattle.spec_duties.specs.declared.observations.Block.{Block}
use Rattle.spec_duties.specs.declared.observations.Blocks.{Blocks}
use Rattle.spec_duties.specs.declared.observations.SynChange.{SynChange}
use Rattle.spec_duties.specs.declared.observations.SynChange.TheVariants as syn_change
use Rattle.spec_duties.specs.declared.views.View.{View}
use Rattle.spec_flights.specs.Delivered.{heard, read_reports, report_of, with_reports}
use Rattle.spec_flights.specs.Flights.{board_after, board_heard, board_opened}
use Rattle.spec_flights.specs.Late.{settled}
use Rattle.spec_flights.specs.Marks.{opens_probed}
use Rattle.spec_flights.specs.Recovering.{recovery_after}
use Rattle.spec_flights.specs.Scoreboard.{Scoreboard, left_without, stretch_built, with_built, with_given_up}
use Rattle.spec_flights.specs.Sides.{are_selective, sides_after}
use Rattle.spec_flights.specs.Stretches.{no_positions}
use Rattle.spec_flights.specs.declared.recovery.Recovery.{Recovery}
use Rattle.spec_flights.specs.declared.reports.Reports.{Reports}
use Rattle.spec_flights.specs.declared.sides.Sides.{Sides}
use Rattle.spec_flights.specs.declared.stretch.Stretch.{Stretch}
use Rattle.flight_parts.proofs.SetLemmas.{read_back}
use Rattle.kept_flights.specs.Reported.{Holds, is_within, reports}

-- ---- both SYNs, and fast recovery

pub own_keeps : (c : SynChange) (s : Sides) → s.own ≡ true → (sides_after c s).own ≡ true
own_keeps (syn_change.Sends permits) s is = ap (λ b. b || permits) is
own_keeps c s is = is

pub own_begins : (s : Sides) → (sides_after (syn_change.Sends true) s).own ≡ true
own_begins s = by s.own
  where
    by : (b : Bool) → (b || true) ≡ true
    by true = refl
    by false = refl

pub peers_keeps : (c : SynChange) (s : Sides) → ((alone : Bool) → c ≡ syn_change.Takes false alone → ⊥) → s.peers ≡ true
    → (sides_after c s).peers ≡ true
peers_keeps (syn_change.Takes true alone) s none is = refl
peers_keeps (syn_change.Takes false alone) s none is = absurd (none alone refl)
peers_keeps c s none is = is

pub fast_keeps : (event : Event) (after : View) (r : Recovery) → (event ≡ Expires Rto → ⊥) → r.is_fast ≡ true
    → (recovery_after event after r).is_fast ≡ true
fast_keeps (Expires Rto) after r none is = absurd (none refl)
fast_keeps (Recovers Begins) after r none is = refl
fast_keeps (Recovers IsUndone) after r none is = is
fast_keeps event after r none is = by (nat_le r.point after.snd_una)
  where
    by : (b : Bool) → (if b then record r { point = 0 } else r).is_fast ≡ true
    by true = is
    by false = is

-- ---- sets of positions

module _ (p : ℕ) where
  -- a stretch holds the position
  abbrev pub holds : Stretch → Bool
  holds s = nat_le s.from p && nat_lt p s.upto

  in_union : (held : FinSet nat_cmp) (s : Stretch) → contains (union held (span s.from s.upto)) p ≡ (contains held p || holds s)
  in_union held s =
      contains-union nat_cmp_total held (span s.from s.upto) p ∙ ap (λ b. contains held p || b) (contains-span s.from s.upto p)

  union_keeps : (held : FinSet nat_cmp) (s : Stretch) → contains held p ≡ true → contains (union held (span s.from s.upto)) p ≡ true
  union_keeps held s is = in_union held s ∙ ap (λ b. b || holds s) is

  union_adds : (held : FinSet nat_cmp) (s : Stretch) → holds s ≡ true → contains (union held (span s.from s.upto)) p ≡ true
  union_adds held s is = in_union held s ∙ ap (λ b. contains held p || b) is ∙ by (contains held p)
    where
      by : (b : Bool) → (b || true) ≡ true
      by true = refl
      by false = refl

  reports_keep : (held : FinSet nat_cmp) (r : Reports) → contains held p ≡ true → contains (with_reports held r) p ≡ true
  reports_keep held r is = union_keeps _ r.fourth (union_keeps _ r.third (union_keeps _ r.second (union_keeps held r.first is)))

  -- what leaves a set doesn't hold the position
  left_keeps : (held : FinSet nat_cmp) (s : Stretch) → contains held p ≡ true → holds s ≡ false
      → contains {K = ℕ} {R = nat_cmp} (from_list (items (difference held (span s.from s.upto)))) p ≡ true
  left_keeps held s is out =
      ap (λ (t : FinSet nat_cmp). contains t p) (read_back (difference held (span s.from s.upto)))
      ∙ contains-difference nat_cmp_total held (span s.from s.upto) p
      ∙ (λ i. is i && not ((contains-span s.from s.upto p ∙ out) i))

  -- ---- the positions that were reported

  abbrev pub Told : Scoreboard → Type 0
  Told b = contains {K = ℕ} {R = nat_cmp} (from_list b.told) p ≡ true

  either_told : (b : Bool) (x y : Scoreboard) → Told x → Told y → Told (if b then x else y)
  either_told true x y here there = here
  either_told false x y here there = there

  opened_keeps : (before after : View) (b : Scoreboard) → Told b → Told (board_opened before after b)
  opened_keeps before after b is = either_told (opens_probed before after) (with_given_up b) b is is

  acked : (ack : ℕ) → ack ≤ p → holds (record { from = 0; upto = ack }) ≡ false
  acked ack low = grind (arith, nat_tests, low)

  segment_keeps : (moment clock : ℕ) (recovers rst : Bool) (before after : View) (r : Reports) (b : Scoreboard) → after.snd_una ≤ p → Told b
      → Told (board_heard moment clock recovers rst before after r b)
  segment_keeps moment clock recovers rst before after r b low is =
      either_told (rst || is_syn_sent before.state) (record b { known = known_from after.snd_una b.known })
      (heard moment before.snd_una after.snd_una r (settled recovers clock b)) is
      (left_keeps (with_reports (from_list b.told) r) (record { from = 0; upto = after.snd_una }) (reports_keep (from_list b.told) r is)
      (acked after.snd_una low))

  built_keeps : (number moment : ℕ) (s : Stretch) (b : Scoreboard) → holds s ≡ false → Told b → Told (with_built number moment s b)
  built_keeps number moment s b out is =
      either_told (nat_lt s.from s.upto && nat_le (acknowledged b.known) s.from && nat_le s.from (length b.known))
      (record b {
        known = made s.from s.upto number moment b.known;
        told = left_without b.told s.from s.upto;
        ends = left_without b.ends s.from s.upto;
        built = b.built ++ record { number = number; moment = moment } ∷ [];
        newest = number;
      }) b (left_keeps (from_list b.told) s is out) is

  stretch_out : (m : SegmentPlan) (before after : View) → (Holds m p → ⊥) → holds (stretch_built m before after) ≡ false
  stretch_out m before after none = by (is_fin_alone m before)
    where
      by : (f : Bool) → holds (if f then no_positions else record { from = m.pos; upto = min (m.pos + making_length m) after.snd_max }) ≡ false
      by true = grind (arith, nat_tests)
      by false = test (nat_le m.pos p && nat_lt p (min (m.pos + making_length m) after.snd_max)) refl
        where
          test : (c : Bool) → (nat_le m.pos p && nat_lt p (min (m.pos + making_length m) after.snd_max)) ≡ c → c ≡ false
          test false is = refl
          test true is =
              let low : m.pos ≤ p = grind (arith, nat_tests, is) in
              let high : p < m.pos + making_length m = grind (arith, nat_tests, is) in
              absurd (none (low, high))

  pub board_keeps : (moment clock : ℕ) (recovers : Bool) (number : ℕ) (event : Event) (before after : View) (r : Reports) (b : Scoreboard)
      → after.snd_una ≤ p → ((m : SegmentPlan) → event ≡ Builds m → Holds m p → ⊥) → Told b
      → Told (board_after moment clock recovers number event before after r b)
  board_keeps moment clock recovers number (Processes length rst) before after r b low none is =
      opened_keeps before after (board_heard moment clock recovers rst before after r b)
      (segment_keeps moment clock recovers rst before after r b low is)
  board_keeps moment clock recovers number (Builds m) before after r b low none is =
      built_keeps number moment (stretch_built m before after) (settled recovers clock b) (stretch_out m before after (none m refl)) is
  board_keeps moment clock recovers number (Expires Rto) before after r b low none is = is
  board_keeps moment clock recovers number (Expires Persist) before after r b low none is = is
  board_keeps moment clock recovers number (Recovers Begins) before after r b low none is = is
  board_keeps moment clock recovers number (Recovers IsUndone) before after r b low none is = is
  board_keeps moment clock recovers number event before after r b low none is = is

  -- ---- what is reported now

  block_holds : (b : Option Block) → is_within p b ≡ true → holds (report_of b) ≡ true
  block_holds None is = absurd cc
  block_holds (Some k) is = is

  reports_add : (held : FinSet nat_cmp) (b : Blocks) → reports b p ≡ true
      → contains (with_reports held (record {
        first = report_of b.first;
        second = report_of b.second;
        third = report_of b.third;
        fourth = report_of b.fourth;
      })) p ≡ true
  reports_add held b is = by (is_within p b.first) (is_within p b.second) (is_within p b.third) refl refl refl is
    where
      by : (x y z : Bool) → is_within p b.first ≡ x → is_within p b.second ≡ y → is_within p b.third ≡ z
          → (x || y || z || is_within p b.fourth) ≡ true
          → contains (with_reports held (record {
            first = report_of b.first;
            second = report_of b.second;
            third = report_of b.third;
            fourth = report_of b.fourth;
          })) p ≡ true
      by true y z a c d all =
          union_keeps _ (report_of b.fourth) (union_keeps _ (report_of b.third) (union_keeps _ (report_of b.second)
          (union_adds held (report_of b.first) (block_holds b.first a))))
      by false true z a c d all =
          union_keeps _ (report_of b.fourth) (union_keeps _ (report_of b.third) (union_adds _ (report_of b.second) (block_holds b.second c)))
      by false false true a c d all = union_keeps _ (report_of b.fourth) (union_adds _ (report_of b.third) (block_holds b.third d))
      by false false false a c d all = union_adds _ (report_of b.fourth) (block_holds b.fourth all)

  read_add : (held : FinSet nat_cmp) (sides : Sides) (b : Blocks) → are_selective sides ≡ true → reports b p ≡ true
      → contains (with_reports held (read_reports sides b)) p ≡ true
  read_add held sides b both is = by (are_selective sides) both
    where
      by : (c : Bool) → c ≡ true
          → contains (with_reports held (if c then record {
            first = report_of b.first;
            second = report_of b.second;
            third = report_of b.third;
            fourth = report_of b.fourth;
          } else record { first = no_positions; second = no_positions; third = no_positions; fourth = no_positions })) p ≡ true
      by true c = reports_add held b is
      by false c = absurd cc

  pub board_begins : (moment clock : ℕ) (recovers : Bool) (number length : ℕ) (before after : View) (sides : Sides) (k : Blocks) (b : Scoreboard)
      → after.snd_una ≤ p → is_syn_sent before.state ≡ false → are_selective sides ≡ true → reports k p ≡ true
      → Told (board_after moment clock recovers number (Processes length false) before after (read_reports sides k) b)
  board_begins moment clock recovers number length before after sides k b low begun both is =
      opened_keeps before after (board_heard moment clock recovers false before after (read_reports sides k) b)
      (by (is_syn_sent before.state) begun)
    where
      by : (c : Bool) → c ≡ false
          → Told (if c then record b { known = known_from after.snd_una b.known }
          else heard moment before.snd_una after.snd_una (read_reports sides k) (settled recovers clock b))
      by true c = absurd cc
      by false c =
          left_keeps (with_reports (from_list b.told) (read_reports sides k)) (record { from = 0; upto = after.snd_una })
          (read_add (from_list b.told) sides k both is) (acked after.snd_una low)
