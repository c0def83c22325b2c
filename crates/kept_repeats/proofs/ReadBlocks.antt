-- What an endpoint reads of the blocks of a segment, they report.
use Rattle.std.proofs.Common.{◌≡◌, ℕ, ◌<◌, ◌≤◌, Bool, true, false, Option, Some, None, refl, subst, ◌∙◌, arith}
use Rattle.std.specs.Prelude.{◌||◌, if◌then◌else◌}
use Rattle.std.proofs.lemmas.Bool.Decides.{nat_tests}
use Rattle.spec_duties.specs.declared.observations.Block.{Block}
use Rattle.spec_duties.specs.declared.observations.Blocks.{Blocks}
use Rattle.spec_flights.specs.Delivered.{read_reports, report_of}
use Rattle.spec_flights.specs.Sides.{are_selective}
use Rattle.spec_flights.specs.Stretches.{no_positions}
use Rattle.spec_flights.specs.declared.reports.Reports.{Reports}
use Rattle.spec_flights.specs.declared.sides.Sides.{Sides}
use Rattle.spec_flights.specs.declared.stretch.Stretch.{Stretch}
use Rattle.kept_flights.specs.Reported.{is_within, reports}

-- a position is in a stretch
abbrev pub IsIn : (q : ℕ) → Stretch → Type 0
IsIn q s = (s.from ≤ q) × (q < s.upto)

report_holds : (q : ℕ) (b : Option Block) → IsIn q (report_of b) → is_within q b ≡ true
report_holds q None held = let high = held.1 in absurd (omega (arith, high))
report_holds q (Some k) held = let low = held.0 in let high = held.1 in grind (arith, nat_tests, low, high)

or_true : (x : Bool) → (x || true) ≡ true
or_true true = refl
or_true false = refl

module _ (sides : Sides) (k : Blocks) (q : ℕ) where
  abbrev all_read : Reports
  all_read = record {
    first = report_of k.first;
    second = report_of k.second;
    third = report_of k.third;
    fourth = report_of k.fourth;
  }

  abbrev none_read : Reports
  none_read = record { first = no_positions; second = no_positions; third = no_positions; fourth = no_positions }

  -- one of the blocks, and what is read of it
  reads : (report : Reports → Stretch) (b : Option Block) → report all_read ≡ report_of b → report none_read ≡ no_positions
      → IsIn q (report (read_reports sides k)) → is_within q b ≡ true
  reads report b some none = by (are_selective sides)
    where
      by : (c : Bool) → IsIn q (report (if c then all_read else none_read)) → is_within q b ≡ true
      by true held = report_holds q b (subst (IsIn q) some held)
      by false held = let bad = (subst (IsIn q) none held).1 in absurd (omega (arith, bad))

  pub first_read : IsIn q (read_reports sides k).first → reports k q ≡ true
  first_read held =
      let is = reads (λ (x : Reports). x.first) k.first refl refl held in
      (λ i. is i || is_within q k.second || is_within q k.third || is_within q k.fourth)

  pub second_read : IsIn q (read_reports sides k).second → reports k q ≡ true
  second_read held =
      let is = reads (λ (x : Reports). x.second) k.second refl refl held in
      (λ i. is_within q k.first || is i || is_within q k.third || is_within q k.fourth)
      ∙ (λ i. or_true (is_within q k.first) i || is_within q k.third || is_within q k.fourth)

  pub third_read : IsIn q (read_reports sides k).third → reports k q ≡ true
  third_read held =
      let is = reads (λ (x : Reports). x.third) k.third refl refl held in
      (λ i. is_within q k.first || is_within q k.second || is i || is_within q k.fourth)
      ∙ (λ i. or_true (is_within q k.first || is_within q k.second) i || is_within q k.fourth)

  pub fourth_read : IsIn q (read_reports sides k).fourth → reports k q ≡ true
  fourth_read held =
      let is = reads (λ (x : Reports). x.fourth) k.fourth refl refl held in
      (λ i. is_within q k.first || is_within q k.second || is_within q k.third || is i)
      ∙ or_true (is_within q k.first || is_within q k.second || is_within q k.third)
