-- Doublings in a row, and what a sample gives.
use Rattle.std.proofs.Common.{◌≡◌, ℕ, zero, suc, ◌+◌, ◌*◌, ◌/◌, ◌^◌, ◌≤◌, ◌∙◌, ap, min, refl, arith, Option, None, Some}
use Rattle.std.proofs.Math.Nat.{pow-succ', mul_assoc}
use Rattle.case_forms.specs.declared.trace.Header.{Header}
use Rattle.timer_rules.specs.declared.timers.Timers.{Timers}
use Rattle.timer_rules.specs.Timeouts.{longest_rto, distance}
use Rattle.timer_rules.specs.Timers.{sampled}
use Rattle.timer_rules.specs.Laws.{IsSampled, first, later, SamplesAreExact, doubled_times}

-- doubling a value that was cut at a limit, and cutting again, is doubling it and cutting once
cut_once : (limit n m : ℕ) → m ≡ 2 * n → min limit (2 * min limit n) ≡ min limit m
cut_once limit n m e = omega arith

pub doubled_times-pow : (n rto : ℕ) → rto ≤ longest_rto → doubled_times n rto ≡ min longest_rto (2 ^ n * rto)
doubled_times-pow zero rto h = omega arith
doubled_times-pow (suc n) rto h =
    let twice : 2 ^ suc n * rto ≡ 2 * (2 ^ n * rto) = ap (λ m. m * rto) (pow-succ' 2 n) ∙ mul_assoc 2 (2 ^ n) rto in
    rw (doubled_times-pow n rto h) (cut_once longest_rto (2 ^ n * rto) (2 ^ suc n * rto) twice)

given : (t : Timers) (r : ℕ) (h : Header) (srtt rttvar : ℕ) → IsSampled t r srtt rttvar → ((sampled t r h).srtt ≡ Some srtt) × ((sampled t r h).rttvar ≡ rttvar)
given t r h srtt rttvar (first none same half) = rw none (grind arith)
given t r h srtt rttvar (later smoothed is mean spread) = rw is (grind arith)

-- at each value of the old SRTT
found : (t : Timers) (r : ℕ) (h : Header) (srtt rttvar : ℕ) (old : Option ℕ) → t.srtt ≡ old
    → ((sampled t r h).srtt ≡ Some srtt) × ((sampled t r h).rttvar ≡ rttvar) → IsSampled t r srtt rttvar
found t r h srtt rttvar None is equal =
    let e = rw is at equal in
    let same : srtt ≡ r = cc in
    first is same (omega arith, omega arith)
found t r h srtt rttvar (Some smoothed) is equal =
    let e = rw is at equal in
    let mean : (7 * smoothed + r) / 8 ≡ srtt = cc in
    let spread : (3 * t.rttvar + distance smoothed r) / 4 ≡ rttvar = e.1 in
    later smoothed is (omega arith, omega arith) (omega arith, omega arith)

-- what a sample gives before and after the first one
pub sample_exact : SamplesAreExact
sample_exact t r h srtt rttvar = (given t r h srtt rttvar, found t r h srtt rttvar t.srtt refl)
