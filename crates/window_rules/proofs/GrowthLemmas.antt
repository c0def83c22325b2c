-- The greatest window after a new acknowledgment bounds what is allowed, and all up to it is allowed.
use Rattle.std.proofs.Common.{◌≡◌, ℕ, ◌+◌, ◌-◌, ◌*◌, ◌/◌, ◌<◌, ◌≤◌, ◌⊎◌, Bool, true, false, if◌then◌else◌, nat_lt, inl, inr, refl, arith, rules, max, ◌↔◌}
use Rattle.std.proofs.Math.Nat.{le-div_iff_mul-le, div-le_of_le-mul, mul-le-mul_right}
use Rattle.std.proofs.lemmas.Bool.Decides.{nat_tests, leb_tells}
use Rattle.window_rules.specs.declared.congestion.Congestion.{Congestion}
use Rattle.window_rules.specs.declared.growth.SlowStart.{SlowStart}
use Rattle.window_rules.specs.declared.growth.SlowStart.TheVariants.{Recommended, Permitted}
use Rattle.window_rules.specs.Windows.{greatest_window, capped}
use Rattle.window_rules.specs.Growth.{slow_start, avoidance, growth, may_grow}
use Rattle.window_rules.specs.Allowed.{MayAvoid, whole, part, byte, MayStart, MayGrow, slowly, avoiding, recovered}
use Rattle.window_rules.specs.Laws.{IsGreatest}

-- a part that is small enough is at most the quotient
part_below : (v w s : ℕ) → 0 < w → (v - w) * w ≤ s → v ≤ w + max 1 (s / max w 1)
part_below v w s above h =
    let m : max w 1 ≡ w = omega arith in
    let q : v - w ≤ s / w = (le-div_iff_mul-le above).1 h in
    rw m (omega arith)

-- and back
part_above : (v w s : ℕ) → 0 < w → v ≤ w + max 1 (s / max w 1) → ((v - w) * w ≤ s) ⊎ (v ≤ w + 1)
part_above v w s above h =
    let m : max w 1 ≡ w = omega arith in
    let q : (v - w ≤ s / w) ⊎ (v ≤ w + 1) = grind arith in
    elim q [ inl few ↦ inl ((le-div_iff_mul-le above).0 few) | inr one ↦ inr one ]

avoid_below : (c : Congestion) (acked v : ℕ) → MayAvoid c acked v → v ≤ avoidance c acked
avoid_below c acked v (whole filled le) = grind (arith, nat_tests)
avoid_below c acked v (part unfilled le) = let b = part_below v c.cwnd (c.smss * c.smss) (omega arith) le in grind (arith, nat_tests)
avoid_below c acked v (byte unfilled le) = grind (arith, nat_tests)

avoid_up_to : (c : Congestion) (acked v : ℕ) → v ≤ avoidance c acked → MayAvoid c acked v
avoid_up_to c acked v h =
    elim (leb_tells c.cwnd (c.counted + acked)) [
      | inl filled ↦ whole filled.1 (rw filled.0 at h)
      | inr unfilled ↦
          elim (part_above v c.cwnd (c.smss * c.smss) (omega arith) (rw unfilled.0 at h)) [
            | inl few ↦ part unfilled.1 few
            | inr one ↦ byte unfilled.1 one
          ]
    ]

start_exact : (slow : SlowStart) (c : Congestion) (acked v : ℕ) → MayStart slow c acked v ↔ (v ≤ slow_start slow c acked)
start_exact Recommended c acked v = (
  (λ may. let segment = may.segment in let acknowledged = may.acknowledged refl in omega arith),
  (λ h. record { segment = omega arith; acknowledged = λ is. omega arith }),
)
start_exact Permitted c acked v = ((λ may. may.segment), (λ h. record { segment = h; acknowledged = λ is. absurd cc }))

grow_below : (slow : SlowStart) (c : Congestion) (acked v : ℕ) → MayGrow slow c acked v → v ≤ greatest_window → v ≤ may_grow slow c acked
grow_below slow c acked v (slowly calm below start) most = let b = (start_exact slow c acked v).0 start in rw calm (grind (arith, nat_tests))
grow_below slow c acked v (avoiding calm above avoided) most = let b = avoid_below c acked v avoided in rw calm (grind (arith, nat_tests))
grow_below slow c acked v (recovered fast le) most = rw fast (omega arith)

-- one of two values by an order, the greater of both at equality
split : (a b below above v : ℕ) → v ≤ (if nat_lt a b then below else (if nat_lt b a then above else max below above))
    → ((a ≤ b) × (v ≤ below)) ⊎ ((b ≤ a) × (v ≤ above))
split a b below above v h = grind (arith, nat_tests)

-- outside fast recovery: up to ssthresh in slow start, from it on in congestion avoidance
calm_up_to : (slow : SlowStart) (c : Congestion) (acked v : ℕ) → c.fast ≡ false → v ≤ growth slow c acked → MayGrow slow c acked v
calm_up_to slow c acked v calm h =
    elim (split c.cwnd c.ssthresh (slow_start slow c acked) (avoidance c acked) v h) [
      | inl below ↦ slowly calm below.0 ((start_exact slow c acked v).1 below.1)
      | inr above ↦ avoiding calm above.0 (avoid_up_to c acked v above.1)
    ]

under : (n v : ℕ) → v ≤ capped n → v ≤ n
under n v h = omega arith

grow_up_to : (slow : SlowStart) (c : Congestion) (acked v : ℕ) → v ≤ may_grow slow c acked → MayGrow slow c acked v
grow_up_to slow c acked v h = by c.fast refl h
  where
    by : (fast : Bool) → c.fast ≡ fast → v ≤ capped (if fast then c.ssthresh else growth slow c acked) → MayGrow slow c acked v
    by true is h = recovered is (under c.ssthresh v h)
    by false is h = calm_up_to slow c acked v is (under (growth slow c acked) v h)

pub growth_greatest : (slow : SlowStart) (c : Congestion) (acked : ℕ) → IsGreatest (MayGrow slow c acked) (may_grow slow c acked)
growth_greatest slow c acked v = ((λ allowed. grow_below slow c acked v allowed.0 allowed.1), (λ h. (grow_up_to slow c acked v h, omega arith)))

-- how gently it grows
pub slow_segment : (slow : SlowStart) (c : Congestion) (acked : ℕ) → c.fast ≡ false → c.cwnd < c.ssthresh → may_grow slow c acked ≤ c.cwnd + c.smss
slow_segment Recommended = search rules
slow_segment Permitted = search rules

-- a part of a segment, of a window of a segment or more
part_small : (w s : ℕ) → 1 ≤ s → s ≤ w → max 1 (s * s / max w 1) ≤ s
part_small w s some le = let d = div-le_of_le-mul (max w 1) {m = s * s} {n = s} (mul-le-mul_right s (omega arith)) in omega arith

pub segment : (slow : SlowStart) (c : Congestion) (acked : ℕ) → c.fast ≡ false → 1 ≤ c.smss → c.smss ≤ c.cwnd → may_grow slow c acked ≤ c.cwnd + c.smss
segment Recommended c acked calm some le = let part = part_small c.cwnd c.smss some le in rw calm (grind (arith, nat_tests))
segment Permitted c acked calm some le = let part = part_small c.cwnd c.smss some le in rw calm (grind (arith, nat_tests))

pub keeps : (slow : SlowStart) (c : Congestion) (acked : ℕ) → c.fast ≡ false → c.cwnd ≤ greatest_window → c.cwnd ≤ may_grow slow c acked
keeps Recommended = search rules
keeps Permitted = search rules

-- what is permitted is at least what is recommended
start_permits : (slow : SlowStart) (c : Congestion) (acked : ℕ) → slow_start slow c acked ≤ slow_start Permitted c acked
start_permits Recommended c acked = omega arith
start_permits Permitted c acked = omega arith

pub growth_permits : (slow : SlowStart) (c : Congestion) (acked : ℕ) → may_grow slow c acked ≤ may_grow Permitted c acked
growth_permits slow c acked = by c.fast (start_permits slow c acked)
  where
    by : (fast : Bool) → slow_start slow c acked ≤ slow_start Permitted c acked
        → capped (if fast then c.ssthresh else growth slow c acked) ≤ capped (if fast then c.ssthresh else growth Permitted c acked)
    by true le = omega arith
    by false le = grind (arith, nat_tests)
