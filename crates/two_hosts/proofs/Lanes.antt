-- Numbers that are both even or both odd are of one host.
use Rattle.std.proofs.Common.{◌≡◌, ◌%◌, ◌∙◌, ℕ, zero, suc, refl, ap, sym, arith}
use Rattle.case_forms.specs.declared.calls.Host.{Host}
use Rattle.case_forms.specs.declared.calls.Host.TheVariants.{Zero, One}
use Rattle.spec_network.specs.Tables.{lane, other}

twice : (h : Host) → other (other h) ≡ h
twice Zero = refl
twice One = refl

lane_low : (n : ℕ) → lane n ≡ lane (n % 2)
lane_low zero = refl
lane_low (suc zero) = refl
lane_low (suc (suc n)) = twice (lane n) ∙ lane_low n ∙ ap lane (let same : n % 2 ≡ suc (suc n) % 2 = omega arith in same)

pub same_lane : (m n : ℕ) → m % 2 ≡ n % 2 → lane m ≡ lane n
same_lane m n same = lane_low m ∙ ap lane same ∙ sym (lane_low n)
