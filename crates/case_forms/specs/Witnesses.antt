-- What holds of each witness that has a text.
use Rattle.std.specs.Prelude.{◌≡◌, ◌≤◌, ◌<◌, ◌^◌, ℕ, length, Option, true, IfSome, is_some}
use Rattle.std.specs.List.{All}
use Rattle.case_forms.specs.declared.steps.Label.{Label}
use Rattle.case_forms.specs.declared.steps.Label.TheVariants.{M}
use Rattle.case_forms.specs.declared.steps.Witness.{Witness}
use Rattle.case_forms.specs.declared.version.Version.{Version}
use Rattle.case_forms.specs.Versions.{scales}

-- the positions in a label are at most the greatest that a text can contain
abbrev pub IsWithinLimits : {A : Type 0} → Label A → Type 0
IsWithinLimits (M host plan) = plan.pos ≤ 10 ^ 18
IsWithinLimits _ = Unit {0}

-- a shift is given only if windows may be scaled, and only with an initial number (RFC 7323, 2.2 and 2.3)
abbrev pub IsShift : {A : Type 0} → Version → Option A → ℕ → Type 0
IsShift v iss shift = (scales v ≡ true) × (is_some iss ≡ true) × (shift ≤ 14)

-- the shift in a label, if any, may be given
abbrev pub TellsShift : {A : Type 0} → Version → Label A → Type 0
TellsShift v (M host plan) = IfSome plan.shift (IsShift v plan.iss)
TellsShift v _ = Unit {0}

-- it has fewer steps than a text can have lines, and each is within its limits
pub record IsWitness (w : Witness) : Type 0 where
  pub few : length w.steps < 10000000
  pub within : All (λ s. IsWithinLimits s.label) w.steps
  pub shifts : All (λ s. TellsShift w.version s.label) w.steps
