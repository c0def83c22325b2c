-- The extra numbers of a step.
use Rattle.std.specs.Prelude.{ℕ}
use Rattle.case_forms.specs.declared.named_line.Extras.{Extras}
use Rattle.case_forms.specs.declared.named_line.Extras.TheVariants.{Bare, One, Two}

-- how many there are
abbrev pub extras_count : Extras → ℕ
extras_count Bare = 0
extras_count (One x) = 1
extras_count (Two x y) = 2
