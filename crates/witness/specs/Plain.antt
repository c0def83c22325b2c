-- A step that is written into its place.
use Rattle.std.specs.Prelude.{◌≡◌, Option, Some, Result, Ok}
use Rattle.case_forms.specs.declared.steps.Step.{Step}
use Rattle.line_fields.specs.declared.fault.TextFault.{TextFault}

-- what is read is in its place
pub record IsPlaced (place : Option Step) (read : Result Step TextFault) : Type 0 where
  pub step : Step
  pub placed : place ≡ Some step
  pub is : read ≡ Ok step
