-- The text of a verdict.
use Rattle.std.specs.Prelude.{ℕ, List, ◌++◌, codes, decimal}
use Rattle.verdict.specs.declared.report.Verdict.{Verdict}
use Rattle.verdict.specs.declared.report.Verdict.TheVariants as verdicts
use Rattle.verdict.specs.Rules.{rule_name}

-- two numbers, a space between them
abbrev pub two_numbers : ℕ → ℕ → List ℕ
two_numbers first second = decimal first ++ codes " " ++ decimal second

-- the line of output for a verdict
abbrev pub verdict_text : Verdict → List ℕ
verdict_text (verdicts.Yes lines hidden) = codes "yes " ++ two_numbers lines hidden
verdict_text (verdicts.No witness_line trace_line rule) =
    codes "no " ++ two_numbers witness_line trace_line ++ codes " " ++ rule_name rule
