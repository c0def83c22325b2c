-- With a greater slack, a yes stays a yes; with `any`, no duty is judged but that what a segment shows is true.
use Rattle.std.specs.Prelude.{◌≡◌, ◌≤◌, ◌⊎◌, ℕ, Option, None}
use Rattle.case_forms.specs.declared.steps.Witness.{Witness}
use Rattle.case_forms.specs.declared.trace.Trace.{Trace}
use Rattle.verdict.specs.declared.rule.Rule.{Rule}
use Rattle.verdict.specs.declared.rule.Rule.TheVariants as rules
use Rattle.verdict.specs.declared.report.Verdict.TheVariants.{Yes, No}
use Rattle.spec_tcp_laws.specs.Ascending.{rule_number}
use Rattle.spec_cases.specs.Slack.{AtMost, with_slack}
use Rattle.checker.specs.Explains.{Explains}
use Rattle.checker.specs.Verdicts.{verdict}

-- the same trace with another slack
abbrev pub trace_with : Option ℕ → Trace → Trace
trace_with slack t = record t { header = with_slack slack t.header }

-- with this slack or with `any`, if that is at least the trace's: what explains the trace still does, and a yes stays a
-- yes with the same counts
pub record LessLateStaysYes (slack : Option ℕ) : Type 0 where
  pub explains : (t : Trace) (w : Witness) → AtMost t.header.slack slack → Explains t w
      → Explains (trace_with slack t) w
  pub yes : (t : Trace) (w : Witness) (lines hidden : ℕ) → AtMost t.header.slack slack
      → verdict t w ≡ Yes lines hidden → verdict (trace_with slack t) w ≡ Yes lines hidden

-- what the line of a segment shows isn't true: its selective acknowledgment, the timestamp that it echoes, or its own
abbrev pub IsUntrueLine : Rule → Type 0
IsUntrueLine rule = (rule ≡ rules.SackUntrue) ⊎ (rule ≡ rules.Echo) ⊎ (rule ≡ rules.ClockFalls)

-- with `any`, a no names a rule of order or of the model, whose numbers are at most 39, or that what the line of a
-- segment shows isn't true
abbrev pub AnyNamesNoDuty : Type 0
AnyNamesNoDuty = (t : Trace) (w : Witness) (witness_line trace_line : ℕ) (rule : Rule) → t.header.slack ≡ None
    → verdict t w ≡ No witness_line trace_line rule → (rule_number rule ≤ 39) ⊎ IsUntrueLine rule
