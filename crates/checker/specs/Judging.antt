-- If less of congestion control is judged, a yes stays a yes.
use Rattle.std.specs.Prelude.{◌≡◌, ◌≤◌, ℕ}
use Rattle.case_forms.specs.declared.steps.Witness.{Witness}
use Rattle.case_forms.specs.declared.trace.Trace.{Trace}
use Rattle.case_forms.specs.declared.version.Judged.{Judged}
use Rattle.verdict.specs.declared.report.Verdict.TheVariants.{Yes}
use Rattle.spec_tcp_laws.specs.Judging.{extent, header_by}
use Rattle.checker.specs.Verdicts.{verdict}

-- the same trace with another word on congestion control
abbrev pub trace_by : Judged → Trace → Trace
trace_by j t = record t { header = header_by j t.header }

-- a yes under a word is a yes, with the same counts, under each word that judges no more
abbrev pub LessJudgedStaysYes : Judged → Type 0
LessJudgedStaysYes j = (t : Trace) (w : Witness) (lines hidden : ℕ) → extent j ≤ extent t.header.congestion
    → verdict t w ≡ Yes lines hidden → verdict (trace_by j t) w ≡ Yes lines hidden
