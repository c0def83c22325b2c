-- What a run that records writes.
use Rattle.std.specs.Prelude.{◌≡◌, ◌⊎◌, ℕ, List, ◌++◌, Option, Ok, codes, if◌then◌else◌}
use Rattle.std.specs.Io.KnownBytes.{Appends}
use Rattle.case_forms.specs.declared.steps.Witness.{Witness}
use Rattle.case_forms.specs.declared.trace.Trace.{Trace}
use Rattle.trace_reader.specs.Printable.{IsWithinTrace}
use Rattle.trace_reader.specs.Printed.{trace_text}
use Rattle.witness.specs.Printable.{IsWithinWitness}
use Rattle.witness.specs.Printed.{witness_text}
use Rattle.verdict.specs.declared.report.Verdict.{Verdict}
use Rattle.checker.specs.Cases.{case_result}
use Rattle.checker.specs.Explains.{Explains, IsYes}
use Rattle.two_hosts.specs.declared.plan.Plan.{Plan}
use Rattle.two_hosts.specs.Ends.{has_ended}
use Rattle.two_hosts.specs.Plans.{header_of}

-- the text of a trace and of its witness, one after the other
abbrev pub text_of : Trace → Witness → List ℕ
text_of trace witness = trace_text trace ++ witness_text witness

-- what was written is the text of a trace and of a witness that explains it; if both are within the limits of texts,
-- the text is a case that is answered yes. The status is 0 if the trace shows that all rounds ended, and else 1
pub record WritesCase (plan : Plan) (status : ℕ) (old new : Option (List ℕ)) : Type 0 where
  pub trace : Trace
  pub witness : Witness
  pub header : trace.header ≡ header_of plan.version
  pub version : witness.version ≡ plan.version
  pub explains : Explains trace witness
  pub written : Appends old new (text_of trace witness)
  pub ended : status ≡ (if has_ended plan.rounds trace.lines then 0 else 1)
  pub yes : IsWithinTrace trace → IsWithinWitness witness → (v : Verdict) × (case_result (text_of trace witness) ≡ Ok v)
      × IsYes v

-- a run that records ends with this status: all rounds ended, a limit was met, or memory ran out, which is then the
-- whole output
abbrev pub EndsRecord : Plan → ℕ → Option (List ℕ) → Option (List ℕ) → Type 0
EndsRecord plan status old new =
    ((status ≡ 0 ⊎ status ≡ 1) × WritesCase plan status old new)
    ⊎ ((status ≡ 4) × Appends old new (codes "bad memory\n"))
