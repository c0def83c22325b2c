-- A case in two texts.
use Rattle.std.specs.Prelude.{◌≡◌, ℕ, List, Option, None, Some, Result, Ok, Err}
use Rattle.bstr.specs.Text.{lines_of}
use Rattle.case_forms.specs.declared.trace.Trace.{Trace}
use Rattle.case_forms.specs.declared.steps.Witness.{Witness}
use Rattle.case_lines.specs.FirstLine.{version_named}
use Rattle.trace_reader.specs.TraceText.{trace_of}
use Rattle.witness.specs.WitnessText.{witness_for}
use Rattle.verdict.specs.declared.report.Verdict.{Verdict}
use Rattle.checker.specs.declared.case.CaseFault.{CaseFault}
use Rattle.checker.specs.declared.case.CaseFault.TheVariants as faults
use Rattle.checker.specs.Cases.{trace_part, witness_part, texts_result}

-- the result is what both texts give, if their bytes are known, unless memory ran out or a read failed
abbrev pub GivesTexts : Result Verdict CaseFault → Option (List ℕ) → Option (List ℕ) → Type 0
GivesTexts (Err faults.OutOfMemory) trace witness = Unit {0}
GivesTexts (Err faults.Read) trace witness = Unit {0}
GivesTexts given None witness = Unit {0}
GivesTexts given (Some trace) None = Unit {0}
GivesTexts given (Some trace) (Some witness) = given ≡ texts_result trace witness

-- the known bytes are read as this trace, and for it as this witness
abbrev pub AreOf : Option (List ℕ) → Option (List ℕ) → Trace → Witness → Type 0
AreOf None witness t w = ⊥
AreOf (Some xs) None t w = ⊥
AreOf (Some xs) (Some ys) t w = (trace_of xs ≡ Ok t) × (witness_for t.header.version ys ≡ Ok w)

-- the two parts of a case in one text are read this way
abbrev pub AreInCase : List ℕ → Trace → Witness → Type 0
AreInCase text t w =
    let v = version_named (lines_of text) in AreOf (Some (trace_part v text)) (Some (witness_part v text)) t w
