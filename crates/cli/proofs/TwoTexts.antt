-- The line and the status of a case in two texts.
use Rattle.std.proofs.Common.{◌≡◌, ℕ, List, Option, Some, None, Result, Ok, Err, subst}
use Rattle.std.specs.Prelude.{IfSome}
use Rattle.verdict.specs.declared.report.Verdict.{Verdict}
use Rattle.checker.specs.declared.case.CaseFault.{CaseFault}
use Rattle.checker.specs.declared.case.CaseFault.TheVariants as faults
use Rattle.checker.specs.Cases.{texts_result}
use Rattle.checker.specs.Texts.{GivesTexts}
use Rattle.answers.specs.Output.{line_of, status_of}
use Rattle.cli.specs.Output.{Ends}

same_ends : (given read : Result Verdict CaseFault) (status : ℕ) (old new : Option (List ℕ)) → given ≡ read
    → Ends (status_of given) (line_of given) status old new → Ends (status_of read) (line_of read) status old new
same_ends given read status old new is ends = subst (λ (r : Result Verdict CaseFault). Ends (status_of r) (line_of r) status old new) is ends

pub texts_end : (given : Result Verdict CaseFault) (a b : Option (List ℕ)) (status : ℕ) (old new : Option (List ℕ)) → GivesTexts given a b → (status ≡ 5 → ⊥)
    → Ends (status_of given) (line_of given) status old new
    → IfSome a (λ xs. IfSome b (λ ys.
    Ends (status_of (texts_result xs ys)) (line_of (texts_result xs ys)) status old new))
texts_end given None b status old new gives no_device ends = tt
texts_end given (Some xs) None status old new gives no_device ends = tt
texts_end (Ok v) (Some xs) (Some ys) status old new gives no_device ends = same_ends (Ok v) (texts_result xs ys) status old new gives ends
texts_end (Err (faults.Trace f)) (Some xs) (Some ys) status old new gives no_device ends =
    same_ends (Err (faults.Trace f)) (texts_result xs ys) status old new gives ends
texts_end (Err (faults.Witness f)) (Some xs) (Some ys) status old new gives no_device ends =
    same_ends (Err (faults.Witness f)) (texts_result xs ys) status old new gives ends
texts_end (Err faults.Read) (Some xs) (Some ys) status old new gives no_device ends = (ends.0, λ other. absurd (no_device (ends.1 other).0))
texts_end (Err faults.OutOfMemory) (Some xs) (Some ys) status old new gives no_device ends = (ends.0, λ other. absurd (other (ends.1 other).0))
