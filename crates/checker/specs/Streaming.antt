-- A case whose lines are offered while its steps are done.
use Rattle.std.specs.Prelude.{◌≡◌, ◌<◌, ◌≤◌, ◌+◌, ◌⊎◌, ℕ, Bool, not, List, [], ◌∷◌, ◌++◌, length, count_by, Option}
use Rattle.std.specs.Prelude.{None, Some, IfSome, Result, Ok, Err}
use Rattle.std.specs.Option.{option_map}
use Rattle.case_forms.specs.declared.trace.Header.{Header}
use Rattle.case_forms.specs.declared.trace.Line.{Line}
use Rattle.case_forms.specs.declared.named_line.NamedLine.{NamedLine}
use Rattle.case_forms.specs.declared.steps.Label.{Label}
use Rattle.case_forms.specs.declared.steps.Label.TheVariants as labels
use Rattle.case_forms.specs.declared.steps.Step.{Step}
use Rattle.case_forms.specs.Steps.{extras_count}
use Rattle.case_forms.specs.Traces.{first_event_line}
use Rattle.verdict.specs.declared.rule.Rule.{Rule}
use Rattle.verdict.specs.declared.rule.Rule.TheVariants.{LineRange}
use Rattle.verdict.specs.declared.report.Verdict.{Verdict}
use Rattle.counted.specs.Counting.{one_more}
use Rattle.line_fields.specs.declared.fault.TextFault.{TextFault}
use Rattle.interval_order.specs.Orders.{Order, order_of, order_after}
use Rattle.interval_order.specs.Later.{TakesBelow, AreLater, is_among, late_rule}
use Rattle.spec_cases.specs.Cases.{Known, Watched as Progress, forget, first_known, known_after_all}
use Rattle.checker.specs.declared.case.CaseFault.{CaseFault}
use Rattle.checker.specs.declared.case.CaseFault.TheVariants as faults
use Rattle.checker.specs.Seen.{move_of, moves, stamped}
use Rattle.checker.specs.Verdicts.{verdict_from, takes_line}
use Rattle.checker.specs.Kept.{kept_broken, kept_progress}
use Rattle.checker.specs.Ahead.{Passes}

-- how often a call of one of two readers failed: one more for one of them, and as before for the other
abbrev pub OneFailed : ℕ → ℕ → ℕ → ℕ → Type 0
OneFailed a b c d = ((c ≡ one_more a) × (d ≡ b)) ⊎ ((c ≡ a) × (d ≡ one_more b))

-- a label that takes a line takes one below this number
abbrev pub NamesBelow : ℕ → Label NamedLine → Type 0
NamesBelow next (labels.L named) = named.number < next
NamesBelow next _ = Unit {0}

-- the window and the world after these steps
pub record HasCome (header : Header) (lines : List Line) (earlier : List Step) (o : Order) (p : Progress) : Type 0 where
  pub order : o ≡ order_of header lines (moves earlier)
  pub header_is : p.header ≡ header
  pub world : p.world ≡ forget (known_after_all header (first_known header) (stamped header lines earlier))

-- the whole world that steps leave
abbrev pub whole : Header → List Line → List Step → Known
whole header lines earlier = known_after_all header (first_known header) (stamped header lines earlier)

-- the verdict on the steps that are left
abbrev pub verdict_on : Header → List Line → List Step → List Step → Verdict
verdict_on header lines earlier rest = verdict_from header lines earlier (whole header lines earlier) rest

-- what is left of a whole list of lines comes later
abbrev pub AllLater : ℕ → Option (Result (List Line) TextFault) → Type 0
AllLater moment None = Unit {0}
AllLater moment (Some (Err e)) = Unit {0}
AllLater moment (Some (Ok lines)) = AreLater moment lines

-- the whole list if all was read, or will be
abbrev pub IsWhole : {A : Type 0} → Option (Result (List A) TextFault) → List A → Type 0
IsWhole all items = all ≡ Some (Ok items)

-- how far a case has come: which of all the lines were offered, and which of all the steps are done
pub record SoFar (header : Header) (lines left : Option (Result (List Line) TextFault))
    (steps ahead : Option (Result (List Step) TextFault))
    (o : Order) (p : Progress) (offered : List Line) (earlier : List Step) : Type 0 where
  pub passed : Passes lines left offered
  pub done : Passes steps ahead earlier
  pub come : HasCome header offered earlier o p
  pub below : TakesBelow (first_event_line header + length offered) (moves earlier)
  pub told : (all : List Line) → IsWhole lines all → (rest : List Step)
      → verdict_on header all [] (earlier ++ rest) ≡ verdict_on header all earlier rest

-- how many of the steps take a line, and how many are hidden
pub record Tallied (earlier : List Step) (taken hidden : ℕ) : Type 0 where
  pub taken_are : taken ≡ count_by (λ s. takes_line s.label) earlier
  pub hidden_are : hidden ≡ count_by (λ s. not (takes_line s.label)) earlier

-- the number of the first line that is not placed: of those that were offered, else of the one that is read ahead
abbrev pub first_of_both : List (ℕ × Line) → Option Line → Option ℕ
first_of_both [] ahead = option_map (λ line. line.number) ahead
first_of_both (e ∷ held) ahead = Some e.0

-- both texts were read, and this is the verdict on them
abbrev pub Ends : Header → Option (Result (List Line) TextFault) → Option (Result (List Step) TextFault) → Verdict
    → Type 0
Ends header None steps v = Unit {0}
Ends header (Some lines) None v = Unit {0}
Ends header (Some lines) (Some steps) v =
    (all : List Line) × (done : List Step) × (lines ≡ Ok all) × (steps ≡ Ok done) × (v ≡ verdict_on header all [] done)

-- the fault is the trace's, or the witness's of a trace without one
abbrev pub CaseFails : CaseFault → Option (Result (List Line) TextFault) → Option (Result (List Step) TextFault)
    → Type 0
CaseFails (faults.Trace f) lines steps = IfSome lines (λ l. l ≡ Err f)
CaseFails (faults.Witness f) lines steps =
    IfSome lines (λ l. (all : List Line) × (l ≡ Ok all)) × IfSome steps (λ s. s ≡ Err f)
CaseFails faults.Read lines steps = Unit {0}
CaseFails faults.OutOfMemory lines steps = Unit {0}

-- the verdict on both texts, or the first fault
abbrev pub Tells : Header → Option (Result (List Line) TextFault) → Option (Result (List Step) TextFault)
    → Result Verdict CaseFault → Type 0
Tells header lines steps (Ok v) = Ends header lines steps v
Tells header lines steps (Err e) = CaseFails e lines steps

-- lines that are skipped on the way to a line that a step names before it is reached
pub record Between (o : Order) (a b : Option (Result (List Line) TextFault)) (ahead : Option Line) (noted : ℕ → Bool)
    (number moment : ℕ) (between : List Line) : Type 0 where
  pub passed : Passes a b between
  pub next : IfSome ahead (λ line. (line.number ≡ o.next + length between) × (moment < line.moment))
  pub threads : (t : ℕ) → noted t ≡ is_among t between
  pub low : o.next + length between ≤ number

-- the least rule broken by a step that takes a line not offered yet: one of four, or the first if there is no such line
abbrev pub IsLate : Order → Option (Result (List Line) TextFault) → Option (Result (List Line) TextFault) → ℕ → ℕ → ℕ
    → Rule → Type 0
IsLate o a b number extras moment rule =
    ((between : List Line) × (line : Line) × Passes a b (between ++ line ∷ []) × (number ≡ o.next + length between) ×
    (moment < line.moment) × (rule ≡ late_rule o between line extras moment))
    ⊎ ((between : List Line) × Passes a b between × (b ≡ Some (Ok [])) × (o.next + length between ≤ number)
    × (rule ≡ LineRange))

-- a step breaks no rule, and is done
pub record IsDone (o n : Order) (p q : Progress) (s : Step) : Type 0 where
  pub names : NamesBelow o.next s.label
  pub none : kept_broken p.header o p.world s ≡ None
  pub moved : n ≡ order_after o (move_of s)
  pub acted : q ≡ kept_progress o p s

-- it breaks this rule, according to what is kept or to the lines that were read on
abbrev pub IsRefused : Order → Progress → Step → Option (Result (List Line) TextFault)
    → Option (Result (List Line) TextFault) → Rule → Type 0
IsRefused o p s a b rule =
    (NamesBelow o.next s.label × (kept_broken p.header o p.world s ≡ Some rule) × (b ≡ a))
    ⊎ ((named : NamedLine) × (s.label ≡ labels.L named)
    × IsLate o a b named.number (extras_count named.extras) s.moment rule)
