use Rattle.std.proofs.Common.{rules, ◌≡◌, false}
use Rattle.case_stream.specs.Cases.{ends_case}
use Rattle.case_stream.proofs.CaseSoFar.{no_row_at}
use Rattle.case_stream.proofs.LongCase.{skip_ended, skip_last, skip_more}
use Rattle.case_stream.proofs.skip_case.Goals.{else-before-eq0-via-then-before-eq0+else-ends_case, else-before-eq0-via-else-before-eq0}
use Rattle.case_stream.proofs.skip_case.Goals as goal

pub returns-in_default-clause-last : goal.returns-in_default-clause-last
returns-in_default-clause-last g c e =
    skip_last _ _ _ c.loop.invariant.skipped (no_row_at _ _ _ _ _ c.in_ok-before.ensures.line c.in_default.is)

pub returns-then-ends_case-clause-case : goal.returns-then-ends_case-clause-case
returns-then-ends_case-clause-case g c e =
    skip_ended _ _ _ _ _ _ c.loop.invariant.skipped c.in_ok-before.ensures.line c.in-Some.is c.if-before-eq0.true (search rules)

pub loop-preserved : goal.loop-preserved
loop-preserved g c = record {
  skipped = elim c.else-before-eq0.branch [
    | else-before-eq0-via-then-before-eq0+else-ends_case w ↦
        let none : ends_case c.read_line.new.line.items ≡ false = search rules in
        skip_more _ _ _ _ _ _ c.loop.invariant.skipped c.in_ok-before.ensures.line c.in-Some.is (λ h. none)
    | else-before-eq0-via-else-before-eq0 w ↦
        skip_more _ _ _ _ _ _ c.loop.invariant.skipped c.in_ok-before.ensures.line c.in-Some.is (λ h. search rules)
  ];
  counts = search rules;
}
