use Rattle.std.proofs.Common.{◌≡◌, None, subst}
use Rattle.case_forms.specs.declared.steps.SegmentPlan.{SegmentPlan}
use Rattle.verdict.specs.Rules.{first_broken}
use Rattle.spec_tcp.specs.Makes.{making_rules}
use Rattle.stack_core.proofs.TendedLemmas.{quiet}
use Rattle.stack_core.proofs.next_segment.is_quiet.Goals as goal

pub returns : goal.returns
returns c = λ is. quiet c.args.version c.args.endpoint.now c.args.opening (c.may_begin.ensures c.if-may_begin.false)
    (subst (λ (m : SegmentPlan). first_broken (making_rules c.args.version c.args.endpoint.now m) ≡ None → ⊥)
    c.byte_of.ensures (c.may_make.ensures c.if-may_make.false))
    (subst (λ (m : SegmentPlan). first_broken (making_rules c.args.version c.args.endpoint.now m) ≡ None → ⊥)
    c.fin_of.ensures (c.may_make-2.ensures c.if-may_make-2.false))
