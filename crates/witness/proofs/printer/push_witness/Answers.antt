use Rattle.std.proofs.Common.{◌≡◌, ◌∷◌, [], ◌++◌, subst}
use Rattle.case_forms.specs.declared.steps.Step.{Step}
use Rattle.line_fields.specs.Spelling.{printed_line}
use Rattle.witness.specs.FirstLine.{first_text}
use Rattle.witness.specs.Steps.{step_pieces}
use Rattle.witness.specs.Printable.{IsInMemory}
use Rattle.witness.proofs.PrintLaw.{writes_more}
use Rattle.witness.proofs.PrintableLaw.{all_more}
use Rattle.witness.proofs.printer.push_witness.Goals as goal

pub loop-step-preserved : goal.loop-step-preserved
loop-step-preserved c =
    let wrote =
    subst (λ (s : Step). c.push_step.new.out.items ≡ c.loop-step.out.items ++ printed_line (step_pieces s))
    c.step-item.is c.in_ok-push_step.ensures in
    let xs = c.as_slice-step-items.result.now in record {
      text = writes_more c.loop-step.out.items c.push_step.new.out.items
          (c.args.out.now.items ++ (first_text c.args.witness.now.version ++ 10 ∷ [])) xs c.loop-step.step-index _
          c.loop-step-test.true c.loop-step.invariant.text wrote;
      memory =
          all_more IsInMemory xs c.loop-step.step-index _ c.loop-step-test.true c.loop-step.invariant.memory
          (subst IsInMemory c.step-item.is c.step_in_memory.ensures);
    }
