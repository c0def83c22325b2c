use Rattle.std.proofs.Common.{ap, ◌∙◌, Err}
use Rattle.std.proofs.lemmas.Result.{err_from_is_err_and}
use Rattle.line_fields.specs.declared.fault.SourceFault.{SourceFault}
use Rattle.line_fields.proofs.ReadsLemmas.{text_fault}
use Rattle.witness.specs.WitnessText.{witness_for}
use Rattle.witness.specs.StepsLeft.{steps_of}
use Rattle.witness.proofs.StreamLaw.{whole_begins, whole_on, whole_fails, whole_read}
use Rattle.witness.proofs.from_bytes.read.Goals as goal

pub loop-steps-init : goal.loop-steps-init
loop-steps-init c = record {
  well = c.new-reader.ensures.open;
  whole =
      rw (
        c.new-steps.ensures,
        c.new-reader.ensures.fresh,
        c.new-reader.ensures.version,
        c.new-reader.ensures.source,
        c.new.ensures.inner,
        c.new.ensures.unread,
      ) (whole_begins c.args.version c.args.text.now);
}

pub returns-in_err-step : goal.returns-in_err-step
returns-in_err-step c =
    let loop = c.loop-steps.invariant in
    let p = err_from_is_err_and c.from_residual.result c.from_residual.ensures.1 in
    let fails = text_fault c.in_err-step.field-0.0 p.0 (witness_for c.args.version c.args.text.now) p.2
    (λ d is. whole_fails (witness_for c.args.version c.args.text.now) c.loop-steps.steps _ d loop.whole
    (c.next.ensures.fault d loop.well (c.in_err-step.was ∙ ap (λ (f : SourceFault). Err f) is))) in
    rw p.1 fails

pub loop-steps-preserved : goal.loop-steps-preserved
loop-steps-preserved c =
    let loop = c.loop-steps.invariant in
    record {
      well = c.in_ok-step.ensures.open;
      whole =
          rw c.in_ok-push.ensures.ok (whole_on
          (steps_of (witness_for c.args.version c.args.text.now)) c.loop-steps.steps c.in-Some.step _ _ loop.whole
          (rw c.in-Some.is at (c.in_ok-step.ensures.next loop.well)));
    }

pub returns : goal.returns
returns c =
    let loop = c.loop-steps.invariant in
    let none = rw c.in_default.is at (c.in_ok-step.ensures.next loop.well) in
    whole_read c.args.version c.args.text.now _ _ loop.whole none.0
