use Rattle.std.proofs.Common.{ℕ, List, Bor, Some, Result, ap, subst, ◌∙◌, Err}
use Rattle.std.proofs.lemmas.Result.{err_from_is_err_and}
use Rattle.case_forms.specs.declared.trace.Trace.{Trace}
use Rattle.line_fields.specs.declared.fault.TextFault.{TextFault}
use Rattle.line_fields.specs.declared.fault.SourceFault.{SourceFault}
use Rattle.line_fields.proofs.ReadsLemmas.{text_fault}
use Rattle.trace_reader.specs.TraceText.{trace_of}
use Rattle.trace_reader.specs.TraceLeft.{lines_left, Begins}
use Rattle.trace_reader.proofs.StreamLaw.{whole_fails, begun_in, more_in, memory_left, new_in_memory, left_in_memory}
use Rattle.trace_reader.proofs.from_bytes.read.Goals as goal

pub returns-in_err-line : goal.returns-in_err-line
returns-in_err-line c =
    let loop = c.loop-lines.invariant in
    let p = err_from_is_err_and c.from_residual-in_err-line.result c.from_residual-in_err-line.ensures.1 in
    let fails = text_fault c.in_err-line.field-0.0 p.0 (trace_of c.args.text.now) p.2
    (λ d is. whole_fails c.in_ok-header.header c.loop-lines.lines _ (trace_of c.args.text.now) d loop.whole
    (rw loop.left_is at c.next.ensures.fault d loop.well (c.in_err-line.was ∙ ap (λ (f : SourceFault). Err f) is))) in
    rw p.1 fails

pub returns-in_err-header : goal.returns-in_err-header
returns-in_err-header c =
    let p = err_from_is_err_and c.from_residual.result c.from_residual.ensures.1 in
    let text = ap memory_left c.new-reader.ensures.source ∙ new_in_memory c.new.result _ c.new.ensures.inner c.new.ensures.unread in
    let memory = left_in_memory c.new-reader.result c.args.text.now text c.new-reader.ensures.end in
    let fails = text_fault c.in_err-header.field-0.0 p.0 (trace_of c.args.text.now) p.2
    (λ d is. rw memory at c.header.ensures.fault d c.new-reader.ensures.open
    (c.in_err-header.was ∙ ap (λ (f : SourceFault). Err f) is)) in
    rw p.1 fails

pub loop-lines-init : goal.loop-lines-init
loop-lines-init c =
    let text = ap memory_left c.new-reader.ensures.source ∙ new_in_memory c.new.result _ c.new.ensures.inner c.new.ensures.unread in
    let memory = left_in_memory c.new-reader.result c.args.text.now text c.new-reader.ensures.end in
    let begins = c.in_ok-header.ensures.header c.new-reader.ensures.open in
    let left = lines_left (λ (text : Bor (List ℕ)). Some text.now) c.header.new.self in
    let begun = begun_in (trace_of c.args.text.now) left c.in_ok-header.header
    (subst (λ (whole : Result Trace TextFault). Begins (Some whole) left c.in_ok-header.header) memory begins) in
    record {
      well = c.in_ok-header.ensures.open;
      begun = c.header.ensures.begun;
      left = begun.0;
      left_is = begun.1;
      whole = rw c.new-lines.ensures begun.2;
    }

pub loop-lines-preserved : goal.loop-lines-preserved
loop-lines-preserved c =
    let loop = c.loop-lines.invariant in
    let yields = rw c.in-Some.is at c.in_ok-line.ensures.next loop.well in
    let more = more_in c.in_ok-header.header c.loop-lines.lines c.in-Some.line _ _ loop.left (trace_of c.args.text.now) loop.left_is yields loop.whole in
    record {
      well = c.in_ok-line.ensures.open;
      begun = c.next.ensures.begun;
      left = more.0;
      left_is = more.1;
      whole = rw c.in_ok-push.ensures.ok more.2;
    }
