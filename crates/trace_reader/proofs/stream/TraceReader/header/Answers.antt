use Rattle.std.proofs.Common.{◌≡◌, ◌∙◌, sym, ap, Err}
use Rattle.std.proofs.lemmas.Result.{err_from_is_err_and}
use Rattle.line_fields.specs.declared.fault.SourceFault.{SourceFault}
use Rattle.line_fields.specs.declared.fault.SourceFault.TheVariants.{Text}
use Rattle.trace_reader.specs.EventLines.{Place}
use Rattle.trace_reader.proofs.StreamLaw.{header_begins, header_fails}
use Rattle.trace_reader.proofs.stream.TraceReader.header.Goals as goal

pub returns-in_err-header-clause-fault : goal.returns-in_err-header-clause-fault
returns-in_err-header-clause-fault g c = λ e none is.
    let p = err_from_is_err_and c.from_residual.result c.from_residual.ensures.1 in
    let made = p.1 in
    let gave = p.2 in
    let same : c.in_err-header.field-0.0 ≡ Text e = cc in
    let read = sym c.keep_fault.ensures.read ∙ c.in_err-header.was ∙ ap (λ (f : SourceFault). Err f) same in
    header_fails _ _ e (rw read at c.header-read.ensures.header)

pub returns-clause-header : goal.returns-clause-header
returns-clause-header g c = λ none.
    let read = sym c.keep_fault.ensures.read ∙ c.in_ok-header.was in
    let fresh = c.requires none in
    let before = ap (λ (p : Place). p.0) fresh.0 in
    rw (fresh.1, before, c.first_event_line-self.ensures)
    (header_begins _ _ c.in_ok-header.header (rw read at c.header-read.ensures.header))
