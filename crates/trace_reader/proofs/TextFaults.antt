-- What the reader of a trace answers is the first fault of its text.
use Rattle.std.proofs.Common.{◌≡◌, ℕ, List, Result, Ok, Err, refl, ap, sym, subst, ◌∙◌}
use Rattle.std.specs.Prelude.{◌↔◌}
use Rattle.bstr.specs.Text.{lines_of}
use Rattle.case_forms.specs.declared.trace.Header.{Header}
use Rattle.case_forms.specs.declared.trace.Line.{Line}
use Rattle.case_forms.specs.declared.trace.Trace.{Trace}
use Rattle.case_forms.specs.declared.version.Version.{Version}
use Rattle.line_fields.specs.Folding.{read_lines}
use Rattle.line_fields.specs.Reading.{◌>>=◌}
use Rattle.line_fields.specs.declared.fault.TextFault.{TextFault}
use Rattle.line_fields.proofs.LineFaults.{faults_among}
use Rattle.trace_reader.specs.EventForms.{IsLineFault, IsEventsFault}
use Rattle.trace_reader.specs.EventLines.{Place, behind, IsEventLine, line_of}
use Rattle.trace_reader.specs.Headers.{header_of}
use Rattle.trace_reader.specs.TraceFaults.{IsTraceFault, Headers, Events}
use Rattle.trace_reader.specs.TraceText.{first_place, events_of, trace_of}
use Rattle.trace_reader.proofs.EventFaults.{line_faults}
use Rattle.trace_reader.proofs.EventLineLaw.{reads_line}
use Rattle.trace_reader.proofs.HeaderFaults.{header_faults}
use Rattle.trace_reader.proofs.HeaderLaw.{Headed, header_takes, header_again}

pub events_fault : (v : Version) (place : Place) (raws : List (List ℕ)) (e : TextFault)
    → (read_lines (line_of v) behind place raws ≡ Err e) ↔ IsEventsFault v place raws e
events_fault v place raws e = faults_among (line_of v) (IsEventLine v) (IsLineFault v) behind (reads_line v) (line_faults v) place raws e

abbrev bad : {A : Type 0} → TextFault → Result A TextFault
bad e = Err e

abbrev good : {A : Type 0} → A → Result A TextFault
good a = Ok a

abbrev trace_with : Header → List Line → Result Trace TextFault
trace_with h ls = Ok (record { header = h; lines = ls })

-- what is behind the header
behind_faults : (h : Header) (raws : List (List ℕ)) (e : TextFault)
    → ((events_of h raws >>= trace_with h) ≡ Err e) ↔ IsEventsFault h.version (first_place h) raws e
behind_faults h raws e = go (events_of h raws) refl
  where
    go : (o : Result (List Line) TextFault) → events_of h raws ≡ o → ((o >>= trace_with h) ≡ Err e) ↔ IsEventsFault h.version (first_place h) raws e
    go (Ok lines) is = (λ same. absurd cc, λ g. let clash : good lines ≡ Err e = sym is ∙ (events_fault h.version (first_place h) raws e).1 g in absurd cc)
    go (Err f) is = (
      λ same. let one : f ≡ e = cc in (events_fault h.version (first_place h) raws e).0 (is ∙ ap (λ (x : TextFault). bad {A = List Line} x) one),
      λ g. let same : bad {A = List Line} f ≡ Err e = sym is ∙ (events_fault h.version (first_place h) raws e).1 g in
          let one : f ≡ e = cc in ap (λ (x : TextFault). bad {A = Trace} x) one,
    )

pub trace_faults : (text : List ℕ) (e : TextFault) → (trace_of text ≡ Err e) ↔ IsTraceFault text e
unfolding trace_of
trace_faults text e = go (header_of (lines_of text)) refl
  where
    go : (o : Result Headed TextFault) → header_of (lines_of text) ≡ o → ((o >>= λ h. events_of h.0 h.1 >>= trace_with h.0) ≡ Err e) ↔ IsTraceFault text e
    go (Err f) is = (
      λ same. let one : f ≡ e = cc in
          Headers ((header_faults (lines_of text) e).0 (is ∙ ap (λ (x : TextFault). bad {A = Headed} x) one)),
      λ g. back g,
    )
      where
        back : IsTraceFault text e → bad {A = Trace} f ≡ Err e
        back (Headers fault) = let same : bad {A = Headed} f ≡ Err e =
            sym is ∙ (header_faults (lines_of text) e).1 fault in let one : f ≡ e = cc in
            ap (λ (x : TextFault). bad {A = Trace} x) one
        back (Events h heads raws split limits lines fault) =
            let clash : bad {A = Headed} f ≡ Ok (h, raws) = sym is ∙ ap header_of split ∙ header_again h heads raws limits lines in absurd cc
    go (Ok x) is = (λ same. there same, λ g. back g)
      where
        there : (events_of x.0 x.1 >>= trace_with x.0) ≡ Err e → IsTraceFault text e
        there same = let h = header_takes (lines_of text) x is in Events x.0 h.heads x.1 h.front h.limits h.lines ((behind_faults x.0 x.1 e).0 same)

        back : IsTraceFault text e → (events_of x.0 x.1 >>= trace_with x.0) ≡ Err e
        back (Headers fault) = let clash : good x ≡ Err e = sym is ∙ (header_faults (lines_of text) e).1 fault in absurd cc
        back (Events h heads raws split limits lines fault) =
            let same : good (h, raws) ≡ Ok x = sym (header_again h heads raws limits lines) ∙ ap header_of (sym split) ∙ is in
            let one : (h, raws) ≡ x = cc in
            subst (λ (y : Headed). (events_of y.0 y.1 >>= trace_with y.0) ≡ Err e) one ((behind_faults h raws e).1 fault)
