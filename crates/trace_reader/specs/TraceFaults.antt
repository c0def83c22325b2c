-- The first fault of a trace.
use Rattle.std.specs.Prelude.{◌≡◌, ℕ, List, ◌++◌}
use Rattle.bstr.specs.Text.{lines_of}
use Rattle.case_forms.specs.declared.trace.Header.{Header}
use Rattle.line_fields.specs.declared.fault.TextFault.{TextFault}
use Rattle.trace_reader.specs.EventForms.{IsEventsFault}
use Rattle.trace_reader.specs.HeaderForms.{IsHeaderFault}
use Rattle.trace_reader.specs.Headers.{IsHeader, AreLines, header_words}
use Rattle.trace_reader.specs.TraceText.{first_place}

-- that of its header; or, if the text begins with a header, that of the event lines after it
pub data IsTraceFault (text : List ℕ) (e : TextFault) : Type 0 where
  Headers : IsHeaderFault (lines_of text) e → IsTraceFault text e
  Events : (h : Header) (heads raws : List (List ℕ)) → lines_of text ≡ heads ++ raws → IsHeader h
      → AreLines 1 (header_words h) heads
      → IsEventsFault h.version (first_place h) raws e → IsTraceFault text e
