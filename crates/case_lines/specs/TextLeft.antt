-- What is left of the lines of a trace's text.
use Rattle.std.specs.Prelude.{ℕ, List, Option}
use Rattle.std.specs.Option.{option_map}
use Rattle.counted.specs.declared.ends.Counted.{Counted}
use Rattle.counted.specs.Counting.{left_of, line_of, failures_of}
use Rattle.line_fields.specs.Rows.{rows_of}
use Rattle.case_lines.specs.CaseLines.{trace_rows, witness_rows}
use Rattle.case_lines.specs.declared.text_lines.TextEnd.{TextEnd}
use Rattle.case_lines.specs.declared.text_lines.TextLines.{TextLines}

-- where they are read
abbrev pub lines_source : {A : Type 0} → TextLines A → Counted A
lines_source t = t.source

-- where the text ends
abbrev pub end_of : {A : Type 0} → TextLines A → TextEnd
end_of t = t.end

-- the bytes of the line that was read last
abbrev pub last_raw : {A : Type 0} → TextLines A → List ℕ
last_raw t = line_of t.source

-- how many reads failed
abbrev pub text_failures : {A : Type 0} → TextLines A → ℕ
text_failures t = failures_of t.source

-- the lines that are left, if the bytes are known
abbrev pub rows_left : {A : Type 0} → (A → Option (List ℕ)) → TextLines A → Option (List (List ℕ))
rows_left known t = option_map (trace_rows t.end) (rows_of (left_of known t.source))

-- the lines after the first line of the case's witness, if the bytes are known
abbrev pub witness_left : {A : Type 0} → (A → Option (List ℕ)) → TextLines A → Option (Option (List (List ℕ)))
witness_left known t = option_map (witness_rows t.end) (rows_of (left_of known t.source))
