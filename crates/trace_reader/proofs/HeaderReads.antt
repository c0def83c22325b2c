-- The header of a text whose lines are read as they are asked for: each line behind those before it.
use Rattle.std.proofs.Common.{◌≡◌, Option, None, Some, Result, Ok, Err}
use Rattle.case_forms.specs.declared.trace.Header.{Header}
use Rattle.line_fields.specs.declared.fault.TextFault.{TextFault}
use Rattle.line_fields.specs.declared.fault.SourceFault.{SourceFault}
use Rattle.line_fields.specs.Reading.{◌>>=◌}
use Rattle.line_fields.specs.Rows.{with_rest, Reads}
use Rattle.line_fields.proofs.ReadsLemmas.{reads_then, reads_not}
use Rattle.trace_reader.specs.Headers.{first_line, header_of}
use Rattle.trace_reader.proofs.HeaderLaw.{Raws, with_first}

abbrev Known : Type 0
Known = Option Raws

-- a part of the header is read so from here on
abbrev Heads : {B : Type 0} → (Raws → Result (B × Raws) TextFault) → Known → Known → Result B SourceFault → Type 0
Heads read a c r = Reads with_rest read a c r

-- a value, and what is read behind it
module _ {A B : Type 0} (value : Raws → Result (A × Raws) TextFault) (next : A × Raws → Result (B × Raws) TextFault) where
  abbrev pub both : Raws → Result (B × Raws) TextFault
  both raws = value raws >>= next

  pub value_then : (a b c : Known) (x : A) (r : Result B SourceFault) → Reads with_rest value a b (Ok x)
      → Heads (λ rest. next (x, rest)) b c r → Heads both a c r
  value_then a b c x r p q = reads_then with_rest value with_rest next a b c x r p q

  pub value_not : (a b : Known) (f : SourceFault) → Reads with_rest value a b (Err f) → Heads both a b (Err f)
  value_not a b f p = reads_not with_rest value with_rest next a b b f p

  -- it is the last
  pub value_last : (a b : Known) (x : A) (y : B) → ((rest : Raws) → next (x, rest) ≡ Ok (y, rest)) → Reads with_rest value a b (Ok x) → Heads both a b (Ok y)
  value_last None b x y made p = tt
  value_last (Some raws) None x y made p = absurd p
  value_last (Some raws) (Some rest) x y made p = rw p (made rest)

-- the header is its first line and what is behind it
pub is_header : (a c : Known) (r : Result Header SourceFault) → Heads (both first_line with_first) a c r → Heads header_of a c r
unfolding header_of
is_header a c r p = p
