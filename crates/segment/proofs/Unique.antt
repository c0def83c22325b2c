-- Bytes have one segment at most, and no fault beside it.
use Rattle.std.proofs.Common.{◌≡◌, ℕ, List, Result, Ok, Err, refl, sym, ap, ◌∙◌, arith, inl, inr}
use Rattle.std.specs.Prelude.{IfOk, IfErr, MatchResult}
use Rattle.segment.specs.declared.fault.SegFault.{SegFault}
use Rattle.segment.specs.declared.fault.SegFault.TheVariants.{Short, Offset, OptionLength, TooLong, OutOfMemory}
use Rattle.segment.specs.declared.fields.Segment.{Segment}
use Rattle.segment.specs.Layout.{IsSegment, IsFault, fields_of, options_of}
use Rattle.segment.proofs.Cuts.{IsCut-unique}

pub IsSegment-unique : (bytes : List ℕ) (s t : Segment) → IsSegment bytes s → IsSegment bytes t → s ≡ t
IsSegment-unique bytes s t p q =
    p.fields ∙ ap (fields_of bytes) (IsCut-unique p.items q.items (options_of bytes) p.cut q.cut) ∙ sym q.fields

pub IsFault-no_segment : (bytes : List ℕ) (e : SegFault) (s : Segment) → IsFault bytes e → IsSegment bytes s → e ≡ OutOfMemory
IsFault-no_segment bytes Short s fault p = absurd (let h = p.header.whole in omega arith)
IsFault-no_segment bytes Offset s fault p =
    absurd (elim fault.1 [
      | inl low ↦ let h = p.header.least in omega arith
      | inr high ↦ let h = p.header.within in
          omega arith
    ])
IsFault-no_segment bytes OptionLength s fault p = absurd (fault.1 p.items p.cut)
IsFault-no_segment bytes TooLong s fault p = absurd (let h = p.len in let k = fault.2 in omega arith)
IsFault-no_segment bytes OutOfMemory s fault p = refl

pub only_segment : (bytes : List ℕ) (r : Result Segment SegFault) → IfOk r (λ s. IsSegment bytes s) → IfErr r (λ e. IsFault bytes e)
    → (s : Segment) → IsSegment bytes s → MatchResult r (λ t. t ≡ s) (λ e. e ≡ OutOfMemory)
only_segment bytes (Ok t) found fault s p = IsSegment-unique bytes t s found p
only_segment bytes (Err e) found fault s p = IsFault-no_segment bytes e s fault p
