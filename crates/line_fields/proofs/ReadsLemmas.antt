-- Readings of the next lines of a text, one after the other.
use Rattle.std.proofs.Common.{◌≡◌, ℕ, List, [], ◌∷◌, Option, None, Some, Result, Ok, Err, refl, sym, subst}
use Rattle.line_fields.specs.declared.fault.TextFault.{TextFault}
use Rattle.line_fields.specs.declared.fault.SourceFault.{SourceFault}
use Rattle.line_fields.specs.declared.fault.SourceFault.TheVariants as reads
use Rattle.line_fields.specs.Faults.{IsTextFault}
use Rattle.line_fields.specs.Reading.{◌>>=◌, Fails}
use Rattle.line_fields.specs.Lines.{line_text, expect_line, next_raw}
use Rattle.line_fields.specs.Rows.{TakesRow, needed_text, FailsAt, Reads}
use Rattle.line_fields.proofs.Loop.{Fails-map}

-- a reading of the next line, which has to be there
module _ {X Y : Type 0} (view : X → List (List ℕ) → Y) (number : ℕ) (line : List ℕ → Result X TextFault) where
  abbrev pub one_of : List (List ℕ) → Result Y TextFault
  one_of raws = next_raw number raws >>= λ raw. line raw.0 >>= λ x. Ok (view x raw.1)

  pub reads_value : (a b : Option (List (List ℕ))) (raw : List ℕ) (x : X) → TakesRow a b raw → line raw ≡ Ok x → Reads view one_of a b (Ok x)
  reads_value None b raw x took is = tt
  reads_value (Some raws) None raw x took is = absurd took
  reads_value (Some raws) (Some rest) raw x took is = rw (took, is) refl

  -- the line has this fault
  pub reads_fault : (a b : Option (List (List ℕ))) (raw : List ℕ) (e : TextFault) → TakesRow a b raw
      → Fails e.kind e (line raw) → Reads view one_of a b (Err (reads.Text e))
  reads_fault None b raw e took fails = tt
  reads_fault (Some raws) None raw e took fails = absurd took
  reads_fault (Some raws) (Some rest) raw e took fails = Fails-map e.kind e (line raw) (one_of raws) (λ is. rw (took, is) refl) fails

  text_fails : ((raw : List ℕ) (e : TextFault) → line_text number raw ≡ Err e → line raw ≡ Err e)
      → (raws : List (List ℕ)) (e : TextFault) → Fails e.kind e (needed_text number raws) → Fails e.kind e (one_of raws)
  text_fails begins [] e fails = Fails-map e.kind e (needed_text number []) (one_of []) (λ is. let h = is in cc) fails
  text_fails begins (raw ∷ raws) e fails =
      Fails-map e.kind e (needed_text number (raw ∷ raws)) (one_of (raw ∷ raws))
      (λ is. let first = begins raw e is in rw first refl) fails

  -- the line is missing, or its text has this fault, with which reading begins
  pub reads_text : ((raw : List ℕ) (e : TextFault) → line_text number raw ≡ Err e → line raw ≡ Err e)
      → (a b : Option (List (List ℕ))) (f : SourceFault)
      → ((e : TextFault) → f ≡ reads.Text e → FailsAt (needed_text number) e a) → Reads view one_of a b (Err f)
  reads_text begins None b f fails = tt
  reads_text begins (Some raws) b (reads.Text e) fails = text_fails begins raws e (fails e refl)
  reads_text begins (Some raws) b reads.Read fails = tt

-- so does a line that has to stand as it is
pub exact_begins : (number : ℕ) (wanted raw : List ℕ) (e : TextFault) → line_text number raw ≡ Err e → expect_line number wanted raw ≡ Err e
unfolding expect_line
exact_begins number wanted raw e is = rw is refl

-- one reading after the other
module _ {X Y Z W : Type 0} (view : X → List (List ℕ) → Y) (read : List (List ℕ) → Result Y TextFault)
    (after : W → List (List ℕ) → Z) (next : Y → Result Z TextFault) where
  pub reads_then : (a b c : Option (List (List ℕ))) (x : X) (r : Result W SourceFault) → Reads view read a b (Ok x)
      → Reads after (λ rest. next (view x rest)) b c r → Reads after (λ raws. read raws >>= next) a c r
  reads_then None b c x r p q = tt
  reads_then (Some raws) None c x r p q = absurd p
  reads_then (Some raws) (Some rest) None x (Ok y) p q = absurd q
  reads_then (Some raws) (Some rest) (Some more) x (Ok y) p q = rw p q
  reads_then (Some raws) (Some rest) c x (Err (reads.Text e)) p q = rw p q
  reads_then (Some raws) (Some rest) c x (Err reads.Read) p q = tt

  -- the first has a fault
  pub reads_not : (a b c : Option (List (List ℕ))) (f : SourceFault) → Reads view read a b (Err f) → Reads after (λ raws. read raws >>= next) a c (Err f)
  reads_not None b c f p = tt
  reads_not (Some raws) b c (reads.Text e) p = Fails-map e.kind e (read raws) (read raws >>= next) (λ is. rw is refl) p
  reads_not (Some raws) b c reads.Read p = tt

-- ---- a text in memory

pub text_fault : {Y : Type 0} (f : SourceFault) (e : TextFault) (read : Result Y TextFault) → IsTextFault f e
    → ((d : TextFault) → f ≡ reads.Text d → Fails d.kind d read) → Fails e.kind e read
text_fault (reads.Text d) e read is fails = subst (λ (t : TextFault). Fails t.kind t read) (sym is) (fails d refl)
text_fault reads.Read e read is fails = rw is tt
