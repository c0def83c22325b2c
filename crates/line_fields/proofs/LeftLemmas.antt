-- A reader of lines in a state, seen by what it has left.
use Rattle.std.proofs.Common.{◌≡◌, ℕ, List, [], ◌∷◌, Option, None, Some, Result, Ok, Err, refl, ◌∙◌}
use Rattle.std.specs.Option.{option_map}
use Rattle.line_fields.specs.declared.fault.TextFault.{TextFault}
use Rattle.line_fields.specs.Reading.{Fails}
use Rattle.line_fields.specs.Lines.{line_text}
use Rattle.line_fields.specs.Folding.{read_lines}
use Rattle.line_fields.proofs.Loop.{Fails-map}
use Rattle.line_fields.specs.Rows.{TakesRow, HasNoRow, next_text, FailsAt}
use Rattle.line_fields.specs.Left.{Yields, FailsLeft, Remains}

module _ {S A : Type 0} (read : S → List ℕ → Result A TextFault) (after : S → A → S) where
  abbrev pub left_in : S → Option (List (List ℕ)) → Option (Result (List A) TextFault)
  left_in state rows = option_map (read_lines read after state) rows

  pub yields_item : (state : S) (a b : Option (List (List ℕ))) (raw : List ℕ) (item : A) → TakesRow a b raw
      → read state raw ≡ Ok item → Yields (left_in state a) (left_in (after state item) b) (Some item)
  unfolding read_lines
  yields_item state None b raw item t is = tt
  yields_item state (Some raws) None raw item t is = absurd t
  yields_item state (Some raws) (Some rest) raw item t is = rw (t, is) refl

  pub yields_none : (state : S) (a b : Option (List (List ℕ))) → HasNoRow a b → Yields (left_in state a) (left_in state b) None
  unfolding read_lines
  yields_none state None b h = tt
  yields_none state (Some raws) None h = absurd h
  yields_none state (Some raws) (Some rest) h = (rw h.0 refl, rw h.1 refl)

  -- a fault of a line is the fault of what is left
  pub fails_line : (state : S) (a b : Option (List (List ℕ))) (raw : List ℕ) (e : TextFault) → TakesRow a b raw
      → Fails e.kind e (read state raw) → FailsLeft e (left_in state a)
  unfolding read_lines
  fails_line state None b raw e t fails = tt
  fails_line state (Some raws) None raw e t fails = absurd t
  fails_line state (Some raws) (Some rest) raw e t fails = Fails-map e.kind e (read state raw) (read_lines read after state raws) (λ is. rw (t, is) refl) fails

  -- so is one of its text, where reading begins with the text
  pub fails_text : (number : ℕ) (state : S) → ((raw : List ℕ) (e : TextFault) → line_text number raw ≡ Err e → read state raw ≡ Err e)
      → (a : Option (List (List ℕ))) (e : TextFault) → FailsAt (next_text number) e a → FailsLeft e (left_in state a)
  unfolding read_lines
  fails_text number state begins None e fails = tt
  fails_text number state begins (Some []) e fails = Fails-map e.kind e (next_text number []) (read_lines read after state []) (λ is. absurd cc) fails
  fails_text number state begins (Some (raw ∷ raws)) e fails =
      Fails-map e.kind e (line_text number raw) (read_lines read after state (raw ∷ raws)) (λ is. let first = begins raw e is in rw first refl) fails

-- ---- what is left stayed as it was

pub yields_after : {A : Type 0} (a b c : Option (Result (List A) TextFault)) (item : Option A) → Remains a b → Yields b c item → Yields a c item
yields_after None b c item same yields = tt
yields_after (Some left) None c item same yields = absurd same
yields_after (Some left) (Some rest) None item same yields = absurd yields
yields_after (Some left) (Some rest) (Some more) None same yields = (same ∙ yields.0, yields.1)
yields_after (Some left) (Some rest) (Some more) (Some item) same yields = same ∙ yields

pub fails_after : {A : Type 0} (a b : Option (Result A TextFault)) (e : TextFault) → Remains a b → FailsLeft e b → FailsLeft e a
fails_after None b e same fails = tt
fails_after (Some left) None e same fails = absurd same
fails_after (Some left) (Some rest) e same fails = Fails-map e.kind e rest left (λ is. same ∙ is) fails
