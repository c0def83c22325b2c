-- What a caller knows of the lines by the item.
use Rattle.std.proofs.Common.{◌≡◌, List, [], ◌∷◌, Some, None, refl}
use Rattle.case_forms.specs.declared.trace.Line.{Line}
use Rattle.case_lines.specs.Lines.{Takes}

-- the item was the first line, before those that are left
pub Takes-some : (old new : List Line) (line : Line) → Takes old new (Some line) → old ≡ line ∷ new
Takes-some [] new line h = cc
Takes-some (first ∷ rest) new line h = cc

-- without an item, there was no line, and there is none
pub Takes-none : (old new : List Line) → Takes old new None → (old ≡ []) × (new ≡ [])
Takes-none [] new h = (refl, h.1)
Takes-none (first ∷ rest) new h = cc

-- lines that are taken one after another come out in their order
pub two_in_order : (a b : Line) → Takes (a ∷ b ∷ []) (b ∷ []) (Some a) × Takes (b ∷ []) [] (Some b)
two_in_order a b = ((refl, refl), (refl, refl))
