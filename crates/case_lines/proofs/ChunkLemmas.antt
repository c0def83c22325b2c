-- Lists of lines with one more list, or one fewer.
use Rattle.std.proofs.Common.{◌≡◌, List, [], ◌∷◌, ◌++◌, refl, sym, ap, append_assoc, append-nil, subst}
use Rattle.case_forms.specs.declared.trace.Line.{Line}
use Rattle.case_lines.specs.Chunks.{AreFilled, joined}

pub joined_none : joined [] ≡ []
unfolding joined
joined_none = refl

pub filled_none : AreFilled []
unfolding AreFilled
filled_none = tt

-- a last list comes after the others
pub joined_push : (lists : List (List Line)) (lines : List Line) → joined (lists ++ lines ∷ []) ≡ joined lists ++ lines
unfolding joined
joined_push [] lines = append-nil lines
joined_push (first ∷ lists) lines = rw (joined_push lists lines) (sym (append_assoc first (joined lists) lines))

-- it is not empty
pub filled_push : (lists : List (List Line)) (lines : List Line) → AreFilled lists → (lines ≡ [] → ⊥)
    → AreFilled (lists ++ lines ∷ [])
unfolding AreFilled
filled_push [] lines filled some = (some, tt)
filled_push (first ∷ lists) lines filled some = (filled.0, filled_push lists lines filled.1 some)

-- the first list comes before the others, and is not empty
pub joined_first : (lists rest : List (List Line)) (first last : List Line) → lists ≡ first ∷ rest
    → first ++ joined rest ++ last ≡ joined lists ++ last
unfolding joined
joined_first lists rest first last e = ap (λ (all : List (List Line)). joined all ++ last) (sym e)

pub filled_first : (lists rest : List (List Line)) (first : List Line) → lists ≡ first ∷ rest → AreFilled lists
    → (first ≡ [] → ⊥) × AreFilled rest
unfolding AreFilled
filled_first lists rest first e filled = subst AreFilled e filled

-- no list has a line
pub record AreEmpty (a : List Line) (lists : List (List Line)) (b : List Line) : Type 0 where
  pub first : a ≡ []
  pub middle : lists ≡ []
  pub last : b ≡ []

-- filled lists and two more lists have no line in all only if they are none, and the two are empty
pub all_empty : (first : List Line) (lists : List (List Line)) (last : List Line) → AreFilled lists
    → first ++ joined lists ++ last ≡ [] → AreEmpty first lists last
unfolding joined AreFilled
all_empty [] [] last filled none = record { first = refl; middle = refl; last = none }
all_empty [] ([] ∷ lists) last filled none = absurd (filled.0 refl)
all_empty [] ((line ∷ lines) ∷ lists) last filled none = cc
all_empty (line ∷ first) lists last filled none = cc

-- if they are none, and the two are empty, there is no line
pub empty_all : (first : List Line) (lists : List (List Line)) (last : List Line) → first ≡ [] → lists ≡ [] → last ≡ []
    → first ++ joined lists ++ last ≡ []
unfolding joined
empty_all first lists last f m l = rw (f, m, l) refl
