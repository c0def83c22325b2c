-- Words that name no two files.
use Rattle.std.proofs.Common.{◌≡◌, ◌⊎◌, List, [], ◌∷◌, ℕ, codes, ap, drop, inl, inr, sym, subst}
use Rattle.cli.specs.FileWords.{AreBoth, AreNamed, BeginsWith}
use Rattle.cli.proofs.OptionWords.{begins_once}

-- the words aren't both options if the second doesn't follow the first and its value
pub not_second : (first one second : List ℕ) (front words : List (List ℕ)) → BeginsWith first one front words
    → ((two : List ℕ) → ¬ BeginsWith second two [] front)
    → (other two : List ℕ) → ¬ AreBoth first other second two words
not_second first one second front words begins none other two (behind, at_first, at_second) =
    let same = begins_once first one other front behind words begins at_first in
    none two (subst (λ (rest : List (List ℕ)). BeginsWith second two [] rest) (sym same.1) at_second)

-- options that aren't both in either order name no files
pub names_neither : (options : List (List ℕ)) → ((one two : List ℕ) → ¬ AreBoth (codes "--trace") one (codes "--witness") two options)
    → ((one two : List ℕ) → ¬ AreBoth (codes "--witness") one (codes "--trace") two options)
    → (trace witness : List ℕ) → ¬ AreNamed (codes "check" ∷ options) trace witness
names_neither options no_trace no_witness trace witness (others, e, both) = by_case both
  where
    same : others ≡ options
    same = ap (λ (ws : List (List ℕ)). drop 1 ws) (sym e)

    by_case : (AreBoth (codes "--trace") trace (codes "--witness") witness others ⊎ AreBoth (codes "--witness") witness (codes "--trace") trace others) → ⊥
    by_case (inl both) = no_trace trace witness (subst (λ (ws : List (List ℕ)). AreBoth (codes "--trace") trace (codes "--witness") witness ws) same both)
    by_case (inr both) = no_witness witness trace (subst (λ (ws : List (List ℕ)). AreBoth (codes "--witness") witness (codes "--trace") trace ws) same both)
