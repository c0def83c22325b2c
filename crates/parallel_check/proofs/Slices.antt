-- The first items of a list, each as something else.
use Rattle.std.proofs.Common.{◌∙◌, ◌≡◌, ℕ, ◌+◌, ◌<◌, ap, List, [], ◌∷◌, ◌++◌, get_or, length, map}
use Rattle.std.specs.Prelude.{take}
use Rattle.std.proofs.lemmas.List.{take_more, map-append}

pub firsts_more : {X Y : Type 0} (f : X → Y) (xs : List X) (i : ℕ) (d : X) → i < length xs
    → map f (take (i + 1) xs) ≡ map f (take i xs) ++ f (get_or xs i d) ∷ []
firsts_more f xs i d within = ap (map f) (take_more xs i d within) ∙ map-append f (take i xs) (get_or xs i d ∷ [])
