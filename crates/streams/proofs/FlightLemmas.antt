-- What is known of each position, once a segment was built.
use Rattle.std.proofs.Common.{◌≡◌, ℕ, zero, suc, ◌-◌, ◌≤◌, min, nat_le, List, [], ◌∷◌, ◌++◌, take, drop, refl, sym, ap, ◌∙◌, arith, append_assoc}
use Rattle.std.proofs.lemmas.List.{drop-map, length-replicate, map-append, take-map}
use Rattle.std.specs.Prelude.{Option, None, Some, map, replicate}
use Rattle.streams.specs.declared.outstanding.Outstanding.{Outstanding}
use Rattle.streams.specs.declared.piece.Piece.{Piece}
use Rattle.streams.specs.Pieces.{Adjoin, acknowledged, alike, built_again, built_first, known, made, rebuilt, shown}
use Rattle.streams.proofs.PieceLemmas.{drop_all, length_known}
use Rattle.streams.proofs.PieceJoins.{take_all}

abbrev some : Outstanding → Option Outstanding
some x = Some x

-- the acknowledged positions are those at the front
acknowledged_first : (n : ℕ) (xs : List Outstanding) → acknowledged (replicate n None ++ map some xs) ≡ n
acknowledged_first zero [] = refl
acknowledged_first zero (x ∷ xs) = refl
acknowledged_first (suc n) xs = ap suc (acknowledged_first n xs)

pub acknowledged_is : (es : List (ℕ × Piece)) (snd_una : ℕ) → acknowledged (known snd_una es) ≡ snd_una
acknowledged_is es snd_una = acknowledged_first snd_una (shown es)

-- a list in three parts and one behind, element by element
mapped : (k j : ℕ) (all mid more : List Outstanding)
    → map some ((take k all ++ (mid ++ drop j all)) ++ more) ≡ (take k (map some all) ++ (map some mid ++ drop j (map some all))) ++ map some more
mapped k j all mid more =
    map-append some (take k all ++ (mid ++ drop j all)) more
    ∙ ap (λ (xs : List (Option Outstanding)). xs ++ map some more)
    (map-append some (take k all) (mid ++ drop j all)
    ∙ (λ i. sym (take-map some k all) i
    ++ (map-append some mid (drop j all) ∙ ap (λ (xs : List (Option Outstanding)). map some mid ++ xs) (sym (drop-map some j all))) i))

behind : (front xs ys more : List (Option Outstanding)) → front ++ ((xs ++ ys) ++ more) ≡ ((front ++ xs) ++ ys) ++ more
behind front xs ys more = sym (append_assoc front (xs ++ ys) more) ∙ ap (λ (zs : List (Option Outstanding)). zs ++ more) (sym (append_assoc front xs ys))

pub known_made : (es new : List (ℕ × Piece)) (snd_una end position upto number moment : ℕ) → Adjoin snd_una end es
    → snd_una ≤ position → position ≤ end → position ≤ upto
    → shown new ≡ rebuilt snd_una end position upto number moment (shown es)
    → known snd_una new ≡ made position upto number moment (known snd_una es)
known_made es new snd_una end position upto number moment h low fits some_more is =
    let front = length-replicate {A = Option Outstanding} snd_una None in
    let long = length_known es snd_una end h in
    ap (λ (xs : List Outstanding). replicate snd_una None ++ map some xs) is
    ∙ (ap (λ (xs : List (Option Outstanding)). replicate snd_una None ++ xs)
    (mapped (position - snd_una) (min upto end - snd_una) (shown es) (alike (built_again number moment (nat_le upto end)) (min upto end - position))
    (alike (built_first number moment) (upto - end)))
    ∙ (behind (replicate snd_una None) (take (position - snd_una) (map some (shown es)))
    (map some (alike (built_again number moment (nat_le upto end)) (min upto end - position)) ++ drop (min upto end - snd_una) (map some (shown es)))
    (map some (alike (built_first number moment) (upto - end)))
    ∙ ((λ i. (take_all position snd_una (replicate snd_una None) (map some (shown es)) front low i
    ++ (map some (alike (built_again number moment (nat_le upto end)) (min upto end - position))
    ++ drop_all (min upto end) snd_una (replicate snd_una None) (map some (shown es)) front (omega (arith, low, fits, some_more)) i))
    ++ map some (alike (built_first number moment) (upto - end)))
    ∙ ap (λ (n : ℕ). (take position (known snd_una es)
    ++ (map some (alike (built_again number moment (nat_le upto n)) (min upto n - position)) ++ drop (min upto n) (known snd_una es)))
    ++ map some (alike (built_first number moment) (upto - n))) (sym long))))
