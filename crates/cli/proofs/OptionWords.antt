-- Words that begin with an option and its value do so in one way.
use Rattle.std.proofs.Common.{Bool, not, ap₂, rules, ◌≡◌, ◌-◌, ◌+◌, ◌≤◌, ◌<◌, ℕ, true, false, List, []}
use Rattle.std.proofs.Common.{◌∷◌, ◌++◌, Bor, codes, inl, inr, refl, sym, subst, ap, ◌∙◌, arith, append_assoc, length, length-append, length-drop}
use Rattle.std.proofs.Common.{map, drop, take, get_or, slice_index_or}
use Rattle.std.proofs.lemmas.List.{append_cancel_left, take-append-drop, drop-map, length-map}
use Rattle.std.proofs.Math.Seq.{take-length, drop-append_seam}
use Rattle.std.specs.Str.{bytes_eq}
use Rattle.std.proofs.lemmas.Slice.Eq.{bytes_eq-Decides}
use Rattle.cli.specs.CommandLine.{is_dashed}
use Rattle.cli.specs.FileWords.{BeginsWith}

-- an option differs from any word that has it before an equals sign
not_joined : (option value : List ℕ) → option ≡ option ++ codes "=" ++ value → ⊥
not_joined option value e =
    let all = ap length e in
    let outer = length-append (option ++ codes "=") value in
    let inner = length-append option (codes "=") in
    absurd (omega (arith, all, outer, inner))

pub begins_once : (option one two : List ℕ) (front back words : List (List ℕ)) → BeginsWith option one front words → BeginsWith option two back words
    → (one ≡ two) × (front ≡ back)
begins_once option one two front back words (inl (e, plain)) (inl (f, bare)) =
    let same : option ∷ one ∷ front ≡ option ∷ two ∷ back = sym e ∙ f in (cc, cc)
begins_once option one two front back words (inl (e, plain)) (inr f) =
    let same : option ∷ one ∷ front ≡ (option ++ codes "=" ++ two) ∷ back = sym e ∙ f in
    let first : option ≡ option ++ codes "=" ++ two = cc in absurd (not_joined option two first)
begins_once option one two front back words (inr e) (inl (f, bare)) =
    let same : (option ++ codes "=" ++ one) ∷ front ≡ option ∷ two ∷ back = sym e ∙ f in
    let first : option ≡ option ++ codes "=" ++ one = cc in absurd (not_joined option one first)
begins_once option one two front back words (inr e) (inr f) =
    let same : (option ++ codes "=" ++ one) ∷ front ≡ (option ++ codes "=" ++ two) ∷ back = sym e ∙ f in
    let first : (option ++ codes "=") ++ one ≡ (option ++ codes "=") ++ two = cc in
    (append_cancel_left (option ++ codes "=") one two first, cc)

-- the third byte of the first word is that of the option, unless the option is shorter
abbrev pub third : List (List ℕ) → ℕ
third words = get_or (get_or words 0 []) 2 0

pub begins_third : (option value : List ℕ) (behind words : List (List ℕ)) → get_or (option ++ codes "=" ++ value) 2 0 ≡ get_or option 2 0
    → BeginsWith option value behind words → third words ≡ get_or option 2 0
begins_third option value behind words same (inl (e, plain)) = ap third e
begins_third option value behind words same (inr e) = ap third e ∙ same

-- words in memory as texts, and those from a place on
abbrev pub texts : List (Bor (List ℕ)) → List (List ℕ)
texts words = map (λ (word : Bor (List ℕ)). word.now) words

abbrev pub from : ℕ → List (Bor (List ℕ)) → List (Bor (List ℕ))
from n words = take (length words - n) (drop n words)

pub texts_from : (n : ℕ) (words : List (Bor (List ℕ))) → texts (from n words) ≡ drop n (texts words)
texts_from n words =
    ap (λ (k : ℕ). texts (take k (drop n words))) (sym (length-drop n words)) ∙ ap texts (take-length (drop n words))
    ∙ sym (drop-map (λ (word : Bor (List ℕ)). word.now) n words)

-- the words after an option and its value
record Follows (behind words : List (List ℕ)) : Type 0 where
  front : List (List ℕ)
  some : 0 < length front
  whole : words ≡ front ++ behind

follows : (option value : List ℕ) (behind words : List (List ℕ)) → BeginsWith option value behind words → Follows behind words
follows option value behind words (inl (e, plain)) = record { front = option ∷ value ∷ []; some = omega arith; whole = e }
follows option value behind words (inr e) = record { front = (option ++ codes "=" ++ value) ∷ []; some = omega arith; whole = e }

-- they begin later in the words
pub later : (option value : List ℕ) (at : ℕ) (words rest : List (Bor (List ℕ))) → BeginsWith option value (texts rest) (texts (from at words))
    → length rest + at < length words
later option value at words rest begins =
    let f = follows option value _ _ begins in
    let all : length (texts (from at words)) ≡ length f.front + length (texts rest) = ap length f.whole ∙ length-append f.front (texts rest) in
    let outer : length (texts (from at words)) ≡ length words - at =
    ap length (texts_from at words) ∙ length-drop at (texts words) ∙ ap (λ (k : ℕ). k - at) (length-map words (λ (word : Bor (List ℕ)). word.now)) in
    let inner : length (texts rest) ≡ length rest = length-map rest (λ (word : Bor (List ℕ)). word.now) in
    let some = f.some in
    omega arith

suffix : (front behind words : List (List ℕ)) → words ≡ front ++ behind → behind ≡ drop (length words - length behind) words
suffix front behind words whole =
    let all : length words ≡ length front + length behind = ap length whole ∙ length-append front behind in
    let size : length front ≡ length words - length behind = omega arith in
    sym (drop-append_seam front behind) ∙ ap (λ (ws : List (List ℕ)). drop (length front) ws) (sym whole) ∙ ap (λ (k : ℕ). drop k words) size

-- and are the end of the words
pub the_end : (option value : List ℕ) (at : ℕ) (words rest : List (Bor (List ℕ))) → BeginsWith option value (texts rest) (texts (from at words))
    → texts rest ≡ drop (length words - length rest) (texts words)
the_end option value at words rest begins =
    let f = follows option value _ _ begins in
    let whole : texts words ≡ (take at (texts words) ++ f.front) ++ texts rest =
    sym (take-append-drop at (texts words)) ∙ ap (λ (ws : List (List ℕ)). take at (texts words) ++ ws) (sym (texts_from at words) ∙ f.whole)
    ∙ sym (append_assoc (take at (texts words)) f.front (texts rest)) in
    let sizes : length (texts words) - length (texts rest) ≡ length words - length rest =
    ap₂ (λ (a b : ℕ). a - b) (length-map words (λ (word : Bor (List ℕ)). word.now)) (length-map rest (λ (word : Bor (List ℕ)). word.now)) in
    suffix (take at (texts words) ++ f.front) (texts rest) (texts words) whole ∙ ap (λ (k : ℕ). drop k (texts words)) sizes

-- the words after the first
pub behind_first : {A : Type 0} (x : A) (xs : List A) → take (length (x ∷ xs) - 1) (drop 1 (x ∷ xs)) ≡ xs
behind_first x xs =
    let rest : length (x ∷ xs) - 1 ≡ length xs = omega arith in ap (λ (n : ℕ). take n xs) rest ∙ take-length xs

-- an option and its value as words of their own
pub apart : (words : List (Bor (List ℕ))) (option : List ℕ) (d e : Bor (List ℕ)) → 1 ≤ length words → 1 ≤ length (take (length words - 1) (drop 1 words))
    → (slice_index_or words 0 d).now ≡ option → is_dashed (slice_index_or (take (length words - 1) (drop 1 words)) 0 e).now ≡ false
    → BeginsWith option (slice_index_or (take (length words - 1) (drop 1 words)) 0 e).now
    (map (λ word. word.now) (take (length (take (length words - 1) (drop 1 words)) - 1)
    (drop 1 (take (length words - 1) (drop 1 words))))) (map (λ word. word.now) words)
apart [] option d e some more is plain = absurd (omega (some, arith))
apart (a ∷ []) option d e some more is plain = let none =
    subst (λ (xs : List (Bor (List ℕ))). 1 ≤ length xs) (behind_first a []) more in absurd (omega (none, arith))
apart (a ∷ b ∷ rest) option d e some more is plain =
    let value = rw (behind_first a (b ∷ rest)) at plain in
    rw (behind_first a (b ∷ rest), behind_first b rest) (inl (ap (λ (w : List ℕ). w ∷ b.now ∷ map (λ word. word.now) rest) is, value))

-- words that compare equal are the same
pub not_other : (xs ys : List ℕ) → false ≡ not (bytes_eq xs ys) → xs ≡ ys
not_other xs ys e = by_case (bytes_eq xs ys) refl
  where
    by_case : (b : Bool) → bytes_eq xs ys ≡ b → xs ≡ ys
    by_case true same = search (rules, bytes_eq-Decides)
    by_case false other = let bad : false ≡ true = e ∙ ap not other in cc
