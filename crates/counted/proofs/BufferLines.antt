-- Lines that are given from a buffer.
use Rattle.std.proofs.Common.{◌≡◌, ◌<◌, ◌+◌, ◌⊎◌, inl, inr, refl, sym, ap, subst, ◌∙◌, arith, ℕ, zero, suc, List, []}
use Rattle.std.proofs.Common.{◌++◌, Option, None, Some, OnSome, length, take, drop, min, append_assoc}
use Rattle.std.proofs.Common.{length-append}
use Rattle.std.proofs.Math.Seq.{drop-append_seam, drop-append-add, drop-nil, take-append_seam, take-add, take-nil}
use Rattle.std.proofs.lemmas.List.{take-append-drop, length-take-le}
use Rattle.std.specs.Io.{StartsWith}
use Rattle.std.specs.Io.KnownBytes.{Consumes, IsAtEnd, prepend_known}
use Rattle.std.proofs.KnownBytes.{starts_with_rest}
use Rattle.counted.specs.LineParts.{HasNoFeed, EndsAtFeed, EndsThere, IsKept, GivesLine, IsEndRead, IsAppended, discarded}
use Rattle.counted.proofs.LineSoFar.{SoFar, line_ended, none_read}

-- known bytes lose their front
pub loses_front : (a : Option (List ℕ)) (all front rest : List ℕ) → all ≡ front ++ rest
    → Consumes (prepend_known all a) (prepend_known rest a) front
loses_front None all front rest is = tt
loses_front (Some x) all front rest is = ap (λ (xs : List ℕ). xs ++ x) is ∙ append_assoc front rest x

-- of the bytes that were read, only the front is given
pub keeps_rest : (b c : Option (List ℕ)) (read front rest : List ℕ) → read ≡ front ++ rest → Consumes b c read
    → Consumes b (prepend_known rest c) front
keeps_rest None c read front rest is took = tt
keeps_rest (Some x) None read front rest is took = absurd took
keeps_rest (Some x) (Some y) read front rest is took = took ∙ ap (λ (xs : List ℕ). xs ++ y) is ∙ append_assoc front rest y

nothing_kept : (most : ℕ) (line : List ℕ) → IsKept most [] 0 line
nothing_kept most line = record { count = refl; past = λ some. absurd (omega (arith, some)); begins = λ some. absurd (omega (arith, some)) }

-- a line is given that the buffer has
pub line_given : (most : ℕ) (a : Option (List ℕ)) (unread line rest : List ℕ) → EndsAtFeed line → unread ≡ line ++ rest
    → GivesLine most (prepend_known unread a) (prepend_known rest a) (Some 0) line
line_given most a unread line rest feed is = ([], nothing_kept most line, (loses_front a unread line rest is, inl feed))

-- a line begins with what the buffer has, which has no LF
pub begun : (most : ℕ) (a : Option (List ℕ)) (line : List ℕ) → HasNoFeed line → SoFar most 0 line (prepend_known line a) a
begun most a line none = ([], nothing_kept most line, none, by a)
  where
    by : (a : Option (List ℕ)) → Consumes (prepend_known line a) a line
    by None = tt
    by (Some x) = refl

end_kept : (b c : Option (List ℕ)) → OnSome b (IsAtEnd c) → OnSome b (IsAtEnd (prepend_known [] c))
end_kept None c end = tt
end_kept (Some x) None end = tt
end_kept (Some x) (Some y) end = end

-- a line is at its end in what was read, and what was read behind it is kept
pub ended_there : (most before : ℕ) (line app : List ℕ) (a b c : Option (List ℕ)) (stop : ℕ) → SoFar most before line a b
    → Consumes b c app → EndsThere b c stop app
    → GivesLine most a (prepend_known (drop stop app) c) (discarded before (length line + stop)) (line ++ take stop app)
ended_there most before line app a b c stop s took there =
    by before (length line + stop) refl s
  where
    rest : Option (List ℕ)
    rest = prepend_known (drop stop app) c

    next : List ℕ
    next = line ++ take stop app

    behind : drop (length line) next ≡ take stop app
    behind = drop-append_seam line (take stop app)

    starts : StartsWith next line
    starts = take-append_seam line (take stop app)

    lost : Consumes b rest (take stop app)
    lost = keeps_rest b c app (take stop app) (drop stop app) (sym (take-append-drop stop app)) took

    ended : EndsAtFeed (take stop app) ⊎ ((take stop app ≡ []) × OnSome b (IsAtEnd rest))
    ended = elim there.1 [
      | inl feed ↦ inl feed
      | inr none ↦ inr (
        ap (take stop) none.0 ∙ take-nil stop,
        subst (λ (xs : List ℕ). OnSome b (IsAtEnd (prepend_known xs c))) (sym (ap (drop stop) none.0 ∙ drop-nil stop)) (end_kept b c none.1),
      )
    ]

    size : length next ≡ length line + stop
    size = length-append line (take stop app) ∙ ap (λ (n : ℕ). length line + n) (length-take-le stop app there.0)

    by : (before n : ℕ) → n ≡ length line + stop → SoFar most before line a b → GivesLine most a rest (discarded before n) next
    by zero zero none s =
        none_read most line next a b rest s starts (subst (Consumes b rest) (sym behind) lost)
        (subst (λ (xs : List ℕ). EndsAtFeed xs ⊎ ((xs ≡ []) × OnSome b (IsAtEnd rest))) (sym behind) ended) (size ∙ sym none)
    by zero (suc n) some s =
        line_ended most zero line next a b rest s starts (subst (Consumes b rest) (sym behind) lost)
        (subst (λ (xs : List ℕ). EndsAtFeed xs ⊎ ((xs ≡ []) × OnSome b (IsAtEnd rest))) (sym behind) ended) (omega (arith, size, some))
    by (suc m) n some s =
        line_ended most (suc m) line next a b rest s starts (subst (Consumes b rest) (sym behind) lost)
        (subst (λ (xs : List ℕ). EndsAtFeed xs ⊎ ((xs ≡ []) × OnSome b (IsAtEnd rest))) (sym behind) ended) (omega arith)

-- the same of what was appended
line_there : (most before begin : ℕ) (line next : List ℕ) (a b c : Option (List ℕ)) (stop : ℕ) → SoFar most before line a b
    → begin ≡ length line → StartsWith next line → Consumes b c (drop (length line) next) → EndsThere b c stop (drop (length line) next)
    → GivesLine most a (prepend_known (drop (begin + stop) next) c) (discarded before (begin + stop)) (take (begin + stop) next)
line_there most before begin line next a b c stop s count starts took there =
    let app : List ℕ = drop (length line) next in
    let is : next ≡ line ++ app = starts_with_rest next line starts in
    let behind : drop (begin + stop) next ≡ drop stop app =
    ap (λ (n : ℕ). drop (n + stop) next) count ∙ ap (drop (length line + stop)) is ∙ drop-append-add line app stop in
    let front : take (begin + stop) next ≡ line ++ take stop app =
    ap (λ (n : ℕ). take (n + stop) next) count ∙ take-add (length line) stop next ∙ ap (λ (xs : List ℕ). xs ++ take stop app) starts in
    subst (λ (xs : List ℕ). GivesLine most a (prepend_known xs c) (discarded before (begin + stop)) (take (begin + stop) next)) (sym behind)
    (subst (λ (xs : List ℕ). GivesLine most a (prepend_known (drop stop app) c) (discarded before (begin + stop)) xs) (sym front)
    (subst (λ (n : ℕ). GivesLine most a (prepend_known (drop stop app) c) (discarded before (n + stop)) (line ++ take stop app)) (sym count)
    (ended_there most before line app a b c stop s took there)))

pub end_last : (most before begin limit : ℕ) (end : Option ℕ) (line next : List ℕ) (a b c : Option (List ℕ)) (stop : ℕ)
    → SoFar most before line a b → begin ≡ length line → IsAppended limit (IsEndRead end b c) b c line next → end ≡ Some stop
    → GivesLine most a (prepend_known (drop (begin + stop) next) c) (discarded before (begin + stop)) (take (begin + stop) next)
end_last most before begin limit end line next a b c stop s count read is =
    line_there most before begin line next a b c stop s count read.appends read.bytes
    (subst (λ (o : Option ℕ). IsEndRead o b c (drop (length line) next)) is read.part)

pub is_discarded : (before stop : ℕ) → 0 < before + stop → discarded before stop ≡ Some before
is_discarded zero zero some = absurd (omega arith)
is_discarded zero (suc n) some = refl
is_discarded (suc m) n some = refl

-- the bytes that are given are a line
pub given : (most before stop n : ℕ) (a b : Option (List ℕ)) (unread items new line rest : List ℕ)
    → GivesLine most (prepend_known items a) (prepend_known (drop stop new) b) (discarded before stop) (take stop new)
    → items ≡ unread → n ≡ 0 → line ≡ take stop (drop n new) → rest ≡ drop stop (drop n new)
    → GivesLine most (prepend_known unread a) (prepend_known rest b) (discarded before stop) line
given most before stop n a b unread items new line rest gives all front is behind =
    subst (λ (xs : List ℕ). GivesLine most (prepend_known xs a) (prepend_known rest b) (discarded before stop) line) all
    (subst (λ (xs : List ℕ). GivesLine most (prepend_known items a) (prepend_known xs b) (discarded before stop) line)
    (sym (behind ∙ ap (λ (m : ℕ). drop stop (drop m new)) front))
    (subst (λ (xs : List ℕ). GivesLine most (prepend_known items a) (prepend_known (drop stop new) b) (discarded before stop) xs)
    (sym (is ∙ ap (λ (m : ℕ). take stop (drop m new)) front)) gives))

pub given_some : (most before stop n : ℕ) (a b : Option (List ℕ)) (unread items new line rest : List ℕ)
    → GivesLine most (prepend_known items a) (prepend_known (drop stop new) b) (discarded before stop) (take stop new)
    → items ≡ unread → n ≡ 0 → line ≡ take stop (drop n new) → rest ≡ drop stop (drop n new) → 0 < before + stop
    → GivesLine most (prepend_known unread a) (prepend_known rest b) (Some before) line
given_some most before stop n a b unread items new line rest gives all front is behind some =
    subst (λ (x : Option ℕ). GivesLine most (prepend_known unread a) (prepend_known rest b) x line) (is_discarded before stop some)
    (given most before stop n a b unread items new line rest gives all front is behind)

pub given_none : (most before stop n : ℕ) (a b : Option (List ℕ)) (unread items new line rest : List ℕ)
    → GivesLine most (prepend_known items a) (prepend_known (drop stop new) b) (discarded before stop) (take stop new)
    → items ≡ unread → n ≡ 0 → line ≡ take stop (drop n new) → rest ≡ drop stop (drop n new) → before ≡ 0 → stop ≡ 0
    → GivesLine most (prepend_known unread a) (prepend_known rest b) None line
given_none most before stop n a b unread items new line rest gives all front is behind none ended =
    subst (λ (x : Option ℕ). GivesLine most (prepend_known unread a) (prepend_known rest b) x line)
    (ap (λ (m : ℕ). discarded m stop) none ∙ ap (discarded 0) ended)
    (given most before stop n a b unread items new line rest gives all front is behind)

-- so many bytes are copied as there is room for
pub copied : (a b : Option (List ℕ)) (before unread rest buf : List ℕ) (n room : ℕ) → b ≡ a → before ≡ unread → n ≡ min (length unread) room
    → take n buf ≡ take n unread → rest ≡ drop n unread → 0 < length unread → length buf ≡ room
    → Consumes (prepend_known before a) (prepend_known rest b) (take n buf) × (n ≡ 0 → 0 < length buf → IsAtEnd (prepend_known rest b))
copied a b before unread rest buf n room stays was count same left some size = (
  subst (λ (x : Option (List ℕ)). Consumes (prepend_known before a) (prepend_known rest x) (take n buf)) (sym stays)
      (loses_front a before (take n buf) rest (was ∙ sym (take-append-drop n unread) ∙ ap (λ (xs : List ℕ). xs ++ drop n unread) (sym same)
      ∙ ap (λ (xs : List ℕ). take n buf ++ xs) (sym left))),
  λ none more. absurd (omega arith),
)
