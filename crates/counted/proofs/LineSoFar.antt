-- A line that is read piece by piece.
use Rattle.std.proofs.Common.{◌==◌, false, ◌≡◌, ◌≢◌, ◌<◌, ◌≤◌, ◌+◌, ◌⊎◌, inl, inr, refl, sym, ap, subst, ◌∙◌, arith, ℕ}
use Rattle.std.proofs.Common.{Bool, true, zero, suc, List, [], ◌∷◌, ◌++◌, Option, None, Some, OnSome, length, take, drop}
use Rattle.std.proofs.Common.{append_assoc, append-nil, length-append}
use Rattle.std.proofs.lemmas.List.Elements.{All-append, All-head, All-tail}
use Rattle.std.specs.Io.{StartsWith}
use Rattle.std.specs.Io.KnownBytes.{Consumes, IsAtEnd}
use Rattle.std.proofs.KnownBytes.{Consumes-trans, starts_with_rest}
use Rattle.counted.specs.LineParts.{HasNoFeed, EndsAtFeed, IsKept, GivesLine, IsPartRead, IsEndRead, IsAppended}

-- what was read of a line has no LF, and what of it is not kept was counted
abbrev pub SoFar : ℕ → ℕ → List ℕ → Option (List ℕ) → Option (List ℕ) → Type 0
SoFar most before line a b = (front : List ℕ) × IsKept most front before line × HasNoFeed (front ++ line) × Consumes a b (front ++ line)

keeps_more : (most before : ℕ) (front line more : List ℕ) → IsKept most front before line → IsKept most front before (line ++ more)
keeps_more most before front line more k =
    let len = length-append line more in
    record {
      count = k.count;
      past = λ some. let past : most < before + length line = k.past some in omega arith;
      begins = λ some. let b = k.begins some in (b.0, b.1 ++ more, ap (λ (xs : List ℕ). xs ++ more) b.2, b.3);
    }

pub more_so_far : (most before : ℕ) (line next : List ℕ) (a b c : Option (List ℕ)) → SoFar most before line a b
    → StartsWith next line → Consumes b c (drop (length line) next) → HasNoFeed (drop (length line) next)
    → SoFar most before next a c
more_so_far most before line next a b c s starts took none =
    let app : List ℕ = drop (length line) next in
    let is : next ≡ line ++ app = starts_with_rest next line starts in
    let whole : s.0 ++ next ≡ (s.0 ++ line) ++ app = ap (λ (xs : List ℕ). s.0 ++ xs) is ∙ sym (append_assoc s.0 line app) in (
      s.0,
      subst (IsKept most s.0 before) (sym is) (keeps_more most before s.0 line app s.1),
      subst HasNoFeed (sym whole) (All-append (λ x. x ≢ 10) (s.0 ++ line) app s.2 none),
      subst (Consumes a c) (sym whole) (Consumes-trans a b c (s.0 ++ line) app s.3 took),
    )

last_is : (front new : List ℕ) → length new ≡ 1 → HasNoFeed (front ++ new) → (c : ℕ) × (rest : List ℕ) × (new ≡ c ∷ rest) × (c ≢ 10)
last_is [] [] one none = absurd (omega arith)
last_is [] (c ∷ rest) one none = (c, rest, refl, All-head (λ x. x ≢ 10) c rest none)
last_is (x ∷ front) new one none = last_is front new one (All-tail (λ x. x ≢ 10) x (front ++ new) none)

pub dropped_so_far : (most before n : ℕ) (line new : List ℕ) (a b : Option (List ℕ)) → SoFar most before line a b
    → most < length line → n + 1 ≡ length line → line ≡ take n line ++ new → length new ≡ 1
    → SoFar most (before + n) new a b
dropped_so_far most before n line new a b s long count is one =
    let whole : s.0 ++ line ≡ (s.0 ++ take n line) ++ new = ap (λ (xs : List ℕ). s.0 ++ xs) is ∙ sym (append_assoc s.0 (take n line) new) in
    let none : HasNoFeed ((s.0 ++ take n line) ++ new) = subst HasNoFeed whole s.2 in
    let len : length line ≡ length (take n line) + length new = ap length is ∙ length-append (take n line) new in
    let len2 = length-append s.0 (take n line) in
    let size = s.1.count in (
      s.0 ++ take n line,
      record { count = omega arith; past = λ some. omega arith; begins = λ some. last_is (s.0 ++ take n line) new one none },
      none,
      subst (Consumes a b) whole s.3,
    )

at_end : (a b c : Option (List ℕ)) (bs : List ℕ) → Consumes a b bs → OnSome b (IsAtEnd c) → OnSome a (IsAtEnd c)
at_end None b c bs took end = tt
at_end (Some xs) None c bs took end = absurd took
at_end (Some xs) (Some ys) c bs took end = end

pub line_ended : (most before : ℕ) (line next : List ℕ) (a b c : Option (List ℕ)) → SoFar most before line a b
    → StartsWith next line → Consumes b c (drop (length line) next)
    → EndsAtFeed (drop (length line) next) ⊎ ((drop (length line) next ≡ []) × OnSome b (IsAtEnd c))
    → 0 < before + length next → GivesLine most a c (Some before) next
line_ended most before line next a b c s starts took ended some =
    let app : List ℕ = drop (length line) next in
    let is : next ≡ line ++ app = starts_with_rest next line starts in
    let whole : s.0 ++ next ≡ (s.0 ++ line) ++ app = ap (λ (xs : List ℕ). s.0 ++ xs) is ∙ sym (append_assoc s.0 line app) in (
      s.0,
      subst (IsKept most s.0 before) (sym is) (keeps_more most before s.0 line app s.1),
      (
        subst (Consumes a c) (sym whole) (Consumes-trans a b c (s.0 ++ line) app s.3 took),
        elim ended [
          | inl feed ↦
              inl (
                (s.0 ++ line) ++ feed.0,
                All-append (λ x. x ≢ 10) (s.0 ++ line) feed.0 s.2 feed.1,
                whole ∙ ap (λ (xs : List ℕ). (s.0 ++ line) ++ xs) feed.2 ∙ sym (append_assoc (s.0 ++ line) feed.0 (10 ∷ [])),
              )
          | inr end ↦
              let same : s.0 ++ next ≡ s.0 ++ line = whole ∙ ap (λ (xs : List ℕ). (s.0 ++ line) ++ xs) end.0 ∙ append-nil (s.0 ++ line) in
              let len = length-append s.0 next in
              let size = s.1.count in
              inr (subst HasNoFeed (sym same) s.2, omega arith, at_end a b c (s.0 ++ line) s.3 end.1)
        ],
      ),
    )

pub not_zero : (n : ℕ) → false ≡ (n == 0) → 0 < n
not_zero zero h = absurd cc
not_zero (suc n) h = omega arith

-- nothing was read, and nothing is left
pub none_read : (most : ℕ) (line next : List ℕ) (a b c : Option (List ℕ)) → SoFar most 0 line a b → StartsWith next line
    → Consumes b c (drop (length line) next)
    → EndsAtFeed (drop (length line) next) ⊎ ((drop (length line) next ≡ []) × OnSome b (IsAtEnd c)) → length next ≡ 0 → GivesLine most a c None next
none_read most line next a b c s starts took ended none =
    let app : List ℕ = drop (length line) next in
    let is : next ≡ line ++ app = starts_with_rest next line starts in
    let len = ap length is ∙ length-append line app in
    let size = s.1.count in
    let len2 = length-append s.0 line in
    let nothing : s.0 ++ line ≡ [] = nil_of (s.0 ++ line) (omega arith) in
    let empty : app ≡ [] = nil_of app (omega arith) in (
      subst (Consumes a c) (ap (λ (xs : List ℕ). xs ++ app) nothing ∙ empty) (Consumes-trans a b c (s.0 ++ line) app s.3 took),
      elim ended [
        | inl feed ↦ let l = ap length feed.2 ∙ length-append feed.0 (10 ∷ []) in absurd (omega (arith, l, len))
        | inr end ↦ at_end a b c (s.0 ++ line) s.3 end.1
      ],
    )
  where
    nil_of : (xs : List ℕ) → length xs ≡ 0 → xs ≡ []
    nil_of [] h = refl
    nil_of (x ∷ xs) h = absurd (omega arith)

pub not_longer : (line next : List ℕ) (most : ℕ) → StartsWith next line → length (drop (length line) next) ≤ most → length next ≤ length line + most
not_longer line next most starts le =
    let len = ap length (starts_with_rest next line starts) ∙ length-append line (drop (length line) next) in
    omega (arith, len, le)

-- a read whose part of a line has no end
pub part_more : (most before limit : ℕ) (is_ended : Bool) (line next : List ℕ) (a b c : Option (List ℕ)) → SoFar most before line a b
    → IsAppended limit (IsPartRead is_ended b c) b c line next → is_ended ≡ false → SoFar most before next a c
part_more most before limit is_ended line next a b c s read is =
    more_so_far most before line next a b c s read.appends read.bytes
    (subst (λ (r : Bool). IsPartRead r b c (drop (length line) next)) is read.part)

-- and one whose part has the end
pub part_last : (most before limit : ℕ) (is_ended : Bool) (line next : List ℕ) (a b c : Option (List ℕ)) → SoFar most before line a b
    → IsAppended limit (IsPartRead is_ended b c) b c line next → is_ended ≡ true → 0 < before + length next
    → GivesLine most a c (Some before) next
part_last most before limit is_ended line next a b c s read is some =
    line_ended most before line next a b c s read.appends read.bytes
    (subst (λ (r : Bool). IsPartRead r b c (drop (length line) next)) is read.part) some

pub none_more : (most limit : ℕ) (is_ended : Bool) (line next : List ℕ) (a b c : Option (List ℕ)) → SoFar most 0 line a b
    → IsAppended limit (IsPartRead is_ended b c) b c line next → is_ended ≡ true → length next ≡ 0 → GivesLine most a c None next
none_more most limit is_ended line next a b c s read is none =
    none_read most line next a b c s read.appends read.bytes
    (subst (λ (r : Bool). IsPartRead r b c (drop (length line) next)) is read.part) none

-- the same of a read that may go on after the line
pub end_more : (most before limit : ℕ) (stop : Option ℕ) (line next : List ℕ) (a b c : Option (List ℕ)) → SoFar most before line a b
    → IsAppended limit (IsEndRead stop b c) b c line next → stop ≡ None → SoFar most before next a c
end_more most before limit stop line next a b c s read is =
    more_so_far most before line next a b c s read.appends read.bytes
    (subst (λ (o : Option ℕ). IsEndRead o b c (drop (length line) next)) is read.part)

pub few_more : (limit : ℕ) (P : List ℕ → Type 0) (line next : List ℕ) (b c : Option (List ℕ)) → IsAppended limit P b c line next
    → length next ≤ length line + limit
few_more limit P line next b c read = not_longer line next limit read.appends read.few
