-- What a clause sees of a counted reader or writer.
use Rattle.std.specs.Prelude.{◌≡◌, ℕ, ◌+◌, ◌^◌, List, Option, Result, MatchResult, min}
use Rattle.std.specs.Io.KnownBytes.{prepend_known}
use Rattle.counted.specs.declared.ends.Counted.{Counted}
use Rattle.counted.specs.Buffered.{line_if, unread_if}

-- `c.failures()`
abbrev pub failures_of : {X : Type 0} → Counted X → ℕ
failures_of c = c.end.failures

-- how many calls were made, up to 2^50
abbrev pub calls_of : {X : Type 0} → Counted X → ℕ
calls_of c = c.end.calls

-- one call more, up to 2^50
abbrev pub one_call_more : ℕ → ℕ
one_call_more n = min (n + 1) (2 ^ 50)

-- the reader or writer within
abbrev pub inner_of : {X : Type 0} → Counted X → X
inner_of c = c.end.inner

-- the bytes that it has buffered and not given yet
abbrev pub unread_of : {X : Type 0} → Counted X → List ℕ
unread_of c = unread_if c.buffer

-- the line that was given last
abbrev pub line_of : {X : Type 0} → Counted X → List ℕ
line_of c = line_if c.buffer

-- the bytes that are left to read, if they are known
abbrev pub left_of : {X : Type 0} → (X → Option (List ℕ)) → Counted X → Option (List ℕ)
left_of known c = prepend_known (unread_of c) (known c.end.inner)

-- one more, up to 2^60
abbrev pub one_more : ℕ → ℕ
one_more n = min (n + 1) (2 ^ 60)

-- one failure at `Err`, and none at `Ok`
abbrev pub Counts : {T E : Type 0} → Result T E → ℕ → ℕ → Type 0
Counts r old new = MatchResult r (λ _. new ≡ old) (λ _. new ≡ one_more old)
