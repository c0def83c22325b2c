-- The bytes of a buffer.
use Rattle.std.specs.Prelude.{ℕ, ◌-◌, List, [], take, drop, Option, None, Some}
use Rattle.counted.specs.declared.buffer.Buffer.{Buffer}

-- the line that was given last
abbrev pub line_in : Buffer → List ℕ
line_in t = take (t.next - t.line) (drop t.line t.bytes.items)

-- the bytes that were not given yet
abbrev pub unread_in : Buffer → List ℕ
unread_in t = drop t.next t.bytes.items

abbrev pub line_if : Option Buffer → List ℕ
line_if None = []
line_if (Some t) = line_in t

abbrev pub unread_if : Option Buffer → List ℕ
unread_if None = []
unread_if (Some t) = unread_in t
