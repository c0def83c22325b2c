-- Words of the command line, as text.
use Rattle.std.specs.Prelude.{ℕ, nat_lt, if◌then◌else◌}

-- a byte of ASCII stays, and any other becomes a NUL (0)
abbrev pub plain : ℕ → ℕ
plain byte = if nat_lt byte 128 then byte else 0
