-- What an endpoint sends: the bytes that its sends accepted, by position (RFC 9293, 3.4 and 3.10.2).
use Rattle.std.specs.Prelude.{ℕ, ◌+◌, ◌-◌, Bool, List, ◌∷◌, length, take, drop}
use Rattle.streams.specs.declared.cell.Cell.{Cell}
use Rattle.streams.specs.declared.cell.Cell.TheVariants.{Syn}
use Rattle.streams.specs.Cells.{body}

-- the bytes from this position on: this many, or as many as there are
abbrev pub piece : List ℕ → (position count : ℕ) → List ℕ
piece accepted position count = take count (drop (position - 1) accepted)

-- all that an endpoint sends, by position; its sending was ended if there is a FIN
abbrev pub cells : List ℕ → Bool → List Cell
cells accepted ended = Syn ∷ body accepted ended

-- the position after the last accepted byte, where a FIN would be
abbrev pub end_of : List ℕ → ℕ
end_of accepted = 1 + length accepted
