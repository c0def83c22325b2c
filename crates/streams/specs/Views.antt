-- What the buffers show in place of what they discarded: a fixed value at each position.
use Rattle.std.specs.Prelude.{ℕ, zero, suc, ◌==◌, Bool, true, false, if◌then◌else◌, List, [], ◌∷◌, ◌++◌, Option, None}
use Rattle.std.specs.Prelude.{Some, replicate}
use Rattle.streams.specs.declared.cell.Cell.{Cell}
use Rattle.streams.specs.declared.cell.Cell.TheVariants.{Syn, Byte, Fin}
use Rattle.streams.specs.declared.transmission.Transmission.{Transmission}
use Rattle.streams.specs.declared.runs.Run.{Run}
use Rattle.streams.specs.Transmissions.{once}

-- this many positions that were received, from the SYN on
abbrev pub gone_cells : ℕ → List (Option Cell)
gone_cells zero = []
gone_cells (suc n) = Some Syn ∷ replicate n (Some (Byte 0))

-- these bytes, which were received, and what follows them
abbrev pub bytes_then : List ℕ → List (Option Cell) → List (Option Cell)
bytes_then [] rest = rest
bytes_then (value ∷ bytes) rest = Some (Byte value) ∷ bytes_then bytes rest

-- a FIN if there is one, and nothing else
abbrev pub fin_alone : Bool → List (Option Cell)
fin_alone true = Some Fin ∷ []
fin_alone false = []

-- the bytes at places some of which were received: those whose mark is 1
abbrev pub marked_bytes : (marks values : List ℕ) → List (Option Cell)
marked_bytes [] values = []
marked_bytes (mark ∷ marks) [] = []
marked_bytes (mark ∷ marks) (value ∷ values) =
    (if mark == 1 then Some (Byte value) else None) ∷ marked_bytes marks values

-- how many places at the front were received: their mark is 1
abbrev pub leading_received : List ℕ → ℕ
leading_received [] = 0
leading_received (mark ∷ marks) = if mark == 1 then suc (leading_received marks) else 0

-- how many places a FIN fills before the first gap: one if there is a FIN and no gap
abbrev pub ends : Bool → List ℕ → ℕ
ends true [] = 1
ends true (mark ∷ marks) = 0
ends false marks = 0

-- runs, position by position
abbrev pub expand : List Run → List Transmission
expand [] = []
expand (run ∷ runs) = replicate run.count (once run.moment) ++ expand runs
