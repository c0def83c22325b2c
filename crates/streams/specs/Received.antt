-- What an endpoint received from its peer, by position, and how much of it was delivered to reads (RFC 9293, 3.10.7.4
-- and 3.10.4).
use Rattle.std.specs.Prelude.{ℕ, ◌+◌, ◌-◌, ◌==◌, nat_le, suc, Bool, true, false, not, ◌&&◌, if◌then◌else◌, List, []}
use Rattle.std.specs.Prelude.{◌∷◌, Option, Some, length, take, drop, slice_get}
use Rattle.streams.specs.declared.cell.Cell.{Cell}
use Rattle.streams.specs.declared.cell.Cell.TheVariants.{Syn}
use Rattle.streams.specs.Cells.{body, bytes_of, front, is_fin, leading, put_all}

-- what was received, by position, and how many bytes were delivered
pub record Receiving : Type 0 where
  pub taken : List (Option Cell)
  pub delivered : ℕ

-- nothing was received
abbrev pub empty : Receiving
empty = record { taken = []; delivered = 0 }

-- only the SYN was received
abbrev pub met : Receiving
met = record { taken = Some Syn ∷ []; delivered = 0 }

-- the next position expected: RCV.NXT (RFC 9293, 3.3.1)
abbrev pub next : Receiving → ℕ
next r = length (front r.taken)

-- the bytes that reads may return now
abbrev pub waiting : Receiving → List ℕ
waiting r = leading (drop (suc r.delivered) r.taken)

-- the second list begins with the first
abbrev pub starts : List ℕ → List ℕ → Bool
starts [] all = true
starts (value ∷ bytes) [] = false
starts (value ∷ bytes) (first ∷ all) = value == first && starts bytes all

-- the peer's FIN was received: nothing is accepted after it, so it is the last cell
abbrev pub has_end : List (Option Cell) → Bool
has_end taken = is_fin (slice_get taken (length taken - 1))

-- the part of these bytes, from this position on, that is before a received FIN
abbrev pub part_kept : List (Option Cell) → (position : ℕ) → List ℕ → List ℕ
part_kept taken position bytes = if has_end taken then take (length taken - 1 - position) bytes else bytes

-- a FIN after them is kept if none was received yet, and nothing at its position or after it
abbrev pub end_kept : List (Option Cell) → (position : ℕ) → List ℕ → (fin : Bool) → Bool
end_kept taken position bytes fin = fin && not (has_end taken) && nat_le (length taken) (position + length bytes)

-- what is kept of these bytes, and of a FIN after them if there is one
abbrev pub body_kept : List (Option Cell) → (position : ℕ) → List ℕ → (fin : Bool) → List Cell
body_kept taken position bytes fin = body (part_kept taken position bytes) (end_kept taken position bytes fin)

-- it is received from this position on; a position that was received earlier doesn't change
abbrev pub kept : Receiving → (position : ℕ) → (bytes : List ℕ) → (fin : Bool) → Receiving
kept r position bytes fin = record r { taken = put_all r.taken position (body_kept r.taken position bytes fin) }

-- the last position before the next expected one is a FIN's
abbrev pub is_ended : Receiving → Bool
is_ended r = is_fin (slice_get r.taken (next r - 1))

-- this many more bytes were delivered
abbrev pub told : Receiving → ℕ → Receiving
told r count = record r { delivered = r.delivered + count }

-- the bytes that were received in order
abbrev pub arrived : Receiving → List ℕ
arrived r = bytes_of (front r.taken)

-- the bytes that reads returned
abbrev pub received : Receiving → List ℕ
received r = take r.delivered (arrived r)
