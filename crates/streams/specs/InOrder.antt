-- What reads return if the received cells are those the peer sends: TCP delivers in order, and all of it (RFC 9293,
-- 3.8).
use Rattle.std.specs.Prelude.{◌≡◌, ℕ, ◌+◌, ◌<◌, ◌≤◌, ◌↔◌, Bool, true, false, List, ◌++◌, length, Some, slice_get}
use Rattle.streams.specs.declared.cell.Cell.{Cell}
use Rattle.streams.specs.Lists.{IsPrefixOf, Within}
use Rattle.streams.specs.Cells.{Taken, body}
use Rattle.streams.specs.Received.{Receiving, arrived, is_ended, kept, next, received, starts, waiting}
use Rattle.streams.specs.Sent.{cells, end_of, piece}

-- each received cell is at its position in what a peer with these bytes sends
abbrev pub IsOf : Receiving → List ℕ → Bool → Type 0
IsOf r accepted ended = Taken (λ position cell. slice_get (cells accepted ended) position ≡ Some cell) r.taken

-- these cells are in what the peer sends, from this position on
abbrev pub StandsAt : List Cell → ℕ → List ℕ → Bool → Type 0
StandsAt some position accepted ended =
    (place : ℕ) (cell : Cell) → slice_get some place ≡ Some cell → slice_get (cells accepted ended) (position + place)
    ≡ Some cell

-- what was received in order is a prefix of the peer's bytes; what waits follows it; the end is reported once all was
-- received
pub record InOrder (r : Receiving) (accepted : List ℕ) (ended : Bool) : Type 0 where
  pub arrives : IsPrefixOf (arrived r) accepted
  pub waits : 1 ≤ next r → r.delivered ≤ length (arrived r) → received r ++ waiting r ≡ arrived r
  pub ends : is_ended r ≡ true → (arrived r ≡ accepted) × (ended ≡ true)

-- the laws of one stream from its sender to its reader
pub record StreamsInOrder : Type 0 where
  pub reads : (r : Receiving) (accepted : List ℕ) (ended : Bool) → IsOf r accepted ended → InOrder r accepted ended
  pub takes : (r : Receiving) (accepted : List ℕ) (ended : Bool) (position : ℕ) (bytes : List ℕ) (fin : Bool) →
      IsOf r accepted ended → StandsAt (body bytes fin) position accepted ended →
      IsOf (kept r position bytes fin) accepted ended
  pub advances : (r : Receiving) (position : ℕ) (bytes : List ℕ) (fin : Bool)
      → next r ≤ next (kept r position bytes fin)
  pub makes : (accepted : List ℕ) (ended : Bool) (position count : ℕ) (fin : Bool) →
      (0 < count → (0 < position) × (position + count ≤ end_of accepted)) →
      (fin ≡ true → (position + count ≡ end_of accepted) × (ended ≡ true)) →
      StandsAt (body (piece accepted position count) fin) position accepted ended
  pub sends : (accepted bytes : List ℕ) → Within (cells accepted false) (cells (accepted ++ bytes) false)
  pub finishes : (accepted : List ℕ) (ended : Bool) → Within (cells accepted ended) (cells accepted true)

-- if a list of bytes begins with others, those are a prefix of it
abbrev pub StartsArePrefixes : Type 0
StartsArePrefixes = (bytes all : List ℕ) → (starts bytes all ≡ true) ↔ IsPrefixOf bytes all
