-- What is known of outstanding positions, and the pieces that keep it: for each the position after it, with
-- its first one.
use Rattle.std.specs.Prelude.{ℕ, zero, suc, ◌+◌, ◌-◌, ◌<◌, ◌≤◌, ◌≡◌, Bool, true, false, ◌&&◌, nat_le, nat_lt}
use Rattle.std.specs.Prelude.{if◌then◌else◌, max, min, take, drop}
use Rattle.std.specs.Prelude.{List, [], ◌∷◌, ◌++◌, Option, None, Some, count_by, find, length, map, replicate, ◌==◌, ⊤}
use Rattle.std.specs.Ordering.{nat_cmp}
use Rattle.std.specs.Map.{set_value}
use Rattle.std.specs.BTreeMap.{insert_entry, is_at}
use Rattle.streams.specs.Lists.{covered}
use Rattle.streams.specs.RangeEntries.{without}
use Rattle.streams.specs.declared.outstanding.Outstanding.{Outstanding}
use Rattle.streams.specs.declared.piece.Piece.{Piece}

-- a position that no segment ends with
abbrev pub inner : Outstanding → Outstanding
inner x = record x { last = false }

-- this many positions that are alike, of which the last one may end its segment
abbrev pub alike : Outstanding → ℕ → List Outstanding
alike x zero = []
alike x (suc zero) = x ∷ []
alike x (suc (suc count)) = inner x ∷ alike x (suc count)

-- the pieces, position by position
abbrev pub shown : List (ℕ × Piece) → List Outstanding
shown [] = []
shown (e ∷ pieces) = alike e.1.state (e.0 - e.1.start) ++ shown pieces

-- none of the pieces is empty, each begins where the one before ends, and together they go from one position to before
-- the other
abbrev pub Adjoin : (from upto : ℕ) → List (ℕ × Piece) → Type 0
Adjoin from upto [] = from ≡ upto
Adjoin from upto (e ∷ pieces) = (e.1.start ≡ from) × (from < e.0) × Adjoin e.0 upto pieces

-- no piece begins before this position and ends after it
abbrev pub IsCut : ℕ → List (ℕ × Piece) → Type 0
IsCut position [] = ⊤
IsCut position (e ∷ pieces) = ((nat_lt e.1.start position && nat_lt position e.0) ≡ false) × IsCut position pieces

-- the first piece that ends after this position
abbrev pub piece_after : ℕ → List (ℕ × Piece) → Option (ℕ × Piece)
piece_after position pieces = find (λ e. nat_lt position e.0) pieces

-- the part of a piece below a position, and the part from there on
abbrev pub lower : Piece → Piece
lower piece = record piece { state = inner piece.state }

abbrev pub upper : ℕ → Piece → Piece
upper position piece = record piece { start = position }

-- a piece that begins before a position and ends after it becomes two
abbrev pub cut_in : ℕ → List (ℕ × Piece) → Option (ℕ × Piece) → List (ℕ × Piece)
cut_in position pieces None = pieces
cut_in position pieces (Some e) =
    if nat_lt e.1.start position
    then set_value (is_at (nat_cmp e.0)) (insert_entry nat_cmp pieces position (lower e.1)) (upper position e.1)
    else pieces

abbrev pub cut : ℕ → List (ℕ × Piece) → List (ℕ × Piece)
cut position pieces = cut_in position pieces (piece_after position pieces)

-- the pieces that end after a position
abbrev pub past : ℕ → List (ℕ × Piece) → List (ℕ × Piece)
past position [] = []
past position (e ∷ pieces) = if nat_le e.0 position then past position pieces else e ∷ pieces

-- the first piece that ends after a position loses what lies below it
abbrev pub begun_in : ℕ → List (ℕ × Piece) → Option (ℕ × Piece) → List (ℕ × Piece)
begun_in position pieces None = pieces
begun_in position pieces (Some e) = set_value (is_at (nat_cmp e.0)) pieces (upper (max e.1.start position) e.1)

abbrev pub begun : ℕ → List (ℕ × Piece) → List (ℕ × Piece)
begun position pieces = begun_in position pieces (piece_after position pieces)

-- one piece takes the place of those from a position to before another
abbrev pub joined : (from upto : ℕ) → Outstanding → List (ℕ × Piece) → List (ℕ × Piece)
joined from upto state pieces =
    set_value (is_at (nat_cmp upto)) (without (from + 1) upto pieces) (record { start = from; state = state })

abbrev pub joined_if : (from upto : ℕ) → Outstanding → List (ℕ × Piece) → List (ℕ × Piece)
joined_if from upto state pieces = if nat_lt from upto then joined from upto state pieces else pieces

-- one more piece behind the others, which end at a position, if it isn't empty
abbrev pub grown : (end upto : ℕ) → Outstanding → List (ℕ × Piece) → List (ℕ × Piece)
grown end upto state pieces =
    if nat_lt end upto then insert_entry nat_cmp pieces upto (record { start = end; state = state }) else pieces

-- the last position of a segment that was outstanding before, and of one that wasn't
abbrev pub built_again : (number moment : ℕ) → Bool → Outstanding
built_again number moment last = record { number = number; moment = moment; again = true; last = last }

abbrev pub built_first : (number moment : ℕ) → Outstanding
built_first number moment = record { number = number; moment = moment; again = false; last = true }

-- what is shown from a position on, of pieces that end at another, once a segment was built
abbrev pub rebuilt : (from end position upto number moment : ℕ) → List Outstanding → List Outstanding
rebuilt from end position upto number moment all =
    (take (position - from) all
    ++ (alike (built_again number moment (nat_le upto end)) (min upto end - position)
    ++ drop (min upto end - from) all))
    ++ alike (built_first number moment) (upto - end)

-- of an acknowledged position nothing is known any more
abbrev pub known : ℕ → List (ℕ × Piece) → List (Option Outstanding)
known snd_una pieces = replicate snd_una None ++ map (λ x. Some x) (shown pieces)

-- the acknowledged positions are forgotten
abbrev pub known_from : ℕ → List (Option Outstanding) → List (Option Outstanding)
known_from snd_una all = covered None snd_una all

-- how many positions were acknowledged and forgotten
abbrev pub acknowledged : List (Option Outstanding) → ℕ
acknowledged [] = 0
acknowledged (None ∷ all) = suc (acknowledged all)
acknowledged (Some x ∷ all) = 0

-- a segment is built, with the positions from one to before another: those that are outstanding are built again, the
-- others first
abbrev pub made_again : (position upto number moment : ℕ) → List (Option Outstanding) → List (Option Outstanding)
made_again position upto number moment all =
    map (λ x. Some x) (alike (built_again number moment (nat_le upto (length all))) (min upto (length all) - position))

abbrev pub made_first : (upto number moment : ℕ) → List (Option Outstanding) → List (Option Outstanding)
made_first upto number moment all = map (λ x. Some x) (alike (built_first number moment) (upto - length all))

abbrev pub made : (position upto number moment : ℕ) → List (Option Outstanding) → List (Option Outstanding)
made position upto number moment all =
    (take position all ++ (made_again position upto number moment all ++ drop (min upto (length all)) all))
    ++ made_first upto number moment all

-- a position is the last one of the segment of this number
abbrev pub ends : ℕ → Option Outstanding → Bool
ends number None = false
ends number (Some x) = x.last && x.number == number

-- no two positions are the last one of one segment
abbrev pub EndOnce : List (Option Outstanding) → Type 0
EndOnce all = (number : ℕ) → count_by (ends number) all ≤ 1

-- that stays so if each segment has a number of its own
pub record SegmentsEndOnce : Type 0 where
  pub makes : (position upto number moment : ℕ) (all : List (Option Outstanding)) → EndOnce all
      → count_by (ends number) all ≡ 0
      → position ≤ length all → position ≤ upto → EndOnce (made position upto number moment all)
  pub forgets : (snd_una : ℕ) (all : List (Option Outstanding)) → EndOnce all → EndOnce (known_from snd_una all)
