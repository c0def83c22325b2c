-- The segment or the first fault of bytes, found from left to right.
use Rattle.std.specs.Prelude.{◌≡◌, ◌≢◌, ◌↔◌, ℕ, zero, suc, ◌+◌, ◌-◌, ◌/◌, ◌%◌, ◌==◌, Bool}
use Rattle.std.specs.Prelude.{false, ◌&&◌, ◌||◌, nat_le, nat_lt, if◌then◌else◌}
use Rattle.std.specs.List.{list_any}
use Rattle.std.specs.Option.{option_map_or, option_or}
use Rattle.std.specs.Prelude.{List, [], ◌∷◌, ◌++◌, length, take, drop, Option, Some, None, Result, Ok, Err}
use Rattle.byteorder.specs.Endian.{big_from}
use Rattle.segment.specs.declared.fault.SegFault.{SegFault}
use Rattle.segment.specs.declared.fault.SegFault.TheVariants.{Short, Offset, OptionLength, TooLong, OutOfMemory}
use Rattle.segment.specs.declared.fields.Segment.{Segment}
use Rattle.segment.specs.declared.options.SackBlock.{SackBlock}
use Rattle.segment.specs.declared.options.TimestampPair.{TimestampPair}
use Rattle.segment.specs.Options.{Item, padding, option}
use Rattle.segment.specs.Layout.{IsSegment, IsFault, max_len, header_len, options_of, fields_of}

-- one item before the others, if these can be read
abbrev pub in_front : Item → Option (List Item) → Option (List Item)
in_front item None = None
in_front item (Some items) = Some (item ∷ items)

-- an option of this kind, and the items after it
abbrev pub option_items : (List ℕ → Option (List Item)) → ℕ → List ℕ → Option (List Item)
option_items items kind [] = None
option_items items kind (len ∷ rest) =
    if nat_le 2 len && nat_le len (length rest + 2)
    then in_front (option kind (take (len - 2) rest)) (items (drop (len - 2) rest))
    else None

-- the items of a list of options, which has fewer bytes than this number
abbrev pub items_within : ℕ → List ℕ → Option (List Item)
items_within zero bytes = None
items_within (suc n) [] = Some []
items_within (suc n) (kind ∷ rest) =
    if kind == 0 then Some []
    else if kind == 1 then in_front padding (items_within n rest)
    else option_items (items_within n) kind rest

-- the items of a list of options, if it is one
abbrev pub items_of : List ℕ → Option (List Item)
items_of bytes = items_within (suc (length bytes)) bytes

-- kind 4 without content: who sent this in its SYN reads selective acknowledgments (RFC 2018, 2)
abbrev pub is_sack_permission : Item → Bool
is_sack_permission padding = false
is_sack_permission (option kind content) = kind == 4 && length content == 0

-- the options of a segment's bytes permit them
abbrev pub permits_sack : List ℕ → Bool
permits_sack bytes = option_map_or (list_any is_sack_permission) (items_of (options_of bytes)) false

-- the block in the 8 bytes from this place on: the number of its first byte, and that after its last one (RFC 2018, 3)
abbrev pub block_at : ℕ → List ℕ → SackBlock
block_at place content = record {
  left = record { 0 = big_from place 4 content };
  right = record { 0 = big_from (place + 4) 4 content };
}

-- so many blocks, from this place on
abbrev pub blocks_from : (place count : ℕ) → List ℕ → List SackBlock
blocks_from place zero content = []
blocks_from place (suc count) content = block_at place content ∷ blocks_from (place + 8) count content

-- kind 5 with a multiple of 8 bytes of content carries blocks
abbrev pub item_blocks : Item → List SackBlock
item_blocks padding = []
item_blocks (option kind content) =
    if kind == 5 && length content % 8 == 0 then blocks_from 0 (length content / 8) content else []

-- those of all items
abbrev pub blocks_among : List Item → List SackBlock
blocks_among [] = []
blocks_among (item ∷ items) = item_blocks item ++ blocks_among items

-- the blocks that the options of a segment's bytes carry
abbrev pub sack_blocks : List ℕ → List SackBlock
sack_blocks bytes = option_map_or blocks_among (items_of (options_of bytes)) []

-- kind 8 with 8 bytes of content carries the sender's clock, and the clock that it echoes (RFC 7323, 3.2)
abbrev pub item_timestamps : Item → Option TimestampPair
item_timestamps padding = None
item_timestamps (option kind content) =
    if kind == 8 && length content == 8
    then Some (record { value = record { 0 = big_from 0 4 content }; echo = record { 0 = big_from 4 4 content } })
    else None

-- those of the last item that carries some
abbrev pub last_timestamps : List Item → Option TimestampPair
last_timestamps [] = None
last_timestamps (item ∷ items) = option_or (last_timestamps items) (item_timestamps item)

-- the timestamps that the options of a segment's bytes carry
abbrev pub timestamps : List ℕ → Option TimestampPair
timestamps bytes = option_map_or last_timestamps (items_of (options_of bytes)) None

-- the segment with these items, or a fault of the items or of the length
abbrev pub with_items : List ℕ → Option (List Item) → Result Segment SegFault
with_items bytes None = Err OptionLength
with_items bytes (Some items) = if nat_lt max_len (length bytes) then Err TooLong else Ok (fields_of bytes items)

-- the bytes' segment, or their first fault
unfoldable pub segment_of : List ℕ → Result Segment SegFault
segment_of bytes =
    if nat_lt (length bytes) 20 then Err Short
    else if nat_lt (header_len bytes) 20 || nat_lt (length bytes) (header_len bytes) then Err Offset
    else with_items bytes (items_of (options_of bytes))

-- the result is that of reading, unless memory ran out
abbrev pub Gives : Result Segment SegFault → Result Segment SegFault → Type 0
Gives (Ok s) read = read ≡ Ok s
Gives (Err OutOfMemory) read = Unit {0}
Gives (Err e) read = read ≡ Err e

-- reading gives the segment that the bytes encode, or their first fault if they encode none
pub record ReadsByLayout : Type 0 where
  pub segments : (bytes : List ℕ) (s : Segment) → (segment_of bytes ≡ Ok s) ↔ IsSegment bytes s
  pub faults : (bytes : List ℕ) (e : SegFault) → (segment_of bytes ≡ Err e) ↔ (IsFault bytes e × (e ≢ OutOfMemory))
