-- The timestamps of a segment, item by item.
use Rattle.std.proofs.Common.{◌≡◌, ℕ, List, [], ◌∷◌, Option, Some, None, refl, sym, ◌∙◌, ap}
use Rattle.std.specs.Option.{option_map, option_map_or, option_or}
use Rattle.segment.specs.declared.options.TimestampPair.{TimestampPair}
use Rattle.segment.specs.Options.{Item, IsEnd, IsNext, HasNoItems}
use Rattle.segment.specs.Reading.{in_front, items_of, item_timestamps, last_timestamps}
use Rattle.segment.proofs.Readings.{items_end, items_none, items_next}

-- the timestamps of a list of options, by what is found first
timestamps_front : (item : Item) (items : Option (List Item))
    → option_map last_timestamps (in_front item items)
    ≡ option_map (λ later. option_or later (item_timestamps item)) (option_map last_timestamps items)
timestamps_front item None = refl
timestamps_front item (Some items) = refl

pub timestamps_next : (item : Item) (rest bytes : List ℕ) (found : Option (Option TimestampPair)) → IsNext item rest bytes
    → found ≡ option_map last_timestamps (items_of rest)
    → option_map last_timestamps (items_of bytes) ≡ option_map (λ later. option_or later (item_timestamps item)) found
timestamps_next item rest bytes found next is =
    ap (option_map last_timestamps) (items_next item rest bytes next) ∙ timestamps_front item (items_of rest)
    ∙ ap (option_map (λ later. option_or later (item_timestamps item))) (sym is)

pub timestamps_end : (bytes : List ℕ) → IsEnd bytes → option_map last_timestamps (items_of bytes) ≡ Some None
timestamps_end bytes end = ap (option_map last_timestamps) (items_end bytes end)

pub timestamps_none : (bytes : List ℕ) → HasNoItems bytes → option_map last_timestamps (items_of bytes) ≡ None
timestamps_none bytes none = ap (option_map last_timestamps) (items_none bytes none)

pub timestamps_are : (items : Option (List Item)) (found : Option (Option TimestampPair)) (carried : Option TimestampPair)
    → found ≡ option_map last_timestamps items → found ≡ Some carried → carried ≡ option_map_or last_timestamps items None
timestamps_are None found carried is some = absurd cc
timestamps_are (Some items) found carried is some = cc

pub no_timestamps_are : (items : Option (List Item)) (found : Option (Option TimestampPair))
    → found ≡ option_map last_timestamps items → found ≡ None → None ≡ option_map_or last_timestamps items None
no_timestamps_are None found is none = refl
no_timestamps_are (Some items) found is none = absurd cc

abbrev clocks : (value echo : ℕ) → TimestampPair
clocks value echo = record { value = record { 0 = value }; echo = record { 0 = echo } }

-- two bytes of padding, and an option with timestamps
read_so : option_map last_timestamps (items_of (1 ∷ 1 ∷ 8 ∷ 10 ∷ 0 ∷ 0 ∷ 1 ∷ 0 ∷ 255 ∷ 255 ∷ 255 ∷ 255 ∷ []))
    ≡ Some (Some (clocks 256 4294967295))
read_so = refl

-- two options with timestamps, and one with 7 bytes of content
last_counts : option_map last_timestamps (items_of (8 ∷ 10 ∷ 0 ∷ 0 ∷ 0 ∷ 1 ∷ 0 ∷ 0 ∷ 0 ∷ 2
    ∷ 8 ∷ 10 ∷ 1 ∷ 0 ∷ 0 ∷ 4 ∷ 0 ∷ 0 ∷ 2 ∷ 1
    ∷ 8 ∷ 9 ∷ 0 ∷ 0 ∷ 0 ∷ 6 ∷ 0 ∷ 0 ∷ 0 ∷ []))
    ≡ Some (Some (clocks 16777220 513))
last_counts = refl

-- one with 7 bytes of content, and one with 9
other_lengths_carry_none : option_map last_timestamps (items_of (8 ∷ 9 ∷ 0 ∷ 0 ∷ 0 ∷ 1 ∷ 0 ∷ 0 ∷ 0
    ∷ 8 ∷ 11 ∷ 0 ∷ 0 ∷ 0 ∷ 1 ∷ 0 ∷ 0 ∷ 0 ∷ 2 ∷ 0 ∷ []))
    ≡ Some None
other_lengths_carry_none = refl

-- an option with timestamps, and one that passes the end
no_list_carries_none : option_map last_timestamps (items_of (8 ∷ 10 ∷ 0 ∷ 0 ∷ 0 ∷ 1 ∷ 0 ∷ 0 ∷ 0 ∷ 2 ∷ 8 ∷ 10 ∷ [])) ≡ None
no_list_carries_none = refl
