-- The blocks of a selective acknowledgment, item by item.
use Rattle.std.proofs.Common.{◌≡◌, ◌≤◌, ◌<◌, ℕ, zero, suc, ◌+◌, ◌-◌, ◌*◌, ◌/◌, ◌%◌, List, [], ◌∷◌, ◌++◌, length}
use Rattle.std.proofs.Common.{Option, Some, None, refl, sym, ◌∙◌, ap, arith}
use Rattle.std.specs.Prelude.{◌==◌, ◌&&◌, slice_get}
use Rattle.std.specs.Option.{option_map, option_map_or, option_or}
use Rattle.std.proofs.lemmas.Bool.{cond_both}
use Rattle.segment.specs.declared.options.SackBlock.{SackBlock}
use Rattle.segment.specs.Options.{Item, option, IsEnd, IsNext, HasNoItems}
use Rattle.segment.specs.Reading.{in_front, items_of, block_at, blocks_from, item_blocks, blocks_among}
use Rattle.segment.proofs.Readings.{items_end, items_none, items_next}

pub blocks_counted : (place count : ℕ) (content : List ℕ) → length (blocks_from place count content) ≡ count
blocks_counted place zero content = refl
blocks_counted place (suc count) content = ap suc (blocks_counted (place + 8) count content)

-- an element of what begins at a place begins so many places later
block_found : (place count k : ℕ) (content : List ℕ) → k < count
    → slice_get (blocks_from place count content) k ≡ Some (block_at (place + 8 * k) content)
block_found place zero k content lt = absurd (omega arith)
block_found place (suc count) zero content lt = ap (λ at. Some (block_at at content)) {x = place} {y = place + 8 * 0} (omega arith)
block_found place (suc count) (suc k) content lt =
    block_found (place + 8) count k content (omega arith)
    ∙ ap (λ at. Some (block_at at content)) {x = place + 8 + 8 * k} {y = place + 8 * suc k} (omega arith)

-- what an item carries in a place
pub record HasBlock (content : List ℕ) (blocks : List SackBlock) (k : ℕ) : Type 0 where
  pub is : slice_get blocks k ≡ Some (block_at (8 * k) content)
  pub within : 8 * k + 8 ≤ length content

pub block_of_item : (kind : ℕ) (content : List ℕ) (k : ℕ) → k < length (item_blocks (option kind content))
    → HasBlock content (item_blocks (option kind content)) k
block_of_item kind content k =
    cond_both (kind == 5 && length content % 8 == 0) (blocks_from 0 (length content / 8) content) []
    (λ blocks. k < length blocks → HasBlock content blocks k)
    (λ carries lt. let few : k < length content / 8 = omega (arith, blocks_counted 0 (length content / 8) content) in
    record {
      is =
          block_found 0 (length content / 8) k content few
          ∙ ap (λ at. Some (block_at at content)) {x = 0 + 8 * k} {y = 8 * k} (omega arith);
      within = omega arith;
    })
    (λ not lt. absurd (omega arith))

-- of two lists, one after the other
get_appended : {X : Type 0} (xs ys : List X) (k : ℕ)
    → slice_get (xs ++ ys) k ≡ option_or (slice_get xs k) (slice_get ys (k - length xs))
get_appended [] ys k = ap (slice_get ys) {x = k} {y = k - 0} (omega arith)
get_appended (x ∷ xs) ys zero = refl
get_appended (x ∷ xs) ys (suc k) =
    get_appended xs ys k
    ∙ ap (λ n. option_or (slice_get xs k) (slice_get ys n)) {x = k - length xs} {y = suc k - suc (length xs)} (omega arith)

-- the block in a place, by what is found first
abbrev pub BlockIn : ℕ → Option (List Item) → Option (Option SackBlock)
BlockIn k items = option_map (λ (of : List Item). slice_get (blocks_among of) k) items

block_front : (item : Item) (k : ℕ) (items : Option (List Item))
    → BlockIn k (in_front item items)
    ≡ option_map (λ later. option_or (slice_get (item_blocks item) k) later) (BlockIn (k - length (item_blocks item)) items)
block_front item k None = refl
block_front item k (Some items) = ap Some (get_appended (item_blocks item) (blocks_among items) k)

pub block_next : (item : Item) (rest bytes : List ℕ) (k : ℕ) (found : Option (Option SackBlock)) → IsNext item rest bytes
    → found ≡ BlockIn (k - length (item_blocks item)) (items_of rest)
    → BlockIn k (items_of bytes) ≡ option_map (λ later. option_or (slice_get (item_blocks item) k) later) found
block_next item rest bytes k found next is =
    ap (BlockIn k) (items_next item rest bytes next) ∙ block_front item k (items_of rest)
    ∙ ap (option_map (λ later. option_or (slice_get (item_blocks item) k) later)) (sym is)

pub block_end : (bytes : List ℕ) (k : ℕ) → IsEnd bytes → BlockIn k (items_of bytes) ≡ Some None
block_end bytes k end = ap (BlockIn k) (items_end bytes end)

pub block_none : (bytes : List ℕ) (k : ℕ) → HasNoItems bytes → BlockIn k (items_of bytes) ≡ None
block_none bytes k none = ap (BlockIn k) (items_none bytes none)

pub block_is : (items : Option (List Item)) (k : ℕ) (found : Option (Option SackBlock)) (block : Option SackBlock)
    → found ≡ BlockIn k items → found ≡ Some block → block ≡ slice_get (option_map_or blocks_among items []) k
block_is None k found block is some = absurd cc
block_is (Some items) k found block is some = cc

pub no_block_is : (items : Option (List Item)) (k : ℕ) (found : Option (Option SackBlock))
    → found ≡ BlockIn k items → found ≡ None → None ≡ slice_get (option_map_or blocks_among items []) k
no_block_is None k found is none = refl
no_block_is (Some items) k found is none = absurd cc

-- two bytes of padding, an option with two blocks, and one with a block; an option with 7 bytes of content has none
abbrev edges : (left right : ℕ) → SackBlock
edges left right = record { left = record { 0 = left }; right = record { 0 = right } }

read_so : option_map blocks_among (items_of (1 ∷ 1
    ∷ 5 ∷ 18 ∷ 0 ∷ 0 ∷ 1 ∷ 0 ∷ 0 ∷ 0 ∷ 2 ∷ 1 ∷ 255 ∷ 255 ∷ 255 ∷ 255 ∷ 0 ∷ 0 ∷ 0 ∷ 3
    ∷ 5 ∷ 10 ∷ 1 ∷ 0 ∷ 0 ∷ 4 ∷ 1 ∷ 0 ∷ 0 ∷ 5
    ∷ 5 ∷ 9 ∷ 0 ∷ 0 ∷ 0 ∷ 6 ∷ 0 ∷ 0 ∷ 0 ∷ []))
    ≡ Some (edges 256 513 ∷ edges 4294967295 3 ∷ edges 16777220 16777221 ∷ [])
read_so = refl
