-- What an endpoint holds of its peer's stream beyond what is next in order, and which selective acknowledgments report
-- no more (RFC 2018, 2 to 4).
use Rattle.std.specs.Prelude.{ℕ, max, nat_lt, Bool, false, not, ◌&&◌, ◌||◌, List, Option, is_some, slice_get}
use Rattle.std.specs.FinSet.{FinSet, difference, from_list, items, union}
use Rattle.std.specs.Option.{option_map_or}
use Rattle.std.specs.Ordering.{nat_cmp}
use Rattle.seqno.specs.Near.{near_position}
use Rattle.seqno.specs.declared.word.Word.{Word}
use Rattle.segment.specs.declared.options.SackBlock.{SackBlock}
use Rattle.streams.specs.Ranges.{covers, span}
use Rattle.spec_duties.specs.declared.observations.Kept.{Kept}

-- what it holds after a step, in order: what the step keeps, too, and nothing below RCV.NXT
abbrev pub held_after : Kept → (next : ℕ) → (held : List ℕ) → List ℕ
held_after k next held = items (difference (union (from_list held) (span k.from k.upto)) (span 0 next))

-- these are some positions, and those of them from RCV.NXT on are held; what is below it may be reported again (RFC
-- 2883, 4)
abbrev pub reports_held : FinSet nat_cmp → (next left right : ℕ) → Bool
reports_held held next left right = nat_lt left right && covers held (max left next) right

-- a block reports such; its edges are numbers, which are read near RCV.NXT
abbrev pub is_true_block : FinSet nat_cmp → (next : ℕ) → (irs : Word) → SackBlock → Bool
is_true_block held next irs b =
    option_map_or (λ left. option_map_or (reports_held held next left) (near_position next irs b.right) false)
    (near_position next irs b.left) false

-- the block in this place doesn't
abbrev pub is_untrue_at : FinSet nat_cmp → (next : ℕ) → (irs : Word) → List SackBlock → (place : ℕ) → Bool
is_untrue_at held next irs blocks place =
    option_map_or (λ b. not (is_true_block held next irs b)) (slice_get blocks place) false

-- one of them doesn't; a list of options has room for no more than four
abbrev pub are_untrue : FinSet nat_cmp → (next : ℕ) → List SackBlock → (irs : Word) → Bool
are_untrue held next blocks irs =
    is_untrue_at held next irs blocks 0 || is_untrue_at held next irs blocks 1
    || is_untrue_at held next irs blocks 2 || is_untrue_at held next irs blocks 3

-- an endpoint sends blocks, though its peer's SYN didn't permit them (RFC 2018, 2), or one of them isn't true
abbrev pub is_untrue : (permitted : Bool) → FinSet nat_cmp → (next : ℕ) → (irs : Option Word) → List SackBlock → Bool
is_untrue permitted held next irs blocks =
    is_some (slice_get blocks 0) && (not permitted || option_map_or (are_untrue held next blocks) irs false)
