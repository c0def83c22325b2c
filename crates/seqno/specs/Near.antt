-- The position that a number reads as, found by how far it is ahead (RFC 9293, 3.4).
use Rattle.std.specs.Prelude.{◌<◌, ℕ, ◌+◌, ◌-◌, ◌%◌, ◌^◌, nat_lt, Option, None, Some, if◌then◌else◌}
use Rattle.seqno.specs.declared.word.Word.{Word}
use Rattle.seqno.specs.Numbers.{number_of, Reads}

-- how far a number is ahead of that of a position, modulo 2^32
abbrev pub ahead : ℕ → Word → Word → ℕ
ahead near base w = (w.0 + 2 ^ 32 - (number_of base near).0) % 2 ^ 32

-- less than 2^31 ahead is ahead, anything else is before; none if that is below position 0
abbrev pub near_position : ℕ → Word → Word → Option ℕ
near_position near base w =
    if nat_lt (ahead near base w) (2 ^ 31) then Some (near + ahead near base w)
    else if nat_lt (near + ahead near base w) (2 ^ 32) then None
    else Some (near + ahead near base w - 2 ^ 32)

-- this is what a number reads as
abbrev pub FindsReading : Type 0
FindsReading =
    (near : ℕ) (base w : Word) → base.0 < 2 ^ 32 → w.0 < 2 ^ 32 → Reads near base w (near_position near base w)
