-- How the numbers of a segment from a host that is not recorded are read (RFC 9293, 3.4).
use Rattle.std.specs.Prelude.{◌≡◌, ◌≤◌, ℕ, true, false, None, Some}
use Rattle.seqno.specs.Near.{near_position}
use Rattle.seqno.specs.declared.word.Word.{Word}
use Rattle.spec_tcp.specs.Bounds.{greatest_position}
use Rattle.spec_tcp.specs.Heard.{position_near}
use Rattle.spec_tcp.specs.Arrives.OtherStates.Sequence.{reads_as}

-- if a number reads as a position that a text could contain, that is the position, and the number reads back; if it
-- reads as none, it doesn't
pub record HeardNumbersAreRead (near : ℕ) (base w : Word) : Type 0 where
  pub read : (position : ℕ) → near_position near base w ≡ Some position → position ≤ greatest_position
      → position_near near (Some base) w ≡ position
  pub again : (position : ℕ) → near_position near base w ≡ Some position → position ≤ greatest_position →
      reads_as near (Some base) w (position_near near (Some base) w) ≡ true
  pub none : near_position near base w ≡ None → reads_as near (Some base) w (position_near near (Some base) w) ≡ false
