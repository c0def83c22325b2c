-- Numbers of positions, and the position that a number reads as (RFC 9293, 3.4).
use Rattle.std.specs.Prelude.{◌≡◌, ◌≤◌, ◌<◌, ◌↔◌, ℕ, ◌+◌, ◌%◌, ◌^◌, Option, Some, None}
use Rattle.seqno.specs.declared.word.Word.{Word}

-- the number of a position, going up from the number of position 0
abbrev pub number_of : Word → ℕ → Word
number_of base pos = record { 0 = (base.0 + pos) % 2 ^ 32 }

-- the position is less than 2^31 above near, or at most 2^31 below it
pub record IsNear (near pos : ℕ) : Type 0 where
  pub least : near ≤ pos + 2 ^ 31
  pub most : pos < near + 2 ^ 31

-- the position is near, and has the number
pub record IsReading (near : ℕ) (base w : Word) (pos : ℕ) : Type 0 where
  pub is_near : IsNear near pos
  pub number : number_of base pos ≡ w

-- the number is that of a place below position 0, at most 2^31 below near
pub record IsBelow (near : ℕ) (base w : Word) (places : ℕ) : Type 0 where
  pub some : 0 < places
  pub most : near + places ≤ 2 ^ 31
  pub number : number_of w places ≡ base

-- the position with this number would be below 0
abbrev pub IsBelowZero : ℕ → Word → Word → Type 0
IsBelowZero near base w = (places : ℕ) × IsBelow near base w places

-- what a number reads as: a position, or none if it would be below 0
abbrev pub Reads : ℕ → Word → Word → Option ℕ → Type 0
Reads near base w (Some pos) = IsReading near base w pos
Reads near base w None = IsBelowZero near base w

-- the number of a position reads back near it, and near nothing else
abbrev pub ReadsBack : Type 0
ReadsBack =
    (near : ℕ) (base : Word) (pos : ℕ) (read : Option ℕ) → Reads near base (number_of base pos) read → (read ≡ Some pos)
    ↔ IsNear near pos

-- positions less than 2^31 apart with the same number are equal
abbrev pub NearbyDiffer : Type 0
NearbyDiffer = (base : Word) (p q : ℕ) → p < q + 2 ^ 31 → q < p + 2 ^ 31 → number_of base p ≡ number_of base q → p ≡ q
