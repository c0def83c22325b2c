-- What contracts see of seats and books.
use Rattle.std.specs.Prelude.{ℕ}
use Rattle.stack_core.specs.Cores.{Core}

pub record SeatView : Type 0 where
  pub thread : ℕ
  pub count : ℕ

-- the core's state, and how many of its lines end a call
pub record BookView : Type 0 where
  pub core : Core
  pub total : ℕ
