-- What is kept for the stricter duties.
use Rattle.std.specs.Prelude.{ℕ, List, [], Option}
use Rattle.spec_network.specs.Tables.{Both}
use Rattle.spec_duties.specs.declared.strict.StrictOwed.{StrictOwed}
use Rattle.spec_duties.specs.declared.strict.Unsent.{Unsent}

-- what each endpoint owes, by its place; the segments that were built, by their numbers; and each host's credits
pub record StrictKept : Type 0 where
  pub owed : Both (List (ℕ × StrictOwed))
  pub unsent : List (ℕ × Option Unsent)
  pub credits : Both (List ℕ)

abbrev pub none_kept : StrictKept
none_kept = record {
  owed = record { zero = []; one = [] };
  unsent = [];
  credits = record { zero = []; one = [] };
}
