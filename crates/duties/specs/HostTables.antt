-- A table for each host, as lists of entries.
use Rattle.std.specs.Prelude.{ℕ, List}
use Rattle.spec_network.specs.Tables.{Both}
use Rattle.tables.specs.Tables.{Table}

abbrev pub entries_of : {V : Type 0} → Both (Table V) → Both (List (ℕ × V))
entries_of both = record { zero = both.zero.entries; one = both.one.entries }
