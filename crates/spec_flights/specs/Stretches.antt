-- Some positions, one after the other.
pub use Rattle.spec_flights.specs.declared.stretch.Stretch.{Stretch}

abbrev pub no_positions : Stretch
no_positions = record { from = 0; upto = 0 }
