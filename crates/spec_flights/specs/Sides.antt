-- Which endpoints acknowledge selectively: those whose own SYN permitted it, and the SYN that they took (RFC 2018, 2).
use Rattle.std.specs.Prelude.{Bool, false, ◌&&◌, ◌||◌}
use Rattle.spec_duties.specs.declared.observations.SynChange.{SynChange}
use Rattle.spec_duties.specs.declared.observations.SynChange.TheVariants as syn_change
pub use Rattle.spec_flights.specs.declared.sides.Sides.{Sides}

abbrev pub neither : Sides
neither = record { own = false; peers = false }

abbrev pub are_selective : Sides → Bool
are_selective s = s.own && s.peers

-- after a step
abbrev pub sides_after : SynChange → Sides → Sides
sides_after (syn_change.Sends permits) s = record s { own = s.own || permits }
sides_after (syn_change.Takes permits alone) s = record s { peers = permits }
sides_after change s = s
