use Rattle.std.proofs.Common.{refl}
use Rattle.flight_parts.proofs.SetLemmas.{none_in}
use Rattle.scoreboard.proofs.scoreboard.Scoreboard.new.Goals as goal

pub returns : goal.returns
returns c = rw (c.new.ensures, c.new-2.ensures, c.new-3.ensures, c.new-4.ensures.items, none_in) refl
