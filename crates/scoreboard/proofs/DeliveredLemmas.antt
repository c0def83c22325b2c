-- What is delivered, part by part.
use Rattle.std.proofs.Common.{◌≡◌, ℕ, List, ◌++◌}
use Rattle.std.specs.Prelude.{Option}
use Rattle.streams.specs.declared.outstanding.Outstanding.{Outstanding}
use Rattle.spec_flights.specs.Delivered.{latest_after, least_after}
use Rattle.spec_flights.specs.declared.making.Latest.{Latest}
use Rattle.scoreboard.proofs.WalkLemmas.{latest_append, least_append}

pub least_parts : (moment : ℕ) (least : Option ℕ) (a b c d e : List (ℕ × Outstanding))
    → least_after moment least (a ++ (b ++ (c ++ (d ++ e))))
    ≡ least_after moment (least_after moment (least_after moment (least_after moment (least_after moment least a) b) c) d) e
least_parts moment least a b c d e = simp least_append

pub latest_parts : (moment : ℕ) (least : Option ℕ) (latest : Option Latest) (a b c d e : List (ℕ × Outstanding))
    → latest_after moment least latest (a ++ (b ++ (c ++ (d ++ e))))
    ≡ latest_after moment least (latest_after moment least (latest_after moment least (latest_after moment least (latest_after moment least latest a) b) c) d) e
latest_parts moment least latest a b c d e = simp latest_append
