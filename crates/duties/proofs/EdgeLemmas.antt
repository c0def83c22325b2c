-- The congestion edge from position 0 on.
use Rattle.std.proofs.Common.{◌≡◌, ℕ, ◌+◌, ◌^◌, Bool, true, false, arith}
use Rattle.std.specs.Prelude.{if◌then◌else◌}
use Rattle.window_rules.specs.declared.control.Control.{Control}
use Rattle.window_rules.specs.Control.{bounds_windows, control_edge}
use Rattle.window_rules.specs.Windows.{congestion_edge}

pub edge_from_0 : (una : ℕ) (c : Control) → una + control_edge 0 c ≡ control_edge una c
edge_from_0 una c = by (bounds_windows c.profile)
  where
    by : (b : Bool) → una + (if b then congestion_edge 0 c.values else congestion_edge 0 c.values + 2 ^ 40)
        ≡ (if b then congestion_edge una c.values else congestion_edge una c.values + 2 ^ 40)
    by true = omega arith
    by false = omega arith
