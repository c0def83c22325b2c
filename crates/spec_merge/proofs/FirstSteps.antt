-- The first steps of a run are a run, and those behind them go on from where they end.
use Rattle.std.proofs.Common.{ℕ, List, [], ◌∷◌, ◌++◌, sym, subst}
use Rattle.case_forms.specs.declared.trace.Header.{Header}
use Rattle.spec_network.specs.Hosts.{Stamped, World}
use Rattle.spec_network.specs.HostRules.{Permitted}
use Rattle.spec_network.specs.HostSteps.{Lawful, after, after_all, start}
use Rattle.spec_merge.specs.Placing.{IsPlacedRun}
use Rattle.spec_tcp.specs.Machine.{tcp, tcp_shape}
use Rattle.spec_tcp_laws.specs.Runs.{world_at_end}
use Rattle.spec_merge.specs.Recordings.{AreFirstSteps, TcpEntry, merged, merged_lines}

pub lawful_parts : (h : Header) (w : World tcp_shape) (xs ys : List (Stamped tcp_shape)) → Lawful (tcp h) w (xs ++ ys)
    → Lawful (tcp h) w xs × Lawful (tcp h) (after_all (tcp h) w xs) ys
lawful_parts h w [] ys may = (tt, may)
lawful_parts h w (x ∷ xs) ys may =
    let rest = lawful_parts h (after (tcp h) x.moment w x.step) xs ys may.1 in
    ((may.0, rest.0), rest.1)

-- the first steps of what is merged, which are a run where all of it is
pub run_begins : (h : Header) (first : ℕ) (zeros ones : List TcpEntry) (steps : List (Stamped tcp_shape)) → AreFirstSteps h first zeros ones steps
    → IsPlacedRun (tcp h) h.skew first (merged_lines h first zeros ones) (merged h first zeros ones) → Lawful (tcp h) (start (tcp h)) steps
run_begins h first zeros ones steps begin placed_run =
    (lawful_parts h (start (tcp h)) steps begin.1.0 (subst (λ (l : List (Stamped tcp_shape)). Lawful (tcp h) (start (tcp h)) l) (sym begin.1.1) placed_run.1)).0

-- the last of them is permitted where those before it end
pub last_fits : (h : Header) (steps : List (Stamped tcp_shape)) (x : Stamped tcp_shape) → Lawful (tcp h) (start (tcp h)) (steps ++ x ∷ [])
    → Lawful (tcp h) (start (tcp h)) steps × Permitted (tcp h) x.moment (world_at_end h steps) x.step
last_fits h steps x may = let parts = lawful_parts h (start (tcp h)) steps (x ∷ []) may in (parts.0, parts.1.0)
