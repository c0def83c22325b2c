use Rattle.window_rules.proofs.ControlLemmas.{window_greatest, threshold_greatest, edge_exact, edge_beyond}
use Rattle.window_rules.proofs.laws.control_is_greatest.Goals as goal

pub returns : goal.returns
returns c = record { window = window_greatest; threshold = threshold_greatest; edge = edge_exact; beyond = edge_beyond }
