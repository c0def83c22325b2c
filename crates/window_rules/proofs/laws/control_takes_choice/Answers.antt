use Rattle.window_rules.proofs.ControlLemmas.{chosen_cwnd, lowered_ssthresh, same_ssthresh, same_profile}
use Rattle.window_rules.proofs.laws.control_takes_choice.Goals as goal

pub returns : goal.returns
returns c = record { cwnd = chosen_cwnd; lowered = lowered_ssthresh; stays = same_ssthresh; profile = same_profile }
