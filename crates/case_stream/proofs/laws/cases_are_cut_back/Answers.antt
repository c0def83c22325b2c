use Rattle.case_stream.proofs.CutBackLaw.{cut_back}
use Rattle.case_stream.proofs.laws.cases_are_cut_back.Goals as goal

pub returns : goal.returns
returns c = cut_back
