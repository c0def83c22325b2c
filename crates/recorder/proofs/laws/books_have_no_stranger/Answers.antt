use Rattle.recorder.proofs.HonestLemmas.{books_merge}
use Rattle.recorder.proofs.laws.books_have_no_stranger.Goals as goal

pub returns : goal.returns
returns c = books_merge
