use Rattle.std.proofs.Common.{refl}
use Rattle.checker.specs.Verdicts.{verdict}
use Rattle.checker.proofs.JudgeLemmas.{verdict_says}
use Rattle.checker.proofs.YesLemmas.{explains_yes, yes_explains}
use Rattle.checker.proofs.laws.verdict_means.Goals as goal

pub returns : goal.returns
returns c = λ t w. record {
  says = verdict_says t w (verdict t w) refl;
  explained = (yes_explains t w, explains_yes t w);
  heard = λ said both. c.receives_begin_sends.ensures t w (yes_explains t w said) both;
  received = λ said both. c.explained_follows.ensures.received t w (yes_explains t w said) both;
  whole = λ said both. c.explained_follows.ensures.whole t w (yes_explains t w said) both;
  acknowledged = λ said both. c.explained_follows.ensures.acknowledged t w (yes_explains t w said) both;
  carried = λ said. c.explained_follows.ensures.carried t w (yes_explains t w said);
  windows = λ said. c.explained_follows.ensures.windows t w (yes_explains t w said);
  states = λ said. c.explained_follows.ensures.states t w (yes_explains t w said);
  positions = λ said. c.explained_follows.ensures.positions t w (yes_explains t w said);
}
