use Rattle.tables.proofs.HintLemmas.{hinted_by}
use Rattle.tables.proofs.hints.widen.Goals as goal

pub returns-then-all_rose : goal.returns-then-all_rose
returns-then-all_rose g c =
    hinted_by c.hint_anew.new.hints.items c.args.risen.now c.args.entries.now c.hint_anew.ensures (c.requires.rose c.if-all_rose.true)
