use Rattle.std.proofs.Common.{◌+◌, subst, sym, refl}
use Rattle.std.proofs.lemmas.List.{take-append-drop}
use Rattle.counted.specs.LineParts.{HasNoFeed, EndsAtFeed}
use Rattle.counted.proofs.LineParts.{feed_in, no_feed_in}
use Rattle.counted.proofs.buffer.Buffer.give_line.Goals as goal

pub returns-in-Some-clause-line : goal.returns-in-Some-clause-line
returns-in-Some-clause-line c = λ _.
    let found = rw c.unread.ensures at c.in-Some.ensures in
    let gave = c.give.ensures in (
      subst EndsAtFeed (sym gave.line) (feed_in _ c.in-Some.at found.0.high found.0.before found.1),
      rw (gave.line, gave.unread) (sym (take-append-drop (c.in-Some.at + 1) _)),
    )

pub returns-in-None-clause-none : goal.returns-in-None-clause-none
returns-in-None-clause-none c = λ _. (subst HasNoFeed c.unread.ensures (no_feed_in _ c.in-None.ensures), refl)
