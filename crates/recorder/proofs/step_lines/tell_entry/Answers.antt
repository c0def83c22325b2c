use Rattle.std.proofs.Common.{rules}
use Rattle.stack_core.specs.Keys.{key_shown}
use Rattle.recorder.specs.Numbers.{names_by}
use Rattle.recorder.proofs.TellLemmas.{line_joined}
use Rattle.recorder.proofs.step_lines.tell_entry.Goals as goal

pub returns-clause-lines : goal.returns-clause-lines
returns-clause-lines c =
    line_joined (names_by c.args.counts.now.lines c.args.counts.now.mades) c.args.entry.now (key_shown c.key-key.result) _
    c.in_ok-told.told.line c.args.lines.now c.push_told.new.lines c.key-key.ensures (search rules) c.in_ok-told.ensures.line (search rules)
