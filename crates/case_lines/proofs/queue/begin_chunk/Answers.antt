use Rattle.std.proofs.Common.{append-nil, rules, ◌∙◌}
use Rattle.case_lines.proofs.ChunkLemmas.{joined_push, filled_push}
use Rattle.case_lines.proofs.queue.begin_chunk.Goals as goal

pub returns-in-Ok-clause-filled : goal.returns-in-Ok-clause-filled
returns-in-Ok-clause-filled c =
    rw (c.in-Ok.ensures.items, c.replace.ensures.value, c.shrink.ensures)
    (filled_push _ _ c.requires (λ none. search rules))

pub returns-in-Ok-clause-lines : goal.returns-in-Ok-clause-lines
returns-in-Ok-clause-lines c =
    rw (c.in-Ok.ensures.items, c.replace.ensures.value, c.shrink.ensures, c.replace.ensures.after, c.new.ensures)
    (append-nil _ ∙ joined_push _ _)
