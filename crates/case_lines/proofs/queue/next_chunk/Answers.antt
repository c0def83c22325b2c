use Rattle.std.proofs.Common.{append-nil, rules, ◌∙◌, refl}
use Rattle.std.proofs.lemmas.List.{nil_from_length}
use Rattle.case_lines.proofs.ChunkLemmas.{joined_none, joined_first, filled_first}
use Rattle.case_lines.proofs.queue.next_chunk.Goals as goal

pub returns-in-Some-clause-filled : goal.returns-in-Some-clause-filled
returns-in-Some-clause-filled c = (filled_first _ _ _ c.in-Some.ensures.items c.requires).1

pub returns-in-Some-clause-lines : goal.returns-in-Some-clause-lines
returns-in-Some-clause-lines c = joined_first _ _ _ _ c.in-Some.ensures.items

pub returns-in-Some-clause-empty : goal.returns-in-Some-clause-empty
returns-in-Some-clause-empty c = λ none. absurd ((filled_first _ _ _ c.in-Some.ensures.items c.requires).0 none)

pub returns-in-None-clause-lines : goal.returns-in-None-clause-lines
returns-in-None-clause-lines c =
    let none = nil_from_length c.args.middle.now.items (search rules) in
    rw (c.replace.ensures.value, c.replace.ensures.after, c.new.ensures, ← c.in-None.ensures.items, none, joined_none) (append-nil _ ∙ append-nil _)

pub returns-in-None-clause-empty : goal.returns-in-None-clause-empty
returns-in-None-clause-empty c = λ _.
    let none = nil_from_length c.args.middle.now.items (search rules) in
    rw (c.replace.ensures.after, c.new.ensures, ← c.in-None.ensures.items, none, joined_none) refl
