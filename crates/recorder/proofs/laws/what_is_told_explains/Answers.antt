use Rattle.case_forms.specs.Traces.{first_event_line}
use Rattle.spec_merge.specs.Recordings.{merged}
use Rattle.recorder.proofs.ToldLemmas.{told_explains}
use Rattle.recorder.proofs.laws.what_is_told_explains.Goals as goal

pub returns-clause-steps : goal.returns-clause-steps
returns-clause-steps c = told_explains

pub returns-clause-books : goal.returns-clause-books
returns-clause-books c =
    λ t w zeros ones books told. told_explains t w (merged t.header (first_event_line t.header) zeros ones)
    (c.merged_books_are_a_run.ensures t.header (first_event_line t.header) zeros ones books) told

pub returns-clause-yes : goal.returns-clause-yes
returns-clause-yes c =
    λ t w zeros ones books told. (c.explained_is_yes.ensures t w).1
    (told_explains t w (merged t.header (first_event_line t.header) zeros ones)
    (c.merged_books_are_a_run.ensures t.header (first_event_line t.header) zeros ones books) told)
