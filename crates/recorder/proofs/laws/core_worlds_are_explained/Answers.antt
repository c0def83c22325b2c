use Rattle.std.proofs.Common.{sym, subst, ap, ◌∙◌}
use Rattle.case_forms.specs.Traces.{first_event_line}
use Rattle.case_forms.specs.declared.calls.Host.TheVariants.{Zero, One}
use Rattle.case_forms.specs.declared.trace.Header.{Header}
use Rattle.spec_tcp.specs.Machine.{tcp}
use Rattle.spec_merge.specs.Keys.{Books}
use Rattle.spec_merge.specs.Recordings.{merged}
use Rattle.stack_core.specs.CoreWorlds.{entries_of}
use Rattle.stack_core.specs.Recordings.{Recorded}
use Rattle.recorder.specs.Told.{Tells}
use Rattle.recorder.proofs.laws.core_worlds_are_explained.Goals as goal

pub returns-clause-books : goal.returns-clause-books
returns-clause-books c = c.core_worlds_are_books.ensures.books

pub returns-clause-named : goal.returns-clause-named
returns-clause-named c = λ h events cores w n.
    let hosts = c.core_worlds_are_books.ensures.hosts h events cores w in
    let header_zero = ap (λ (r : Recorded). r.header) hosts.0 in
    let header_one = ap (λ (r : Recorded). r.header) hosts.1 in
    c.books_have_no_stranger.ensures cores.zero.core.recorded cores.one.core.recorded
    (ap (λ (r : Recorded). r.me) hosts.0, ap (λ (r : Recorded). r.me) hosts.1)
    (header_zero ∙ sym header_one)
    (subst (λ (g : Header). Books (tcp g) (first_event_line g) (entries_of Zero cores) (entries_of One cores))
    (sym header_zero) (c.core_worlds_are_books.ensures.books h events cores w))
    n

pub returns-clause-explained : goal.returns-clause-explained
returns-clause-explained c = λ h events cores world t w same told.
    c.what_is_told_explains.ensures.books t w (entries_of Zero cores) (entries_of One cores)
    (subst (λ (g : Header). Books (tcp g) (first_event_line g) (entries_of Zero cores) (entries_of One cores))
    (sym same) (c.core_worlds_are_books.ensures.books h events cores world))
    (subst (λ (g : Header). Tells t w (merged g (first_event_line g) (entries_of Zero cores) (entries_of One cores))) (sym same) told)

pub returns-clause-yes : goal.returns-clause-yes
returns-clause-yes c = λ h events cores world t w same told.
    c.what_is_told_explains.ensures.yes t w (entries_of Zero cores) (entries_of One cores)
    (subst (λ (g : Header). Books (tcp g) (first_event_line g) (entries_of Zero cores) (entries_of One cores))
    (sym same) (c.core_worlds_are_books.ensures.books h events cores world))
    (subst (λ (g : Header). Tells t w (merged g (first_event_line g) (entries_of Zero cores) (entries_of One cores))) (sym same) told)
