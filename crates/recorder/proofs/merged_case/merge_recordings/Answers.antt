use Rattle.std.proofs.Common.{List, sym, subst}
use Rattle.case_forms.specs.declared.trace.Header.{Header}
use Rattle.case_forms.specs.declared.trace.Line.{Line}
use Rattle.case_forms.specs.Traces.{first_event_line}
use Rattle.spec_tcp.specs.Machine.{tcp}
use Rattle.spec_merge.specs.Keys.{Books}
use Rattle.spec_merge.specs.Recordings.{merged}
use Rattle.stack_core.specs.Told.{AllTold}
use Rattle.recorder.specs.Saying.{both_renumbered}
use Rattle.recorder.specs.Told.{AllOwnThreads, Tells}
use Rattle.recorder.proofs.HonestLemmas.{all_are_named}
use Rattle.recorder.proofs.MergeLemmas.{beside, beside_books, beside_small, own_threads, told_as}
use Rattle.recorder.proofs.ShiftLemmas.{both_shifts}
use Rattle.recorder.proofs.merged_case.merge_recordings.Goals as goal

pub tell-requires-clause-small : goal.tell-requires-clause-small
tell-requires-clause-small c =
    beside_small c.args.zero.now c.args.one.now
    (beside c.args.zero.now c.args.one.now c.requires.hosts c.requires.headers c.is_recording.ensures
    c.is_recording-2.ensures c.requires.few c.requires.above
    (rw c.in_default.is at c.in_ok-arrival_line.ensures.none).0
    (rw c.in_default.is at c.in_ok-arrival_line.ensures.none).1)

pub returns-in-Some-clause-beside : goal.returns-in-Some-clause-beside
returns-in-Some-clause-beside c =
    all_are_named c.args.zero.now c.args.one.now c.in-Some.arrival_line c.requires.hosts c.requires.headers
    (rw c.in-Some.is at c.in_ok-arrival_line.ensures.some)

pub returns-clause-told : goal.returns-clause-told
returns-clause-told c =
    told_as c.args.zero.now.header c.in_ok-recorded.recorded.trace c.in_ok-recorded.recorded.witness
    c.args.zero.now.entries c.args.one.now.entries c.requires.whole c.requires.slack c.requires.judged c.in_ok-recorded.ensures.header
    c.in_ok-recorded.ensures.version c.in_ok-recorded.ensures.lines
    c.in_ok-recorded.ensures.steps
    (beside_books c.books_grow.ensures.finished c.args.zero.now c.args.one.now
    (beside c.args.zero.now c.args.one.now c.requires.hosts c.requires.headers c.is_recording.ensures
    c.is_recording-2.ensures c.requires.few c.requires.above
    (rw c.in_default.is at c.in_ok-arrival_line.ensures.none).0
    (rw c.in_default.is at c.in_ok-arrival_line.ensures.none).1))

pub returns-clause-threads : goal.returns-clause-threads
returns-clause-threads c = subst (λ (lines : List Line). AllOwnThreads lines) (sym c.in_ok-recorded.ensures.lines)
    (own_threads (both_renumbered (first_event_line c.args.zero.now.header) c.args.zero.now.entries c.args.one.now.entries))

pub returns-clause-explains : goal.returns-clause-explains
returns-clause-explains c =
    let books =
    beside_books c.books_grow.ensures.finished c.args.zero.now c.args.one.now
    (beside c.args.zero.now c.args.one.now c.requires.hosts c.requires.headers c.is_recording.ensures
    c.is_recording-2.ensures c.requires.few c.requires.above
    (rw c.in_default.is at c.in_ok-arrival_line.ensures.none).0
    (rw c.in_default.is at c.in_ok-arrival_line.ensures.none).1) in
    let tells =
    told_as c.args.zero.now.header c.in_ok-recorded.recorded.trace c.in_ok-recorded.recorded.witness
    c.args.zero.now.entries c.args.one.now.entries c.requires.whole c.requires.slack c.requires.judged c.in_ok-recorded.ensures.header
    c.in_ok-recorded.ensures.version c.in_ok-recorded.ensures.lines c.in_ok-recorded.ensures.steps books in
    let same = c.in_ok-recorded.ensures.header in
    c.what_is_told_explains.ensures.books c.in_ok-recorded.recorded.trace c.in_ok-recorded.recorded.witness c.args.zero.now.entries c.args.one.now.entries
    (subst (λ (g : Header). Books (tcp g) (first_event_line g) c.args.zero.now.entries c.args.one.now.entries) (sym same) books)
    (subst (λ (g : Header). Tells c.in_ok-recorded.recorded.trace c.in_ok-recorded.recorded.witness
    (merged g (first_event_line g) c.args.zero.now.entries c.args.one.now.entries)) (sym same) tells)

pub returns-clause-shifts : goal.returns-clause-shifts
returns-clause-shifts c p q =
    both_shifts c.args.zero.now.header.version c.in_ok-recorded.recorded.witness.version
    (first_event_line c.args.zero.now.header) c.args.zero.now.entries c.args.one.now.entries
    c.in_ok-recorded.recorded.witness.steps
    c.in_ok-recorded.ensures.version c.in_ok-recorded.ensures.steps p
    (subst (λ (h : Header). AllTold h.version c.args.one.now.entries) (sym c.requires.headers) q)
