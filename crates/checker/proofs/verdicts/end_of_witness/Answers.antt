use Rattle.std.proofs.Common.{◌≡◌, [], ◌∙◌, subst, sym}
use Rattle.trace_reader.specs.TraceLeft.{lines_left}
use Rattle.spec_cases.specs.Cases.{late_at_end}
use Rattle.checker.specs.Ahead.{left_ahead, line_ahead}
use Rattle.checker.specs.Verdicts.{verdict_left}
use Rattle.checker.proofs.EndLemmas.{ends_when, some_left, none_left, next_number}
use Rattle.checker.proofs.verdicts.end_of_witness.Goals as goal

pub returns-in-Some-clause-tells : goal.returns-in-Some-clause-tells
returns-in-Some-clause-tells g c = λ header t s offered earlier ahead next f y counts.
    let all = c.in_ok-drain.ensures.all in
    ends_when header t (left_ahead g.A.Read.remaining c.args.lines.now) s ahead next c.args.window.now c.args.world.now offered earlier all.0 _ f y all.1
    (λ left. some_left c.args.window.now.held c.args.window.now.next (line_ahead c.args.lines.now)
    (lines_left g.A.Read.remaining c.args.lines.now.reader) all.0 c.in-Some.number _ earlier
    (sym c.first_left-left.ensures ∙ c.in-Some.is) (next_number c.args.window.now (line_ahead c.args.lines.now) c.requires.in_step) left
    ∙ sym c.left_over.ensures)

pub returns-in-None-clause-tells : goal.returns-in-None-clause-tells
returns-in-None-clause-tells g c = λ header t s offered earlier ahead next f y counts.
    let all = c.in_ok-drain.ensures.all in
    let is =
    subst (λ last. c.at_end.result ≡ verdict_left [] (late_at_end c.args.world.now.header last c.args.world.now.world) earlier)
    c.last_moment.ensures (c.at_end.ensures earlier counts) in
    ends_when header t (left_ahead g.A.Read.remaining c.args.lines.now) s ahead next c.args.window.now c.args.world.now offered earlier all.0 _ f y all.1
    (λ left. none_left c.args.window.now.held c.args.window.now.next (line_ahead c.args.lines.now)
    (lines_left g.A.Read.remaining c.args.lines.now.reader) all.0 _ earlier
    (sym c.first_left-left.ensures ∙ c.in-None.is) left ∙ sym is)
