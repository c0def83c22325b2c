use Rattle.std.proofs.Common.{rules, ◌≡◌, ◌∙◌, List, length, sym, subst, ap, Ok}
use Rattle.case_forms.specs.declared.trace.Line.{Line}
use Rattle.case_lines.specs.Lines.{Follows}
use Rattle.case_lines.proofs.RecordLemmas.{longer, lens_of_are}
use Rattle.case_lines.proofs.chunk.Chunk.push_spelled.Goals as goal

pub overflow_sub-self : goal.overflow_sub-self
overflow_sub-self c =
    let follows = subst (λ (lines : List Line). Follows lines c.args.number) (sym c.self.view_is) c.requires.follows in
    let s = c.keep_spelled.ensures.kept (c.in_ok-keep_spelled.was ∙ ap Ok c.if-not-branch.false) in
    let lens = lens_of_are c.args.kept.event s.0 s.1.none in
    let more = longer _ _ _ _ _ _ _ _ c.args.kept _ _ c.self.invariant follows c.requires.number lens in
    let within = more.within in
    search rules

pub invariant_of-self-2 : goal.invariant_of-self-2
invariant_of-self-2 c =
    let follows = subst (λ (lines : List Line). Follows lines c.args.number) (sym c.self.view_is) c.requires.follows in
    let s = c.keep_spelled.ensures.kept (c.in_ok-keep_spelled.was ∙ ap Ok c.if-not-branch.false) in
    let lens = lens_of_are c.args.kept.event s.0 s.1.none in
    let more = longer _ _ _ _ _ _ _ _ c.args.kept _ _ c.self.invariant follows c.requires.number lens in
    let len : c.len.result ≡ length c.self.inside.records.items = search rules in
    rw (len, c.push_reserved.ensures.items, c.reserve.ensures.items, s.2, s.3) more.counted

pub returns-clause-kept : goal.returns-clause-kept
returns-clause-kept c = λ e.
    let follows = subst (λ (lines : List Line). Follows lines c.args.number) (sym c.self.view_is) c.requires.follows in
    let s = c.keep_spelled.ensures.kept (c.in_ok-keep_spelled.was ∙ ap Ok c.if-not-branch.false) in
    let lens = lens_of_are c.args.kept.event s.0 s.1.none in
    let more = longer _ _ _ _ _ _ _ _ c.args.kept _ _ c.self.invariant follows c.requires.number lens in
    let len : c.len.result ≡ length c.self.inside.records.items = search rules in
    (s.0, s.1, rw (len, c.push_reserved.ensures.items, c.reserve.ensures.items, s.2, s.3) (more.lines ∙ search rules))
