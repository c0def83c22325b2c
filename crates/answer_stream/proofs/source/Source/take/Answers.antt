use Rattle.std.proofs.Common.{rules, ◌≡◌, ◌+◌, ◌∙◌, ap, Ok}
use Rattle.counted.specs.Counting.{left_of}
use Rattle.answer_stream.specs.declared.state.State.TheVariants.{Open}
use Rattle.answer_stream.proofs.Held.{all_held, long_held}
use Rattle.answer_stream.proofs.Taking.{after_case, after_last, after_none, at_case, at_last}
use Rattle.answer_stream.proofs.source.Source.take.Goals as goal

pub invariant_of-self-in-Ok-Case-clause-left : goal.invariant_of-self-in-Ok-Case-clause-left
invariant_of-self-in-Ok-Case-clause-left g c =
    let is_open : c.args.self.now.state ≡ Open = search rules in
    let more : c.in-Some.taken ≡ c.args.self.now.taken + 1 = search rules in
    rw more
    (after_case _ _ _ _ _ _ is_open (c.next_case.ensures.case (c.in-Ok-Case.is ∙ ap Ok c.in-Ok-Case.field-0-is)) c.args.self.now.left)

pub invariant_of-self-in-Ok-Last-clause-left : goal.invariant_of-self-in-Ok-Last-clause-left
invariant_of-self-in-Ok-Last-clause-left g c =
    let is_open : c.args.self.now.state ≡ Open = search rules in
    let more : c.in-Some.taken ≡ c.args.self.now.taken + 1 = search rules in
    rw more
    (after_last _ _ _ (left_of g.B.Read.remaining c.next_case.new.r) _ _ is_open
    (c.next_case.ensures.last (c.in-Ok-Last.is ∙ ap Ok c.in-Ok-Last.field-0-is)) c.args.self.now.left)

pub invariant_of-self-in-Ok-Nothing-clause-left : goal.invariant_of-self-in-Ok-Nothing-clause-left
invariant_of-self-in-Ok-Nothing-clause-left g c =
    let is_open : c.args.self.now.state ≡ Open = search rules in
    after_none _ _ _ (left_of g.B.Read.remaining c.next_case.new.r) _ is_open
    (c.next_case.ensures.nothing (c.in-Ok-Nothing.is ∙ ap Ok c.in-Ok-Nothing.field-0-is)) c.args.self.now.left

pub returns-in-Ok-Case : goal.returns-in-Ok-Case
returns-in-Ok-Case g c =
    let is_open : c.args.self.now.state ≡ Open = search rules in
    all_held _ _ _ (at_case _ _ _ _ _ _ is_open (c.next_case.ensures.case (c.in-Ok-Case.is ∙ ap Ok c.in-Ok-Case.field-0-is)) c.args.self.now.left)

pub returns-in-Ok-Last : goal.returns-in-Ok-Last
returns-in-Ok-Last g c =
    let is_open : c.args.self.now.state ≡ Open = search rules in
    all_held _ _ _ (at_last _ _ _ _ _ is_open (c.next_case.ensures.last (c.in-Ok-Last.is ∙ ap Ok c.in-Ok-Last.field-0-is)) c.args.self.now.left)

pub invariant_of-self-in-Ok-LongCase-clause-left : goal.invariant_of-self-in-Ok-LongCase-clause-left
invariant_of-self-in-Ok-LongCase-clause-left g c =
    let is_open : c.args.self.now.state ≡ Open = search rules in
    let more : c.in-Some.taken ≡ c.args.self.now.taken + 1 = search rules in
    let long = c.next_case.ensures.long _ (c.in-Ok-LongCase.is ∙ ap Ok c.in-Ok-LongCase.field-0-is) in
    rw more (after_case _ _ _ _ _ _ is_open long.2 c.args.self.now.left)

pub invariant_of-self-in-Ok-LongLast-clause-left : goal.invariant_of-self-in-Ok-LongLast-clause-left
invariant_of-self-in-Ok-LongLast-clause-left g c =
    let is_open : c.args.self.now.state ≡ Open = search rules in
    let more : c.in-Some.taken ≡ c.args.self.now.taken + 1 = search rules in
    let long = c.next_case.ensures.long_last _ (c.in-Ok-LongLast.is ∙ ap Ok c.in-Ok-LongLast.field-0-is) in
    rw more (after_last _ _ _ (left_of g.B.Read.remaining c.next_case.new.r) _ _ is_open long.2 c.args.self.now.left)

pub returns-in-Ok-LongCase : goal.returns-in-Ok-LongCase
returns-in-Ok-LongCase g c =
    let is_open : c.args.self.now.state ≡ Open = search rules in
    let long = c.next_case.ensures.long _ (c.in-Ok-LongCase.is ∙ ap Ok c.in-Ok-LongCase.field-0-is) in
    long_held _ _ _ _ _ long.1 (at_case _ _ _ _ _ _ is_open long.2 c.args.self.now.left)

pub returns-in-Ok-LongLast : goal.returns-in-Ok-LongLast
returns-in-Ok-LongLast g c =
    let is_open : c.args.self.now.state ≡ Open = search rules in
    let long = c.next_case.ensures.long_last _ (c.in-Ok-LongLast.is ∙ ap Ok c.in-Ok-LongLast.field-0-is) in
    long_held _ _ _ _ _ long.1 (at_last _ _ _ _ _ is_open long.2 c.args.self.now.left)
