use Rattle.std.proofs.Common.{rules, ◌≡◌, ◌+◌}
use Rattle.answer_stream.specs.declared.state.State.TheVariants.{Open}
use Rattle.answer_stream.proofs.Held.{all_held}
use Rattle.answer_stream.proofs.Taking.{after_case, after_nothing, at_case}
use Rattle.answer_stream.proofs.source.Source.take_at_hand.Goals as goal

pub invariant_of-self-clause-left : goal.invariant_of-self-clause-left
invariant_of-self-clause-left g c =
    let is_open : c.args.self.now.state ≡ Open = search rules in
    let more : c.in_ok-taken.taken ≡ c.args.self.now.taken + 1 = search rules in
    rw more (after_case _ _ _ _ _ _ is_open (c.next_case_at_hand.ensures.case (search rules)) c.args.self.now.left)

pub invariant_of-self-in-Ok-false-clause-left : goal.invariant_of-self-in-Ok-false-clause-left
invariant_of-self-in-Ok-false-clause-left g c =
    let is_open : c.args.self.now.state ≡ Open = search rules in
    after_nothing _ _ _ _ _ is_open (c.next_case_at_hand.ensures.left (search rules)) c.args.self.now.left

pub returns-in-Ok-true : goal.returns-in-Ok-true
returns-in-Ok-true g c =
    let is_open : c.args.self.now.state ≡ Open = search rules in
    all_held _ _ _ (at_case _ _ _ _ _ _ is_open (c.next_case_at_hand.ensures.case (search rules)) c.args.self.now.left)
