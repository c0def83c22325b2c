use Rattle.std.proofs.Common.{rules, ◌≢◌, ℕ, List, Option, Err, ◌++◌, replicate, subst}
use Rattle.checker.specs.declared.case.CaseFault.TheVariants as faults
use Rattle.answer_stream.specs.Left.{IsHeld}
use Rattle.answer_stream.proofs.Held.{long_gives, source_is}
use Rattle.answer_stream.proofs.long.check_held.Goals as goal

pub returns-in_default-answer : goal.returns-in_default-answer
returns-in_default-answer c text held =
    let unread : c.check_reader-answer.result.0 ≢ Err faults.Read = search rules in
    let goes = subst (λ (l : Option ℕ). IsHeld l c.args.held.now text) c.in-Some.is held in
    let all : List ℕ = c.args.held.now ++ replicate c.in-Some.size 120 in
    let source = source_is c.new.result c.chain-source.result all c.new.ensures.inner c.new.ensures.unread c.chain-source.ensures.bytes in
    long_gives c.in-Some.size c.args.held.now text _ _ goes source unread c.check_reader-answer.ensures.exact

pub returns-in_default-answer-2 : goal.returns-in_default-answer-2
returns-in_default-answer-2 c text held =
    let unread : c.check_reader-answer.result.0 ≢ Err faults.Read = search rules in
    let goes = subst (λ (l : Option ℕ). IsHeld l c.args.held.now text) c.in-Some.is held in
    let all : List ℕ = c.args.held.now ++ replicate c.in-Some.size 120 in
    let source = source_is c.new.result c.chain-source.result all c.new.ensures.inner c.new.ensures.unread c.chain-source.ensures.bytes in
    long_gives c.in-Some.size c.args.held.now text _ _ goes source unread c.check_reader-answer.ensures.exact
