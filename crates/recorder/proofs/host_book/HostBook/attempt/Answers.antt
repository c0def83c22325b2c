use Rattle.std.proofs.Common.{rules, subst, sym, ℕ}
use Rattle.recorder.specs.Books.{IsBook}
use Rattle.recorder.proofs.BookLemmas.{attempted_book, short_book}
use Rattle.recorder.proofs.host_book.HostBook.attempt.Goals as goal

pub invariant_of-self : goal.invariant_of-self
invariant_of-self c =
    short_book c.self.inside.core c.attempt.new.self c.args.tick c.args.thread c.self.inside.total c.self.invariant
    (search rules) c.in_err-answered.ensures.err

pub invariant_of-self-in-Some : goal.invariant_of-self-in-Some
invariant_of-self-in-Some c =
    subst (λ (n : ℕ). IsBook c.attempt.new.self n) (sym c.count_answer.ensures)
    (attempted_book c.self.inside.core c.attempt.new.self c.args.tick c.args.thread c.in-Some.answered
    c.self.inside.total c.self.invariant (search rules) (rw c.in-Some.is at c.in_ok-answered.ensures.some))
