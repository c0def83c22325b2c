use Rattle.std.proofs.Common.{rules}
use Rattle.recorder.proofs.BookLemmas.{arrival_book, arrived_short_book}
use Rattle.recorder.proofs.host_book.HostBook.arrive.Goals as goal

pub invariant_of-self : goal.invariant_of-self
invariant_of-self c =
    arrived_short_book c.self.inside.core c.arrive.new.self c.args.tick c.args.flying c.self.inside.total
    (search rules) c.self.invariant (search rules) c.in_err-let_in.ensures.err

pub invariant_of-self-2 : goal.invariant_of-self-2
invariant_of-self-2 c =
    arrival_book c.self.inside.core c.arrive.new.self c.args.tick c.args.flying c.in_ok-let_in.let_in
    c.self.inside.total (search rules) c.self.invariant (search rules) c.in_ok-let_in.ensures.ok
