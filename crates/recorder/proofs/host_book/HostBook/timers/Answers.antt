use Rattle.std.proofs.Common.{rules}
use Rattle.recorder.proofs.BookLemmas.{timed_book}
use Rattle.recorder.proofs.host_book.HostBook.timers.Goals as goal

pub invariant_of-self-2 : goal.invariant_of-self-2
invariant_of-self-2 c =
    timed_book c.self.inside.core c.timers.new.self c.args.tick c.in_ok-found.found c.self.inside.total c.self.invariant
    (search rules) c.in_ok-found.ensures.ok
