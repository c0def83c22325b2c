use Rattle.std.proofs.Common.{rules}
use Rattle.recorder.proofs.BookLemmas.{begun_book}
use Rattle.recorder.proofs.host_book.HostBook.begin.Goals as goal

pub invariant_of-self-2 : goal.invariant_of-self-2
invariant_of-self-2 c =
    begun_book c.self.inside.core c.begin.new.self c.args.tick c.args.thread c.args.call.now c.self.inside.total
    c.self.invariant (search rules) c.in_ok-begin.ensures.ok
