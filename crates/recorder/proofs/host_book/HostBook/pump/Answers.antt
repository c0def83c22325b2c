use Rattle.std.proofs.Common.{rules}
use Rattle.recorder.proofs.BookLemmas.{maybe_pumped_book, pumped_short_book}
use Rattle.recorder.proofs.host_book.HostBook.pump.Goals as goal

pub invariant_of-self : goal.invariant_of-self
invariant_of-self c =
    pumped_short_book c.self.inside.core c.pump.new.self c.args.tick c.self.inside.total c.self.invariant
    (search rules) c.in_err-flying.ensures.err

pub invariant_of-self-2 : goal.invariant_of-self-2
invariant_of-self-2 c =
    maybe_pumped_book c.self.inside.core c.pump.new.self c.args.tick c.in_ok-flying.flying c.self.inside.total
    c.self.invariant (search rules) c.in_ok-flying.ensures.some c.in_ok-flying.ensures.none
