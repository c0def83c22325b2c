use Rattle.std.proofs.Common.{ap, rules}
use Rattle.counted.specs.Buffered.{unread_in, unread_if}
use Rattle.counted.proofs.BufferLines.{copied}
use Rattle.counted.proofs.ends.CountedRead.read.Goals as goal

pub returns-clause-bytes : goal.returns-clause-bytes
returns-clause-bytes g c =
    let gave = c.give_to.ensures in
    copied _ _ (unread_if c.args.self.now.buffer) (unread_in c.in-Some.buffer) (unread_in c.give_to.new.self) c.give_to.new.buf c.give_to.result _
    (ap g.R.Read.remaining c.may_call.ensures.inner) (ap unread_if c.in-Some.is) gave.count gave.bytes gave.unread (search rules) c.give_to.auto.buf
