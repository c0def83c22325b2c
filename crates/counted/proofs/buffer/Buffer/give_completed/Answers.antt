use Rattle.std.proofs.Common.{arith}
use Rattle.counted.specs.Buffered.{line_in, unread_in}
use Rattle.counted.proofs.BufferLines.{given_some, given_none}
use Rattle.counted.proofs.buffer.Buffer.give_completed.Goals.{else-before-eq0-via-then-before-eq0+else-stop-eq0, else-before-eq0-via-else-before-eq0}
use Rattle.counted.proofs.buffer.Buffer.give_completed.Goals as goal

pub returns-then-stop-eq0-clause-line : goal.returns-then-stop-eq0-clause-line
returns-then-stop-eq0-clause-line g c =
    let made = c.drop_given.ensures in
    let gave = c.give.ensures in
    given_none c.args.most c.in_ok-before.before c.in_ok-before.stop c.drop_given.new.self.next
    (g.B.Read.remaining c.args.end.now.inner) (g.B.Read.remaining c.complete.new.self.inner) (unread_in c.args.self.now)
    c.drop_given.new.self.bytes.items c.complete.new.line.items (line_in c.give.new.self) (unread_in c.give.new.self)
    c.in_ok-before.ensures.line made.bytes made.front gave.line gave.unread c.if-before-eq0.true c.if-stop-eq0.true

pub returns-clause-line : goal.returns-clause-line
returns-clause-line g c =
    let made = c.drop_given.ensures in
    let gave = c.give.ensures in
    given_some c.args.most c.in_ok-before.before c.in_ok-before.stop c.drop_given.new.self.next
    (g.B.Read.remaining c.args.end.now.inner) (g.B.Read.remaining c.complete.new.self.inner) (unread_in c.args.self.now)
    c.drop_given.new.self.bytes.items c.complete.new.line.items (line_in c.give.new.self) (unread_in c.give.new.self)
    c.in_ok-before.ensures.line made.bytes made.front gave.line gave.unread
    (elim c.else-before-eq0.branch [
      | else-before-eq0-via-then-before-eq0+else-stop-eq0 w ↦ omega arith
      | else-before-eq0-via-else-before-eq0 w ↦ omega arith
    ])
