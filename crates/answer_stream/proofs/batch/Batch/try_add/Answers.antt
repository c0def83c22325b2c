use Rattle.std.proofs.Common.{rules, ◌≡◌, ◌+◌}
use Rattle.answer_stream.specs.Told.{Gathers}
use Rattle.answer_stream.proofs.Telling.{one_continues}
use Rattle.answer_stream.proofs.batch.Batch.try_add.Goals as goal

pub invariant_of-self-then-is_err : goal.invariant_of-self-then-is_err
invariant_of-self-then-is_err g c =
    let lines : c.gather.new.gathered.lines.items ≡ c.args.self.now.gathered.lines.items = search rules in
    let greatest : c.gather.new.gathered.greatest ≡ c.args.self.now.gathered.greatest = search rules in
    record { told = rw (lines, greatest) c.args.self.now.told }

pub invariant_of-self-2 : goal.invariant_of-self-2
invariant_of-self-2 g c =
    let done = c.in_ok-done.done in
    let old = c.args.self.now.gathered in
    let number : done.number ≡ c.args.self.now.next = search rules in
    let more : c.in_ok-next.next ≡ c.args.self.now.next + 1 = search rules in
    let gathers : Gathers done.answer old.lines.items old.greatest c.gather.new.gathered.lines.items c.gather.new.gathered.greatest = search rules in
    record { told = rw more (one_continues _ _ _ _ _ _ _ _ c.args.self.now.told (rw (← number) done.answers) gathers) }
