use Rattle.trace_reader.proofs.LinesText.{line_printed}
use Rattle.trace_reader.proofs.printer.push_line.Goals as goal

pub returns : goal.returns
returns c =
    line_printed c.args.line.now c.args.out.now.items c.push_number.new.out.items c.push_space.new.out.items
    c.push_number-2.new.out.items c.push_event.new.out.items c.push_end.new.out.items c.in_ok-push_number.ensures
    c.in_ok-push_space.ensures
    (rw c.from.ensures at c.in_ok-push_number-2.ensures) c.in_ok-push_event.ensures c.in_ok-push_end.ensures
