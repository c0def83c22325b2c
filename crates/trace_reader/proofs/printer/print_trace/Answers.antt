use Rattle.std.proofs.Common.{subst}
use Rattle.trace_reader.specs.Printable.{IsInMemory}
use Rattle.trace_reader.specs.Printed.{header_text}
use Rattle.trace_reader.proofs.LinesText.{writes_more}
use Rattle.trace_reader.proofs.PrintableLaw.{all_more}
use Rattle.trace_reader.proofs.printer.print_trace.Goals as goal

pub loop-line-preserved : goal.loop-line-preserved
loop-line-preserved c =
    let xs = c.as_slice-line-items.result.now in record {
      text = writes_more (header_text c.args.trace.now.header) xs c.loop-line.line-index _ c.line-item.result
          c.loop-line.out.items c.push_line.new.out.items c.loop-line-test.true c.line-item.is
          c.loop-line.invariant.text c.in_ok-push_line.ensures;
      memory =
          all_more IsInMemory xs c.loop-line.line-index _ c.loop-line-test.true c.loop-line.invariant.memory
          (subst IsInMemory c.line-item.is c.line_in_memory.ensures);
    }
