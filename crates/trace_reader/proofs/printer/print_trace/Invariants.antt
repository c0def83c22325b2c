use Rattle.std.proofs.Common.{◌≡◌, ◌++◌, take}
use Rattle.std.specs.List.{AllByRecursion}
use Rattle.trace_reader.specs.Printable.{IsInMemory}
use Rattle.trace_reader.specs.Printed.{header_text, lines_text}
use Rattle.trace_reader.proofs.printer.print_trace.Given as goal

-- the header and the lines so far were written, and these lines are as their types say
abbrev pub invariant-loop-line : goal.invariant-loop-line
invariant-loop-line l = record {
  text : l.out.items ≡ header_text l.fn.trace.header ++ lines_text (take l.line-index l.line-items);
  memory : AllByRecursion IsInMemory (take l.line-index l.line-items);
}
