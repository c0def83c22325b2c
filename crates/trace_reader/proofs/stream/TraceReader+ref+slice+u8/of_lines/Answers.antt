use Rattle.std.proofs.Common.{ℕ, List, Bor, None, Some, refl}
use Rattle.trace_reader.proofs.StreamLaw.{kept_alone}
use Rattle.trace_reader.proofs.stream.TraceReader+ref+slice+u8.of_lines.Goals as goal

pub returns-clause-lines : goal.returns-clause-lines
returns-clause-lines c =
    kept_alone {A = Bor (List ℕ)} (λ text. Some text.now)
    (record {
      alloc = c.args.alloc;
      text = c.new-2.result;
      kept = c.args.lines;
      version = c.args.header.now.version;
      before = 0;
      number = c.first_event_line.result;
      fault = None;
    }) _ refl c.new-2.ensures.end (0, c.first_event_line.result) c.args.lines
