use Rattle.std.proofs.Common.{subst}
use Rattle.line_fields.specs.Reading.{Gives}
use Rattle.trace_reader.proofs.TraceLaw.{is_found, is_trace, trace_again}
use Rattle.trace_reader.proofs.from_bytes.read_trace.Goals as goal

pub returns-clause-found : goal.returns-clause-found
returns-clause-found c = is_found c.args.text.now c.read.result c.read.ensures

pub returns-clause-only : goal.returns-clause-only
returns-clause-only c = λ t spelled. subst (λ f. Gives (λ t. t) c.read.result f) (trace_again c.args.text.now t spelled) c.read.ensures

pub returns-clause-recorded : goal.returns-clause-recorded
returns-clause-recorded c = is_trace c.args.text.now c.read.result c.read.ensures
