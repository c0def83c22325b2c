use Rattle.std.proofs.Common.{rules}
use Rattle.checker.proofs.PrintedLemmas.{case_in_memory, yes_in_memory}
use Rattle.checker.proofs.printed.print_case.Goals as goal

pub returns-clause-judged : goal.returns-clause-judged
returns-clause-judged c =
    case_in_memory c.args.trace.now c.args.witness.now c.push_witness.new.out.items
    (search rules) c.in_ok-text.ensures.memory c.in_ok-push_witness.ensures.memory

pub returns-clause-yes : goal.returns-clause-yes
returns-clause-yes c =
    yes_in_memory c.args.trace.now c.args.witness.now c.push_witness.new.out.items
    (search rules) c.in_ok-text.ensures.memory c.in_ok-push_witness.ensures.memory
