use Rattle.std.proofs.Common.{ℕ, subst}
use Rattle.spec_network.specs.HostSteps.{start}
use Rattle.spec_merge.specs.Keys.{Numbered}
use Rattle.spec_merge.proofs.Growing.{end_more, keys_more, numbered_more, run_more}
use Rattle.spec_tcp.specs.Machine.{tcp}
use Rattle.spec_merge.proofs.Lines.{next_is_after, next_more}
use Rattle.spec_merge.proofs.laws.books_grow.Goals as goal

pub returns : goal.returns
returns c = record {
  grows = λ h me first old new kept join. record {
    runs = run_more (tcp h) me (start (tcp h)) old new kept.runs join.runs;
    numbered = numbered_more (tcp h) first old new kept.numbered (subst (λ (n : ℕ). Numbered (tcp h) n new) (next_is_after h first old) join.numbered);
    keys = keys_more (tcp h) me old new kept.keys join.keys join.above;
  };
  world = λ h me old new. end_more (tcp h) me (start (tcp h)) old new;
  line = λ h first old new. next_more h first old new;
  finished = λ h first zeros ones kept0 kept1 named0 named1. (
    record { runs = kept0.runs; numbered = kept0.numbered; keys = kept0.keys; arrivals = named0 },
    record { runs = kept1.runs; numbered = kept1.numbered; keys = kept1.keys; arrivals = named1 },
  );
}
