use Rattle.std.proofs.Common.{◌≡◌, ◌+◌, ◌-◌, ◌^◌, ◌++◌, arith, ap, sym, ◌∙◌, List, Option}
use Rattle.streams.specs.declared.cell.Cell.{Cell}
use Rattle.streams.specs.Forgetting.{forgotten}
use Rattle.streams.specs.Received.{Receiving, end_kept, kept, next, part_kept}
use Rattle.streams.specs.Views.{gone_cells}
use Rattle.streams.proofs.Writes.{length_front}
use Rattle.streams.proofs.Gone.{front_gone, keep_long, view_faded}
use Rattle.streams.proofs.Keeping.{kept_gone, part_short}
use Rattle.streams.proofs.receive.ReceiveBuffer.keep.Goals as goal

pub overflow_sub-at : goal.overflow_sub-at
overflow_sub-at c = let all = front_gone c.self.inside.gone c.self.inside.cells in let same = ap (λ (r : Receiving). next r) c.self.view_is in omega arith

pub keep-requires-clause-at : goal.keep-requires-clause-at
keep-requires-clause-at c = let all = front_gone c.self.inside.gone c.self.inside.cells in
    let same = ap (λ (r : Receiving). next r) c.self.view_is in omega arith

pub invariant_of-self-2 : goal.invariant_of-self-2
invariant_of-self-2 c =
    let at = c.args.position - c.self.inside.gone in
    let all = front_gone c.self.inside.gone c.self.inside.cells in
    let same = ap (λ (r : Receiving). next r) c.self.view_is in
    let most = length_front c.self.inside.cells in
    rw c.in_ok-keep.ensures.ok (
      let short = part_short c.self.inside.cells at c.args.bytes.now in
          keep_long c.self.inside.gone c.args.position (2 ^ 63) c.self.inside.cells
          (part_kept c.self.inside.cells at c.args.bytes.now)
          (end_kept c.self.inside.cells at c.args.bytes.now c.args.fin) (omega arith) (omega arith) (omega arith),
      λ none. let empty = c.self.invariant.1 none in absurd (omega arith),
    )

pub returns-clause-ok : goal.returns-clause-ok
returns-clause-ok c =
    let at = c.args.position - c.self.inside.gone in
    let all = front_gone c.self.inside.gone c.self.inside.cells in
    let same = ap (λ (r : Receiving). next r) c.self.view_is in
    let there : c.self.inside.gone + at ≡ c.args.position = omega arith in
    rw c.in_ok-keep.ensures.ok
    (sym (kept_gone c.self.inside.gone at c.self.inside.cells c.args.bytes.now c.args.fin c.self.invariant.1)
    ∙ (ap (λ n. kept (record {
      taken = gone_cells c.self.inside.gone ++ c.self.inside.cells;
      delivered = c.self.inside.gone - 1;
    }) n c.args.bytes.now c.args.fin) there
    ∙ ap (λ (r : Receiving). kept r c.args.position c.args.bytes.now c.args.fin) c.self.view_is))

pub returns-clause-faded : goal.returns-clause-faded
returns-clause-faded c =
    let all = front_gone c.self.inside.gone c.self.inside.cells in
    let same = ap (λ (r : Receiving). next r) c.self.view_is in
    let most = length_front c.self.inside.cells in
    ap (λ (xs : List (Option Cell)). let r : Receiving = record { taken = xs; delivered = c.self.inside.gone - 1 } in r)
    (view_faded c.self.inside.gone c.keep.new.self (λ none. let empty = c.self.invariant.1 none in absurd (omega arith)))

pub returns-then-not-fin-clause-faded : goal.returns-then-not-fin-clause-faded
returns-then-not-fin-clause-faded c =
    ap forgotten (sym c.self.view_is)
    ∙ (ap (λ (xs : List (Option Cell)). let r : Receiving = record { taken = xs; delivered = c.self.inside.gone - 1 } in r)
    (view_faded c.self.inside.gone c.self.inside.cells c.self.invariant.1)
    ∙ c.self.view_is)
