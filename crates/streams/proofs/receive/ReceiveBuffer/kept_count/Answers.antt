use Rattle.std.proofs.Common.{◌≡◌, ◌+◌, ◌-◌, ◌++◌, ◌∙◌, ℕ, List, length, ap, sym, arith}
use Rattle.streams.specs.declared.cell.Cell.{Cell}
use Rattle.streams.specs.Received.{Receiving, body_kept, next}
use Rattle.streams.specs.Views.{gone_cells}
use Rattle.streams.proofs.Gone.{front_gone}
use Rattle.streams.proofs.Keeping.{body_kept_gone, body_short}
use Rattle.streams.proofs.receive.ReceiveBuffer.kept_count.Goals as goal

pub overflow_sub-at : goal.overflow_sub-at
overflow_sub-at c = let all = front_gone c.self.inside.gone c.self.inside.cells in let same = ap (λ (r : Receiving). next r) c.self.view_is in omega arith

pub kept_count-requires-clause-at : goal.kept_count-requires-clause-at
kept_count-requires-clause-at c = let all = front_gone c.self.inside.gone c.self.inside.cells in
    let same = ap (λ (r : Receiving). next r) c.self.view_is in omega arith

pub returns-clause-value : goal.returns-clause-value
returns-clause-value c =
    let gone = c.self.inside.gone in
    let at = c.args.position - gone in
    let all = front_gone gone c.self.inside.cells in
    let same = ap (λ (r : Receiving). next r) c.self.view_is in
    let there : gone + at ≡ c.args.position = omega arith in
    c.kept_count.ensures
    ∙ ap (λ (cs : List Cell). length cs)
    (sym (body_kept_gone gone at c.self.inside.cells c.args.bytes.now c.args.fin c.self.invariant.1)
    ∙ (ap (λ (n : ℕ). body_kept (gone_cells gone ++ c.self.inside.cells) n c.args.bytes.now c.args.fin) there
    ∙ ap (λ (r : Receiving). body_kept r.taken c.args.position c.args.bytes.now c.args.fin) c.self.view_is))

pub returns-clause-small : goal.returns-clause-small
returns-clause-small c =
    let at = c.args.position - c.self.inside.gone in
    let most = body_short c.self.inside.cells at c.args.bytes.now c.args.fin in
    let is = c.kept_count.ensures in
    omega arith
