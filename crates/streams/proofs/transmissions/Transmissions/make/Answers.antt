use Rattle.std.proofs.Common.{◌≡◌, ◌+◌, ◌++◌, ℕ, List, ap, sym, ◌∙◌, arith, length, length-append, min, replicate, append_assoc, ◌||◌, ◌&&◌, nat_le, nat_lt}
use Rattle.std.proofs.lemmas.List.{length-replicate}
use Rattle.streams.specs.declared.transmission.Transmission.{Transmission}
use Rattle.streams.specs.declared.runs.Run.{Run}
use Rattle.streams.specs.Transmissions.{made, once}
use Rattle.streams.specs.Marks.{is_marked, marked}
use Rattle.streams.specs.Views.{expand}
use Rattle.streams.proofs.MarkLemmas.{below_later}
use Rattle.streams.proofs.MadeLemmas.{made_marked, marked-cong, on_err}
use Rattle.streams.proofs.transmissions.Transmissions.make.Goals as goal

pub invariant_of-self-in_err-add : goal.invariant_of-self-in_err-add
invariant_of-self-in_err-add c = (
  c.self.invariant.0 ∙ ap (λ (runs : List Run). c.self.inside.gone + length (expand runs))
      (sym c.reserve.ensures.items),
  c.self.invariant.1,
  c.add.ensures.below c.self.inside.end (omega arith) c.self.invariant.2,
)

pub returns-in_err-add-clause-err : goal.returns-in_err-add-clause-err
returns-in_err-add-clause-err c =
    on_err c.from_residual-in_err-add.result
    (ap (λ (runs : List Run). marked (is_marked c.add.new.self) 0 (replicate c.self.inside.gone (once 0) ++ expand runs)) c.reserve.ensures.items
    ∙ marked-cong (is_marked c.add.new.self) (is_marked c.self.inside.marks) 0
    (replicate c.self.inside.gone (once 0) ++ expand c.self.inside.runs.items)
    (λ p low high. c.in_err-add.ensures.err p)
    ∙ c.self.view_is)

pub invariant_of-self-2 : goal.invariant_of-self-2
invariant_of-self-2 c =
    let end = c.self.invariant.0 in
    let bound = c.self.invariant.1 in
    let fresh = c.saturating_sub-fresh.ensures in
    let grown =
    ap length (c.grow.ensures ∙ ap
    (λ (runs : List Run). expand runs ++ replicate c.saturating_sub-fresh.result (once c.args.moment))
    c.reserve.ensures.items) in
    let both = length-append (expand c.self.inside.runs.items) (replicate c.saturating_sub-fresh.result (once c.args.moment)) in
    let one = length-replicate c.saturating_sub-fresh.result (once c.args.moment) in (
      omega arith,
      omega arith,
      c.add.ensures.below (c.self.inside.end + c.saturating_sub-fresh.result) (omega arith)
          (below_later c.self.inside.marks c.self.inside.end (c.self.inside.end + c.saturating_sub-fresh.result)
          (omega arith) c.self.invariant.2),
    )

pub returns-clause-ok : goal.returns-clause-ok
returns-clause-ok c =
    let end = c.self.invariant.0 in
    let front = length-append (replicate c.self.inside.gone (once 0)) (expand c.self.inside.runs.items) in
    let one = length-replicate c.self.inside.gone (once 0) in
    let least : c.min.result ≡ min c.self.inside.end (c.args.position + c.args.count) = omega arith in
    made_marked c.self.inside.marks c.add.new.self c.args.position c.args.count c.args.moment c.saturating_sub-fresh.result c.self.inside.end
    (replicate c.self.inside.gone (once 0) ++ expand c.self.inside.runs.items) (replicate c.self.inside.gone (once 0) ++ expand c.grow.new.runs.items)
    (omega arith) c.self.invariant.2 (omega arith)
    (λ p. c.in_ok-add.ensures.marked p ∙ ap (λ (n : ℕ). is_marked c.self.inside.marks p || (nat_le c.args.position p && nat_lt p n)) least)
    (ap (λ (all : List Transmission). replicate c.self.inside.gone (once 0) ++ all)
    (c.grow.ensures ∙ ap (λ (runs : List Run).
    expand runs ++ replicate c.saturating_sub-fresh.result (once c.args.moment)) c.reserve.ensures.items)
    ∙ sym (append_assoc (replicate c.self.inside.gone (once 0)) (expand c.self.inside.runs.items)
    (replicate c.saturating_sub-fresh.result (once c.args.moment))))
    ∙ ap (λ (all : List Transmission). made all c.args.position c.args.count c.args.moment) c.self.view_is
