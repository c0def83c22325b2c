use Rattle.std.proofs.Common.{◌∙◌, ap, sym, subst, nat_le, ℕ}
use Rattle.streams.specs.Pieces.{built_again, cut, joined_if}
use Rattle.streams.proofs.MadeLemmas.{on_err}
use Rattle.streams.proofs.PieceMakes.{IsRebuilt, is_rebuilt, kept_once, kept_twice}
use Rattle.streams.proofs.piece.make.Goals as goal

pub returns-in_err-cut-2-clause-err : goal.returns-in_err-cut-2-clause-err
returns-in_err-cut-2-clause-err c = on_err c.from_residual-in_err-cut-2.result (λ from h.
    kept_once c.args.pieces.now.entries c.cut.new.pieces.entries c.cut-2.new.pieces.entries from c.args.end c.args.position h
    c.in_ok-cut.ensures.ok c.in_err-cut-2.ensures.err)

pub returns-in_err-grow-clause-err : goal.returns-in_err-grow-clause-err
returns-in_err-grow-clause-err c = on_err c.from_residual-in_err-grow.result (λ from h.
    kept_twice c.args.pieces.now.entries c.cut.new.pieces.entries c.cut-2.new.pieces.entries c.grow.new.pieces.entries from c.args.end
    c.args.position c.min-old_end.result h c.in_ok-cut.ensures.ok c.in_ok-cut-2.ensures.ok c.in_err-grow.ensures.err)

pub returns-clause-made : goal.returns-clause-made
returns-clause-made c from h low some =
    let j = c.join.ensures in
    let g = c.in_ok-grow.ensures.ok in
    let at = c.min-old_end.ensures in
    let built = is_rebuilt c.args.pieces.now.entries c.cut.new.pieces.entries c.cut-2.new.pieces.entries c.grow.new.pieces.entries from c.args.end
    c.args.position c.args.upto c.args.number c.args.moment h low c.requires some c.in_ok-cut.ensures.ok
    (c.in_ok-cut-2.ensures.ok ∙ ap (λ (n : ℕ). cut n c.cut.new.pieces.entries) at) g in
    let new = subst (IsRebuilt from c.args.end c.args.position c.args.upto c.args.number c.args.moment c.args.pieces.now.entries)
    (sym (j
    ∙ ap (λ (n : ℕ). joined_if c.args.position n (built_again c.args.number c.args.moment (nat_le c.args.upto c.args.end))
    c.grow.new.pieces.entries) at)) built in
    (new.view, new.adjoin)
