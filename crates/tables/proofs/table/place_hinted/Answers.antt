use Rattle.std.proofs.Common.{◌≡◌, List, ℕ, Some, length, sym, ap, subst, arith, ◌∙◌}
use Rattle.std.specs.Prelude.{slice_get}
use Rattle.tables.specs.Hints.{slot}
use Rattle.tables.proofs.HintLemmas.{no_entry}
use Rattle.tables.proofs.TableLemmas.{own_place}
use Rattle.tables.proofs.table.place_hinted.Goals as goal

pub returns-then-index-number : goal.returns-then-index-number
returns-then-index-number g c =
    sym (own_place c.args.entries.now.items c.in-Some.hint c.args.number c.index.result.now c.requires.placed.apart
    (let ok = c.args.entries.now.ok in omega (arith, c.if-place-len.true))
    c.index.ensures c.if-index-number.true)

pub returns-then-hint : goal.returns-then-hint
returns-then-hint g c = sym (no_entry c.args.index.now.hints.items c.args.entries.now.items c.args.number c.requires.hinted
    (subst (λ (hints : List ℕ). slice_get hints (slot (length hints) c.args.number) ≡ Some c.in-Some.hint) c.deref.ensures.value (sym c.in-Some.ensures)
    ∙ ap (λ (hint : ℕ). Some hint) c.if-hint.true))
