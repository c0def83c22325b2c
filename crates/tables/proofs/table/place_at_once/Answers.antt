use Rattle.std.proofs.Common.{ℕ, ap, ◌∙◌, arith}
use Rattle.tables.proofs.TableLemmas.{own_place}
use Rattle.tables.proofs.table.place_at_once.Goals as goal

pub returns-then-entries-last : goal.returns-then-entries-last
returns-then-entries-last g c =
    own_place c.args.entries.now c.in_ok-last.last c.args.number c.index-entries-last.result c.requires (omega (arith, c.in_ok-last.ensures))
    c.index-entries-last.is (ap (λ (e : ℕ × g.row.V.Denot). e.0) c.index-entries-last.is ∙ c.if-entries-last.true)

pub returns-then-entries-place : goal.returns-then-entries-place
returns-then-entries-place g c =
    own_place c.args.entries.now c.in_ok-place.place c.args.number c.index-entries-place.result c.requires
    (omega (arith, c.in_ok-last.ensures, c.if-place-last.true))
    c.index-entries-place.is (ap (λ (e : ℕ × g.row.V.Denot). e.0) c.index-entries-place.is ∙ c.if-entries-place.true)
