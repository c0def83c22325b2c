use Rattle.std.proofs.Common.{sym, ap, arith, ◌∙◌}
use Rattle.tables.specs.Tables.{Table}
use Rattle.std.specs.Map.{lookup}
use Rattle.std.specs.Prelude.{nat_eq}
use Rattle.tables.proofs.TableLemmas.{within, found, none_found}
use Rattle.tables.proofs.table.Table.get.Goals as goal

pub index-requires : goal.index-requires
index-requires g c = let low =
    within c.self.inside.entries.items c.args.number c.in-Some.place (sym c.in-Some.ensures) in
    let ok = c.self.inside.entries.ok in omega arith

pub returns-in-Some : goal.returns-in-Some
returns-in-Some g c =
    found c.self.inside.entries.items c.args.number c.in-Some.place c.index.result.now (sym c.in-Some.ensures) c.index.ensures
    ∙ ap (λ (t : Table g.row.V.Denot). lookup (nat_eq c.args.number) t.entries) c.self.view_is

pub returns-in-None : goal.returns-in-None
returns-in-None g c =
    sym (none_found c.self.inside.entries.items c.args.number (sym c.in-None.ensures))
    ∙ ap (λ (t : Table g.row.V.Denot). lookup (nat_eq c.args.number) t.entries) c.self.view_is
