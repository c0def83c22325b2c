use Rattle.std.proofs.Common.{◌≡◌, ℕ, Some, sym, ap, subst, arith, ◌∙◌}
use Rattle.std.specs.Prelude.{nat_eq, slice_set}
use Rattle.std.specs.Map.{lookup}
use Rattle.tables.specs.Hints.{AreHinted}
use Rattle.tables.specs.Tables.{Table, changed_at, place_of, IsPlaced}
use Rattle.tables.proofs.HintLemmas.{hinted_set}
use Rattle.tables.proofs.TableLemmas.{within, found, none_found, placed_set, keyed, change_is, no_change}
use Rattle.tables.proofs.table.Table.replace.Goals as goal

pub index_mut-requires : goal.index_mut-requires
index_mut-requires g c = let low =
    within c.self.inside.entries.items c.args.number c.in-Some.place (sym c.in-Some.ensures) in
    let ok = c.self.inside.entries.ok in omega arith

pub invariant_of-self : goal.invariant_of-self
invariant_of-self g c = (
  subst (λ (k : ℕ). IsPlaced c.self.inside.index.top c.self.inside.index.risen.items c.self.inside.index.others.entries
      (slice_set c.self.inside.entries.items c.in-Some.place (k, c.replace.new.dest)))
      (sym (keyed c.self.inside.entries.items c.args.number c.in-Some.place c.index_mut.result.now at c.index_mut.ensures.value))
      (placed_set c.self.inside.index.top c.self.inside.index.risen.items c.self.inside.index.others.entries
      c.self.inside.entries.items c.self.invariant.0 c.args.number c.in-Some.place c.replace.new.dest at),
  subst (λ (k : ℕ). AreHinted c.self.inside.index.hints.items (slice_set c.self.inside.entries.items c.in-Some.place (k, c.replace.new.dest)))
      (sym (keyed c.self.inside.entries.items c.args.number c.in-Some.place c.index_mut.result.now at c.index_mut.ensures.value))
      (hinted_set c.self.inside.index.hints.items c.self.inside.entries.items c.args.number c.in-Some.place c.replace.new.dest c.self.invariant.1 at),
  tt,
)
  where
    at : place_of c.self.inside.entries.items c.args.number ≡ Some c.in-Some.place
    at = sym c.in-Some.ensures

pub returns-in-Some-clause-value : goal.returns-in-Some-clause-value
returns-in-Some-clause-value g c =
    ap Some c.replace.ensures.value
    ∙ found c.self.inside.entries.items c.args.number c.in-Some.place c.index_mut.result.now (sym c.in-Some.ensures) c.index_mut.ensures.value
    ∙ ap (λ (t : Table g.row.V.Denot). lookup (nat_eq c.args.number) t.entries) c.self.view_is

pub returns-in-Some-clause-entries : goal.returns-in-Some-clause-entries
returns-in-Some-clause-entries g c =
    change_is (λ old. c.args.value) c.self.inside.entries.items c.args.number c.in-Some.place c.index_mut.result.now
    c.replace.new.dest (sym c.in-Some.ensures) c.index_mut.ensures.value c.replace.ensures.after
    ∙ ap (λ (t : Table g.row.V.Denot). changed_at (λ old. c.args.value) t.entries c.args.number) c.self.view_is

pub returns-clause-value : goal.returns-clause-value
returns-clause-value g c =
    sym (none_found c.self.inside.entries.items c.args.number (sym c.in_default.ensures))
    ∙ ap (λ (t : Table g.row.V.Denot). lookup (nat_eq c.args.number) t.entries) c.self.view_is

pub returns-clause-entries : goal.returns-clause-entries
returns-clause-entries g c = no_change (λ old. c.args.value) c.args.self.now.entries c.args.number
    (ap (λ (t : Table g.row.V.Denot). lookup (nat_eq c.args.number) t.entries) (sym c.self.view_is)
    ∙ none_found c.self.inside.entries.items c.args.number (sym c.in_default.ensures))
