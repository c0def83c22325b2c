use Rattle.std.proofs.Common.{◌≡◌, List, ℕ, Some, cond, length, sym, ap, subst, arith, ◌∙◌, ◌++◌, ◌∷◌, []}
use Rattle.std.specs.Prelude.{nat_eq}
use Rattle.std.specs.Map.{lookup}
use Rattle.std.specs.Ordering.{nat_cmp}
use Rattle.std.specs.BTreeMap.{is_at}
use Rattle.indexmap.specs.IndexMap.{insert_entry}
use Rattle.std.proofs.lemmas.List.Elements.{All-push}
use Rattle.tables.specs.Hints.{AreHinted, AreIn, IsHinted}
use Rattle.tables.specs.Tables.{Table, IsPlaced}
use Rattle.tables.proofs.HintLemmas.{all_rose, hinted_set}
use Rattle.tables.proofs.TableLemmas.{within, none_found, set_is, push_is, placed_set, placed_risen, placed_other, on_err}
use Rattle.tables.proofs.table.Table.insert.Goals as goal

pub returns-in_err-reserve-clause-absent : goal.returns-in_err-reserve-clause-absent
returns-in_err-reserve-clause-absent g c =
    on_err c.from_residual.result (ap (λ (t : Table g.row.V.Denot). lookup (nat_eq c.args.number) t.entries) (sym c.self.view_is)
    ∙ none_found c.self.inside.entries.items c.args.number (c.self.invariant.0.new c.args.number (sym c.is_above.ensures ∙ c.if-is_above.true)))

pub returns-in_err-push-clause-absent : goal.returns-in_err-push-clause-absent
returns-in_err-push-clause-absent g c =
    on_err c.from_residual-in_err-push.result (ap (λ (t : Table g.row.V.Denot). lookup (nat_eq c.args.number) t.entries) (sym c.self.view_is)
    ∙ none_found c.self.inside.entries.items c.args.number (c.self.invariant.0.new c.args.number (sym c.is_above.ensures ∙ c.if-is_above.true)))

pub invariant_of-self-then-is_above : goal.invariant_of-self-then-is_above
invariant_of-self-then-is_above g c = (
  subst (λ (es : List (ℕ × g.row.V.Denot)). IsPlaced (Some c.args.number) c.push.new.self.items c.self.inside.index.others.entries es) (sym items)
      (subst (λ (risen : List (ℕ × ℕ)).
      IsPlaced (Some c.args.number) risen c.self.inside.index.others.entries
      (c.self.inside.entries.items ++ (c.args.number, c.args.value) ∷ [])) (sym risen)
      (placed_risen c.self.inside.index.top c.self.inside.index.risen.items c.self.inside.index.others.entries
      c.self.inside.entries.items c.self.invariant.0 c.args.number c.args.value
      (sym c.is_above.ensures ∙ c.if-is_above.true))),
  subst (λ (es : List (ℕ × g.row.V.Denot)). AreHinted c.add_hint.new.hints.items es) (sym items)
      (All-push (λ e. IsHinted c.add_hint.new.hints.items e.0) c.self.inside.entries.items (c.args.number, c.args.value) same c.add_hint.ensures.new),
  tt,
)
  where
    count : c.len-place.result ≡ length c.self.inside.entries.items
    count = let ok = c.self.inside.entries.ok in omega arith

    same : AreHinted c.add_hint.new.hints.items c.self.inside.entries.items
    same =
        subst (λ (es : List (ℕ × g.row.V.Denot)). AreHinted c.add_hint.new.hints.items es)
        (c.as_slice.ensures.value ∙ c.reserve.ensures.items) c.add_hint.ensures.same

    items : c.push_reserved.new.self.items ≡ c.self.inside.entries.items ++ (c.args.number, c.args.value) ∷ []
    items = c.push_reserved.ensures.items ∙ ap (λ (es : List (ℕ × g.row.V.Denot)). es ++ (c.args.number, c.args.value) ∷ []) c.reserve.ensures.items

    risen : c.push.new.self.items ≡ c.self.inside.index.risen.items ++ (c.args.number, length c.self.inside.entries.items) ∷ []
    risen = c.in_ok-push.ensures.items ∙ ap (λ (n : ℕ). c.self.inside.index.risen.items ++ (c.args.number, n) ∷ []) count

pub returns-then-is_above-clause-ok : goal.returns-then-is_above-clause-ok
returns-then-is_above-clause-ok g c =
    c.push_reserved.ensures.items ∙ ap (λ (es : List (ℕ × g.row.V.Denot)). es ++ (c.args.number, c.args.value) ∷ []) c.reserve.ensures.items
    ∙ push_is c.self.inside.entries.items c.args.number c.args.value (c.self.invariant.0.new c.args.number (sym c.is_above.ensures ∙ c.if-is_above.true))
    ∙ ap (λ (t : Table g.row.V.Denot). insert_entry nat_eq t.entries c.args.number c.args.value) c.self.view_is

pub index_mut-requires : goal.index_mut-requires
index_mut-requires g c = let low =
    within c.self.inside.entries.items c.args.number c.in-Some.place (sym c.in-Some.ensures) in
    let ok = c.self.inside.entries.ok in omega arith

pub invariant_of-self-in-Some : goal.invariant_of-self-in-Some
invariant_of-self-in-Some g c = (
  placed_set c.self.inside.index.top c.self.inside.index.risen.items c.self.inside.index.others.entries
      c.self.inside.entries.items c.self.invariant.0 c.args.number
      c.in-Some.place c.args.value
      (sym c.in-Some.ensures),
  hinted_set c.self.inside.index.hints.items c.self.inside.entries.items c.args.number c.in-Some.place c.args.value c.self.invariant.1 (sym c.in-Some.ensures),
  tt,
)

pub returns-in-Some-clause-ok : goal.returns-in-Some-clause-ok
returns-in-Some-clause-ok g c =
    set_is c.self.inside.entries.items c.args.number c.in-Some.place c.args.value (sym c.in-Some.ensures)
    ∙ ap (λ (t : Table g.row.V.Denot). insert_entry nat_eq t.entries c.args.number c.args.value) c.self.view_is

pub returns-in_err-reserve-2-clause-absent : goal.returns-in_err-reserve-2-clause-absent
returns-in_err-reserve-2-clause-absent g c =
    on_err c.from_residual-in_err-reserve-2.result (ap (λ (t : Table g.row.V.Denot). lookup (nat_eq c.args.number) t.entries) (sym c.self.view_is)
    ∙ none_found c.self.inside.entries.items c.args.number (sym c.in_default.ensures))

pub returns-in_err-insert-clause-absent : goal.returns-in_err-insert-clause-absent
returns-in_err-insert-clause-absent g c =
    on_err c.from_residual-in_err-insert.result (ap (λ (t : Table g.row.V.Denot). lookup (nat_eq c.args.number) t.entries) (sym c.self.view_is)
    ∙ none_found c.self.inside.entries.items c.args.number (sym c.in_default.ensures))

pub invariant_of-self-2 : goal.invariant_of-self-2
invariant_of-self-2 g c = (
  subst (λ (es : List (ℕ × g.row.V.Denot)). IsPlaced c.self.inside.index.top c.self.inside.index.risen.items c.insert.new.self.entries es) (sym items)
      (placed_other c.self.inside.index.top c.self.inside.index.risen.items c.self.inside.index.others.entries
      c.self.inside.entries.items c.self.invariant.0 c.insert.new.self.entries c.args.number c.args.value
      (sym c.is_above.ensures ∙ c.if-is_above.false) (sym c.in_default.ensures)
      (λ q. subst (λ (n : ℕ). lookup (is_at (nat_cmp q)) c.insert.new.self.entries
      ≡ cond (is_at (nat_cmp c.args.number) q) (Some (Some n))
      (lookup (is_at (nat_cmp q)) c.self.inside.index.others.entries))
      count (c.in_ok-insert.ensures.updates.0 q))),
  subst (λ (es : List (ℕ × g.row.V.Denot)). AreHinted c.add_hint-2.new.hints.items es) (sym items)
      (All-push (λ e. IsHinted c.add_hint-2.new.hints.items e.0) c.self.inside.entries.items (c.args.number, c.args.value) same c.add_hint-2.ensures.new),
  tt,
)
  where
    count : c.len-place.result ≡ length c.self.inside.entries.items
    count = let ok = c.self.inside.entries.ok in omega arith

    same : AreHinted c.add_hint-2.new.hints.items c.self.inside.entries.items
    same =
        subst (λ (es : List (ℕ × g.row.V.Denot)). AreHinted c.add_hint-2.new.hints.items es)
        (c.as_slice-2.ensures.value ∙ c.reserve-2.ensures.items) c.add_hint-2.ensures.same

    items : c.push_reserved-2.new.self.items ≡ c.self.inside.entries.items ++ (c.args.number, c.args.value) ∷ []
    items = c.push_reserved-2.ensures.items ∙ ap (λ (es : List (ℕ × g.row.V.Denot)). es ++ (c.args.number, c.args.value) ∷ []) c.reserve-2.ensures.items

pub returns-clause-ok : goal.returns-clause-ok
returns-clause-ok g c =
    c.push_reserved-2.ensures.items ∙ ap (λ (es : List (ℕ × g.row.V.Denot)). es ++ (c.args.number, c.args.value) ∷ []) c.reserve-2.ensures.items
    ∙ push_is c.self.inside.entries.items c.args.number c.args.value (sym c.in_default.ensures)
    ∙ ap (λ (t : Table g.row.V.Denot). insert_entry nat_eq t.entries c.args.number c.args.value) c.self.view_is

pub add_hint-requires-clause-rose : goal.add_hint-requires-clause-rose
add_hint-requires-clause-rose g c = λ yes.
    subst (λ (es : List (ℕ × g.row.V.Denot)). AreIn c.as_slice-then-is_above.result.now es) (sym (c.as_slice.ensures.value ∙ c.reserve.ensures.items))
    (subst (λ (risen : List (ℕ × ℕ)). AreIn risen c.self.inside.entries.items) (sym (c.as_slice-then-is_above.ensures.value ∙ c.in_ok-push.ensures.items))
    (all_rose c.self.inside.index.top c.self.inside.index.risen.items c.self.inside.index.others.entries c.self.inside.entries.items _ c.self.invariant.0
    (c.is_empty.ensures.0 yes)))
