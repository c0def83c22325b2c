use Rattle.std.proofs.Common.{◌≡◌, ℕ, rules, sym, subst, ◌∙◌, true}
use Rattle.std.proofs.lemmas.Option.{same_Some}
use Rattle.endpoint_state.specs.Indexes.{is_child_in}
use Rattle.endpoint_state.proofs.IndexLemmas.{child_more}
use Rattle.endpoint_state.proofs.endpoints.add_child.Goals as goal

pub returns-in-Some-get_mut-clause-kept : goal.returns-in-Some-get_mut-clause-kept
returns-in-Some-get_mut-clause-kept c =
    (child_more c.args.children.now.entries
    (c.get_mut.follows.lender c.push.new.self).entries c.in-Some.listener c.push.new.self
    ((c.get_mut.follows.holds c.push.new.self).3 (search rules)).0 c.in-Some-get_mut.places.now c.args.place
    (sym c.in-Some-get_mut.ensures.value) c.in_ok-push.ensures.items).0

pub returns-in-Some-get_mut-clause-added : goal.returns-in-Some-get_mut-clause-added
returns-in-Some-get_mut-clause-added c = λ l is.
    let more =
    child_more c.args.children.now.entries
    (c.get_mut.follows.lender c.push.new.self).entries c.in-Some.listener c.push.new.self
    ((c.get_mut.follows.holds c.push.new.self).3 (search rules)).0 c.in-Some-get_mut.places.now c.args.place
    (sym c.in-Some-get_mut.ensures.value) c.in_ok-push.ensures.items in
    subst (λ (n : ℕ). is_child_in (c.get_mut.follows.lender c.push.new.self).entries n c.args.place ≡ true)
    (same_Some c.in-Some.listener l (sym c.in-Some.is ∙ is)) more.1
