use Rattle.std.proofs.Common.{◌≡◌, ◌∙◌, ◌-◌, sym, ap, ℕ, Some, suc, arith}
use Rattle.duties.specs.CreditCounts.{listed}
use Rattle.spec_duties.specs.Credits.{spent}
use Rattle.duties.proofs.CreditLemmas.{last_spent, none_spent, one_spent}
use Rattle.duties.proofs.credits.Credits.spend.Goals as goal

pub returns-in-Some-default-eq0 : goal.returns-in-Some-default-eq0
returns-in-Some-default-eq0 c =
    ap listed c.remove.ensures.entries
    ∙ last_spent c.args.place c.args.moment c.self.inside.more.entries c.in-Some-default-eq0.credit c.oldest.ensures.ordered
    (sym c.in-Some-default-eq0.ensures.found ∙ ap (λ (n : ℕ). Some (c.in-Some-default-eq0.credit, n)) c.in-Some-default-eq0.field-0-1-test)
    ∙ ap (spent c.args.place c.args.moment) c.self.view_is

pub returns-in_ok-insert-in-Some : goal.returns-in_ok-insert-in-Some
returns-in_ok-insert-in-Some c =
    let more : c.in-Some.more ≡ suc (c.in-Some.more - 1) = omega (arith, c.in-Some.more-test) in
    ap listed c.in_ok-insert-in-Some.ensures.entries
    ∙ one_spent c.args.place c.args.moment c.self.inside.more.entries c.in-Some.credit (c.in-Some.more - 1) c.oldest.ensures.ordered
    (sym c.in-Some.ensures.found ∙ ap (λ (n : ℕ). Some (c.in-Some.credit, n)) more)
    ∙ ap (spent c.args.place c.args.moment) c.self.view_is

pub returns-in-None : goal.returns-in-None
returns-in-None c =
    sym c.self.view_is ∙ sym (none_spent c.args.place c.args.moment c.self.inside.more.entries (sym c.in-None.ensures.found)).0
    ∙ ap (spent c.args.place c.args.moment) c.self.view_is
