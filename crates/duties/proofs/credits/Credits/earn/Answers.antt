use Rattle.std.proofs.Common.{◌∙◌, ap, ℕ}
use Rattle.duties.specs.CreditCounts.{listed}
use Rattle.spec_duties.specs.Credits.{credit_of, earned}
use Rattle.duties.proofs.CreditLemmas.{joined}
use Rattle.duties.proofs.credits.Credits.earn.Goals as goal

pub returns : goal.returns
returns c =
    ap listed c.in_ok-insert.ensures.entries
    ∙ joined c.credit_of-credit.result _ c.self.inside.more.entries c.copied.result c.in_ok-insert.ensures.was_ordered
    (c.copied.ensures ∙ c.get.ensures.value) c.in_ok-more.ensures
    ∙ ap (λ (n : ℕ). earned n (listed c.self.inside.more.entries)) c.credit_of-credit.ensures
    ∙ ap (earned (credit_of c.args.place c.args.moment)) c.self.view_is
