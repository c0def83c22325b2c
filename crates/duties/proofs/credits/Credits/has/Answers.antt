use Rattle.std.proofs.Common.{◌≡◌, ◌∙◌, sym, ap, ℕ, Option, None, Some, refl}
use Rattle.std.specs.Prelude.{is_some}
use Rattle.duties.specs.CreditCounts.{found, listed}
use Rattle.spec_duties.specs.Credits.{has_credit}
use Rattle.duties.proofs.CreditLemmas.{none_spent, some_there}
use Rattle.duties.proofs.credits.Credits.has.Goals as goal

pub returns : goal.returns
returns c =
    c.is_some.ensures ∙ ap (λ (o : Option (ℕ × ℕ)). is_some o) c.oldest.ensures.found
    ∙ by (found c.args.place c.args.moment c.self.inside.more.entries) refl
    ∙ ap (has_credit c.args.place c.args.moment) c.self.view_is
  where
    by : (o : Option (ℕ × ℕ)) → found c.args.place c.args.moment c.self.inside.more.entries ≡ o
        → is_some o ≡ has_credit c.args.place c.args.moment (listed c.self.inside.more.entries)
    by None is = sym (none_spent c.args.place c.args.moment c.self.inside.more.entries is).1
    by (Some x) is = sym (some_there c.args.place c.args.moment c.self.inside.more.entries x is)
