use Rattle.std.proofs.Common.{arith}
use Rattle.duties.proofs.CreditLemmas.{first_is, none_is}
use Rattle.duties.proofs.credits.oldest.Goals as goal

pub returns-in-Some-clause-found : goal.returns-in-Some-clause-found
returns-in-Some-clause-found c =
    first_is c.args.place c.args.moment c.args.more.now.entries c.range.result c.credit_of-from.result _ (c.in-Some.credit.now, c.in-Some.more.now) _
    c.credit_of-from.ensures (omega arith) (c.range.ensures.between tt) c.in-Some.ensures.steps

pub returns-in-None-clause-found : goal.returns-in-None-clause-found
returns-in-None-clause-found c =
    none_is c.args.place c.args.moment c.args.more.now.entries c.range.result c.credit_of-from.result _
    c.credit_of-from.ensures (omega arith) (c.range.ensures.between tt) c.in-None.ensures.steps.0
