use Rattle.std.proofs.Common.{sym, arith}
use Rattle.streams.proofs.Firsts.{first_later, untold_all, untold_before}
use Rattle.streams.proofs.flying.untold_upto.Goals as goal

pub returns-in-Some-clause-some : goal.returns-in-Some-clause-some
returns-in-Some-clause-some c =
    let later = first_later c.args.told.now c.args.from c.in-Some.held (sym c.in-Some.ensures.first) c.requires.from in
    let least = c.min.ensures in
    let most = c.requires.most in
    omega (arith, later, least, most)

pub returns-in-Some-clause-untold : goal.returns-in-Some-clause-untold
returns-in-Some-clause-untold c =
    let least = c.min.ensures in
    untold_before c.args.told.now c.args.from c.in-Some.held c.min.result (sym c.in-Some.ensures.first) (omega (arith, least))

pub returns-in-None-clause-untold : goal.returns-in-None-clause-untold
returns-in-None-clause-untold c = untold_all c.args.told.now c.args.from c.args.most (sym c.in-None.ensures.first)
