use Rattle.std.proofs.Common.{rules, ◌≡◌, false}
use Rattle.answer_stream.proofs.Taking.{none_if_ended}
use Rattle.answer_stream.proofs.Telling.{some_told, whole_told}
use Rattle.answer_stream.proofs.work.outcome_of.Goals as goal

pub returns-in-Failed-clause-tells : goal.returns-in-Failed-clause-tells
returns-in-Failed-clause-tells g c =
    let going : c.args.printer.now.failed ≡ false = search rules in some_told _ _ _ _ _ (c.args.printer.now.told going)

pub returns-in-Ended-clause-tells : goal.returns-in-Ended-clause-tells
returns-in-Ended-clause-tells g c =
    let going : c.args.printer.now.failed ≡ false = search rules in
    let all : c.args.source.now.taken ≡ c.args.printer.now.next = search rules in
    whole_told _ _ _ _ _
    (none_if_ended _ _ _ _ c.in-Ended.is c.args.source.now.left)
    (rw all (c.args.printer.now.told going))

pub returns-in-Open-clause-tells : goal.returns-in-Open-clause-tells
returns-in-Open-clause-tells g c =
    let going : c.args.printer.now.failed ≡ false = search rules in some_told _ _ _ _ _ (c.args.printer.now.told going)

pub returns-in-Open-2-clause-tells : goal.returns-in-Open-2-clause-tells
returns-in-Open-2-clause-tells g c =
    let going : c.args.printer.now.failed ≡ false = search rules in some_told _ _ _ _ _ (c.args.printer.now.told going)
