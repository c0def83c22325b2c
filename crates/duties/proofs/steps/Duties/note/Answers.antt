use Rattle.std.proofs.Common.{◌≡◌, false, subst}
use Rattle.std.specs.Prelude.{OnOk}
use Rattle.spec_duties.specs.Watching.{Duties, duties_after}
use Rattle.duties.proofs.steps.Duties.note.Goals as goal

pub returns : goal.returns
returns c =
    subst (λ (d : Duties). OnOk c.note_plain.result
    (c.note_plain.new.self ≡ duties_after false c.args.slack c.args.after.now c.args.moment c.args.seen.now d))
    c.in_ok-note_if_strict.ensures (c.note_plain.ensures c.args.slack)
