use Rattle.std.proofs.Common.{◌∙◌, sym}
use Rattle.std.proofs.lemmas.Option.{none-some}
use Rattle.streams.proofs.RangeEdits.{after_found}
use Rattle.streams.proofs.piece.begin_at.Goals as goal

pub returns-in_default-get_mut : goal.returns-in_default-get_mut
returns-in_default-get_mut c =
    absurd (none-some c.in-Some.piece (c.in_default-get_mut.ensures.value
    ∙ after_found c.args.pieces.now.entries c.args.position (c.in-Some.end, c.in-Some.piece) (sym c.in-Some.ensures)))
