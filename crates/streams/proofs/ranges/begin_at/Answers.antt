use Rattle.std.proofs.Common.{◌∙◌, sym}
use Rattle.std.proofs.lemmas.Option.{none-some}
use Rattle.streams.proofs.RangeEdits.{begun_set, begun_none, after_found}
use Rattle.streams.proofs.ranges.begin_at.Goals as goal

pub returns-in_default : goal.returns-in_default
returns-in_default c = begun_none c.args.starts.now.entries c.args.position (sym c.in_default.ensures)

pub returns-in_default-get_mut : goal.returns-in_default-get_mut
returns-in_default-get_mut c =
    absurd (none-some c.in-Some.start
    (c.in_default-get_mut.ensures.value ∙ after_found c.args.starts.now.entries c.args.position (c.in-Some.end, c.in-Some.start) (sym c.in-Some.ensures)))

pub returns-in-Some-get_mut : goal.returns-in-Some-get_mut
returns-in-Some-get_mut c =
    (c.get_mut.follows.holds c.max.result).0
    ∙ begun_set c.args.starts.now.entries c.args.position c.max.result (c.in-Some.end, c.in-Some.start) (sym c.in-Some.ensures) c.max.ensures
