use Rattle.std.proofs.Common.{rules, ◌≡◌}
use Rattle.counted.specs.Counting.{failures_of}
use Rattle.answer_stream.proofs.Ending.{ends_all, ends_early, low, some_before, written_if_same}
use Rattle.answer_stream.proofs.run.answer_cases.Goals as goal

pub returns-in-All-clause-many : goal.returns-in-All-clause-many
returns-in-All-clause-many g c no_device = ends_all _ _ _ _ c.in-All.ensures.tells

pub returns-in-All-clause-device : goal.returns-in-All-clause-device
returns-in-All-clause-device g c five = absurd (low _ _ _ _ c.in-All.ensures.tells five)

pub returns-in-All-clause-told : goal.returns-in-All-clause-told
returns-in-All-clause-told g c five same = absurd (low _ _ _ _ c.in-All.ensures.tells five)

pub returns-in-ReadFailed-clause-told : goal.returns-in-ReadFailed-clause-told
returns-in-ReadFailed-clause-told g c five same =
    let unchanged : failures_of c.answer_all.new.w ≡ failures_of c.args.w.now = search rules in
    let here : failures_of c.write_lines.new.w ≡ failures_of c.answer_all.new.w = search rules in
    some_before _ _ _ _ _ c.in-ReadFailed.ensures.tells
    (written_if_same _ _ _ _ _ _ _ c.write_lines.ensures.told c.write_lines.ensures.failed here)

pub returns-in-Some-clause-many : goal.returns-in-Some-clause-many
returns-in-Some-clause-many g c no_device = ends_early _ _ _ _ _ c.in-OutOfMemory.ensures.tells c.in-Some.ensures.told
