use Rattle.std.proofs.Common.{ap}
use Rattle.answer_stream.proofs.Ending.{ends_at_once}
use Rattle.cli.specs.Requests.{answers_many, is_command}
use Rattle.cli.specs.declared.request.Request.TheVariants.{Command}
use Rattle.cli.specs.declared.request.Command.TheVariants.{Check, Many, Record}
use Rattle.cli.proofs.OptionWords.{texts}
use Rattle.cli.proofs.RequestLemmas.{check_only, ends_for, many_none, many_only}
use Rattle.cli.proofs.RequestLemmas.{none_only, reads_none, record_only, records_none, segment_ends, segment_only}
use Rattle.cli.proofs.program.run_all.Goals as goal

pub returns-in-Ok-clause-many : goal.returns-in-Ok-clause-many
returns-in-Ok-clause-many g c n asked no_device =
    let (m, e) = many_only c.in-Ok.request (texts c.args.words.now) n c.in-Ok.ensures.requested asked in
    ends_for c.in-Ok.request (Command (Many m)) _ c.run_if_command.result _ _ e (c.run_if_command.ensures.ends (ap is_command e) no_device)

pub returns-in-Ok-clause-check : goal.returns-in-Ok-clause-check
returns-in-Ok-clause-check g c asked no_device =
    let e = check_only c.in-Ok.request (texts c.args.words.now) c.in-Ok.ensures.requested asked in
    ends_for c.in-Ok.request (Command Check) _ c.run_if_command.result _ _ e (c.run_if_command.ensures.ends (ap is_command e) no_device)

pub returns-in-Ok-clause-segment : goal.returns-in-Ok-clause-segment
returns-in-Ok-clause-segment g c text asked no_device =
    let segment = segment_only c.in-Ok.request (texts c.args.words.now) text c.in-Ok.ensures.requested asked in
    segment_ends c.in-Ok.request (texts c.args.words.now) text _ c.run_if_command.result _ _ c.in-Ok.ensures.requested asked
    (c.run_if_command.ensures.ends (ap is_command segment.is) no_device)

pub returns-in-Ok-clause-recorded : goal.returns-in-Ok-clause-recorded
returns-in-Ok-clause-recorded g c plan asked no_device =
    let e = record_only c.in-Ok.request (texts c.args.words.now) plan c.in-Ok.ensures.requested asked in
    ends_for c.in-Ok.request (Command (Record plan)) _ c.run_if_command.result _ _ e (c.run_if_command.ensures.ends (ap is_command e) no_device)

pub returns-in-Ok-clause-usage : goal.returns-in-Ok-clause-usage
returns-in-Ok-clause-usage g c nothing no_many no_record no_device =
    c.run_if_command.ensures.usage (none_only c.in-Ok.request (texts c.args.words.now) c.in-Ok.ensures.requested nothing no_many no_record) no_device

pub returns-in-Ok-clause-unread : goal.returns-in-Ok-clause-unread
returns-in-Ok-clause-unread g c no_check no_many =
    c.run_if_command.ensures.unread (reads_none c.in-Ok.request (texts c.args.words.now) c.in-Ok.ensures.requested no_check no_many)

pub returns-in-Ok-clause-device : goal.returns-in-Ok-clause-device
returns-in-Ok-clause-device g c no_record =
    c.run_if_command.ensures.device (records_none c.in-Ok.request (texts c.args.words.now) c.in-Ok.ensures.requested no_record)

pub returns-in-Ok-clause-told : goal.returns-in-Ok-clause-told
returns-in-Ok-clause-told g c no_many =
    c.run_if_command.ensures.told (many_none c.in-Ok.request (texts c.args.words.now) c.in-Ok.ensures.requested no_many)

pub returns-in-Ok-clause-told_many : goal.returns-in-Ok-clause-told_many
returns-in-Ok-clause-told_many g c n asked =
    let (m, e) = many_only c.in-Ok.request (texts c.args.words.now) n c.in-Ok.ensures.requested asked in
    c.run_if_command.ensures.told_many (ap answers_many e)

pub returns-in-Err-clause-many : goal.returns-in-Err-clause-many
returns-in-Err-clause-many g c n asked no_device =
    let said = c.answer_bad_memory.ensures.said no_device in ends_at_once _ _ _ _ (said.0, said.1)
