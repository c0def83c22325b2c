use Rattle.std.proofs.lemmas.Result.{IfOk-weaker}
use Rattle.cli.specs.SegmentText.{ends_text, rest_text}
use Rattle.cli.proofs.Appended.{two}
use Rattle.cli.proofs.segment_line.push_segment.Goals as goal

pub returns : goal.returns
returns c =
    let segment = c.args.segment.now in
    IfOk-weaker c.push_rest.result _ _
    (λ _ last. two c.args.line.now.items c.push_ends.new.line.items _ (ends_text segment)
    (rest_text segment) c.in_ok-push_ends.ensures last) c.push_rest.ensures
