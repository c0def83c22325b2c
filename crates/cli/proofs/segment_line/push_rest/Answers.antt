use Rattle.std.proofs.Common.{◌++◌, ◌∙◌, ap, codes, decimal}
use Rattle.std.proofs.lemmas.Result.{IfOk-weaker}
use Rattle.cli.specs.SegmentText.{flags_text, mss_text, payload_text}
use Rattle.cli.proofs.Appended.{four}
use Rattle.cli.proofs.segment_line.push_rest.Goals as goal

pub returns : goal.returns
returns c =
    let segment = c.args.segment.now in
    IfOk-weaker c.push_payload.result _ _
    (λ _ last. four c.args.line.now.items c.push_flags.new.line.items c.push_field.new.line.items
    c.push_mss.new.line.items _
    (codes " flags " ++ flags_text segment.flags) (codes " wnd " ++ decimal segment.window) (codes " mss " ++ mss_text segment.mss) (payload_text segment)
    c.in_ok-push_flags.ensures (c.in_ok-push_field.ensures
    ∙ ap (λ n. c.push_flags.new.line.items ++ (codes " wnd " ++ decimal n)) c.from.ensures)
    c.in_ok-push_mss.ensures last) c.push_payload.ensures
