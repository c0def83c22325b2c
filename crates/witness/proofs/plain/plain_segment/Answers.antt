use Rattle.std.proofs.Common.{refl}
use Rattle.witness.proofs.PlainLaw.{segment_is}
use Rattle.witness.proofs.plain.plain_segment.Goals as goal

pub returns-clause-label : goal.returns-clause-label
returns-clause-label c =
    segment_is c.args.version c.in_ok-host.host c.in_ok-lport.field-0 c.in_ok-rport.field-0 c.in_ok-pos.pos c.in_ok-len.field-0 c.in_ok-window.field-0
    _ _ _ _ _ _ _ _ c.in_ok-host.ensures c.in_ok-lport.ensures.taken c.in_ok-rport.ensures.taken c.in_ok-pos.ensures.taken c.in_ok-len.ensures.taken
    (c.if-not-plain_letter.ensures.taken refl) c.in_ok-window.ensures.taken c.in_ok-expect_end.ensures
