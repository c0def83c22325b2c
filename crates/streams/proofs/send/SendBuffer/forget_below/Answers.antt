use Rattle.std.proofs.Common.{◌≡◌, ◌-◌, length, min, arith, ap, ◌∙◌}
use Rattle.streams.specs.Forgetting.{below}
use Rattle.streams.proofs.Covers.{covered-gone}
use Rattle.streams.proofs.send.SendBuffer.forget_below.Goals as goal

pub returns : goal.returns
returns c =
    let count : c.min-count.result ≡ min (c.args.snd_una - 1 - c.self.inside.gone) (length c.self.inside.bytes) = omega arith in
    rw c.drop_front.ensures
    (covered-gone 0 c.self.inside.gone (c.args.snd_una - 1) c.min-count.result c.self.inside.bytes count
    ∙ ap (below c.args.snd_una) c.self.view_is)
