use Rattle.std.proofs.Common.{◌≡◌, ◌-◌, ◌++◌, length, length-drop, min, arith, ap, ◌∙◌, replicate}
use Rattle.streams.specs.Transmissions.{once}
use Rattle.streams.specs.Forgetting.{made_below}
use Rattle.streams.specs.Views.{expand}
use Rattle.streams.proofs.Covers.{covered-gone}
use Rattle.streams.proofs.MadeLemmas.{forgot_marked}
use Rattle.streams.proofs.transmissions.Transmissions.forget_below.Goals as goal

pub invariant_of-self : goal.invariant_of-self
invariant_of-self c =
    let long = c.self.invariant.0 in
    let shorter = ap length c.forget.ensures ∙ length-drop c.min-count.result (expand c.self.inside.runs.items) in
    (omega arith, c.self.invariant.1, (c.forget_below.ensures c.self.inside.end c.self.invariant.2).0)

pub returns : goal.returns
returns c =
    let long = c.self.invariant.0 in
    let count : c.min-count.result ≡ min (c.args.snd_una - c.self.inside.gone) (length (expand c.self.inside.runs.items)) = omega arith in
    rw c.forget.ensures
    (forgot_marked c.self.inside.marks c.forget_below.new.self c.args.snd_una (replicate c.self.inside.gone (once 0) ++ expand c.self.inside.runs.items) _
    (covered-gone (once 0) c.self.inside.gone c.args.snd_una c.min-count.result (expand c.self.inside.runs.items) count)
    (c.forget_below.ensures c.self.inside.end c.self.invariant.2).1
    ∙ ap (made_below c.args.snd_una) c.self.view_is)
