use Rattle.std.proofs.Common.{◌++◌, replicate, ap, sym, ◌∙◌, List}
use Rattle.streams.specs.declared.transmission.Transmission.{Transmission}
use Rattle.streams.specs.Transmissions.{made_moment, once}
use Rattle.streams.specs.Marks.{is_marked}
use Rattle.streams.specs.Views.{expand}
use Rattle.streams.proofs.MadeLemmas.{moment-marked}
use Rattle.streams.proofs.RunLemmas.{moment_inside, moment_past}
use Rattle.streams.proofs.transmissions.Transmissions.moment.Goals as goal

pub returns-then-position-self : goal.returns-then-position-self
returns-then-position-self c =
    sym (moment_inside c.args.position c.self.inside.gone (once 0) (expand c.self.inside.runs.items) c.if-position-self.true)
    ∙ sym (moment-marked (is_marked c.self.inside.marks) 0 c.args.position (replicate c.self.inside.gone (once 0) ++ expand c.self.inside.runs.items))
    ∙ ap (λ (all : List Transmission). made_moment all c.args.position) c.self.view_is

pub returns : goal.returns
returns c =
    c.moment_at.ensures ∙ sym (moment_past c.args.position c.self.inside.gone (once 0) (expand c.self.inside.runs.items) c.if-position-self.false)
    ∙ sym (moment-marked (is_marked c.self.inside.marks) 0 c.args.position (replicate c.self.inside.gone (once 0) ++ expand c.self.inside.runs.items))
    ∙ ap (λ (all : List Transmission). made_moment all c.args.position) c.self.view_is
