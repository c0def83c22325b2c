use Rattle.std.proofs.Common.{◌++◌, length, length-append, replicate, ap, sym, ◌∙◌, arith, List, ◌≡◌}
use Rattle.std.proofs.lemmas.List.{length-replicate}
use Rattle.streams.specs.declared.transmission.Transmission.{Transmission}
use Rattle.streams.specs.Transmissions.{once}
use Rattle.streams.specs.Marks.{is_marked}
use Rattle.streams.specs.Views.{expand}
use Rattle.streams.proofs.MadeLemmas.{length-marked}
use Rattle.streams.proofs.transmissions.Transmissions.end.Goals as goal

pub returns : goal.returns
returns c =
    let base : List Transmission = replicate c.self.inside.gone (once 0) ++ expand c.self.inside.runs.items in
    let end = c.self.invariant.0 in
    let front = length-append (replicate c.self.inside.gone (once 0)) (expand c.self.inside.runs.items) in
    let one = length-replicate c.self.inside.gone (once 0) in
    let long : c.self.inside.end ≡ length base = omega arith in
    long ∙ sym (length-marked (is_marked c.self.inside.marks) 0 base) ∙ ap (λ (all : List Transmission). length all) c.self.view_is
