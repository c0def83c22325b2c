use Rattle.std.proofs.Common.{◌≡◌, ◌<◌, refl, ◌++◌, List, Bool, true, false, ap, ◌∙◌, arith, length, length-append, replicate}
use Rattle.std.proofs.lemmas.List.{length-replicate}
use Rattle.streams.specs.declared.transmission.Transmission.{Transmission}
use Rattle.streams.specs.Transmissions.{retransmitted, once}
use Rattle.streams.specs.Marks.{is_marked, marked}
use Rattle.streams.specs.Views.{expand}
use Rattle.streams.proofs.MadeLemmas.{asked_some, asked_none, fresh_run, fresh_runs}
use Rattle.streams.proofs.transmissions.Transmissions.is_retransmitted.Goals as goal

pub returns-then-from-upto : goal.returns-then-from-upto
returns-then-from-upto c = by c.meets.result refl ∙ ap (λ (all : List Transmission). retransmitted all c.args.from c.args.upto) c.self.view_is
  where
    base : List Transmission
    base = replicate c.self.inside.gone (once 0) ++ expand c.self.inside.runs.items

    long : c.self.inside.end ≡ length base
    long =
        let end = c.self.invariant.0 in
        let front = length-append (replicate c.self.inside.gone (once 0)) (expand c.self.inside.runs.items) in
        let one = length-replicate c.self.inside.gone (once 0) in
        omega arith

    by : (b : Bool) → c.meets.result ≡ b → c.meets.result ≡ retransmitted (marked (is_marked c.self.inside.marks) 0 base) c.args.from c.args.upto
    by true is =
        let found = c.meets.ensures.found is c.self.inside.end c.self.invariant.2 in
        let inside : found.0 < length base = (let high = found.3 in let end = long in omega arith) in
        is ∙ asked_some (is_marked c.self.inside.marks) c.args.from c.args.upto found.0 base found.1 found.2 inside found.4
    by false is =
        is ∙ asked_none (is_marked c.self.inside.marks) c.args.from c.args.upto base (c.meets.ensures.none is)
        (fresh_run c.self.inside.gone 0 (expand c.self.inside.runs.items) (fresh_runs c.self.inside.runs.items))
