use Rattle.std.proofs.Common.{refl, subst, sym}
use Rattle.spec_tcp.specs.Steps.{step_of}
use Rattle.spec_merge.specs.Books.{Do}
use Rattle.stack_core.specs.Entries.{entry_at}
use Rattle.stack_core.specs.Keys.{key_of}
use Rattle.stack_core.specs.Recordings.{Joins, Recorded}
use Rattle.stack_core.proofs.Growing.{step_joins}
use Rattle.stack_core.proofs.recording.Recording.step.Goals as goal

pub invariant_of-self-2 : goal.invariant_of-self-2
invariant_of-self-2 c =
    step_joins c.books_grow.ensures.grows c.self.inside.me c.self.inside.world c.apply.new.world c.args.tick.moment
    (step_of c.args.label) (key_of c.self.inside.me c.args.tick) c.self.inside.entries.items c.reserve.new.self.items
    c.push_reserved.new.self.items
    c.self.invariant
    (subst (λ (r : Recorded). Joins r (entry_at r.me c.args.tick (Do (step_of c.args.label)))) (sym c.self.view_is) c.requires.joins)
    refl c.in-Ok.ensures.ok c.in_ok-reserve.ensures.items c.push_reserved.ensures.items
