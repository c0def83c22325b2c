use Rattle.std.proofs.Common.{◌≡◌, subst, sym, ap, ◌∙◌}
use Rattle.case_forms.specs.declared.calls.Host.{Host}
use Rattle.spec_network.specs.Tables.{other}
use Rattle.spec_tcp.specs.Machine.{tcp_shape}
use Rattle.endpoint_state.specs.Worlds.{brought}
use Rattle.spec_merge.specs.Books.{Bring, Flying}
use Rattle.stack_core.specs.Entries.{entry_at}
use Rattle.stack_core.specs.Keys.{key_of}
use Rattle.stack_core.specs.Recordings.{Joins, Recorded}
use Rattle.stack_core.proofs.Growing.{bring_joins}
use Rattle.stack_core.proofs.recording.Recording.bring.Goals as goal

pub invariant_of-self-2 : goal.invariant_of-self-2
invariant_of-self-2 c =
    bring_joins c.books_grow.ensures.grows c.self.inside.me c.self.inside.world c.bring.new.world
    (key_of c.self.inside.me c.args.tick) c.args.flying c.self.inside.entries.items c.reserve.new.self.items
    c.push_reserved.new.self.items
    c.self.invariant
    (subst (λ (r : Recorded). Joins r (entry_at r.me c.args.tick (Bring c.args.flying))) (sym c.self.view_is) c.requires.joins)
    (subst (λ (f : Flying tcp_shape). c.bring.new.world ≡ brought c.self.inside.world (other c.self.inside.me) f.line f.emission) c.flying.view_is
    (c.in_ok-bring.ensures.ok ∙ ap (λ (h : Host). brought c.self.inside.world h c.flying.inside.line c.flying.inside.emission) c.other-from.ensures))
    c.in_ok-reserve.ensures.items c.push_reserved.ensures.items
