use Rattle.std.proofs.Common.{subst, sym}
use Rattle.stack_core.specs.Cores.{IsCore}
use Rattle.stack_core.specs.Recordings.{Recorded}
use Rattle.stack_core.specs.Resets.{AreAwaited, made_of}
use Rattle.stack_core.proofs.Cores.{core_brings, may_bring}
use Rattle.stack_core.proofs.ResetLemmas.{core_awaits_brought}
use Rattle.stack_core.specs.Tended.{IsTended}
use Rattle.stack_core.proofs.TendedLemmas.{tended_brings}
use Rattle.stack_core.proofs.host_core.HostCore.bring.Goals as goal

pub bring-requires : goal.bring-requires
bring-requires c =
    record {
      joins = may_bring c.self.inside.recording c.self.inside.line c.self.inside.last c.self.inside.events
          c.self.invariant.0 c.args.flying;
    }

pub invariant_of-self : goal.invariant_of-self
invariant_of-self c =
    subst (λ (r : Recorded). IsCore r c.self.inside.line c.self.inside.last c.self.inside.events
    × AreAwaited (made_of r) c.self.inside.resets.items × IsTended r c.self.inside.ready c.self.inside.wakes)
    (sym c.in_err-bring.ensures.err) c.self.invariant

pub invariant_of-self-2 : goal.invariant_of-self-2
invariant_of-self-2 c = (
  core_brings c.self.inside.recording c.self.inside.line c.self.inside.last c.self.inside.events c.self.invariant.0
      c.args.flying c.bring.new.self c.in_ok-bring.ensures.ok,
  core_awaits_brought c.self.inside.recording c.bring.new.self c.self.inside.last c.args.flying
      c.self.inside.resets.items c.in_ok-bring.ensures.ok c.self.invariant.1,
  tended_brings c.self.inside.recording c.bring.new.self c.self.inside.ready c.self.inside.wakes c.self.inside.last
      c.args.flying c.in_ok-bring.ensures.ok c.self.invariant.2,
)
