use Rattle.std.proofs.Common.{◌≡◌, ◌<◌, ◌*◌, sym, suc, subst}
use Rattle.spec_tcp.specs.Steps.{step_of}
use Rattle.stack_core.specs.Cores.{Core, Fits, IsCore, IsNextLine, IsOrderly, world}
use Rattle.stack_core.specs.Entries.{steps_in}
use Rattle.stack_core.specs.Recordings.{Recorded}
use Rattle.stack_core.specs.Resets.{AreAwaited, made_of}
use Rattle.stack_core.proofs.Cores.{add_ok, core_grows, counts, leads, may_join}
use Rattle.stack_core.proofs.ResetLemmas.{core_awaits, core_tried}
use Rattle.stack_core.specs.Told.{IsToldStep}
use Rattle.stack_core.specs.Affected.{affected_by}
use Rattle.stack_core.proofs.TendedLemmas.{tended_steps, tended_tried}
use Rattle.stack_core.proofs.host_core.HostCore.add.Goals as goal

pub invariant_of-self : goal.invariant_of-self
invariant_of-self c = (
  c.self.invariant.0,
  subst (λ numbers. AreAwaited (made_of c.self.inside.recording) numbers)
      (sym c.in_err-await_reset.ensures.err) c.self.invariant.1,
  c.self.invariant.2,
)

pub step-requires-clause-joins : goal.step-requires-clause-joins
step-requires-clause-joins c =
    may_join c.self.inside.recording c.self.inside.line c.self.inside.last c.self.inside.events c.self.invariant.0 (step_of c.args.label)
    (subst (λ (k : Core). Fits k (step_of c.args.label)) (sym c.self.view_is) c.requires.fits)
    (subst (λ (k : Core). IsOrderly k.recorded.me (world k) (step_of c.args.label)) (sym c.self.view_is) c.requires.orderly)
    (subst (λ (k : Core). IsNextLine k (step_of c.args.label)) (sym c.self.view_is) c.requires.line)

pub invariant_of-self-in_err-step : goal.invariant_of-self-in_err-step
invariant_of-self-in_err-step c = (
  subst (λ (r : Recorded). IsCore r c.self.inside.line c.self.inside.last c.self.inside.events) (sym c.in_err-step.ensures.err) c.self.invariant.0,
  subst (λ (r : Recorded). AreAwaited (made_of r) c.await_reset.new.resets.items) (sym c.in_err-step.ensures.err)
      (core_tried (made_of c.self.inside.recording) c.self.inside.resets.items c.await_reset.new.resets.items
      (step_of c.args.label) (suc c.count.result) c.in_ok-await_reset.ensures.ok c.self.invariant.1),
  tended_tried c.self.inside.recording c.self.inside.ready c.self.inside.wakes c.look_again.new.self
      c.look_again-2.new.self c.args.affected c.look_again.ensures c.look_again-2.ensures c.self.invariant.2
      c.step.new.self c.in_err-step.ensures.err,
)

pub invariant_of-self-2 : goal.invariant_of-self-2
invariant_of-self-2 c = (
  core_grows c.self.inside.recording c.self.inside.line c.self.inside.last c.self.inside.events c.self.invariant.0 (step_of c.args.label)
      (subst (λ (k : Core). Fits k (step_of c.args.label)) (sym c.self.view_is) c.requires.fits)
      (subst (λ (k : Core). IsOrderly k.recorded.me (world k) (step_of c.args.label)) (sym c.self.view_is) c.requires.orderly)
      c.step.new.self c.lines_taken-lines.result c.in_ok-step.ensures.ok
      (subst (λ (k : Core). steps_in k.recorded.entries < 4 * k.events) (sym c.self.view_is) c.requires.room)
      c.lines_taken-lines.ensures
      (subst (λ (k : Core). IsToldStep k.recorded.header.version (step_of c.args.label)) (sym c.self.view_is) c.requires.told),
  core_awaits c.self.inside.recording c.step.new.self c.self.inside.last
      (step_of c.args.label) c.self.inside.resets.items c.await_reset.new.resets.items c.count.result
      (subst (λ (k : Core). Fits k (step_of c.args.label)) (sym c.self.view_is) c.requires.fits)
      c.in_ok-step.ensures.ok c.count.ensures.count c.in_ok-await_reset.ensures.ok c.self.invariant.1,
  tended_steps c.self.inside.recording c.self.inside.ready c.self.inside.wakes c.look_again.new.self
      c.look_again-2.new.self c.args.affected c.look_again.ensures c.look_again-2.ensures c.self.invariant.2
      c.step.new.self c.self.inside.last (step_of c.args.label)
      (subst (λ (k : Core). Fits k (step_of c.args.label)) (sym c.self.view_is) c.requires.fits)
      (subst (λ (k : Core). c.args.affected ≡ affected_by k.recorded.me (world k) (step_of c.args.label)) (sym c.self.view_is) c.requires.affected)
      c.in_ok-step.ensures.ok,
)

pub returns-clause-count : goal.returns-clause-count
returns-clause-count c =
    counts c.args.self.now _ (step_of c.args.label)
    (add_ok c.self.inside.recording c.step.new.self c.self.inside.config.ring c.self.inside.last c.self.inside.events
    c.args.self.now (step_of c.args.label) c.self.view_is c.in_ok-step.ensures.ok)

pub returns-clause-world : goal.returns-clause-world
returns-clause-world c =
    leads c.args.self.now _ (step_of c.args.label)
    (add_ok c.self.inside.recording c.step.new.self c.self.inside.config.ring c.self.inside.last c.self.inside.events
    c.args.self.now (step_of c.args.label) c.self.view_is c.in_ok-step.ensures.ok)
