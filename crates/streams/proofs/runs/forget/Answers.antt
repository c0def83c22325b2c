use Rattle.std.proofs.Common.{◌∙◌}
use Rattle.streams.proofs.RunLemmas.{pop_inside, pop_run, pop_long}
use Rattle.streams.proofs.runs.forget.Goals as goal

pub returns-then-left-first : goal.returns-then-left-first
returns-then-left-first c =
    pop_inside c.loop-left.runs.items c.pop_front.new.self.items c.push_front_reserved.new.self.items c.in-Some.first
    c.loop-left.left c.in-Some.ensures.items c.if-left-first.true c.push_front_reserved.ensures.items
    ∙ c.loop-left.invariant.told

pub loop-left-preserved : goal.loop-left-preserved
loop-left-preserved c = record {
  told = pop_run c.loop-left.runs.items c.pop_front.new.self.items c.in-Some.first c.loop-left.left
      c.in-Some.ensures.items c.if-left-first.false ∙ c.loop-left.invariant.told;
  long = pop_long c.loop-left.runs.items c.pop_front.new.self.items c.in-Some.first c.loop-left.left
      c.in-Some.ensures.items c.if-left-first.false c.loop-left.invariant.long;
}
