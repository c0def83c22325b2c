use Rattle.std.proofs.Common.{◌<◌, arith}
use Rattle.spec_tcp.specs.Bounds.{greatest_position}
use Rattle.spec_tcp.specs.Endpoints.{snd_max}
use Rattle.stack_core.proofs.MakingLemmas.{all_tried, tried_far}
use Rattle.stack_core.proofs.next_segment.try_endpoint.Goals as goal

pub returns-then-snd_max-gt-GREATEST_POSITION-clause-none :
    goal.returns-then-snd_max-gt-GREATEST_POSITION-clause-none
returns-then-snd_max-gt-GREATEST_POSITION-clause-none c =
    let over = c.if-snd_max-gt-GREATEST_POSITION.true in
    let end = c.snd_max.ensures in
    let far : greatest_position < snd_max c.args.endpoint.now = omega arith in
    tried_far c.args.world.now.header c.args.me c.args.world.now.world c.args.offer.opening c.args.offer.window c.args.endpoint.now c.requires.short far

pub returns-clause-none : goal.returns-clause-none
returns-clause-none c =
    all_tried c.args.world.now.header c.args.me c.args.world.now.world c.args.offer.opening c.args.offer.at_syn
    c.args.offer.window c.args.endpoint.now c.byte_of.result c.fin_of.result c.ask-2.result c.in_default.ensures.none
    c.byte_of.ensures c.in_default-ask.ensures.none c.fin_of.ensures c.ask-2.ensures.none
