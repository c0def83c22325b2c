use Rattle.std.proofs.Common.{◌≡◌, Some, sym, ap, ◌∙◌}
use Rattle.std.specs.Prelude.{slice_get}
use Rattle.spec_tcp.specs.HostTcp.{HostTcp}
use Rattle.spec_tcp.specs.declared.endpoint.Endpoint.{Endpoint}
use Rattle.stack_core.specs.Makings.{IsTried}
use Rattle.stack_core.proofs.MakingLemmas.{inside, nothing, one_more}
use Rattle.stack_core.proofs.next_segment.find_making.Goals as goal

pub loop-endpoint-preserved : goal.loop-endpoint-preserved
loop-endpoint-preserved c =
    one_more (λ (e : Endpoint). IsTried c.args.world.now.header c.args.me c.args.world.now.world e)
    c.body-body.result.now.endpoints c.loop-endpoint.place c.in-Some.endpoint.now
    c.loop-endpoint.invariant (sym c.in-Some.ensures) c.in_default-try_endpoint.ensures.none

pub returns-clause-none : goal.returns-clause-none
returns-clause-none c = nothing c.args.world.now.header c.args.me c.args.world.now.world (λ i e at.
    let there : slice_get c.body-body.result.now.endpoints i ≡ Some e = ap (λ (b : HostTcp). slice_get b.endpoints i) c.body-body.ensures ∙ at in
    c.loop-endpoint.invariant i e (inside c.body-body.result.now.endpoints i c.loop-endpoint.place e there (sym c.in_default.ensures)) there)
