use Rattle.std.proofs.Common.{◌≡◌, ◌+◌, ◌<◌, drop, subst, ap, ◌∙◌}
use Rattle.std.specs.Option.{option_map_or}
use Rattle.std.specs.Prelude.{slice_get}
use Rattle.spec_network.specs.Tables.{pick}
use Rattle.spec_tcp.specs.HostTcp.{HostTcp}
use Rattle.spec_duties.specs.End.{either, lates_at, lates_from}
use Rattle.spec_duties.specs.declared.owed.Lates.{Lates}
use Rattle.watched.proofs.EndLemmas.{lates_next}
use Rattle.watched.proofs.case_end.lates_of_host.Goals as goal

pub loop-place-preserved : goal.loop-place-preserved
loop-place-preserved c =
    let body : HostTcp = (pick c.args.world.now.world.hosts c.args.host).body in
    let found =
    subst (λ (b : HostTcp). c.lates_with-lates.result
    ≡ option_map_or (λ e. either c.loop-place.lates
    (lates_at c.args.at.header.now c.args.at.slack c.args.at.moment c.args.duties.now c.args.host c.loop-place.place e))
    (slice_get b.endpoints c.loop-place.place) c.loop-place.lates) c.body-body.ensures c.lates_with-lates.ensures in
    let within = subst (λ n. c.loop-place.place < n) c.places-place-end.ensures c.loop-place-test.true in
    ap (λ (l : Lates). lates_from c.args.at.header.now c.args.at.slack c.args.at.moment c.args.duties.now c.args.host (c.loop-place.place + 1) l
    (drop (c.loop-place.place + 1) body.endpoints)) found
    ∙ lates_next c.args.at.header.now c.args.at.slack c.args.at.moment c.args.duties.now c.args.host body.endpoints c.loop-place.place c.loop-place.lates within
    ∙ c.loop-place.invariant
