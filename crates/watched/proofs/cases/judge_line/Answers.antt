use Rattle.std.proofs.Common.{◌∙◌, ap, sym}
use Rattle.spec_tcp.specs.Steps.{line_step}
use Rattle.spec_network.specs.Tables.{pick}
use Rattle.spec_cases.specs.Cases.{shows_untrue, untrue_at}
use Rattle.spec_duties.specs.Observations.{observe}
use Rattle.spec_duties.specs.declared.observations.Observation.{Observation}
use Rattle.watched.specs.Watched.{known_of}
use Rattle.watched.proofs.ExcuseLemmas.{line_sees, line_shown}
use Rattle.watched.proofs.cases.judge_line.Goals as goal

pub watch_step-requires-clause-seen : goal.watch_step-requires-clause-seen
watch_step-requires-clause-seen c =
    c.observe_sending-seen.ensures
    ∙ ap (λ line. observe c.args.world.now.header c.args.moment c.args.world.now.world (line_step line)) (sym c.in-Sent.is)

pub watch_step-requires-clause-untrue : goal.watch_step-requires-clause-untrue
watch_step-requires-clause-untrue c =
    c.shows_untrue-untrue.ensures
    ∙ ap (λ (s : Observation). shows_untrue c.args.world.now.header c.args.flights.now c.in-Sent.host
    (pick c.args.world.now.world.hosts c.in-Sent.host) c.in-Sent.made c.in-Sent.wire s) c.observe_sending-seen.ensures
    ∙ ap (λ line. untrue_at c.args.world.now.header c.args.moment (known_of c.args.world.now c.args.flights.now c.args.duties.now) (line_step line))
    (sym c.in-Sent.is)

pub watch_step-requires-clause-shown : goal.watch_step-requires-clause-shown
watch_step-requires-clause-shown c =
    line_sees c.args.world.now.header c.args.moment (known_of c.args.world.now c.args.flights.now c.args.duties.now) c.in-Some.taken _
    c.observe_sending-seen.result c.observe_sending-seen.ensures c.in-Sent.is

pub watch_step-requires-in-Expired-clause-shown : goal.watch_step-requires-in-Expired-clause-shown
watch_step-requires-in-Expired-clause-shown c =
    (λ i. (c.refused.ensures i).shown.now)
    ∙ c.observe_line-seen.ensures
    ∙ sym (line_shown c.args.world.now.header c.args.moment (known_of c.args.world.now c.args.flights.now c.args.duties.now) c.in-Some.taken)

pub watch_step-requires-in-CallBegin-clause-shown : goal.watch_step-requires-in-CallBegin-clause-shown
watch_step-requires-in-CallBegin-clause-shown c =
    (λ i. (c.refused-in-CallBegin.ensures i).shown.now)
    ∙ c.observe_line-seen-in-CallBegin.ensures
    ∙ sym (line_shown c.args.world.now.header c.args.moment (known_of c.args.world.now c.args.flights.now c.args.duties.now) c.in-Some.taken)
