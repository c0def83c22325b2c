use Rattle.std.proofs.Common.{ap, ◌∙◌, Option}
use Rattle.std.specs.Option.{option_copied, option_map_or}
use Rattle.case_forms.specs.declared.calls.Call.{Call}
use Rattle.spec_network.specs.Tables.{pick}
use Rattle.spec_tcp.specs.HostTcp.{HostTcp}
use Rattle.stack_core.specs.declared.deadline_queue.Affected.TheVariants.{Nobody}
use Rattle.stack_core.specs.Cores.{Core, world}
use Rattle.stack_core.specs.Recordings.{world_left}
use Rattle.stack_core.specs.Affected.{affected_by_call, affected_by_effect}
use Rattle.stack_core.proofs.AffectedLemmas.{affected-forget}
use Rattle.stack_core.proofs.host_core.HostCore.affected_by_thread.Goals as goal

pub returns : goal.returns
returns c =
    let r = c.self.inside.recording in
    c.affected_by_effect.ensures ∙ ap (λ (b : HostTcp). option_map_or (affected_by_call b) (option_copied c.pending_call-pending.result) Nobody) c.body.ensures
    ∙ affected-forget (pick (world_left r).hosts r.me).body (option_copied c.pending_call-pending.result)
    ∙ ap (λ (o : Option Call). option_map_or (affected_by_call (pick (world_left r).hosts r.me).body) o Nobody) c.pending_call-pending.ensures
    ∙ ap (λ (k : Core). affected_by_effect k.recorded.me (world k) c.args.thread) c.self.view_is
