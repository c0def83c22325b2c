use Rattle.std.proofs.Common.{◌≤◌, length, subst}
use Rattle.spec_network.specs.Tables.{pick}
use Rattle.spec_tcp.specs.Forgetting.{forget_body}
use Rattle.stack_core.specs.Entries.{steps_in}
use Rattle.stack_core.specs.Recordings.{Recorded, world_left}
use Rattle.stack_core.proofs.MadeLemmas.{few_kept}
use Rattle.stack_core.proofs.recording.Recording.few_endpoints.Goals as goal

pub returns : goal.returns
returns c =
    subst (λ (r : Recorded). length (forget_body (pick (world_left r).hosts r.me).body).endpoints ≤ steps_in r.entries)
    c.self.view_is (few_kept c.self.inside.me c.self.inside.world c.self.inside.entries.items c.self.invariant
    c.is_kept.ensures)
