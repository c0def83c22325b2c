use Rattle.std.proofs.Common.{◌≡◌, Some, sym, ◌∙◌, subst, arith}
use Rattle.std.specs.Prelude.{slice_get}
use Rattle.std.proofs.lemmas.Option.{same_Some}
use Rattle.streams.proofs.Fronts.{front_at}
use Rattle.spec_network.specs.HostSteps.{start}
use Rattle.spec_tcp.specs.declared.endpoint.EndpointId.{EndpointId}
use Rattle.spec_tcp.specs.declared.endpoint.Endpoint.{Endpoint}
use Rattle.spec_tcp.specs.Machine.{tcp}
use Rattle.spec_tcp_laws.specs.Runs.{world_at_end}
use Rattle.spec_tcp_laws.specs.Consequences.{HasStream}
use Rattle.spec_tcp_laws.proofs.Later.{all_cells}
use Rattle.spec_tcp_laws.proofs.Steps.{kept_step}
use Rattle.spec_tcp_laws.proofs.Runs.{fine_run, fine_start, later_step}
use Rattle.spec_tcp_laws.proofs.laws.acknowledged_was_taken.Goals as goal

pub returns : goal.returns
returns c h whole steps x may next me f at position low below =
    let a = (world_at_end h steps).hosts in
    let g = fine_run h (start (tcp h)) steps (fine_start h whole) may in
    let later = later_step h x.moment (world_at_end h steps) x.step g.steady next in
    let step = kept_step h whole x.moment (world_at_end h steps) x.step g.good later next in
    let y = step.before me f at (omega arith) in
    let q = y.0 in
    let t = y.2.0 in
    let cell = front_at t.stream.receive.taken position (let up = y.2.2.1 in omega arith) in
    let from = ((g.good q.host).endpoints q.number t y.2.1).stream.taken position cell.0 cell.1 in
    let mine : HasStream a me (λ s. slice_get (all_cells s) position ≡ Some cell.0) =
    subst (λ (k : EndpointId). HasStream a k (λ s. slice_get (all_cells s) position ≡ Some cell.0))
    (same_Some from.0 me (sym from.1 ∙ y.2.2.0)) from.2 in
    let now = later me mine.0 mine.1 in
    let one = same_Some now.0 f (sym now.1 ∙ at) in
    let there = subst (λ (e : Endpoint). slice_get (all_cells e.stream) position ≡ Some cell.0) one (now.2.cells position cell.0 mine.2) in
    (q, y.1, (t, y.2.1, (y.2.2.0, cell.0, cell.1, there)))
