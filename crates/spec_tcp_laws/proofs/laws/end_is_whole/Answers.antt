use Rattle.std.proofs.Common.{sym, ◌∙◌}
use Rattle.spec_network.specs.HostSteps.{start}
use Rattle.spec_tcp.specs.Machine.{tcp}
use Rattle.spec_tcp_laws.specs.Runs.{world_at_end}
use Rattle.spec_tcp_laws.proofs.Calls.{socket_here}
use Rattle.spec_tcp_laws.proofs.Ends.{has_all}
use Rattle.spec_tcp_laws.proofs.Runs.{steady_start, fine_start, fine_run, ended_run, matches_run, told_run}
use Rattle.spec_tcp_laws.proofs.laws.end_is_whole.Goals as goal

pub returns : goal.returns
returns c h whole steps may socket is =
    let a = (world_at_end h steps).hosts in
    let x = ended_run h (start (tcp h)) steps socket (steady_start h) may is in
    let me = x.0 in
    let e = x.2 in
    let g = fine_run h (start (tcp h)) steps (fine_start h whole) may in
    let all = has_all a me e.stream ((g.good me.host).endpoints me.number e x.3).stream x.4 in
    let mine = matches_run h steps may me e x.3 in
    let his = matches_run h steps may all.0 all.2.0 all.2.1 in (
      me,
      socket_here a me.host socket me.number x.1,
      (
        e,
        x.3,
        (
          all.0,
          all.1,
          record {
            whole = told_run h (start (tcp h)) steps socket me (steady_start h) may x.1 ∙ (mine.0 ∙ (all.2.2.0 ∙ sym his.1));
            ended = (all.2.0, all.2.1, all.2.2.1);
            by_step = his.2 ∙ all.2.2.1;
          },
        ),
      ),
    )
