-- The state of a case: the model's world, with whatever may be discarded discarded, and how many steps led there.
use Rattle.std.specs.Prelude.{ℕ, suc, nat_eq}
use Rattle.indexmap.specs.IndexMap.{insert_entry}
use Rattle.case_forms.specs.declared.calls.Host.{Host}
use Rattle.case_forms.specs.declared.trace.Header.{Header}
use Rattle.spec_network.specs.Tables.{Both, pick, with_host}
use Rattle.spec_network.specs.Hosts.{HostState, World, Step}
use Rattle.spec_network.specs.HostSteps as hosts
use Rattle.spec_tcp.specs.declared.endpoint.Emission.{Emission}
use Rattle.spec_tcp.specs.Machine.{tcp, tcp_shape}
use Rattle.spec_tcp.specs.Forgetting.{forget}

pub record Progress : Type 0 where
  -- the header of the case
  pub header : Header
  pub world : World tcp_shape
  -- the steps done
  pub steps : ℕ

-- before the first step
abbrev pub start : Header → Progress
start header = record { header = header; world = hosts.start (tcp header); steps = 0 }

-- after one step more at a moment
abbrev pub after : Progress → ℕ → Step tcp_shape → Progress
after p moment step = record p { world = forget (hosts.after (tcp p.header) moment p.world step); steps = suc p.steps }

-- both hosts, once a segment was put on that host's wire under that line, replacing any that was there
abbrev pub hosts_brought : Both (HostState tcp_shape) → Host → ℕ → Emission → Both (HostState tcp_shape)
hosts_brought hosts host line m =
    with_host hosts host (record (pick hosts host) { wire = insert_entry nat_eq (pick hosts host).wire line m })

-- the state once it was put there; that isn't a step, and what arrived stays as it was
abbrev pub brought : Progress → Host → ℕ → Emission → Progress
brought p host line m = record p { world = record p.world { hosts = hosts_brought p.world.hosts host line m } }
