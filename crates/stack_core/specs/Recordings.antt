-- What one host recorded, with the world that it left.
use Rattle.std.specs.Prelude.{◌≡◌, List, [], ◌∷◌, ◌++◌}
use Rattle.case_forms.specs.Traces.{first_event_line}
use Rattle.case_forms.specs.declared.calls.Host.{Host}
use Rattle.case_forms.specs.declared.trace.Header.{Header}
use Rattle.spec_network.specs.Hosts.{World}
use Rattle.spec_tcp.specs.Forgetting.{forget}
use Rattle.spec_tcp.specs.Machine.{tcp_shape}
use Rattle.endpoint_state.specs.Worlds.{Progress}
use Rattle.spec_merge.specs.Recordings.{TcpEntry, IsKept, MayJoin, world_of}
use Rattle.stack_core.specs.Entries.{steps_in}

pub record Recorded : Type 0 where
  pub header : Header
  pub me : Host
  pub entries : List TcpEntry

-- the whole world of this host, to which its entries lead
abbrev pub world_left : Recorded → World tcp_shape
world_left r = world_of r.header r.me r.entries

abbrev pub with_entry : Recorded → TcpEntry → Recorded
with_entry r x = record r { entries = r.entries ++ x ∷ [] }

-- it may be added: what is recorded is then still a run of the host
abbrev pub Joins : Recorded → TcpEntry → Type 0
Joins r x = MayJoin r.header r.me (first_event_line r.header) r.entries (x ∷ [])

-- the entries are a run of the host; the world is the one to which they lead, with whatever may be discarded discarded;
-- and its steps are theirs
pub record IsRecording (me : Host) (p : Progress) (entries : List TcpEntry) : Type 0 where
  pub kept : IsKept p.header me (first_event_line p.header) entries
  pub world : p.world ≡ forget (world_of p.header me entries)
  pub steps : p.steps ≡ steps_in entries
