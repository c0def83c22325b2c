-- Segments that a host sent.
use Rattle.std.specs.Prelude.{◌≡◌, ◌≤◌, ◌<◌, nat_eq, Some}
use Rattle.std.specs.Map.{lookup}
use Rattle.case_forms.specs.Traces.{first_event_line}
use Rattle.spec_network.specs.Tables.{pick}
use Rattle.spec_tcp.specs.Machine.{tcp, tcp_shape}
use Rattle.spec_merge.specs.Books.{Flying, item_line}
use Rattle.spec_merge.specs.Keys.{EachEntry}
use Rattle.spec_merge.specs.Recordings.{next_line}
use Rattle.stack_core.specs.declared.tick.Tick.{Tick}
use Rattle.stack_core.specs.Recordings.{Recorded, world_left}

-- it is on the host's wire under a line that is recorded, with the key of that line
pub record HasFlown (r : Recorded) (f : Flying tcp_shape) : Type 0 where
  pub stands : lookup (nat_eq f.line) (pick (world_left r).hosts r.me).wire ≡ Some f.emission
  pub keyed : EachEntry (tcp r.header) (λ x. item_line (tcp r.header) x.item ≡ Some f.line → x.key ≡ f.key) r.entries
  pub recorded : f.line < next_line r.header (first_event_line r.header) r.entries

-- the tick is above the event that sent it
pub record IsAbove (f : Flying tcp_shape) (tick : Tick) : Type 0 where
  pub moment : f.key.moment ≤ tick.moment
  pub counter : f.key.counter < tick.counter
