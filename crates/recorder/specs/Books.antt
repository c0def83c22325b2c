-- What holds of a host's book.
use Rattle.std.specs.Prelude.{◌≡◌, ◌≤◌, ℕ, suc, List, [], ◌∷◌}
use Rattle.spec_network.specs.Hosts.{Step, Begin, Finish, Effect, At}
use Rattle.spec_tcp.specs.Machine.{tcp_shape}
use Rattle.spec_merge.specs.Books.{Item, Do, Bring}
use Rattle.spec_merge.specs.Recordings.{TcpEntry}
use Rattle.stack_core.specs.Cores.{Core}
use Rattle.recorder.specs.Naming.{AllAbove}

-- how many entries are lines that end a call
abbrev pub step_ends : Step tcp_shape → ℕ → ℕ
step_ends (Begin line t call) n = n
step_ends (Finish line t answer) n = suc n
step_ends (Effect t answer) n = n
step_ends (At host host_step) n = n

abbrev pub item_ends : Item tcp_shape → ℕ → ℕ
item_ends (Do step) n = step_ends step n
item_ends (Bring f) n = n

abbrev pub ends_in : List TcpEntry → ℕ
ends_in [] = 0
ends_in (x ∷ xs) = item_ends x.item (ends_in xs)

-- the total is the number of lines that end a call; what was brought has a key below that of its entry; and the counts
-- are small
pub record IsBook (c : Core) (total : ℕ) : Type 0 where
  pub ends : total ≡ ends_in c.recorded.entries
  pub few : total ≤ c.events
  pub events : c.events ≤ 10000000
  pub above : AllAbove c.recorded.entries

-- the header and the host are the same
abbrev pub IsSameSite : Core → Core → Type 0
IsSameSite c d = (d.recorded.header ≡ c.recorded.header) × (d.recorded.me ≡ c.recorded.me)
