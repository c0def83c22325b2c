-- What two hosts recorded, each by itself, as one run of the model; and how a recording grows.
use Rattle.std.specs.Prelude.{◌≡◌, ℕ, suc, false, List, [], ◌∷◌}
use Rattle.case_forms.specs.declared.trace.Header.{Header}
use Rattle.case_forms.specs.declared.calls.Host.{Host}
use Rattle.streams.specs.Lists.{IsPrefixOf}
use Rattle.spec_network.specs.Tables.{on}
use Rattle.spec_network.specs.Hosts.{World, Stamped}
use Rattle.spec_network.specs.HostSteps.{start}
use Rattle.spec_merge.specs.Books.{Entry, HostRun, end, item_line}
use Rattle.spec_merge.specs.Keys.{Books, Numbered, EachEntry, KeysRise, NamesOne, before}
use Rattle.spec_merge.specs.Placing.{Line, lines_of, merged_steps}
use Rattle.spec_tcp.specs.Machine.{tcp, tcp_shape}

-- an entry of a recording: a step of the host, or a segment delivered from the other host, under its key
abbrev pub TcpEntry : Type 0
TcpEntry = Entry tcp_shape

-- two recordings merged: their steps in the order of their keys, with lines numbered from the first on and built
-- segments from 1 on
abbrev pub merged : Header → ℕ → List TcpEntry → List TcpEntry → List (Stamped tcp_shape)
merged h first zeros ones = merged_steps (tcp h) first zeros ones

-- the lines that the merged steps use, in order
abbrev pub merged_lines : Header → ℕ → List TcpEntry → List TcpEntry → List (Line tcp_shape)
merged_lines h first zeros ones = lines_of (tcp h) (merged h first zeros ones)

-- these are the first steps of two matching books, merged: all of them, or fewer
abbrev pub AreFirstSteps : Header → ℕ → (zeros ones : List TcpEntry) → List (Stamped tcp_shape) → Type 0
AreFirstSteps h first zeros ones steps = Books (tcp h) first zeros ones × IsPrefixOf steps (merged h first zeros ones)

-- the world of a host alone once it recorded these entries
abbrev pub world_of : Header → Host → List TcpEntry → World tcp_shape
world_of h me entries = end (tcp h) me (start (tcp h)) entries

-- the number of the line after those of these entries, of which the first has this number
abbrev pub next_line : Header → ℕ → List TcpEntry → ℕ
next_line h n [] = n
next_line h n (x ∷ xs) = next_line h (on (item_line (tcp h) x.item) n (λ line. suc n)) xs

-- what a host stores while it records: a run of this host alone, whose lines are numbered from the first on, under keys
-- of its own that don't fall
pub record IsKept (h : Header) (me : Host) (first : ℕ) (entries : List TcpEntry) : Type 0 where
  pub runs : HostRun (tcp h) me (start (tcp h)) entries
  pub numbered : Numbered (tcp h) first entries
  pub keys : KeysRise (tcp h) me entries

-- entries that may join: a run that continues from the current world, with lines numbered on, under keys none of which
-- comes before an existing one
pub record MayJoin (h : Header) (me : Host) (first : ℕ) (old new : List TcpEntry) : Type 0 where
  pub runs : HostRun (tcp h) me (world_of h me old) new
  pub numbered : Numbered (tcp h) (next_line h first old) new
  pub keys : KeysRise (tcp h) me new
  pub above : EachEntry (tcp h) (λ x. EachEntry (tcp h) (λ y. before y.key x.key ≡ false) new) old

-- each segment that was delivered is one of the other host's: it is on that host's last wire under its line, with the
-- key of that line, which is below the key of the arrival
abbrev pub NamesSent : Header → Host → (mine others : List TcpEntry) → Type 0
NamesSent h other mine others =
    EachEntry (tcp h) (λ x. NamesOne (tcp h) other (world_of h other others) others x.key x.item) mine
