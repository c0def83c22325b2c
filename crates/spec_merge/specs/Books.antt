-- What one host's recorder stores: a run of that host alone, with the segments delivered from the other host.
use Rattle.std.specs.Prelude.{◌≡◌, ℕ, nat_eq, true, List, [], ◌∷◌, Option, None, Some}
use Rattle.indexmap.specs.IndexMap.{insert_entry}
use Rattle.case_forms.specs.declared.calls.Host.{Host}
use Rattle.spec_network.specs.Tables.{pick, other, with_host, lane}
use Rattle.spec_network.specs.Hosts.{Aim, ThatHost, ThatSocket, Shape, Kernel, World, HostStep, Expires, Sends, Gets}
use Rattle.spec_network.specs.Hosts.{Hears}
use Rattle.spec_network.specs.Hosts.{Step, Begin, Finish, Effect, At, Called, turn_of}
use Rattle.spec_network.specs.HostRules.{Permitted}
use Rattle.spec_network.specs.HostSteps.{after}

-- the place of an entry among those of both hosts: its moment, a count of its host, and its host
pub record Key : Type 0 where
  pub moment : ℕ
  pub counter : ℕ
  pub host : Host

-- a segment of the other host in transit, with the key and the line with which it was sent
pub record Flying (s : Shape) : Type 0 where
  pub key : Key
  pub line : ℕ
  pub emission : s.Emission

-- a step of this host, or a segment delivered from the other host
pub data Item (s : Shape) : Type 0 where
  Do : (step : Step s) → Item s
  Bring : (flying : Flying s) → Item s

-- an item under its key
pub record Entry (s : Shape) : Type 0 where
  pub key : Key
  pub item : Item s

-- the segment is on that host's wire under its line
abbrev pub bring : (k : Kernel) → Host → Flying k.shape → World k.shape → World k.shape
bring k host f w =
    record w {
      hosts =
          with_host w.hosts host (record (pick w.hosts host) {
            wire =
                insert_entry nat_eq (pick w.hosts host).wire f.line f.emission;
          });
    }

-- the world of host h alone after an item
abbrev pub next_item : (k : Kernel) → Host → ℕ → World k.shape → Item k.shape → World k.shape
next_item k h moment w (Do step) = after k moment w step
next_item k h moment w (Bring f) = bring k (other h) f w

-- and after an entry
abbrev pub next : (k : Kernel) → Host → World k.shape → Entry k.shape → World k.shape
next k h w x = next_item k h x.key.moment w x.item

-- and after all entries
abbrev pub end : (k : Kernel) → Host → World k.shape → List (Entry k.shape) → World k.shape
end k h w [] = w
end k h w (x ∷ xs) = end k h (next k h w x) xs

-- a call applies to host h, directly or by a socket number of its lane
abbrev pub Aims : Host → Aim → Type 0
Aims h (ThatHost host) = host ≡ h
Aims h (ThatSocket n) = lane n ≡ h

-- a step of this host, with the thread and socket numbers that are its own
abbrev pub OwnStep : (k : Kernel) → Host → World k.shape → Step k.shape → Type 0
OwnStep k h w (Begin line t call) = (lane t ≡ h) × Aims h (k.aim call)
OwnStep k h w (Finish line t answer) = lane t ≡ h
OwnStep k h w (Effect t answer) =
    (lane t ≡ h) × ((call : k.shape.Call) → turn_of t w.threads ≡ Called call → (n : ℕ) → k.gives call answer ≡ Some n
    → lane n ≡ h)
OwnStep k h w (At host d) = host ≡ h

-- a step is permitted and this host's own; any segment may be delivered
abbrev pub FitsItem : (k : Kernel) → Host → ℕ → World k.shape → Item k.shape → Type 0
FitsItem k h moment w (Do step) = Permitted k moment w step × OwnStep k h w step
FitsItem k h moment w (Bring f) = Unit {0}

-- all socket numbers that the host returned are of its lane
abbrev pub InLane : (k : Kernel) → Host → World k.shape → Type 0
InLane k h w = (n : ℕ) → k.given (pick w.hosts h).body n ≡ true → lane n ≡ h

-- a run of host h alone
abbrev pub HostRun : (k : Kernel) → Host → World k.shape → List (Entry k.shape) → Type 0
HostRun k h w [] = Unit {0}
HostRun k h w (x ∷ xs) = FitsItem k h x.key.moment w x.item × InLane k h (next k h w x) × HostRun k h (next k h w x) xs

-- the line that a host's step uses
abbrev pub host_step_line : (k : Kernel) → HostStep k.shape → Option ℕ
host_step_line k (Expires line x) = Some line
host_step_line k (Sends line number wire) = Some line
host_step_line k (Gets line copied wire) = Some line
host_step_line k (Hears line wire) = Some line
host_step_line k d = None

-- the line that a step uses
abbrev pub step_line : (k : Kernel) → Step k.shape → Option ℕ
step_line k (Begin line t call) = Some line
step_line k (Finish line t answer) = Some line
step_line k (Effect t answer) = None
step_line k (At host d) = host_step_line k d

-- the line that an item uses
abbrev pub item_line : (k : Kernel) → Item k.shape → Option ℕ
item_line k (Do step) = step_line k step
item_line k (Bring f) = None
