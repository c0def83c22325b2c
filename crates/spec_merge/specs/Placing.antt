-- The lines that steps of both hosts use, in one order, and when steps are a placement of lines and a run.
use Rattle.std.specs.Prelude.{◌≡◌, ℕ, ◌+◌, ◌<◌, ◌≤◌, List, [], ◌∷◌, Option, None, Some}
use Rattle.std.specs.List.{slice_get}
use Rattle.case_forms.specs.declared.calls.Host.{Host}
use Rattle.spec_network.specs.Tables.{on}
use Rattle.spec_network.specs.Hosts.{Shape, Kernel, Idle, HostStep, Expires, Sends, Gets, Hears, Step, Begin, Finish}
use Rattle.spec_network.specs.Hosts.{Effect, At, Stamped}
use Rattle.spec_network.specs.HostSteps.{start, Lawful}
use Rattle.spec_network.specs.Turns.{Turns}
use Rattle.spec_merge.specs.Books.{Entry, step_line}
use Rattle.spec_merge.specs.Merging.{steps_of, names_of}
use Rattle.spec_merge.specs.Keys.{merge}

-- the content of a line
pub data Event (s : Shape) : Type 0 where
  CallBegin : (thread : ℕ) (call : s.Call) → Event s
  CallEnd : (thread : ℕ) (answer : s.Answer) → Event s
  Sent : (host : Host) (wire : s.Wire) → Event s
  Came : (host : Host) (wire : s.Wire) → Event s
  Expired : (host : Host) (expiry : s.Expiry) → Event s

-- a line of a trace; its number is its place, counted from the first
pub record Line (s : Shape) : Type 0 where
  pub moment : ℕ
  pub event : Event s

-- the content of the line that a host's step uses
abbrev pub host_step_event : (k : Kernel) → Host → HostStep k.shape → Option (Event k.shape)
host_step_event k host (Expires line x) = Some (Expired host (k.expiry x))
host_step_event k host (Sends line number wire) = Some (Sent host wire)
host_step_event k host (Gets line copied wire) = Some (Came host wire)
host_step_event k host (Hears line wire) = Some (Came host wire)
host_step_event k host d = None

-- the content of the line that a step uses
abbrev pub event_of : (k : Kernel) → Step k.shape → Option (Event k.shape)
event_of k (Begin line t call) = Some (CallBegin t call)
event_of k (Finish line t answer) = Some (CallEnd t answer)
event_of k (Effect t answer) = None
event_of k (At host d) = host_step_event k host d

-- the lines that these steps use, each at its step's moment
abbrev pub lines_of : (k : Kernel) → List (Stamped k.shape) → List (Line k.shape)
lines_of k [] = []
lines_of k (x ∷ xs) =
    on (event_of k x.step) (lines_of k xs) (λ e. record { moment = x.moment; event = e } ∷ lines_of k xs)

-- the moments of these steps don't fall, and none is below m
abbrev pub MomentsRise : (k : Kernel) → ℕ → List (Stamped k.shape) → Type 0
MomentsRise k m [] = Unit {0}
MomentsRise k m (x ∷ xs) = (m ≤ x.moment) × MomentsRise k x.moment xs

-- the step at this place uses this line, at its moment or at most the skew later
abbrev pub TakesLine : (k : Kernel) → ℕ → ℕ → Line k.shape → List (Stamped k.shape) → ℕ → Type 0
TakesLine k skew number line steps p =
    (x : Stamped k.shape) × (slice_get steps p ≡ Some x) × (step_line k x.step ≡ Some number) ×
    (event_of k x.step ≡ Some line.event) × (line.moment ≤ x.moment) × (x.moment ≤ line.moment + skew)

-- the step at this place uses the line of that number
abbrev pub NamesAt : (k : Kernel) → List (Stamped k.shape) → ℕ → ℕ → Type 0
NamesAt k steps p number = (x : Stamped k.shape) × (slice_get steps p ≡ Some x) × (step_line k x.step ≡ Some number)

-- steps are a placement of lines that are numbered from the first on: moments don't fall, each line is used in time and
-- once, no other line is used, the lines are in order, and in each thread calls take turns
pub record Placement (k : Kernel) (skew first : ℕ) (lines : List (Line k.shape))
    (steps : List (Stamped k.shape)) : Type 0 where
  pub moments : MomentsRise k 0 steps
  pub taken : (i : ℕ) (line : Line k.shape) → slice_get lines i ≡ Some line → (p : ℕ)
      × TakesLine k skew (first + i) line steps p
  pub once : (p q number : ℕ) → NamesAt k steps p number → NamesAt k steps q number → p ≡ q
  pub only : (p number : ℕ) → NamesAt k steps p number → (i : ℕ) × (line : Line k.shape) × (number ≡ first + i)
      × (slice_get lines i ≡ Some line)
  pub order : (p q m n : ℕ) → NamesAt k steps p m → NamesAt k steps q n → m < n → p < q
  pub turns : (t : ℕ) → Turns k t Idle steps

-- the steps of two books, merged, with lines and built segments renumbered
abbrev pub merged_steps : (k : Kernel) → ℕ → List (Entry k.shape) → List (Entry k.shape) → List (Stamped k.shape)
merged_steps k first xs ys = steps_of k (names_of k first (merge k xs ys)) (merge k xs ys)

-- steps are a run, and a placement of these lines
abbrev pub IsPlacedRun : (k : Kernel) → ℕ → ℕ → List (Line k.shape) → List (Stamped k.shape) → Type 0
IsPlacedRun k skew first lines steps = Placement k skew first lines steps × Lawful k (start k) steps
