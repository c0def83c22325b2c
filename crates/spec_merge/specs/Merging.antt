-- Two hosts' entries in one order, with lines and built segments renumbered.
use Rattle.std.specs.Prelude.{ℕ, zero, suc, Bool, true, false, if◌then◌else◌, List, [], ◌∷◌, Option, None, Some}
use Rattle.case_forms.specs.declared.calls.Host.{Host}
use Rattle.spec_network.specs.Tables.{other, host_is, on}
use Rattle.spec_network.specs.Hosts.{Kernel, HostStep, Does, Expires, Makes, Sends, Gets, Hears, Takes, Drops, Answers}
use Rattle.spec_network.specs.Hosts.{Step, Begin, Finish, Effect, At, Stamped}
use Rattle.spec_network.specs.HostSteps.{makes}
use Rattle.spec_merge.specs.Books.{Key, Item, Do, Bring, Entry, item_line}

-- whether a step uses a number for a built segment
abbrev pub step_makes : (k : Kernel) → Step k.shape → Bool
step_makes k (Begin line t call) = false
step_makes k (Finish line t answer) = false
step_makes k (Effect t answer) = false
step_makes k (At host d) = makes k d

-- whether an item uses one
abbrev pub item_makes : (k : Kernel) → Item k.shape → Bool
item_makes k (Do step) = step_makes k step
item_makes k (Bring f) = false

-- a turn is a host's, or, if it is None, everybody's
abbrev pub mine : Host → Option Host → Bool
mine h None = true
mine h (Some host) = host_is host h

-- the place of turn n, given whether the first turn is one's own; f gives the places among the turns after it
abbrev pub pass : Bool → (ℕ → ℕ) → ℕ → ℕ
pass true f zero = zero
pass true f (suc n) = suc (f n)
pass false f n = suc (f n)

-- the place among all turns of this host's turn n; after the last turn it continues one by one
abbrev pub nth : Host → List (Option Host) → ℕ → ℕ
nth h [] n = n
nth h (m ∷ ms) n = pass (mine h m) (nth h ms) n

-- whose turn it is, line by line
abbrev pub line_turns : (k : Kernel) → List (Entry k.shape) → List (Option Host)
line_turns k [] = []
line_turns k (x ∷ xs) = on (item_line k x.item) (line_turns k xs) (λ line. Some x.key.host ∷ line_turns k xs)

-- whose turn it is, built segment by built segment
abbrev pub make_turns : (k : Kernel) → List (Entry k.shape) → List (Option Host)
make_turns k [] = []
make_turns k (x ∷ xs) = if item_makes k x.item then Some x.key.host ∷ make_turns k xs else make_turns k xs

-- that many turns of everybody at the front, for numbers below the first
abbrev pub heads : ℕ → List (Option Host) → List (Option Host)
heads zero ms = ms
heads (suc n) ms = None ∷ heads n ms

-- new numbers for each host's old ones
pub record Names : Type 0 where
  pub line : Host → ℕ → ℕ
  pub made : Host → ℕ → ℕ

-- the numbers of a list of both hosts' entries: event lines are numbered from the first on, built segments from 1 on
abbrev pub names_of : (k : Kernel) → ℕ → List (Entry k.shape) → Names
names_of k first xs =
    record { line = λ h. nth h (heads first (line_turns k xs)); made = λ h. nth h (heads 1 (make_turns k xs)) }

-- the step of host h alone, under new numbers
abbrev pub restep_at : (k : Kernel) → Names → Host → HostStep k.shape → HostStep k.shape
restep_at k names h (Does x) = Does x
restep_at k names h (Expires line x) = Expires (names.line h line) x
restep_at k names h (Makes x) = Makes x
restep_at k names h (Sends line number wire) = Sends (names.line h line) (names.made h number) wire
restep_at k names h (Gets line copied wire) = Gets (names.line h line) (names.line (other h) copied) wire
restep_at k names h (Hears line wire) = Hears (names.line h line) wire
restep_at k names h (Takes line how) = Takes (names.line h line) how
restep_at k names h (Drops line) = Drops (names.line h line)
restep_at k names h (Answers line) = Answers (names.line h line)

-- a step of host h under new numbers
abbrev pub restep : (k : Kernel) → Names → Host → Step k.shape → Step k.shape
restep k names h (Begin line t call) = Begin (names.line h line) t call
restep k names h (Finish line t answer) = Finish (names.line h line) t answer
restep k names h (Effect t answer) = Effect t answer
restep k names h (At host d) = At host (restep_at k names h d)

-- the step of an item before others; a segment that is delivered is no step
abbrev pub with_step : (k : Kernel) → Names → Key → Item k.shape → List (Stamped k.shape) → List (Stamped k.shape)
with_step k names key (Do step) xs = record { moment = key.moment; step = restep k names key.host step } ∷ xs
with_step k names key (Bring f) xs = xs

-- the steps of entries under new numbers
abbrev pub steps_of : (k : Kernel) → Names → List (Entry k.shape) → List (Stamped k.shape)
steps_of k names [] = []
steps_of k names (x ∷ xs) = with_step k names x.key x.item (steps_of k names xs)
