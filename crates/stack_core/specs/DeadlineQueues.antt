-- Which endpoints of a host are to be visited, and when: lists of entries, and what holds of endpoints without one.
use Rattle.std.specs.Prelude.{◌≡◌, ◌≤◌, ◌<◌, ◌⊎◌, ℕ, List, [], ◌∷◌, drop, length, slice_get, Some}
use Rattle.spec_tcp.specs.declared.endpoint.Endpoint.{Endpoint}
use Rattle.stack_core.specs.declared.deadline_queue.Affected.{Affected}
use Rattle.stack_core.specs.declared.deadline_queue.Affected.TheVariants as kinds
use Rattle.stack_core.specs.declared.deadline_queue.Deadline.{Deadline}

-- the entry is one of these
abbrev pub IsListed : Deadline → List Deadline → Type 0
IsListed w [] = ⊥
IsListed w (x ∷ xs) = (w ≡ x) ⊎ IsListed w xs

-- each of the first is one of the second
abbrev pub AreStill : List Deadline → List Deadline → Type 0
AreStill old new = (w : Deadline) → IsListed w old → IsListed w new

-- to be visited from a moment on, and at once
abbrev pub from : ℕ → ℕ → Deadline
from moment place = record { moment = moment; place = place }

abbrev pub at_once : ℕ → Deadline
at_once place = from 0 place

-- all are for this moment or a later one
abbrev pub AreFrom : ℕ → List Deadline → Type 0
AreFrom moment entries = (w : Deadline) → IsListed w entries → moment ≤ w.moment

-- each endpoint below a place has an entry with a moment before which nothing is due there, or nothing is ever due
-- there
pub record AreCovered (Before : ℕ → Endpoint → Type 0) (Ever : Endpoint → Type 0) (looked : ℕ)
    (entries : List Deadline) (es : List Endpoint) : Type 0 where
  pub within : looked ≤ length es
  pub each : (i : ℕ) (e : Endpoint) → i < looked → slice_get es i ≡ Some e
      → ((m : ℕ) × IsListed (from m i) entries × Before m e) ⊎ Ever e

-- what may be changed is listed
abbrev pub IsListedAgain : Affected → ℕ → List Deadline → Type 0
IsListedAgain kinds.Nobody looked entries = Unit {0}
IsListedAgain (kinds.Place i) looked entries = i < looked → IsListed (at_once i) entries
IsListedAgain kinds.All looked entries = ⊥

-- or no endpoint counts as visited
abbrev pub LooksAgain : Affected → (looked : ℕ) → List Deadline → (looked_then : ℕ) → List Deadline → Type 0
LooksAgain t looked entries looked_then entries_then =
    (looked_then ≡ 0) ⊎ ((looked_then ≡ looked) × AreStill entries entries_then × IsListedAgain t looked entries_then)

-- more are visited, of so many: each of these is listed
pub record IsGrown (count : ℕ) (looked : ℕ) (entries : List Deadline) (looked_then : ℕ)
    (entries_then : List Deadline) : Type 0 where
  pub more : looked ≤ looked_then
  pub within : looked ≤ count → looked_then ≤ count
  pub still : AreStill entries entries_then
  pub new : (i : ℕ) → looked ≤ i → i < looked_then → IsListed (at_once i) entries_then

-- the first entry was replaced by this one, or no endpoint counts as visited
abbrev pub IsRenewed : Deadline → (looked : ℕ) → List Deadline → (looked_then : ℕ) → List Deadline → Type 0
IsRenewed w looked entries looked_then entries_then =
    (looked_then ≡ 0) ⊎ ((looked_then ≡ looked) × AreStill (drop 1 entries) entries_then × IsListed w entries_then)

-- the endpoint at a place may be changed
abbrev pub IsAffectedAt : Affected → ℕ → Type 0
IsAffectedAt kinds.Nobody i = ⊥
IsAffectedAt (kinds.Place j) i = i ≡ j
IsAffectedAt kinds.All i = Unit {0}

-- endpoints stay as they are except for these, and none is removed
pub record Leaves (t : Affected) (es fs : List Endpoint) : Type 0 where
  pub back : (i : ℕ) (f : Endpoint) → i < length es → slice_get fs i ≡ Some f → IsAffectedAt t i
      ⊎ (slice_get es i ≡ Some f)
  pub count : length es ≤ length fs
