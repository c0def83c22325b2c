-- A pair with one value for each of the two hosts, and their tables, which are lists of entries by number.
use Rattle.std.specs.Prelude.{ℕ, zero, suc, nat_eq, Bool, true, false, List, Option, None, Some}
use Rattle.std.specs.Map.{lookup}
use Rattle.indexmap.specs.IndexMap.{insert_entry}
pub use Rattle.case_forms.specs.Hosts.{other}
use Rattle.case_forms.specs.declared.calls.Host.{Host}
use Rattle.case_forms.specs.declared.calls.Host.TheVariants.{Zero, One}

-- one value for each host
pub record Both (X : Type 0) : Type 0 where
  pub zero : X
  pub one : X

-- the value of that host
abbrev pub pick : {X : Type 0} → Both X → Host → X
pick both Zero = both.zero
pick both One = both.one

-- the pair with another value for that host
abbrev pub with_host : {X : Type 0} → Both X → Host → X → Both X
with_host both Zero x = record { zero = x; one = both.one }
with_host both One x = record { zero = both.zero; one = x }

-- whether two hosts are the same
abbrev pub host_is : Host → Host → Bool
host_is Zero Zero = true
host_is One One = true
host_is Zero One = false
host_is One Zero = false

-- the host of a thread or socket number if each host numbers its own: even numbers are host 0's
abbrev pub lane : ℕ → Host
lane zero = Zero
lane (suc n) = other (lane n)

-- a property of a value that may be missing: the first if it is missing
abbrev pub on : {A B : Type 0} → Option A → B → (A → B) → B
on None none some = none
on (Some x) none some = some x

-- a segment that was built, and whether it was sent
pub record Made (E : Type 0) : Type 0 where
  pub emission : E
  pub sent : Bool

-- a segment that was just built
abbrev pub unsent : {E : Type 0} → E → Made E
unsent e = record { emission = e; sent = false }

-- a segment that was sent
abbrev pub gone_out : {E : Type 0} → Made E → Made E
gone_out m = record { emission = m.emission; sent = true }

-- the segment that waits in an inbox under that number; a processed one left None in its place
abbrev pub waiting : {E : Type 0} → ℕ → List (ℕ × Option E) → Option E
waiting n inbox = on (lookup (nat_eq n) inbox) None (λ e. e)

-- an inbox in which nothing waits under that number any more
abbrev pub settled : {E : Type 0} → ℕ → List (ℕ × Option E) → List (ℕ × Option E)
settled n inbox = insert_entry nat_eq inbox n None
