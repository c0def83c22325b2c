-- Lines and made segments of two hosts, renumbered.
use Rattle.std.specs.Prelude.{◌≤◌, ℕ, ◌+◌, ◌-◌, nat_lt, Bool, true, false, if◌then◌else◌}
use Rattle.std.specs.Prelude.{List, [], ◌∷◌, ◌++◌, length, slice_get, unwrap_or}
use Rattle.case_forms.specs.declared.calls.Host.{Host}
use Rattle.case_forms.specs.declared.calls.Host.TheVariants.{Zero, One}
use Rattle.spec_network.specs.Hosts.{HostStep, Expires, Makes, Sends, Gets, Hears, Takes, Drops, Answers, Step, Begin}
use Rattle.spec_network.specs.Hosts.{Finish, Effect, At}
use Rattle.spec_tcp.specs.Machine.{tcp_shape}
use Rattle.spec_merge.specs.Books.{Item, Do, Bring}
use Rattle.spec_merge.specs.Merging.{Names}
use Rattle.spec_merge.specs.Recordings.{TcpEntry}

-- whether a host's step takes a line, and a step, and an item
abbrev pub host_step_takes : HostStep tcp_shape → Bool
host_step_takes (Expires line x) = true
host_step_takes (Sends line number wire) = true
host_step_takes (Gets line copied wire) = true
host_step_takes (Hears line wire) = true
host_step_takes host_step = false

abbrev pub step_takes : Step tcp_shape → Bool
step_takes (Begin line t call) = true
step_takes (Finish line t answer) = true
step_takes (Effect t answer) = false
step_takes (At host host_step) = host_step_takes host_step

abbrev pub takes_line : Item tcp_shape → Bool
takes_line (Do step) = step_takes step
takes_line (Bring f) = false

-- whether it makes a segment
abbrev pub host_step_makes : HostStep tcp_shape → Bool
host_step_makes (Makes plan) = true
host_step_makes (Answers line) = true
host_step_makes host_step = false

abbrev pub step_makes : Step tcp_shape → Bool
step_makes (At host host_step) = host_step_makes host_step
step_makes step = false

abbrev pub makes_segment : Item tcp_shape → Bool
makes_segment (Do step) = step_makes step
makes_segment (Bring f) = false

-- the new numbers of each host's lines or made segments, in its own order; the number of the first of all, and of the
-- next
pub record Turns : Type 0 where
  pub zero : List ℕ
  pub one : List ℕ
  pub first : ℕ
  pub next : ℕ

abbrev pub no_turns : ℕ → Turns
no_turns first = record { zero = []; one = []; first = first; next = first }

abbrev pub turns_of : Turns → Host → List ℕ
turns_of t Zero = t.zero
turns_of t One = t.one

-- the next number is that host's
abbrev pub with_turn : Turns → Host → Turns
with_turn t Zero = record t { zero = t.zero ++ t.next ∷ []; next = t.next + 1 }
with_turn t One = record t { one = t.one ++ t.next ∷ []; next = t.next + 1 }

abbrev pub with_turn_if : Bool → Turns → Host → Turns
with_turn_if true t h = with_turn t h
with_turn_if false t h = t

-- the new number of a host's line or made segment of this number: unchanged before the first, and counting on after the
-- last
abbrev pub number_in : Turns → Host → ℕ → ℕ
number_in t h n =
    if nat_lt n t.first then n
    else unwrap_or (slice_get (turns_of t h) (n - t.first)) (n + (t.next - t.first - length (turns_of t h)))

-- those of lines, and of made segments
pub record Counts : Type 0 where
  pub lines : Turns
  pub mades : Turns

abbrev pub no_counts : ℕ → Counts
no_counts first = record { lines = no_turns first; mades = no_turns 1 }

abbrev pub counted_one : Counts → TcpEntry → Counts
counted_one c x = record {
  lines = with_turn_if (takes_line x.item) c.lines x.key.host;
  mades = with_turn_if (makes_segment x.item) c.mades x.key.host;
}

-- all of these entries counted
abbrev pub counted : Counts → List TcpEntry → Counts
counted c [] = c
counted c (x ∷ xs) = counted (counted_one c x) xs

-- the new numbers
abbrev pub names_in : Counts → Names
names_in c = record { line = number_in c.lines; made = number_in c.mades }

-- the new numbers, if lines and made segments were counted like this
abbrev pub names_by : Turns → Turns → Names
names_by lines mades = names_in (record { lines = lines; mades = mades })

-- numbers that are small
abbrev pub IsSmall : ℕ → Type 0
IsSmall n = n ≤ 2147483647

-- the numbers that a host's step names are small, those that a step names, those of an item, and of each entry
abbrev pub IsSmallHostStep : HostStep tcp_shape → Type 0
IsSmallHostStep (Expires line x) = IsSmall line
IsSmallHostStep (Sends line number wire) = IsSmall line × IsSmall number
IsSmallHostStep (Gets line copied wire) = IsSmall line × IsSmall copied
IsSmallHostStep (Hears line wire) = IsSmall line
IsSmallHostStep (Takes line choice) = IsSmall line
IsSmallHostStep (Drops line) = IsSmall line
IsSmallHostStep (Answers line) = IsSmall line
IsSmallHostStep host_step = Unit {0}

abbrev pub IsSmallStep : Step tcp_shape → Type 0
IsSmallStep (Begin line t call) = IsSmall line
IsSmallStep (Finish line t answer) = IsSmall line
IsSmallStep (Effect t answer) = Unit {0}
IsSmallStep (At host host_step) = IsSmallHostStep host_step

abbrev pub IsSmallItem : Item tcp_shape → Type 0
IsSmallItem (Do step) = IsSmallStep step
IsSmallItem (Bring f) = Unit {0}

abbrev pub AllSmall : List TcpEntry → Type 0
AllSmall [] = Unit {0}
AllSmall (x ∷ xs) = IsSmallItem x.item × AllSmall xs
