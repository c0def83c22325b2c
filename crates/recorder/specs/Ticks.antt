-- When a host's next event is.
use Rattle.std.specs.Prelude.{◌≤◌, ◌<◌, ◌⊎◌, ℕ, suc, max}
use Rattle.stack_core.specs.declared.tick.Tick.{Tick}
use Rattle.stack_core.specs.Cores.{Core}

-- its moment is the greater of this one and that of the last event; its counter is one more than the greater of this
-- one and that of the last event
abbrev pub tick_after : Tick → ℕ → ℕ → Tick
tick_after last moment counter = record { moment = max moment last.moment; counter = suc (max counter last.counter) }

-- there is none: the host had 10,000,000 events, or the tick would pass the limits
abbrev pub IsOver : Core → ℕ → ℕ → Type 0
IsOver c moment counter =
    (10000000 ≤ c.events) ⊎ ((1000000000000000000 < max moment c.last.moment)
    ⊎ (1000000000000000000 ≤ max counter c.last.counter))
