-- The timers of an endpoint, by name.
use Rattle.std.specs.Prelude.{◌≡◌, ℕ, true, if◌then◌else◌, List, [], ◌∷◌, codes}
use Rattle.case_forms.specs.declared.timer.Timer.{Timer}
use Rattle.case_forms.specs.declared.timer.Timer.TheVariants as timers
use Rattle.case_forms.specs.declared.version.Version.{Version}
use Rattle.case_forms.specs.Versions.{says_sender}

-- the name of a timer
abbrev pub timer_name : Timer → List ℕ
timer_name timers.Rto = codes "rto"
timer_name timers.Persist = codes "persist"
timer_name timers.Msl2 = codes "2msl"
timer_name timers.Giveup = codes "giveup"
timer_name timers.Pto = codes "pto"

-- the timers that a text of this version may name: `pto` from version 6 on
abbrev pub timers_of : Version → List Timer
timers_of v =
    timers.Rto ∷ timers.Persist ∷ timers.Msl2 ∷ timers.Giveup ∷ (if says_sender v then timers.Pto ∷ [] else [])

-- a text of this version may name the timer
abbrev pub IsTimer : Version → Timer → Type 0
IsTimer v timers.Pto = says_sender v ≡ true
IsTimer v _ = Unit {0}
