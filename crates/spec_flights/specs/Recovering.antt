-- An endpoint recovers from a loss until all is acknowledged that was sent when it noticed it: by a timeout, or by
-- duplicate acknowledgments (RFC 5681, 3.2; RFC 6582, 3.2, `recover`).
use Rattle.std.specs.Prelude.{nat_le, nat_lt, Bool, true, false, ◌&&◌, if◌then◌else◌}
use Rattle.case_forms.specs.declared.timer.RecoveryChange.TheVariants.{Begins, IsUndone}
use Rattle.case_forms.specs.declared.timer.Timer.TheVariants.{Rto}
use Rattle.spec_duties.specs.declared.events.Event.{Event}
use Rattle.spec_duties.specs.declared.events.Event.TheVariants.{Expires, Recovers}
use Rattle.spec_duties.specs.declared.views.View.{View}
pub use Rattle.spec_flights.specs.declared.recovery.Recovery.{Recovery}

abbrev pub none_begun : Recovery
none_begun = record { point = 0; is_fast = false }

abbrev pub is_recovering : View → Recovery → Bool
is_recovering v r = nat_lt v.snd_una r.point

-- in fast recovery, and no timeout came since it began
abbrev pub is_repairing : View → Recovery → Bool
is_repairing v r = is_recovering v r && r.is_fast

-- after a step
abbrev pub recovery_after : Event → (after : View) → Recovery → Recovery
recovery_after (Expires Rto) after r = record { point = after.snd_max; is_fast = false }
recovery_after (Recovers Begins) after r = record { point = after.snd_max; is_fast = true }
recovery_after (Recovers IsUndone) after r = record r { point = 0 }
recovery_after event after r = if nat_le r.point after.snd_una then record r { point = 0 } else r
