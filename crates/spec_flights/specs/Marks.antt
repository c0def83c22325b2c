-- What may be sent again is marked, once for each reason; sending it takes the mark.
use Rattle.std.specs.Prelude.{ℕ, ◌+◌, nat_lt, min, Bool, true, not, ◌&&◌, if◌then◌else◌, List, is_some}
use Rattle.std.specs.FinSet.{difference, from_list, items, union}
use Rattle.case_forms.specs.declared.steps.SegmentPlan.{SegmentPlan}
use Rattle.case_forms.specs.declared.timer.RecoveryChange.TheVariants.{IsUndone}
use Rattle.case_forms.specs.declared.timer.Timer.TheVariants.{Rto}
use Rattle.streams.specs.Ranges.{span}
use Rattle.spec_tcp.specs.Makes.Payload.{making_length}
use Rattle.spec_duties.specs.declared.events.Event.{Event}
use Rattle.spec_duties.specs.declared.events.Event.TheVariants.{Builds, Expires, Recovers}
use Rattle.spec_duties.specs.declared.observations.SynChange.{SynChange}
use Rattle.spec_duties.specs.Strict.{is_fin_alone}
use Rattle.spec_duties.specs.declared.views.View.{View}
use Rattle.spec_duties.specs.declared.observations.SynChange.TheVariants as syn_change
use Rattle.spec_flights.specs.Delivered.{Reports, without_reports}
use Rattle.spec_flights.specs.Stretches.{Stretch, no_positions}

-- ---- the reasons

-- all that is outstanding: after a timeout (RFC 6298, 5.4), even what the peer reported (RFC 2018, 8)
abbrev pub outstanding : View → Stretch
outstanding v = record { from = v.snd_una; upto = v.snd_max }

-- the first segment of it: "the lost segment starting at SND.UNA" (RFC 5681, 3.2, step 3; RFC 6582, 3.2, step 3)
abbrev pub oldest_segment : View → Stretch
oldest_segment v = record { from = v.snd_una; upto = min (v.snd_una + v.smss) v.snd_max }

-- its own SYN, when its peer's comes: an acknowledgment goes with it (RFC 9293, 3.10.7.3 and 3.10.7.4)
abbrev pub own_syn : View → Stretch
own_syn v = record { from = 0; upto = min 1 v.snd_max }

-- a window above 0 comes while the persist timer runs
abbrev pub opens_probed : (before after : View) → Bool
opens_probed before after = is_some before.timers.persist_armed && nat_lt 0 after.snd_wnd

-- what a step marks; `oldest`: it marks the first segment
abbrev pub marked_by_event : Event → (after : View) → (oldest : Bool) → Stretch
marked_by_event (Expires Rto) after oldest = outstanding after
marked_by_event event after oldest = if oldest then oldest_segment after else no_positions

-- the same for a step that takes or drops the SYN of its peer
abbrev pub marked_by : SynChange → Event → (after : View) → (oldest : Bool) → Stretch
marked_by (syn_change.Takes permits true) event after oldest = own_syn after
marked_by syn_change.ComesAgain event after oldest = own_syn after
marked_by change event after oldest = marked_by_event event after oldest

-- ---- sending takes the mark; a FIN without bytes needs none, and takes none (RFC 9293, 3.10.4). If a recovery
-- is undone, nothing needs to go again

-- the positions of a segment that were sent before
abbrev pub old_part : View → SegmentPlan → Stretch
old_part v m = record { from = m.pos; upto = min (m.pos + making_length m) v.snd_max }

-- it holds positions that were sent before, and isn't a FIN without bytes
abbrev pub goes_again : View → SegmentPlan → Bool
goes_again v m = nat_lt 0 (making_length m) && nat_lt m.pos v.snd_max && not (is_fin_alone m v)

abbrev pub taken_by : Event → View → Stretch
taken_by (Builds m) before = if is_fin_alone m before then no_positions else old_part before m
taken_by (Recovers IsUndone) before = outstanding before
taken_by event before = no_positions

-- what is marked after a step, in order; what is acknowledged is not, nor what blocks report
abbrev pub marks_after : SynChange → Event → (before after : View) → Reports → (oldest : Bool) → (marks : List ℕ)
    → List ℕ
marks_after change event before after r oldest marks =
    let taken : Stretch = taken_by event before in
    let marked : Stretch = marked_by change event after oldest in
    items
    (difference (union (without_reports (difference (from_list marks) (span taken.from taken.upto)) r)
    (span marked.from marked.upto))
    (span 0 after.snd_una))
