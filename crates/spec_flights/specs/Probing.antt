-- Probes for the loss of what was sent last (RFC 8985, 7).
use Rattle.std.specs.Prelude.{ℕ, ◌+◌, ◌*◌, nat_le, nat_lt, min, Bool, true, false, not, ◌&&◌, if◌then◌else◌, Option}
use Rattle.std.specs.Prelude.{None, Some}
use Rattle.std.specs.Option.{option_map_or}
use Rattle.case_forms.specs.declared.steps.SegmentPlan.{SegmentPlan}
use Rattle.case_forms.specs.declared.timer.RecoveryChange.TheVariants.{Begins}
use Rattle.case_forms.specs.declared.timer.Timer.TheVariants.{Pto, Rto}
use Rattle.spec_tcp.specs.Makes.Payload.{making_length}
use Rattle.spec_duties.specs.Events.{acknowledges_more}
use Rattle.spec_duties.specs.Strict.{is_fin_alone}
use Rattle.spec_duties.specs.declared.events.Event.{Event}
use Rattle.spec_duties.specs.declared.events.Event.TheVariants.{Builds, Expires, Processes, Recovers}
use Rattle.spec_duties.specs.declared.views.View.{View}
pub use Rattle.spec_flights.specs.declared.probing.Probe.{Probe}
pub use Rattle.spec_flights.specs.declared.probing.Probe.TheVariants.{Nothing, Due, Out}
pub use Rattle.spec_flights.specs.declared.probing.Probing.{Probing}

abbrev pub not_probing : Probing
not_probing = record { probe = Nothing; quiet = None }

abbrev pub is_due : Probe → Bool
is_due Due = true
is_due probe = false

-- none is due, nor on its way: there is at most one until it is acknowledged (RFC 8985, 7.3)
abbrev pub is_none : Probe → Bool
is_none Nothing = true
is_none probe = false

-- how long nothing may come or go before a probe: two round trips, or a second before one was measured (RFC 8985, 7.2)
abbrev pub probe_timeout : View → ℕ
probe_timeout v = option_map_or (λ srtt. 2 * srtt) v.timers.srtt 1000000

-- when it is due: not after the retransmission timer runs out (RFC 8985, 7.2)
abbrev pub probe_moment : View → (quiet : ℕ) → ℕ
probe_moment v quiet =
    option_map_or (λ since. min (quiet + probe_timeout v) (since + v.timers.rto)) v.timers.rto_armed
    (quiet + probe_timeout v)

-- a probe comes too early; `clock`: the moment, and how far a clock may be wrong
abbrev pub is_early_probe : (clock : ℕ) → View → (quiet : Option ℕ) → Bool
is_early_probe clock v quiet = option_map_or (λ q. nat_lt clock (probe_moment v q)) quiet false

-- a segment holds positions, and isn't a FIN without bytes that was sent before
abbrev pub makes_positions : View → SegmentPlan → Bool
makes_positions v m = nat_lt 0 (making_length m) && not (is_fin_alone m v)

-- a probe that is out is of no interest once all up to its end is acknowledged
abbrev pub probe_before : (after : View) → Probe → Probe
probe_before after (Out end) = if nat_le end after.snd_una then Nothing else Out end
probe_before after probe = probe

-- the next segment that holds positions is the probe that is due
abbrev pub probe_built : (before after : View) → SegmentPlan → Probe → Probe
probe_built before after m probe = if is_due probe && makes_positions before m then Out after.snd_max else probe

abbrev pub probe_after : Event → (before after : View) → Probe → Probe
probe_after (Expires Pto) before after probe = Due
probe_after (Expires Rto) before after probe = Nothing
probe_after (Recovers Begins) before after probe = Nothing
probe_after (Builds m) before after probe = probe_built before after m probe
probe_after event before after probe = probe_before after probe

-- something new is acknowledged, or is sent, but for a probe
abbrev pub ends_quiet : Event → (before after : View) → Probe → Bool
ends_quiet (Processes length rst) before after probe = acknowledges_more before after
ends_quiet (Builds m) before after probe = nat_lt before.snd_max after.snd_max && not (is_due probe)
ends_quiet event before after probe = false

abbrev pub probing_after : (moment : ℕ) → Event → (before after : View) → Probing → Probing
probing_after moment event before after p = record {
  probe = probe_after event before after p.probe;
  quiet = if ends_quiet event before after p.probe then Some moment else p.quiet;
}
