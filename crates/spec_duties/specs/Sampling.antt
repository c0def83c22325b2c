-- A round trip is measured at least once for each flight of data, unless it was retransmitted (RFC 6298, 3).
use Rattle.std.specs.Prelude.{ℕ, ◌-◌, nat_le, nat_lt, Bool, true, false, not, ◌&&◌, ◌||◌, if◌then◌else◌}
use Rattle.case_forms.specs.States.{is_syn_sent}
use Rattle.case_forms.specs.Versions.{says_sender}
use Rattle.case_forms.specs.declared.steps.TakeChoice.{TakeChoice}
use Rattle.case_forms.specs.declared.version.Version.{Version}
use Rattle.streams.specs.Transmissions.{retransmitted}
use Rattle.spec_tcp.specs.Arrives.{Taker, Nobody, AtListener, AtEndpoint}
use Rattle.spec_tcp.specs.Arrives.OtherStates.Ack.{may_sample}
use Rattle.spec_tcp.specs.Heard.{as_read}
use Rattle.spec_tcp.specs.Makes.Payload.{making_length}
use Rattle.spec_tcp.specs.declared.endpoint.Emission.{Emission}
use Rattle.spec_tcp.specs.declared.endpoint.Endpoint.{Endpoint}
use Rattle.spec_duties.specs.Events.{Event, Builds}
use Rattle.spec_duties.specs.Views.{View}
pub use Rattle.spec_duties.specs.declared.observations.Sampling.{Sampling}
use Rattle.spec_duties.specs.declared.observations.Sampling.TheVariants as sampling

-- to process a segment may measure a round trip; in SYN-SENT, that of the own SYN
abbrev pub may_measure : Version → Endpoint → Emission → Bool
may_measure v e m =
    not m.flags.rst
    && (if is_syn_sent e.state then m.flags.ack && not (retransmitted e.transmissions e.stream.snd_una 1)
    else may_sample v e m)

-- what is measured is the last position that the segment acknowledges
abbrev pub sampling_by : Version → TakeChoice → Endpoint → Emission → Sampling
sampling_by v how e m =
    if how.sample then sampling.Measures
    else if may_measure v e m then sampling.Skips (m.ack - 1)
    else sampling.Nothing

-- the same for whoever processes it, in version 6; an endpoint reads the segment first
abbrev pub sampling_at : Version → TakeChoice → Emission → Taker → Sampling
sampling_at v how m Nobody = sampling.Nothing
sampling_at v how m (AtListener l) = sampling.Nothing
sampling_at v how m (AtEndpoint i e) =
    if says_sender v then sampling_by v how e (as_read v e m) else sampling.Nothing

abbrev pub is_measured : Sampling → Bool
is_measured sampling.Measures = true
is_measured it = false

-- positions are built that were built before
abbrev pub builds_again : Event → View → Bool
builds_again (Builds m) v = nat_lt 0 (making_length m) && nat_lt m.pos v.snd_max
builds_again event v = false

-- from which position on a round trip is to be measured
abbrev pub timed_after : Sampling → Event → (before after : View) → (timed : ℕ) → ℕ
timed_after s event before after timed =
    if is_measured s || builds_again event before then after.snd_max else timed

-- it could be measured, is due, and isn't
abbrev pub is_sample_due : Sampling → (timed : ℕ) → Bool
is_sample_due (sampling.Skips position) timed = nat_le timed position
is_sample_due it timed = false
