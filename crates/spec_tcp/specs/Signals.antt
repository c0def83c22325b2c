-- Events at an endpoint as its congestion control sees them: no other definition distinguishes kinds of events for it
-- (RFC 5681, 3.1 and 3.2).
use Rattle.std.specs.Prelude.{ℕ, ◌==◌, nat_lt, not, ◌&&◌, if◌then◌else◌, Option}
use Rattle.std.specs.Option.{option_map_or}
use Rattle.case_forms.specs.States.{is_syn_sent}
use Rattle.case_forms.specs.Versions.{says_slack}
use Rattle.case_forms.specs.declared.version.Initial.{Initial}
use Rattle.case_forms.specs.declared.version.Initial.TheVariants as initials
use Rattle.case_forms.specs.declared.version.Judged.{Judged}
use Rattle.case_forms.specs.declared.version.Judged.TheVariants as judged
use Rattle.case_forms.specs.declared.version.Version.{Version}
use Rattle.case_forms.specs.declared.trace.Header.{Header}
use Rattle.window_rules.specs.declared.control.At.{At}
use Rattle.window_rules.specs.declared.control.Profile.{Profile}
use Rattle.window_rules.specs.declared.control.Profile.TheVariants as profiles
use Rattle.window_rules.specs.declared.control.Signal.{Signal}
use Rattle.window_rules.specs.declared.control.Signal.TheVariants.{Syn, SynAcked, NewAck, Duplicate, Other}
use Rattle.window_rules.specs.declared.control.Signal.TheVariants.{Timeout, Recovery}
use Rattle.window_rules.specs.declared.growth.SlowStart.{SlowStart}
use Rattle.window_rules.specs.declared.growth.SlowStart.TheVariants.{Recommended, Permitted}
use Rattle.spec_tcp.specs.Endpoints.{Endpoint, Emission, flight}
use Rattle.spec_tcp.specs.Arrives.OtherStates.Ack.{is_new_ack, acknowledges_syn, acked, is_duplicate}

-- how much slow start adds: from version 5 on, all that RFC 5681, 3.1, permits
abbrev pub slow_start_named : Version → SlowStart
slow_start_named version = if says_slack version then Permitted else Recommended

-- the profile for the version, for the RFC of the first window, and for how much of congestion control is judged
abbrev pub profile_named : Version → Initial → Judged → Profile
profile_named version initials.Rfc5681 judged.Full = profiles.Rfc5681 (slow_start_named version)
profile_named version initials.Rfc6928 judged.Full = profiles.Rfc6928 (slow_start_named version)
profile_named version initial judged.Recovery = profiles.Unbounded
profile_named version initial judged.NoControl = profiles.NoControl

-- the profile that the header names
abbrev pub profile_of : Header → Profile
profile_of h = profile_named h.version h.initial h.congestion

-- the moment, and the smoothed round trip before it
abbrev pub at_moment : Endpoint → ℕ → At
at_moment e moment = record { moment = moment; srtt = e.timers.srtt }

-- the segment size that a SYN carries, 536 if it has none or 0 (RFC 9293, 3.7.1)
abbrev pub told_smss : Option ℕ → ℕ
told_smss told = option_map_or (λ mss. if mss == 0 then 536 else mss) told 536

-- a segment that is processed in SYN-SENT
abbrev pub signal_at_syn : Endpoint → Emission → Signal
signal_at_syn e m =
    if not (m.flags.syn && not m.flags.rst) then Other
    else if m.flags.ack then SynAcked (told_smss m.mss) e.syn_lost
    else Syn (told_smss m.mss)

-- a segment that is processed in any other state
abbrev pub signal_in_other_states : Endpoint → Emission → Signal
signal_in_other_states e m =
    if acknowledges_syn e m then SynAcked e.control.values.smss e.syn_lost
    else if is_new_ack e m then NewAck (acked e m)
    else if is_duplicate e m then Duplicate
    else Other

-- a segment that is processed
abbrev pub signal_of : Endpoint → Emission → Signal
signal_of e m = if is_syn_sent e.state then signal_at_syn e m else signal_in_other_states e m

-- the retransmission timer expires, perhaps with the SYN pending, perhaps repeatedly
abbrev pub timeout_signal : Endpoint → Signal
timeout_signal e = Timeout (flight e) (e.stream.snd_una == 0) (nat_lt 0 e.backoffs)

-- fast recovery begins
abbrev pub recovery_signal : Endpoint → (ssthresh : ℕ) → Signal
recovery_signal e ssthresh = Recovery (flight e) ssthresh
