-- Runs that are computed: where version 5 permits more than version 4. Host 0 alone is recorded, with segments of 50 bytes.
use Rattle.std.proofs.Common.{◌≡◌, refl, ℕ, ◌+◌, Bool, true, false, List, [], ◌∷◌, ◌++◌, Option, None, Some}
use Rattle.case_forms.specs.Versions.{first_line_of}
use Rattle.case_forms.specs.declared.calls.Answer.TheVariants as answers
use Rattle.case_forms.specs.declared.calls.Call.TheVariants as calls
use Rattle.case_forms.specs.declared.calls.Host.TheVariants.{Zero}
use Rattle.case_forms.specs.declared.steps.Step as witness
use Rattle.case_forms.specs.declared.timer.Timer.TheVariants.{Rto}
use Rattle.case_forms.specs.declared.trace.Header.{Header}
use Rattle.case_forms.specs.declared.trace.Line as lines
use Rattle.case_forms.specs.declared.version.Initial.TheVariants as initials
use Rattle.case_forms.specs.declared.version.Judged.TheVariants.{Full, Recovery}
use Rattle.case_forms.specs.declared.version.Version.TheVariants.{FourHalf, Five, FiveHalf}
use Rattle.case_forms.specs.declared.version.Version.{Version}
use Rattle.verdict.specs.declared.rule.Rule.TheVariants as rules
use Rattle.verdict.specs.declared.rule.Rule.{Rule}
use Rattle.window_rules.specs.declared.control.Profile.TheVariants as profiles
use Rattle.window_rules.specs.declared.growth.SlowStart.TheVariants.{Permitted}
use Rattle.spec_tcp.specs.Signals.{profile_named}
use Rattle.spec_tcp.specs.Steps.{first_broken_step}
use Rattle.spec_tcp.proofs.Telling.{header, packet, ack, begins, consumes, effects, ends, expires, gets, makes, sends, sevens, syn, takes, takes_of, takes_with}

-- the profiles
pub slow_start_is_permitted : profile_named Five initials.Rfc6928 Full ≡ profiles.Rfc6928 Permitted
slow_start_is_permitted = refl

pub recovery_is_judged_as_before : profile_named Five initials.Rfc6928 Recovery ≡ profiles.Unbounded
recovery_is_judged_as_before = refl

-- host 0 opens, sends 20 bytes, and has a congestion window of 200; the first event line has this number
abbrev sending_lines : ℕ → List lines.Line
sending_lines n =
    begins n 20 2 (calls.Connect Zero 4000 80)
    ∷ ends (n + 1) 21 2 (answers.Given 6)
    ∷ sends (n + 2) 30 3 Zero (packet 4000 80 1000 0 2 65535 None [])
    ∷ gets (n + 3) 60 3 Zero (packet 80 4000 100 1001 18 65535 (Some 50) [])
    ∷ begins (n + 4) 100 2 (calls.Send 6 (sevens 0 20))
    ∷ ends (n + 5) 101 2 (answers.Given 20)
    ∷ []

abbrev sending_steps : ℕ → List witness.Step
sending_steps n =
    takes 20 n
    ∷ effects 20 2 (answers.Given 6)
    ∷ takes 21 (n + 1)
    ∷ makes 30 Zero 4000 80 0 0 syn 65535 (Some 1000)
    ∷ takes_of 30 (n + 2) 1
    ∷ takes 60 (n + 3)
    ∷ consumes 61 Zero (n + 3) 200 false true
    ∷ takes 100 (n + 4)
    ∷ effects 100 2 (answers.Given 20)
    ∷ takes 101 (n + 5)
    ∷ makes 110 Zero 4000 80 1 20 ack 65535 None
    ∷ []

-- they are acknowledged, and the window is chosen
abbrev grows : Version → (cwnd : ℕ) → Option (ℕ × Rule)
grows version cwnd =
    let n = first_line_of version in
    first_broken_step (record (header 120000000 0) { version = version })
    (sending_lines n ++ (gets (n + 6) 120 3 Zero (packet 80 4000 101 1021 16 65535 None []) ∷ []))
    (sending_steps n ++ (takes 120 (n + 6) ∷ consumes 121 Zero (n + 6) cwnd false false ∷ []))

pub slow_start_adds_what_is_acknowledged : grows FourHalf 220 ≡ None
slow_start_adds_what_is_acknowledged = refl

pub it_adds_no_more : grows FourHalf 221 ≡ Some (14, rules.Growth)
it_adds_no_more = refl

pub slow_start_adds_smss : grows FiveHalf 250 ≡ None
slow_start_adds_smss = refl

pub it_adds_no_more_than_smss : grows FiveHalf 251 ≡ Some (14, rules.Growth)
it_adds_no_more_than_smss = refl

-- ten of them are sent again, bytes are acknowledged up to this number, and the round trip is measured
abbrev measures : Version → (number : ℕ) → Option (ℕ × Rule)
measures version number =
    let n = first_line_of version in
    first_broken_step (record (header 120000000 0) { version = version })
    (sending_lines n ++ (
    expires (n + 6) 1000110 3 Zero 4000 80 Rto
    ∷ gets (n + 7) 1000120 3 Zero (packet 80 4000 101 number 16 65535 None [])
    ∷ []))
    (sending_steps n ++ (
    takes_with 1000110 (n + 6) 50 100
    ∷ makes 1000111 Zero 4000 80 1 10 ack 65535 None
    ∷ takes 1000120 (n + 7)
    ∷ consumes 1000121 Zero (n + 7) 50 false true
    ∷ []))

pub no_sample_beside_what_was_sent_again : measures FourHalf 1021 ≡ Some (16, rules.Sample)
no_sample_beside_what_was_sent_again = refl

pub a_sample_of_the_last_position : measures FiveHalf 1021 ≡ None
a_sample_of_the_last_position = refl

pub the_last_position_was_sent_once : measures FiveHalf 1012 ≡ None
the_last_position_was_sent_once = refl

pub no_sample_of_what_was_sent_again : measures FiveHalf 1011 ≡ Some (16, rules.Sample)
no_sample_of_what_was_sent_again = refl
