-- What is computed of version 2, windows that are scaled and the first window of RFC 6928; and of version 3, where host 0 alone is recorded.
use Rattle.std.proofs.Common.{◌≡◌, refl, ℕ, true, false, List, [], ◌∷◌, ◌++◌, Bool, Option, None, Some}
use Rattle.case_forms.specs.declared.calls.Host.TheVariants as hosts
use Rattle.case_forms.specs.declared.calls.Host.{Host}
use Rattle.case_forms.specs.declared.calls.Call.TheVariants as calls
use Rattle.case_forms.specs.declared.calls.Answer.{Answer}
use Rattle.case_forms.specs.declared.calls.Answer.TheVariants as answers
use Rattle.case_forms.specs.declared.calls.State.TheVariants as states
use Rattle.case_forms.specs.declared.steps.Flags.{Flags}
use Rattle.case_forms.specs.declared.steps.Label.TheVariants as labels
use Rattle.case_forms.specs.declared.steps.Step as witness
use Rattle.case_forms.specs.declared.trace.Header.{Header}
use Rattle.case_forms.specs.declared.trace.Line as lines
use Rattle.case_forms.specs.declared.trace.Wire.{Wire}
use Rattle.case_forms.specs.declared.version.Initial.TheVariants.{Rfc5681, Rfc6928}
use Rattle.case_forms.specs.declared.version.Initial.{Initial}
use Rattle.case_forms.specs.declared.version.Version.TheVariants.{Three, Two}
use Rattle.segment.specs.declared.fields.Segment.{Segment}
use Rattle.segment.specs.Encoding.{as_written, encoding}
use Rattle.verdict.specs.declared.rule.Rule.TheVariants as rules
use Rattle.spec_tcp.specs.Endpoints.{is_scaling, new_endpoint, window_in}
use Rattle.window_rules.specs.declared.control.Profile.TheVariants as profiles
use Rattle.window_rules.specs.declared.growth.SlowStart.TheVariants.{Recommended}
use Rattle.spec_tcp.specs.Steps.{first_broken_step}
use Rattle.spec_tcp.proofs.Telling.{header, packet, begins, ends, sends, gets, step, takes, takes_of, effects, consumes, makes, ack, syn, syn_ack}

-- a window of 750 by a shift of 2; a SYN's is never scaled, and a byte of 15 is read as 14
pub scaled_by_four : window_in true false (Some 2) 750 ≡ 3000
scaled_by_four = refl

pub a_syn_is_not_scaled : window_in true true (Some 2) 750 ≡ 750
a_syn_is_not_scaled = refl

pub fifteen_is_fourteen : window_in true false (Some 15) 1 ≡ 16384
fifteen_is_fourteen = refl

pub one_side_alone_scales_nothing : is_scaling (record (new_endpoint 4000 80 None states.Established (profiles.Rfc5681 Recommended)) { shift = Some 7 }) ≡ false
one_side_alone_scales_nothing = refl

abbrev second : Initial → Header
second initial = record (header 120000000 0) { version = Two; initial = initial }

-- a SYN that tells a shift, or none
abbrev greeting : (src dst seq number flags : ℕ) → Option ℕ → Wire
greeting src dst seq number flags scale =
    let shown : Segment =
    record {
      src = src;
      dst = dst;
      seq = record { 0 = seq };
      ack = record { 0 = number };
      flags = flags;
      window = 65535;
      mss = None;
      scale = scale;
      options = [];
      payload = [];
    } in
    record { bytes = encoding shown; seg = as_written shown }

abbrev greets : ℕ → Host → (lport rport : ℕ) → Flags → ℕ → Option ℕ → witness.Step
greets moment host lport rport flags iss shift =
    step moment (labels.M host (record {
      lport = lport;
      rport = rport;
      pos = 0;
      len = 0;
      flags = flags;
      window = 65535;
      iss = Some (record { 0 = iss });
      shift = shift;
    }))

-- a handshake, in which the SYNs tell these shifts
abbrev handshake_lines : (syn_tells answer_tells : Option ℕ) → List lines.Line
handshake_lines syn_tells answer_tells =
    begins 8 10 1 (calls.Listen hosts.One 80 4)
    ∷ ends 9 11 1 (answers.Given 5)
    ∷ begins 10 20 2 (calls.Connect hosts.Zero 4000 80)
    ∷ ends 11 21 2 (answers.Given 6)
    ∷ sends 12 30 3 hosts.Zero (greeting 4000 80 4294967294 0 2 syn_tells)
    ∷ gets 13 40 4 hosts.One (greeting 4000 80 4294967294 0 2 syn_tells)
    ∷ sends 14 50 4 hosts.One (greeting 80 4000 100 4294967295 18 answer_tells)
    ∷ gets 15 60 3 hosts.Zero (greeting 80 4000 100 4294967295 18 answer_tells)
    ∷ sends 16 70 3 hosts.Zero (packet 4000 80 4294967295 101 16 65535 None [])
    ∷ gets 17 80 4 hosts.One (packet 4000 80 4294967295 101 16 65535 None [])
    ∷ []

-- its steps, in which the endpoints give these shifts, and the first has this congestion window then
abbrev handshake_steps : (given answered : Option ℕ) (cwnd : ℕ) → List witness.Step
handshake_steps given answered cwnd =
    takes 10 8
    ∷ effects 10 1 (answers.Given 5)
    ∷ takes 11 9
    ∷ takes 20 10
    ∷ effects 20 2 (answers.Given 6)
    ∷ takes 21 11
    ∷ greets 30 hosts.Zero 4000 80 syn 4294967294 given
    ∷ takes_of 30 12 1
    ∷ takes_of 40 13 12
    ∷ consumes 41 hosts.One 13 0 false false
    ∷ greets 50 hosts.One 80 4000 syn_ack 100 answered
    ∷ takes_of 50 14 2
    ∷ takes_of 60 15 14
    ∷ consumes 61 hosts.Zero 15 cwnd false true
    ∷ makes 70 hosts.Zero 4000 80 1 0 ack 65535 None
    ∷ takes_of 70 16 3
    ∷ takes_of 80 17 16
    ∷ consumes 81 hosts.One 17 2144 false true
    ∷ []

-- both tell a shift
pub both_scale : first_broken_step (second Rfc5681) (handshake_lines (Some 7) (Some 2)) (handshake_steps (Some 7) (Some 2) 2144) ≡ None
both_scale = refl

-- the second gave a shift and its SYN doesn't tell it, so that the first doesn't scale and the second does
pub one_tells_no_shift : first_broken_step (second Rfc5681) (handshake_lines (Some 7) None)
    (handshake_steps (Some 7) (Some 2) 2144) ≡ Some (19, rules.ScaleUnread)
one_tells_no_shift = refl

-- a SYN tells another shift than was given, or one where none was given
pub another_shift : first_broken_step (second Rfc5681) (handshake_lines (Some 6) (Some 2))
    (handshake_steps (Some 7) (Some 2) 2144) ≡ Some (9, rules.BytesDiffer)
another_shift = refl

pub a_shift_of_nobody : first_broken_step (second Rfc5681) (handshake_lines (Some 7) (Some 2))
    (handshake_steps None (Some 2) 2144) ≡ Some (9, rules.BytesDiffer)
a_shift_of_nobody = refl

-- ten segments of 536 bytes by RFC 6928, and not by RFC 5681
pub ten_segments : first_broken_step (second Rfc6928) (handshake_lines None None) (handshake_steps None None 5360) ≡ None
ten_segments = refl

pub not_a_byte_more : first_broken_step (second Rfc6928) (handshake_lines None None) (handshake_steps None None 5361) ≡ Some (15, rules.Growth)
not_a_byte_more = refl

pub four_segments_by_the_older : first_broken_step (second Rfc5681) (handshake_lines None None) (handshake_steps None None 5360) ≡ Some (15, rules.Growth)
four_segments_by_the_older = refl

-- the second offers a window of 1 by its shift of 2; of six bytes the first may make four, and not five
abbrev offers_lines : List lines.Line
offers_lines =
    handshake_lines (Some 7) (Some 2) ++ (
    begins 18 100 2 (calls.Send 6 (104 ∷ 101 ∷ 108 ∷ 108 ∷ 111 ∷ 33 ∷ []))
    ∷ sends 19 110 4 hosts.One (packet 80 4000 101 4294967295 16 1 None [])
    ∷ gets 20 120 3 hosts.Zero (packet 80 4000 101 4294967295 16 1 None [])
    ∷ [])

abbrev offers_steps : (len : ℕ) → List witness.Step
offers_steps len =
    handshake_steps (Some 7) (Some 2) 2144 ++ (
    takes 100 18
    ∷ effects 100 2 (answers.Given 6)
    ∷ offers
    ∷ takes_of 110 19 4
    ∷ takes_of 120 20 19
    ∷ consumes 121 hosts.Zero 20 2144 true false
    ∷ makes 122 hosts.Zero 4000 80 1 len ack 65535 None
    ∷ [])
  where
    offers : witness.Step
    offers = step 110 (labels.M hosts.One (record { lport = 80; rport = 4000; pos = 1; len = 0; flags = ack; window = 1; iss = None; shift = None }))

pub a_scaled_window_is_filled : first_broken_step (second Rfc5681) offers_lines (offers_steps 4) ≡ None
a_scaled_window_is_filled = refl

pub no_byte_beyond_a_scaled_window : first_broken_step (second Rfc5681) offers_lines (offers_steps 5) ≡ Some (26, rules.Offered)
no_byte_beyond_a_scaled_window = refl

-- host 0 alone is recorded: it opens, and hears the other host's SYN
abbrev pub half : Header
half = record (header 120000000 0) { version = Three }

abbrev pub half_lines : List lines.Line
half_lines =
    begins 9 20 2 (calls.Connect hosts.Zero 4000 80)
    ∷ ends 10 21 2 (answers.Given 6)
    ∷ sends 11 30 3 hosts.Zero (packet 4000 80 4294967294 0 2 65535 None [])
    ∷ gets 12 60 3 hosts.Zero (packet 80 4000 100 4294967295 18 65535 None [])
    ∷ sends 13 70 3 hosts.Zero (packet 4000 80 4294967295 101 16 65535 None [])
    ∷ begins 14 100 2 (calls.Send 6 (104 ∷ 101 ∷ 108 ∷ 108 ∷ 111 ∷ []))
    ∷ ends 15 101 2 (answers.Given 5)
    ∷ sends 16 110 3 hosts.Zero (packet 4000 80 4294967295 101 24 65535 None (104 ∷ 101 ∷ 108 ∷ 108 ∷ 111 ∷ []))
    ∷ []

-- it sends five bytes
abbrev pub half_steps : List witness.Step
half_steps =
    takes 20 9
    ∷ effects 20 2 (answers.Given 6)
    ∷ takes 21 10
    ∷ makes 30 hosts.Zero 4000 80 0 0 syn 65535 (Some 4294967294)
    ∷ takes_of 30 11 1
    ∷ takes 60 12
    ∷ consumes 61 hosts.Zero 12 2144 false true
    ∷ makes 70 hosts.Zero 4000 80 1 0 ack 65535 None
    ∷ takes_of 70 13 2
    ∷ takes 100 14
    ∷ effects 100 2 (answers.Given 5)
    ∷ takes 101 15
    ∷ makes 110 hosts.Zero 4000 80 1 5 ack 65535 None
    ∷ takes_of 110 16 3
    ∷ []

pub half_sends : first_broken_step half half_lines half_steps ≡ None
half_sends = refl

-- two bytes are heard, and a read is told these
abbrev pub hears_lines : List lines.Line
hears_lines =
    half_lines ++ (
    gets 17 120 3 hosts.Zero (packet 80 4000 101 4 24 65535 None (104 ∷ 105 ∷ []))
    ∷ begins 18 130 2 (calls.Recv 6 100)
    ∷ [])

abbrev pub hears_steps : (keep : Bool) → List ℕ → List witness.Step
hears_steps keep told = half_steps ++ (takes 120 17 ∷ consumes 121 hosts.Zero 17 2144 keep false ∷ takes 130 18 ∷ effects 130 2 (answers.Bytes told) ∷ [])

pub a_read_is_told_what_was_carried : first_broken_step half hears_lines (hears_steps true (104 ∷ 105 ∷ [])) ≡ None
a_read_is_told_what_was_carried = refl

pub no_read_is_told_another_byte : first_broken_step half hears_lines (hears_steps true (104 ∷ 106 ∷ [])) ≡ Some (19, rules.CallAnswer)
no_read_is_told_another_byte = refl

pub no_read_is_told_a_byte_more : first_broken_step half hears_lines (hears_steps true (104 ∷ 105 ∷ 105 ∷ [])) ≡ Some (19, rules.CallAnswer)
no_read_is_told_a_byte_more = refl

pub nor_what_was_not_kept : first_broken_step half hears_lines (hears_steps false (104 ∷ 105 ∷ [])) ≡ Some (19, rules.CallAnswer)
nor_what_was_not_kept = refl

-- this is heard then, and taken
abbrev hears : Wire → List lines.Line
hears wire = half_lines ++ (gets 17 120 3 hosts.Zero wire ∷ [])

abbrev then_taken : List witness.Step
then_taken = half_steps ++ (takes 120 17 ∷ consumes 121 hosts.Zero 17 2144 false false ∷ [])

-- a number below the SYN's has no position
pub below_the_first_position : first_broken_step half (hears (packet 80 4000 99 4294967295 16 65535 None [])) then_taken ≡ Some (17, rules.Number)
below_the_first_position = refl

pub below_the_window : first_broken_step half (hears (packet 80 4000 100 4294967295 16 65535 None [])) then_taken ≡ Some (17, rules.Unacceptable)
below_the_window = refl

-- of a reset the acknowledgment isn't read; its number has to be in the window
pub any_reset_counts : first_broken_step half (hears (packet 80 4000 101 12345 20 65535 None [])) then_taken ≡ None
any_reset_counts = refl

pub no_reset_below_the_window : first_broken_step half (hears (packet 80 4000 100 12345 20 65535 None [])) then_taken ≡ Some (17, rules.Unacceptable)
no_reset_below_the_window = refl

pub no_second_syn : first_broken_step half (hears (packet 80 4000 101 4294967295 18 65535 None [])) then_taken ≡ Some (17, rules.Unacceptable)
no_second_syn = refl

-- one byte is heard at the second position, then these from the first position on, with these flags
abbrev conflict_lines : (flags : ℕ) → List ℕ → List lines.Line
conflict_lines flags bytes =
    half_lines ++ (
    gets 17 120 3 hosts.Zero (packet 80 4000 102 4 24 65535 None (88 ∷ []))
    ∷ gets 18 121 3 hosts.Zero (packet 80 4000 101 4 flags 65535 None bytes)
    ∷ begins 19 130 2 (calls.Recv 6 100)
    ∷ ends 20 131 2 (answers.Bytes (97 ∷ 88 ∷ []))
    ∷ begins 21 132 2 (calls.Recv 6 100)
    ∷ [])

abbrev conflict_steps : List ℕ → List witness.Step
conflict_steps told =
    half_steps ++ (
    takes 120 17
    ∷ consumes 120 hosts.Zero 17 2144 true false
    ∷ takes 121 18
    ∷ consumes 122 hosts.Zero 18 2144 true false
    ∷ takes 130 19
    ∷ effects 130 2 (answers.Bytes told)
    ∷ [])

-- the byte that was taken first stays
pub the_first_byte_stays : first_broken_step half (conflict_lines 24 (97 ∷ 98 ∷ 99 ∷ [])) (conflict_steps (97 ∷ 88 ∷ 99 ∷ [])) ≡ None
the_first_byte_stays = refl

pub the_second_byte_does_not : first_broken_step half (conflict_lines 24 (97 ∷ 98 ∷ 99 ∷ [])) (conflict_steps (97 ∷ 98 ∷ 99 ∷ [])) ≡ Some (21, rules.CallAnswer)
the_second_byte_does_not = refl

-- a FIN where a byte was taken isn't kept: no read is told the end
abbrev told_the_end : Answer → List witness.Step
told_the_end answer = conflict_steps (97 ∷ 88 ∷ []) ++ (takes 131 20 ∷ takes 132 21 ∷ effects 132 2 answer ∷ [])

pub no_end_below_a_byte : first_broken_step half (conflict_lines 25 (97 ∷ [])) (told_the_end answers.Eof) ≡ Some (24, rules.CallAnswer)
no_end_below_a_byte = refl

pub there_is_more_to_come : first_broken_step half (conflict_lines 25 (97 ∷ [])) (told_the_end answers.Again) ≡ None
there_is_more_to_come = refl

pub an_end_behind_it : first_broken_step half (conflict_lines 25 (97 ∷ 98 ∷ [])) (told_the_end answers.Eof) ≡ None
an_end_behind_it = refl
