-- Runs that are computed: probes, timeouts, samples, and the wait in TIME-WAIT.
use Rattle.std.proofs.Common.{◌≡◌, refl, true, false, List, [], ◌∷◌, ◌++◌, take, None, Some}
use Rattle.case_forms.specs.declared.calls.Host.TheVariants.{Zero, One}
use Rattle.case_forms.specs.declared.calls.Call.TheVariants as calls
use Rattle.case_forms.specs.declared.calls.Answer.TheVariants as answers
use Rattle.case_forms.specs.declared.timer.Timer.TheVariants.{Rto, Persist, Msl2, Pto}
use Rattle.case_forms.specs.declared.trace.Line as lines
use Rattle.case_forms.specs.declared.steps.Step as witness
use Rattle.verdict.specs.declared.rule.Rule.TheVariants as rules
use Rattle.spec_tcp.specs.Steps.{first_broken_step}
use Rattle.spec_tcp.proofs.Telling.{header, packet, begins, ends, sends, gets, expires, takes, takes_of, takes_with, effects}
use Rattle.spec_tcp.proofs.Telling.{makes, consumes, drops, ack, syn, fin_ack, opening_lines, opening_steps, slow_opening_lines}
use Rattle.spec_tcp.proofs.Telling.{slow_opening_steps, sevens}

-- a byte behind a window of 0, once the persist timer expired
abbrev pub a_probe_may_go_lines : List lines.Line
a_probe_may_go_lines =
    slow_opening_lines 4 0 None ++ (
    begins 17 90 1 (calls.Accept 5)
    ∷ ends 18 91 1 (answers.Given 7)
    ∷ begins 19 100 2 (calls.Send 6 (104 ∷ 101 ∷ 108 ∷ 108 ∷ 111 ∷ []))
    ∷ ends 20 101 2 (answers.Given 5)
    ∷ expires 21 999061 3 Zero 4000 80 Persist
    ∷ [])

abbrev pub a_probe_may_go_steps : List witness.Step
a_probe_may_go_steps =
    slow_opening_steps 0 2144 ++ (
    takes 90 17
    ∷ effects 90 1 (answers.Given 7)
    ∷ takes 91 18
    ∷ takes 100 19
    ∷ effects 100 2 (answers.Given 5)
    ∷ takes 101 20
    ∷ takes 999061 21
    ∷ makes 999062 Zero 4000 80 1 1 ack 65535 None
    ∷ [])

pub a_probe_may_go : first_broken_step (header 120000000 0) a_probe_may_go_lines a_probe_may_go_steps ≡ None
a_probe_may_go = refl

-- two bytes are too many
abbrev pub a_probe_is_one_byte_steps : List witness.Step
a_probe_is_one_byte_steps = take 25 a_probe_may_go_steps ++ (makes 999062 Zero 4000 80 1 2 ack 65535 None ∷ [])

pub a_probe_is_one_byte : first_broken_step (header 120000000 0) a_probe_may_go_lines a_probe_is_one_byte_steps ≡ Some (27, rules.Offered)
a_probe_is_one_byte = refl

-- no byte may go before that
abbrev pub no_probe_without_expiry_lines : List lines.Line
no_probe_without_expiry_lines = take 14 a_probe_may_go_lines

abbrev pub no_probe_without_expiry_steps : List witness.Step
no_probe_without_expiry_steps = take 24 a_probe_may_go_steps ++ (makes 999062 Zero 4000 80 1 1 ack 65535 None ∷ [])

pub no_probe_without_expiry : first_broken_step (header 120000000 0) no_probe_without_expiry_lines no_probe_without_expiry_steps ≡ Some (26, rules.Offered)
no_probe_without_expiry = refl

-- the persist timer may not expire a microsecond earlier
abbrev pub persist_timer_runs_lines : List lines.Line
persist_timer_runs_lines = take 14 a_probe_may_go_lines ++ (expires 21 999060 3 Zero 4000 80 Persist ∷ [])

abbrev pub persist_timer_runs_steps : List witness.Step
persist_timer_runs_steps = take 24 a_probe_may_go_steps ++ (takes 999060 21 ∷ makes 999062 Zero 4000 80 1 1 ack 65535 None ∷ [])

pub persist_timer_runs : first_broken_step (header 120000000 0) persist_timer_runs_lines persist_timer_runs_steps ≡ Some (26, rules.TimerEarly)
persist_timer_runs = refl

-- once the window opens, the byte of the probe may go again, with others
abbrev pub probe_goes_again_lines : List lines.Line
probe_goes_again_lines =
    take 15 a_probe_may_go_lines ++ (sends 22 999063 4 One (packet 80 4000 101 4294967295 16 65535 None [])
    ∷ gets 23 999064 3 Zero (packet 80 4000 101 4294967295 16 65535 None []) ∷ [])

abbrev pub probe_goes_again_steps : List witness.Step
probe_goes_again_steps = take 26 a_probe_may_go_steps ++ (
    makes 999063 One 80 4000 1 0 ack 65535 None
    ∷ takes_of 999063 22 5
    ∷ takes_of 999064 23 22
    ∷ consumes 999065 Zero 23 2144 false false
    ∷ makes 999066 Zero 4000 80 1 5 ack 65535 None
    ∷ [])

pub probe_goes_again : first_broken_step (header 120000000 0) probe_goes_again_lines probe_goes_again_steps ≡ None
probe_goes_again = refl

-- not before
abbrev pub probe_goes_not_again_steps : List witness.Step
probe_goes_not_again_steps = take 29 probe_goes_again_steps ++ (drops 999065 Zero 23 ∷ makes 999066 Zero 4000 80 1 5 ack 65535 None ∷ [])

pub probe_goes_not_again : first_broken_step (header 120000000 0) probe_goes_again_lines probe_goes_not_again_steps ≡ Some (32, rules.OldData)
probe_goes_not_again = refl

-- the retransmission timer of a SYN
abbrev pub syn_times_out_lines : List lines.Line
syn_times_out_lines =
    begins 7 20 2 (calls.Connect Zero 4000 80)
    ∷ ends 8 21 2 (answers.Given 6)
    ∷ sends 9 30 3 Zero (packet 4000 80 4294967294 0 2 65535 None [])
    ∷ expires 10 999030 9 Zero 4000 80 Rto
    ∷ []

abbrev pub syn_times_out_steps : List witness.Step
syn_times_out_steps =
    takes 20 7
    ∷ effects 20 2 (answers.Given 6)
    ∷ takes 21 8
    ∷ makes 30 Zero 4000 80 0 0 syn 65535 (Some 4294967294)
    ∷ takes_of 30 9 1
    ∷ takes_with 999030 10 536 4294967295
    ∷ []

pub syn_times_out : first_broken_step (header 120000000 0) syn_times_out_lines syn_times_out_steps ≡ None
syn_times_out = refl

-- not a microsecond earlier
abbrev pub syn_times_out_in_time_lines : List lines.Line
syn_times_out_in_time_lines =
    begins 7 20 2 (calls.Connect Zero 4000 80)
    ∷ ends 8 21 2 (answers.Given 6)
    ∷ sends 9 30 3 Zero (packet 4000 80 4294967294 0 2 65535 None [])
    ∷ expires 10 999029 9 Zero 4000 80 Rto
    ∷ []

abbrev pub syn_times_out_in_time_steps : List witness.Step
syn_times_out_in_time_steps =
    takes 20 7
    ∷ effects 20 2 (answers.Given 6)
    ∷ takes 21 8
    ∷ makes 30 Zero 4000 80 0 0 syn 65535 (Some 4294967294)
    ∷ takes_of 30 9 1
    ∷ takes_with 999029 10 536 4294967295
    ∷ []

pub syn_times_out_in_time : first_broken_step (header 120000000 0) syn_times_out_in_time_lines syn_times_out_in_time_steps ≡ Some (7, rules.TimerEarly)
syn_times_out_in_time = refl

-- nothing was made, so nothing expires
abbrev pub nothing_times_out_lines : List lines.Line
nothing_times_out_lines =
    begins 7 20 2 (calls.Connect Zero 4000 80)
    ∷ ends 8 21 2 (answers.Given 6)
    ∷ expires 9 999030 9 Zero 4000 80 Rto
    ∷ []

abbrev pub nothing_times_out_steps : List witness.Step
nothing_times_out_steps =
    takes 20 7
    ∷ effects 20 2 (answers.Given 6)
    ∷ takes 21 8
    ∷ takes_with 999030 9 536 4294967295
    ∷ []

pub nothing_times_out : first_broken_step (header 120000000 0) nothing_times_out_lines nothing_times_out_steps ≡ Some (5, rules.TimerOff)
nothing_times_out = refl

-- a probe for a loss, while a SYN is outstanding
abbrev pub nothing_is_probed_lines : List lines.Line
nothing_is_probed_lines =
    begins 7 20 2 (calls.Connect Zero 4000 80)
    ∷ ends 8 21 2 (answers.Given 6)
    ∷ expires 9 999030 9 Zero 4000 80 Pto
    ∷ []

pub nothing_is_probed : first_broken_step (header 120000000 0) nothing_is_probed_lines
    (takes 20 7 ∷ effects 20 2 (answers.Given 6) ∷ takes 21 8 ∷ makes 30 Zero 4000 80 0 0 syn 65535 (Some 100) ∷ takes 999030 9 ∷ [])
    ≡ Some (6, rules.TimerOff)
nothing_is_probed = refl

-- what was made twice is not measured
abbrev pub no_sample_of_what_was_made_twice_lines : List lines.Line
no_sample_of_what_was_made_twice_lines =
    opening_lines None ++ (
    begins 17 20 2 (calls.Send 6 (sevens 0 20))
    ∷ ends 18 21 2 (answers.Given 20)
    ∷ expires 19 999021 9 Zero 4000 80 Rto
    ∷ sends 20 999022 3 Zero (packet 4000 80 1004 50001 16 65535 None (sevens 3 6))
    ∷ gets 21 999023 6 One (packet 4000 80 1004 50001 16 65535 None (sevens 3 6))
    ∷ sends 22 999024 3 Zero (packet 4000 80 1001 50001 16 65535 None (sevens 0 4))
    ∷ gets 23 999025 6 One (packet 4000 80 1001 50001 16 65535 None (sevens 0 4))
    ∷ sends 24 999026 4 One (packet 80 4000 50001 1010 16 65535 None [])
    ∷ gets 25 999027 5 Zero (packet 80 4000 50001 1010 16 65535 None [])
    ∷ [])

abbrev pub no_sample_of_what_was_made_twice_steps : List witness.Step
no_sample_of_what_was_made_twice_steps =
    opening_steps 2144 ++ (
    takes 20 17
    ∷ effects 20 2 (answers.Given 20)
    ∷ takes 21 18
    ∷ makes 21 Zero 4000 80 1 4 ack 65535 None
    ∷ takes_with 999021 19 536 1072
    ∷ makes 999021 Zero 4000 80 4 6 ack 65535 None
    ∷ takes_of 999022 20 5
    ∷ takes_of 999023 21 20
    ∷ consumes 999023 One 21 2144 true false
    ∷ takes_of 999024 22 4
    ∷ takes_of 999025 23 22
    ∷ consumes 999025 One 23 2144 true false
    ∷ makes 999025 One 80 4000 1 0 ack 65535 None
    ∷ takes_of 999026 24 6
    ∷ takes_of 999027 25 24
    ∷ consumes 999027 Zero 25 536 false true
    ∷ [])

pub no_sample_of_what_was_made_twice : first_broken_step
    (header 120000000 0) no_sample_of_what_was_made_twice_lines no_sample_of_what_was_made_twice_steps
    ≡ Some (35, rules.Sample)
no_sample_of_what_was_made_twice = refl

-- the wait in TIME-WAIT ends twice the segment lifetime after it began
abbrev pub time_wait_ends_lines : List lines.Line
time_wait_ends_lines = take 10 no_sample_of_what_was_made_twice_lines ++ (
    begins 17 20 2 (calls.Shut 6)
    ∷ ends 18 21 2 answers.Done
    ∷ sends 19 22 3 Zero (packet 4000 80 1001 50001 17 65535 None [])
    ∷ gets 20 23 6 One (packet 4000 80 1001 50001 17 65535 None [])
    ∷ sends 21 24 4 One (packet 80 4000 50001 1002 16 65535 None [])
    ∷ gets 22 25 5 Zero (packet 80 4000 50001 1002 16 65535 None [])
    ∷ begins 23 26 1 (calls.Accept 5)
    ∷ ends 24 27 1 (answers.Given 7)
    ∷ begins 25 28 1 (calls.Shut 7)
    ∷ ends 26 29 1 answers.Done
    ∷ sends 27 30 4 One (packet 80 4000 50001 1002 17 65535 None [])
    ∷ gets 28 31 5 Zero (packet 80 4000 50001 1002 17 65535 None [])
    ∷ expires 29 7031 9 Zero 4000 80 Msl2
    ∷ [])

abbrev pub time_wait_ends_steps : List witness.Step
time_wait_ends_steps = take 19 no_sample_of_what_was_made_twice_steps ++ (
    effects 20 2 answers.Done
    ∷ takes 21 18
    ∷ makes 21 Zero 4000 80 1 0 fin_ack 65535 None
    ∷ takes_of 22 19 4
    ∷ takes_of 23 20 19
    ∷ consumes 23 One 20 2144 true false
    ∷ makes 23 One 80 4000 1 0 ack 65535 None
    ∷ takes_of 24 21 5
    ∷ takes_of 25 22 21
    ∷ consumes 25 Zero 22 2144 false false
    ∷ takes 26 23
    ∷ effects 26 1 (answers.Given 7)
    ∷ takes 27 24
    ∷ takes 28 25
    ∷ effects 28 1 answers.Done
    ∷ takes 29 26
    ∷ makes 29 One 80 4000 1 0 fin_ack 65535 None
    ∷ takes_of 30 27 6
    ∷ takes_of 31 28 27
    ∷ consumes 31 Zero 28 2144 true false
    ∷ takes 7031 29
    ∷ [])

pub time_wait_ends : first_broken_step (header 4000 0) time_wait_ends_lines time_wait_ends_steps ≡ None
time_wait_ends = refl

-- also where a segment was taken meanwhile
abbrev pub time_wait_is_not_begun_anew_lines : List lines.Line
time_wait_is_not_begun_anew_lines = take 22 time_wait_ends_lines ++ (
    sends 29 32 4 One (packet 80 4000 50002 1002 16 65535 None [])
    ∷ gets 30 33 5 Zero (packet 80 4000 50002 1002 16 65535 None [])
    ∷ expires 31 7031 9 Zero 4000 80 Msl2
    ∷ [])

abbrev pub time_wait_is_not_begun_anew_steps : List witness.Step
time_wait_is_not_begun_anew_steps = take 39 time_wait_ends_steps ++ (
    makes 31 One 80 4000 2 0 ack 65535 None
    ∷ takes_of 32 29 7
    ∷ takes_of 33 30 29
    ∷ consumes 33 Zero 30 2144 false false
    ∷ takes 7031 31
    ∷ [])

pub time_wait_is_not_begun_anew : first_broken_step (header 4000 0) time_wait_is_not_begun_anew_lines time_wait_is_not_begun_anew_steps ≡ None
time_wait_is_not_begun_anew = refl
