-- Runs that are computed: what new data may pass, and which windows are taken.
use Rattle.std.proofs.Common.{◌≡◌, refl, true, false, List, [], ◌∷◌, ◌++◌, take, None, Some, replicate}
use Rattle.case_forms.specs.declared.calls.Host.TheVariants.{Zero, One}
use Rattle.case_forms.specs.declared.calls.Call.TheVariants as calls
use Rattle.case_forms.specs.declared.calls.Answer.TheVariants as answers
use Rattle.case_forms.specs.declared.trace.Line as lines
use Rattle.case_forms.specs.declared.steps.Step as witness
use Rattle.verdict.specs.declared.rule.Rule.TheVariants as rules
use Rattle.spec_tcp.specs.Steps.{first_broken_step}
use Rattle.spec_tcp.proofs.Telling.{header, packet, begins, ends, sends, gets, takes, takes_of, effects, makes, consumes, recovers}
use Rattle.spec_tcp.proofs.Telling.{ack, syn_ack, opening_lines, opening_steps, slow_opening_lines, slow_opening_steps, sevens}

-- the congestion window of four segments ends the fifth
abbrev pub congestion_window_holds_lines : List lines.Line
congestion_window_holds_lines =
    slow_opening_lines 4 65535 (Some 1000) ++ (
    begins 17 90 1 (calls.Accept 5)
    ∷ ends 18 91 1 (answers.Given 7)
    ∷ begins 19 100 2 (calls.Send 6 (replicate 5000 0))
    ∷ ends 20 101 2 (answers.Given 5000)
    ∷ [])

abbrev pub congestion_window_holds_steps : List witness.Step
congestion_window_holds_steps =
    slow_opening_steps 65535 4000 ++ (
    takes 90 17
    ∷ effects 90 1 (answers.Given 7)
    ∷ takes 91 18
    ∷ takes 100 19
    ∷ effects 100 2 (answers.Given 5000)
    ∷ takes 101 20
    ∷ makes 110 Zero 4000 80 1 1000 ack 65535 None
    ∷ makes 110 Zero 4000 80 1001 1000 ack 65535 None
    ∷ makes 110 Zero 4000 80 2001 1000 ack 65535 None
    ∷ makes 110 Zero 4000 80 3001 1000 ack 65535 None
    ∷ makes 110 Zero 4000 80 4001 1000 ack 65535 None
    ∷ [])

pub congestion_window_holds : first_broken_step (header 120000000 0) congestion_window_holds_lines congestion_window_holds_steps ≡ Some (30, rules.Congestion)
congestion_window_holds = refl

-- not a byte behind the congestion window
abbrev pub congestion_window_ends_here_lines : List lines.Line
congestion_window_ends_here_lines =
    opening_lines (Some 50) ++ (
    begins 17 20 2 (calls.Send 6 (sevens 0 201))
    ∷ ends 18 21 2 (answers.Given 201)
    ∷ [])

abbrev pub congestion_window_ends_here_steps : List witness.Step
congestion_window_ends_here_steps =
    opening_steps 200 ++ (
    takes 20 17
    ∷ effects 20 2 (answers.Given 201)
    ∷ takes 21 18
    ∷ makes 21 Zero 4000 80 1 50 ack 65535 None
    ∷ makes 21 Zero 4000 80 51 50 ack 65535 None
    ∷ makes 21 Zero 4000 80 101 50 ack 65535 None
    ∷ makes 21 Zero 4000 80 151 51 ack 65535 None
    ∷ [])

pub congestion_window_ends_here : first_broken_step
    (header 120000000 0) congestion_window_ends_here_lines congestion_window_ends_here_steps
    ≡ Some (26, rules.Congestion)
congestion_window_ends_here = refl

-- the offered window of three segments ends the fourth
abbrev pub offered_window_holds_lines : List lines.Line
offered_window_holds_lines = take 6 congestion_window_holds_lines ++ (
    sends 13 50 4 One (packet 80 4000 100 4294967295 18 3000 (Some 1000) [])
    ∷ gets 14 60 3 Zero (packet 80 4000 100 4294967295 18 3000 (Some 1000) [])
    ∷ sends 15 70 3 Zero (packet 4000 80 4294967295 101 16 65535 None [])
    ∷ gets 16 80 4 One (packet 4000 80 4294967295 101 16 65535 None [])
    ∷ begins 17 90 1 (calls.Accept 5)
    ∷ ends 18 91 1 (answers.Given 7)
    ∷ begins 19 100 2 (calls.Send 6 (replicate 5000 0))
    ∷ ends 20 101 2 (answers.Given 5000)
    ∷ [])

abbrev pub offered_window_holds_steps : List witness.Step
offered_window_holds_steps = take 10 congestion_window_holds_steps ++ (
    makes 50 One 80 4000 0 0 syn_ack 3000 (Some 100)
    ∷ takes_of 50 13 2
    ∷ takes_of 60 14 13
    ∷ consumes 61 Zero 14 4000 false true
    ∷ makes 70 Zero 4000 80 1 0 ack 65535 None
    ∷ takes_of 70 15 3
    ∷ takes_of 80 16 15
    ∷ consumes 81 One 16 2144 false true
    ∷ takes 90 17
    ∷ effects 90 1 (answers.Given 7)
    ∷ takes 91 18
    ∷ takes 100 19
    ∷ effects 100 2 (answers.Given 5000)
    ∷ takes 101 20
    ∷ makes 110 Zero 4000 80 1 1000 ack 65535 None
    ∷ makes 110 Zero 4000 80 1001 1000 ack 65535 None
    ∷ makes 110 Zero 4000 80 2001 1000 ack 65535 None
    ∷ makes 110 Zero 4000 80 3001 1000 ack 65535 None
    ∷ makes 110 Zero 4000 80 4001 1000 ack 65535 None
    ∷ [])

pub offered_window_holds : first_broken_step (header 120000000 0) offered_window_holds_lines offered_window_holds_steps ≡ Some (29, rules.Offered)
offered_window_holds = refl

-- of two segments that come in turned order the window of the newer one holds
abbrev pub older_window_is_not_taken_lines : List lines.Line
older_window_is_not_taken_lines = take 6 congestion_window_holds_lines ++ (
    sends 13 50 4 One (packet 80 4000 100 4294967295 18 65535 None [])
    ∷ gets 14 60 3 Zero (packet 80 4000 100 4294967295 18 65535 None [])
    ∷ sends 15 70 3 Zero (packet 4000 80 4294967295 101 16 65535 None [])
    ∷ gets 16 80 4 One (packet 4000 80 4294967295 101 16 65535 None [])
    ∷ begins 17 90 1 (calls.Accept 5)
    ∷ ends 18 91 1 (answers.Given 7)
    ∷ begins 19 100 1 (calls.Send 7 (97 ∷ 98 ∷ []))
    ∷ ends 20 101 1 (answers.Given 2)
    ∷ begins 21 102 2 (calls.Send 6 (0 ∷ 0 ∷ 0 ∷ 0 ∷ 0 ∷ 0 ∷ []))
    ∷ ends 22 103 2 (answers.Given 6)
    ∷ sends 23 110 4 One (packet 80 4000 101 4294967295 16 10 None (97 ∷ []))
    ∷ sends 24 111 4 One (packet 80 4000 102 4294967295 16 5 None (98 ∷ []))
    ∷ gets 25 120 3 Zero (packet 80 4000 102 4294967295 16 5 None (98 ∷ []))
    ∷ gets 26 121 3 Zero (packet 80 4000 101 4294967295 16 10 None (97 ∷ []))
    ∷ [])

abbrev pub older_window_is_not_taken_steps : List witness.Step
older_window_is_not_taken_steps = take 13 congestion_window_holds_steps ++ (
    consumes 61 Zero 14 2144 false true
    ∷ makes 70 Zero 4000 80 1 0 ack 65535 None
    ∷ takes_of 70 15 3
    ∷ takes_of 80 16 15
    ∷ consumes 81 One 16 2144 false true
    ∷ takes 90 17
    ∷ effects 90 1 (answers.Given 7)
    ∷ takes 91 18
    ∷ takes 100 19
    ∷ effects 100 1 (answers.Given 2)
    ∷ takes 101 20
    ∷ takes 102 21
    ∷ effects 102 2 (answers.Given 6)
    ∷ takes 103 22
    ∷ makes 110 One 80 4000 1 1 ack 10 None
    ∷ takes_of 110 23 4
    ∷ makes 111 One 80 4000 2 1 ack 5 None
    ∷ takes_of 111 24 5
    ∷ takes_of 120 25 24
    ∷ consumes 120 Zero 25 2144 true false
    ∷ takes_of 121 26 23
    ∷ consumes 121 Zero 26 2144 true false
    ∷ makes 122 Zero 4000 80 1 6 ack 65535 None
    ∷ [])

pub older_window_is_not_taken : first_broken_step
    (header 120000000 0) older_window_is_not_taken_lines older_window_is_not_taken_steps ≡ Some (37, rules.Offered)
older_window_is_not_taken = refl

-- up to which bytes may go
abbrev pub newer_window_is_taken_steps : List witness.Step
newer_window_is_taken_steps = take 35 older_window_is_not_taken_steps ++ (makes 122 Zero 4000 80 1 5 ack 65535 None ∷ [])

pub newer_window_is_taken : first_broken_step (header 120000000 0) older_window_is_not_taken_lines newer_window_is_taken_steps ≡ None
newer_window_is_taken = refl

-- an acknowledgment that is older leaves the oldest position not acknowledged as it was
abbrev pub una_never_falls_lines : List lines.Line
una_never_falls_lines = take 6 congestion_window_ends_here_lines ++ (
    sends 13 16 4 One (packet 80 4000 50000 1001 18 50 None [])
    ∷ gets 14 17 5 Zero (packet 80 4000 50000 1001 18 50 None [])
    ∷ sends 15 18 3 Zero (packet 4000 80 1001 50001 16 65535 None [])
    ∷ gets 16 19 6 One (packet 4000 80 1001 50001 16 65535 None [])
    ∷ begins 17 20 2 (calls.Send 6 (sevens 0 90))
    ∷ ends 18 21 2 (answers.Given 90)
    ∷ sends 19 22 4 One (packet 80 4000 50001 1001 16 70 None [])
    ∷ gets 20 23 5 Zero (packet 80 4000 50001 1001 16 70 None [])
    ∷ sends 21 24 3 Zero (packet 4000 80 1001 50001 16 65535 None (sevens 0 10))
    ∷ gets 22 25 6 One (packet 4000 80 1001 50001 16 65535 None (sevens 0 10))
    ∷ sends 23 26 4 One (packet 80 4000 50001 1011 16 15 None [])
    ∷ gets 24 27 5 Zero (packet 80 4000 50001 1011 16 15 None [])
    ∷ [])

abbrev pub una_never_falls_steps : List witness.Step
una_never_falls_steps = take 10 congestion_window_ends_here_steps ++ (
    makes 15 One 80 4000 0 0 syn_ack 50 (Some 50000)
    ∷ takes_of 16 13 2
    ∷ takes_of 17 14 13
    ∷ consumes 17 Zero 14 2144 false false
    ∷ makes 17 Zero 4000 80 1 0 ack 65535 None
    ∷ takes_of 18 15 3
    ∷ takes_of 19 16 15
    ∷ consumes 19 One 16 2144 false false
    ∷ takes 20 17
    ∷ effects 20 2 (answers.Given 90)
    ∷ takes 21 18
    ∷ makes 21 One 80 4000 1 0 ack 70 None
    ∷ takes_of 22 19 4
    ∷ takes_of 23 20 19
    ∷ makes 23 Zero 4000 80 1 10 ack 65535 None
    ∷ takes_of 24 21 5
    ∷ takes_of 25 22 21
    ∷ consumes 25 One 22 2144 true false
    ∷ makes 25 One 80 4000 1 0 ack 15 None
    ∷ takes_of 26 23 6
    ∷ takes_of 27 24 23
    ∷ consumes 27 Zero 24 2144 false false
    ∷ consumes 27 Zero 20 2144 false false
    ∷ makes 27 Zero 4000 80 11 15 ack 65535 None
    ∷ [])

pub una_never_falls : first_broken_step (header 120000000 0) una_never_falls_lines una_never_falls_steps ≡ None
una_never_falls = refl

-- three duplicates in a row begin fast recovery, with no new acknowledgment between them
abbrev pub duplicates_begin_anew_lines : List lines.Line
duplicates_begin_anew_lines = take 10 congestion_window_ends_here_lines ++ (
    begins 17 20 2 (calls.Send 6 (sevens 0 200))
    ∷ ends 18 21 2 (answers.Given 200)
    ∷ sends 19 22 4 One (packet 80 4000 50001 1001 16 65535 None [])
    ∷ gets 20 23 5 Zero (packet 80 4000 50001 1001 16 65535 None [])
    ∷ sends 21 24 4 One (packet 80 4000 50001 1001 16 65535 None [])
    ∷ gets 22 25 5 Zero (packet 80 4000 50001 1001 16 65535 None [])
    ∷ sends 23 26 3 Zero (packet 4000 80 1001 50001 16 65535 None (sevens 0 50))
    ∷ gets 24 27 6 One (packet 4000 80 1001 50001 16 65535 None (sevens 0 50))
    ∷ sends 25 28 4 One (packet 80 4000 50001 1051 16 65535 None [])
    ∷ gets 26 29 5 Zero (packet 80 4000 50001 1051 16 65535 None [])
    ∷ sends 27 30 4 One (packet 80 4000 50001 1051 16 65535 None [])
    ∷ gets 28 31 5 Zero (packet 80 4000 50001 1051 16 65535 None [])
    ∷ [])

abbrev pub duplicates_begin_anew_steps : List witness.Step
duplicates_begin_anew_steps = take 19 congestion_window_ends_here_steps ++ (
    effects 20 2 (answers.Given 200)
    ∷ takes 21 18
    ∷ makes 21 Zero 4000 80 1 50 ack 65535 None
    ∷ makes 21 Zero 4000 80 51 50 ack 65535 None
    ∷ makes 21 Zero 4000 80 101 50 ack 65535 None
    ∷ makes 21 Zero 4000 80 151 50 ack 65535 None
    ∷ makes 21 One 80 4000 1 0 ack 65535 None
    ∷ takes_of 22 19 8
    ∷ takes_of 23 20 19
    ∷ consumes 23 Zero 20 200 false false
    ∷ makes 23 One 80 4000 1 0 ack 65535 None
    ∷ takes_of 24 21 9
    ∷ takes_of 25 22 21
    ∷ consumes 25 Zero 22 200 false false
    ∷ takes_of 26 23 4
    ∷ takes_of 27 24 23
    ∷ consumes 27 One 24 2144 true false
    ∷ makes 27 One 80 4000 1 0 ack 65535 None
    ∷ takes_of 28 25 10
    ∷ takes_of 29 26 25
    ∷ consumes 29 Zero 26 200 false false
    ∷ makes 29 One 80 4000 1 0 ack 65535 None
    ∷ takes_of 30 27 11
    ∷ takes_of 31 28 27
    ∷ consumes 31 Zero 28 200 false false
    ∷ recovers 31 Zero 4000 80 100 100
    ∷ [])

pub duplicates_begin_anew : first_broken_step (header 120000000 0) duplicates_begin_anew_lines duplicates_begin_anew_steps ≡ Some (46, rules.Recovery)
duplicates_begin_anew = refl

-- slow start adds at most SMSS for an acknowledgment
abbrev pub slow_start_adds_a_segment_lines : List lines.Line
slow_start_adds_a_segment_lines = take 10 congestion_window_ends_here_lines ++ (
    begins 17 20 2 (calls.Send 6 (sevens 0 110))
    ∷ ends 18 21 2 (answers.Given 110)
    ∷ sends 19 22 3 Zero (packet 4000 80 1001 50001 16 65535 None (sevens 0 50))
    ∷ gets 20 23 6 One (packet 4000 80 1001 50001 16 65535 None (sevens 0 50))
    ∷ sends 21 24 3 Zero (packet 4000 80 1051 50001 16 65535 None (sevens 50 30))
    ∷ gets 22 25 6 One (packet 4000 80 1051 50001 16 65535 None (sevens 50 30))
    ∷ sends 23 26 4 One (packet 80 4000 50001 1081 16 65535 None [])
    ∷ gets 24 27 5 Zero (packet 80 4000 50001 1081 16 65535 None [])
    ∷ [])

abbrev pub slow_start_adds_a_segment_steps : List witness.Step
slow_start_adds_a_segment_steps = take 19 congestion_window_ends_here_steps ++ (
    effects 20 2 (answers.Given 110)
    ∷ takes 21 18
    ∷ makes 21 Zero 4000 80 1 50 ack 65535 None
    ∷ takes_of 22 19 4
    ∷ takes_of 23 20 19
    ∷ consumes 23 One 20 2144 true false
    ∷ makes 23 Zero 4000 80 51 30 ack 65535 None
    ∷ takes_of 24 21 5
    ∷ takes_of 25 22 21
    ∷ consumes 25 One 22 2144 true false
    ∷ makes 25 One 80 4000 1 0 ack 65535 None
    ∷ takes_of 26 23 6
    ∷ takes_of 27 24 23
    ∷ consumes 27 Zero 24 251 false false
    ∷ [])

pub slow_start_adds_a_segment : first_broken_step (header 120000000 0) slow_start_adds_a_segment_lines slow_start_adds_a_segment_steps ≡ Some (34, rules.Growth)
slow_start_adds_a_segment = refl
