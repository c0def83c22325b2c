-- Runs that are computed: bytes out of order, and how streams end.
use Rattle.std.proofs.Common.{◌≡◌, refl, true, false, List, [], ◌∷◌, ◌++◌, take, None, Some}
use Rattle.case_forms.specs.declared.calls.Host.TheVariants.{Zero, One}
use Rattle.case_forms.specs.declared.calls.Call.TheVariants as calls
use Rattle.case_forms.specs.declared.calls.Answer.TheVariants as answers
use Rattle.case_forms.specs.declared.calls.State.TheVariants as states
use Rattle.case_forms.specs.declared.timer.Timer.TheVariants.{Rto, Msl2}
use Rattle.case_forms.specs.declared.trace.Line as lines
use Rattle.case_forms.specs.declared.steps.Step as witness
use Rattle.verdict.specs.declared.rule.Rule.TheVariants as rules
use Rattle.spec_tcp.specs.Steps.{first_broken_step}
use Rattle.spec_tcp.proofs.Telling.{header, packet, begins, ends, sends, gets, expires, takes, takes_of, takes_with, effects}
use Rattle.spec_tcp.proofs.Telling.{makes, consumes, ack, fin_ack, opening_lines, opening_steps, sevens}

-- pieces that overlap, the last first
abbrev pub pieces_in_any_order_lines : List lines.Line
pieces_in_any_order_lines =
    opening_lines None ++ (
    begins 17 20 2 (calls.Send 6 (sevens 0 9))
    ∷ ends 18 21 2 (answers.Given 9)
    ∷ expires 19 999021 9 Zero 4000 80 Rto
    ∷ sends 20 999022 3 Zero (packet 4000 80 1003 50001 16 65535 None (sevens 2 5))
    ∷ gets 21 999023 6 One (packet 4000 80 1003 50001 16 65535 None (sevens 2 5))
    ∷ sends 22 999024 3 Zero (packet 4000 80 1005 50001 16 65535 None (sevens 4 5))
    ∷ gets 23 999025 6 One (packet 4000 80 1005 50001 16 65535 None (sevens 4 5))
    ∷ sends 24 999026 3 Zero (packet 4000 80 1001 50001 16 65535 None (sevens 0 4))
    ∷ gets 25 999027 6 One (packet 4000 80 1001 50001 16 65535 None (sevens 0 4))
    ∷ begins 26 999028 1 (calls.Accept 5)
    ∷ ends 27 999029 1 (answers.Given 7)
    ∷ begins 28 999030 1 (calls.Recv 7 9)
    ∷ ends 29 999031 1 (answers.Bytes (sevens 0 9))
    ∷ sends 30 999032 4 One (packet 80 4000 50001 1010 16 65535 None [])
    ∷ gets 31 999033 5 Zero (packet 80 4000 50001 1010 16 65535 None [])
    ∷ [])

abbrev pub pieces_in_any_order_steps : List witness.Step
pieces_in_any_order_steps =
    opening_steps 2144 ++ (
    takes 20 17
    ∷ effects 20 2 (answers.Given 9)
    ∷ takes 21 18
    ∷ makes 21 Zero 4000 80 1 4 ack 65535 None
    ∷ makes 21 Zero 4000 80 5 5 ack 65535 None
    ∷ takes_with 999021 19 536 1072
    ∷ makes 999021 Zero 4000 80 3 5 ack 65535 None
    ∷ takes_of 999022 20 6
    ∷ takes_of 999023 21 20
    ∷ consumes 999023 One 21 2144 true false
    ∷ takes_of 999024 22 5
    ∷ takes_of 999025 23 22
    ∷ consumes 999025 One 23 2144 true false
    ∷ takes_of 999026 24 4
    ∷ takes_of 999027 25 24
    ∷ consumes 999027 One 25 2144 true false
    ∷ takes 999028 26
    ∷ effects 999028 1 (answers.Given 7)
    ∷ takes 999029 27
    ∷ takes 999030 28
    ∷ effects 999030 1 (answers.Bytes (sevens 0 9))
    ∷ takes 999031 29
    ∷ makes 999031 One 80 4000 1 0 ack 65535 None
    ∷ takes_of 999032 30 7
    ∷ takes_of 999033 31 30
    ∷ consumes 999033 Zero 31 536 false false
    ∷ [])

pub pieces_in_any_order : first_broken_step (header 120000000 0) pieces_in_any_order_lines pieces_in_any_order_steps ≡ None
pieces_in_any_order = refl

-- a FIN that is kept ends the stream
abbrev pub fin_is_told_lines : List lines.Line
fin_is_told_lines = take 10 pieces_in_any_order_lines ++ (
    begins 17 20 2 (calls.Shut 6)
    ∷ ends 18 21 2 answers.Done
    ∷ sends 19 22 3 Zero (packet 4000 80 1001 50001 17 65535 None [])
    ∷ gets 20 23 6 One (packet 4000 80 1001 50001 17 65535 None [])
    ∷ begins 21 24 1 (calls.Accept 5)
    ∷ ends 22 25 1 (answers.Given 7)
    ∷ begins 23 26 1 (calls.Recv 7 9)
    ∷ [])

abbrev pub fin_is_told_steps : List witness.Step
fin_is_told_steps = take 19 pieces_in_any_order_steps ++ (
    effects 20 2 answers.Done
    ∷ takes 21 18
    ∷ makes 21 Zero 4000 80 1 0 fin_ack 65535 None
    ∷ takes_of 22 19 4
    ∷ takes_of 23 20 19
    ∷ consumes 23 One 20 2144 true false
    ∷ takes 24 21
    ∷ effects 24 1 (answers.Given 7)
    ∷ takes 25 22
    ∷ takes 26 23
    ∷ effects 26 1 answers.Eof
    ∷ [])

pub fin_is_told : first_broken_step (header 120000000 0) fin_is_told_lines fin_is_told_steps ≡ None
fin_is_told = refl

-- one that is not kept does not
abbrev pub fin_that_is_not_kept_steps : List witness.Step
fin_that_is_not_kept_steps = take 24 fin_is_told_steps ++ (
    consumes 23 One 20 2144 false false
    ∷ takes 24 21
    ∷ effects 24 1 (answers.Given 7)
    ∷ takes 25 22
    ∷ takes 26 23
    ∷ effects 26 1 answers.Eof
    ∷ [])

pub fin_that_is_not_kept : first_broken_step (header 120000000 0) fin_is_told_lines fin_that_is_not_kept_steps ≡ Some (31, rules.CallAnswer)
fin_that_is_not_kept = refl

-- both close at once
abbrev pub both_close_lines : List lines.Line
both_close_lines = take 12 fin_is_told_lines ++ (
    begins 19 22 1 (calls.Accept 5)
    ∷ ends 20 23 1 (answers.Given 7)
    ∷ begins 21 24 1 (calls.Shut 7)
    ∷ ends 22 25 1 answers.Done
    ∷ sends 23 26 3 Zero (packet 4000 80 1001 50001 17 65535 None [])
    ∷ gets 24 27 6 One (packet 4000 80 1001 50001 17 65535 None [])
    ∷ sends 25 28 4 One (packet 80 4000 50001 1001 17 65535 None [])
    ∷ gets 26 29 5 Zero (packet 80 4000 50001 1001 17 65535 None [])
    ∷ begins 27 30 8 (calls.Status 6)
    ∷ ends 28 31 8 (answers.State states.Closing)
    ∷ begins 29 32 8 (calls.Status 7)
    ∷ ends 30 33 8 (answers.State states.Closing)
    ∷ sends 31 34 3 Zero (packet 4000 80 1002 50002 16 65535 None [])
    ∷ gets 32 35 6 One (packet 4000 80 1002 50002 16 65535 None [])
    ∷ sends 33 36 4 One (packet 80 4000 50002 1002 16 65535 None [])
    ∷ gets 34 37 5 Zero (packet 80 4000 50002 1002 16 65535 None [])
    ∷ begins 35 38 8 (calls.Status 6)
    ∷ ends 36 39 8 (answers.State states.TimeWait)
    ∷ begins 37 40 8 (calls.Status 7)
    ∷ ends 38 41 8 (answers.State states.TimeWait)
    ∷ expires 39 1041 9 Zero 4000 80 Msl2
    ∷ expires 40 1042 9 One 80 4000 Msl2
    ∷ begins 41 1043 8 (calls.Status 6)
    ∷ ends 42 1044 8 (answers.State states.Closed)
    ∷ begins 43 1045 8 (calls.Status 7)
    ∷ ends 44 1046 8 (answers.State states.Closed)
    ∷ begins 45 1047 2 (calls.Connect Zero 4000 80)
    ∷ ends 46 1048 2 (answers.Given 16)
    ∷ [])

abbrev pub both_close_steps : List witness.Step
both_close_steps = take 21 fin_is_told_steps ++ (
    takes 22 19
    ∷ effects 22 1 (answers.Given 7)
    ∷ takes 23 20
    ∷ takes 24 21
    ∷ effects 24 1 answers.Done
    ∷ takes 25 22
    ∷ makes 25 Zero 4000 80 1 0 fin_ack 65535 None
    ∷ makes 25 One 80 4000 1 0 fin_ack 65535 None
    ∷ takes_of 26 23 4
    ∷ takes_of 27 24 23
    ∷ consumes 27 One 24 2144 true false
    ∷ takes_of 28 25 5
    ∷ takes_of 29 26 25
    ∷ consumes 29 Zero 26 2144 true false
    ∷ takes 30 27
    ∷ effects 30 8 (answers.State states.Closing)
    ∷ takes 31 28
    ∷ takes 32 29
    ∷ effects 32 8 (answers.State states.Closing)
    ∷ takes 33 30
    ∷ makes 33 Zero 4000 80 2 0 ack 65535 None
    ∷ takes_of 34 31 6
    ∷ takes_of 35 32 31
    ∷ consumes 35 One 32 2144 false false
    ∷ makes 35 One 80 4000 2 0 ack 65535 None
    ∷ takes_of 36 33 7
    ∷ takes_of 37 34 33
    ∷ consumes 37 Zero 34 2144 false false
    ∷ takes 38 35
    ∷ effects 38 8 (answers.State states.TimeWait)
    ∷ takes 39 36
    ∷ takes 40 37
    ∷ effects 40 8 (answers.State states.TimeWait)
    ∷ takes 41 38
    ∷ takes 1041 39
    ∷ takes 1042 40
    ∷ takes 1043 41
    ∷ effects 1043 8 (answers.State states.Closed)
    ∷ takes 1044 42
    ∷ takes 1045 43
    ∷ effects 1045 8 (answers.State states.Closed)
    ∷ takes 1046 44
    ∷ takes 1047 45
    ∷ effects 1047 2 (answers.Given 16)
    ∷ takes 1048 46
    ∷ [])

pub both_close : first_broken_step (header 1000 0) both_close_lines both_close_steps ≡ None
both_close = refl

-- one way ends, the other goes on
abbrev pub one_way_ends_lines : List lines.Line
one_way_ends_lines = take 10 pieces_in_any_order_lines ++ (
    begins 17 20 2 (calls.Send 6 (sevens 0 5))
    ∷ ends 18 21 2 (answers.Given 5)
    ∷ begins 19 22 2 (calls.Shut 6)
    ∷ ends 20 23 2 answers.Done
    ∷ sends 21 24 3 Zero (packet 4000 80 1001 50001 17 65535 None (sevens 0 5))
    ∷ gets 22 25 6 One (packet 4000 80 1001 50001 17 65535 None (sevens 0 5))
    ∷ begins 23 26 8 (calls.Status 6)
    ∷ ends 24 27 8 (answers.State states.FinWait1)
    ∷ begins 25 28 1 (calls.Accept 5)
    ∷ ends 26 29 1 (answers.Given 7)
    ∷ begins 27 30 8 (calls.Status 7)
    ∷ ends 28 31 8 (answers.State states.CloseWait)
    ∷ begins 29 32 1 (calls.Send 7 (108 ∷ 97 ∷ 116 ∷ 101 ∷ []))
    ∷ ends 30 33 1 (answers.Given 4)
    ∷ sends 31 34 4 One (packet 80 4000 50001 1007 16 65535 None (108 ∷ 97 ∷ 116 ∷ 101 ∷ []))
    ∷ gets 32 35 5 Zero (packet 80 4000 50001 1007 16 65535 None (108 ∷ 97 ∷ 116 ∷ 101 ∷ []))
    ∷ begins 33 36 8 (calls.Status 6)
    ∷ ends 34 37 8 (answers.State states.FinWait2)
    ∷ begins 35 38 2 (calls.Recv 6 99)
    ∷ ends 36 39 2 (answers.Bytes (108 ∷ 97 ∷ 116 ∷ 101 ∷ []))
    ∷ begins 37 40 2 (calls.Recv 6 99)
    ∷ ends 38 41 2 answers.Again
    ∷ begins 39 42 1 (calls.Shut 7)
    ∷ ends 40 43 1 answers.Done
    ∷ sends 41 44 4 One (packet 80 4000 50005 1007 17 65535 None [])
    ∷ gets 42 45 5 Zero (packet 80 4000 50005 1007 17 65535 None [])
    ∷ begins 43 46 8 (calls.Status 6)
    ∷ ends 44 47 8 (answers.State states.TimeWait)
    ∷ begins 45 48 8 (calls.Status 7)
    ∷ ends 46 49 8 (answers.State states.LastAck)
    ∷ sends 47 50 3 Zero (packet 4000 80 1007 50006 16 65535 None [])
    ∷ gets 48 51 6 One (packet 4000 80 1007 50006 16 65535 None [])
    ∷ begins 49 52 8 (calls.Status 7)
    ∷ ends 50 53 8 (answers.State states.Closed)
    ∷ begins 51 54 2 (calls.Recv 6 99)
    ∷ ends 52 55 2 answers.Eof
    ∷ begins 53 56 1 (calls.Recv 7 2)
    ∷ ends 54 57 1 (answers.Bytes (0 ∷ 7 ∷ []))
    ∷ begins 55 58 1 (calls.Recv 7 9)
    ∷ ends 56 59 1 (answers.Bytes (14 ∷ 21 ∷ 28 ∷ []))
    ∷ begins 57 60 1 (calls.Recv 7 9)
    ∷ ends 58 61 1 answers.Eof
    ∷ [])

abbrev pub one_way_ends_steps : List witness.Step
one_way_ends_steps = take 19 pieces_in_any_order_steps ++ (
    effects 20 2 (answers.Given 5)
    ∷ takes 21 18
    ∷ takes 22 19
    ∷ effects 22 2 answers.Done
    ∷ takes 23 20
    ∷ makes 23 Zero 4000 80 1 5 fin_ack 65535 None
    ∷ takes_of 24 21 4
    ∷ takes_of 25 22 21
    ∷ consumes 25 One 22 2144 true false
    ∷ takes 26 23
    ∷ effects 26 8 (answers.State states.FinWait1)
    ∷ takes 27 24
    ∷ takes 28 25
    ∷ effects 28 1 (answers.Given 7)
    ∷ takes 29 26
    ∷ takes 30 27
    ∷ effects 30 8 (answers.State states.CloseWait)
    ∷ takes 31 28
    ∷ takes 32 29
    ∷ effects 32 1 (answers.Given 4)
    ∷ takes 33 30
    ∷ makes 33 One 80 4000 1 4 ack 65535 None
    ∷ takes_of 34 31 5
    ∷ takes_of 35 32 31
    ∷ consumes 35 Zero 32 2144 true false
    ∷ takes 36 33
    ∷ effects 36 8 (answers.State states.FinWait2)
    ∷ takes 37 34
    ∷ takes 38 35
    ∷ effects 38 2 (answers.Bytes (108 ∷ 97 ∷ 116 ∷ 101 ∷ []))
    ∷ takes 39 36
    ∷ takes 40 37
    ∷ effects 40 2 answers.Again
    ∷ takes 41 38
    ∷ takes 42 39
    ∷ effects 42 1 answers.Done
    ∷ takes 43 40
    ∷ makes 43 One 80 4000 5 0 fin_ack 65535 None
    ∷ takes_of 44 41 6
    ∷ takes_of 45 42 41
    ∷ consumes 45 Zero 42 2144 true false
    ∷ takes 46 43
    ∷ effects 46 8 (answers.State states.TimeWait)
    ∷ takes 47 44
    ∷ takes 48 45
    ∷ effects 48 8 (answers.State states.LastAck)
    ∷ takes 49 46
    ∷ makes 49 Zero 4000 80 7 0 ack 65535 None
    ∷ takes_of 50 47 7
    ∷ takes_of 51 48 47
    ∷ consumes 51 One 48 2144 false false
    ∷ takes 52 49
    ∷ effects 52 8 (answers.State states.Closed)
    ∷ takes 53 50
    ∷ takes 54 51
    ∷ effects 54 2 answers.Eof
    ∷ takes 55 52
    ∷ takes 56 53
    ∷ effects 56 1 (answers.Bytes (0 ∷ 7 ∷ []))
    ∷ takes 57 54
    ∷ takes 58 55
    ∷ effects 58 1 (answers.Bytes (14 ∷ 21 ∷ 28 ∷ []))
    ∷ takes 59 56
    ∷ takes 60 57
    ∷ effects 60 1 answers.Eof
    ∷ takes 61 58
    ∷ [])

pub one_way_ends : first_broken_step (header 120000000 0) one_way_ends_lines one_way_ends_steps ≡ None
one_way_ends = refl
