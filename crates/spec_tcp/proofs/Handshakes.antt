-- Runs that are computed: a handshake with five bytes over the wrap of the numbers, wrong bytes, and listen queues.
use Rattle.std.proofs.Common.{◌≡◌, refl, true, false, List, [], ◌∷◌, ◌++◌, take, None, Some}
use Rattle.case_forms.specs.declared.calls.Host.TheVariants.{Zero, One}
use Rattle.case_forms.specs.declared.calls.Call.TheVariants as calls
use Rattle.case_forms.specs.declared.calls.Answer.TheVariants as answers
use Rattle.case_forms.specs.declared.calls.State.TheVariants as states
use Rattle.case_forms.specs.declared.trace.Line as lines
use Rattle.case_forms.specs.declared.steps.Step as witness
use Rattle.verdict.specs.declared.rule.Rule.TheVariants as rules
use Rattle.spec_tcp.specs.Steps.{first_broken_step}
use Rattle.spec_tcp.proofs.Telling.{header, packet, begins, ends, sends, gets, takes, takes_of, effects, makes, consumes, drops}
use Rattle.spec_tcp.proofs.Telling.{resets, ack, syn, syn_ack, opening_lines, opening_steps, slow_opening_lines}
use Rattle.spec_tcp.proofs.Telling.{slow_opening_steps, sevens}

-- a handshake, and five bytes whose numbers pass 2^32: all steps are permitted
abbrev pub five_bytes_arrive_lines : List lines.Line
five_bytes_arrive_lines =
    slow_opening_lines 4 65535 None ++ (
    begins 17 90 1 (calls.Accept 5)
    ∷ ends 18 91 1 (answers.Given 7)
    ∷ begins 19 100 2 (calls.Send 6 (104 ∷ 101 ∷ 108 ∷ 108 ∷ 111 ∷ []))
    ∷ ends 20 101 2 (answers.Given 5)
    ∷ sends 21 110 3 Zero (packet 4000 80 4294967295 101 24 65535 None (104 ∷ 101 ∷ 108 ∷ 108 ∷ 111 ∷ []))
    ∷ gets 22 120 4 One (packet 4000 80 4294967295 101 24 65535 None (104 ∷ 101 ∷ 108 ∷ 108 ∷ 111 ∷ []))
    ∷ begins 23 130 1 (calls.Recv 7 100)
    ∷ ends 24 131 1 (answers.Bytes (104 ∷ 101 ∷ 108 ∷ 108 ∷ 111 ∷ []))
    ∷ [])

abbrev pub five_bytes_arrive_steps : List witness.Step
five_bytes_arrive_steps =
    slow_opening_steps 65535 2144 ++ (
    takes 90 17
    ∷ effects 90 1 (answers.Given 7)
    ∷ takes 91 18
    ∷ takes 100 19
    ∷ effects 100 2 (answers.Given 5)
    ∷ takes 101 20
    ∷ makes 110 Zero 4000 80 1 5 ack 65535 None
    ∷ takes_of 110 21 4
    ∷ takes_of 120 22 21
    ∷ consumes 121 One 22 2144 true false
    ∷ takes 130 23
    ∷ effects 130 1 (answers.Bytes (104 ∷ 101 ∷ 108 ∷ 108 ∷ 111 ∷ []))
    ∷ takes 131 24
    ∷ [])

pub five_bytes_arrive : first_broken_step (header 120000000 0) five_bytes_arrive_lines five_bytes_arrive_steps ≡ None
five_bytes_arrive = refl

-- a receive is told another byte than was sent
abbrev pub wrong_byte_is_not_received_lines : List lines.Line
wrong_byte_is_not_received_lines = take 17 five_bytes_arrive_lines ++ (ends 24 131 1 (answers.Bytes (104 ∷ 101 ∷ 108 ∷ 108 ∷ 112 ∷ [])) ∷ [])

abbrev pub wrong_byte_is_not_received_steps : List witness.Step
wrong_byte_is_not_received_steps = take 29 five_bytes_arrive_steps ++ (effects 130 1 (answers.Bytes (104 ∷ 101 ∷ 108 ∷ 108 ∷ 112 ∷ [])) ∷ takes 131 24 ∷ [])

pub wrong_byte_is_not_received : first_broken_step
    (header 120000000 0) wrong_byte_is_not_received_lines wrong_byte_is_not_received_steps
    ≡ Some (31, rules.CallAnswer)
wrong_byte_is_not_received = refl

-- the line says another byte than the effect
pub wrong_byte_is_not_answered : first_broken_step
    (header 120000000 0) wrong_byte_is_not_received_lines five_bytes_arrive_steps ≡ Some (32, rules.AnswerDiffers)
wrong_byte_is_not_answered = refl

-- a second child, where the queue has room for one
abbrev pub second_child_finds_no_room_lines : List lines.Line
second_child_finds_no_room_lines =
    slow_opening_lines 1 65535 None ++ (
    begins 17 90 2 (calls.Connect Zero 4001 80)
    ∷ ends 18 91 2 (answers.Given 8)
    ∷ sends 19 92 3 Zero (packet 4001 80 0 0 2 65535 None [])
    ∷ gets 20 93 4 One (packet 4001 80 0 0 2 65535 None [])
    ∷ sends 21 94 4 One (packet 80 4001 200 1 18 65535 None [])
    ∷ gets 22 95 3 Zero (packet 80 4001 200 1 18 65535 None [])
    ∷ sends 23 96 3 Zero (packet 4001 80 1 201 16 65535 None [])
    ∷ gets 24 97 4 One (packet 4001 80 1 201 16 65535 None [])
    ∷ [])

abbrev pub second_child_finds_no_room_steps : List witness.Step
second_child_finds_no_room_steps = take 19 five_bytes_arrive_steps ++ (
    effects 90 2 (answers.Given 8)
    ∷ takes 91 18
    ∷ makes 92 Zero 4001 80 0 0 syn 65535 (Some 0)
    ∷ takes_of 92 19 4
    ∷ takes_of 93 20 19
    ∷ consumes 93 One 20 0 false false
    ∷ makes 94 One 80 4001 0 0 syn_ack 65535 (Some 200)
    ∷ takes_of 94 21 5
    ∷ takes_of 95 22 21
    ∷ consumes 95 Zero 22 2144 false true
    ∷ makes 96 Zero 4001 80 1 0 ack 65535 None
    ∷ takes_of 96 23 6
    ∷ takes_of 97 24 23
    ∷ consumes 97 One 24 2144 false true
    ∷ [])

pub second_child_finds_no_room : first_broken_step
    (header 120000000 0) second_child_finds_no_room_lines second_child_finds_no_room_steps
    ≡ Some (34, rules.QueueFull)
second_child_finds_no_room = refl

-- its acknowledgment is dropped
abbrev pub second_child_may_wait_steps : List witness.Step
second_child_may_wait_steps = take 32 second_child_finds_no_room_steps ++ (drops 97 One 24 ∷ [])

pub second_child_may_wait : first_broken_step (header 120000000 0) second_child_finds_no_room_lines second_child_may_wait_steps ≡ None
second_child_may_wait = refl

-- with one place more there is room
pub queue_may_hold_one_more : first_broken_step (header 120000000 1) second_child_finds_no_room_lines second_child_finds_no_room_steps ≡ None
queue_may_hold_one_more = refl

-- children are accepted in the order of joining
abbrev pub first_to_join_is_accepted_first_lines : List lines.Line
first_to_join_is_accepted_first_lines =
    begins 7 5 1 (calls.Listen One 80 2)
    ∷ ends 8 6 1 (answers.Given 5)
    ∷ begins 9 7 2 (calls.Connect Zero 4000 80)
    ∷ ends 10 8 2 (answers.Given 20)
    ∷ sends 11 9 3 Zero (packet 4000 80 0 0 2 65535 None [])
    ∷ gets 12 10 6 One (packet 4000 80 0 0 2 65535 None [])
    ∷ sends 13 11 4 One (packet 80 4000 0 1 18 65535 None [])
    ∷ gets 14 12 5 Zero (packet 80 4000 0 1 18 65535 None [])
    ∷ sends 15 13 3 Zero (packet 4000 80 1 1 16 65535 None [])
    ∷ gets 16 14 6 One (packet 4000 80 1 1 16 65535 None [])
    ∷ begins 17 15 2 (calls.Connect Zero 4001 80)
    ∷ ends 18 16 2 (answers.Given 21)
    ∷ sends 19 17 3 Zero (packet 4001 80 1000 0 2 65535 None [])
    ∷ gets 20 18 6 One (packet 4001 80 1000 0 2 65535 None [])
    ∷ sends 21 19 4 One (packet 80 4001 50000 1001 18 65535 None [])
    ∷ gets 22 20 5 Zero (packet 80 4001 50000 1001 18 65535 None [])
    ∷ sends 23 21 3 Zero (packet 4001 80 1001 50001 16 65535 None [])
    ∷ gets 24 22 6 One (packet 4001 80 1001 50001 16 65535 None [])
    ∷ begins 25 23 1 (calls.Accept 5)
    ∷ ends 26 24 1 (answers.Given 9)
    ∷ begins 27 25 1 (calls.Accept 5)
    ∷ ends 28 26 1 (answers.Given 10)
    ∷ begins 29 27 2 (calls.Send 21 (115 ∷ 101 ∷ 99 ∷ 111 ∷ 110 ∷ 100 ∷ []))
    ∷ ends 30 28 2 (answers.Given 6)
    ∷ sends 31 29 3 Zero (packet 4001 80 1001 50001 16 65535 None (115 ∷ 101 ∷ 99 ∷ 111 ∷ 110 ∷ 100 ∷ []))
    ∷ gets 32 30 6 One (packet 4001 80 1001 50001 16 65535 None (115 ∷ 101 ∷ 99 ∷ 111 ∷ 110 ∷ 100 ∷ []))
    ∷ begins 33 31 1 (calls.Recv 9 9)
    ∷ ends 34 32 1 (answers.Bytes (115 ∷ 101 ∷ 99 ∷ 111 ∷ 110 ∷ 100 ∷ []))
    ∷ []

abbrev pub first_to_join_is_accepted_first_steps : List witness.Step
first_to_join_is_accepted_first_steps =
    takes 5 7
    ∷ effects 5 1 (answers.Given 5)
    ∷ takes 6 8
    ∷ takes 7 9
    ∷ effects 7 2 (answers.Given 20)
    ∷ takes 8 10
    ∷ makes 8 Zero 4000 80 0 0 syn 65535 (Some 0)
    ∷ takes_of 9 11 1
    ∷ takes_of 10 12 11
    ∷ consumes 10 One 12 0 false false
    ∷ makes 10 One 80 4000 0 0 syn_ack 65535 (Some 0)
    ∷ takes_of 11 13 2
    ∷ takes_of 12 14 13
    ∷ consumes 12 Zero 14 2144 false false
    ∷ makes 12 Zero 4000 80 1 0 ack 65535 None
    ∷ takes_of 13 15 3
    ∷ takes_of 14 16 15
    ∷ takes 15 17
    ∷ effects 15 2 (answers.Given 21)
    ∷ takes 16 18
    ∷ makes 16 Zero 4001 80 0 0 syn 65535 (Some 1000)
    ∷ takes_of 17 19 4
    ∷ takes_of 18 20 19
    ∷ consumes 18 One 20 0 false false
    ∷ makes 18 One 80 4001 0 0 syn_ack 65535 (Some 50000)
    ∷ takes_of 19 21 5
    ∷ takes_of 20 22 21
    ∷ consumes 20 Zero 22 2144 false false
    ∷ makes 20 Zero 4001 80 1 0 ack 65535 None
    ∷ takes_of 21 23 6
    ∷ takes_of 22 24 23
    ∷ consumes 22 One 24 2144 false false
    ∷ consumes 22 One 16 2144 false false
    ∷ takes 23 25
    ∷ effects 23 1 (answers.Given 9)
    ∷ takes 24 26
    ∷ takes 25 27
    ∷ effects 25 1 (answers.Given 10)
    ∷ takes 26 28
    ∷ takes 27 29
    ∷ effects 27 2 (answers.Given 6)
    ∷ takes 28 30
    ∷ makes 28 Zero 4001 80 1 6 ack 65535 None
    ∷ takes_of 29 31 7
    ∷ takes_of 30 32 31
    ∷ consumes 30 One 32 2144 true false
    ∷ takes 31 33
    ∷ effects 31 1 (answers.Bytes (115 ∷ 101 ∷ 99 ∷ 111 ∷ 110 ∷ 100 ∷ []))
    ∷ takes 32 34
    ∷ []

pub first_to_join_is_accepted_first : first_broken_step (header 120000000 0) first_to_join_is_accepted_first_lines first_to_join_is_accepted_first_steps ≡ None
first_to_join_is_accepted_first = refl

-- simultaneous open: both SYNs cross
abbrev pub both_hosts_open_lines : List lines.Line
both_hosts_open_lines =
    begins 7 10 2 (calls.Connect Zero 4000 80)
    ∷ ends 8 11 2 (answers.Given 6)
    ∷ begins 9 12 1 (calls.Connect One 80 4000)
    ∷ ends 10 13 1 (answers.Given 8)
    ∷ sends 11 14 4 One (packet 80 4000 4294967295 0 2 65535 None [])
    ∷ gets 12 15 5 Zero (packet 80 4000 4294967295 0 2 65535 None [])
    ∷ sends 13 16 3 Zero (packet 4000 80 5 0 2 65535 None [])
    ∷ gets 14 17 6 One (packet 4000 80 5 0 2 65535 None [])
    ∷ begins 15 18 8 (calls.Status 6)
    ∷ ends 16 19 8 (answers.State states.SynReceived)
    ∷ begins 17 20 8 (calls.Status 8)
    ∷ ends 18 21 8 (answers.State states.SynReceived)
    ∷ sends 19 22 4 One (packet 80 4000 4294967295 6 18 65535 None [])
    ∷ gets 20 23 5 Zero (packet 80 4000 4294967295 6 18 65535 None [])
    ∷ sends 21 24 3 Zero (packet 4000 80 5 0 18 65535 None [])
    ∷ gets 22 25 6 One (packet 4000 80 5 0 18 65535 None [])
    ∷ begins 23 26 8 (calls.Status 6)
    ∷ ends 24 27 8 (answers.State states.Established)
    ∷ begins 25 28 8 (calls.Status 8)
    ∷ ends 26 29 8 (answers.State states.Established)
    ∷ begins 27 30 1 (calls.Send 8 (sevens 0 4))
    ∷ ends 28 31 1 (answers.Given 4)
    ∷ sends 29 32 4 One (packet 80 4000 0 6 16 65535 None (sevens 0 4))
    ∷ gets 30 33 5 Zero (packet 80 4000 0 6 16 65535 None (sevens 0 4))
    ∷ begins 31 34 2 (calls.Recv 6 9)
    ∷ ends 32 35 2 (answers.Bytes (sevens 0 4))
    ∷ []

abbrev pub both_hosts_open_steps : List witness.Step
both_hosts_open_steps =
    takes 10 7
    ∷ effects 10 2 (answers.Given 6)
    ∷ takes 11 8
    ∷ takes 12 9
    ∷ effects 12 1 (answers.Given 8)
    ∷ takes 13 10
    ∷ makes 13 Zero 4000 80 0 0 syn 65535 (Some 5)
    ∷ makes 13 One 80 4000 0 0 syn 65535 (Some 4294967295)
    ∷ takes_of 14 11 2
    ∷ takes_of 15 12 11
    ∷ consumes 15 Zero 12 0 false false
    ∷ takes_of 16 13 1
    ∷ takes_of 17 14 13
    ∷ consumes 17 One 14 0 false false
    ∷ takes 18 15
    ∷ effects 18 8 (answers.State states.SynReceived)
    ∷ takes 19 16
    ∷ takes 20 17
    ∷ effects 20 8 (answers.State states.SynReceived)
    ∷ takes 21 18
    ∷ makes 21 One 80 4000 0 0 syn_ack 65535 None
    ∷ makes 21 Zero 4000 80 0 0 syn_ack 65535 None
    ∷ takes_of 22 19 3
    ∷ takes_of 23 20 19
    ∷ consumes 23 Zero 20 2144 false false
    ∷ takes_of 24 21 4
    ∷ takes_of 25 22 21
    ∷ consumes 25 One 22 2144 false false
    ∷ takes 26 23
    ∷ effects 26 8 (answers.State states.Established)
    ∷ takes 27 24
    ∷ takes 28 25
    ∷ effects 28 8 (answers.State states.Established)
    ∷ takes 29 26
    ∷ takes 30 27
    ∷ effects 30 1 (answers.Given 4)
    ∷ takes 31 28
    ∷ makes 31 One 80 4000 1 4 ack 65535 None
    ∷ takes_of 32 29 5
    ∷ takes_of 33 30 29
    ∷ consumes 33 Zero 30 2144 true false
    ∷ takes 34 31
    ∷ effects 34 2 (answers.Bytes (sevens 0 4))
    ∷ takes 35 32
    ∷ []

pub both_hosts_open : first_broken_step (header 120000000 0) both_hosts_open_lines both_hosts_open_steps ≡ None
both_hosts_open = refl

-- a segment made for an older endpoint of the same ports
abbrev pub segment_for_an_older_endpoint_lines : List lines.Line
segment_for_an_older_endpoint_lines =
    begins 7 5 1 (calls.Listen One 80 1)
    ∷ ends 8 6 1 (answers.Given 5)
    ∷ begins 9 7 2 (calls.Connect Zero 4000 80)
    ∷ ends 10 8 2 (answers.Given 6)
    ∷ sends 11 9 3 Zero (packet 4000 80 1000 0 2 65535 None [])
    ∷ gets 12 10 6 One (packet 4000 80 1000 0 2 65535 None [])
    ∷ sends 13 11 4 One (packet 80 4000 50000 1001 18 65535 None [])
    ∷ gets 14 12 5 Zero (packet 80 4000 50000 1001 18 65535 None [])
    ∷ begins 15 13 2 (calls.Close 6)
    ∷ ends 16 14 2 answers.Done
    ∷ begins 17 15 2 (calls.Connect Zero 4000 80)
    ∷ ends 18 16 2 (answers.Given 16)
    ∷ begins 19 17 2 (calls.Await 16)
    ∷ ends 20 18 2 answers.Done
    ∷ sends 21 19 4 One (packet 80 4000 50000 1001 18 65535 None [])
    ∷ gets 22 20 5 Zero (packet 80 4000 50000 1001 18 65535 None [])
    ∷ []

abbrev pub segment_for_an_older_endpoint_steps : List witness.Step
segment_for_an_older_endpoint_steps =
    takes 5 7
    ∷ effects 5 1 (answers.Given 5)
    ∷ takes 6 8
    ∷ takes 7 9
    ∷ effects 7 2 (answers.Given 6)
    ∷ takes 8 10
    ∷ makes 8 Zero 4000 80 0 0 syn 65535 (Some 1000)
    ∷ takes_of 9 11 1
    ∷ takes_of 10 12 11
    ∷ consumes 10 One 12 0 false false
    ∷ makes 10 One 80 4000 0 0 syn_ack 65535 (Some 50000)
    ∷ takes_of 11 13 2
    ∷ takes_of 12 14 13
    ∷ takes 13 15
    ∷ effects 13 2 answers.Done
    ∷ takes 14 16
    ∷ takes 15 17
    ∷ effects 15 2 (answers.Given 16)
    ∷ takes 16 18
    ∷ makes 16 Zero 4000 80 0 0 syn 65535 (Some 1000)
    ∷ consumes 16 Zero 14 2144 false false
    ∷ takes 17 19
    ∷ effects 17 2 answers.Done
    ∷ takes 18 20
    ∷ makes 18 One 80 4000 0 0 syn_ack 65535 None
    ∷ takes_of 19 21 4
    ∷ takes_of 20 22 21
    ∷ consumes 20 Zero 22 2144 false false
    ∷ []

pub segment_for_an_older_endpoint : first_broken_step
    (header 120000000 0) segment_for_an_older_endpoint_lines segment_for_an_older_endpoint_steps
    ≡ Some (29, rules.NotPeer)
segment_for_an_older_endpoint = refl

-- a reset that answers a segment of an older endpoint
abbrev pub reset_for_an_older_endpoint_lines : List lines.Line
reset_for_an_older_endpoint_lines =
    opening_lines None ++ (
    sends 17 20 3 Zero (packet 4000 80 1001 50001 16 65535 None [])
    ∷ gets 18 21 6 One (packet 4000 80 1001 50001 16 65535 None [])
    ∷ begins 19 22 1 (calls.Accept 5)
    ∷ ends 20 23 1 (answers.Given 7)
    ∷ begins 21 24 1 (calls.Abort 7)
    ∷ ends 22 25 1 answers.Done
    ∷ begins 23 26 2 (calls.Abort 6)
    ∷ ends 24 27 2 answers.Done
    ∷ begins 25 28 2 (calls.Connect Zero 4000 80)
    ∷ ends 26 29 2 (answers.Given 16)
    ∷ sends 27 30 3 Zero (packet 4000 80 1000 0 2 65535 None [])
    ∷ gets 28 31 6 One (packet 4000 80 1000 0 2 65535 None [])
    ∷ sends 29 32 4 One (packet 80 4000 50000 1001 18 65535 None [])
    ∷ gets 30 33 5 Zero (packet 80 4000 50000 1001 18 65535 None [])
    ∷ sends 31 34 3 Zero (packet 4000 80 1001 50001 16 65535 None [])
    ∷ gets 32 35 6 One (packet 4000 80 1001 50001 16 65535 None [])
    ∷ sends 33 36 4 One (packet 80 4000 50001 0 4 0 None [])
    ∷ gets 34 37 5 Zero (packet 80 4000 50001 0 4 0 None [])
    ∷ [])

abbrev pub reset_for_an_older_endpoint_steps : List witness.Step
reset_for_an_older_endpoint_steps =
    opening_steps 2144 ++ (
    makes 19 Zero 4000 80 1 0 ack 65535 None
    ∷ takes_of 20 17 4
    ∷ takes_of 21 18 17
    ∷ takes 22 19
    ∷ effects 22 1 (answers.Given 7)
    ∷ takes 23 20
    ∷ takes 24 21
    ∷ effects 24 1 answers.Done
    ∷ takes 25 22
    ∷ takes 26 23
    ∷ effects 26 2 answers.Done
    ∷ takes 27 24
    ∷ resets 27 One 18
    ∷ takes 28 25
    ∷ effects 28 2 (answers.Given 16)
    ∷ takes 29 26
    ∷ makes 29 Zero 4000 80 0 0 syn 65535 (Some 1000)
    ∷ takes_of 30 27 6
    ∷ takes_of 31 28 27
    ∷ consumes 31 One 28 0 false false
    ∷ makes 31 One 80 4000 0 0 syn_ack 65535 (Some 50000)
    ∷ takes_of 32 29 7
    ∷ takes_of 33 30 29
    ∷ consumes 33 Zero 30 2144 false false
    ∷ makes 33 Zero 4000 80 1 0 ack 65535 None
    ∷ takes_of 34 31 8
    ∷ takes_of 35 32 31
    ∷ consumes 35 One 32 2144 false false
    ∷ takes_of 36 33 5
    ∷ takes_of 37 34 33
    ∷ consumes 37 Zero 34 2144 false false
    ∷ [])

pub reset_for_an_older_endpoint : first_broken_step
    (header 120000000 0) reset_for_an_older_endpoint_lines reset_for_an_older_endpoint_steps
    ≡ Some (50, rules.NotPeer)
reset_for_an_older_endpoint = refl

-- a segment of a newer endpoint of the same ports
abbrev pub segment_of_a_newer_endpoint_lines : List lines.Line
segment_of_a_newer_endpoint_lines = take 6 segment_for_an_older_endpoint_lines ++ (
    begins 13 11 2 (calls.Close 6)
    ∷ ends 14 12 2 answers.Done
    ∷ begins 15 13 2 (calls.Connect Zero 4000 80)
    ∷ ends 16 14 2 (answers.Given 16)
    ∷ sends 17 15 3 Zero (packet 4000 80 1000 0 2 65535 None [])
    ∷ gets 18 16 6 One (packet 4000 80 1000 0 2 65535 None [])
    ∷ [])

abbrev pub segment_of_a_newer_endpoint_steps : List witness.Step
segment_of_a_newer_endpoint_steps = take 10 segment_for_an_older_endpoint_steps ++ (
    takes 11 13
    ∷ effects 11 2 answers.Done
    ∷ takes 12 14
    ∷ takes 13 15
    ∷ effects 13 2 (answers.Given 16)
    ∷ takes 14 16
    ∷ makes 14 Zero 4000 80 0 0 syn 65535 (Some 1000)
    ∷ takes_of 15 17 2
    ∷ takes_of 16 18 17
    ∷ consumes 16 One 18 0 false false
    ∷ [])

pub segment_of_a_newer_endpoint : first_broken_step
    (header 120000000 0) segment_of_a_newer_endpoint_lines segment_of_a_newer_endpoint_steps
    ≡ Some (21, rules.NotPeer)
segment_of_a_newer_endpoint = refl
