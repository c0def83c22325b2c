-- The rules' names, and the lowest-numbered rule that is broken.
use Rattle.std.specs.Prelude.{ℕ, Bool, List, [], ◌∷◌, Option, None, Some, if◌then◌else◌, codes}
use Rattle.verdict.specs.declared.rule.Rule.{Rule}
use Rattle.verdict.specs.declared.rule.Rule.TheVariants as rules

-- the number of a rule, the first being 1
abbrev pub rule_number : Rule → ℕ
rule_number rules.LineRange = 1
rule_number rules.LineAgain = 2
rule_number rules.ThreadOrder = 3
rule_number rules.MomentFalls = 4
rule_number rules.MomentOff = 5
rule_number rules.Overdue = 6
rule_number rules.ThreadBusy = 7
rule_number rules.NoCall = 8
rule_number rules.DoneTwice = 9
rule_number rules.AnswerDiffers = 10
rule_number rules.Socket = 11
rule_number rules.CallAnswer = 12
rule_number rules.NoEndpoint = 13
rule_number rules.State = 14
rule_number rules.Iss = 15
rule_number rules.BytesDiffer = 16
rule_number rules.NotMade = 17
rule_number rules.PayloadRange = 18
rule_number rules.AckField = 19
rule_number rules.OldData = 20
rule_number rules.Offered = 21
rule_number rules.Congestion = 22
rule_number rules.Size = 23
rule_number rules.NoEmission = 24
rule_number rules.CopyDiffers = 25
rule_number rules.Lifetime = 26
rule_number rules.Inbox = 27
rule_number rules.NotPeer = 28
rule_number rules.Number = 29
rule_number rules.Unacceptable = 30
rule_number rules.AckRange = 31
rule_number rules.QueueFull = 32
rule_number rules.Growth = 33
rule_number rules.Sample = 34
rule_number rules.TimerOff = 35
rule_number rules.TimerEarly = 36
rule_number rules.Recovery = 37
rule_number rules.ScaleUnread = 38
rule_number rules.Unplaced = 39
rule_number rules.Dropped = 40
rule_number rules.Discarded = 41
rule_number rules.ProcessLate = 42
rule_number rules.SendLate = 43
rule_number rules.AckLate = 44
rule_number rules.ExpiryLate = 45
rule_number rules.ResendLate = 46
rule_number rules.ProbeLate = 47
rule_number rules.StartLate = 48
rule_number rules.ResetLate = 49
rule_number rules.Resent = 50
rule_number rules.ResentBeyond = 51
rule_number rules.AckExcess = 52
rule_number rules.SackUntrue = 53
rule_number rules.Echo = 54
rule_number rules.ClockFalls = 55
rule_number rules.SampleDue = 56
rule_number rules.AnswerLate = 57

-- the name under which a verdict prints a rule
abbrev pub rule_name : Rule → List ℕ
rule_name rules.LineRange = codes "line-range"
rule_name rules.LineAgain = codes "line-again"
rule_name rules.ThreadOrder = codes "thread-order"
rule_name rules.MomentFalls = codes "moment-falls"
rule_name rules.MomentOff = codes "moment-off"
rule_name rules.Overdue = codes "overdue"
rule_name rules.ThreadBusy = codes "thread-busy"
rule_name rules.NoCall = codes "no-call"
rule_name rules.DoneTwice = codes "done-twice"
rule_name rules.AnswerDiffers = codes "answer-differs"
rule_name rules.Socket = codes "socket"
rule_name rules.CallAnswer = codes "call-answer"
rule_name rules.NoEndpoint = codes "no-endpoint"
rule_name rules.State = codes "state"
rule_name rules.Iss = codes "iss"
rule_name rules.BytesDiffer = codes "bytes-differ"
rule_name rules.NotMade = codes "not-made"
rule_name rules.PayloadRange = codes "payload-range"
rule_name rules.AckField = codes "ack-field"
rule_name rules.OldData = codes "old-data"
rule_name rules.Offered = codes "offered"
rule_name rules.Congestion = codes "congestion"
rule_name rules.Size = codes "size"
rule_name rules.NoEmission = codes "no-emission"
rule_name rules.CopyDiffers = codes "copy-differs"
rule_name rules.Lifetime = codes "lifetime"
rule_name rules.Inbox = codes "inbox"
rule_name rules.NotPeer = codes "not-peer"
rule_name rules.Number = codes "number"
rule_name rules.Unacceptable = codes "unacceptable"
rule_name rules.AckRange = codes "ack-range"
rule_name rules.QueueFull = codes "queue-full"
rule_name rules.Growth = codes "growth"
rule_name rules.Sample = codes "sample"
rule_name rules.TimerOff = codes "timer-off"
rule_name rules.TimerEarly = codes "timer-early"
rule_name rules.Recovery = codes "recovery"
rule_name rules.ScaleUnread = codes "scale-unread"
rule_name rules.Unplaced = codes "unplaced"
rule_name rules.Dropped = codes "dropped"
rule_name rules.Discarded = codes "discarded"
rule_name rules.ProcessLate = codes "process-late"
rule_name rules.SendLate = codes "send-late"
rule_name rules.AckLate = codes "ack-late"
rule_name rules.ExpiryLate = codes "expiry-late"
rule_name rules.ResendLate = codes "resend-late"
rule_name rules.ProbeLate = codes "probe-late"
rule_name rules.StartLate = codes "start-late"
rule_name rules.ResetLate = codes "reset-late"
rule_name rules.Resent = codes "resent"
rule_name rules.ResentBeyond = codes "resent-beyond"
rule_name rules.AckExcess = codes "ack-excess"
rule_name rules.SackUntrue = codes "sack-untrue"
rule_name rules.Echo = codes "echo"
rule_name rules.ClockFalls = codes "clock-falls"
rule_name rules.SampleDue = codes "sample-due"
rule_name rules.AnswerLate = codes "answer-late"

-- the first broken rule of a list; each rule is paired with whether the step breaks it, lowest first
abbrev pub first_broken : List (Rule × Bool) → Option Rule
first_broken [] = None
first_broken (rule ∷ rules) = if rule.1 then Some rule.0 else first_broken rules
