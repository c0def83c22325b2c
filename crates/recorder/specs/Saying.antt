-- Steps of the model, written as lines of a trace and as steps of a witness.
use Rattle.std.specs.Prelude.{ℕ, ◌+◌, List, [], ◌∷◌, Option, None, Some, map}
use Rattle.case_forms.specs.TakenLines.{timer_of}
use Rattle.case_forms.specs.declared.calls.Host.{Host}
use Rattle.case_forms.specs.declared.named_line.Extras.{Extras}
use Rattle.case_forms.specs.declared.named_line.Extras.TheVariants as extras
use Rattle.case_forms.specs.declared.named_line.NamedLine.{NamedLine}
use Rattle.case_forms.specs.declared.steps.Label.{Label}
use Rattle.case_forms.specs.declared.steps.Label.TheVariants as labels
use Rattle.case_forms.specs.declared.steps.Step as witness
use Rattle.case_forms.specs.declared.taken_line.Expired.{Expired}
use Rattle.case_forms.specs.declared.taken_line.Expired.TheVariants as expireds
use Rattle.case_forms.specs.declared.taken_line.TakenLine.{TakenLine}
use Rattle.case_forms.specs.declared.taken_line.TakenLine.TheVariants as taken
use Rattle.case_forms.specs.declared.trace.Event.{Event}
use Rattle.case_forms.specs.declared.trace.Event.TheVariants as events
use Rattle.case_forms.specs.declared.trace.Line.{Line}
use Rattle.spec_network.specs.Tables.{on, other}
use Rattle.spec_network.specs.Hosts.{HostStep, Does, Expires, Makes, Sends, Gets, Hears, Takes, Drops, Answers, Step}
use Rattle.spec_network.specs.Hosts.{Begin}
use Rattle.spec_network.specs.Hosts.{Finish, Effect, At, Stamped}
use Rattle.spec_tcp.specs.Machine.{tcp_shape}
use Rattle.spec_merge.specs.Books.{Item, Do, Bring, Key}
use Rattle.spec_merge.specs.Merging.{Names}
use Rattle.spec_merge.specs.Keys.{rank}
use Rattle.spec_merge.specs.Recordings.{TcpEntry}
use Rattle.checker.specs.Again.{nowhere}
use Rattle.recorder.specs.Numbers.{counted, names_in, no_counts}
use Rattle.recorder.specs.Order.{in_order}

-- a line of a trace; sent segments, arriving segments and timers have threads of the host's own
abbrev pub said : ℕ → ℕ → ℕ → Event → Line
said line moment thread event =
    record { number = line; moment = moment; thread = thread; event = event; span = nowhere }

abbrev pub host_step_line_said : ℕ → Host → HostStep tcp_shape → Option Line
host_step_line_said moment host (Expires line x) =
    Some (said line moment (6 + rank host) (events.Expired host x.lport x.rport (timer_of x.expired)))
host_step_line_said moment host (Sends line number wire) =
    Some (said line moment (8 + rank host) (events.Sent host wire))
host_step_line_said moment host (Gets line copied wire) =
    Some (said line moment (4 + rank host) (events.Came host wire))
host_step_line_said moment host (Hears line wire) = Some (said line moment (4 + rank host) (events.Came host wire))
host_step_line_said moment host host_step = None

-- the line that a step at this moment takes
abbrev pub line_said : ℕ → Step tcp_shape → Option Line
line_said moment (Begin line t call) = Some (said line moment t (events.CallBegin call))
line_said moment (Finish line t answer) = Some (said line moment t (events.CallEnd answer))
line_said moment (Effect t answer) = None
line_said moment (At host host_step) = host_step_line_said moment host host_step

-- the label for a retransmission timer's line carries both windows, and that for another timer's line nothing
abbrev pub growth_said : Expired → Extras
growth_said (expireds.Rto growth) = extras.Two growth.cwnd growth.ssthresh
growth_said x = extras.Bare

abbrev pub names : ℕ → Extras → Label NamedLine
names line x = labels.L (record { number = line; extras = x })

abbrev pub host_step_said : Host → HostStep tcp_shape → Label NamedLine
host_step_said host (Does x) = labels.F host x
host_step_said host (Expires line x) = names line (growth_said x.expired)
host_step_said host (Makes plan) = labels.M host plan
host_step_said host (Sends line number wire) = names line (extras.One number)
host_step_said host (Gets line copied wire) = names line (extras.One copied)
host_step_said host (Hears line wire) = names line extras.Bare
host_step_said host (Takes line choice) = labels.T host line choice
host_step_said host (Drops line) = labels.K host line
host_step_said host (Answers line) = labels.R host line

-- the label of a step
abbrev pub label_said : Step tcp_shape → Label NamedLine
label_said (Begin line t call) = names line extras.Bare
label_said (Finish line t answer) = names line extras.Bare
label_said (Effect t answer) = labels.D t answer
label_said (At host host_step) = host_step_said host host_step

-- the same for a line that a step takes: its number in its host's recording, its thread, its event, and what its step
-- adds
abbrev pub own_number : TakenLine → ℕ
own_number (taken.CallBegin line t call) = line
own_number (taken.CallEnd line t answer) = line
own_number (taken.Sent line host made wire) = line
own_number (taken.Came line host copied wire) = line
own_number (taken.Heard line host wire) = line
own_number (taken.Expired line host ports e) = line

abbrev pub thread_said : TakenLine → ℕ
thread_said (taken.CallBegin line t call) = t
thread_said (taken.CallEnd line t answer) = t
thread_said (taken.Sent line host made wire) = 8 + rank host
thread_said (taken.Came line host copied wire) = 4 + rank host
thread_said (taken.Heard line host wire) = 4 + rank host
thread_said (taken.Expired line host ports e) = 6 + rank host

abbrev pub event_said : TakenLine → Event
event_said (taken.CallBegin line t call) = events.CallBegin call
event_said (taken.CallEnd line t answer) = events.CallEnd answer
event_said (taken.Sent line host made wire) = events.Sent host wire
event_said (taken.Came line host copied wire) = events.Came host wire
event_said (taken.Heard line host wire) = events.Came host wire
event_said (taken.Expired line host ports e) = events.Expired host ports.lport ports.rport (timer_of e)

abbrev pub extras_said : Names → Host → TakenLine → Extras
extras_said names h (taken.Sent line host made wire) = extras.One (names.made h made)
extras_said names h (taken.Came line host copied wire) = extras.One (names.line (other h) copied)
extras_said names h (taken.Expired line host ports e) = growth_said e
extras_said names h _ = extras.Bare

-- the lines that steps take, in their order
abbrev pub lines_said : List (Stamped tcp_shape) → List Line
lines_said [] = []
lines_said (x ∷ xs) = on (line_said x.moment x.step) (lines_said xs) (λ line. line ∷ lines_said xs)

-- the steps as those of a witness
abbrev pub step_said : Stamped tcp_shape → witness.Step
step_said x = record { moment = x.moment; label = label_said x.step; span = nowhere }

abbrev pub steps_said : List (Stamped tcp_shape) → List witness.Step
steps_said xs = map step_said xs

-- a step of host h alone under new numbers, and any step; whatever the header says
abbrev pub host_step_renumbered : Names → Host → HostStep tcp_shape → HostStep tcp_shape
host_step_renumbered names h (Does x) = Does x
host_step_renumbered names h (Expires line x) = Expires (names.line h line) x
host_step_renumbered names h (Makes plan) = Makes plan
host_step_renumbered names h (Sends line number wire) = Sends (names.line h line) (names.made h number) wire
host_step_renumbered names h (Gets line copied wire) = Gets (names.line h line) (names.line (other h) copied) wire
host_step_renumbered names h (Hears line wire) = Hears (names.line h line) wire
host_step_renumbered names h (Takes line choice) = Takes (names.line h line) choice
host_step_renumbered names h (Drops line) = Drops (names.line h line)
host_step_renumbered names h (Answers line) = Answers (names.line h line)

abbrev pub renumbered : Names → Host → Step tcp_shape → Step tcp_shape
renumbered names h (Begin line t call) = Begin (names.line h line) t call
renumbered names h (Finish line t answer) = Finish (names.line h line) t answer
renumbered names h (Effect t answer) = Effect t answer
renumbered names h (At host host_step) = At host (host_step_renumbered names h host_step)

-- the steps of entries under new numbers
abbrev pub with_renumbered : Names → Key → Item tcp_shape → List (Stamped tcp_shape) → List (Stamped tcp_shape)
with_renumbered names key (Do step) xs = record { moment = key.moment; step = renumbered names key.host step } ∷ xs
with_renumbered names key (Bring f) xs = xs

abbrev pub all_renumbered : Names → List TcpEntry → List (Stamped tcp_shape)
all_renumbered names [] = []
all_renumbered names (x ∷ xs) = with_renumbered names x.key x.item (all_renumbered names xs)

-- the steps of both hosts' entries in the order of their keys, with lines counted from the first on
abbrev pub both_renumbered : ℕ → (zeros ones : List TcpEntry) → List (Stamped tcp_shape)
both_renumbered first zeros ones =
    all_renumbered (names_in (counted (no_counts first) (in_order zeros ones))) (in_order zeros ones)
