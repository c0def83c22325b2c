-- What the machine's world says of calls is what the lines and steps say.
use Rattle.std.proofs.Common.{◌≡◌, ℕ, Bool, true, false, List, [], ◌∷◌, ◌++◌, Option, Some, None, refl, ap, sym, ◌∙◌, nat_eq}
use Rattle.std.specs.Prelude.{if◌then◌else◌, ◌==◌, ◌||◌}
use Rattle.std.specs.List.{flat_map, list_any, cons_option}
use Rattle.std.specs.Option.{option_map, option_map_or, option_or}
use Rattle.std.proofs.lemmas.Option.{none-some}
use Rattle.std.proofs.lemmas.List.Concat.{flat_map-append}
use Rattle.std.proofs.lemmas.List.{append-nil}
use Rattle.case_forms.specs.declared.trace.Header.{Header}
use Rattle.case_forms.specs.declared.calls.Call.{Call}
use Rattle.case_forms.specs.declared.calls.Call.TheVariants as calls
use Rattle.case_forms.specs.declared.calls.Answer.{Answer}
use Rattle.case_forms.specs.declared.calls.Answer.TheVariants as answers
use Rattle.case_forms.specs.declared.trace.Event.{Event}
use Rattle.case_forms.specs.declared.trace.Event.TheVariants as events
use Rattle.case_forms.specs.declared.trace.Line.{Line}
use Rattle.case_forms.specs.declared.trace.Trace.{Trace}
use Rattle.case_forms.specs.declared.named_line.Extras.{Extras}
use Rattle.case_forms.specs.declared.named_line.Extras.TheVariants.{Bare, One, Two}
use Rattle.case_forms.specs.declared.named_line.NamedLine.{NamedLine}
use Rattle.case_forms.specs.declared.taken_line.Expired.{Expired}
use Rattle.case_forms.specs.declared.taken_line.TakenLine.{TakenLine}
use Rattle.case_forms.specs.declared.taken_line.TakenLine.TheVariants as taken
use Rattle.case_forms.specs.TakenLines.{expired_by, event_taken, taken_of}
use Rattle.case_forms.specs.declared.steps.Label.{Label}
use Rattle.case_forms.specs.declared.steps.Label.TheVariants as labels
use Rattle.case_forms.specs.declared.steps.Step.{Step as WitnessStep}
use Rattle.case_forms.specs.Traces.{line_at}
use Rattle.verdict.specs.Rules.{first_broken}
use Rattle.spec_network.specs.Hosts.{Turn, Idle, Called, Answered, World, Step, Begin, Finish, Effect, At, Stamped, turn_of}
use Rattle.spec_network.specs.HostRules.{effect_rules}
use Rattle.spec_network.specs.HostSteps.{after, effect_after, start, Lawful}
use Rattle.spec_network.proofs.Entries.{turn_insert}
use Rattle.spec_tcp.specs.Machine.{tcp, tcp_shape}
use Rattle.spec_tcp.specs.Steps.{step_of, label_step}
use Rattle.spec_tcp_laws.specs.Runs.{of_turn, of_effect, call_told, call_told_end, told_from, told_end_from, told_to, was_told_end}
use Rattle.checker.specs.Seen.{stamped}
use Rattle.checker.specs.Headline.{CallDone, begun, begins, last_begun, does, done_from, bytes_told, told, is_told_end, told_end}

-- 1. the calls that had their effect in a run

abbrev pub one_done : Call → Answer → List CallDone
one_done call answer = record { call = call; answer = answer } ∷ []

abbrev pub run_done : Header → World tcp_shape → List (Stamped tcp_shape) → List CallDone
run_done h w [] = []
run_done h w (x ∷ xs) = of_effect h w x.step [] one_done ++ run_done h (after (tcp h) x.moment w x.step) xs

-- the call that is open in the world is the last that was begun
abbrev pub Opens : Trace → World tcp_shape → List WitnessStep → Type 0
Opens t w earlier = (thread : ℕ) (call : Call) → turn_of thread w.threads ≡ Called call → last_begun t thread earlier ≡ Some call

-- 2. what reads were told

told_done : (h : Header) (w : World tcp_shape) (socket : ℕ) (step : Step tcp_shape)
    → of_effect h w step [] (λ call answer. call_told call answer socket)
    ≡ flat_map (λ d. bytes_told socket d.call d.answer) (of_effect h w step [] one_done)
told_done h w socket (Begin line t call) = refl
told_done h w socket (Finish line t answer) = refl
told_done h w socket (At host d) = refl
told_done h w socket (Effect t answer) = go (turn_of t w.threads)
  where
    by : (call : Call) (answer : Answer) → call_told call answer socket ≡ bytes_told socket call answer ++ []
    by (calls.Recv n most) (answers.Bytes bytes) = sym (append-nil _)
    by call answer = refl

    go : (u : Turn tcp_shape)
        → of_turn u [] (λ call. call_told call answer socket)
        ≡ flat_map (λ d. bytes_told socket d.call d.answer) (of_turn u [] (λ call. one_done call answer))
    go Idle = refl
    go (Called call) = by call answer
    go (Answered x) = refl

pub told_run : (h : Header) (w : World tcp_shape) (xs : List (Stamped tcp_shape)) (socket : ℕ)
    → told_from h socket w xs ≡ flat_map (λ d. bytes_told socket d.call d.answer) (run_done h w xs)
told_run h w [] socket = refl
told_run h w (x ∷ xs) socket =
    let v = after (tcp h) x.moment w x.step in
    ap (λ (l : List ℕ). l ++ told_from h socket v xs) (told_done h w socket x.step)
    ∙ ap (λ (l : List ℕ). flat_map (λ d. bytes_told socket d.call d.answer) (of_effect h w x.step [] one_done) ++ l) (told_run h v xs socket)
    ∙ sym (flat_map-append (λ d. bytes_told socket d.call d.answer) (of_effect h w x.step [] one_done) (run_done h v xs))

-- 3. the text's calls are the run's

abbrev in_call : Call → Turn tcp_shape
in_call call = Called call

same_call : (a b : Call) → in_call a ≡ in_call b → a ≡ b
same_call a b e = ap (λ (u : Turn tcp_shape). of_turn u a (λ c. c)) e

-- what the call of a thread is after a step: one that it began there, or the one before
abbrev Last : (ℕ → Option Call) → (ℕ → Option Call) → World tcp_shape → Header → Type 0
Last now before w h = (thread : ℕ) (call : Call) → turn_of thread w.threads ≡ Called call → option_or (now thread) (before thread) ≡ Some call

-- a call that begins
last_begin : (h : Header) (w : World tcp_shape) (before : ℕ → Option Call) (thread : ℕ) (began : Call)
    → ((other : ℕ) (call : Call) → turn_of other w.threads ≡ Called call → before other ≡ Some call)
    → (other : ℕ) (call : Call) → (if nat_eq other thread then in_call began else turn_of other w.threads) ≡ Called call
    → option_or (if other == thread then Some began else None) (before other) ≡ Some call
last_begin h w before thread began old other call is = go (nat_eq other thread) refl is
  where
    go : (b : Bool) → nat_eq other thread ≡ b → (if b then in_call began else turn_of other w.threads) ≡ Called call
        → option_or (if b then Some began else None) (before other) ≡ Some call
    go true same is = ap (λ (c : Call). Some c) (same_call began call is)
    go false differ is = old other call is

-- a turn that is no call that is open
last_other : (h : Header) (w : World tcp_shape) (before : ℕ → Option Call) (thread : ℕ) (u : Turn tcp_shape)
    → ((call : Call) → u ≡ Called call → ⊥)
    → ((other : ℕ) (call : Call) → turn_of other w.threads ≡ Called call → before other ≡ Some call)
    → (other : ℕ) (call : Call) → (if nat_eq other thread then u else turn_of other w.threads) ≡ Called call → before other ≡ Some call
last_other h w before thread u not' old other call is = go (nat_eq other thread) is
  where
    go : (b : Bool) → (if b then u else turn_of other w.threads) ≡ Called call → before other ≡ Some call
    go true is = absurd (not' call is)
    go false is = old other call is

abbrev stamp : ℕ → Step tcp_shape → Stamped tcp_shape
stamp moment step = record { moment = moment; step = step }

-- what is left to be shown behind a step
abbrev Then : Header → List (Stamped tcp_shape) → List CallDone → (ℕ → Option Call) → (ℕ → Option Call) → Type 0
Then h rest d before now = (v : World tcp_shape) → Last now before v h → Lawful (tcp h) v rest → d ≡ run_done h v rest

-- the call that a line begins in a thread, as the machine takes it
abbrev begun_by : ℕ → TakenLine → Option Call
begun_by thread (taken.CallBegin line other call) = if thread == other then Some call else None
begun_by thread line = None

abbrev no_call : Option Call
no_call = None

none_where : (b : Bool) → (if b then no_call else None) ≡ None
none_where true = refl
none_where false = refl

begun_event : (q number thread : ℕ) (e : Event) (x : Extras)
    → (if q == thread then begun e x else None) ≡ option_map_or (begun_by q) (event_taken number thread e x) None
begun_event q number thread (events.CallBegin call) Bare = refl
begun_event q number thread (events.CallBegin call) (One a) = none_where (q == thread)
begun_event q number thread (events.CallBegin call) (Two a b) = none_where (q == thread)
begun_event q number thread (events.CallEnd answer) Bare = none_where (q == thread)
begun_event q number thread (events.CallEnd answer) (One a) = none_where (q == thread)
begun_event q number thread (events.CallEnd answer) (Two a b) = none_where (q == thread)
begun_event q number thread (events.Sent host wire) Bare = none_where (q == thread)
begun_event q number thread (events.Sent host wire) (One a) = none_where (q == thread)
begun_event q number thread (events.Sent host wire) (Two a b) = none_where (q == thread)
begun_event q number thread (events.Came host wire) Bare = none_where (q == thread)
begun_event q number thread (events.Came host wire) (One a) = none_where (q == thread)
begun_event q number thread (events.Came host wire) (Two a b) = none_where (q == thread)
begun_event q number thread (events.Expired host lport rport timer) x = go (expired_by timer x)
  where
    go : (o : Option Expired)
        → (if q == thread then no_call else None)
        ≡ option_map_or (begun_by q) (option_map
        (λ e. taken.Expired number host (record { lport = lport; rport = rport }) e) o) None
    go None = none_where (q == thread)
    go (Some e) = none_where (q == thread)

begins_found : (q : ℕ) (x : Extras) (o : Option Line)
    → option_map_or (λ line. if q == line.thread then begun line.event x else None) o None
    ≡ option_map_or (begun_by q) (option_map_or (taken_of x) o None) None
begins_found q x None = refl
begins_found q x (Some line) = begun_event q line.number line.thread line.event x

-- the machine's steps with that of a line before them, if one is taken
abbrev with_taken : ℕ → Option TakenLine → List (Stamped tcp_shape) → List (Stamped tcp_shape)
with_taken moment o rest = cons_option (option_map (stamp moment) (option_map step_of (option_map (λ (line : TakenLine). labels.L line) o))) rest

pub done_run : (t : Trace) (w : World tcp_shape) (earlier steps : List WitnessStep) → Opens t w earlier
    → Lawful (tcp t.header) w (stamped t.header t.lines steps)
    → done_from t earlier steps ≡ run_done t.header w (stamped t.header t.lines steps)
done_run t w earlier [] open' may = refl
done_run t w earlier (s ∷ steps) open' may = by_label s.label may (λ v o m. done_run t v (s ∷ earlier) steps o m)
  where
    rest : List (Stamped tcp_shape)
    rest = stamped t.header t.lines steps

    begun_before : ℕ → Option Call
    begun_before thread = last_begun t thread earlier

    by_taken : (o : Option TakenLine) → Lawful (tcp t.header) w (with_taken s.moment o rest)
        → Then t.header rest (done_from t (s ∷ earlier) steps) begun_before (λ q. option_map_or (begun_by q) o None)
        → done_from t (s ∷ earlier) steps ≡ run_done t.header w (with_taken s.moment o rest)
    by_taken None may onward = onward w open' may
    by_taken (Some (taken.CallBegin line thread call)) may onward = onward (after (tcp t.header) s.moment w (Begin line thread call))
        (λ other c is. last_begin t.header w begun_before thread call open' other c
        (sym (turn_insert (tcp t.header) other thread (Called call) w.threads) ∙ is)) may.1
    by_taken (Some (taken.CallEnd line thread answer)) may onward = onward (after (tcp t.header) s.moment w (Finish line thread answer))
        (λ other c is. last_other t.header w begun_before thread Idle (λ call no. absurd cc) open' other c
        (sym (turn_insert (tcp t.header) other thread Idle w.threads) ∙ is)) may.1
    by_taken (Some (taken.Sent line host made wire)) may onward = onward _ open' may.1
    by_taken (Some (taken.Came line host copied wire)) may onward = onward _ open' may.1
    by_taken (Some (taken.Heard line host wire)) may onward = onward _ open' may.1
    by_taken (Some (taken.Expired line host ports e)) may onward = onward _ open' may.1

    by_line : (named : NamedLine)
        → Lawful (tcp t.header) w (with_taken s.moment
        (option_map_or (taken_of named.extras) (line_at t.header t.lines named.number) None) rest)
        → Then t.header rest (done_from t (s ∷ earlier) steps) begun_before (λ thread. begins t thread (labels.L named))
        → done_from t (s ∷ earlier) steps
        ≡ run_done t.header w (with_taken s.moment
        (option_map_or (taken_of named.extras) (line_at t.header t.lines named.number) None) rest)
    by_line named may onward = by_taken (option_map_or (taken_of named.extras) (line_at t.header t.lines named.number) None) may
        (λ v last m. onward v (λ q c is.
        ap (λ (o : Option Call). option_or o (begun_before q))
        (begins_found q named.extras (line_at t.header t.lines named.number)) ∙ last q c is) m)

    by_turn : (thread : ℕ) (answer : Answer) (u : Turn tcp_shape) → turn_of thread w.threads ≡ u
        → first_broken (effect_rules (tcp t.header) s.moment w.hosts u answer) ≡ None
        → Lawful (tcp t.header) (effect_after (tcp t.header) s.moment w thread answer u) rest
        → Then t.header rest (done_from t (s ∷ earlier) steps) begun_before (λ other. None)
        → option_map_or (λ call. one_done call answer) (last_begun t thread earlier) []
        ++ done_from t (s ∷ earlier) steps
        ≡ of_turn u [] (λ call. one_done call answer)
        ++ run_done t.header (effect_after (tcp t.header) s.moment w thread answer u) rest
    by_turn thread answer Idle is may lawful onward = absurd (none-some _ (sym may))
    by_turn thread answer (Answered given) is may lawful onward = absurd (none-some _ (sym may))
    by_turn thread answer (Called call) is may lawful onward =
        ap (λ (o : Option Call). option_map_or (λ c. one_done c answer) o [] ++ done_from t (s ∷ earlier) steps) (open' thread call is)
        ∙ ap (λ (l : List CallDone). one_done call answer ++ l) (onward (effect_after (tcp t.header) s.moment w thread answer (Called call))
        (λ other c now. last_other t.header w begun_before thread (Answered answer) (λ x no. absurd cc) open' other c
        (sym (turn_insert (tcp t.header) other thread (Answered answer) w.threads) ∙ now)) lawful)

    by_label : (l : Label NamedLine)
        → Lawful (tcp t.header) w (cons_option
        (option_map (stamp s.moment) (label_step (line_at t.header t.lines) l)) rest)
        → Then t.header rest (done_from t (s ∷ earlier) steps) begun_before (λ thread. begins t thread l)
        → does t earlier l ++ done_from t (s ∷ earlier) steps
        ≡ run_done t.header w (cons_option (option_map (stamp s.moment) (label_step (line_at t.header t.lines) l)) rest)
    by_label (labels.L named) may onward = by_line named may onward
    by_label (labels.D thread answer) may onward = by_turn thread answer (turn_of thread w.threads) refl may.0 may.1 onward
    by_label (labels.M host plan) may onward = onward _ open' may.1
    by_label (labels.T host line choice) may onward = onward _ open' may.1
    by_label (labels.K host line) may onward = onward _ open' may.1
    by_label (labels.R host line) may onward = onward _ open' may.1
    by_label (labels.F host recovery) may onward = onward _ open' may.1

pub opens_start : (t : Trace) → Opens t (start (tcp t.header)) []
opens_start t thread call is = absurd cc

-- the text's bytes that reads were told are the world's
pub told_is : (t : Trace) (steps : List WitnessStep) (socket : ℕ)
    → Lawful (tcp t.header) (start (tcp t.header)) (stamped t.header t.lines steps)
    → told_to t.header socket (stamped t.header t.lines steps) ≡ told t steps socket
told_is t steps socket may = told_run t.header (start (tcp t.header)) (stamped t.header t.lines steps) socket
    ∙ ap (λ (l : List CallDone). flat_map (λ e. bytes_told socket e.call e.answer) l) (sym (done_run t (start (tcp t.header)) [] steps (opens_start t) may))

-- 4. the end

pub any_append : (f : CallDone → Bool) (xs ys : List CallDone) → (list_any f xs || list_any f ys) ≡ list_any f (xs ++ ys)
any_append f [] ys = refl
any_append f (x ∷ xs) ys = go (f x) (any_append f xs ys)
  where
    go : (b : Bool) → (list_any f xs || list_any f ys) ≡ list_any f (xs ++ ys) → ((b || list_any f xs) || list_any f ys) ≡ (b || list_any f (xs ++ ys))
    go true e = refl
    go false e = e

pub or_nothing : (b : Bool) → b ≡ (b || false)
or_nothing true = refl
or_nothing false = refl

end_done : (h : Header) (w : World tcp_shape) (socket : ℕ) (step : Step tcp_shape)
    → of_effect h w step false (λ call answer. call_told_end call answer socket)
    ≡ list_any (λ d. is_told_end socket d.call d.answer) (of_effect h w step [] one_done)
end_done h w socket (Begin line t call) = refl
end_done h w socket (Finish line t answer) = refl
end_done h w socket (At host d) = refl
end_done h w socket (Effect t answer) = go (turn_of t w.threads)
  where
    by : (call : Call) (answer : Answer) → call_told_end call answer socket ≡ (is_told_end socket call answer || false)
    by (calls.Recv n most) answers.Eof = or_nothing (n == socket)
    by call answer = refl

    go : (u : Turn tcp_shape)
        → of_turn u false (λ call. call_told_end call answer socket)
        ≡ list_any (λ d. is_told_end socket d.call d.answer) (of_turn u [] (λ call. one_done call answer))
    go Idle = refl
    go (Called call) = by call answer
    go (Answered x) = refl

pub end_run : (h : Header) (w : World tcp_shape) (xs : List (Stamped tcp_shape)) (socket : ℕ)
    → told_end_from h socket w xs ≡ list_any (λ d. is_told_end socket d.call d.answer) (run_done h w xs)
end_run h w [] socket = refl
end_run h w (x ∷ xs) socket =
    let v = after (tcp h) x.moment w x.step in
    ap (λ (b : Bool). b || told_end_from h socket v xs) (end_done h w socket x.step)
    ∙ ap (λ (b : Bool). list_any (λ d. is_told_end socket d.call d.answer) (of_effect h w x.step [] one_done) || b) (end_run h v xs socket)
    ∙ any_append (λ d. is_told_end socket d.call d.answer) (of_effect h w x.step [] one_done) (run_done h v xs)

pub told_end_is : (t : Trace) (steps : List WitnessStep) (socket : ℕ)
    → Lawful (tcp t.header) (start (tcp t.header)) (stamped t.header t.lines steps)
    → was_told_end t.header socket (stamped t.header t.lines steps) ≡ told_end t steps socket
told_end_is t steps socket may = end_run t.header (start (tcp t.header)) (stamped t.header t.lines steps) socket
    ∙ ap (λ (l : List CallDone). list_any (λ d. is_told_end socket d.call d.answer) l) (sym (done_run t (start (tcp t.header)) [] steps (opens_start t) may))
